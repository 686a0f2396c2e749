-- From samples to a file and back (document 02, T-05): transform, encode with no budget cut, decode, restore. The hypotheses are the contracts of the four calls.
use mathlib.Core.Path.{◌≡◌, refl, sym, ap, subst, ◌∙◌}
use mathlib.Core.Bool.{true}
use mathlib.Core.List.{List, ◌++◌}
use Prim.Native.Nat.{ℕ, ◌^◌, ◌≤◌, ◌<◌}
use native.Mathlib.Omega.{arith}
use borrow.Author.Tests.{eqb-true, eq-eqb, le-leb}
use lib.IntN.{ℤ}
use lib.ListN.{length, take, drop}
use lib.Seq.{take_at}
use Rattle.std.specs.Prelude.{Ok}
use Rattle.refusals.specs.Checks.{first_failing, lent_after, Outcome}
use Rattle.refusals.proofs.Laws.{AllHold, passed, all_pass, lent_done}
use Rattle.sizes.specs.Sizes.{all_of}
use Rattle.sizes.proofs.Laws.{sized, both}
use Rattle.coef.specs.Coef.{first_over, planes_of, IsPlanes}
use Rattle.coef.proofs.Laws.{planes_of_lem}
use Rattle.transform.specs.Transform.{coefficients_of, samples_of}
use Rattle.transform.specs.Answers.{first_outside, transform_checks, entry_checks, restore_checks, restored_of, Transforms, Restores, HasCoefficients}
use Rattle.transform.proofs.Ends.{coefficients_length, restored_all}
use Rattle.transform.proofs.Demands.{never_over, planes_most, restored_only}
use Rattle.tree.specs.Summaries.{lent_checks}
use Rattle.nls.specs.Stream.{stream}
use Rattle.nls.specs.Reading.{Between}
use Rattle.room.specs.Room.{room_in, room_checks, write_checks}
use Rattle.encoder.specs.Body.{Loan}
use Rattle.decoder.specs.Body.{Tables}
use Rattle.txp.specs.declared.Encoded.{Encoded}
use Rattle.txp.specs.Calls.{Encodes, Decodes, DecodeAnswer}
use Rattle.txp.proofs.Demands.{given_back_by}

-- The samples S are transformed, which is done: `out` and `work` are what is lent before, `out'` and `work'` after it.
module _ (N L : ℕ) (S out work out' work' : List ℤ) (transforms : Transforms N L S out work (Ok tt) out' work') where
  -- what was checked
  all : AllHold (transform_checks N L S (length out) (length work))
  all = passed (transform_checks N L S (length out) (length work)) (sym transforms.answered)

  levels : L ≤ N
  unfolding AllHold
  levels = omega (arith, (sized N L all.1.0).most)

  inside : first_outside S ≡ length S
  unfolding AllHold
  inside = eqb-true (first_outside S) (length S) all.1.1.1.1.0

  size : length S ≡ all_of N
  unfolding AllHold
  size = eqb-true (length S) (all_of N) all.1.1.0

  -- the first I entries of the output are the coefficients
  pub coefficients_stand : take (all_of N) out' ≡ coefficients_of N L S
  coefficients_stand =
      ap (λ (l : List ℤ). take (all_of N) l) transforms.filled ∙ take_at (coefficients_of N L S) (drop (length (coefficients_of N L S)) out) (all_of N) (coefficients_length N L S)

  -- so encoding them is never refused by 1 to 4: numbers 5 and 6 alone are left to decide. And P is at most 17
  pub never_refused : (descs grands marks bytes offset budget : ℕ) → first_failing (write_checks N L (take (all_of N) out') descs grands marks bytes offset budget)
      ≡ first_failing (lent_checks (all_of N) descs grands ++ room_checks N L (planes_of (take (all_of N) out')) marks bytes offset budget)
  unfolding AllHold first_failing
  never_refused descs grands marks bytes offset budget =
      let C = coefficients_of N L S in
      rw (coefficients_stand, all.0, all.1.0, eq-eqb (length C) (all_of N) (coefficients_length N L S), eq-eqb (first_over C) (length C) (never_over N L levels S inside))

  pub planes_few : planes_of (take (all_of N) out') ≤ 17
  planes_few = planes_most N L levels S (planes_of (take (all_of N) out')) inside (subst (λ (C : List ℤ). IsPlanes C (planes_of (take (all_of N) out'))) coefficients_stand (planes_of_lem (take (all_of N) out')))

  -- They are encoded, which is done; the budget cuts nothing. The file is decoded, by `lower` or by `midpoint`, into tables that are long enough, and the values are restored into arrays that are.
  module _ (budget : ℕ) (narrow : budget < 2 ^ 32) (whole : length (stream N L (planes_of (take (all_of N) out')) (take (all_of N) out')) ≤ budget)
      (held left : Loan) (e : Encoded) (encodes : Encodes N L (take (all_of N) out') budget held (Ok e) left)
      (given after : Tables) (answer : DecodeAnswer) (room : room_in (all_of N) (length given.values) (length given.precisions) (length given.marks) ≡ true)
      (rule : ℕ → ℕ → ℕ) (fair : Between rule) (decodes : Decodes rule (take e.bytes left.out) given answer after)
      (to spare to' spare' : List ℤ) (r : Outcome) (to_long : all_of N ≤ length to) (spare_long : all_of N ≤ length spare)
      (restores : Restores N L (take (all_of N) after.values) to spare r to' spare') where
    -- decoding gives the coefficients back
    pub coefficients_back : take (all_of N) after.values ≡ coefficients_of N L S
    coefficients_back =
        let C = take (all_of N) out' in
        let long : length C ≡ all_of N = ap length coefficients_stand ∙ coefficients_length N L S in
        let t = given_back_by N L C budget held left (Ok e) encodes e refl narrow rule given after answer room decodes fair whole in
        ap (λ (x : Tables). take (all_of N) x.values) t.1 ∙ take_at C (drop (all_of N) given.values) (all_of N) long ∙ coefficients_stand

    -- none of 1 to 5 refuses them
    entered : first_failing (entry_checks N L (coefficients_of N L S) (length to) (length spare)) ≡ Ok tt
    unfolding AllHold
    entered =
        let C = coefficients_of N L S in
        all_pass (entry_checks N L C (length to) (length spare))
        (all.0, (all.1.0, (eq-eqb (length C) (all_of N) (coefficients_length N L S), (eq-eqb (first_over C) (length C) (never_over N L levels S inside), (both (le-leb (all_of N) (length to) to_long) (le-leb (all_of N) (length spare) spare_long), tt)))))

    -- nor does 18: restoring them is done, and gives the samples. "Forward then back is exact"
    pub picture_back : (r ≡ Ok tt) × (to' ≡ S ++ drop (all_of N) to)
    picture_back =
        let C = coefficients_of N L S in
        let has : HasCoefficients N L S C = record { size = size; inside = inside; gives = refl } in
        let done = restored_only N L (length to) (length spare) C entered S has in
        let in_range : first_outside (samples_of N L C) ≡ length (samples_of N L C) = subst (λ (l : List ℤ). first_outside l ≡ length l) (sym done.1) inside in (
          restores.answered ∙ ap (λ (l : List ℤ). first_failing (restore_checks N L l (length to) (length spare))) coefficients_back ∙ done.0,
          restores.filled
              ∙ ap (λ (l : List ℤ). lent_after (first_failing (entry_checks N L l (length to) (length spare))) (restored_of N L l) to) coefficients_back
              ∙ lent_done (first_failing (entry_checks N L C (length to) (length spare))) (restored_of N L C) to entered
              ∙ ap (λ (l : List ℤ). l ++ drop (length l) to) (restored_all N L C in_range ∙ done.1)
              ∙ ap (λ (k : ℕ). S ++ drop k to) size,
        )
