-- What decoding gives can be drawn; and what is drawn passes the checks of the calls that draw it.
use mathlib.Core.Path.{◌≡◌, refl, sym, ap, subst, ◌∙◌}
use mathlib.Core.Bool.{Bool, true}
use mathlib.Core.List.{List, ◌++◌}
use Prim.Native.Nat.{ℕ, suc, ◌*◌, ◌/◌, ◌^◌, ◌≤◌, ◌<◌}
use native.Mathlib.Decide.{dec_lt}
use native.Mathlib.Nat.{pow-succ', pow-le-pow_right, one-le-pow}
use native.Mathlib.Omega.{arith}
use borrow.Author.Tests.{le-leb, lt-ltb, eq-eqb}
use lib.IntN.{ℤ, pos}
use lib.ListN.{length, take, drop, length-append, length-replicate, get_or-eq_default}
use lib.Pow.{pow-add, pow_mono}
use lib.Seq.{take_at}
use Rattle.std.specs.Prelude.{Ok, Err}
use Rattle.refusals.specs.Checks.{first_failing, lent_after, Outcome}
use Rattle.refusals.proofs.Laws.{AllHold, all_pass}
use Rattle.sizes.specs.Sizes.{all_of, limit, most_planes}
use Rattle.sizes.proofs.Laws.{both, four}
use Rattle.sizes.proofs.Tables.{table_length, table_at}
use Rattle.places.specs.Order.{rasterly}
use Rattle.places.specs.Answers.{reorder_checks}
use Rattle.coef.specs.Coef.{at, magnitude, within, first_over}
use Rattle.coef.proofs.Laws.{first_none}
use Rattle.nls.specs.Reading.{last_plane, known, midpoint, value_by, precision_at, values_by, planes_finished, worst_error}
use Rattle.nls.specs.Judging.{Verdict, taken, contradiction, beyond}
use Rattle.nls.proofs.Values.{midpoint_between, value_range}
use Rattle.figures.specs.Figures.{figures_checks}
use Rattle.decoder.specs.Body.{Tables, zeros, own_tables, over}
use Rattle.txp.specs.declared.Header.{Header}
use Rattle.txp.specs.declared.Decoded.{Decoded}
use Rattle.txp.specs.Header.{header_of}
use Rattle.txp.specs.File.{usable_bits, ending_of}
use Rattle.txp.specs.Calls.{decode_checks, decode_answer, DecodesTo, Decodes}
use Rattle.txp.proofs.CallLaws.{decode_passed}
use Rattle.show.specs.Text.{most_shown_n}
use Rattle.show.specs.Putting.{Drawn}

-- ---- from decoding

-- the larger power of 4 has the larger exponent
four_le : (a b : ℕ) → 4 ^ a ≤ 4 ^ b → a ≤ b
four_le a b h = tell (dec_lt b a)
  where
    tell : Dec (b < a) → a ≤ b
    tell (yes l) = absurd (omega (arith, pow-le-pow_right {n = 4} (omega arith) {i = suc b} {j = a} l, pow-succ' 4 b, one-le-pow b 4 (omega arith)))
    tell (no l) = omega arith

-- the values of a stream of at most 24 planes are within the limit
values_limited : (N L P : ℕ) (u : List Bool) → P ≤ most_planes → first_over (values_by N L P u midpoint) ≡ length (values_by N L P u midpoint)
values_limited N L P u few = first_none (values_by N L P u midpoint) (λ i. each i (dec_lt i (all_of N)))
  where
    value : ℕ → ℤ
    value i = value_by midpoint (precision_at N L P u i) (at (known N L P u).bits i)

    each : (i : ℕ) → Dec (i < all_of N) → within (at (values_by N L P u midpoint) i) ≡ true
    each i (yes h) =
        let e : at (values_by N L P u midpoint) i ≡ value i = table_at (all_of N) value i (pos 0) h in
        le-leb (magnitude (at (values_by N L P u midpoint) i)) limit (omega (arith, ap magnitude e, value_range N L P u midpoint midpoint_between i h, pow_mono {i = P} {j = most_planes} few))
    each i (no h) =
        let e : at (values_by N L P u midpoint) i ≡ pos 0 = get_or-eq_default (values_by N L P u midpoint) (pos 0) {n = i} (omega (arith, table_length (all_of N) value)) in
        le-leb (magnitude (at (values_by N L P u midpoint) i)) limit (omega (arith, ap magnitude e))

module _ (file : List ℕ) (held left : Tables) (d : Decoded) (most : length held.values ≤ all_of most_shown_n) where
  abbrev h : Header
  h = header_of file

  abbrev u : List Bool
  u = usable_bits file

  abbrev checks : Outcome
  checks = first_failing (decode_checks file (length held.values) (length held.precisions) (length held.marks))

  -- a picture that can be drawn, of finished planes among its planes, with room in the lent values
  abbrev Can : Decoded → Type 0
  Can x =
      Drawn x.n x.l (take (all_of x.n) left.values) × (x.p ≤ most_planes) × (x.finished ≤ x.p) × (all_of x.n ≤ length held.values)

  by_verdict : checks ≡ Ok tt → (v : Verdict) → Ok d ≡ decode_answer (ending_of file) h u v → left ≡ over (all_of h.n) (own_tables midpoint h.n h.l h.p u v) held → Can d
  by_verdict e taken answered filled =
      let ready = decode_passed file (length held.values) (length held.precisions) (length held.marks) e in
      let mine : Decoded =
      record { n = h.n; l = h.l; p = h.p; declared = h.declared; used = length u; finished = planes_finished h.n h.l h.p u; error = worst_error h.n h.l h.p u; ending = ending_of file (length u) (last_plane h.n h.l h.p u) } in
      let told : Ok d ≡ Ok mine = answered in
      let is : d ≡ mine = cc in
      let own = values_by h.n h.l h.p u midpoint in
      let few : h.p ≤ most_planes = ready.planes in
      let room : all_of h.n ≤ length held.values = ready.values_room in
      let size : length own ≡ all_of h.n = table_length (all_of h.n) _ in
      let first : take (all_of h.n) left.values ≡ own =
      ap (λ (t : Tables). take (all_of h.n) t.values) filled ∙ take_at own (drop (all_of h.n) held.values) (all_of h.n) size in
      subst (λ (x : Decoded). Can x) (sym is) (
        rw first
            (record {
              side = ready.side;
              levels = ready.levels;
              small = four_le h.n most_shown_n (omega (arith, room, most));
              whole = size;
              limited = values_limited h.n h.l h.p u few;
            }),
        few,
        omega arith,
        room,
      )
  by_verdict e (contradiction bit) answered filled = let z : ◌≡◌ {A = ℕ} 0 1 = cc in absurd (omega arith)
  by_verdict e (beyond bit) answered filled = let z : ◌≡◌ {A = ℕ} 0 1 = cc in absurd (omega arith)

  by_outcome : (o : Outcome) → checks ≡ o → DecodesTo o midpoint (ending_of file) h u held (Ok d) left → Can d
  by_outcome (Ok tt) e q = by_verdict e q.verdict q.answered q.filled
  by_outcome (Err why) e q = let f = q.0 in let z : ◌≡◌ {A = ℕ} 0 1 = cc in absurd (omega arith)

  pub drawn : Decodes midpoint file held (Ok d) left → Can d
  drawn q = by_outcome checks refl q

-- ---- to the calls that draw

module _ (N L : ℕ) (A : List ℤ) (w : Drawn N L A) where
  -- the checks of the figures of a plane, and of the change to raster order
  pub figures_checks_lem : (descs grands b : ℕ) → all_of N ≤ 4 * descs → all_of N ≤ 16 * grands → b < most_planes → first_failing (figures_checks N L A descs grands b) ≡ Ok tt
  unfolding AllHold
  figures_checks_lem descs grands b room more h =
      all_pass (figures_checks N L A descs grands b) (
        w.side,
        (
          w.levels,
          (
            eq-eqb (length A) (all_of N) w.whole,
            (
              eq-eqb (first_over A) (length A) w.limited,
              (
                both (le-leb (all_of N / 4) descs (omega arith)) (le-leb (all_of N / 16) grands (omega arith)),
                (lt-ltb b most_planes h, tt),
              ),
            ),
          ),
        ),
      )

  pub raster_checks : (room : ℕ) → all_of N ≤ room → first_failing (reorder_checks N (length A) room) ≡ Ok tt
  unfolding AllHold
  raster_checks room h =
      all_pass (reorder_checks N (length A) room) (w.side, (eq-eqb (length A) (all_of N) w.whole, (le-leb (all_of N) room h, tt)))

  -- what the change to raster order leaves
  module _ (held after : List ℤ) (r : Outcome) (is : r ≡ first_failing (reorder_checks N (length A) (length held))) (left : after ≡ lent_after r (rasterly N A) held) (room : all_of N ≤ length held) where
    after_is : after ≡ rasterly N A ++ drop (length (rasterly N A)) held
    after_is = left ∙ rw (is ∙ raster_checks (length held) room)

    own_length : length (rasterly N A) ≡ length A
    unfolding rasterly
    own_length = table_length (all_of N) _ ∙ sym w.whole

    pub raster_room : length A ≤ length after
    raster_room = omega (arith, ap {B = ℕ} length after_is, length-append (rasterly N A) (drop (length (rasterly N A)) held), own_length)

    pub raster_is : take (length A) after ≡ rasterly N A
    raster_is = rw after_is (take_at (rasterly N A) (drop (length (rasterly N A)) held) (length A) own_length)

-- an array in raster order has the square of the side for its length
pub side_square : (N : ℕ) → 2 ^ N * 2 ^ N ≡ all_of N
side_square N = sym (pow-add 2 N N) ∙ four N

pub raster_length : (N : ℕ) (A : List ℤ) → length (rasterly N A) ≡ all_of N
unfolding rasterly
raster_length N A = table_length (all_of N) _

-- a side that is shown
pub side_shown : (N : ℕ) → N ≤ most_shown_n → (1 ≤ 2 ^ N) × (2 ^ N ≤ 64) × (all_of N ≤ 4096)
side_shown N h = (one-le-pow N 2 (omega arith), pow_mono {i = N} {j = 6} h, pow-le-pow_right {n = 4} (omega arith) {i = N} {j = 6} h)

-- what is decoded into the tables that are shown
pub drawn_own : (file : List ℕ) (left : Tables) (d : Decoded) → Decodes midpoint file (zeros (all_of most_shown_n)) (Ok d) left
    → Drawn d.n d.l (take (all_of d.n) left.values) × (d.p ≤ most_planes) × (d.finished ≤ d.p) × (all_of d.n ≤ 4096)
drawn_own file left d q =
    let size = length-replicate (all_of most_shown_n) (pos 0) in
    let can = drawn file (zeros (all_of most_shown_n)) left d (omega (arith, size)) q in
    (can.0, can.1, can.2, omega (arith, can.3, size))
