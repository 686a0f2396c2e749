-- What the encoder's scan leaves, from the summaries and the start table on.
use Prim.Native.Nat.{ℕ, ◌+◌, ◌-◌, ◌*◌, ◌/◌, ◌≤◌, min}
use mathlib.Core.Path.{◌≡◌, sym, ap, ◌∙◌}
use mathlib.Core.List.{List, [], ◌++◌, append-nil}
use native.Mathlib.Omega.{arith}
use lib.IntN.{ℤ}
use lib.ListN.{length, get_or, take, drop, length-take, length-drop}
use lib.Seq.{take_all, drop-drop, drop-length}
use Rattle.refusals.specs.Checks.{first_failing, lent_after, Outcome}
use Rattle.refusals.proofs.Laws.{lent_done}
use Rattle.sizes.specs.Sizes.{most_planes, all_of, coarsest_of, Sized}
use Rattle.sizes.proofs.Laws.{side_least, side_most, sized, coarsest_least, all_sixteen}
use Rattle.sizes.proofs.Tables.{table_front}
use Rattle.bits.specs.Bits.{bytes_for, packed}
use Rattle.coef.specs.Coef.{planes_of}
use Rattle.coef.proofs.Laws.{first_all, planes_most, planes_of_lem}
use Rattle.tree.specs.Summaries.{desc_or, grand_or, desc_table, grand_table, fill_checks}
use Rattle.tree.proofs.Checks.{fill_well}
use Rattle.nls.specs.Marks.{start_marks}
use Rattle.nls.specs.Stream.{stream, worst_body}
use Rattle.room.specs.Ready.{EncodeReady}
use Rattle.walk.specs.Scans.{Ran, last, planes}
use Rattle.walk.specs.Visits.{Sv, scan_of}
use Rattle.encoder.specs.Writing.{Bytes, writer, st, Summed, Holds}
use Rattle.encoder.specs.Body.{sent_bits, sent_marks, write_answer, Loan, write_outcome, lent_to, Writes, WriteAnswer}
use Rattle.encoder.proofs.Sent.{Says, sends}

-- bits under a budget
pub sent_most : (N L : ℕ) (A : List ℤ) (budget : ℕ) → length (sent_bits N L A budget) ≤ budget
sent_most N L A budget = omega (arith, length-take budget (stream N L (planes_of A) A))

module _ (N L : ℕ) (A : List ℤ) (descs grands outs budget : ℕ) (ready : EncodeReady N L A descs grands outs budget) where
  z : Sized N L
  z = sized N L ready.levels

  -- the array has no more planes than there may be
  pub planes_near : planes_of A ≤ most_planes
  planes_near = planes_most (planes_of_lem A) (first_all A ready.limited)

  -- the summaries are filled
  pub filled : {r : Outcome} (own held now : List ℕ) → r ≡ first_failing (fill_checks N L (length A) descs grands) → now ≡ lent_after r own held → now ≡ own ++ drop (length own) held
  filled {r} own held now is e =
      let done = fill_well N L A descs grands (record { side = ready.side; levels = ready.levels; whole = ready.whole; desc_room = ready.desc_room; grand_room = ready.grand_room }) in
      e ∙ lent_done r own held (is ∙ done)

  -- the bytes have room for every bit under the cap
  pub room_so : (cap : ℕ) → cap ≡ min budget (worst_body N L (planes_of A)) → cap ≤ 8 * outs
  room_so cap ek = omega (arith, ek, ready.out_room)

  pub tables_so : (all : ℕ) (d g : List ℕ) → all ≡ all_of N → length d ≡ descs → length g ≡ grands → Summed d g all
  tables_so all d g ea ed eg =
      record { descs = omega (arith, ea, ed, ready.desc_room, all_sixteen N L z); grands = omega (arith, ea, eg, ready.grand_room, all_sixteen N L z) }

  module _ (d₀ g₀ d g : List ℕ) (ed : d ≡ desc_table N L A ++ drop (length (desc_table N L A)) d₀) (eg : g ≡ grand_table N L A ++ drop (length (grand_table N L A)) g₀) where
    says : Says N L A d g
    says =
        record {
          descs = λ j h. ap (λ (l : List ℕ). get_or l j 0) ed ∙ table_front (all_of N / 4) (λ i. desc_or N L A i) _ j 0 (omega (arith, all_sixteen N L z));
          grands = λ j h. ap (λ (l : List ℕ). get_or l j 0) eg ∙ table_front (all_of N / 16) (λ i. grand_or N L A i) _ j 0 (omega (arith, all_sixteen N L z));
        }

    module _ (m₀ out₀ m out : List ℕ) (n P cap all coarsest : ℕ) (eo : length out₀ ≡ outs) (ep : P ≡ planes_of A) (ea : all ≡ all_of N) (ec : coarsest ≡ coarsest_of N L)
        (ek : cap ≡ min budget (worst_body N L (planes_of A))) (em : m₀ ≡ start_marks all coarsest) where
      -- the bits, the marks and the bytes are those of the stream, cut at the budget
      pub written : Holds (planes (scan_of (writer A d g cap) all) P (st m₀ out₀ 0)) n m out
          → (n ≡ length (sent_bits N L A budget)) × (m ≡ sent_marks N L A budget) × (out ≡ packed (sent_bits N L A budget) ++ drop (bytes_for (length (sent_bits N L A budget))) out₀)
      written h =
          let begun : m₀ ≡ start_marks (all_of N) (coarsest_of N L) = em ∙ rw (ea, ec) in
          let same : planes (scan_of (writer A d g cap) all) P (st m₀ out₀ 0) ≡ planes (scan_of (writer A d g cap) (all_of N)) (planes_of A) (st (start_marks (all_of N) (coarsest_of N L)) out₀ 0) = rw (ea, ep, begun) in
          let p =
          sends N L (planes_of A) A d g says cap out₀ (omega (arith, ek, eo, ready.out_room)) z (planes_of_lem A) budget ek
          (omega (arith, side_least N ready.side)) (side_most N ready.side) (coarsest_least N L z) in (
            h.count ∙ ap (λ (x : Ran (Sv Bytes)). (last x).rest.n) same ∙ p.count,
            h.marked ∙ ap (λ (x : Ran (Sv Bytes)). (last x).marks) same ∙ p.marked,
            h.wrote ∙ ap (λ (x : Ran (Sv Bytes)). (last x).rest.out) same ∙ p.wrote,
          )

-- the lent parts put back into the wholes
pub marks_back : (all : ℕ) (own part held : List ℕ) → part ≡ own → length own ≡ all → part ++ drop all held ≡ own ++ drop (length own) held
marks_back all own part held e l = rw (e, l)

pub output_back : (offset n : ℕ) (own part held : List ℕ) → offset ≤ length held → n ≡ length own → part ≡ own ++ drop n (take (length held - offset) (drop offset held))
    → take offset held ++ (part ++ drop (length held - offset) (drop offset held)) ≡ take offset held ++ (own ++ drop (offset + length own) held)
output_back offset n own part held h l e =
    let rest : take (length held - offset) (drop offset held) ≡ drop offset held = take_all (length held - offset) (drop offset held) (omega (arith, length-drop offset held)) in
    let none : drop (length held - offset) (drop offset held) ≡ [] = ap (λ (k : ℕ). drop k (drop offset held)) (sym (length-drop offset held)) ∙ drop-length (drop offset held) in
    let mid : part ≡ own ++ drop (offset + length own) held = e ∙ rw (rest, l) (ap (λ (x : List ℕ). own ++ x) (drop-drop (length own) offset held)) in
    rw (none, mid) (ap (λ (x : List ℕ). take offset held ++ x) (append-nil (own ++ drop (offset + length own) held)))

-- a call, by the outcome of its checks
pub writes_by : (N L : ℕ) (A : List ℤ) (offset budget : ℕ) (held : Loan) {answer : WriteAnswer} {left : Loan} (o : Outcome) → o ≡ write_outcome N L A offset budget held
    → answer ≡ write_answer N L A budget o → left ≡ lent_to o N L A budget offset (packed (sent_bits N L A budget)) held → Writes N L A offset budget held answer left
writes_by N L A offset budget held o e said left =
    record { answered = said ∙ ap (write_answer N L A budget) e; filled = left ∙ ap (λ (x : Outcome). lent_to x N L A budget offset (packed (sent_bits N L A budget)) held) e }
