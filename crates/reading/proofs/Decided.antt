-- The contract of each public function decides its outcome: the answer, and what is lent to be written holds afterwards.
use mathlib.Core.Path.{◌≡◌, sym, ◌∙◌}
use mathlib.Core.Bool.{Bool, true, false}
use mathlib.Core.List.{List}
use Prim.Native.Nat.{ℕ, ◌*◌, min}
use lib.IntN.{ℤ}
use lib.ListN.{length}
use Rattle.refusals.proofs.Decided.{OneAnswer, OneOutcome}
use Rattle.reading.specs.Reading.{scan_fits, ScannedBy, Scanned}
use Rattle.reading.specs.declared.Reached.{Reached}
use Rattle.reading.proofs.bars_zero.Reads as bars_zero
use Rattle.reading.proofs.scan.Reads as scan

pub bars_zero_decided : OneAnswer bars_zero.Learnt
bars_zero_decided k args r r' s s' p q = p ∙ sym q

-- two scans of one body, by the test of the sizes
scanned_one : (body : List ℕ) (usable D P : ℕ) (m₀ : List ℕ) (v₀ : List ℤ) (r r' : Reached) (m m' : List ℕ) (v v' : List ℤ)
    → Scanned body usable D P m₀ v₀ r m v → Scanned body usable D P m₀ v₀ r' m' v' → (r ≡ r') × (◌≡◌ {A = List ℕ × List ℤ} (m, v) (m', v'))
scanned_one body usable D P m₀ v₀ r r' m m' v v' = go (min usable (8 * length body)) (scan_fits (length m₀) (length v₀) D P)
  where
    go : (u : ℕ) (t : Bool) → ScannedBy t body u D P m₀ v₀ r m v → ScannedBy t body u D P m₀ v₀ r' m' v' → (r ≡ r') × (◌≡◌ {A = List ℕ × List ℤ} (m, v) (m', v'))
    go u true p q =
        let count = p.count ∙ sym q.count in
        let lefts = p.lefts ∙ sym q.lefts in
        let stands = p.stands ∙ sym q.stands in
        let refuses = p.refuses ∙ sym q.refuses in
        let marked = p.marked ∙ sym q.marked in
        let valued = p.valued ∙ sym q.valued in
        (λ i. record { bits = count i; left = lefts i; stop = stands i; bad = refuses i }, λ i. (marked i, valued i))
    go u false p q =
        let marked = p.1 ∙ sym q.1 in
        let valued = p.2 ∙ sym q.2 in
        (p.0 ∙ sym q.0, λ i. (marked i, valued i))

-- the second and the third parameter are the marks and the values
pub scan_decided : OneOutcome {Lent = List ℕ × List ℤ} scan.Learnt (λ k s. (s.1.0.now, s.1.1.0.now))
scan_decided k args r r' s s' p q =
    scanned_one args.0.now args.1.1.1.1.1.0 args.1.1.1.0 args.1.1.1.1.0 args.1.0.now args.1.1.0.now r r' s.1.0.now s'.1.0.now s.1.1.0.now s'.1.1.0.now p q
