-- The parts of the fill, put together.
use mathlib.Core.Path.{◌≡◌, sym, ap, ◌∙◌}
use mathlib.Core.List.{List, ◌++◌}
use Prim.Native.Nat.{ℕ, ◌/◌, ◌≤◌}
use native.Mathlib.Omega.{arith}
use lib.IntN.{ℤ}
use lib.ListN.{length, take, drop, replicate, length-replicate, get_or-replicate}
use lib.Seq.{length-take-le}
use Rattle.sizes.specs.Sizes.{all_of, coarsest_of, Sized}
use Rattle.sizes.specs.Tables.{table}
use Rattle.sizes.proofs.Laws.{coarsest_all}
use Rattle.sizes.proofs.Tables.{table_is}
use Rattle.tree.specs.Summaries.{desc_or, grand_or, desc_table, grand_table}
use Rattle.tree.specs.Filling.{children_or, children_table, filled_from}
use Rattle.tree.proofs.Filling.{on, filled_same, filled_whole}
use Rattle.tree.proofs.Ors.{desc_last, desc_zero, grand_zero}

-- a table whose first entries are overwritten with zeros
pub zeros_first : (front held : List ℕ) (n : ℕ) → n ≤ length held → front ≡ replicate (length (take n held)) 0 → front ++ drop n held ≡ table n (λ k. 0) ++ drop n held
zeros_first front held n h e =
    let l : length front ≡ n = rw e (length-replicate (length (take n held)) 0) ∙ length-take-le n held h in
    ap (λ (f : List ℕ). f ++ drop n held) (table_is n (λ k. 0) 0 front l (λ i k. rw e (get_or-replicate (length (take n held)) i 0 0 (omega (arith, length-take-le n held h)))))

module _ (N L : ℕ) (A : List ℤ) (z : Sized N L) where
  -- D/4 is I/16 at most
  pub low_most : coarsest_of N L / 4 ≤ all_of N / 16
  low_most = omega (arith, coarsest_all N L z)

  module _ (whole : length A ≡ all_of N) (held : List ℕ) (room : all_of N / 4 ≤ length held) (first : List ℕ)
      (filled : first ≡ filled_from (length A / 16) (children_table A) held) where
    -- the places whose children have none
    last_part : first ≡ filled_from (all_of N / 16) (desc_table N L A) held
    last_part =
        (rw whole at filled)
        ∙ sym
        (filled_same (all_of N / 4) (all_of N / 16) (λ i. desc_or N L A i) (λ i. children_or A i) held (omega arith)
        (λ k p q. desc_last N L A z k (omega (arith, low_most)) p q))

    pub last_fixed : first ≡ filled_from (all_of N / 16) (desc_table N L A) first
    last_fixed =
        last_part
        ∙ sym
        (ap (λ (l : List ℕ). filled_from (all_of N / 16) (desc_table N L A) l) last_part
        ∙ on (all_of N / 4) (λ i. desc_or N L A i) held room (all_of N / 16) (all_of N / 16) (omega arith) (omega arith))

    pub desc_all : (second third : List ℕ) (low : ℕ) → second ≡ filled_from (coarsest_of N L / 4) (desc_table N L A) first
        → low ≡ coarsest_of N L / 4 → third ≡ table low (λ k. 0) ++ drop low second
        → third ≡ filled_from 0 (desc_table N L A) held
    desc_all second third low e f g =
        let h : second ≡ filled_from (coarsest_of N L / 4) (desc_table N L A) held =
        e ∙ ap (λ (l : List ℕ). filled_from (coarsest_of N L / 4) (desc_table N L A) l) last_part
        ∙ on (all_of N / 4) (λ i. desc_or N L A i) held room (all_of N / 16) (coarsest_of N L / 4) low_most (omega arith) in
        g ∙ rw (f, h) (filled_whole (all_of N / 4) (coarsest_of N L / 4) (λ i. desc_or N L A i) held room (omega (arith, low_most)) (λ k j. desc_zero N L A k j))

  pub grand_all : (held second third : List ℕ) (low : ℕ) → all_of N / 16 ≤ length held → second ≡ filled_from (coarsest_of N L / 4) (grand_table N L A) held
      → low ≡ coarsest_of N L / 4 → third ≡ table low (λ k. 0) ++ drop low second
      → third ≡ filled_from 0 (grand_table N L A) held
  grand_all held second third low room e f g =
      g ∙ rw (f, e) (filled_whole (all_of N / 16) (coarsest_of N L / 4) (λ i. grand_or N L A i) held room low_most (λ k h. grand_zero N L A k h))
