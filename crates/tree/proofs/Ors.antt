-- The summaries: what their bits say, and how an entry follows from those past it.
use mathlib.Core.Path.{◌≡◌, sym, ap, ◌∙◌}
use mathlib.Core.Bool.{false}
use mathlib.Core.List.{List, ◌++◌, map, flat_map}
use Prim.Native.Nat.{ℕ, suc, ◌/◌, ◌^◌, ◌≤◌, ◌<◌}
use native.Mathlib.Omega.{arith}
use lib.Bits.{bit_or, or_zero_r}
use lib.Dec.{leb}
use lib.IntN.{ℤ}
use lib.ListN.{get_or}
use Rattle.sizes.specs.Sizes.{all_of, coarsest_of, Sized}
use Rattle.sizes.proofs.Laws.{coarsest_least}
use Rattle.bits.specs.Bits.{bit, or_all}
use Rattle.coef.specs.Coef.{mag_at}
use Rattle.tree.specs.Tree.{fours, desc, grand, any_in}
use Rattle.tree.specs.Summaries.{desc_or, grand_or}
use Rattle.tree.specs.Filling.{children_or, entries_or}
use Rattle.tree.proofs.Lists.{each_four, or_append, or_flat, or_same, all_bit, all_top}
use Rattle.tree.proofs.Laws.{children_some, desc_is, desc_low, grand_low, grand_high}

module _ (N L : ℕ) (A : List ℤ) where
  -- bit b of a summary is set exactly if some member has bit b
  pub desc_bit : (i b : ℕ) → bit (desc_or N L A i) b ≡ any_in (λ j. bit (mag_at A j) b) (desc N L i)
  unfolding desc_or
  desc_bit i b = all_bit (λ j. mag_at A j) (desc N L i) b

  pub grand_bit : (i b : ℕ) → bit (grand_or N L A i) b ≡ any_in (λ j. bit (mag_at A j) b) (grand N L i)
  unfolding grand_or
  grand_bit i b = all_bit (λ j. mag_at A j) (grand N L i) b

  -- where no member is 2^(b+1) or more, bit b says whether some member is 2^b or more
  pub desc_top : (i b : ℕ) → any_in (λ j. leb (2 ^ suc b) (mag_at A j)) (desc N L i) ≡ false
      → bit (desc_or N L A i) b ≡ any_in (λ j. leb (2 ^ b) (mag_at A j)) (desc N L i)
  unfolding desc_or
  desc_top i b h = all_top (λ j. mag_at A j) (desc N L i) b h

  pub grand_top : (i b : ℕ) → any_in (λ j. leb (2 ^ suc b) (mag_at A j)) (grand N L i) ≡ false
      → bit (grand_or N L A i) b ≡ any_in (λ j. leb (2 ^ b) (mag_at A j)) (grand N L i)
  unfolding grand_or
  grand_top i b h = all_top (λ j. mag_at A j) (grand N L i) b h

  -- nothing below D/4
  pub desc_zero : (i : ℕ) → i < coarsest_of N L / 4 → desc_or N L A i ≡ 0
  unfolding desc_or or_all
  desc_zero i p = rw (desc_low N L i p)

  pub grand_zero : (i : ℕ) → i < coarsest_of N L / 4 → grand_or N L A i ≡ 0
  unfolding grand_or or_all
  grand_zero i p = rw (grand_low N L i p)

  -- GRAND is the OR of the children's DESC, and DESC that of the children and GRAND
  pub grand_step : (i : ℕ) → coarsest_of N L / 4 ≤ i → i < all_of N / 4 → grand_or N L A i ≡ or_all (map (λ c. desc_or N L A c) (fours i))
  unfolding grand_or desc_or
  grand_step i p q =
      let e : grand N L i ≡ flat_map (λ c. desc N L c) (fours i) = unfold grand in rw (children_some N L i p q) in
      rw e (or_flat (λ j. mag_at A j) (λ c. desc N L c) (fours i))

  module _ (z : Sized N L) where
    pub desc_step : (i : ℕ) → coarsest_of N L / 4 ≤ i → i < all_of N / 4
        → desc_or N L A i ≡ bit_or (or_all (map (λ j. mag_at A j) (fours i))) (grand_or N L A i)
    unfolding desc_or grand_or
    desc_step i p q =
        let e : desc N L i ≡ fours i ++ grand N L i = desc_is N L z i ∙ rw (children_some N L i p q) in
        rw e (or_append (λ j. mag_at A j) (fours i) (grand N L i))

    -- where the children have none
    pub desc_last : (i : ℕ) → coarsest_of N L / 4 ≤ i → all_of N / 16 ≤ i → i < all_of N / 4 → desc_or N L A i ≡ or_all (map (λ j. mag_at A j) (fours i))
    unfolding grand_or or_all
    desc_last i p r q = desc_step i p q ∙ rw (grand_high N L z i r) (or_zero_r (or_all (map (λ j. mag_at A j) (fours i))))

-- what the code puts at place i, where the entries past it are right
module _ (N L : ℕ) (A : List ℤ) (z : Sized N L) (held : List ℕ) (i : ℕ) (low : coarsest_of N L / 4 ≤ i) (high : i < all_of N / 16)
    (past : (j : ℕ) → i < j → j < all_of N / 4 → get_or held j 0 ≡ desc_or N L A j) where
  pub grand_entry : entries_or held i ≡ grand_or N L A i
  grand_entry =
      or_same (λ j. get_or held j 0) (λ c. desc_or N L A c) (fours i)
      (each_four (λ j. get_or held j 0 ≡ desc_or N L A j) i (λ c p q. past c (omega (arith, coarsest_least N L z)) (omega arith)))
      ∙ sym (grand_step N L A i low (omega arith))

  pub desc_entry : bit_or (children_or A i) (entries_or held i) ≡ desc_or N L A i
  desc_entry = ap (bit_or (children_or A i)) grand_entry ∙ sym (desc_step N L A z i low (omega arith))
