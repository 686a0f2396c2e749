-- What the summaries say of a level: an OR is at least 2^b exactly if some member is.
use mathlib.Core.Path.{◌≡◌, sym, ap, ◌∙◌}
use mathlib.Core.Bool.{Bool, ◌||◌}
use mathlib.Core.List.{List, [], ◌∷◌, map}
use Prim.Native.Nat.{ℕ, ◌/◌, ◌^◌, ◌≤◌, ◌<◌}
use native.Mathlib.Decide.{dec_lt}
use native.Mathlib.Omega.{arith}
use lib.Dec.{leb}
use lib.IntN.{ℤ}
use lib.ListN.{get_or, get_or-eq_default}
use Rattle.sizes.specs.Sizes.{all_of, Sized}
use Rattle.sizes.proofs.Tables.{table_length, table_at}
use Rattle.bits.specs.Bits.{or_all}
use Rattle.bits.proofs.Laws.{or_reaches, zero_below}
use Rattle.coef.specs.Coef.{mag_at}
use Rattle.tree.specs.Tree.{desc, grand, any_in}
use Rattle.tree.specs.Summaries.{desc_or, grand_or, desc_table, grand_table}
use Rattle.tree.proofs.Laws.{desc_high, grand_high}
use Rattle.nls.specs.Parts.{found, desc_split, grand_split}

-- an OR is at least 2^b exactly if some member is
pub all_reaches : (b : ℕ) (f : ℕ → ℕ) (l : List ℕ) → leb (2 ^ b) (or_all (map f l)) ≡ any_in (λ j. leb (2 ^ b) (f j)) l
unfolding or_all any_in
all_reaches b f [] = zero_below b
all_reaches b f (j ∷ l) = or_reaches b (f j) (or_all (map f l)) ∙ ap (λ (t : Bool). leb (2 ^ b) (f j) || t) (all_reaches b f l)

module _ (N L : ℕ) (A : List ℤ) where
  -- a set is split after plane b exactly if its summary is at least 2^b
  pub desc_reaches : (b i : ℕ) → desc_split N L A b i ≡ leb (2 ^ b) (desc_or N L A i)
  unfolding desc_split found desc_or
  desc_reaches b i = sym (all_reaches b (λ j. mag_at A j) (desc N L i))

  pub grand_reaches : (b i : ℕ) → grand_split N L A b i ≡ leb (2 ^ b) (grand_or N L A i)
  unfolding grand_split found grand_or
  grand_reaches b i = sym (all_reaches b (λ j. mag_at A j) (grand N L i))

  -- nothing past the tables
  desc_past : (i : ℕ) → all_of N / 4 ≤ i → desc_or N L A i ≡ 0
  unfolding desc_or or_all
  desc_past i p = rw (desc_high N L i p)

  grand_past : Sized N L → (i : ℕ) → all_of N / 16 ≤ i → grand_or N L A i ≡ 0
  unfolding grand_or or_all
  grand_past z i p = rw (grand_high N L z i p)

  -- so the tables, read with 0 past their ends, hold the summary of every place
  pub desc_held : (i : ℕ) → get_or (desc_table N L A) i 0 ≡ desc_or N L A i
  desc_held i = tell (dec_lt i (all_of N / 4))
    where
      tell : Dec (i < all_of N / 4) → get_or (desc_table N L A) i 0 ≡ desc_or N L A i
      tell (yes p) = table_at (all_of N / 4) (λ k. desc_or N L A k) i 0 p
      tell (no p) =
          get_or-eq_default (desc_table N L A) 0 {n = i} (omega (arith, table_length (all_of N / 4) (λ k. desc_or N L A k)))
          ∙ sym (desc_past i (omega arith))

  pub grand_held : Sized N L → (i : ℕ) → get_or (grand_table N L A) i 0 ≡ grand_or N L A i
  grand_held z i = tell (dec_lt i (all_of N / 16))
    where
      tell : Dec (i < all_of N / 16) → get_or (grand_table N L A) i 0 ≡ grand_or N L A i
      tell (yes p) = table_at (all_of N / 16) (λ k. grand_or N L A k) i 0 p
      tell (no p) =
          get_or-eq_default (grand_table N L A) 0 {n = i} (omega (arith, table_length (all_of N / 16) (λ k. grand_or N L A k)))
          ∙ sym (grand_past z i (omega arith))
