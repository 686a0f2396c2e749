-- Which sets are not empty.
use mathlib.Core.Path.{◌≡◌, ◌∙◌}
use mathlib.Core.Bool.{◌&&◌}
use mathlib.Core.List.{[], ◌++◌, flat_map}
use Prim.Native.Nat.{ℕ, ◌+◌, ◌*◌, ◌/◌, ◌≤◌, ◌<◌}
use native.Mathlib.Decide.{dec_lt}
use native.Mathlib.Omega.{arith}
use borrow.Author.Tests.{lt-ltb, le-ltb, le-leb, lt-leb}
use lib.Dec.{leb, ltb}
use lib.ListN.{length, length-append}
use Rattle.sizes.specs.Sizes.{all_of, coarsest_of, Sized}
use Rattle.sizes.proofs.Laws.{all_sixteen}
use Rattle.tree.specs.Tree.{fours, desc, grand}
use Rattle.tree.proofs.Laws.{children_some, desc_is, desc_low, desc_high, grand_low, grand_high}
use Rattle.nls.specs.Parts.{not_empty}

module _ (N L : ℕ) (z : Sized N L) where
  desc_some : (i : ℕ) → coarsest_of N L / 4 ≤ i → i < all_of N / 4 → 0 < length (desc N L i)
  desc_some i p q =
      let e : desc N L i ≡ fours i ++ grand N L i = desc_is N L z i ∙ rw (children_some N L i p q) in
      rw e (omega (arith, length-append (fours i) (grand N L i)))

  grand_some : (i : ℕ) → coarsest_of N L / 4 ≤ i → i < all_of N / 16 → 0 < length (grand N L i)
  unfolding grand flat_map
  grand_some i p q =
      rw (children_some N L i p (omega (arith, all_sixteen N L z)))
      (omega (
        arith,
        length-append (desc N L (4 * i)) (desc N L (4 * i + 1) ++ (desc N L (4 * i + 2) ++ (desc N L (4 * i + 3) ++ []))),
        desc_some (4 * i) (omega arith) (omega (arith, all_sixteen N L z)),
      ))

  pub desc_range : (i : ℕ) → not_empty (desc N L i) ≡ (leb (coarsest_of N L / 4) i && ltb i (all_of N / 4))
  desc_range i = tell (dec_lt i (coarsest_of N L / 4)) (dec_lt i (all_of N / 4))
    where
      tell : Dec (i < coarsest_of N L / 4) → Dec (i < all_of N / 4) → not_empty (desc N L i) ≡ (leb (coarsest_of N L / 4) i && ltb i (all_of N / 4))
      tell (yes p) q = rw (desc_low N L i p, lt-leb (coarsest_of N L / 4) i p)
      tell (no p) (yes q) = rw (le-leb (coarsest_of N L / 4) i (omega arith), lt-ltb i (all_of N / 4) q, lt-ltb 0 (length (desc N L i)) (desc_some i (omega arith) q))
      tell (no p) (no q) = rw (le-leb (coarsest_of N L / 4) i (omega arith), le-ltb i (all_of N / 4) (omega arith), desc_high N L i (omega arith))

  pub grand_range : (i : ℕ) → not_empty (grand N L i) ≡ (leb (coarsest_of N L / 4) i && ltb i (all_of N / 16))
  grand_range i = tell (dec_lt i (coarsest_of N L / 4)) (dec_lt i (all_of N / 16))
    where
      tell : Dec (i < coarsest_of N L / 4) → Dec (i < all_of N / 16) → not_empty (grand N L i) ≡ (leb (coarsest_of N L / 4) i && ltb i (all_of N / 16))
      tell (yes p) q = rw (grand_low N L i p, lt-leb (coarsest_of N L / 4) i p)
      tell (no p) (yes q) = rw (le-leb (coarsest_of N L / 4) i (omega arith), lt-ltb i (all_of N / 16) q, lt-ltb 0 (length (grand N L i)) (grand_some i (omega arith) q))
      tell (no p) (no q) = rw (le-leb (coarsest_of N L / 4) i (omega arith), le-ltb i (all_of N / 16) (omega arith), grand_high N L z i (omega arith))
