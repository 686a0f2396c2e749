-- The summaries: the bitwise OR of the magnitudes over DESC(i) and GRAND(i). They tell what is split.
use Prim.Native.Nat.{ℕ, zero, suc, ◌+◌, ◌*◌, ◌^◌}
use mathlib.Core.Path.{◌≡◌, refl, sym, ◌∙◌}
use mathlib.Core.Bool.{Bool, true, false, ◌||◌, cond}
use native.Mathlib.Omega.{arith}
use borrow.Author.Tests.{lt-ltb, le-ltb, ltb-true, ltb-false}
use lib.Dec.{ltb, leb}
use lib.Bits.{bit_or}
use Rattle.bits.specs.Bits.{bit}
use Rattle.bits.proofs.Laws.{or_reaches, zero_below}
use Rattle.nls.proofs.Counting.Sums.{sum}
use Rattle.nls.proofs.Counting.Tree.{Size, I, tree, within, desc, grand}
use Rattle.nls.proofs.Counting.Parts.{ι, big, split_desc, split_grand, top_bit}

-- f a | f (a + 1) | .. , n terms
unfoldable pub join : ℕ → ℕ → (ℕ → ℕ) → ℕ
join a zero f = zero
join a (suc n) f = bit_or (f a) (join (suc a) n f)

unfoldable pub or_tree : ℕ → (ℕ → ℕ) → ℕ → ℕ
or_tree zero g i = 0
or_tree (suc d) g i = join (4 * i) 4 (λ c. bit_or (g c) (or_tree d g c))

unfoldable pub or_desc : Size → (ℕ → ℕ) → ℕ → ℕ
or_desc z g i = or_tree z.deep (within z g) i

unfoldable pub or_grand : Size → (ℕ → ℕ) → ℕ → ℕ
or_grand z g i = join (4 * i) 4 (λ c. or_desc z g c)

pos_add : (x y : ℕ) → ltb 0 (x + y) ≡ (ltb 0 x || ltb 0 y)
pos_add x y = tell (ltb 0 x) (ltb 0 y) refl refl
  where
    tell : (s t : Bool) → ltb 0 x ≡ s → ltb 0 y ≡ t → ltb 0 (x + y) ≡ (ltb 0 x || ltb 0 y)
    tell true t p q = rw p (lt-ltb 0 (x + y) (omega (arith, ltb-true 0 x p)))
    tell false true p q = rw (p, q) (lt-ltb 0 (x + y) (omega (arith, ltb-true 0 y q)))
    tell false false p q = rw (p, q) (le-ltb 0 (x + y) (omega (arith, ltb-false 0 x p, ltb-false 0 y q)))

join_big : (n a k : ℕ) (f h : ℕ → ℕ) → ((c : ℕ) → leb (2 ^ n) (f c) ≡ ltb 0 (h c)) → leb (2 ^ n) (join a k f) ≡ ltb 0 (sum a k h)
unfolding join sum
join_big n a zero f h e = zero_below n
join_big n a (suc k) f h e = or_reaches n (f a) (join (suc a) k f) ∙ rw (e a, join_big n (suc a) k f h e) (sym (pos_add (h a) (sum (suc a) k h)))

tree_big : (n d : ℕ) (g h : ℕ → ℕ) → ((c : ℕ) → leb (2 ^ n) (g c) ≡ ltb 0 (h c)) → (i : ℕ) → leb (2 ^ n) (or_tree d g i) ≡ ltb 0 (tree d h i)
unfolding or_tree tree
tree_big n zero g h e i = zero_below n
tree_big n (suc d) g h e i =
    join_big n (4 * i) 4 (λ c. bit_or (g c) (or_tree d g c)) (λ c. h c + tree d h c)
    (λ c. or_reaches n (g c) (or_tree d g c) ∙ rw (e c, tree_big n d g h e c) (sym (pos_add (h c) (tree d h c))))

module _ (z : Size) (mag : ℕ → ℕ) where
  within_big : (n c : ℕ) → leb (2 ^ n) (within z mag c) ≡ ltb 0 (within z (λ k. ι (big mag n k)) c)
  unfolding within big
  within_big n c = tell (ltb c (I z)) (leb (2 ^ n) (mag c)) refl
    where
      tell : (t s : Bool) → leb (2 ^ n) (mag c) ≡ s → leb (2 ^ n) (cond t (mag c) 0) ≡ ltb 0 (cond t (ι (leb (2 ^ n) (mag c))) 0)
      tell true true e = rw e
      tell true false e = rw e
      tell false s e = zero_below n

  pub desc_summary : (n i : ℕ) → leb (2 ^ n) (or_desc z mag i) ≡ split_desc z mag n i
  unfolding or_desc split_desc desc
  desc_summary n i = tree_big n z.deep (within z mag) (within z (λ k. ι (big mag n k))) (within_big n) i

  pub grand_summary : (n i : ℕ) → leb (2 ^ n) (or_grand z mag i) ≡ split_grand z mag n i
  unfolding or_grand split_desc split_grand grand
  grand_summary n i = join_big n (4 * i) 4 (λ c. or_desc z mag c) (λ c. desc z (λ k. ι (big mag n k)) c) (λ c. desc_summary n c)

-- the bit that a test writes
module _ (z : Size) (mag : ℕ → ℕ) where
  unfoldable pub has_desc : ℕ → ℕ → Bool
  has_desc b i = bit (or_desc z mag i) b

  unfoldable pub has_grand : ℕ → ℕ → Bool
  has_grand b i = bit (or_grand z mag i) b

  pub has_desc_is : (b i : ℕ) → split_desc z mag (suc b) i ≡ false → has_desc b i ≡ split_desc z mag b i
  unfolding has_desc
  has_desc_is b i h = top_bit b (or_desc z mag i) (desc_summary z mag (suc b) i ∙ h) ∙ desc_summary z mag b i

  pub has_grand_is : (b i : ℕ) → split_grand z mag (suc b) i ≡ false → has_grand b i ≡ split_grand z mag b i
  unfolding has_grand
  has_grand_is b i h = top_bit b (or_grand z mag i) (grand_summary z mag (suc b) i ∙ h) ∙ grand_summary z mag b i
