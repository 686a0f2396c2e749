-- What is asked where the scan stands, and the values that an answer leaves, as the machine makes them.
use Prim.Native.Nat.{ℕ, suc, ◌+◌, ◌*◌, ◌-◌, ◌/◌, ◌%◌, ◌^◌, ◌≤◌, ◌<◌}
use mathlib.Core.Path.{◌≡◌, refl, sym, ap, ◌∙◌}
use mathlib.Core.Bool.{Bool, true, false}
use mathlib.Core.List.{List}
use native.Mathlib.Nat.{div-mul-le_self}
use native.Mathlib.Omega.{arith}
use borrow.Author.Tests.{lt-ltb, le-ltb, eq-eqb, ne_eqb}
use lib.Dec.{eqb}
use lib.IntN.{ℤ, pos}
use lib.ListN.{length, get_or, set}
use lib.Pow.{pow_mono}
use lib.Seq.{set_out}
use lib.Signed.{nat_abs-le}
use mir.Facts.{to_z-of_z}
use mir.Syntax.{w32}
use mir.Val.{SFits, Fits, of_z, to_z}
use Rattle.sizes.specs.Sizes.{most_planes}
use Rattle.coef.specs.Coef.{at, magnitude, negative}
use Rattle.nls.specs.Marks.{MIP, MNP, MSP, MCP, MD, MG}
use Rattle.nls.specs.Scan.{Pass, pixels, sets, refining, state_at, look_refining, asked, ask}
use Rattle.moves.specs.Stands.{pass_of, stand, state_of}
use Rattle.moves.proofs.Passes.{pass_0, pass_1, pass_2}
use Rattle.reading.proofs.ValueLaws.{level_one}
use Rattle.steps.specs.Moved.{kind_of, asked_in, joined_or0, found_in, finer, coarser, heard, unheard}
use Rattle.steps.specs.declared.Asked.{Asked}
use Rattle.steps.specs.declared.Asked.TheVariants.{Nothing, Sign, Bit, More, Desc, Grand}

-- ---- what is asked

module _ (I i : ℕ) (m : List ℕ) (l p : ℕ) (w : Bool) where
  abbrev pub here : Asked
  here = asked_in I (state_of (stand l p i w) m)

  -- where no plane is left
  pub asked_over : l ≡ 0 → Nothing ≡ here
  unfolding ask
  asked_over e = rw e

  module _ (h : l ≡ 0 → ⊥) where
    some : l ≡ suc (l - 1)
    some = omega (arith, h)

    -- where a sign is pending
    pub asked_sign : w ≡ true → Sign ≡ here
    unfolding ask
    asked_sign e = rw (some, e)

    module _ (e : w ≡ false) where
      -- past the last place
      pub asked_past : I ≤ i → Nothing ≡ here
      unfolding ask
      asked_past o = rw (some, e) (on (pass_of p))
        where
          on : (q : Pass) → Nothing ≡ kind_of q (ask I (state_at (suc (l - 1)) q i m))
          on pixels = rw (le-ltb i I o)
          on sets = rw (le-ltb i I o)
          on refining = rw (le-ltb i I o)

      module _ (o : i < I) where
        -- in the pixel pass
        pub asked_pixel : p ≡ 0 → get_or m i 0 ≡ MIP → Bit ≡ here
        unfolding ask
        asked_pixel q f = rw (some, e, pass_0 p q, lt-ltb i I o, eq-eqb (get_or m i 0) MIP f)

        pub asked_pixel_none : p ≡ 0 → (get_or m i 0 ≡ MIP → ⊥) → Nothing ≡ here
        unfolding ask
        asked_pixel_none q f = rw (some, e, pass_0 p q, lt-ltb i I o, ne_eqb (get_or m i 0) MIP f)

        -- in the set pass
        pub asked_desc : p ≡ 1 → get_or m i 0 ≡ MD → Desc ≡ here
        unfolding ask
        asked_desc q f = rw (some, e, pass_1 p q, lt-ltb i I o, eq-eqb (get_or m i 0) MD f)

        pub asked_grand : p ≡ 1 → (get_or m i 0 ≡ MD → ⊥) → get_or m i 0 ≡ MG → Grand ≡ here
        unfolding ask
        asked_grand q d f = rw (some, e, pass_1 p q, lt-ltb i I o, ne_eqb (get_or m i 0) MD d, eq-eqb (get_or m i 0) MG f)

        pub asked_child : p ≡ 1 → (get_or m i 0 ≡ MD → ⊥) → (get_or m i 0 ≡ MG → ⊥) → get_or m i 0 ≡ MCP → Bit ≡ here
        unfolding ask
        asked_child q d g f =
            rw (some, e, pass_1 p q, lt-ltb i I o, ne_eqb (get_or m i 0) MD d, ne_eqb (get_or m i 0) MG g, eq-eqb (get_or m i 0) MCP f)

        pub asked_set_none : p ≡ 1 → (get_or m i 0 ≡ MD → ⊥) → (get_or m i 0 ≡ MG → ⊥) → (get_or m i 0 ≡ MCP → ⊥) → Nothing ≡ here
        unfolding ask
        asked_set_none q d g f =
            rw (some, e, pass_1 p q, lt-ltb i I o, ne_eqb (get_or m i 0) MD d, ne_eqb (get_or m i 0) MG g, ne_eqb (get_or m i 0) MCP f)

        -- in the refinement pass, where a coefficient found in this plane is passed over
        pub asked_more : (p ≡ 0 → ⊥) → (p ≡ 1 → ⊥) → get_or m i 0 ≡ MSP → More ≡ here
        unfolding ask
        asked_more q k f = rw (some, e, pass_2 p q k, lt-ltb i I o, eq-eqb (get_or m i 0) MSP f)

        pub asked_more_none : (p ≡ 0 → ⊥) → (p ≡ 1 → ⊥) → (get_or m i 0 ≡ MSP → ⊥) → Nothing ≡ here
        unfolding ask
        asked_more_none q k f = rw (some, e, pass_2 p q k, lt-ltb i I o, ne_eqb (get_or m i 0) MSP f) (on (eqb (get_or m i 0) MNP))
          where
            on : (x : Bool) → Nothing ≡ kind_of refining (asked I (look_refining (l - 1) i m true false x))
            on true = refl
            on false = refl

-- ---- the values

-- a power of two as the machine makes it
pub power : (b : ℕ) → b ≤ most_planes → 1 * 2 ^ b % 4294967296 ≡ 2 ^ b
power b h = level_one b (omega (arith, h))

-- a sign and a magnitude joined, as a local holds it
module _ (s t : Bool) (n k : ℕ) (r : ℤ) where
  joined_so : r ≡ joined_or0 s n → SFits w32 r → s ≡ t → n ≡ k → to_z w32 (of_z w32 r) ≡ joined_or0 t k
  joined_so e f d g = to_z-of_z f ∙ e ∙ (λ j. joined_or0 (d j) (g j))

module _ (b : ℕ) (h : b ≤ most_planes) where
  pub found_fits : Fits w32 (1 * 2 ^ b % 4294967296 + 1 * 2 ^ b % 4294967296 / 2)
  found_fits = record { fits = omega (arith, power b h, pow_mono {i = b} {j = most_planes} h) }

  pub found_is : (s : Bool) (r : ℤ) → r ≡ joined_or0 s (1 * 2 ^ b % 4294967296 + 1 * 2 ^ b % 4294967296 / 2) → SFits w32 r → to_z w32 (of_z w32 r) ≡ found_in s b
  found_is s r e f = joined_so s s _ _ r e f refl (ap (λ (n : ℕ). n + n / 2) (power b h))

  -- of a value z, whose sign and magnitude were asked
  module _ (z : ℤ) (f : SFits w32 z) (size : ℕ) (is : size ≡ magnitude (to_z w32 (of_z w32 z))) where
    size_is : size ≡ magnitude z
    size_is = is ∙ ap magnitude (to_z-of_z f)

    size_most : size ≤ 2147483648
    size_most = omega (arith, size_is, nat_abs-le z f.sfits)

    pub finer_fits : Fits w32 (size + 1 * 2 ^ b % 4294967296 / 2)
    finer_fits = record { fits = omega (arith, size_most, power b h, pow_mono {i = b} {j = most_planes} h) }

    pub coarser_fits : Fits w32 (size / 2 ^ b * 2 ^ b % 4294967296 + 1 * 2 ^ b % 4294967296 / 2)
    coarser_fits = record { fits = omega (arith, size_most, power b h, div-mul-le_self size (2 ^ b), pow_mono {i = b} {j = most_planes} h) }

    module _ (below : Bool) (same : below ≡ negative (to_z w32 (of_z w32 z))) (r : ℤ) (g : SFits w32 r) where
      same_is : below ≡ negative z
      same_is = same ∙ ap (λ (y : ℤ). negative y) (to_z-of_z f)

      pub finer_one : (x : Bool) → r ≡ joined_or0 below (size + 1 * 2 ^ b % 4294967296 / 2) → x ≡ true → to_z w32 (of_z w32 r) ≡ finer x b z
      finer_one x e d =
          let sum : size + 1 * 2 ^ b % 4294967296 / 2 ≡ (magnitude z + 2 ^ b / 2) - 0 = omega (arith, size_is, power b h) in
          rw d (joined_so _ _ _ _ r e g same_is sum)

      pub finer_zero : (x : Bool) (n : ℕ) → r ≡ joined_or0 below n → n ≡ (size + 1 * 2 ^ b % 4294967296 / 2) - 1 * 2 ^ b % 4294967296 → x ≡ false
          → to_z w32 (of_z w32 r) ≡ finer x b z
      finer_zero x n e k d =
          let rest : n ≡ (magnitude z + 2 ^ b / 2) - 2 ^ b = omega (arith, k, size_is, power b h) in rw d (joined_so _ _ _ _ r e g same_is rest)

      pub coarser_is : r ≡ joined_or0 below (size / 2 ^ b * 2 ^ b % 4294967296 + 1 * 2 ^ b % 4294967296 / 2) → to_z w32 (of_z w32 r) ≡ coarser b z
      coarser_is e =
          let low : size / 2 ^ b * 2 ^ b % 4294967296 ≡ size / 2 ^ b * 2 ^ b = omega (arith, size_most, div-mul-le_self size (2 ^ b)) in
          joined_so _ _ _ _ r e g same_is (λ j. (low ∙ ap (λ (n : ℕ). n / 2 ^ b * 2 ^ b) size_is) j + power b h j / 2)

-- ---- the values after an answer, and before it

module _ (v : List ℤ) (i : ℕ) (q : Asked) where
  pub heard_sign : (b : ℕ) (a : Bool) (r : ℤ) → q ≡ Sign → r ≡ found_in a b → SFits w32 r → set v i (to_z w32 (of_z w32 r)) ≡ heard q i b a v
  heard_sign b a r d e f = rw d (ap (λ (z : ℤ). set v i z) (to_z-of_z f ∙ e))

  pub heard_more : (b : ℕ) (a : Bool) (r : ℤ) → q ≡ More → r ≡ finer a b (to_z w32 (of_z w32 (at v i))) → SFits w32 (at v i) → SFits w32 r → set v i (to_z w32 (of_z w32 r)) ≡ heard q i b a v
  heard_more b a r d e g f = rw d (ap (λ (z : ℤ). set v i z) (to_z-of_z f ∙ e ∙ ap (λ (z : ℤ). finer a b z) (to_z-of_z g)))

  pub unheard_sign : (l : ℕ) → q ≡ Sign → set v i (pos 0) ≡ unheard q i l v
  unheard_sign l d = rw d

  pub unheard_more : (l : ℕ) (r : ℤ) → q ≡ More → r ≡ coarser l (to_z w32 (of_z w32 (at v i))) → SFits w32 (at v i) → SFits w32 r → set v i (to_z w32 (of_z w32 r)) ≡ unheard q i l v
  unheard_more l r d e g f = rw d (ap (λ (z : ℤ). set v i z) (to_z-of_z f ∙ e ∙ ap (λ (z : ℤ). coarser l z) (to_z-of_z g)))

module _ (v : List ℤ) (i b : ℕ) (a : Bool) where
  -- no value changes but by Sign and More
  pub heard_other : (q : Asked) → (q ≡ Sign → ⊥) → (q ≡ More → ⊥) → v ≡ heard q i b a v
  heard_other Nothing s m = refl
  heard_other Sign s m = absurd (s refl)
  heard_other Bit s m = refl
  heard_other More s m = absurd (m refl)
  heard_other Desc s m = refl
  heard_other Grand s m = refl

  -- past the end nothing is written
  pub heard_past : (q : Asked) → length v ≤ i → v ≡ heard q i b a v
  heard_past Nothing h = refl
  heard_past Sign h = sym (set_out v i (found_in a b) h)
  heard_past Bit h = refl
  heard_past More h = sym (set_out v i (finer a b (at v i)) h)
  heard_past Desc h = refl
  heard_past Grand h = refl

module _ (v : List ℤ) (i l : ℕ) where
  -- no value changes but by Sign and More
  pub unheard_other : (q : Asked) → (q ≡ Sign → ⊥) → (q ≡ More → ⊥) → v ≡ unheard q i l v
  unheard_other Nothing s m = refl
  unheard_other Sign s m = absurd (s refl)
  unheard_other Bit s m = refl
  unheard_other More s m = absurd (m refl)
  unheard_other Desc s m = refl
  unheard_other Grand s m = refl

  pub unheard_past : (q : Asked) → length v ≤ i → v ≡ unheard q i l v
  unheard_past Nothing h = refl
  unheard_past Sign h = sym (set_out v i (pos 0) h)
  unheard_past Bit h = refl
  unheard_past More h = sym (set_out v i (coarser l (at v i)) h)
  unheard_past Desc h = refl
  unheard_past Grand h = refl
