-- Four places at once: the bits that a window of a body shows, masks, and what codes become by them.
use Prim.Native.Nat.{ℕ, ◌+◌, ◌*◌, ◌-◌, ◌/◌, ◌%◌, ◌^◌, ◌<◌}
use mathlib.Core.Path.{◌≡◌, refl, sym, ap, ap₂, ◌∙◌}
use mathlib.Core.Bool.{Bool, true, false, cond}
use mathlib.Core.List.{List}
use mathlib.Core.Logic.{◌⊎◌, inl, inr}
use native.Mathlib.Decide.{dec_lt}
use native.Mathlib.Nat.{mod-eq_of_lt}
use native.Mathlib.Omega.{arith}
use lib.Bits.{bit_and, bit_or, and_zero_r, and_comm, and_mask, and_le_l, and_le_r, or_zero_r}
use lib.Dec.{eqb, lit<}
use lib.IntN.{ℤ, pos, ◌-ℤ◌}
use lib.ListN.{get_or}
use lib.Pow.{pow-add, shl-shr}
use lib.Signed.{mag}
use mir.Facts.{sfits_lit, Fits-of_z, to_z-of_z, to_z_pos}
use mir.Syntax.{w32}
use mir.Val.{SFits, of_z, to_z}
use Rattle.bits.specs.Bits.{bit, bit_at, digit}
use Rattle.bits.proofs.Laws.{bit_shr, bit_mod, bit_join_high, bit_join_low, bit_at_byte}
use Rattle.coef.specs.Coef.{at}
use Rattle.coef.proofs.Held.{read_back}
use Rattle.fours.specs.Tables.{row_table}
use Rattle.fours.proofs.Laws.{row_entry}
use Rattle.reading.specs.Reading.{new_code, more_code}
use Rattle.reading.specs.Siblings.{put_codes, found_at, found_four, refined_four, Shows}
use Rattle.reading.proofs.ValueLaws.{level_small, level_two}

-- ---- the window

-- bit 15 - j of two bytes that are shifted left by k
shifted : (x k j : ℕ) → k < 8 → j < 9 → bit (x * 2 ^ k % 4294967296 % 65536) (15 - j) ≡ bit x (15 - j - k)
shifted x k j h l =
    let e : 15 - j ≡ k + (15 - j - k) = omega arith in
    bit_mod (x * 2 ^ k % 4294967296) 16 (15 - j) (omega arith)
    ∙ bit_mod (x * 2 ^ k) 32 (15 - j) (omega arith)
    ∙ ap (bit (x * 2 ^ k)) e
    ∙ sym (bit_shr (x * 2 ^ k) k (15 - j - k))
    ∙ ap (λ (y : ℕ). bit y (15 - j - k)) (shl-shr x k)

module _ (body : List ℕ) (n : ℕ) (byte : get_or body (n / 8 + 1) 0 < 256) where
  of_two : (j : ℕ) → j < 9 → Dec (n % 8 + j < 8)
      → bit (get_or body (n / 8) 0 * 256 + get_or body (n / 8 + 1) 0) (15 - j - n % 8) ≡ bit_at body (n + j)
  of_two j l (yes h) =
      let e : 15 - j - n % 8 ≡ 8 + (7 - (n % 8 + j)) = omega arith in
      let f : 8 * (n / 8) + (n % 8 + j) ≡ n + j = omega arith in
      ap (bit (get_or body (n / 8) 0 * 256 + get_or body (n / 8 + 1) 0)) e
      ∙ bit_join_high (get_or body (n / 8) 0) 8 (get_or body (n / 8 + 1) 0) byte (7 - (n % 8 + j))
      ∙ sym (bit_at_byte body (n / 8) (n % 8 + j) h)
      ∙ ap (bit_at body) f
  of_two j l (no h) =
      let e : 15 - j - n % 8 ≡ 7 - (n % 8 + j - 8) = omega arith in
      let f : 8 * (n / 8 + 1) + (n % 8 + j - 8) ≡ n + j = omega arith in
      bit_join_low (get_or body (n / 8) 0) 8 (get_or body (n / 8 + 1) 0) byte (15 - j - n % 8) (omega arith)
      ∙ ap (bit (get_or body (n / 8 + 1) 0)) e
      ∙ sym (bit_at_byte body (n / 8 + 1) (n % 8 + j - 8) (omega arith))
      ∙ ap (bit_at body) f

  pub window_shows : Shows body n ((get_or body (n / 8) 0 * 256 + get_or body (n / 8 + 1) 0) * 2 ^ (n % 8) % 4294967296 % 65536)
  window_shows =
      record {
        small = omega arith;
        bits = λ j l. shifted (get_or body (n / 8) 0 * 256 + get_or body (n / 8 + 1) 0) (n % 8) j (omega arith) l ∙ of_two j l (dec_lt (n % 8 + j) 8);
      }

-- ---- masks

-- no bit, or all bits
abbrev pub IsMask : ℕ → Type 0
IsMask mask = (mask ≡ 0) ⊎ (mask ≡ 4294967295)

masked : (mask x : ℕ) → IsMask mask → x < 4294967296 → bit_and mask x ≡ cond (eqb mask 0) 0 x
masked mask x (inl e) h = rw e refl
masked mask x (inr e) h = rw e (and_comm 4294967295 x ∙ and_mask x 32 ∙ mod-eq_of_lt h)

is_mask : (mask : ℕ) (x : Bool) → mask ≡ cond x 4294967295 0 → IsMask mask
is_mask mask true e = inr e
is_mask mask false e = inl e

by_mask : {A : Type 0} (mask : ℕ) (x : Bool) → mask ≡ cond x 4294967295 0 → (p q : A) → cond (eqb mask 0) p q ≡ cond x q p
by_mask mask true e p q = rw e refl
by_mask mask false e p q = rw e refl

low_digit : (mask : ℕ) (x : Bool) → mask ≡ cond x 4294967295 0 → mask % 2 ≡ digit x
low_digit mask true e = rw e refl
low_digit mask false e = rw e refl

-- ---- a code by its mask

pub keep_fits : (mask : ℕ) → IsMask mask → SFits w32 (to_z w32 (mask % 2) -ℤ pos 1)
keep_fits mask (inl e) = rw e (sfits_lit tt)
keep_fits mask (inr e) = rw e (sfits_lit tt)

pub code_fits : (mask code : ℕ) → code < 2 ^ 31 → SFits w32 (pos (bit_and code mask))
code_fits mask code h = record { sfits = omega (arith, and_le_l code mask) }

pub chosen_is : (mask code : ℕ) (old : ℤ) → IsMask mask → code < 2 ^ 31 → SFits w32 old
    → to_z w32 (bit_or (bit_and code mask) (bit_and (of_z w32 old) (of_z w32 (to_z w32 (mask % 2) -ℤ pos 1)))) ≡ cond (eqb mask 0) old (to_z w32 code)
chosen_is mask code old (inl e) h f =
    rw e
    (ap₂ (λ (x y : ℕ). to_z w32 (bit_or x y)) (and_zero_r code) (and_mask (of_z w32 old) 32 ∙ mod-eq_of_lt (Fits-of_z f).fits)
    ∙ to_z-of_z f)
chosen_is mask code old (inr e) h f =
    rw e
    (ap₂ (λ (x y : ℕ). to_z w32 (bit_or x y)) (and_mask code 32 ∙ mod-eq_of_lt (omega arith)) (and_zero_r (of_z w32 old))
    ∙ ap (to_z w32) (or_zero_r code))

pub level_fits : (mask level : ℕ) → level < 2 ^ 31 → SFits w32 (pos (bit_and mask level))
level_fits mask level h = record { sfits = omega (arith, and_le_r mask level) }

pub grown_is : (mask level : ℕ) (old : ℤ) → IsMask mask → level < 2 ^ 31
    → to_z w32 (bit_or (of_z w32 old) (bit_and mask level)) ≡ to_z w32 (bit_or (of_z w32 old) (cond (eqb mask 0) 0 level))
grown_is mask level old m h = ap (λ (x : ℕ). to_z w32 (bit_or (of_z w32 old) x)) (masked mask level m (omega arith))

-- ---- one of four codes

-- what is stored of a place: r, where old stood before, by the entry m of the places and the entry w of the signs
pub record Found (b m w : ℕ) (old r : ℤ) : Type 0 where
  pub fits : mag r < 2 ^ 31
  pub held : mag old < 2 ^ 31
  pub is : r ≡ cond (eqb m 0) (to_z w32 (of_z w32 old)) (to_z w32 (2 * 2 ^ b % 4294967296 + w % 2))

-- and of a place that is refined
pub record More (b m : ℕ) (old r : ℤ) : Type 0 where
  pub fits : mag r < 2 ^ 31
  pub held : mag old < 2 ^ 31
  pub is : r ≡ to_z w32 (bit_or (of_z w32 (to_z w32 (of_z w32 old))) (cond (eqb m 0) 0 (2 * 2 ^ b % 4294967296)))

module _ (b : ℕ) (h : b < 24) where
  pub level_low : 2 * 2 ^ b % 4294967296 < 2 ^ 31
  level_low = omega (arith, level_small b (omega arith))

  pub code_low : (w : ℕ) → 2 * 2 ^ b % 4294967296 + w % 2 < 2 ^ 31
  code_low w = omega (arith, level_small b (omega arith))

  level_is : (x : Bool) → cond x (2 * 2 ^ b % 4294967296) 0 ≡ digit x * 2 ^ (b + 1)
  level_is true = omega (arith, level_two b h, pow-add 2 b 1)
  level_is false = omega arith

  module _ (m : ℕ) (x : Bool) (e : m ≡ cond x 4294967295 0) (old r : ℤ) where
    found : (w : ℕ) (minus : Bool) → w ≡ cond minus 4294967295 0 → Found b m w old r → to_z w32 (of_z w32 r) ≡ cond x (new_code minus b) old
    found w minus g f =
        let n : 2 * 2 ^ b % 4294967296 + w % 2 ≡ 2 * 2 ^ b + digit minus = omega (arith, level_two b h, low_digit w minus g) in
        read_back r f.fits
        ∙ f.is
        ∙ by_mask m x e (to_z w32 (of_z w32 old)) (to_z w32 (2 * 2 ^ b % 4294967296 + w % 2))
        ∙ ap₂ (cond x) (to_z_pos w32 (code_low w) ∙ ap pos n) (read_back old f.held)

    more : More b m old r → to_z w32 (of_z w32 r) ≡ more_code x b old
    unfolding more_code
    more f =
        read_back r f.fits
        ∙ f.is
        ∙ ap₂ (λ (z : ℤ) (n : ℕ). to_z w32 (bit_or (of_z w32 z) n)) (read_back old f.held) (by_mask m x e 0 (2 * 2 ^ b % 4294967296) ∙ level_is x)

-- ---- all four

same : (v : List ℤ) (i : ℕ) {x₀ y₀ x₁ y₁ x₂ y₂ x₃ y₃ : ℤ} → x₀ ≡ y₀ → x₁ ≡ y₁ → x₂ ≡ y₂ → x₃ ≡ y₃ → put_codes v i x₀ x₁ x₂ x₃ ≡ put_codes v i y₀ y₁ y₂ y₃
same v i e₀ e₁ e₂ e₃ = rw (e₀, e₁, e₂, e₃) refl

module _ (rows : List ℕ) (e : rows ≡ row_table) (a : ℕ) (k : a < 16) where
  row_first : get_or rows (4 * a) 0 ≡ cond (bit a 0) 4294967295 0
  row_first = ap (λ (p : ℕ). get_or rows p 0) {x = 4 * a} {y = 4 * a + 0} (omega arith) ∙ row_entry rows a 0 e k (lit< tt)

  -- the masks of a
  pub mask₀ : IsMask (get_or rows (4 * a) 0)
  mask₀ = is_mask (get_or rows (4 * a) 0) (bit a 0) row_first

  pub mask : (j : ℕ) → j < 4 → IsMask (get_or rows (4 * a + j) 0)
  mask j l = is_mask (get_or rows (4 * a + j) 0) (bit a j) (row_entry rows a j e k l)

module _ (rows : List ℕ) (e : rows ≡ row_table) (b : ℕ) (h : b < 24) (a : ℕ) (k : a < 16) (v : List ℤ) (i : ℕ) (r₀ r₁ r₂ r₃ : ℤ) where
  pub found_four_lem : (s : ℕ) → s < 16
      → Found b (get_or rows (4 * a) 0) (get_or rows (4 * s) 0) (at v i) r₀
      → Found b (get_or rows (4 * a + 1) 0) (get_or rows (4 * s + 1) 0) (at v (i + 1)) r₁
      → Found b (get_or rows (4 * a + 2) 0) (get_or rows (4 * s + 2) 0) (at v (i + 2)) r₂
      → Found b (get_or rows (4 * a + 3) 0) (get_or rows (4 * s + 3) 0) (at v (i + 3)) r₃
      → put_codes v i (to_z w32 (of_z w32 r₀)) (to_z w32 (of_z w32 r₁)) (to_z w32 (of_z w32 r₂)) (to_z w32 (of_z w32 r₃)) ≡ found_four v i b a s
  found_four_lem s t f₀ f₁ f₂ f₃ =
      same v i
      (found b h (get_or rows (4 * a) 0) (bit a 0) (row_first rows e a k) (at v i) r₀ (get_or rows (4 * s) 0) (bit s 0) (row_first rows e s t) f₀)
      (one 1 (lit< tt) r₁ f₁)
      (one 2 (lit< tt) r₂ f₂)
      (one 3 (lit< tt) r₃ f₃)
    where
      one : (j : ℕ) → j < 4 → (r : ℤ) → Found b (get_or rows (4 * a + j) 0) (get_or rows (4 * s + j) 0) (at v (i + j)) r
          → to_z w32 (of_z w32 r) ≡ found_at v (i + j) b (bit a j) (bit s j)
      one j l r f = found b h (get_or rows (4 * a + j) 0) (bit a j) (row_entry rows a j e k l) (at v (i + j)) r (get_or rows (4 * s + j) 0) (bit s j) (row_entry rows s j e t l) f

  pub more_four : More b (get_or rows (4 * a) 0) (at v i) r₀
      → More b (get_or rows (4 * a + 1) 0) (at v (i + 1)) r₁
      → More b (get_or rows (4 * a + 2) 0) (at v (i + 2)) r₂
      → More b (get_or rows (4 * a + 3) 0) (at v (i + 3)) r₃
      → put_codes v i (to_z w32 (of_z w32 r₀)) (to_z w32 (of_z w32 r₁)) (to_z w32 (of_z w32 r₂)) (to_z w32 (of_z w32 r₃)) ≡ refined_four v i b a
  more_four f₀ f₁ f₂ f₃ =
      same v i
      (more b h (get_or rows (4 * a) 0) (bit a 0) (row_first rows e a k) (at v i) r₀ f₀)
      (one 1 (lit< tt) r₁ f₁)
      (one 2 (lit< tt) r₂ f₂)
      (one 3 (lit< tt) r₃ f₃)
    where
      one : (j : ℕ) → j < 4 → (r : ℤ) → More b (get_or rows (4 * a + j) 0) (at v (i + j)) r → to_z w32 (of_z w32 r) ≡ more_code (bit a j) b (at v (i + j))
      one j l r f = more b h (get_or rows (4 * a + j) 0) (bit a j) (row_entry rows a j e k l) (at v (i + j)) r f

-- a code in range stays as it is where no bit is put
pub no_more : (z : ℤ) (b : ℕ) → mag z < 2 ^ 31 → more_code false b z ≡ z
unfolding more_code
no_more z b h = let e : 0 * 2 ^ (b + 1) ≡ 0 = omega arith in ap (λ (n : ℕ). to_z w32 (bit_or (of_z w32 z) n)) e ∙ ap (λ (n : ℕ). to_z w32 n) (or_zero_r (of_z w32 z)) ∙ read_back z h
