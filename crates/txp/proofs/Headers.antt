-- A header that was written is read back.
use mathlib.Core.Path.{◌≡◌, refl, ap, ◌∙◌}
use mathlib.Core.Bool.{true}
use mathlib.Core.List.{List, ◌++◌}
use Prim.Native.Nat.{ℕ, ◌*◌, ◌-◌, ◌/◌, ◌%◌, ◌^◌, ◌≤◌, ◌<◌}
use native.Mathlib.Nat.{mod-eq_of_lt}
use lib.Pow.{pow_mono}
use native.Mathlib.Omega.{arith}
use lib.Dec.{leb}
use lib.ListN.{length, set, drop}
use lib.Seq.{sets, sets-eq}
use borrow.Author.Tests.{le-leb, leb-true}
use Rattle.sizes.proofs.Laws.{both_left}
use Rattle.txp.specs.declared.Header.{Header}
use Rattle.txp.specs.Header.{version, header_size, header_bytes, letters_fit, version_fits, header_of, body_of, four_at, two_bytes}

-- every field fits its bytes
pub record Fits (h : Header) : Type 0 where
  pub n : h.n < 256
  pub l : h.l < 256
  pub p : h.p < 256
  pub declared : h.declared < 4294967296

module _ (h : Header) (body : List ℕ) where
  pub header_length : length (header_bytes h) ≡ header_size
  unfolding header_bytes
  header_length = refl

  pub letters_read : letters_fit (header_bytes h ++ body) ≡ true
  unfolding letters_fit header_bytes
  letters_read = rw (le-leb header_size (length (header_bytes h ++ body)) (omega arith))

  pub version_read : version_fits (header_bytes h ++ body) ≡ true
  unfolding version_fits header_bytes
  version_read = refl

  pub body_read : body_of (header_bytes h ++ body) ≡ body
  unfolding header_bytes
  body_read = refl

  pub header_read : Fits h → header_of (header_bytes h ++ body) ≡ h
  unfolding header_of header_bytes
  header_read f =
      let d : four_at (header_bytes h ++ body) 8 ≡ h.declared = omega (arith, f.declared) in
      ap {B = Header} (λ (x : ℕ). record { n = h.n; l = h.l; p = h.p; declared = x }) d

-- a header put piece by piece
pub header_put : (h : Header) (s a b c d e f g i j : List ℕ)
    → a ≡ set s 0 0x54 → b ≡ set a 1 0x58 → c ≡ set b 2 0x50 → d ≡ sets c 3 (two_bytes version) → e ≡ set d 5 h.n → f ≡ set e 6 h.l → g ≡ set f 7 h.p
    → i ≡ sets g 8 (two_bytes (h.declared / 65536)) → j ≡ sets i 10 (two_bytes (h.declared % 65536)) → header_size ≤ length s
    → j ≡ header_bytes h ++ drop header_size s
unfolding header_bytes
header_put h s a b c d e f g i j ea eb ec ed ee ef eg ei ej room =
    let all : j ≡ sets s 0 (header_bytes h) = ej ∙ rw (ei, eg, ef, ee, ed, ec, eb, ea) in
    all ∙ sets-eq (header_bytes h) s 0 room

-- right letters stand in 12 bytes or more
pub letters_room : (file : List ℕ) → letters_fit file ≡ true → header_size ≤ length file
unfolding letters_fit
letters_room file e = leb-true header_size (length file) (both_left (leb header_size (length file)) _ e)

-- the code's shift of 1 is the power
pub low_power : (k : ℕ) → 1 * 2 ^ (8 - k) % 4294967296 ≡ 2 ^ (8 - k)
low_power k =
    let e : 1 * 2 ^ (8 - k) ≡ 2 ^ (8 - k) = omega arith in
    rw e (mod-eq_of_lt (omega (arith, pow_mono {i = 8 - k} {j = 8} (omega arith))))
