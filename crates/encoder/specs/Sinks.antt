-- Words of the encoder's inner contracts, which no promise to a caller uses: bits on their way out, held in a number.
use Rattle.std.specs.Prelude.{◌≡◌, ℕ, zero, suc, ◌+◌, ◌*◌, ◌^◌, ◌<◌, ◌≤◌, Bool, List, [], ◌∷◌, length}
use Rattle.bits.specs.Bits.{bit, digit, with_bit}
use Rattle.encoder.specs.Writing.{Bytes, bytes}
use Rattle.encoder.specs.declared.Sink.{Sink}

-- one bit more, and all bits of a list
abbrev pub plus_bit : Sink → Bool → Sink
plus_bit s x = record { acc = s.acc * 2 + digit x; n = s.n + 1; at = s.at }

unfoldable pub plus_bits : Sink → List Bool → Sink
plus_bits s [] = s
plus_bits s (x ∷ u) = plus_bits (plus_bit s x) u

-- as many bits are held as it says, and there is room for k more
pub record Holding (s : Sink) (k : ℕ) : Type 0 where
  pub small : s.acc < 2 ^ s.n
  pub free : s.n + k ≤ 63

-- the bits of a list put one after the other, from bit k on
unfoldable pub put_all : List ℕ → ℕ → List Bool → List ℕ
put_all o k [] = o
put_all o k (x ∷ u) = put_all (with_bit o k x) (k + 1) u

-- the n lowest bits of x, the highest of them first
unfoldable pub low_bits : ℕ → ℕ → List Bool
low_bits zero x = []
low_bits (suc n) x = bit x n ∷ low_bits n x

-- the bytes as they are once what is held is put, and with the number of bits
abbrev pub with_held : List ℕ → Sink → List ℕ
with_held o s = put_all o (8 * s.at) (low_bits s.n s.acc)

abbrev pub held : List ℕ → Sink → Bytes
held o s = bytes (with_held o s) (8 * s.at + s.n)

-- what was held is held or written
pub record SameHeld (o : List ℕ) (s : Sink) (o₁ : List ℕ) (s₁ : Sink) : Type 0 where
  pub same : held o₁ s₁ ≡ held o s
  pub long : length o₁ ≡ length o
  pub holds : Holding s₁ 0
