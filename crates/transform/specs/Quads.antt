-- Words of inner contracts, which no promise to a caller uses: the transform by blocks of 2 by 2. In linear order such a block is the entries 4k to 4k + 3,
-- and a level of the first 4M entries takes it to the places k, M + k, 2M + k and 3M + k. An array is a function of its linear place.
use Rattle.std.specs.Prelude.{ℕ, zero, suc, ◌+◌, ◌*◌, ◌-◌, ◌/◌, ◌%◌, ◌^◌, cond, ltb, ℤ}
use Rattle.transform.specs.declared.blocks.Quad.{Quad}
use Rattle.transform.specs.Transform.{low, high, first, second}

-- rows, then columns
unfoldable pub apart : ℤ → ℤ → ℤ → ℤ → Quad
apart p q r s =
    record { tl = low (low p q) (low r s); tr = low (high p q) (high r s); bl = high (low p q) (low r s); br = high (high p q) (high r s) }

-- columns, then rows
unfoldable pub joined : ℤ → ℤ → ℤ → ℤ → Quad
joined a b c d =
    record { tl = first (first a c) (first b d); tr = second (first a c) (first b d); bl = first (second a c) (second b d); br = second (second a c) (second b d) }

-- the bands of block k
unfoldable pub block : (ℕ → ℤ) → ℕ → Quad
block X k = apart (X (4 * k)) (X (4 * k + 1)) (X (4 * k + 2)) (X (4 * k + 3))

unfoldable pub unblock : ℕ → (ℕ → ℤ) → ℕ → Quad
unblock M Y k = joined (Y k) (Y (M + k)) (Y (2 * M + k)) (Y (3 * M + k))

-- an entry of a block
unfoldable pub entry : Quad → ℕ → ℤ
entry v zero = v.tl
entry v (suc zero) = v.tr
entry v (suc (suc zero)) = v.bl
entry v (suc (suc (suc k))) = v.br

-- one level of the first 4M entries, and back
unfoldable pub bands : ℕ → (ℕ → ℤ) → ℕ → ℤ
bands M X i =
    cond (ltb i M) (block X i).tl
    (cond (ltb i (2 * M)) (block X (i - M)).tr
    (cond (ltb i (3 * M)) (block X (i - 2 * M)).bl
    (cond (ltb i (4 * M)) (block X (i - 3 * M)).br (X i))))

unfoldable pub unbands : ℕ → (ℕ → ℤ) → ℕ → ℤ
unbands M Y i = cond (ltb i (4 * M)) (entry (unblock M Y (i / 4)) (i % 4)) (Y i)

-- j levels of the first 4^N entries, and back
unfoldable pub downs : ℕ → ℕ → (ℕ → ℤ) → ℕ → ℤ
downs N zero X = X
downs N (suc j) X = bands (4 ^ (N - suc j)) (downs N j X)

unfoldable pub ups : ℕ → ℕ → (ℕ → ℤ) → ℕ → ℤ
ups N zero Y = Y
ups N (suc j) Y = ups N j (unbands (4 ^ (N - suc j)) Y)

-- X below M, and Y from there on
unfoldable pub onward : ℕ → (ℕ → ℤ) → (ℕ → ℤ) → ℕ → ℤ
onward M X Y i = cond (ltb i M) (X i) (Y i)

-- what the code asks of the numbers that it adds, so that every sum stays inside 32 bits: magnitudes up to 2^28, and on the way back up to 2^28 - 2^25 of a coarse number
abbrev pub widest : ℕ
widest = 268435456

abbrev pub widest_coarse : ℕ
widest_coarse = 234881024
