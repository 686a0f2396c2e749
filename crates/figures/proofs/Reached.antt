-- The figures of a plane, from what reaches its level and what reaches twice that.
use mathlib.Core.Path.{◌≡◌, refl, sym, ap, ◌∙◌}
use mathlib.Core.List.{List}
use Prim.Native.Nat.{ℕ, suc, ◌+◌, ◌*◌, ◌-◌, ◌/◌, ◌^◌, ◌≤◌}
use native.Mathlib.Nat.{pow-succ'}
use native.Mathlib.Omega.{arith}
use lib.Dec.{leb}
use lib.IntN.{ℤ}
use lib.ListN.{length, get_or}
use Rattle.sizes.specs.Sizes.{all_of, coarsest_of, most_n, Sized}
use Rattle.sizes.proofs.Laws.{sized, side_most, all_most, coarsest_all}
use Rattle.sizes.proofs.Tables.{table_length}
use Rattle.bits.specs.Bits.{digit}
use Rattle.coef.specs.Coef.{mag_at}
use Rattle.tree.specs.Tree.{any_in}
use Rattle.tree.specs.Summaries.{desc_or, grand_or, desc_table, grand_table}
use Rattle.tree.proofs.Laws.{desc_high, grand_high}
use Rattle.nls.specs.Parts.{count_to, found, desc_split, grand_split, splits, founds, parts, splits_in, found_in}
use Rattle.figures.specs.Figures.{figures_of}
use Rattle.figures.specs.Tables.{Filled, reach_of, figures_between, Between}
use Rattle.figures.proofs.Sums.{sum_same, sum_short, count_most}
use Rattle.figures.proofs.Levels.{desc_reaches, grand_reaches, desc_held, grand_held}
use Rattle.figures.proofs.Tallies.{plane_next, next_count}
use Rattle.figures.proofs.Splitting.{parts_split}

-- the entries that reach 2^k are the sets that are split after plane k
module _ (N L : ℕ) (z : Sized N L) (A : List ℤ) (k : ℕ) where
  desc_same : (n : ℕ) → count_to n (λ i. leb (2 ^ k) (get_or (desc_table N L A) i 0)) ≡ count_to n (λ i. desc_split N L A k i)
  desc_same n =
      sum_same n (λ i. digit (leb (2 ^ k) (get_or (desc_table N L A) i 0))) (λ i. digit (desc_split N L A k i))
      (λ i. ap digit (ap (leb (2 ^ k)) (desc_held N L A i) ∙ sym (desc_reaches N L A k i)))

  grand_same : (n : ℕ) → count_to n (λ i. leb (2 ^ k) (get_or (grand_table N L A) i 0)) ≡ count_to n (λ i. grand_split N L A k i)
  grand_same n =
      sum_same n (λ i. digit (leb (2 ^ k) (get_or (grand_table N L A) i 0))) (λ i. digit (grand_split N L A k i))
      (λ i. ap digit (ap (leb (2 ^ k)) (grand_held N L A z i) ∙ sym (grand_reaches N L A k i)))

  desc_end : (i : ℕ) → all_of N / 4 ≤ i → digit (desc_split N L A k i) ≡ 0
  unfolding desc_split any_in
  desc_end i p = rw (desc_high N L i p) refl

  grand_end : (i : ℕ) → all_of N / 16 ≤ i → digit (grand_split N L A k i) ≡ 0
  unfolding grand_split any_in
  grand_end i p = rw (grand_high N L z i p) refl

  splits_are : splits N L A k ≡ count_to (all_of N / 4) (λ i. desc_split N L A k i) + count_to (all_of N / 16) (λ i. grand_split N L A k i)
  unfolding splits
  splits_are =
      omega (
        arith,
        sum_short (all_of N) (all_of N / 4) (λ i. digit (desc_split N L A k i)) (omega arith) (λ i p. desc_end i p),
        sum_short (all_of N) (all_of N / 16) (λ i. digit (grand_split N L A k i)) (omega arith) (λ i p. grand_end i p),
      )

  founds_are : founds N L A k ≡ count_to (all_of N) (λ i. leb (2 ^ k) (mag_at A i))
  unfolding founds found
  founds_are = refl

module _ (N L : ℕ) (A : List ℤ) (desc grand : List ℕ) (f : Filled N L A desc grand) where
  size : Sized N L
  size = sized N L f.levels

  most : all_of N ≤ all_of most_n
  most = all_most N (side_most N f.side)

  -- the sizes
  all_size : length A ≤ all_of most_n
  all_size = omega (arith, f.whole, most)

  desc_size : length desc ≤ all_of most_n
  desc_size = rw f.descs (omega (arith, table_length (all_of N / 4) (λ i. desc_or N L A i), most))

  grand_within : length grand ≤ length desc
  grand_within =
      rw (f.descs, f.grands) (omega (arith, table_length (all_of N / 4) (λ i. desc_or N L A i), table_length (all_of N / 16) (λ i. grand_or N L A i)))

  pub sizes_fit : (length A ≤ all_of most_n) × (length desc ≤ all_of most_n) × (length grand ≤ length desc)
  sizes_fit = (all_size, desc_size, grand_within)

  -- the counts
  descs_at : (k : ℕ) → count_to (length desc) (λ i. leb (2 ^ k) (get_or desc i 0)) ≡ count_to (all_of N / 4) (λ i. desc_split N L A k i)
  descs_at k = rw (f.descs, table_length (all_of N / 4) (λ i. desc_or N L A i)) (desc_same N L size A k (all_of N / 4))

  inner_at : (k : ℕ) → count_to (length grand) (λ i. leb (2 ^ k) (get_or desc i 0)) ≡ count_to (all_of N / 16) (λ i. desc_split N L A k i)
  inner_at k = rw (f.descs, f.grands, table_length (all_of N / 16) (λ i. grand_or N L A i)) (desc_same N L size A k (all_of N / 16))

  grands_at : (k : ℕ) → count_to (length grand) (λ i. leb (2 ^ k) (get_or grand i 0)) ≡ count_to (all_of N / 16) (λ i. grand_split N L A k i)
  grands_at k = rw (f.grands, table_length (all_of N / 16) (λ i. grand_or N L A i)) (grand_same N L size A k (all_of N / 16))

  large_at : (k : ℕ) → count_to (length A) (λ i. leb (2 ^ k) (mag_at A i)) ≡ founds N L A k
  large_at k = rw f.whole (sym (founds_are N L size A k))

  -- of plane b: its figures, and that they can be counted so
  module _ (b : ℕ) where
    twice : 2 * 2 ^ b ≡ 2 ^ suc b
    twice = sym (pow-succ' 2 b)

    pub reached : figures_between (coarsest_of N L / 4 * 7) (reach_of (2 ^ b) A desc grand) (reach_of (2 * 2 ^ b) A desc grand) ≡ figures_of N L A b
    reached =
        let p : coarsest_of N L / 4 * 7 + 3 * count_to (length desc) (λ i. leb (2 ^ b) (get_or desc i 0)) + 3 * count_to (length grand) (λ i. leb (2 ^ b) (get_or grand i 0)) + count_to (length grand) (λ i. leb (2 ^ b) (get_or desc i 0)) ≡ parts N L A b =
        omega (arith, parts_split N L size A b, descs_at b, inner_at b, grands_at b) in
        let s : count_to (length desc) (λ i. leb (2 ^ b) (get_or desc i 0)) + count_to (length grand) (λ i. leb (2 ^ b) (get_or grand i 0)) - (count_to (length desc) (λ i. leb (2 ^ suc b) (get_or desc i 0)) + count_to (length grand) (λ i. leb (2 ^ suc b) (get_or grand i 0))) ≡ splits_in N L A b =
        omega (arith, splits_are N L size A b, splits_are N L size A (suc b), descs_at b, grands_at b, descs_at (suc b), grands_at (suc b)) in
        let k : count_to (length A) (λ i. leb (2 ^ b) (mag_at A i)) - count_to (length A) (λ i. leb (2 ^ suc b) (mag_at A i)) ≡ found_in N L A b =
        omega (arith, large_at b, large_at (suc b)) in
        rw (twice, p, s, k)

    -- no more reach the second level
    fewer : (n : ℕ) (x : ℕ → ℕ) → count_to n (λ i. leb (2 * 2 ^ b) (x i)) ≤ count_to n (λ i. leb (2 ^ b) (x i))
    fewer n x = omega (arith, next_count (2 ^ b) (2 * 2 ^ b) (suc b) (plane_next b) n x)

    pub between : Between (coarsest_of N L / 4 * 7) (reach_of (2 ^ b) A desc grand) (reach_of (2 * 2 ^ b) A desc grand)
    between =
        record {
          least_most = omega (arith, coarsest_all N L size, most);
          descs_most = omega (arith, count_most (length desc) (λ i. leb (2 ^ b) (get_or desc i 0)), desc_size);
          inner_most = omega (arith, count_most (length grand) (λ i. leb (2 ^ b) (get_or desc i 0)), desc_size, grand_within);
          grands_most = omega (arith, count_most (length grand) (λ i. leb (2 ^ b) (get_or grand i 0)), desc_size, grand_within);
          large_most = omega (arith, count_most (length A) (λ i. leb (2 ^ b) (mag_at A i)), all_size);
          fewer_sets = omega (arith, fewer (length desc) (λ i. get_or desc i 0), fewer (length grand) (λ i. get_or grand i 0));
          fewer_large = omega (arith, fewer (length A) (λ i. mag_at A i));
        }
