-- The whole stream of an array of bits, for side 2^N and L levels: what it is, that it ends, and how many bits it has.
use Prim.Native.Nat.{ℕ, zero, suc, ◌+◌, ◌*◌, ◌-◌, ◌^◌, ◌/◌, ◌≤◌, ◌<◌}
use mathlib.Core.Path.{◌≡◌, refl, ap, sym, ◌∙◌}
use mathlib.Core.Bool.{Bool}
use mathlib.Core.List.{List, ◌++◌}
use native.Mathlib.Nat.{le_refl}
use native.Mathlib.Omega.{arith}
use lib.Pow.{pow-lt}
use lib.ListN.{length, take, replicate}
use lib.Seq.{take_all}
use Rattle.nls.specs.Stream.{begin, during}
use Rattle.nls.specs.Marks.{push_roots, start_marks}
use Rattle.nls.specs.Scan.{State, pixels, state_at, settle, reach, start}
use Rattle.nls.proofs.Arrays.{answers_of, Arr, bits_of_arr}
use Rattle.nls.proofs.Counting.Sums.{sum, sum_le}
use Rattle.nls.proofs.Counting.Tree.{Size, Q, I}
use Rattle.nls.proofs.Counting.Parts.{ι, big, split_desc, split_grand, plane, body, parts, splits, bigs}
use Rattle.nls.proofs.Counting.Count.{plane_count, big_mono, desc_shrinks, grand_shrinks, ι_mono}
use Rattle.nls.proofs.Counting.Bound.{nonzeros, worst_is, size, all_is, coarsest_is, bits_count, bits_bound, bound_reached}
use Rattle.nls.proofs.Counting.Lists.{start_l}
use Rattle.nls.proofs.Joined.Leads.{Runs, runs_stream, runs_ends}
use Rattle.nls.proofs.Joined.Same.{start_same}
use Rattle.nls.proofs.Joined.Machine.{Held, machine_body, start_held}
use Rattle.nls.proofs.Joined.Planes.{during_plane}

-- the bound of document 01 on the bits of a whole body, for P of at least 1
abbrev pub bound : ℕ → ℕ → ℕ → ℕ
bound N L P = 4 ^ N * (P + 1) + (4 ^ N - 4 ^ (N - L)) / 4 + (4 ^ N - 4 * 4 ^ (N - L)) / 16

-- the whole stream of an array: four answers for each place in each plane are enough
unfoldable pub whole : ℕ → ℕ → ℕ → Arr → List Bool
whole N L P A = answers_of N (bits_of_arr A) (4 * 4 ^ N * P) (begin N L P)

module _ (N L : ℕ) (b : 1 ≤ L) (c : L < N) where
  abbrev z : Size
  z = size N L b c

  abbrev K : ℕ
  K = 4 ^ N

  module _ (P : ℕ) (A : Arr) where
    begin_is : begin N L P ≡ settle K (state_at P pixels 0 (start_l z))
    unfolding start start_marks
    begin_is =
        ap (λ (d : ℕ). settle K (state_at P pixels 0 (push_roots K (3 * d / 4) d (replicate d 1 ++ replicate (K - d) 0)))) (sym (coarsest_is N L b c))
        ∙ ap (λ (m : List ℕ). settle K (state_at P pixels 0 m)) (start_same z (all_is N L b c))

  module _ (P : ℕ) (A : Arr) (below : (i : ℕ) → i < 4 ^ N → A.mag i < 2 ^ P) where
    small : (i : ℕ) → i < I z → A.mag i < 2 ^ P
    small i u = below i (omega (arith, u, all_is N L b c))

    run : (m : List ℕ) × Runs N (bits_of_arr A) (state_at P pixels 0 (start_l z)) (body z A.mag A.neg P) (state_at 0 pixels 0 m) × Held z A.mag 0 m
    run = machine_body z (all_is N L b c) A P (start_l z) (start_held z (all_is N L b c) A P small)

    stream_take : (n : ℕ) → answers_of N (bits_of_arr A) n (begin N L P) ≡ take n (body z A.mag A.neg P)
    stream_take n =
        rw (begin_is P A)
        (runs_stream N (bits_of_arr A) (state_at P pixels 0 (start_l z)) (state_at 0 pixels 0 run.0) (body z A.mag A.neg P) run.1 refl n)

    -- the stream is the body that the magnitudes alone give
    pub whole_is_body : whole N L P A ≡ body z A.mag A.neg P
    unfolding whole body
    whole_is_body = stream_take (4 * 4 ^ N * P) ∙ take_all (4 * 4 ^ N * P) (body z A.mag A.neg P) (enough P refl)
      where
        enough : (n : ℕ) → P ≡ n → length (body z A.mag A.neg P) ≤ 4 * 4 ^ N * P
        enough zero e = rw e (omega arith)
        enough (suc n) e = omega (arith, bits_bound z A.mag P small A.neg, worst_is N L P b c, ap (λ (k : ℕ). 4 ^ N * k) e)

    -- it ends: after it the machine is over, and its marks are those of the parts that stand
    pub whole_ends : (m : List ℕ) × (reach (4 ^ N) (begin N L P) (whole N L P A) ≡ state_at 0 pixels 0 m) × Held z A.mag 0 m
    whole_ends = (
      run.0,
      ap (λ (u : List Bool). reach (4 ^ N) (begin N L P) u) whole_is_body ∙ ap (λ (s : State). reach (4 ^ N) s (body z A.mag A.neg P)) (begin_is P A)
          ∙ runs_ends N (bits_of_arr A) (state_at P pixels 0 (start_l z)) (state_at 0 pixels 0 run.0) (body z A.mag A.neg P) run.1 refl,
      run.2,
    )

    -- under a budget: its first n bits, the smaller of n and all
    pub budget_bits : (n : ℕ) → answers_of N (bits_of_arr A) n (begin N L P) ≡ take n (whole N L P A)
    budget_bits n = stream_take n ∙ ap (λ (u : List Bool). take n u) (sym whole_is_body)

    -- the number of bits
    pub count : length (whole N L P A) ≡ sum 0 P (λ k. parts z A.mag k) + splits z A.mag 0 + nonzeros z A.mag
    count = ap (λ (u : List Bool). length u) whole_is_body ∙ bits_count z A.mag P small A.neg

    -- plane by plane: what is taken while plane k is in progress
    pub plane_bits : (k : ℕ) → k < P → during N k (begin N L P) (whole N L P A) ≡ plane z A.mag A.neg k
    plane_bits k h =
        ap (λ (u : List Bool). during N k (begin N L P) u) whole_is_body ∙ ap (λ (s : State). during N k s (body z A.mag A.neg P)) (begin_is P A)
        ∙ during_plane z (all_is N L b c) A P k (start_l z) h (start_held z (all_is N L b c) A P small)

    splits_fall : (k : ℕ) → splits z A.mag (suc k) ≤ splits z A.mag k
    unfolding splits
    splits_fall k =
        omega (
          arith,
          sum_le z.e (Q z - z.e) (λ i. ι (split_desc z A.mag (suc k) i)) (λ i. ι (split_desc z A.mag k i))
              (λ i u v. ι_mono (split_desc z A.mag (suc k) i) (split_desc z A.mag k i) (desc_shrinks z A.mag k i)),
          sum_le z.e (z.j - z.e) (λ i. ι (split_grand z A.mag (suc k) i)) (λ i. ι (split_grand z A.mag k i))
              (λ i u v. ι_mono (split_grand z A.mag (suc k) i) (split_grand z A.mag k i) (grand_shrinks z A.mag k i)),
        )

    bigs_fall : (k : ℕ) → bigs z A.mag (suc k) ≤ bigs z A.mag k
    unfolding bigs
    bigs_fall k =
        sum_le 0 (I z) (λ i. ι (big A.mag (suc k) i)) (λ i. ι (big A.mag k i))
        (λ i u v. ι_mono (big A.mag (suc k) i) (big A.mag k i) (big_mono z A.mag k i))

    -- the parts after it, the sets split in it, the coefficients found in it
    pub plane_by_plane : (k : ℕ) → k < P
        → length (during N k (begin N L P) (whole N L P A))
        ≡ parts z A.mag k + (splits z A.mag k - splits z A.mag (suc k)) + (bigs z A.mag k - bigs z A.mag (suc k))
    plane_by_plane k h =
        omega (arith, ap (λ (u : List Bool). length u) (plane_bits k h), plane_count z A.mag A.neg k, splits_fall k, bigs_fall k)

  -- the bound is reached, for each P of at least 1: every magnitude 2 ^ (P - 1)
  pub reached : (n : ℕ) (A : Arr) → ((i : ℕ) → i < 4 ^ N → A.mag i ≡ 2 ^ n) → length (whole N L (suc n) A) ≡ bound N L (suc n)
  reached n A all =
      let lower : (i : ℕ) → i < 4 ^ N → A.mag i < 2 ^ suc n = λ i u. rw (all i u) (pow-lt (le_refl _)) in
      ap (λ (u : List Bool). length u) (whole_is_body (suc n) A lower)
      ∙ bound_reached z A.mag n (λ i u. lower i (omega (arith, u, all_is N L b c)))
      (λ i u. rw (all i (omega (arith, u, all_is N L b c))) (le_refl _)) A.neg
      ∙ worst_is N L (suc n) b c
