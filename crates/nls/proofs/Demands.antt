-- What is proved of the scan, in one place. The definitions are those of specs/; each statement is proved by the theorem that it cites.
-- N and L are any sizes with L from 1 to N-1, P is any number of planes, and an array is a list of 4^N integers.
use Prim.Native.Nat.{ℕ, ◌+◌, ◌*◌, ◌^◌, ◌-◌, ◌/◌, min, ◌≤◌, ◌<◌}
use mathlib.Core.Path.{◌≡◌, subst}
use mathlib.Core.Bool.{Bool, true, cond}
use mathlib.Core.List.{List, [], ◌∷◌, ◌++◌}
use mathlib.Core.Option.{none, some}
use native.Mathlib.Omega.{arith}
use lib.IntN.{ℤ, pos, nat_abs, ◌-ℤ◌}
use lib.ListN.{length, take, replicate, get_or}
use Rattle.sizes.specs.Sizes.{all_of, coarsest_of, Sized}
use Rattle.sizes.specs.Tables.{table}
use Rattle.coef.specs.Coef.{at, magnitude, IsPlanes}
use Rattle.nls.specs.Marks.{no_mark}
use Rattle.nls.specs.Scan.{Question, State, silent, look, ask}
use Rattle.nls.specs.Stream.{answers, begin, after, stream, during, worst_body}
use Rattle.nls.specs.Parts.{sum_to, parts, part_sizes, splits, splits_in, found_in, nonzeros}
use Rattle.nls.specs.Reading.{lower, midpoint, value_by, Between, high_bits, last_plane, precision_at, values_by, precisions, planes_finished, worst_error, completes, CompletedBy}
use Rattle.nls.specs.Turns.{precision_of}
use Rattle.nls.specs.Judging.{Begins, Fits, Verdict, taken, Judged}
use Rattle.nls.proofs.Streams as streams
use Rattle.nls.proofs.Waiting as waiting
use Rattle.nls.proofs.Verdicts as verdicts
use Rattle.nls.proofs.Values as values
use Rattle.nls.proofs.Worst.{worst_some}
use Rattle.nls.proofs.Counts as counts
use Rattle.nls.proofs.Finished as finished
use Rattle.nls.proofs.Precision.Answers as answers
use Rattle.nls.proofs.Precision.Turns as turns
use Rattle.nls.proofs.Precision.OwnBits as own
use Rattle.nls.proofs.Precision.OwnBits.{known_own}
use Rattle.nls.proofs.Precision.Tight as tight
use Rattle.nls.proofs.Visited as visited
use Rattle.nls.proofs.Visited.{Passed}

module _ (N L P : ℕ) (sized : Sized N L) where
  -- ---- demand 2
  module _ (A : List ℤ) (planes : IsPlanes A P) where
    -- "The encoder writes exactly the bits of the scan, up to the budget": the smaller of the budget and the whole stream's length
    pub budget_bits : (n : ℕ) → answers N L A n (begin N L P) ≡ take n (stream N L P A)
    budget_bits n = streams.budget_bits N L sized P A planes.below n

    pub budget_length : (n : ℕ) → length (answers N L A n (begin N L P)) ≡ min n (length (stream N L P A))
    budget_length n = streams.budget_length N L sized P A planes.below n

    -- the stream is whole: after it no plane is left, and nothing is asked
    pub stream_ends : (after N L P (stream N L P A)).left ≡ 0
    stream_ends = streams.ends_left N L sized P A planes.below

  -- "A whole stream decodes to the same array": with precisions 0, all planes finished and worst error 0
  module _ (A : List ℤ) (size : length A ≡ all_of N) (planes : IsPlanes A P) where
    -- by any rule that stays within what known bits leave open, so by the one in use, `lower`, and by `midpoint`
    pub whole_by : (rule : ℕ → ℕ → ℕ) → Between rule → values_by N L P (stream N L P A) rule ≡ A
    whole_by = values.whole N L sized P A size planes

    pub whole : values_by N L P (stream N L P A) lower ≡ A
    whole = whole_by lower values.lower_between

    pub whole_midpoint : values_by N L P (stream N L P A) midpoint ≡ A
    whole_midpoint = whole_by midpoint values.midpoint_between

    pub whole_precisions : precisions N L P (stream N L P A) ≡ replicate (all_of N) 0
    whole_precisions = values.whole_precisions N L sized P A size planes

    pub whole_finished : planes_finished N L P (stream N L P A) ≡ P
    whole_finished = values.whole_finished N L sized P A size planes

    pub whole_error : worst_error N L P (stream N L P A) ≡ 0
    whole_error = values.whole_error N L sized P A size planes

  -- "a shorter one by the reconstruction rule": for every array whose stream begins with the bits u, each value is the rule at that
  -- coefficient's own bits from its precision up; the rule in use is `lower`, and `midpoint` by name
  module _ (A : List ℤ) (u : List Bool) (begins : Begins N L P A u) where
    pub cut_by : (rule : ℕ → ℕ → ℕ)
        → values_by N L P u rule ≡ table (all_of N) (λ i. value_by rule (precision_at N L P u i) (high_bits (precision_at N L P u i) (at A i)))
    cut_by = values.cut N L sized P A u begins

    pub cut : values_by N L P u lower ≡ table (all_of N) (λ i. value_by lower (precision_at N L P u i) (high_bits (precision_at N L P u i) (at A i)))
    cut = cut_by lower

    pub cut_midpoint : values_by N L P u midpoint
        ≡ table (all_of N) (λ i. value_by midpoint (precision_at N L P u i) (high_bits (precision_at N L P u i) (at A i)))
    cut_midpoint = cut_by midpoint

    -- "The bound on single errors is proved once, over any rule .." (document 02, T-07)
    module _ (rule : ℕ → ℕ → ℕ) (fair : Between rule) where
      -- "Every array whose stream begins so differs nowhere by more than the worst error."
      pub near : (i : ℕ) → i < all_of N → nat_abs (at (values_by N L P u rule) i -ℤ at A i) ≤ worst_error N L P u
      near = values.near N L sized P A u begins rule fair

      -- "each coefficient is wrong by less than 2^k of its own k" (document 02, T-04)
      pub own_near : (i : ℕ) → i < all_of N → nat_abs (at (values_by N L P u rule) i -ℤ at A i) < 2 ^ precision_at N L P u i
      own_near = values.near_own N L sized P A u begins rule fair

    -- with `lower` no value is larger in magnitude than the true one: "Midpoints make quiet partials louder than composed"
    pub lower_under : (i : ℕ) → i < all_of N → magnitude (at (values_by N L P u lower) i) ≤ magnitude (at A i)
    lower_under = values.lower_under N L sized P A u begins

    -- with `midpoint` one that is found, at a precision k > 0, is wrong by at most 2^(k-1)
    pub midpoint_half : (i : ℕ) → i < all_of N → 1 ≤ precision_at N L P u i → (at (values_by N L P u midpoint) i ≡ pos 0 → ⊥)
        → nat_abs (at (values_by N L P u midpoint) i -ℤ at A i) ≤ 2 ^ (precision_at N L P u i - 1)
    midpoint_half = values.midpoint_half N L sized P A u begins

    -- "Values don't change": they are those of a map that notes each coefficient's own bits alone
    pub values_before : (rule : ℕ → ℕ → ℕ)
        → values_by N L P u rule
        ≡ table (all_of N) (λ i. value_by rule (min (get_or (known_own N L P u).planes i 0) (last_plane N L P u)) (at (known_own N L P u).bits i))
    values_before rule = own.values_before N L sized P A u begins rule

    -- the precision from the scan's state alone
    pub precision_of_lem : (i : ℕ) → i < all_of N → precision_at N L P u i ≡ precision_of (all_of N) (after N L P u) i
    precision_of_lem i h = turns.precision_of_lem N L sized P A u begins i h

  -- a plane's end changes no precision: a bit more changes those alone that its answer makes known down to the plane in progress, whether or
  -- not it ends that plane
  pub precision_step : (A : List ℤ) (u : List Bool) (a : Bool) → Begins N L P A (u ++ (a ∷ [])) → (q : Question) → ask (all_of N) (after N L P u) ≡ some q → (i : ℕ) → i < all_of N
      → precision_at N L P (u ++ (a ∷ [])) i ≡ cond (completes N L (after N L P u).pass q a i) ((after N L P u).left - 1) (precision_at N L P u i)
  precision_step = answers.precision_step N L P sized

  -- the map is tight: where a place has precision k > 0, two arrays that both begin with the bits differ there by at least 2^(k-1)
  pub own_tight : (u : List Bool) → Fits N L P u → (i : ℕ) → i < all_of N → 1 ≤ precision_at N L P u i
      → (A : List ℤ) × (B : List ℤ) × Begins N L P A u × Begins N L P B u × (2 ^ (precision_at N L P u i - 1) ≤ nat_abs (at A i -ℤ at B i))
  own_tight = tight.own_tight N L sized P

  -- "A body is refused by 12 or 13 exactly when no array of that N, L and P has a stream that begins with its usable bits."
  -- Every list of bits has one verdict and no other, and it is `taken` exactly where some array fits.
  pub judged : (u : List Bool) → (v : Verdict) × Judged N L P u v × ((w : Verdict) → Judged N L P u w → w ≡ v)
  judged u = (verdicts.verdict N L P u, verdicts.verdict_judged N L sized P u, λ w h. verdicts.judged_only N L sized P u w (verdicts.verdict N L P u) h (verdicts.verdict_judged N L sized P u))

  pub refused_exactly : (u : List Bool) (v : Verdict) → Judged N L P u v → (v ≡ taken → Fits N L P u) × (Fits N L P u → v ≡ taken)
  refused_exactly u v h =
      ((λ e. subst (λ (w : Verdict). Judged N L P u w) e h), λ fits. verdicts.judged_only N L sized P u v taken h fits)

  -- ---- demand 3
  module _ (A : List ℤ) (planes : IsPlanes A P) where
    -- "The bit count of an uncut stream is parts standing, added over planes, plus splits plus nonzeros"
    pub count : length (stream N L P A) ≡ sum_to P (λ b. parts N L A b) + splits N L A 0 + nonzeros N L A
    count = counts.count N L P sized A planes

    -- the same plane by plane: parts after it, sets split in it, coefficients found in it
    pub plane_count : (b : ℕ) → b < P
        → length (during N b (begin N L P) (stream N L P A)) ≡ parts N L A b + splits_in N L A b + found_in N L A b
    plane_count b h = counts.plane_count N L P sized A planes b h

    -- "it has the stated bound": I(P+1) + (I-D)/4 + (I-4D)/16 for P of at least 1
    pub bound : 1 ≤ P → sum_to P (λ b. parts N L A b) + splits N L A 0 + nonzeros N L A
        ≤ all_of N * (P + 1) + (all_of N - coarsest_of N L) / 4 + (all_of N - 4 * coarsest_of N L) / 16
    bound h = omega (arith, counts.bound N L P sized A h, worst_some N L P h)

    -- and no number of answers is longer than the worst body
    pub no_more : (n : ℕ) → length (answers N L A n (begin N L P)) ≤ worst_body N L P
    no_more n = omega (arith, budget_length A planes n, counts.stream_bound N L P sized A planes)

  -- "A line for each finished plane: plane, bits read in it, parts standing, sets split in it", of a whole stream or a cut one: the figures
  -- that the values give, by any such rule, are those of every array whose stream begins with the bits u, and number the bits of u that
  -- plane b took
  module _ (A : List ℤ) (u : List Bool) (begins : Begins N L P A u) (b : ℕ) (ended : last_plane N L P u ≤ b) (rule : ℕ → ℕ → ℕ) (fair : Between rule) where
    pub plane_parts : parts N L (values_by N L P u rule) b ≡ parts N L A b
    plane_parts = finished.parts_shown N L sized P A u begins b ended rule fair

    pub plane_splits : splits_in N L (values_by N L P u rule) b ≡ splits_in N L A b
    plane_splits = finished.splits_shown N L sized P A u begins b ended rule fair

    pub plane_bits : b < P
        → length (during N b (begin N L P) u)
        ≡ parts N L (values_by N L P u rule) b + splits_in N L (values_by N L P u rule) b + found_in N L (values_by N L P u rule) b
    plane_bits h = finished.bits_shown N L sized P A u begins b ended rule fair h

  -- "and the bound is reached for each N, L, P": by 2^(P-1) everywhere
  pub reached : 1 ≤ P
      → (length {A = ℤ} (replicate (all_of N) (pos (2 ^ (P - 1)))) ≡ all_of N)
      × IsPlanes (replicate (all_of N) (pos (2 ^ (P - 1)))) P
      × (length (stream N L P (replicate (all_of N) (pos (2 ^ (P - 1))))) ≡ worst_body N L P)
  reached h = counts.reached N L P sized h

  -- "The sizes of the parts that stand always add up to I."
  pub sizes_add_up : (A : List ℤ) (b : ℕ) → part_sizes N L A b ≡ all_of N
  sizes_add_up A b = counts.sizes_add_up N L sized A b

-- ---- on any bits, whether or not an array fits them
module _ (N L P : ℕ) (sized : Sized N L) where
  -- "Silent moves before that bit have been made": settling always ends, no state after bits moves silently
  pub settles : (u : List Bool) (t : State) → look (all_of N) (after N L P u) ≡ silent t → ⊥
  settles u t e = streams.settles N L P u t e

  -- and nothing is asked exactly where no plane is left
  pub ended_none : (u : List Bool)
      → ((after N L P u).left ≡ 0 → ask (all_of N) (after N L P u) ≡ none) × (ask (all_of N) (after N L P u) ≡ none → (after N L P u).left ≡ 0)
  ended_none u = (streams.left_asks_none N L P u, streams.asks_none_left N L P u)

  -- "A test bit 1 whose sign is missing has changed no mark."
  pub sign_missing : (u : List Bool) (a : Bool)
      → (after N L P (u ++ (a ∷ []))).pending ≡ true → (after N L P (u ++ (a ∷ []))).marks ≡ (after N L P u).marks
  sign_missing = waiting.waiting_marks N L P

  -- "A coefficient's precision k: b if its own bit of the plane b in progress was read (with its sign, where one follows)", and "also .. when a
  -- set that holds it was tested 0 in the plane in progress": that plane is left - 1
  pub precision_read : (u : List Bool) (i k : ℕ) → i < all_of N → CompletedBy N L P u i k → precision_at N L P u i + 1 ≡ (after N L P u).left
  precision_read = answers.precision_read N L P

  -- "else the number of the last finished plane, or P if none"
  pub precision_unread : (u : List Bool) (i : ℕ) → i < all_of N → ((k : ℕ) → CompletedBy N L P u i k → ⊥) → precision_at N L P u i ≡ last_plane N L P u
  precision_unread = answers.precision_unread N L P

  -- "Skips: MIP, MNP, MSP, MCP 1; MD 4; MG 16; MNk 4^k": none for mark 0, and in no state of a run is a place looked at that has it
  pub no_mark_0 : (s : State) → Passed N L P s → s.place < all_of N → get_or s.marks s.place 0 ≡ no_mark → ⊥
  no_mark_0 = visited.no_mark_0 N L sized P

  -- "MNk is k+5 .. One byte a place": in a table of 4^N marks k is at most N-1
  pub codes_fit : (u : List Bool) (i : ℕ) → get_or (after N L P u).marks i 0 ≤ N + 4
  codes_fit = streams.codes_fit N L sized P
