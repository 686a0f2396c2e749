-- A finished plane of a cut stream: what the values say of it is so of every array whose stream begins so, and all its bits were read.
use Prim.Native.Nat.{ℕ, suc, ◌+◌, ◌*◌, ◌-◌, ◌/◌, ◌^◌, ◌≤◌, ◌<◌}
use mathlib.Core.Path.{◌≡◌, refl, sym, ap, ap₂, fun_ext, ◌∙◌}
use mathlib.Core.Bool.{Bool, true, false, not, ◌&&◌, ◌||◌, cond}
use mathlib.Core.List.{List, [], ◌∷◌, ◌++◌, append-nil}
use mathlib.Core.Logic.{⊎_elim}
use native.Mathlib.Nat.{add-mul, mul-le-mul_right, one-le-pow, div-eq_of_lt-le, le-div_iff_mul-le}
use native.Mathlib.Omega.{arith}
use borrow.Author.Tests.{leb-true, le-leb, ne_eqb, eqb-true, eqb-false}
use lib.Dec.{eqb, leb, ltb}
use lib.IntN.{ℤ, pos}
use lib.ListN.{length, drop, take-append-drop, get_or-eq_default}
use lib.Pow.{shr-shr}
use Rattle.sizes.specs.Sizes.{all_of, coarsest_of, Sized}
use Rattle.sizes.proofs.Tables.{table_at, table_length}
use Rattle.coef.specs.Coef.{at, mag_at, magnitude, negative, signed}
use Rattle.coef.proofs.Laws.{magnitude_signed}
use Rattle.tree.specs.Tree.{desc, grand, any_in}
use Rattle.nls.specs.Scan.{State, Look, over, silent, asks, Pass, pixels, sets, refining, look, tell, passes_left, moves_left, settle, next}
use Rattle.nls.specs.Stream.{begin, after, stream, during}
use Rattle.nls.specs.Parts as spec
use Rattle.nls.specs.Parts.{count_to, found, desc_split, grand_split, stands_alone, desc_stands, grand_stands, parts, splits, founds, splits_in, found_in}
use Rattle.nls.specs.Reading.{value_by, Between, high_bits, last_plane, precision_at, values_by}
use Rattle.nls.specs.Judging.{Begins}
use Rattle.nls.proofs.Booleans.{same_bool}
use Rattle.nls.proofs.Counting.Sums.{order}
use Rattle.nls.proofs.Machine.Run.{Falls, falls, tell_left}
use Rattle.nls.proofs.Joined.Planes.{during_append}
use Rattle.nls.proofs.Kept.{AfterMove, settle_keeps}
use Rattle.nls.proofs.HighBits.{high_magnitude}
use Rattle.nls.proofs.Known.{precision_left}
use Rattle.nls.proofs.Values.{cut}
use Rattle.nls.proofs.Counts.{plane_count}

-- ---- numbers that agree from one bit up: from a higher bit too, and either both reach its level or neither does
higher : (k c x y : ℕ) → k ≤ c → x / 2 ^ k ≡ y / 2 ^ k → x / 2 ^ c ≡ y / 2 ^ c
higher k c x y h e = by x ∙ ap (λ (q : ℕ). q / 2 ^ (c - k)) e ∙ sym (by y)
  where
    by : (n : ℕ) → n / 2 ^ c ≡ n / 2 ^ k / 2 ^ (c - k)
    by n = ap (λ (j : ℕ). n / 2 ^ j) {x = c} {y = k + (c - k)} (omega arith) ∙ sym (shr-shr n k (c - k))

reach_same : (c x y : ℕ) → x / 2 ^ c ≡ y / 2 ^ c → leb (2 ^ c) x ≡ leb (2 ^ c) y
reach_same c x y e = same_bool (leb (2 ^ c) x) (leb (2 ^ c) y) (on x y e) (on y x (sym e))
  where
    on : (m n : ℕ) → m / 2 ^ c ≡ n / 2 ^ c → leb (2 ^ c) m ≡ true → leb (2 ^ c) n ≡ true
    on m n q t =
        let some : 1 ≤ m / 2 ^ c = (le-div_iff_mul-le {k = 2 ^ c} {x = 1} {y = m} (one-le-pow c 2 (omega arith))).1 (omega (arith, leb-true (2 ^ c) m t)) in
        le-leb (2 ^ c) n (omega (arith, (le-div_iff_mul-le {k = 2 ^ c} {x = 1} {y = n} (one-le-pow c 2 (omega arith))).0 (omega (arith, some, q))))

-- the value of a number's known bits has these bits
value_high : (rule : ℕ → ℕ → ℕ) → Between rule → (k : ℕ) (z : ℤ) → magnitude (value_by rule k (high_bits k z)) / 2 ^ k ≡ magnitude z / 2 ^ k
unfolding value_by
value_high rule fair k z = on (eqb m 0) refl
  where
    m : ℕ
    m = magnitude (high_bits k z)

    q : ℕ
    q = magnitude z / 2 ^ k

    one : 1 ≤ 2 ^ k
    one = one-le-pow k 2 (omega arith)

    within : (r : ℕ) → m ≤ r → r < m + 2 ^ k → r / 2 ^ k ≡ q
    within r a b = div-eq_of_lt-le {k = q} (2 ^ k) {m = r} (omega (arith, high_magnitude k z)) (omega (arith, high_magnitude k z, add-mul q 1 (2 ^ k)))

    on : (t : Bool) → eqb m 0 ≡ t → magnitude (cond t (pos 0) (signed (negative (high_bits k z)) (rule k m))) / 2 ^ k ≡ q
    on true e = within 0 (omega (arith, eqb-true m 0 e)) (omega (arith, one))
    on false e =
        let some : 1 ≤ m = omega (arith, eqb-false m 0 e) in
        rw magnitude_signed (within (rule k m) (fair.low k m some) (omega (arith, fair.high k m some, one)))

-- ---- two arrays whose coefficients at level 2^b are at the same places: the same sets are split and the same parts stand
count_same : (n : ℕ) (p q : ℕ → Bool) → ((i : ℕ) → p i ≡ q i) → count_to n p ≡ count_to n q
count_same n p q h = ap (λ (r : ℕ → Bool). count_to n r) (fun_ext h)

module _ (N L : ℕ) (A B : List ℤ) (b : ℕ) (same : (i : ℕ) → found N L A b i ≡ found N L B b i) where
  desc_same : (i : ℕ) → desc_split N L A b i ≡ desc_split N L B b i
  unfolding desc_split
  desc_same i = ap (λ (p : ℕ → Bool). any_in p (desc N L i)) (fun_ext same)

  grand_same : (i : ℕ) → grand_split N L A b i ≡ grand_split N L B b i
  unfolding grand_split
  grand_same i = ap (λ (p : ℕ → Bool). any_in p (grand N L i)) (fun_ext same)

  alone_stands : (i : ℕ) → stands_alone N L A b i ≡ stands_alone N L B b i
  unfolding stands_alone
  alone_stands i = ap (λ (t : Bool). ltb i (coarsest_of N L) || t) (desc_same (i / 4))

  desc_stands_lem : (i : ℕ) → desc_stands N L A b i ≡ desc_stands N L B b i
  unfolding desc_stands
  desc_stands_lem i =
      ap₂ (λ (s t : Bool). spec.not_empty (desc N L i) && (not s && (ltb i (coarsest_of N L) || t))) (desc_same i) (grand_same (i / 4))

  grand_stands_lem : (i : ℕ) → grand_stands N L A b i ≡ grand_stands N L B b i
  unfolding grand_stands
  grand_stands_lem i = ap₂ (λ (s t : Bool). spec.not_empty (grand N L i) && (s && not t)) (desc_same i) (grand_same i)

  parts_same : parts N L A b ≡ parts N L B b
  unfolding parts
  parts_same = omega (arith, count_same (all_of N) _ _ alone_stands, count_same (all_of N) _ _ desc_stands_lem, count_same (all_of N) _ _ grand_stands_lem)

  splits_same : splits N L A b ≡ splits N L B b
  unfolding splits
  splits_same = omega (arith, count_same (all_of N) _ _ desc_same, count_same (all_of N) _ _ grand_same)

  founds_same : founds N L A b ≡ founds N L B b
  unfolding founds
  founds_same = count_same (all_of N) _ _ same

-- ---- planes that are left never grow in number, so a finished plane takes no more bits
passes_few : (I : ℕ) (p : Pass) → passes_left I p ≤ 2
passes_few I pixels = omega arith
passes_few I sets = omega arith
passes_few I refining = omega arith

-- fewer moves, no more planes
fewer_left : (I : ℕ) (s t : State) → moves_left I t < moves_left I s → t.left ≤ s.left
fewer_left I s t h = ⊎_elim (λ l. l) (λ l. absurd (omega (arith, h, over_all l))) (order t.left s.left)
  where
    over_all : s.left < t.left → moves_left I s ≤ moves_left I t
    over_all l =
        omega (
          arith,
          passes_few I s.pass,
          add-mul (s.left * 3 + passes_left I s.pass) 1 (I + 2),
          mul-le-mul_right {m = s.left * 3 + passes_left I s.pass + 1} {n = t.left * 3 + passes_left I t.pass} (I + 2)
              (omega (arith, l, passes_few I s.pass)),
        )

module _ (b : ℕ) where
  abbrev pub Ended : State → Type 0
  Ended s = s.left ≤ b

  pub settle_ended : (I : ℕ) (s : State) → Ended s → Ended (settle I s)
  settle_ended I s h = settle_keeps I Ended (λ t e. on t e (look I t) (falls I t)) s h
    where
      on : (t : State) → Ended t → (k : Look) → Falls I (moves_left I t) k → AfterMove I Ended k
      on t e over f = tt
      on t e (silent r) f = omega (arith, e, fewer_left I t r f)
      on t e (asks q) f = tt

module _ (N b : ℕ) where
  pub next_ended : (s : State) (a : Bool) → Ended b s → Ended b (next (all_of N) s a)
  unfolding next
  next_ended s a h =
      settle_ended b (all_of N) (tell (all_of N) s a) (omega (arith, tell_left (all_of N) s.left s.pass s.place s.pending s.marks a))

  ended_takes : (s : State) (u : List Bool) → Ended b s → during N b s u ≡ []
  unfolding during
  ended_takes s [] h = refl
  ended_takes s (a ∷ u) h =
      rw (ne_eqb s.left (suc b) (λ e. omega (arith, e, h))) (ended_takes (next (all_of N) s a) u (next_ended s a h))

-- ---- a cut stream, values by any rule that stays within what the known bits leave open, and a finished plane
module _ (N L : ℕ) (z : Sized N L) (P : ℕ) (A : List ℤ) (u : List Bool) (begins : Begins N L P A u) where
  module _ (rule : ℕ → ℕ → ℕ) (fair : Between rule) where
    -- from a finished plane up a value has the bits of every array that fits
    pub same_high : (c : ℕ) → last_plane N L P u ≤ c → (i : ℕ) → mag_at (values_by N L P u rule) i / 2 ^ c ≡ mag_at A i / 2 ^ c
    same_high c h i = ⊎_elim past inside (order (all_of N) i)
      where
        inside : i < all_of N → mag_at (values_by N L P u rule) i / 2 ^ c ≡ mag_at A i / 2 ^ c
        inside l =
            ap (λ (y : ℤ). magnitude y / 2 ^ c) (ap (λ (v : List ℤ). at v i) (cut N L z P A u begins rule) ∙ table_at (all_of N) _ i (pos 0) l)
            ∙ higher (precision_at N L P u i) c _ _ (omega (arith, h, precision_left N L P u i)) (value_high rule fair (precision_at N L P u i) (at A i))

        past : all_of N ≤ i → mag_at (values_by N L P u rule) i / 2 ^ c ≡ mag_at A i / 2 ^ c
        past l =
            let long : length (values_by N L P u rule) ≡ all_of N = table_length (all_of N) _ in
            ap (λ (y : ℤ). magnitude y / 2 ^ c)
            (get_or-eq_default (values_by N L P u rule) (pos 0) {n = i} (omega (arith, l, long))
            ∙ sym (get_or-eq_default A (pos 0) {n = i} (omega (arith, l, begins.size))))

    found_same : (c : ℕ) → last_plane N L P u ≤ c → (i : ℕ) → found N L (values_by N L P u rule) c i ≡ found N L A c i
    unfolding found
    found_same c h i = reach_same c (mag_at (values_by N L P u rule) i) (mag_at A i) (same_high c h i)

  module _ (b : ℕ) (ended : last_plane N L P u ≤ b) where
    -- "bits read in it": all that the array's whole stream has in that plane
    pub read_in : during N b (begin N L P) u ≡ during N b (begin N L P) (stream N L P A)
    read_in =
        sym (append-nil (during N b (begin N L P) u))
        ∙ ap (λ (r : List Bool). during N b (begin N L P) u ++ r) (sym (ended_takes N b (after N L P u) (drop (length u) (stream N L P A)) ended))
        ∙ sym (during_append N b (begin N L P) u (drop (length u) (stream N L P A)))
        ∙ ap (λ (r : List Bool). during N b (begin N L P) r) whole
      where
        whole : u ++ drop (length u) (stream N L P A) ≡ stream N L P A
        whole =
            ap (λ (r : List Bool). r ++ drop (length u) (stream N L P A)) (sym begins.same) ∙ take-append-drop (length u) (stream N L P A)

    module _ (rule : ℕ → ℕ → ℕ) (fair : Between rule) where
      -- "parts standing"
      pub parts_shown : parts N L (values_by N L P u rule) b ≡ parts N L A b
      parts_shown = parts_same N L (values_by N L P u rule) A b (found_same rule fair b ended)

      -- "sets split in it"
      pub splits_shown : splits_in N L (values_by N L P u rule) b ≡ splits_in N L A b
      splits_shown =
          ap₂ (λ (x y : ℕ). x - y) (splits_same N L (values_by N L P u rule) A b (found_same rule fair b ended))
          (splits_same N L (values_by N L P u rule) A (suc b) (found_same rule fair (suc b) (omega arith)))

      pub found_shown : found_in N L (values_by N L P u rule) b ≡ found_in N L A b
      found_shown =
          ap₂ (λ (x y : ℕ). x - y) (founds_same N L (values_by N L P u rule) A b (found_same rule fair b ended))
          (founds_same N L (values_by N L P u rule) A (suc b) (found_same rule fair (suc b) (omega arith)))

      -- the bits read in it number what the values say
      pub bits_shown : b < P
          → length (during N b (begin N L P) u)
          ≡ parts N L (values_by N L P u rule) b + splits_in N L (values_by N L P u rule) b + found_in N L (values_by N L P u rule) b
      bits_shown h =
          omega (
            arith,
            ap (λ (r : List Bool). length r) read_in,
            plane_count N L P z A begins.planes b h,
            parts_shown,
            splits_shown,
            found_shown,
          )
