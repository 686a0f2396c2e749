-- What the scan's machine keeps, the visits keep: for any source of answers, and any P over the machine's state and the source's.
use Prim.Native.Nat.{ℕ, suc, ◌+◌, ◌*◌, ◌/◌, ◌^◌, ◌≤◌, ◌<◌}
use mathlib.Core.Path.{◌≡◌, refl, sym, ap, subst, ◌∙◌}
use mathlib.Core.List.{List}
use mathlib.Core.Bool.{Bool, true, false, cond}
use native.Mathlib.Omega.{arith}
use lib.ListN.{set, get_or}
use lib.Seq.{set-get_or}
use lib.Dec.{ltb, eqb}
use borrow.Author.Tests.{lt-ltb, ltb-true, ltb-false, eqb-true}
use Rattle.sizes.specs.Sizes.{least_n, most_n, all_of}
use Rattle.sizes.proofs.Laws.{all_most}
use Rattle.nls.specs.Marks.{skip, set_skip, split_grand}
use Rattle.nls.specs.Scan.{Question, bit_of, sign_of, in_desc, in_grand, Pass, pixels, sets, refining, State, state_at, silent, asks, look, tell}
use Rattle.nls.specs.Turns.{standing}
use Rattle.nls.proofs.Machine.Run.{skip_pos, sskip_pos}
use Rattle.nls.proofs.Joined.Codes.{Codes, set_low, codes_desc, codes_grand, far}
use Rattle.walk.specs.Scans.{Seen, halt, refuse, move}
use Rattle.marking.specs.Marking.{codes_end, skip_of, set_skip_of, desc_split_marks, grand_split_marks}
use Rattle.walk.specs.Visits.{Source, more, got, Sv, sv, one_seen, test_seen, pixels_seen, sets_seen, refining_seen}
use Rattle.marking.proofs.Laws.{skip_is, set_skip_is, grand_is}

abbrev pub state : ℕ → Pass → ℕ → Bool → List ℕ → State
state l p i e m = record { left = l; pass = p; place = i; pending = e; marks = m }

-- a 0 to a question of the set pass has not been refused
abbrev pub Free : {O : Type 0} → Source O → ℕ → Pass → ℕ → Bool → Question → List ℕ → O → Type 0
Free K b pixels i e q m o = Unit {0}
Free K b refining i e q m o = Unit {0}
Free K b sets i true q m o = Unit {0}
Free K b sets i false q m o = K.next q o ≡ false → K.bars b q i m o ≡ false

-- the questions that are asked are about places below I, and sets that have an entry in the summaries
abbrev pub Proper : ℕ → Question → Type 0
Proper I (bit_of i b) = i < I
Proper I (sign_of i) = i < I
Proper I (in_desc g b) = 4 * g < I
Proper I (in_grand g b) = 16 * g < I

-- P is kept by a silent move and by an answer
pub record Keeps {O : Type 0} (K : Source O) (I : ℕ) (P : State → O → Type 0) : Type 0 where
  pub silence : (s r : State) (o : O) → P s o → look I s ≡ silent r → P r o
  pub told : (b : ℕ) (p : Pass) (i : ℕ) (e : Bool) (m : List ℕ) (q : Question) (o : O) → P (state (suc b) p i e m) o → look I (state (suc b) p i e m) ≡ asks q
      → i < I → Proper I q → K.used o < K.budget → Free K b p i e q m o → P (tell I (state (suc b) p i e m) (K.next q o)) (got K p b q o)
  pub counts : (p : Pass) (b : ℕ) (q : Question) (x : Bool) (o : O) → K.used (K.keep p b q x o) ≡ K.used o + 1

-- the scan has stopped, with so many planes not finished, where it stands: a question is unanswered and no bit is left
pub data Stopped {O : Type 0} (K : Source O) (I : ℕ) (P : State → O → Type 0) : ℕ → ℕ → Sv O → Type 0 where
  dry : (s : State) (q : Question) (o : O) → P s o → look I s ≡ asks q → K.budget ≤ K.used o → K.used o ≤ K.budget → (l : ℕ) → s.left ≡ l
      → (now : ℕ) → standing I s.pass s.place ≡ now → Stopped K I P l now (sv s.marks o)

-- or the 0 that would answer it is refused
pub data Barred {O : Type 0} (K : Source O) (I : ℕ) (P : State → O → Type 0) : ℕ → Sv O → Type 0 where
  barred : (b i : ℕ) (q : Question) (m : List ℕ) (o : O) → P (state_at (suc b) sets i m) o → look I (state_at (suc b) sets i m) ≡ asks q → i < I → K.used o < K.budget → K.next q o ≡ false
      → K.bars b q i m o ≡ true → Barred K I P (suc b) (sv m o)

-- a state of the code where the machine stands
pub record Stands {O : Type 0} (K : Source O) (N : ℕ) (P : State → O → Type 0) (l : ℕ) (p : Pass) (i : ℕ) (v : Sv O) : Type 0 where
  pub held : P (state_at l p i v.marks) v.rest
  pub codes : Codes N v.marks
  pub cap : K.used v.rest ≤ K.budget

pub record Moved {O : Type 0} (K : Source O) (N : ℕ) (P : State → O → Type 0) (b : ℕ) (p : Pass) (i n j : ℕ) (v : Sv O) : Type 0 where
  pub stands : Stands K N P (suc b) p j v
  pub forth : i ≤ j
  pub spent : n ≤ K.used v.rest
  pub falls : i + n < j + K.used v.rest

abbrev pub Good : {O : Type 0} → Source O → ℕ → (State → O → Type 0) → ℕ → Pass → ℕ → ℕ → Seen (Sv O) → Type 0
Good K N P b p i n (halt v) = Stopped K (4 ^ N) P (suc b) (standing (4 ^ N) p i) v
Good K N P b p i n (refuse v) = Barred K (4 ^ N) P (suc b) v
Good K N P b p i n (move j v) = Moved K N P b p i n j v

module _ {O : Type 0} (K : Source O) (N : ℕ) (P : State → O → Type 0) (w : Keeps K (4 ^ N) P) (two : least_n ≤ N) (most : N ≤ most_n) where
  abbrev pub I : ℕ
  I = 4 ^ N

  abbrev pub G : ℕ → Pass → ℕ → ℕ → Seen (Sv O) → Type 0
  G b p i n s = Good K N P b p i n s

  pub small : 4 ^ N ≤ all_of most_n
  small = all_most N most

  -- one more bit
  step : (b : ℕ) (p : Pass) (i j : ℕ) (q : Question) (m : List ℕ) (o : O) → P (state_at (suc b) p j m) (got K p b q o) → Codes N m → K.used o < K.budget → i ≤ j
      → G b p i (K.used o) (move j (sv m (got K p b q o)))
  step b p i j q m o h v l f =
      let c : K.used (got K p b q o) ≡ K.used o + 1 = w.counts p b q (K.next q o) o in
      record { stands = record { held = h; codes = v; cap = omega (arith, c, l) }; forth = f; spent = omega (arith, c); falls = omega (arith, c, f) }

  -- no bit
  still : (b : ℕ) (p : Pass) (i j : ℕ) (m : List ℕ) (o : O) → P (state_at (suc b) p j m) o → Codes N m → K.used o ≤ K.budget → i < j
      → G b p i (K.used o) (move j (sv m o))
  still b p i j m o h v l f = record { stands = record { held = h; codes = v; cap = l }; forth = omega (arith, f); spent = omega arith; falls = omega (arith, f) }

  -- what `told` gives at an answer
  told_as : (b : ℕ) (p : Pass) (i : ℕ) (e : Bool) (m : List ℕ) (q : Question) (o : O) (a : Bool) (r : State) → K.next q o ≡ a → tell I (state (suc b) p i e m) a ≡ r
      → P (state (suc b) p i e m) o → look I (state (suc b) p i e m) ≡ asks q → i < I → Proper I q → K.used o < K.budget → Free K b p i e q m o → P r (got K p b q o)
  told_as b p i e m q o a r z y h k i₁ x l f =
      subst (λ (s : State). P s (got K p b q o)) (ap (λ (a : Bool). tell I (state (suc b) p i e m) a) z ∙ y) (w.told b p i e m q o h k i₁ x l f)

  free_pending : (b : ℕ) (p : Pass) (i : ℕ) (q : Question) (m : List ℕ) (o : O) → Free K b p i true q m o
  free_pending b pixels i q m o = tt
  free_pending b sets i q m o = tt
  free_pending b refining i q m o = tt

  -- a 1 is never refused, and no 0 where the test fails
  free_one : (b : ℕ) (p : Pass) (i : ℕ) (q : Question) (m : List ℕ) (o : O) → K.next q o ≡ true → Free K b p i false q m o
  free_one b pixels i q m o e = tt
  free_one b refining i q m o e = tt
  free_one b sets i q m o e = λ f. (let z : ◌≡◌ {A = ℕ} 0 1 = cc in absurd (omega (arith, z)))

  -- a coefficient by itself; `bar`: its 0 is refused
  module _ (b : ℕ) (p : Pass) (i : ℕ) (bar : Bool) (m : List ℕ) (o : O) (h : P (state_at (suc b) p i m) o) (v : Codes N m) (l : i < I) (c : K.used o ≤ K.budget)
      (a : look I (state_at (suc b) p i m) ≡ asks (bit_of i b)) (f : bar ≡ false → Free K b p i false (bit_of i b) m o)
      (g : bar ≡ true → K.next (bit_of i b) o ≡ false → K.used o < K.budget → Barred K I P (suc b) (sv m o))
      (e₀ : tell I (state_at (suc b) p i m) false ≡ state_at (suc b) p (i + 1) (set m i 1)) (e₁ : tell I (state_at (suc b) p i m) true ≡ state (suc b) p i true m) where
    abbrev o₁ : O
    o₁ = got K p b (bit_of i b) o

    n₁ : K.used o₁ ≡ K.used o + 1
    n₁ = w.counts p b (bit_of i b) (K.next (bit_of i b) o) o

    one_sign : (x : Bool) → more K o₁ ≡ x → P (state (suc b) p i true m) o₁ → K.used o < K.budget
        → G b p i (K.used o) (cond x (move (i + 1) (sv (set m i 2) (got K p b (sign_of i) o₁))) (halt (sv m o₁)))
    one_sign true y g d =
        let d₁ : K.used o₁ < K.budget = ltb-true (K.used o₁) K.budget y in
        let n₂ : K.used (got K p b (sign_of i) o₁) ≡ K.used o₁ + 1 = w.counts p b (sign_of i) (K.next (sign_of i) o₁) o₁ in
        record {
          stands = record {
            held = w.told b p i true m (sign_of i) o₁ g refl l l d₁ (free_pending b p i (sign_of i) m o₁);
            codes = set_low N two m i 2 (omega arith) v;
            cap = omega (arith, n₂, d₁);
          };
          forth = omega arith;
          spent = omega (arith, n₁, n₂);
          falls = omega (arith, n₁, n₂);
        }
    one_sign false y g d =
        dry (state (suc b) p i true m) (sign_of i) o₁ g refl (ltb-false (K.used o₁) K.budget y) (omega (arith, n₁, d)) (suc b) refl _ refl

    one_zero : (x : Bool) → bar ≡ x → K.next (bit_of i b) o ≡ false → K.used o < K.budget
        → G b p i (K.used o) (cond x (refuse (sv m o)) (move (i + 1) (sv (set m i 1) o₁)))
    one_zero true y z d = g y z d
    one_zero false y z d =
        step b p i (i + 1) (bit_of i b) (set m i 1) o (told_as b p i false m (bit_of i b) o false (state_at (suc b) p (i + 1) (set m i 1)) z e₀ h a l l d (f y)) (set_low N two m i 1 (omega arith) v) d (omega arith)

    one_bit : (x : Bool) → K.next (bit_of i b) o ≡ x → K.used o < K.budget
        → G b p i (K.used o) (cond x (cond (more K o₁) (move (i + 1) (sv (set m i 2) (got K p b (sign_of i) o₁))) (halt (sv m o₁)))
        (cond bar (refuse (sv m o)) (move (i + 1) (sv (set m i 1) o₁))))
    one_bit true y d = one_sign (more K o₁) refl (told_as b p i false m (bit_of i b) o true (state (suc b) p i true m) y e₁ h a l l d (free_one b p i (bit_of i b) m o y)) d
    one_bit false y d = one_zero bar refl y d

    one_good : G b p i (K.used o) (one_seen K p b i bar m o)
    unfolding one_seen
    one_good = go (more K o) refl
      where
        go : (x : Bool) → more K o ≡ x
            → G b p i (K.used o) (cond x (cond (K.next (bit_of i b) o) (cond (more K o₁) (move (i + 1) (sv (set m i 2) (got K p b (sign_of i) o₁))) (halt (sv m o₁)))
            (cond bar (refuse (sv m o)) (move (i + 1) (sv (set m i 1) o₁)))) (halt (sv m o)))
        go true y = one_bit (K.next (bit_of i b) o) refl (ltb-true (K.used o) K.budget y)
        go false y = dry (state_at (suc b) p i m) (bit_of i b) o h a (ltb-false (K.used o) K.budget y) c (suc b) refl _ refl

  -- a set's test
  module _ (b i : ℕ) (q : Question) (d : ℕ) (m m₁ : List ℕ) (o : O) (h : P (state_at (suc b) sets i m) o) (v : Codes N m) (v₁ : Codes N m₁) (c : K.used o ≤ K.budget) (li : i < I)
      (a : look I (state_at (suc b) sets i m) ≡ asks q) (u : Proper I q)
      (e₀ : tell I (state_at (suc b) sets i m) false ≡ state_at (suc b) sets (i + d) m) (e₁ : tell I (state_at (suc b) sets i m) true ≡ state_at (suc b) sets i m₁) where
    abbrev bar : Bool
    bar = K.bars b q i m o

    test_good : G b sets i (K.used o) (test_seen K b i q d bar m₁ m o)
    unfolding test_seen
    test_good = go (more K o) refl
      where
        zero_bit : (x : Bool) → bar ≡ x → K.next q o ≡ false → K.used o < K.budget → G b sets i (K.used o) (cond x (refuse (sv m o)) (move (i + d) (sv m (got K sets b q o))))
        zero_bit true z y l = barred b i q m o h a li l y z
        zero_bit false z y l = step b sets i (i + d) q m o (told_as b sets i false m q o false (state_at (suc b) sets (i + d) m) y e₀ h a li u l (λ _. z)) v l (omega arith)

        bit : (x : Bool) → K.next q o ≡ x → K.used o < K.budget
            → G b sets i (K.used o) (cond x (move i (sv m₁ (got K sets b q o))) (cond bar (refuse (sv m o)) (move (i + d) (sv m (got K sets b q o)))))
        bit true y l = step b sets i i q m₁ o (told_as b sets i false m q o true (state_at (suc b) sets i m₁) y e₁ h a li u l (free_one b sets i q m o y)) v₁ l (omega arith)
        bit false y l = zero_bit bar refl y l

        go : (x : Bool) → more K o ≡ x
            → G b sets i (K.used o) (cond x (cond (K.next q o) (move i (sv m₁ (got K sets b q o))) (cond bar (refuse (sv m o)) (move (i + d) (sv m (got K sets b q o))))) (halt (sv m o)))
        go true y = bit (K.next q o) refl (ltb-true (K.used o) K.budget y)
        go false y = dry (state_at (suc b) sets i m) q o h a (ltb-false (K.used o) K.budget y) c (suc b) refl _ refl

  -- the three passes
  module _ (b i : ℕ) (m : List ℕ) (o : O) (v : Codes N m) (l : i < I) (c : K.used o ≤ K.budget) where
    abbrev pub k : ℕ
    k = get_or m i 0

    coded : k < codes_end
    coded = omega (arith, v.top i, most)

    set_same : k ≡ 1 → set m i 1 ≡ m
    set_same e = ap (λ (x : ℕ). set m i x) (sym e) ∙ set-get_or m i 0

    pub pixels_good : P (state_at (suc b) pixels i m) o → G b pixels i (K.used o) (pixels_seen K b i k m o)
    unfolding pixels_seen
    pixels_good h = go (eqb k 1) refl
      where
        go : (x : Bool) → eqb k 1 ≡ x → G b pixels i (K.used o) (cond x (one_seen K pixels b i false m o) (move (i + skip_of k) (sv m o)))
        go true y =
            one_good b pixels i false m o h v l c (rw (lt-ltb i I l, y)) (λ _. tt) (λ e. (let z : ◌≡◌ {A = ℕ} 0 1 = cc in absurd (omega (arith, z))))
            (ap (λ (z : List ℕ). state_at (suc b) pixels (i + 1) z) (sym (set_same (eqb-true k 1 y)))) refl
        go false y =
            let g : look I (state_at (suc b) pixels i m) ≡ silent (state_at (suc b) pixels (i + skip k) m) = rw (lt-ltb i I l, y) in
            let s : skip_of k ≡ skip k = skip_is k coded in
            still b pixels i (i + skip_of k) m o (subst (λ (z : ℕ). P (state_at (suc b) pixels (i + z) m) o) (sym s) (w.silence _ _ o h g)) v c (omega (arith, s, skip_pos k))

    pub refining_good : P (state_at (suc b) refining i m) o → G b refining i (K.used o) (refining_seen K b i k m o)
    unfolding refining_seen
    refining_good h = go (eqb k 3) refl
      where
        bit : (x : Bool) → more K o ≡ x → eqb k 3 ≡ true → G b refining i (K.used o) (cond x (move (i + 1) (sv m (got K refining b (bit_of i b) o))) (halt (sv m o)))
        bit true z y = step b refining i (i + 1) (bit_of i b) m o (w.told b refining i false m (bit_of i b) o h (rw (lt-ltb i I l, y)) l l (ltb-true (K.used o) K.budget z) tt) v (ltb-true (K.used o) K.budget z) (omega arith)
        bit false z y = dry (state_at (suc b) refining i m) (bit_of i b) o h (rw (lt-ltb i I l, y)) (ltb-false (K.used o) K.budget z) c (suc b) refl _ refl

        new : (x : Bool) → eqb k 2 ≡ x → eqb k 3 ≡ false → G b refining i (K.used o) (cond x (move (i + 1) (sv (set m i 3) o)) (move (i + skip_of k) (sv m o)))
        new true z y =
            let g : look I (state_at (suc b) refining i m) ≡ silent (state_at (suc b) refining (i + 1) (set m i 3)) = rw (lt-ltb i I l, y, z) in
            still b refining i (i + 1) (set m i 3) o (w.silence _ _ o h g) (set_low N two m i 3 (omega arith) v) c (omega arith)
        new false z y =
            let g : look I (state_at (suc b) refining i m) ≡ silent (state_at (suc b) refining (i + skip k) m) = rw (lt-ltb i I l, y, z) in
            let s : skip_of k ≡ skip k = skip_is k coded in
            still b refining i (i + skip_of k) m o (subst (λ (z : ℕ). P (state_at (suc b) refining (i + z) m) o) (sym s) (w.silence _ _ o h g)) v c (omega (arith, s, skip_pos k))

        go : (x : Bool) → eqb k 3 ≡ x
            → G b refining i (K.used o) (cond x (cond (more K o) (move (i + 1) (sv m (got K refining b (bit_of i b) o))) (halt (sv m o))) (cond (eqb k 2) (move (i + 1) (sv (set m i 3) o)) (move (i + skip_of k) (sv m o))))
        go true y = bit (more K o) refl y
        go false y = new (eqb k 2) refl y

    pub sets_good : P (state_at (suc b) sets i m) o → G b sets i (K.used o) (sets_seen K I b i k m o)
    unfolding sets_seen
    sets_good h = seen (eqb k 4) (eqb k 5) (eqb k 6) refl refl refl
      where
        seen : (x4 x5 x6 : Bool) → eqb k 4 ≡ x4 → eqb k 5 ≡ x5 → eqb k 6 ≡ x6
            → G b sets i (K.used o) (cond x4 (one_seen K sets b i (K.bars b (bit_of i b) i m o) m o) (cond x5 (test_seen K b i (in_desc (i / 4) b) 4 (K.bars b (in_desc (i / 4) b) i m o) (desc_split_marks I i m) m o)
            (cond x6 (test_seen K b i (in_grand (i / 16) b) 16 (K.bars b (in_grand (i / 16) b) i m o) (grand_split_marks I i m) m o) (move (i + set_skip_of k) (sv m o)))))
        seen true x5 x6 y4 y5 y6 =
            let z : k ≡ 4 = eqb-true k 4 y4 in
            let z5 : eqb k 5 ≡ false = rw z in
            let z6 : eqb k 6 ≡ false = rw z in
            let a : look I (state_at (suc b) sets i m) ≡ asks (bit_of i b) = rw (lt-ltb i I l, z5, z6, y4) in
            one_good b sets i (K.bars b (bit_of i b) i m o) m o h v l c a (λ e _. e) (λ e z u. barred b i (bit_of i b) m o h a l u z e) (rw (z5, z6)) (rw (z5, z6))
        seen false true x6 y4 y5 y6 =
            test_good b i (in_desc (i / 4) b) 4 m (desc_split_marks I i m) o h v (codes_desc N two i m (ltb (4 * i) I) (far N two m i v (omega (arith, eqb-true k 5 y5))) v) c l (rw (lt-ltb i I l, y5)) (omega (arith, l)) (rw y5) (rw y5)
        seen false false true y4 y5 y6 =
            let f : 4 ≤ i = far N two m i v (omega (arith, eqb-true k 6 y6)) in
            let e : grand_split_marks I i m ≡ split_grand I i m = grand_is I i m small f in
            subst (λ (x : List ℕ). G b sets i (K.used o) (test_seen K b i (in_grand (i / 16) b) 16 (K.bars b (in_grand (i / 16) b) i m o) x m o)) (sym e)
            (test_good b i (in_grand (i / 16) b) 16 m (split_grand I i m) o h v (codes_grand N two i m f v) c l (rw (lt-ltb i I l, y5, y6)) (omega (arith, l)) (rw (y5, y6)) (rw (y5, y6)))
        seen false false false y4 y5 y6 =
            let g : look I (state_at (suc b) sets i m) ≡ silent (state_at (suc b) sets (i + set_skip k) m) = rw (lt-ltb i I l, y5, y6, y4) in
            let s : set_skip_of k ≡ set_skip k = set_skip_is k coded in
            still b sets i (i + set_skip_of k) m o (subst (λ (z : ℕ). P (state_at (suc b) sets (i + z) m) o) (sym s) (w.silence _ _ o h g)) v c (omega (arith, s, sskip_pos k))
