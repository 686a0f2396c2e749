-- What every run keeps of its marks, on any bits: their number, no mark of a set below D, no MG below 4D, no MNk below 4^k.
-- So a set that is asked about has a place of at least D/4: it has members.
use Prim.Native.Nat.{ℕ, zero, suc, ◌+◌, ◌*◌, ◌-◌, ◌/◌, ◌^◌, ◌≤◌, ◌<◌}
use mathlib.Core.Path.{◌≡◌, refl, sym, subst, ◌∙◌}
use mathlib.Core.Bool.{Bool, true, false}
use mathlib.Core.Logic.{⊎_elim}
use mathlib.Core.Option.{Option, none, some}
use mathlib.Core.List.{List, [], ◌∷◌, ◌++◌}
use native.Mathlib.Nat.{pow-succ'}
use native.Mathlib.Omega.{arith}
use borrow.Author.Tests.{eqb-true}
use lib.Dec.{ltb, eqb}
use lib.ListN.{length, get_or, set, replicate, length-set, length-replicate, length-append}
use Rattle.nls.specs.Marks.{push_from, push, split_desc, split_grand, push_roots, start_marks}
use Rattle.nls.specs.Scan.{State, Look, over, silent, asks, Question, bit_of, sign_of, in_desc, in_grand, Pass, pixels, sets, refining, state_at, look, look_at, look_pixels, look_sets, look_refining, tell, tell_at, tell_sets, silently, settle, moves_left, ask, asked, next, reach, start}
use Rattle.nls.proofs.Arrays.{four}
use Rattle.nls.proofs.Joined.Codes.{set_cases}

-- the start table before its roots holds nothing but 1 and 0
zeros : (k y : ℕ) → get_or (replicate k 0) y 0 ≤ 1
zeros zero y = omega arith
zeros (suc k) zero = omega arith
zeros (suc k) (suc y) = zeros k y

pub ones : (D k y : ℕ) → get_or (replicate D 1 ++ replicate k 0) y 0 ≤ 1
ones zero k y = zeros k y
ones (suc D) k zero = omega arith
ones (suc D) k (suc y) = ones D k y

-- what silent moves keep, settling keeps
module _ (I : ℕ) (Q : State → Type 0) where
  abbrev pub AfterMove : Look → Type 0
  AfterMove over = Unit {0}
  AfterMove (silent t) = Q t
  AfterMove (asks q) = Unit {0}

  module _ (moves : (s : State) → Q s → AfterMove (look I s)) where
    silently_keeps : (n : ℕ) (s : State) → Q s → Q (silently I n s)
    unfolding silently
    silently_keeps zero s h = h
    silently_keeps (suc n) s h = on (look I s) (moves s h) (silently_keeps n)
      where
        on : (k : Look) → AfterMove k → ((t : State) → Q t → Q (silently I n t))
            → Q (elim k as (λ _. State) [ over ↦ s | silent t ↦ silently I n t | asks q ↦ s ])
        on over m ih = h
        on (silent t) m ih = ih t m
        on (asks q) m ih = h

    pub settle_keeps : (s : State) → Q s → Q (settle I s)
    unfolding settle
    settle_keeps s h = silently_keeps (moves_left I s) s h

pub record Kept (D I : ℕ) (m : List ℕ) : Type 0 where
  pub long : length m ≡ I
  pub descs : (i : ℕ) → 5 ≤ get_or m i 0 → D ≤ i
  pub grands : (i : ℕ) → get_or m i 0 ≡ 6 → 4 * D ≤ i
  pub codes : 4 ≤ D → (i : ℕ) → 7 ≤ get_or m i 0 → 4 ^ (get_or m i 0 - 5) ≤ i

-- the set of a question has members
abbrev pub Rooted : ℕ → Question → Type 0
Rooted D (bit_of i b) = Unit {0}
Rooted D (sign_of i) = Unit {0}
Rooted D (in_desc g b) = D / 4 ≤ g
Rooted D (in_grand g b) = D / 4 ≤ g

abbrev pub AllRooted : ℕ → Option Question → Type 0
AllRooted D none = Unit {0}
AllRooted D (some q) = Rooted D q

module _ (D I : ℕ) where
  kept_set : (m : List ℕ) (i v : ℕ) → (5 ≤ v → D ≤ i) → (v ≡ 6 → 4 * D ≤ i) → (4 ≤ D → 7 ≤ v → 4 ^ (v - 5) ≤ i) → Kept D I m → Kept D I (set m i v)
  kept_set m i v p q r k =
      record {
        long = length-set m i v ∙ k.long;
        descs = λ y h.
            ⊎_elim (λ s. let r : D ≤ i = p (omega (arith, h, s.1)) in omega (arith, r, s.0)) (λ s. k.descs y (omega (arith, h, s)))
            (set_cases m i v y);
        grands = λ y h.
            ⊎_elim (λ s. let r : 4 * D ≤ i = q (sym s.1 ∙ h) in omega (arith, r, s.0)) (λ s. k.grands y (sym s ∙ h)) (set_cases m i v y);
        codes = λ w y h.
            ⊎_elim
            (λ s. let b : 4 ^ (v - 5) ≤ i = r w (omega (arith, h, s.1)) in
            subst (λ (x : ℕ). 4 ^ (x - 5) ≤ y) (sym s.1) (omega (arith, b, s.0)))
            (λ s. subst (λ (x : ℕ). 4 ^ (x - 5) ≤ y) (sym s) (k.codes w y (omega (arith, h, s))))
            (set_cases m i v y);
      }

  -- a coefficient's mark
  kept_low : (m : List ℕ) (i v : ℕ) → v < 5 → Kept D I m → Kept D I (set m i v)
  kept_low m i v h k = kept_set m i v (λ p. absurd (omega (arith, p, h))) (λ p. absurd (omega (arith, p, h))) (λ w p. absurd (omega (arith, p, h))) k

  kept_push : (n j code : ℕ) (m : List ℕ) → 7 ≤ code → D ≤ j → (4 ≤ D → 4 ^ (code - 5) ≤ j) → Kept D I m → Kept D I (push_from I n j code m)
  unfolding push_from
  kept_push zero j code m c h r k = k
  kept_push (suc n) j code m c h r k = on (ltb j I) (kept_push n (4 * j) (code + 1) (set m j code) (omega arith) (omega arith) further)
    where
      on : (t : Bool) → (Kept D I (set m j code) → Kept D I (push_from I n (4 * j) (code + 1) (set m j code)))
          → Kept D I (elim t as (λ _. List ℕ) [ true ↦ push_from I n (4 * j) (code + 1) (set m j code) | false ↦ m ])
      on true ih = ih (kept_set m j code (λ p. h) (λ p. absurd (omega (arith, p, c))) (λ w p. r w) k)
      on false ih = k

      further : 4 ≤ D → 4 ^ (code + 1 - 5) ≤ 4 * j
      further w =
          let e : code + 1 - 5 ≡ suc (code - 5) = omega (arith, c) in
          subst (λ (x : ℕ). 4 ^ x ≤ 4 * j) (sym e) (omega (arith, r w, pow-succ' 4 (code - 5)))

  -- MD, pushed
  kept_root : (i : ℕ) (m : List ℕ) → D ≤ i → Kept D I m → Kept D I (push I i (set m i 5))
  kept_root i m h k =
      kept_push I (4 * i) 7 (set m i 5) (omega arith) (omega arith) (λ w. omega (arith, w, h))
      (kept_set m i 5 (λ p. h) (λ p. absurd (omega (arith, p))) (λ w p. absurd (omega (arith, p))) k)

  kept_desc : (i : ℕ) (m : List ℕ) (t : Bool) → D ≤ i → Kept D I m → Kept D I (split_desc I i m t)
  kept_desc i m t h k =
      on t
      (kept_low _ (i + 3) 4 (omega arith)
      (kept_low _ (i + 2) 4 (omega arith) (kept_low _ (i + 1) 4 (omega arith) (kept_low m i 4 (omega arith) k))))
    where
      on : (t : Bool) → Kept D I (four i 4 m) → Kept D I (split_desc I i m t)
      on true d = kept_set (four i 4 m) (4 * i) 6 (λ p. omega arith) (λ p. omega arith) (λ w p. absurd (omega (arith, p))) d
      on false d = d

  kept_grand : (i : ℕ) (m : List ℕ) → D ≤ i → Kept D I m → Kept D I (split_grand I i m)
  kept_grand i m h k =
      kept_root (i + 12) _ (omega arith) (kept_root (i + 8) _ (omega arith) (kept_root (i + 4) _ (omega arith) (kept_root i m h k)))

  kept_tell : (l : ℕ) (p : Pass) (i : ℕ) (w : Bool) (m : List ℕ) (a : Bool) → Kept D I m → Kept D I (tell_at I l p i w m a).marks
  kept_tell l p i true m a k = kept_low m i 2 (omega arith) k
  kept_tell l pixels i false m true k = k
  kept_tell l pixels i false m false k = k
  kept_tell l refining i false m a k = k
  kept_tell l sets i false m a k = on a (eqb (get_or m i 0) 5) refl (eqb (get_or m i 0) 6) refl
    where
      on : (a d : Bool) → eqb (get_or m i 0) 5 ≡ d → (g : Bool) → eqb (get_or m i 0) 6 ≡ g → Kept D I (tell_sets I l i m a d g).marks
      on true true e g q = kept_desc i m (ltb (4 * i) I) (k.descs i (omega (arith, eqb-true (get_or m i 0) 5 e))) k
      on false true e g q = k
      on true false e true q = kept_grand i m (k.descs i (omega (arith, eqb-true (get_or m i 0) 6 q))) k
      on false false e true q = k
      on true false e false q = k
      on false false e false q = kept_low m i 1 (omega arith) k

  abbrev Marked : State → Type 0
  Marked s = Kept D I s.marks

  moves_pixels : (b i : ℕ) (m : List ℕ) (x y : Bool) → Kept D I m → AfterMove I Marked (look_pixels b i m x y)
  moves_pixels b i m false y k = k
  moves_pixels b i m true true k = tt
  moves_pixels b i m true false k = k

  moves_sets : (b i : ℕ) (m : List ℕ) (x d g c : Bool) → Kept D I m → AfterMove I Marked (look_sets b i m x d g c)
  moves_sets b i m false d g c k = k
  moves_sets b i m true true g c k = tt
  moves_sets b i m true false true c k = tt
  moves_sets b i m true false false true k = tt
  moves_sets b i m true false false false k = k

  moves_refining : (b i : ℕ) (m : List ℕ) (x s n : Bool) → Kept D I m → AfterMove I Marked (look_refining b i m x s n)
  moves_refining b i m false s n k = k
  moves_refining b i m true true n k = tt
  moves_refining b i m true false true k = kept_low m i 3 (omega arith) k
  moves_refining b i m true false false k = k

  moves_at : (l : ℕ) (p : Pass) (i : ℕ) (w : Bool) (m : List ℕ) → Kept D I m → AfterMove I Marked (look_at I l p i w m)
  moves_at zero p i w m k = tt
  moves_at (suc b) p i true m k = tt
  moves_at (suc b) pixels i false m k = moves_pixels b i m (ltb i I) (eqb (get_or m i 0) 1) k
  moves_at (suc b) sets i false m k = moves_sets b i m (ltb i I) (eqb (get_or m i 0) 5) (eqb (get_or m i 0) 6) (eqb (get_or m i 0) 4) k
  moves_at (suc b) refining i false m k = moves_refining b i m (ltb i I) (eqb (get_or m i 0) 3) (eqb (get_or m i 0) 2) k

  kept_settle : (s : State) → Kept D I s.marks → Kept D I (settle I s).marks
  kept_settle s k = settle_keeps I Marked (λ s k. moves_at s.left s.pass s.place s.pending s.marks k) s k

  pub kept_next : (s : State) (a : Bool) → Kept D I s.marks → Kept D I (next I s a).marks
  unfolding next
  kept_next s a k = kept_settle (tell I s a) (kept_tell s.left s.pass s.place s.pending s.marks a k)

  -- in any run
  pub kept_reach : (u : List Bool) (s : State) → Kept D I s.marks → Kept D I (reach I s u).marks
  unfolding reach
  kept_reach [] s k = k
  kept_reach (a ∷ u) s k = kept_reach u (next I s a) (kept_next s a k)

  kept_roots : (n i : ℕ) (m : List ℕ) → D ≤ i → Kept D I m → Kept D I (push_roots I n i m)
  unfolding push_roots
  kept_roots zero i m h k = k
  kept_roots (suc n) i m h k = kept_roots n (i + 4) (push I i (set m i 5)) (omega arith) (kept_root i m h k)

  pub kept_start : (P : ℕ) → D ≤ I → Kept D I (start I D P).marks
  unfolding start start_marks
  kept_start P h =
      kept_settle (state_at P pixels 0 (push_roots I (3 * D / 4) D first)) (kept_roots (3 * D / 4) D first (omega arith) bare)
    where
      first : List ℕ
      first = replicate D 1 ++ replicate (I - D) 0

      bare : Kept D I first
      bare =
          record {
            long = omega (arith, length-append {A = ℕ} (replicate D 1) (replicate (I - D) 0), length-replicate {A = ℕ} D 1, length-replicate {A = ℕ} (I - D) 0);
            descs = λ y p. absurd (omega (arith, p, ones D (I - D) y));
            grands = λ y p. absurd (omega (arith, p, ones D (I - D) y));
            codes = λ w y p. absurd (omega (arith, p, ones D (I - D) y));
          }

  -- what is asked of marks that are kept
  asks_pixels : (b i : ℕ) (m : List ℕ) (x y : Bool) → AllRooted D (asked I (look_pixels b i m x y))
  asks_pixels b i m false y = tt
  asks_pixels b i m true true = tt
  asks_pixels b i m true false = tt

  asks_sets : (b i : ℕ) (m : List ℕ) (x d g c : Bool) → eqb (get_or m i 0) 5 ≡ d → eqb (get_or m i 0) 6 ≡ g → Kept D I m → AllRooted D (asked I (look_sets b i m x d g c))
  asks_sets b i m false d g c p q k = tt
  asks_sets b i m true true g c p q k = omega (arith, k.descs i (omega (arith, eqb-true (get_or m i 0) 5 p)))
  asks_sets b i m true false true c p q k = omega (arith, k.grands i (eqb-true (get_or m i 0) 6 q))
  asks_sets b i m true false false true p q k = tt
  asks_sets b i m true false false false p q k = tt

  asks_refining : (b i : ℕ) (m : List ℕ) (x s n : Bool) → AllRooted D (asked I (look_refining b i m x s n))
  asks_refining b i m false s n = tt
  asks_refining b i m true true n = tt
  asks_refining b i m true false true = tt
  asks_refining b i m true false false = tt

  asks_at : (l : ℕ) (p : Pass) (i : ℕ) (w : Bool) (m : List ℕ) → Kept D I m → AllRooted D (asked I (look_at I l p i w m))
  asks_at zero p i w m k = tt
  asks_at (suc b) p i true m k = tt
  asks_at (suc b) pixels i false m k = asks_pixels b i m (ltb i I) (eqb (get_or m i 0) 1)
  asks_at (suc b) sets i false m k = asks_sets b i m (ltb i I) (eqb (get_or m i 0) 5) (eqb (get_or m i 0) 6) (eqb (get_or m i 0) 4) refl refl k
  asks_at (suc b) refining i false m k = asks_refining b i m (ltb i I) (eqb (get_or m i 0) 3) (eqb (get_or m i 0) 2)

  pub asks_rooted : (s : State) → Kept D I s.marks → AllRooted D (ask I s)
  unfolding ask
  asks_rooted s k = asks_at s.left s.pass s.place s.pending s.marks k
