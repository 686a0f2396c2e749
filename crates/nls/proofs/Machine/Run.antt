-- Runs of the scan: silent moves end, and a settled run can be followed one visit at a time.
use mathlib.Core.Path.{◌≡◌, refl, sym, ap, subst}
use mathlib.Core.Bool.{Bool, true, false}
use mathlib.Core.Option.{Option, none, some, IsSome}
use mathlib.Core.List.{List, [], ◌∷◌, ◌++◌}
use Prim.Native.Nat.{ℕ, zero, suc, ◌-◌, ◌^◌, ◌≤◌, ◌<◌}
use native.Mathlib.Omega.{arith}
use native.Mathlib.Nat.{one-le-pow}
use lib.ListN.{length, get_or, take}
use lib.Dec.{ltb, eqb, lit<, lit≤}
use borrow.Author.Tests.{ltb-true}
use Rattle.nls.specs.Marks.{skip, set_skip, start_marks}
use Rattle.nls.specs.Scan.{State, Look, over, silent, asks, Question, Pass, pixels, sets, refining, state_at, look, look_at, look_pixels, look_sets, look_refining, tell, tell_at, tell_sets, moves_left, silently, settle, ask, next, reach, start, asked}
use Rattle.nls.proofs.Arrays.{answers_of, Bits, ans, told, Fit}

-- an answer ends no plane
pub tell_left : (I l : ℕ) (p : Pass) (i : ℕ) (w : Bool) (m : List ℕ) (a : Bool) → (tell_at I l p i w m a).left ≡ l
tell_left I l p i true m a = refl
tell_left I l pixels i false m true = refl
tell_left I l pixels i false m false = refl
tell_left I l refining i false m a = refl
tell_left I l sets i false m a = on a (eqb (get_or m i 0) 5) (eqb (get_or m i 0) 6)
  where
    on : (a d g : Bool) → (tell_sets I l i m a d g).left ≡ l
    on true true g = refl
    on false true g = refl
    on true false true = refl
    on false false true = refl
    on true false false = refl
    on false false false = refl

pub skip_pos : (m : ℕ) → 1 ≤ skip m
unfolding skip
skip_pos m = go (ltb m 5) (ltb m 7)
  where
    go : (x y : Bool) → 1 ≤ (elim x as (λ _. ℕ) [ true ↦ 1 | false ↦ elim y as (λ _. ℕ) [ true ↦ 4 ^ (m - 4) | false ↦ 4 ^ (m - 5) ] ])
    go true y = lit≤ tt
    go false true = one-le-pow (m - 4) 4 (lit< tt)
    go false false = one-le-pow (m - 5) 4 (lit< tt)

pub sskip_pos : (m : ℕ) → 1 ≤ set_skip m
unfolding set_skip
sskip_pos m = go (ltb m 5) refl
  where
    go : (x : Bool) → ltb m 5 ≡ x → 1 ≤ set_skip m
    go true e = rw (e, set_skip) (lit≤ tt)
    go false e = rw (e, set_skip) (skip_pos m)

module _ (I : ℕ) where
  abbrev pub Falls : ℕ → Look → Type 0
  Falls n over = Unit {0}
  Falls n (silent t) = moves_left I t < n
  Falls n (asks q) = Unit {0}

  falls_pix : (b i : ℕ) (m : List ℕ) (x y : Bool) → ltb i I ≡ x → Falls (moves_left I (state_at (suc b) pixels i m)) (look_pixels b i m x y)
  falls_pix b i m false y e = omega arith
  falls_pix b i m true true e = tt
  falls_pix b i m true false e = omega (arith, ltb-true i I e, skip_pos (get_or m i 0))

  falls_sets : (b i : ℕ) (m : List ℕ) (x d g c : Bool) → ltb i I ≡ x → Falls (moves_left I (state_at (suc b) sets i m)) (look_sets b i m x d g c)
  falls_sets b i m false d g c e = omega arith
  falls_sets b i m true true g c e = tt
  falls_sets b i m true false true c e = tt
  falls_sets b i m true false false true e = tt
  falls_sets b i m true false false false e = omega (arith, ltb-true i I e, sskip_pos (get_or m i 0))

  falls_fine : (b i : ℕ) (m : List ℕ) (x s n : Bool) → ltb i I ≡ x → Falls (moves_left I (state_at (suc b) refining i m)) (look_refining b i m x s n)
  falls_fine b i m false s n e = omega arith
  falls_fine b i m true true n e = tt
  falls_fine b i m true false true e = omega (arith, ltb-true i I e)
  falls_fine b i m true false false e = omega (arith, ltb-true i I e, skip_pos (get_or m i 0))

  falls_at : (l : ℕ) (p : Pass) (i : ℕ) (s : Bool) (m : List ℕ) → Falls (moves_left I (record { left = l; pass = p; place = i; pending = s; marks = m })) (look_at I l p i s m)
  falls_at zero p i s m = tt
  falls_at (suc b) p i true m = tt
  falls_at (suc b) pixels i false m = falls_pix b i m (ltb i I) (eqb (get_or m i 0) 1) refl
  falls_at (suc b) sets i false m = falls_sets b i m (ltb i I) (eqb (get_or m i 0) 5) (eqb (get_or m i 0) 6) (eqb (get_or m i 0) 4) refl
  falls_at (suc b) refining i false m = falls_fine b i m (ltb i I) (eqb (get_or m i 0) 3) (eqb (get_or m i 0) 2) refl

  pub falls : (s : State) → Falls (moves_left I s) (look I s)
  falls s = falls_at s.left s.pass s.place s.pending s.marks

  -- fuel beyond the measure changes nothing
  enough : (n k : ℕ) (s : State) → moves_left I s ≤ n → moves_left I s ≤ k → silently I n s ≡ silently I k s
  unfolding silently
  enough zero zero s h1 h2 = refl
  enough zero (suc k) s h1 h2 = go (look I s) (falls s)
    where
      go : (L : Look) → Falls (moves_left I s) L → s ≡ (elim L as (λ _. State) [ over ↦ s | silent t ↦ silently I k t | asks q ↦ s ])
      go over f = refl
      go (silent t) f = absurd (omega (arith, f, h1))
      go (asks q) f = refl
  enough (suc n) zero s h1 h2 = go (look I s) (falls s)
    where
      go : (L : Look) → Falls (moves_left I s) L → (elim L as (λ _. State) [ over ↦ s | silent t ↦ silently I n t | asks q ↦ s ]) ≡ s
      go over f = refl
      go (silent t) f = absurd (omega (arith, f, h2))
      go (asks q) f = refl
  enough (suc n) (suc k) s h1 h2 = go (look I s) (falls s) (enough n k)
    where
      go : (L : Look) → Falls (moves_left I s) L → ((t : State) → moves_left I t ≤ n → moves_left I t ≤ k → silently I n t ≡ silently I k t)
          → ◌≡◌ {A = State} (elim L as (λ _. State) [ over ↦ s | silent t ↦ silently I n t | asks q ↦ s ]) (elim L as (λ _. State) [ over ↦ s | silent t ↦ silently I k t | asks q ↦ s ])
      go over f ih = refl
      go (silent t) f ih = ih t (omega (arith, f, h1)) (omega (arith, f, h2))
      go (asks q) f ih = refl

  -- one visit: a silent move leads to the same settled state; a state that asks, or is over, is settled
  quiet_hush : (n : ℕ) (s t : State) → look I s ≡ silent t → moves_left I s ≤ n → silently I n s ≡ settle I t
  unfolding silently settle
  quiet_hush zero s t e h = absurd (omega (arith, h, subst (λ (L : Look). Falls (moves_left I s) L) e (falls s)))
  quiet_hush (suc n) s t e h = rw (e, silently) (enough n (moves_left I t) t (omega (arith, h, subst (λ (L : Look). Falls (moves_left I s) L) e (falls s))) (omega arith))

  pub settle_hush : (s t : State) → look I s ≡ silent t → settle I s ≡ settle I t
  unfolding settle
  settle_hush s t e = quiet_hush (moves_left I s) s t e (omega arith)

  quiet_stop : (n : ℕ) (s : State) (q : Question) → look I s ≡ asks q → silently I n s ≡ s
  unfolding silently
  quiet_stop zero s q e = refl
  quiet_stop (suc n) s q e = rw (e, silently)

  pub settle_asks : (s : State) (q : Question) → look I s ≡ asks q → settle I s ≡ s
  unfolding settle
  settle_asks s q e = quiet_stop (moves_left I s) s q e

  quiet_over : (n : ℕ) (s : State) → look I s ≡ over → silently I n s ≡ s
  unfolding silently
  quiet_over zero s e = refl
  quiet_over (suc n) s e = rw (e, silently)

  pub settle_over : (s : State) → look I s ≡ over → settle I s ≡ s
  unfolding settle
  settle_over s e = quiet_over (moves_left I s) s e

  -- of no planes nothing is asked
  pub none_asked : (D : ℕ) → ask I (start I D 0) ≡ none
  unfolding start ask
  none_asked D = ap (λ (s : State). asked I (look I s)) (settle_over (state_at 0 pixels 0 (start_marks I D)) refl)

  -- what is settled is never about to move in silence
  pub quiet_settled : (n : ℕ) (s t : State) → moves_left I s ≤ n → look I (silently I n s) ≡ silent t → ⊥
  unfolding silently
  quiet_settled zero s t h e = omega (arith, h, subst (λ (L : Look). Falls (moves_left I s) L) e (falls s))
  quiet_settled (suc n) s t h e = go (look I s) refl (falls s) (quiet_settled n) e
    where
      go : (L : Look) → look I s ≡ L → Falls (moves_left I s) L → ((r t : State) → moves_left I r ≤ n → look I (silently I n r) ≡ silent t → ⊥)
          → look I (elim L as (λ _. State) [ over ↦ s | silent t ↦ silently I n t | asks q ↦ s ]) ≡ silent t → ⊥
      go over q f ih z = let bad : ◌≡◌ {A = ℕ} 0 1 = cc in omega arith
      go (silent r) q f ih z = ih r t (omega (arith, f, h)) z
      go (asks a) q f ih z = let bad : ◌≡◌ {A = ℕ} 0 1 = cc in omega arith

  -- nor is any state after bits
  abbrev pub Settled : State → Type 0
  Settled s = (t : State) → look I s ≡ silent t → ⊥

  pub settle_settled : (s : State) → Settled (settle I s)
  unfolding settle
  settle_settled s t e = quiet_settled (moves_left I s) s t (omega arith) e

  pub start_settled : (D P : ℕ) → Settled (start I D P)
  unfolding start
  start_settled D P = settle_settled (state_at P pixels 0 (start_marks I D))

  pub next_settled : (s : State) (a : Bool) → Settled (next I s a)
  unfolding next
  next_settled s a = settle_settled (tell I s a)

  pub reach_settled : (s : State) (u : List Bool) → Settled s → Settled (reach I s u)
  unfolding reach
  reach_settled s [] h = h
  reach_settled s (a ∷ u) h = reach_settled (next I s a) u (next_settled s a)

  -- the scan is over only where no plane is left
  abbrev EndsAt : ℕ → Look → Type 0
  EndsAt l over = l ≡ 0
  EndsAt l (silent t) = Unit {0}
  EndsAt l (asks q) = Unit {0}

  ends_pixels : (l b i : ℕ) (m : List ℕ) (x y : Bool) → EndsAt l (look_pixels b i m x y)
  ends_pixels l b i m false y = tt
  ends_pixels l b i m true true = tt
  ends_pixels l b i m true false = tt

  ends_sets : (l b i : ℕ) (m : List ℕ) (x d g c : Bool) → EndsAt l (look_sets b i m x d g c)
  ends_sets l b i m false d g c = tt
  ends_sets l b i m true true g c = tt
  ends_sets l b i m true false true c = tt
  ends_sets l b i m true false false true = tt
  ends_sets l b i m true false false false = tt

  ends_refining : (l b i : ℕ) (m : List ℕ) (x s n : Bool) → EndsAt l (look_refining b i m x s n)
  ends_refining l b i m false s n = tt
  ends_refining l b i m true true n = tt
  ends_refining l b i m true false true = tt
  ends_refining l b i m true false false = tt

  ends_at : (l : ℕ) (p : Pass) (i : ℕ) (w : Bool) (m : List ℕ) → EndsAt l (look_at I l p i w m)
  ends_at zero p i w m = refl
  ends_at (suc b) p i true m = tt
  ends_at (suc b) pixels i false m = ends_pixels (suc b) b i m (ltb i I) (eqb (get_or m i 0) 1)
  ends_at (suc b) sets i false m = ends_sets (suc b) b i m (ltb i I) (eqb (get_or m i 0) 5) (eqb (get_or m i 0) 6) (eqb (get_or m i 0) 4)
  ends_at (suc b) refining i false m = ends_refining (suc b) b i m (ltb i I) (eqb (get_or m i 0) 3) (eqb (get_or m i 0) 2)

  -- where no plane is left nothing is asked, and the other way round in a state that does not move silently
  pub left_none : (s : State) → s.left ≡ 0 → ask I s ≡ none
  unfolding ask
  left_none s e = ap (λ (l : ℕ). asked I (look_at I l s.pass s.place s.pending s.marks)) e

  pub none_left : (s : State) → Settled s → ask I s ≡ none → s.left ≡ 0
  unfolding ask
  none_left s h e = on (look I s) refl (ends_at s.left s.pass s.place s.pending s.marks) e
    where
      on : (k : Look) → look I s ≡ k → EndsAt s.left k → asked I k ≡ none → s.left ≡ 0
      on over q f z = f
      on (silent t) q f z = absurd (h t q)
      on (asks a) q f z = absurd (subst (λ (o : Option Question). IsSome o) z tt)

-- bits that an array answers, and its stream
module _ (N : ℕ) where
  abbrev I : ℕ
  I = 4 ^ N

  pub reach_append : (s : State) (u v : List Bool) → reach (4 ^ N) s (u ++ v) ≡ reach (4 ^ N) (reach (4 ^ N) s u) v
  unfolding reach
  reach_append s [] v = refl
  reach_append s (a ∷ u) v = reach_append (next I s a) u v

  pub fit_append : (A : Bits) (s : State) (u v : List Bool) → Fit N A s u → Fit N A (reach (4 ^ N) s u) v → Fit N A s (u ++ v)
  unfolding reach
  fit_append A s [] v f g = g
  fit_append A s (a ∷ u) v f g = (f.0, fit_append A (next I s a) u v f.1 g)

  pub fit_prefix : (A : Bits) (s : State) (u v : List Bool) → Fit N A s (u ++ v) → Fit N A s u
  fit_prefix A s [] v f = tt
  fit_prefix A s (a ∷ u) v f = (f.0, fit_prefix A (next I s a) u v f.1)

  -- the first n bits of A's stream fit A
  pub stream_fits : (A : Bits) (n : ℕ) (s : State) → Fit N A s (answers_of N A n s)
  unfolding answers_of
  stream_fits A zero s = tt
  stream_fits A (suc n) s = go (ask I s) refl (λ a. stream_fits A n (next I s a))
    where
      go : (o : Option Question) → ask I s ≡ o → ((a : Bool) → Fit N A (next I s a) (answers_of N A n (next I s a)))
          → Fit N A s (elim o as (λ _. List Bool) [ none ↦ [] | some q ↦ ans N A q ∷ answers_of N A n (next I s (ans N A q)) ])
      go none e ih = tt
      go (some q) e ih = (subst (λ (o : Option Question). told N A o (ans N A q)) (sym e) refl, ih (ans N A q))

  -- and what fits A begins A's stream
  pub fits_stream : (A : Bits) (s : State) (u : List Bool) (n : ℕ) → Fit N A s u → length u ≤ n → take (length u) (answers_of N A n s) ≡ u
  unfolding answers_of
  fits_stream A s [] n f h = refl
  fits_stream A s (a ∷ u) zero f h = absurd (omega (arith, h))
  fits_stream A s (a ∷ u) (suc n) f h = go (ask I s) f.0 (fits_stream A (next I s a) u n f.1 (omega (arith, h)))
    where
      go : (o : Option Question) → told N A o a → take (length u) (answers_of N A n (next I s a)) ≡ u
          → take (suc (length u)) (elim o as (λ _. List Bool) [ none ↦ [] | some q ↦ ans N A q ∷ answers_of N A n (next I s (ans N A q)) ]) ≡ a ∷ u
      go none t ih = absurd t
      go (some q) t ih = rw t (ap {B = List Bool} (λ r. a ∷ r) ih)
