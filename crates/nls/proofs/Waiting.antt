-- While a sign is waited for no mark has changed: the state after the test bit 1 has the marks of the state before it.
use Prim.Native.Nat.{ℕ, zero, suc}
use mathlib.Core.Path.{◌≡◌, refl, sym, subst}
use mathlib.Core.Bool.{Bool, true, false}
use mathlib.Core.List.{List, [], ◌∷◌, ◌++◌}
use native.Mathlib.Omega.{arith}
use lib.ListN.{get_or}
use lib.Dec.{ltb, eqb}
use Rattle.sizes.specs.Sizes.{all_of}
use Rattle.nls.specs.Scan.{State, Pass, pixels, sets, refining, look_at, look_pixels, look_sets, look_refining, tell, tell_at, tell_sets, settle, next, reach}
use Rattle.nls.specs.Stream.{begin, after}
use Rattle.nls.proofs.Kept.{AfterMove, settle_keeps}
use Rattle.nls.proofs.Machine.Run.{reach_append}

module _ (I : ℕ) (R : State → Type 0) where
  -- a state that waits for a sign is such
  abbrev pub Waits : State → Type 0
  Waits s = s.pending ≡ true → R s

  -- no silent move leads to a state that waits
  waits_pixels : (b i : ℕ) (m : List ℕ) (x y : Bool) → AfterMove I Waits (look_pixels b i m x y)
  waits_pixels b i m false y = λ e. absurd (let z : ◌≡◌ {A = ℕ} 0 1 = cc in omega arith)
  waits_pixels b i m true true = tt
  waits_pixels b i m true false = λ e. absurd (let z : ◌≡◌ {A = ℕ} 0 1 = cc in omega arith)

  waits_sets : (b i : ℕ) (m : List ℕ) (x d g c : Bool) → AfterMove I Waits (look_sets b i m x d g c)
  waits_sets b i m false d g c = λ e. absurd (let z : ◌≡◌ {A = ℕ} 0 1 = cc in omega arith)
  waits_sets b i m true true g c = tt
  waits_sets b i m true false true c = tt
  waits_sets b i m true false false true = tt
  waits_sets b i m true false false false = λ e. absurd (let z : ◌≡◌ {A = ℕ} 0 1 = cc in omega arith)

  waits_refining : (b i : ℕ) (m : List ℕ) (x s n : Bool) → AfterMove I Waits (look_refining b i m x s n)
  waits_refining b i m false s n = λ e. absurd (let z : ◌≡◌ {A = ℕ} 0 1 = cc in omega arith)
  waits_refining b i m true true n = tt
  waits_refining b i m true false true = λ e. absurd (let z : ◌≡◌ {A = ℕ} 0 1 = cc in omega arith)
  waits_refining b i m true false false = λ e. absurd (let z : ◌≡◌ {A = ℕ} 0 1 = cc in omega arith)

  waits_look : (l : ℕ) (p : Pass) (i : ℕ) (w : Bool) (m : List ℕ) → AfterMove I Waits (look_at I l p i w m)
  waits_look zero p i w m = tt
  waits_look (suc b) p i true m = tt
  waits_look (suc b) pixels i false m = waits_pixels b i m (ltb i I) (eqb (get_or m i 0) 1)
  waits_look (suc b) sets i false m = waits_sets b i m (ltb i I) (eqb (get_or m i 0) 5) (eqb (get_or m i 0) 6) (eqb (get_or m i 0) 4)
  waits_look (suc b) refining i false m = waits_refining b i m (ltb i I) (eqb (get_or m i 0) 3) (eqb (get_or m i 0) 2)

  pub settle_waits : (s : State) → Waits s → Waits (settle I s)
  settle_waits s h = settle_keeps I Waits (λ t k. waits_look t.left t.pass t.place t.pending t.marks) s h

-- a state that waits for a sign has the marks m
abbrev Still : List ℕ → State → Type 0
Still m s = s.pending ≡ true → s.marks ≡ m

module _ (I : ℕ) (m₀ : List ℕ) where
  -- an answer leads to one with the same marks
  still_split : (l i : ℕ) (a d g : Bool) → Still m₀ (tell_sets I l i m₀ a d g)
  still_split l i true true g = λ e. absurd (let z : ◌≡◌ {A = ℕ} 0 1 = cc in omega arith)
  still_split l i false true g = λ e. absurd (let z : ◌≡◌ {A = ℕ} 0 1 = cc in omega arith)
  still_split l i true false true = λ e. absurd (let z : ◌≡◌ {A = ℕ} 0 1 = cc in omega arith)
  still_split l i false false true = λ e. absurd (let z : ◌≡◌ {A = ℕ} 0 1 = cc in omega arith)
  still_split l i true false false = λ e. refl
  still_split l i false false false = λ e. absurd (let z : ◌≡◌ {A = ℕ} 0 1 = cc in omega arith)

  still_tell : (l : ℕ) (p : Pass) (i : ℕ) (w a : Bool) → Still m₀ (tell_at I l p i w m₀ a)
  still_tell l p i true a = λ e. absurd (let z : ◌≡◌ {A = ℕ} 0 1 = cc in omega arith)
  still_tell l pixels i false true = λ e. refl
  still_tell l pixels i false false = λ e. absurd (let z : ◌≡◌ {A = ℕ} 0 1 = cc in omega arith)
  still_tell l sets i false a = still_split l i a (eqb (get_or m₀ i 0) 5) (eqb (get_or m₀ i 0) 6)
  still_tell l refining i false a = λ e. absurd (let z : ◌≡◌ {A = ℕ} 0 1 = cc in omega arith)

still_next : (I : ℕ) (s : State) (a : Bool) → Still s.marks (next I s a)
unfolding next
still_next I s a =
    settle_waits I (λ t. t.marks ≡ s.marks) (tell I s a)
    (still_tell I s.marks s.left s.pass s.place s.pending a)

pub waiting_marks : (N L P : ℕ) (u : List Bool) (a : Bool)
    → (after N L P (u ++ (a ∷ []))).pending ≡ true → (after N L P (u ++ (a ∷ []))).marks ≡ (after N L P u).marks
unfolding reach
waiting_marks N L P u a =
    subst (λ (t : State). t.pending ≡ true → t.marks ≡ (after N L P u).marks) (sym (reach_append N (begin N L P) u (a ∷ []))) (still_next (all_of N) (after N L P u) a)
