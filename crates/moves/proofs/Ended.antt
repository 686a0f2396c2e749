-- A scan that has ended stands where a plane would begin.
use mathlib.Core.Path.{◌≡◌, ap}
use mathlib.Core.Bool.{Bool, true, false}
use mathlib.Core.List.{List}
use Prim.Native.Nat.{ℕ, zero, suc, ◌≤◌}
use native.Mathlib.Omega.{arith}
use lib.Dec.{ltb, eqb}
use lib.ListN.{get_or}
use Rattle.nls.specs.Scan.{Pass, pixels, sets, refining, State, state_at, look_at, look_pixels, look_sets, look_refining, settle}
use Rattle.nls.proofs.Kept.{AfterMove, settle_keeps}
use Rattle.moves.specs.Moves.{told, onward}
use Rattle.moves.proofs.Laws.{told_stays}

abbrev pub Ended : State → Type 0
Ended s = s.left ≡ 0 → s ≡ state_at 0 pixels 0 s.marks

module _ (I : ℕ) where
  ended_pixels : (b i : ℕ) (m : List ℕ) (x y : Bool) → AfterMove I Ended (look_pixels b i m x y)
  ended_pixels b i m false y = λ e. absurd (omega (arith, e))
  ended_pixels b i m true true = tt
  ended_pixels b i m true false = λ e. absurd (omega (arith, e))

  ended_sets : (b i : ℕ) (m : List ℕ) (x d g c : Bool) → AfterMove I Ended (look_sets b i m x d g c)
  ended_sets b i m false d g c = λ e. absurd (omega (arith, e))
  ended_sets b i m true true g c = tt
  ended_sets b i m true false true c = tt
  ended_sets b i m true false false true = tt
  ended_sets b i m true false false false = λ e. absurd (omega (arith, e))

  ended_refining : (b i : ℕ) (m : List ℕ) (x s n : Bool) → AfterMove I Ended (look_refining b i m x s n)
  ended_refining b i m false s n = λ e. ap (λ (l : ℕ). state_at l pixels 0 m) e
  ended_refining b i m true true n = tt
  ended_refining b i m true false true = λ e. absurd (omega (arith, e))
  ended_refining b i m true false false = λ e. absurd (omega (arith, e))

  ended_look : (l : ℕ) (p : Pass) (i : ℕ) (w : Bool) (m : List ℕ) → AfterMove I Ended (look_at I l p i w m)
  ended_look zero p i w m = tt
  ended_look (suc b) p i true m = tt
  ended_look (suc b) pixels i false m = ended_pixels b i m (ltb i I) (eqb (get_or m i 0) 1)
  ended_look (suc b) sets i false m = ended_sets b i m (ltb i I) (eqb (get_or m i 0) 5) (eqb (get_or m i 0) 6) (eqb (get_or m i 0) 4)
  ended_look (suc b) refining i false m = ended_refining b i m (ltb i I) (eqb (get_or m i 0) 3) (eqb (get_or m i 0) 2)

  pub ended_settle : (s : State) → Ended s → Ended (settle I s)
  ended_settle s h = settle_keeps I Ended (λ t k. ended_look t.left t.pass t.place t.pending t.marks) s h

  -- so does one that goes on from an answer in a plane
  pub ended_onward : (s : State) (a : Bool) → 1 ≤ s.left → Ended (onward I s a)
  ended_onward s a h = ended_settle (told I s a) (λ e. absurd (omega (arith, h, e, (told_stays I s.left s.pass s.place s.pending s.marks a).0)))
