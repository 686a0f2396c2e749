-- Where the machine is after some bits, and how the code's first state stands there.
use Prim.Native.Nat.{ℕ, zero, suc, ◌-◌, ◌*◌, ◌/◌, ◌^◌, ◌≤◌}
use mathlib.Core.Path.{◌≡◌, refl, sym, ap, ◌∙◌}
use mathlib.Core.Option.{none, some}
use mathlib.Core.List.{List, [], ◌∷◌, ◌++◌}
use mathlib.Core.Bool.{Bool}
use native.Mathlib.Omega.{arith}
use lib.ListN.{get_or, replicate}
use Rattle.nls.specs.Marks.{start_marks}
use Rattle.nls.specs.Scan.{Question, pixels, State, state_at, Look, over, silent, asks, look, tell, settle, ask, asked, next, reach, start}
use Rattle.nls.proofs.Machine.Run.{settle_hush, settle_asks, settle_over, reach_append}
use Rattle.nls.proofs.Joined.Codes.{Codes, codes_roots}

module _ (N : ℕ) (s₀ : State) where
  abbrev pub I : ℕ
  I = 4 ^ N

  -- s is on the way to where u leads
  abbrev pub Led : State → List Bool → Type 0
  Led s u = settle I s ≡ reach I s₀ u

  pub led_silent : (s r : State) (u : List Bool) → Led s u → look I s ≡ silent r → Led r u
  led_silent s r u h e = sym (settle_hush I s r e) ∙ h

  pub led_there : (s : State) (u : List Bool) (q : Question) → Led s u → look I s ≡ asks q → reach I s₀ u ≡ s
  led_there s u q h e = sym h ∙ settle_asks I s q e

  pub led_over : (s : State) (u : List Bool) → Led s u → look I s ≡ over → reach I s₀ u ≡ s
  led_over s u h e = sym h ∙ settle_over I s e

  pub led_told : (s : State) (u : List Bool) (q : Question) (a : Bool) → Led s u → look I s ≡ asks q → Led (tell I s a) (u ++ a ∷ [])
  unfolding reach next
  led_told s u q a h e = sym (reach_append N s₀ u (a ∷ []) ∙ ap (λ (r : State). settle I (tell I r a)) (led_there s u q h e))

  pub led_asks : (s : State) (u : List Bool) (q : Question) → Led s u → look I s ≡ asks q → ask I (reach I s₀ u) ≡ some q
  unfolding ask
  led_asks s u q h e = ap (λ (r : State). asked I (look I r)) (led_there s u q h e) ∙ ap (λ (l : Look). asked I l) e

pub asks_some : (I : ℕ) (s : State) (q : Question) → look I s ≡ asks q → ask I s ≡ some q
unfolding ask
asks_some I s q e = ap (λ (l : Look). asked I l) e

pub over_none : (I : ℕ) (m : List ℕ) → ask I (state_at 0 pixels 0 m) ≡ none
unfolding ask
over_none I m = refl

-- the start
pub led_start : (N D P : ℕ) → Led N (start (4 ^ N) D P) (state_at P pixels 0 (start_marks (4 ^ N) D)) []
unfolding start reach
led_start N D P = refl

ones : (d k j : ℕ) → get_or (replicate d 1 ++ replicate k 0) j 0 ≤ 1
ones zero zero j = omega arith
ones zero (suc k) zero = omega arith
ones zero (suc k) (suc j) = ones zero k j
ones (suc d) k zero = omega arith
ones (suc d) k (suc j) = ones d k j

pub codes_first : (N D : ℕ) → 2 ≤ N → 4 ≤ D → Codes N (start_marks (4 ^ N) D)
unfolding start_marks
codes_first N D two h =
    codes_roots N two (3 * D / 4) D (replicate D 1 ++ replicate (4 ^ N - D) 0) h
    (record { top = λ y. omega (arith, ones D (4 ^ N - D) y); low = λ y u. omega (arith, ones D (4 ^ N - D) y) })
