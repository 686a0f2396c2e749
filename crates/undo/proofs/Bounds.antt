-- The way back keeps within P planes and I places, in any table.
use mathlib.Core.Bool.{Bool}
use Prim.Native.Nat.{ℕ, zero, suc, ◌-◌, ◌≤◌}
use Rattle.nls.specs.Scan.{State, moves_left}
use Rattle.undo.specs.Back.{Prior, first, quiet, answered, prior, back_from, all_moves, back}
use Rattle.undo.proofs.Ends.{Falls, prior_falls}

module _ (I D P : ℕ) (big : ℕ → ℕ → Bool) where
  abbrev pub Within : State → Type 0
  Within s = (s.left ≤ P) × (s.place ≤ I)

  from_within : (n : ℕ) (s : State) → Within s → Within (back_from I D P big n s)
  unfolding back_from
  from_within zero s h = h
  from_within (suc n) s h = on (prior I D P big s) (prior_falls I D P big s h.0 h.1) (from_within n)
    where
      on : (x : Prior) → Falls I D P big (moves_left I s) x → ((t : State) → Within t → Within (back_from I D P big n t))
          → Within (elim x as (λ _. State) [ first ↦ s | quiet t ↦ back_from I D P big n t | answered t ↦ t ])
      on first f ih = h
      on (quiet t) f ih = ih t (f.1, f.2)
      on (answered t) f ih = f

  pub back_within : (s : State) → s.left ≤ P → s.place ≤ I → Within (back I D P big s)
  unfolding back
  back_within s h k = from_within (suc (all_moves I D P big - moves_left I s)) s (h, k)
