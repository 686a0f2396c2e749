-- The way back, move by move: its fuel is never short, so that a silent move back changes nothing of where it leads.
use mathlib.Core.Path.{◌≡◌, refl}
use mathlib.Core.Bool.{Bool}
use Prim.Native.Nat.{ℕ, zero, suc, ◌+◌, ◌*◌, ◌-◌, ◌≤◌, ◌<◌}
use native.Mathlib.Nat.{mul-le-mul_right}
use native.Mathlib.Omega.{arith}
use Rattle.nls.specs.Scan.{State, Pass, pixels, sets, refining, passes_left, moves_left}
use Rattle.undo.specs.Back.{Prior, first, quiet, answered, prior, back_from, all_moves, back}
use Rattle.undo.proofs.Ends.{prior_falls}

passes_few : (I : ℕ) (p : Pass) → passes_left I p ≤ 2
passes_few I pixels = omega arith
passes_few I sets = omega arith
passes_few I refining = omega arith

module _ (I D P : ℕ) (big : ℕ → ℕ → Bool) where
  -- no state has more moves ahead
  pub moves_most : (s : State) → s.left ≤ P → moves_left I s ≤ all_moves I D P big
  moves_most s h =
      let p = passes_few I s.pass in
      omega (arith, mul-le-mul_right {m = s.left * 3 + passes_left I s.pass} {n = P * 3 + 2} (I + 2) (omega arith))

  -- how much of the way back is left at most
  abbrev pub behind : State → ℕ
  behind s = all_moves I D P big - moves_left I s

  -- a silent move back leads nearer to the first state
  pub nearer : (s t : State) → prior I D P big s ≡ quiet t → s.left ≤ P → s.place ≤ I → (behind t < behind s) × (t.left ≤ P) × (t.place ≤ I)
  nearer s t e h k =
      let f = rw e at (prior_falls I D P big s h k) in
      (omega (arith, f.0, moves_most t f.1), f.1, f.2)

  -- any fuel beyond that serves
  pub back_enough : (n k : ℕ) (s : State) → s.left ≤ P → s.place ≤ I → behind s < n → behind s < k → back_from I D P big n s ≡ back_from I D P big k s
  unfolding back_from
  back_enough zero k s h w a b = absurd (omega arith)
  back_enough (suc n) zero s h w a b = absurd (omega arith)
  back_enough (suc n) (suc k) s h w a b = go (prior I D P big s) (λ t e. let f = nearer s t e h w in back_enough n k t f.1 f.2 (omega arith) (omega arith)) refl
    where
      go : (x : Prior) → ((t : State) → prior I D P big s ≡ quiet t → back_from I D P big n t ≡ back_from I D P big k t) → prior I D P big s ≡ x → ◌≡◌ {A = State} (elim x as (λ _. State) [ first ↦ s | quiet t ↦ back_from I D P big n t | answered t ↦ t ]) (elim x as (λ _. State) [ first ↦ s | quiet t ↦ back_from I D P big k t | answered t ↦ t ])
      go first f e = refl
      go (quiet t) f e = f t e
      go (answered t) f e = refl

  pub back_first : (s : State) → prior I D P big s ≡ first → back I D P big s ≡ s
  unfolding back back_from
  back_first s e = rw (e, back_from)

  pub back_answered : (s t : State) → prior I D P big s ≡ answered t → back I D P big s ≡ t
  unfolding back back_from
  back_answered s t e = rw (e, back_from)

  pub back_quiet : (s t : State) → prior I D P big s ≡ quiet t → s.left ≤ P → s.place ≤ I → back I D P big s ≡ back I D P big t
  unfolding back back_from
  back_quiet s t e h k =
      let f = nearer s t e h k in
      rw (e, back_from) (back_enough (behind s) (suc (behind t)) t f.1 f.2 f.0 (omega arith))
