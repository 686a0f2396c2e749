-- The passes by number.
use Prim.Native.Nat.{ℕ, ◌<◌}
use mathlib.Core.Path.{◌≡◌, refl, sym}
use mathlib.Core.Bool.{Bool, true, false, cond}
use native.Mathlib.Omega.{arith}
use borrow.Author.Tests.{ne_eqb, eqb-true, eqb-false}
use lib.Dec.{eqb}
use Rattle.nls.specs.Scan.{pixels, sets, refining}
use Rattle.moves.specs.Stands.{pass_of, pass_number}

pub pass_0 : (p : ℕ) → p ≡ 0 → pass_of p ≡ pixels
unfolding pass_of
pass_0 p e = rw e

pub pass_1 : (p : ℕ) → p ≡ 1 → pass_of p ≡ sets
unfolding pass_of
pass_1 p e = rw e

pub pass_2 : (p : ℕ) → (p ≡ 0 → ⊥) → (p ≡ 1 → ⊥) → pass_of p ≡ refining
unfolding pass_of
pass_2 p d e = rw (ne_eqb p 0 d, ne_eqb p 1 e)

pub pass_back : (p : ℕ) → p < 3 → pass_number (pass_of p) ≡ p
unfolding pass_of
pass_back p h = on (eqb p 0) refl (eqb p 1) refl
  where
    on : (x : Bool) → eqb p 0 ≡ x → (y : Bool) → eqb p 1 ≡ y → pass_number (cond x pixels (cond y sets refining)) ≡ p
    on true e y f = sym (eqb-true p 0 e)
    on false e true f = sym (eqb-true p 1 f)
    on false e false f = omega (arith, eqb-false p 0 e, eqb-false p 1 f)
