-- A value of a sign and a magnitude, as the machine joins it.
use Prim.Native.Nat.{ℕ}
use mathlib.Core.Path.{◌≡◌, refl, sym, ap, ◌∙◌}
use mathlib.Core.Bool.{Bool, true, false, cond}
use native.Mathlib.Omega.{arith}
use borrow.Author.Tests.{leb-true}
use lib.Dec.{leb, lit<}
use lib.IntN.{ℤ, pos}
use mir.Facts.{to_z-of_z}
use mir.Syntax.{w32}
use mir.Val.{SFits, of_z, to_z}
use Rattle.std.specs.Prelude.{Some, None}
use Rattle.sizes.specs.Sizes.{limit}
use Rattle.coef.specs.Coef.{signed, joined_of, Joined}
use Rattle.coef.proofs.Held.{signed_fits}
use Rattle.steps.specs.Moved.{joined_or0}

-- a joined value is within the limit
joined_fits : (s : Bool) (n : ℕ) → SFits w32 (joined_or0 s n)
joined_fits s n = go (leb n limit) refl
  where
    go : (t : Bool) → leb n limit ≡ t → SFits w32 (cond t (signed s n) (pos 0))
    go true e = signed_fits s n (leb-true n limit e)
    go false e = record { sfits = lit< tt }

pub joined_back : (s : Bool) (n : ℕ) → to_z w32 (of_z w32 (joined_or0 s n)) ≡ joined_or0 s n
joined_back s n = to_z-of_z (joined_fits s n)

is_told : (t : Bool) (v w : ℤ) → cond t (Some w) None ≡ Some v → v ≡ cond t w (pos 0)
is_told true v w e = cc
is_told false v w e = let z : ◌≡◌ {A = ℕ} 0 1 = cc in absurd (omega arith)

pub joined_is : (s : Bool) (n : ℕ) (v : ℤ) (r : Joined) → r ≡ joined_of (record { negative = s; magnitude = n }) → r ≡ Some v → to_z w32 (of_z w32 v) ≡ joined_or0 s n
joined_is s n v r e f =
    let w : v ≡ joined_or0 s n = is_told (leb n limit) v (signed s n) (sym e ∙ f) in
    ap (λ (z : ℤ). to_z w32 (of_z w32 z)) w ∙ joined_back s n ∙ refl
