-- Laws of truth values that several files use: of two tests joined, of two that say the same, and of tests as types.
use mathlib.Core.Path.{◌≡◌, refl, sym}
use mathlib.Core.Bool.{Bool, true, false, not, ◌||◌, true≢false}
use mathlib.Core.Logic.{◌⊎◌, inl, inr}
use lib.Dec.{T}

pub or_cases : (a b : Bool) → (a || b) ≡ true → (a ≡ true) ⊎ (b ≡ true)
or_cases true b h = inl refl
or_cases false b h = inr h

pub or_off : (a b : Bool) → a ≡ false → (a || b) ≡ b
or_off true b e = absurd (true≢false e)
or_off false b e = refl

pub neither : (a b : Bool) → (a || b) ≡ false → (a ≡ false) × (b ≡ false)
neither true b e = absurd (true≢false e)
neither false b e = (refl, e)

pub not_true_false : (a : Bool) → (a ≡ true → ⊥) → a ≡ false
not_true_false true h = absurd (h refl)
not_true_false false h = refl

pub same_bool : (x y : Bool) → (x ≡ true → y ≡ true) → (y ≡ true → x ≡ true) → x ≡ y
same_bool true y f g = sym (f refl)
same_bool false true f g = g refl
same_bool false false f g = refl

-- ---- tests as types

pub T_true : (t : Bool) → T t → t ≡ true
T_true true h = refl
T_true false h = absurd h

pub T_false : (t : Bool) → (T t → ⊥) → t ≡ false
T_false true h = absurd (h tt)
T_false false h = refl

pub of_true : (t : Bool) → t ≡ true → T t
of_true t e = rw e tt

pub of_false : (t : Bool) → t ≡ false → T (not t)
of_false t e = rw e tt

pub T_or : (s t : Bool) → T s → T (s || t)
T_or true t h = tt
T_or false t h = absurd h

pub bool : (t : Bool) → T t ⊎ T (not t)
bool true = inl tt
bool false = inr tt
