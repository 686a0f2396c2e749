-- Texts put one after another: what is put joins, and what is left of a text while it is being put.
use mathlib.Core.Path.{◌≡◌, sym, ◌∙◌}
use mathlib.Core.List.{List, [], ◌∷◌, ◌++◌}
use Prim.Native.Nat.{ℕ, suc, ◌+◌}
use native.Mathlib.Omega.{arith}
use lib.ListN.{length, set, length-append}
use lib.Seq.{sets}
use Rattle.decimal.proofs.Sets.{sets_append}
use Rattle.show.specs.Putting.{Puts}

-- one text, and another from where the first ends
pub puts_then : {o p q s t : List ℕ} {at mid end : ℕ} → Puts o at s p mid → Puts p mid t q end → Puts o at (s ++ t) q end
puts_then {o} {p} {q} {s} {t} {at} {mid} {end} a b =
    record {
      stored = b.stored ∙ rw (a.stored, a.ends) (sym (sets_append o at s t));
      ends = omega (arith, a.ends, b.ends, length-append s t);
    }

-- a text by another name
pub puts_as : {o p s t : List ℕ} {at end : ℕ} → s ≡ t → Puts o at s p end → Puts o at t p end
puts_as e a = rw e at a

-- a character stored before a text
pub puts_behind : {o p q s : List ℕ} {x at end : ℕ} → p ≡ set o at x → Puts p (at + 1) s q end → Puts o at (x ∷ s) q end
puts_behind {o} {p} {q} {s} {x} {at} {end} e a =
    let i : at + 1 ≡ suc at = omega arith in
    record { stored = a.stored ∙ rw (e, i); ends = omega (arith, a.ends) }

-- of a text `whole` that is put from entry `at₀` of `o₀` on, `rest` is left, to be put from entry `at` of `o` on
pub record Leaves (o₀ : List ℕ) (at₀ : ℕ) (whole o : List ℕ) (at : ℕ) (rest : List ℕ) : Type 0 where
  pub stored : sets o at rest ≡ sets o₀ at₀ whole
  pub ends : at + length rest ≡ at₀ + length whole

pub leaves_on : {o₀ whole o p s t : List ℕ} {at₀ at end : ℕ} → Leaves o₀ at₀ whole o at (s ++ t) → Puts o at s p end → Leaves o₀ at₀ whole p end t
leaves_on {o₀} {whole} {o} {p} {s} {t} {at₀} {at} {end} l a =
    record {
      stored = rw (a.stored, a.ends) (sym (sets_append o at s t)) ∙ l.stored;
      ends = omega (arith, a.ends, l.ends, length-append s t);
    }

pub leaves_none : {o₀ whole o : List ℕ} {at₀ at : ℕ} → Leaves o₀ at₀ whole o at [] → Puts o₀ at₀ whole o at
leaves_none l = record { stored = l.stored; ends = omega (arith, l.ends) }

-- what is left is put
pub leaves_put : {o₀ whole o p s : List ℕ} {at₀ at end : ℕ} → Leaves o₀ at₀ whole o at s → Puts o at s p end → Puts o₀ at₀ whole p end
leaves_put l a = record { stored = a.stored ∙ l.stored; ends = a.ends ∙ l.ends }
