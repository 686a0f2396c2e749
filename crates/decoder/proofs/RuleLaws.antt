-- The rules that decoding is asked for by name: what each adds to known bits, and that both stay within what these leave open.
use mathlib.Core.Path.{◌≡◌, sym, ap}
use mathlib.Core.Bool.{cond}
use Prim.Native.Nat.{ℕ, zero, suc, ◌+◌, ◌*◌, ◌-◌, ◌/◌, ◌%◌, ◌^◌, ◌≤◌, ◌<◌}
use native.Mathlib.Nat.{pow-suc, one-le-pow}
use native.Mathlib.Omega.{arith}
use borrow.Author.Tests.{eq-eqb, ne_eqb}
use lib.Dec.{eqb}
use lib.Pow.{pow_mono}
use Rattle.sizes.specs.Sizes.{most_planes}
use Rattle.nls.specs.Reading.{midpoint, Between}
use Rattle.nls.proofs.Values.{lower_between, midpoint_between}
use Rattle.decoder.specs.Rules.{rule_of}
use Rattle.decoder.specs.declared.rule.Rule.{Rule}
use Rattle.decoder.specs.declared.rule.Rule.TheVariants.{Lower, Midpoint}

-- what the midpoint adds, as the machine makes it: half of 2^k, which is 0 for k = 0
pub adds_half : (k : ℕ) → k ≤ most_planes → (m : ℕ) → midpoint k m ≡ m + (1 * 2 ^ k) % 4294967296 / 2
adds_half zero h m = omega arith
adds_half (suc k) h m =
    rw (ne_eqb (suc k) 0 (λ e. omega (arith, e)))
    (omega (arith, pow-suc 2 k, pow_mono {i = k} {j = most_planes} (omega arith), ap (λ (n : ℕ). 2 ^ n) {x = suc k - 1} {y = k} (omega arith)))

pub rule_between : (rule : Rule) → Between (rule_of rule)
rule_between Lower = lower_between
rule_between Midpoint = midpoint_between

-- so what is added to 24 bits fits into 32
pub added_most : (rule : Rule) (k more : ℕ) → k ≤ most_planes → ((m : ℕ) → rule_of rule k m ≡ m + more) → more < 2 ^ most_planes
added_most rule k more h adds = omega (arith, adds 1, (rule_between rule).high k 1 (omega arith), pow_mono {i = k} {j = most_planes} h, one-le-pow k 2 (omega arith))

-- the magnitude of a value by a rule
pub size_none : (rule : ℕ → ℕ → ℕ) (k size : ℕ) → size ≡ 0 → 0 ≡ cond (eqb size 0) 0 (rule k size)
size_none rule k size e = rw (eq-eqb size 0 e)

pub size_some : (rule : ℕ → ℕ → ℕ) (k size more : ℕ) → (size ≡ 0 → ⊥) → ((m : ℕ) → rule k m ≡ m + more) → size + more ≡ cond (eqb size 0) 0 (rule k size)
size_some rule k size more e adds = rw (ne_eqb size 0 e) (sym (adds size))
