-- The worst body: no bits for no planes, else the sum of demand 3.
use Prim.Native.Nat.{ℕ, ◌+◌, ◌*◌, ◌-◌, ◌/◌, ◌≤◌}
use mathlib.Core.Path.{◌≡◌}
use native.Mathlib.Omega.{arith}
use borrow.Author.Tests.{eq-eqb, ne_eqb}
use Rattle.sizes.specs.Sizes.{all_of, coarsest_of}
use Rattle.nls.specs.Stream.{worst_body}

module _ (N L P : ℕ) where
  pub worst_none : P ≡ 0 → worst_body N L P ≡ 0
  unfolding worst_body
  worst_none e = rw (eq-eqb P 0 e)

  pub worst_some : 1 ≤ P → worst_body N L P ≡ all_of N * (P + 1) + (all_of N - coarsest_of N L) / 4 + (all_of N - 4 * coarsest_of N L) / 16
  unfolding worst_body
  worst_some h = rw (ne_eqb P 0 (λ e. omega (arith, e, h)))
