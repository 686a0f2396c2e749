-- The answer of the checks behind those of the header: the first that fails, or that of the tables.
use mathlib.Core.Path.{◌≡◌}
use mathlib.Core.Bool.{true, false}
use mathlib.Core.List.{List}
use Prim.Native.Nat.{ℕ, ◌≤◌, ◌<◌}
use borrow.Author.Tests.{le-leb, lt-leb}
use lib.ListN.{length}
use Rattle.std.specs.Prelude.{Err}
use Rattle.refusals.specs.Checks.{first_failing}
use Rattle.refusals.specs.declared.Refusal.TheVariants.{Surplus, Padding}
use Rattle.sizes.specs.Sizes.{all_of}
use Rattle.bits.specs.Bits.{bytes_for}
use Rattle.room.specs.Room.{table_checks}
use Rattle.txp.specs.declared.Header.{Header}
use Rattle.txp.specs.Calls.{padding_fits, body_checks}

module _ (h : Header) (body : List ℕ) (values precisions marks : ℕ) where
  pub surplus : bytes_for h.declared < length body → Err Surplus ≡ first_failing (body_checks h body values precisions marks)
  unfolding first_failing
  surplus b = rw (lt-leb (length body) (bytes_for h.declared) b)

  module _ (b : length body ≤ bytes_for h.declared) where
    pub no_padding : padding_fits h.declared body ≡ false → Err Padding ≡ first_failing (body_checks h body values precisions marks)
    unfolding first_failing
    no_padding f = rw (le-leb (length body) (bytes_for h.declared) b, f)

    module _ (f : padding_fits h.declared body ≡ true) where
      pub then_tables : first_failing (table_checks (all_of h.n) values precisions marks) ≡ first_failing (body_checks h body values precisions marks)
      unfolding first_failing
      then_tables = rw (le-leb (length body) (bytes_for h.declared) b, f)
