use mathlib.Core.Path.{◌≡◌, sym, ap, ◌∙◌}
use mathlib.Core.Bool.{true}
use Prim.Native.Nat.{ℕ, ◌≤◌}
use native.Mathlib.Omega.{arith}
use lib.ListN.{length, length-drop}
use Rattle.refusals.specs.Checks.{first_failing}
use Rattle.bits.specs.Bits.{bytes_for}
use Rattle.room.specs.Room.{table_checks}
use Rattle.txp.specs.Header.{header_size, body_of}
use Rattle.txp.specs.Calls.{padding_fits}
use Rattle.txp.proofs.CheckLaws.{surplus, no_padding, then_tables}
use Rattle.txp.proofs.check_body.Goals as goal

pub returns-then-bytes_for-file : goal.returns-then-bytes_for-file
returns-then-bytes_for-file c = let a = c.args in
    surplus a.h (body_of a.file.now) a.values a.precisions a.marks
    (omega (arith, c.if-bytes_for-file.true, c.bytes_for.ensures, length-drop header_size a.file.now))

pub returns-then-not-padding_fits : goal.returns-then-not-padding_fits
returns-then-not-padding_fits c =
    let bytes_so : length (body_of c.args.file.now) ≤ bytes_for c.args.h.declared = omega (arith, c.if-bytes_for-file.false, c.bytes_for.ensures, length-drop header_size c.args.file.now) in
    let a = c.args in
    no_padding a.h (body_of a.file.now) a.values a.precisions a.marks (bytes_so)
    (sym c.padding_fits.ensures ∙ c.if-not-padding_fits.true)

-- the room is asked for the entries of a side in range
pub returns : goal.returns
returns c =
    let bytes_so : length (body_of c.args.file.now) ≤ bytes_for c.args.h.declared = omega (arith, c.if-bytes_for-file.false, c.bytes_for.ensures, length-drop header_size c.args.file.now) in
    let padding_so : padding_fits c.args.h.declared (body_of c.args.file.now) ≡ true = sym c.padding_fits.ensures ∙ c.if-not-padding_fits.false in
    let a = c.args in
    c.check_tables.ensures
    ∙ ap (λ (all : ℕ). first_failing (table_checks all a.values a.precisions a.marks)) (c.all_of.ensures ∙ rw c.requires.1)
    ∙ then_tables a.h (body_of a.file.now) a.values a.precisions a.marks (bytes_so) (padding_so)
