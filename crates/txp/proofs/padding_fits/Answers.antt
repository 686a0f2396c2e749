use Rattle.txp.proofs.Headers.{low_power}
use mathlib.Core.Path.{◌≡◌, sym, ◌∙◌}
use Prim.Native.Nat.{◌+◌, ◌-◌, ◌/◌, ◌%◌}
use lib.Pow.{pow_pos}
use lib.Seq.{get_or-drop}
use lib.ListN.{length, get_or, length-drop}
use borrow.Author.Tests.{eq-eqb, ne_eqb}
use Rattle.txp.specs.Header.{header_size, body_of}
use Rattle.txp.specs.Calls.{padding_fits}
use Rattle.txp.proofs.padding_fits.Goals as goal

pub nonzero_rem-result-then-file-bytes_for : goal.nonzero_rem-result-then-file-bytes_for
nonzero_rem-result-then-file-bytes_for c = let a = c.args in
    rw (low_power (a.declared % 8)) (pow_pos (8 - a.declared % 8))

pub returns-then-file-bytes_for : goal.returns-then-file-bytes_for
unfolding padding_fits
returns-then-file-bytes_for c = let a = c.args in
    let same : c.byte_at-last.result ≡ get_or (body_of a.file.now) (a.declared / 8) 0 =
    c.byte_at-last.ensures.0 ∙ sym (get_or-drop header_size a.file.now (a.declared / 8) 0) in
    let all : length (body_of a.file.now) ≡ (a.declared + 7) / 8 =
    length-drop header_size a.file.now ∙ c.if-file-bytes_for.true ∙ c.bytes_for.ensures in
    rw (low_power (a.declared % 8), eq-eqb (length (body_of a.file.now)) ((a.declared + 7) / 8) all, same)

pub returns : goal.returns
unfolding padding_fits
returns c = let a = c.args in
    rw (ne_eqb (length (body_of a.file.now)) ((a.declared + 7) / 8)
    (λ e. c.if-file-bytes_for.false (sym (length-drop header_size a.file.now) ∙ e ∙ sym c.bytes_for.ensures)))
