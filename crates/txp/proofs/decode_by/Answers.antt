use Prim.Native.Nat.{◌-◌}
use native.Mathlib.Omega.{arith}
use lib.ListN.{length, drop, length-drop}
use lib.Seq.{take_all}
use Rattle.refusals.proofs.Laws.{left_by}
use Rattle.decoder.specs.Body.{tables}
use Rattle.decoder.specs.Rules.{rule_of}
use Rattle.txp.specs.Header.{header_size}
use Rattle.txp.proofs.CallLaws.{refused_file, header_stands, file_decoded}
use Rattle.txp.proofs.decode_by.Goals as goal

pub slice_bounds-decode_by-count : goal.slice_bounds-decode_by-count
slice_bounds-decode_by-count c = let a = c.args in
    header_stands a.file.now (length a.values.now) (length a.precisions.now) (length a.marks.now) c.check_decode.result c.check_decode.ensures c.in_ok-check_decode.was

pub slice_bounds-decode_by-start : goal.slice_bounds-decode_by-start
slice_bounds-decode_by-start c = let a = c.args in
    header_stands a.file.now (length a.values.now) (length a.precisions.now) (length a.marks.now) c.check_decode.result c.check_decode.ensures c.in_ok-check_decode.was

pub returns : goal.returns
returns c = let a = c.args in
    let d = c.decode_by-body in
    let e = file_decoded a.file.now (length a.values.now) (length a.precisions.now) (length a.marks.now) c.check_decode.result c.check_decode.ensures c.in_ok-check_decode.was (rule_of a.rule)
    c.header_of-h.result _ (tables a.values.now a.precisions.now a.marks.now) (tables d.new.values d.new.precisions d.new.marks) d.result c.header_of-h.ensures
    (take_all (length a.file.now - 12) (drop header_size a.file.now) (omega (arith, length-drop header_size a.file.now))) d.ensures in
    rw c.with_header.ensures e

pub returns-in_err-check_decode : goal.returns-in_err-check_decode
returns-in_err-check_decode c = let a = c.args in
    rw (left_by c.from_residual.ensures.1)
    (refused_file a.file.now (length a.values.now) (length a.precisions.now) (length a.marks.now) c.check_decode.result c.check_decode.ensures (rule_of a.rule) c.in_err-check_decode.field-0.0 (tables a.values.now a.precisions.now a.marks.now) c.in_err-check_decode.was)
