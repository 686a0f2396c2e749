use mathlib.Core.Path.{sym, ap, ◌∙◌}
use Rattle.refusals.specs.Checks.{first_failing}
use Rattle.refusals.proofs.Laws.{first_then_done, passed_on}
use Rattle.sizes.specs.Sizes.{side_fits}
use Rattle.txp.specs.declared.Header.{Header}
use Rattle.txp.specs.Header.{header_of, body_of}
use Rattle.txp.specs.Calls.{header_checks, body_checks}
use Rattle.txp.proofs.CallLaws.{header_passed}
use Rattle.txp.proofs.check_decode.Goals as goal

pub check_body-requires : goal.check_body-requires
check_body-requires c = let a = c.args in
    let p = header_passed a.file.now (sym c.check_header.ensures ∙ c.in_ok-check_header.was) in
    (p.0, ap (λ (h : Header). side_fits h.n) c.header_of.ensures ∙ p.1)

pub returns : goal.returns
returns c = let a = c.args in
    let f = a.file.now in
    c.check_body.ensures ∙ ap (λ (h : Header). first_failing (body_checks h (body_of f) a.values a.precisions a.marks)) c.header_of.ensures
    ∙ sym (first_then_done (header_checks f) (body_checks (header_of f) (body_of f) a.values a.precisions a.marks)
    (sym c.check_header.ensures ∙ c.in_ok-check_header.was))

pub returns-in_err-check_header : goal.returns-in_err-check_header
returns-in_err-check_header c = let a = c.args in
    let f = a.file.now in
    passed_on (header_checks f) (body_checks (header_of f) (body_of f) a.values a.precisions a.marks) c.check_header.ensures c.from_residual.ensures.1 c.in_err-check_header.was
