use mathlib.Core.Path.{sym, ap, ◌∙◌}
use Rattle.refusals.specs.Checks.{first_failing}
use Rattle.room.specs.Room.{worst_checks}
use Rattle.txp.specs.declared.Header.{Header}
use Rattle.txp.proofs.check_header.Goals as goal

pub returns-then-not-letters_fit : goal.returns-then-not-letters_fit
unfolding first_failing
returns-then-not-letters_fit c = rw (sym c.letters_fit.ensures ∙ c.if-not-letters_fit.true)

pub returns-then-not-version_fits : goal.returns-then-not-version_fits
unfolding first_failing
returns-then-not-version_fits c = rw (sym c.letters_fit.ensures ∙ c.if-not-letters_fit.false, sym c.version_fits.ensures ∙ c.if-not-version_fits.true)

pub returns : goal.returns
unfolding first_failing
returns c = rw (sym c.letters_fit.ensures ∙ c.if-not-letters_fit.false, sym c.version_fits.ensures ∙ c.if-not-version_fits.false)
    (c.check_worst.ensures ∙ ap (λ (h : Header). first_failing (worst_checks h.n h.l h.p)) c.header_of-h.ensures)
