use borrow.Author.Tests.{eq-eqb, ne_eqb}
use Rattle.decoder.proofs.ending.ending_of.Goals as goal

pub returns-then-left-eq0 : goal.returns-then-left-eq0
returns-then-left-eq0 c = rw (eq-eqb _ 0 c.if-left-eq0.true)

pub returns : goal.returns
returns c = rw (ne_eqb _ 0 c.if-left-eq0.false) c.word_of.ensures
