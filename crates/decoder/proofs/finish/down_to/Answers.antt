use borrow.Author.Tests.{lt-ltb, le-ltb}
use Rattle.decoder.proofs.finish.down_to.Goals as goal

pub returns-then-place-end : goal.returns-then-place-end
returns-then-place-end c = rw (lt-ltb c.args.place c.args.end c.if-place-end.true)

pub returns : goal.returns
returns c = rw (le-ltb c.args.place c.args.end c.if-place-end.false)
