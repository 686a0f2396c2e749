use native.Mathlib.Numerals.{add-one}
use Rattle.txp.proofs.put_two.Goals as goal

pub returns : goal.returns
returns c = cc (add-one c.args.i)
