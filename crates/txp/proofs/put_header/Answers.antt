use Rattle.txp.proofs.Headers.{header_put}
use Rattle.txp.proofs.put_header.Goals as goal

pub returns : goal.returns
returns c = let a = c.args in
    header_put a.h a.out.now _ _ _ _ _ _ _ _ _
    c.put_byte.ensures
    c.put_byte-2.ensures
    c.put_byte-3.ensures
    c.put_two.ensures
    c.put_byte-4.ensures
    c.put_byte-5.ensures
    c.put_byte-6.ensures
    c.put_two-2.ensures
    c.put_two-3.ensures
    c.requires.0
