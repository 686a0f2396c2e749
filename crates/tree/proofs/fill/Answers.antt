use lib.ListN.{length}
use Rattle.tree.proofs.Checks.{fill_ready}
use Rattle.tree.proofs.fill.Goals as goal

pub fill_both-requires : goal.fill_both-requires
fill_both-requires c = let a = c.args in
    fill_ready a.n a.l a.coefs.now (length a.desc.now) (length a.grand.now) c.check_fill.ensures c.in_ok-check_fill.was
