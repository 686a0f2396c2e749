use lib.ListN.{length, get_or}
use Rattle.coef.specs.Coef.{mag_at}
use Rattle.figures.proofs.Tallies.{all_reach}
use Rattle.figures.proofs.reach_all.Goals as goal

pub returns : goal.returns
returns c = let a = c.args in
    rw (all_reach (length a.desc.now) (λ i. get_or a.desc.now i 0), all_reach (length a.grand.now) (λ i. get_or a.desc.now i 0), all_reach (length a.grand.now) (λ i. get_or a.grand.now i 0), all_reach (length a.values.now) (λ i. mag_at a.values.now i))
