use Rattle.std.proofs.Common.{rules, ◌≡◌, ◌∙◌, bit_or}
use Rattle.std.specs.List.{fold}
use Rattle.coef.specs.Coef.{magnitude}
use Rattle.coef.proofs.Laws.{or_folded}
use Rattle.coef.proofs.magnitudes_or.Goals as goal

pub returns : goal.returns
returns c =
    let e : c.fold.result ≡ fold (λ m z. bit_or m (magnitude z)) 0 c.args.a.now = search rules in
    e ∙ or_folded (λ z. magnitude z) c.args.a.now 0
