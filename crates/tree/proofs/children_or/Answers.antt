use Rattle.std.proofs.Common.{rules, ◌≡◌, ◌∙◌, ◌+◌, ◌*◌, bit_or, pos, slice_range}
use Rattle.std.specs.List.{fold}
use Rattle.coef.specs.Coef.{magnitude}
use Rattle.tree.proofs.Filling.{or_part}
use Rattle.tree.proofs.children_or.Goals as goal

pub returns : goal.returns
returns c = let a = c.args in
    let e : c.fold.result ≡ fold (λ m z. bit_or m (magnitude z)) 0 (slice_range a.coefs.now (4 * a.i) (4 * a.i + 4)) = search rules in
    e ∙ or_part (λ z. magnitude z) (pos 0) a.coefs.now a.i c.requires
