use Rattle.std.proofs.Common.{rules, ◌≡◌, ◌∙◌, ◌+◌, ◌*◌, bit_or, slice_range}
use Rattle.std.specs.List.{fold}
use Rattle.tree.proofs.Filling.{or_part}
use Rattle.tree.proofs.entries_or.Goals as goal

pub returns : goal.returns
returns c = let a = c.args in
    let e : c.fold.result ≡ fold (λ m z. bit_or m z) 0 (slice_range a.held.now (4 * a.i) (4 * a.i + 4)) = search rules in
    e ∙ or_part (λ z. z) 0 a.held.now a.i c.requires
