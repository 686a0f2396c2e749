use mathlib.Core.Path.{◌≡◌}
use borrow.Author.Rules.{rules}
use lib.IntN.{pos}
use lib.ListN.{length, get_or, take}
use lib.Seq.{length-take-le, get_or-take}
use Rattle.coef.specs.Coef.{mag_at}
use Rattle.figures.proofs.reach_of.Goals as goal

pub returns : goal.returns
returns c = let a = c.args in
    let fits : length (take (length a.grand.now) a.desc.now) ≡ length a.grand.now = length-take-le (length a.grand.now) a.desc.now c.requires.2 in
    rw (
      c.count_by.ensures 0 (λ i. get_or a.desc.now i 0) (λ i r p q. search rules),
      c.count_by-2.ensures 0 (λ i. get_or a.desc.now i 0) (λ i r p q. search (rules, get_or-take)),
      c.count_by-3.ensures 0 (λ i. get_or a.grand.now i 0) (λ i r p q. search rules),
      c.count_by-4.ensures (pos 0) (λ i. mag_at a.values.now i) (λ i r p q. search rules),
      fits,
    )
