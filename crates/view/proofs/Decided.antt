-- Each contract decides its outcome: of two outcomes that it allows for the same arguments, the answers are equal, and so is the view that is lent.
use mathlib.Core.Path.{◌≡◌, sym, ◌∙◌}
use seplogic.Ra.Ura.{Ura}
use base.Logic.{SProp, ent, sep, fst∗, snd∗}
use prog.Memory.{Memory}
use prog.Routine.{Routine}
use types.Logic.{Logic}
use contract.Lifetimes.{Lfts}
use contract.Monad.{Fun, fact, fact_i, fact_use}
use denote.Triple.Clauses.{Ended, AtExit, Clauses}
use denote.Triple.Entry.{Args, Res}
use Rattle.refusals.proofs.Decided.{OneAnswer}
use Rattle.bits.specs.Bits.{Next}
use Rattle.view.specs.declared.BitView.{BitView}
use Rattle.view.proofs.bit_at.Reads as bit_at
use Rattle.view.proofs.read.Reads as read
use Rattle.view.specs.contracts.view as view
use Rattle.view.specs.contracts.next_bit as next_bit
use Rattle.view.specs.contracts.moved as moved
use Rattle.view.specs.contracts.take as take

pub bit_at_decided : OneAnswer bit_at.Learnt
bit_at_decided k args r r' s s' p q = p ∙ sym q

pub read_decided : OneAnswer read.Learnt
read_decided k args r r' s s' p q = p ∙ sym q

-- ---- functions over a view. Their contracts are read as they stand, as assertions: what the contract says of two outcomes entails that they are equal

pub both : {M : Type 1} (𝓤 : Ura M) (φ ψ χ : Type 0) → (φ → ψ → χ) → ent 𝓤 (sep 𝓤 (fact 𝓤 φ) (fact 𝓤 ψ)) (fact 𝓤 χ)
both 𝓤 φ ψ χ h =
    fact_use 𝓤 φ (fst∗ 𝓤 (fact 𝓤 φ) (fact 𝓤 ψ)) (λ p. fact_use 𝓤 ψ (snd∗ 𝓤 (fact 𝓤 φ) (fact 𝓤 ψ)) (λ q. fact_i 𝓤 χ (sep 𝓤 (fact 𝓤 φ) (fact 𝓤 ψ)) (h p q)))

module _ {M : Type 1} {𝓤 : Ura M} (𝓛 : Logic 𝓤) (mem : Memory → SProp 𝓤) (run : Routine → Fun 𝓤) where
  abbrev pub Settles : {X : Type 0} (T : Ended) → Clauses 𝓤 T → ((κs : Lfts T.signature.lifetimes) → Res T.signature κs → AtExit T κs → X) → Type 1
  Settles T c outcome =
      (κs : Lfts T.signature.lifetimes) (a : Args T.signature κs) (g : (c κs a).ghost) (x y : Res T.signature κs) (e f : AtExit T κs)
      → ent 𝓤 (sep 𝓤 ((c κs a).ensures g x e) ((c κs a).ensures g y f)) (fact 𝓤 (outcome κs x e ≡ outcome κs y f))

  pub view_decided : Settles {X = BitView} view.ended (view.clauses 𝓛 mem run) (λ κs x e. x)
  view_decided κs a g x y e f = both 𝓤 _ _ _ (λ p q. p ∙ sym q)

  pub next_bit_decided : Settles {X = Next} next_bit.ended (next_bit.clauses 𝓛 mem run) (λ κs x e. x)
  next_bit_decided κs a g x y e f = both 𝓤 _ _ _ (λ p q. p ∙ sym q)

  pub moved_decided : Settles {X = BitView} moved.ended (moved.clauses 𝓛 mem run) (λ κs x e. x)
  moved_decided κs a g x y e f = both 𝓤 _ _ _ (λ p q. p ∙ sym q)

  pub take_decided : Settles {X = Next × BitView} take.ended (take.clauses 𝓛 mem run) (λ κs x e. (x, e.0.now))
  take_decided κs a g x y e f = both 𝓤 _ _ _ (λ p q i. ((p.0 ∙ sym q.0) i, (p.1 ∙ sym q.1) i))
