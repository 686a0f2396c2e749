-- Each contract of the stepped decoder decides its outcome: of two outcomes that it allows for the same arguments, the answers are equal, and so are the record and what is lent to be written.
use mathlib.Core.Path.{◌≡◌}
use seplogic.Ra.Ura.{Ura}
use base.Logic.{SProp}
use prog.Memory.{Memory}
use prog.Routine.{Routine}
use types.Logic.{Logic}
use contract.Monad.{Fun}
use Rattle.refusals.proofs.Decided.{OneOutcome}
use Rattle.view.proofs.Decided.{both, Settles}
use Rattle.decoder.specs.Body.{Tables, tables, ReadAnswer}
use Rattle.steps.specs.declared.Record.{Record}
use Rattle.steps.specs.declared.Stepped.{Stepped}
use Rattle.steps.proofs.One.{starts_one, forwards_one, backs_one, turns_one}
use Rattle.steps.proofs.by_value.take_start.Reads as take_start
use Rattle.steps.proofs.by_value.take_forward.Reads as take_forward
use Rattle.steps.proofs.by_value.take_back.Reads as take_back
use Rattle.steps.proofs.by_value.take_turn.Reads as take_turn
use Rattle.steps.specs.contracts.start as start
use Rattle.steps.specs.contracts.forward as forward
use Rattle.steps.specs.contracts.back as back
use Rattle.steps.specs.contracts.turn as turn

-- the outcome of a step: the answer, the record and the tables
abbrev pub Outcome : Type 0
Outcome = ReadAnswer × (Record × Tables)

-- an answer and a record, each equal, are equal as what a step hands back
stepped_same : (z z' : Stepped) → z.answer ≡ z'.answer → z.dial ≡ z'.dial → z ≡ z'
stepped_same z z' e f i = record { dial = f i; answer = e i }

-- and so are they and tables as an outcome
outcome_same : {a a' : ReadAnswer} {d d' : Record} {t t' : Tables} → (a ≡ a') × (d ≡ d') × (t ≡ t') → ◌≡◌ {A = Outcome} (a, (d, t)) (a', (d', t'))
outcome_same e i = (e.0 i, (e.1 i, e.2 i))

-- the fifth to the seventh parameter are the values, the precisions and the marks
pub take_start_decided : OneOutcome {Lent = Tables} take_start.Learnt (λ k s. tables s.1.1.1.1.0.now s.1.1.1.1.1.0.now s.1.1.1.1.1.1.0.now)
take_start_decided k args z z' s s' p q =
    let same : (z.answer ≡ z'.answer) × (z.dial ≡ z'.dial) × (tables s.1.1.1.1.0.now s.1.1.1.1.1.0.now s.1.1.1.1.1.1.0.now ≡ tables s'.1.1.1.1.0.now s'.1.1.1.1.1.0.now s'.1.1.1.1.1.1.0.now) = starts_one args.1.0 args.1.1.0 args.1.1.1.0 args.0 (tables args.1.1.1.1.0.now args.1.1.1.1.1.0.now args.1.1.1.1.1.1.0.now) z.answer z'.answer z.dial z'.dial (tables s.1.1.1.1.0.now s.1.1.1.1.1.0.now s.1.1.1.1.1.1.0.now) (tables s'.1.1.1.1.0.now s'.1.1.1.1.1.0.now s'.1.1.1.1.1.1.0.now) p q in
    (stepped_same z z' same.0 same.1, same.2)

-- the fourth to the sixth parameter are the values, the precisions and the marks
pub take_forward_decided : OneOutcome {Lent = Tables} take_forward.Learnt (λ k s. tables s.1.1.1.0.now s.1.1.1.1.0.now s.1.1.1.1.1.0.now)
take_forward_decided k args z z' s s' p q =
    let same : (z.answer ≡ z'.answer) × (z.dial ≡ z'.dial) × (tables s.1.1.1.0.now s.1.1.1.1.0.now s.1.1.1.1.1.0.now ≡ tables s'.1.1.1.0.now s'.1.1.1.1.0.now s'.1.1.1.1.1.0.now) = forwards_one args.1.1.0 args.1.0.now args.0 (tables args.1.1.1.0.now args.1.1.1.1.0.now args.1.1.1.1.1.0.now) z.answer z'.answer z.dial z'.dial (tables s.1.1.1.0.now s.1.1.1.1.0.now s.1.1.1.1.1.0.now) (tables s'.1.1.1.0.now s'.1.1.1.1.0.now s'.1.1.1.1.1.0.now) p q in
    (stepped_same z z' same.0 same.1, same.2)

-- the fourth to the sixth parameter are the values, the precisions and the marks
pub take_back_decided : OneOutcome {Lent = Tables} take_back.Learnt (λ k s. tables s.1.1.1.0.now s.1.1.1.1.0.now s.1.1.1.1.1.0.now)
take_back_decided k args z z' s s' p q =
    let same : (z.answer ≡ z'.answer) × (z.dial ≡ z'.dial) × (tables s.1.1.1.0.now s.1.1.1.1.0.now s.1.1.1.1.1.0.now ≡ tables s'.1.1.1.0.now s'.1.1.1.1.0.now s'.1.1.1.1.1.0.now) = backs_one args.1.1.0 args.1.0.now args.0 (tables args.1.1.1.0.now args.1.1.1.1.0.now args.1.1.1.1.1.0.now) z.answer z'.answer z.dial z'.dial (tables s.1.1.1.0.now s.1.1.1.1.0.now s.1.1.1.1.1.0.now) (tables s'.1.1.1.0.now s'.1.1.1.1.0.now s'.1.1.1.1.1.0.now) p q in
    (stepped_same z z' same.0 same.1, same.2)

-- the fifth to the seventh parameter are the values, the precisions and the marks
pub take_turn_decided : OneOutcome {Lent = Tables} take_turn.Learnt (λ k s. tables s.1.1.1.1.0.now s.1.1.1.1.1.0.now s.1.1.1.1.1.1.0.now)
take_turn_decided k args z z' s s' p q =
    let same : (z.answer ≡ z'.answer) × (z.dial ≡ z'.dial) × (tables s.1.1.1.1.0.now s.1.1.1.1.1.0.now s.1.1.1.1.1.1.0.now ≡ tables s'.1.1.1.1.0.now s'.1.1.1.1.1.0.now s'.1.1.1.1.1.1.0.now) = turns_one args.1.1.0 args.1.1.1.0 args.1.0.now args.0 (tables args.1.1.1.1.0.now args.1.1.1.1.1.0.now args.1.1.1.1.1.1.0.now) z.answer z'.answer z.dial z'.dial (tables s.1.1.1.1.0.now s.1.1.1.1.1.0.now s.1.1.1.1.1.1.0.now) (tables s'.1.1.1.1.0.now s'.1.1.1.1.1.0.now s'.1.1.1.1.1.1.0.now) p q in
    (stepped_same z z' same.0 same.1, same.2)

-- ---- the record is lent. The contracts are read as they stand, as assertions: what the contract says of two outcomes entails that they are equal

module _ {M : Type 1} {𝓤 : Ura M} (𝓛 : Logic 𝓤) (mem : Memory → SProp 𝓤) (run : Routine → Fun 𝓤) where
  pub start_decided : Settles 𝓛 mem run {X = Outcome} start.ended (start.clauses 𝓛 mem run) (λ κs x e. (x, (e.0.now, tables e.1.1.1.1.0.now e.1.1.1.1.1.0.now e.1.1.1.1.1.1.0.now)))
  start_decided κs a g x y e f = both 𝓤 _ _ _ (λ p q. outcome_same (starts_one a.1.0 a.1.1.0 a.1.1.1.0 a.0.now (tables a.1.1.1.1.0.now a.1.1.1.1.1.0.now a.1.1.1.1.1.1.0.now) x y e.0.now f.0.now (tables e.1.1.1.1.0.now e.1.1.1.1.1.0.now e.1.1.1.1.1.1.0.now) (tables f.1.1.1.1.0.now f.1.1.1.1.1.0.now f.1.1.1.1.1.1.0.now) p q))

  pub forward_decided : Settles 𝓛 mem run {X = Outcome} forward.ended (forward.clauses 𝓛 mem run) (λ κs x e. (x, (e.0.now, tables e.1.1.1.0.now e.1.1.1.1.0.now e.1.1.1.1.1.0.now)))
  forward_decided κs a g x y e f = both 𝓤 _ _ _ (λ p q. outcome_same (forwards_one a.1.1.0 a.1.0.now a.0.now (tables a.1.1.1.0.now a.1.1.1.1.0.now a.1.1.1.1.1.0.now) x y e.0.now f.0.now (tables e.1.1.1.0.now e.1.1.1.1.0.now e.1.1.1.1.1.0.now) (tables f.1.1.1.0.now f.1.1.1.1.0.now f.1.1.1.1.1.0.now) p q))

  pub back_decided : Settles 𝓛 mem run {X = Outcome} back.ended (back.clauses 𝓛 mem run) (λ κs x e. (x, (e.0.now, tables e.1.1.1.0.now e.1.1.1.1.0.now e.1.1.1.1.1.0.now)))
  back_decided κs a g x y e f = both 𝓤 _ _ _ (λ p q. outcome_same (backs_one a.1.1.0 a.1.0.now a.0.now (tables a.1.1.1.0.now a.1.1.1.1.0.now a.1.1.1.1.1.0.now) x y e.0.now f.0.now (tables e.1.1.1.0.now e.1.1.1.1.0.now e.1.1.1.1.1.0.now) (tables f.1.1.1.0.now f.1.1.1.1.0.now f.1.1.1.1.1.0.now) p q))

  pub turn_decided : Settles 𝓛 mem run {X = Outcome} turn.ended (turn.clauses 𝓛 mem run) (λ κs x e. (x, (e.0.now, tables e.1.1.1.1.0.now e.1.1.1.1.1.0.now e.1.1.1.1.1.1.0.now)))
  turn_decided κs a g x y e f = both 𝓤 _ _ _ (λ p q. outcome_same (turns_one a.1.1.0 a.1.1.1.0 a.1.0.now a.0.now (tables a.1.1.1.1.0.now a.1.1.1.1.1.0.now a.1.1.1.1.1.1.0.now) x y e.0.now f.0.now (tables e.1.1.1.1.0.now e.1.1.1.1.1.0.now e.1.1.1.1.1.1.0.now) (tables f.1.1.1.1.0.now f.1.1.1.1.1.0.now f.1.1.1.1.1.1.0.now) p q))
