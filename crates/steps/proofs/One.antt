-- Each contract of the stepped decoder allows one outcome.
use Prim.Native.Nat.{ℕ}
use mathlib.Core.Path.{◌≡◌, refl, sym, ap, subst, ◌∙◌}
use mathlib.Core.Bool.{Bool}
use mathlib.Core.List.{List, []}
use lib.ListN.{length}
use Rattle.std.specs.Prelude.{Ok, Err}
use Rattle.refusals.specs.Checks.{first_failing}
use Rattle.sizes.specs.Tables.{table}
use Rattle.nls.specs.Reading.{midpoint}
use Rattle.room.specs.Room.{read_checks, body_bits}
use Rattle.decoder.specs.Body.{Tables, ReadsTo, ReadsBy, ReadAnswer}
use Rattle.decoder.proofs.Decided.{reads_one}
use Rattle.steps.specs.Records.{record_after, Step, step}
use Rattle.steps.specs.Steps.{unended, Starts, Forwards, Backs, Turns}
use Rattle.steps.specs.declared.Record.{Record}

module _ (answer answer' : ReadAnswer) (dial dial' : Record) (left left' : Tables) where
  -- the answer, the record and the tables
  abbrev pub Same : Type 0
  Same = (answer ≡ answer') × (dial ≡ dial') × (left ≡ left')

  step_one : (s : Step) → step answer dial left ≡ s → step answer' dial' left' ≡ s → Same
  step_one s p q =
      let e : step answer dial left ≡ step answer' dial' left' = p ∙ sym q in
      (ap (λ (x : Step). x.answer) e, ap (λ (x : Step). x.dial) e, ap (λ (x : Step). x.held) e)

pub forwards_one : (declared : ℕ) (body : List ℕ) (r : Record) (held : Tables) (answer answer' : ReadAnswer) (dial dial' : Record) (left left' : Tables)
    → Forwards declared body r held answer dial left → Forwards declared body r held answer' dial' left' → Same answer answer' dial dial' left left'
forwards_one declared body r held answer answer' dial dial' left left' p q = step_one answer answer' dial dial' left left' _ p.decided q.decided

pub backs_one : (declared : ℕ) (body : List ℕ) (r : Record) (held : Tables) (answer answer' : ReadAnswer) (dial dial' : Record) (left left' : Tables)
    → Backs declared body r held answer dial left → Backs declared body r held answer' dial' left' → Same answer answer' dial dial' left left'
backs_one declared body r held answer answer' dial dial' left left' p q = step_one answer answer' dial dial' left left' _ p.decided q.decided

pub turns_one : (declared to : ℕ) (body : List ℕ) (r : Record) (held : Tables) (answer answer' : ReadAnswer) (dial dial' : Record) (left left' : Tables)
    → Turns declared to body r held answer dial left → Turns declared to body r held answer' dial' left' → Same answer answer' dial dial' left left'
turns_one declared to body r held answer answer' dial dial' left left' p q = step_one answer answer' dial dial' left left' _ p.decided q.decided

-- no bit of a body is none
no_bits : body_bits 0 [] ≡ []
unfolding table
no_bits = refl

-- to start is to read no bit
pub starts_read : (N L P : ℕ) (r : Record) (held : Tables) (answer : ReadAnswer) (dial : Record) (left : Tables) → Starts N L P r held answer dial left → ReadsBy midpoint unended N L P 0 [] held answer left
starts_read N L P r held answer dial left p =
    subst (λ (u : List Bool). ReadsTo (first_failing (read_checks N L P (length held.values) (length held.precisions) (length held.marks))) midpoint unended N L P u held answer left) (sym no_bits) p.reads

pub starts_one : (N L P : ℕ) (r : Record) (held : Tables) (answer answer' : ReadAnswer) (dial dial' : Record) (left left' : Tables)
    → Starts N L P r held answer dial left → Starts N L P r held answer' dial' left' → Same answer answer' dial dial' left left'
starts_one N L P r held answer answer' dial dial' left left' p q =
    let one : (answer ≡ answer') × (left ≡ left') =
    reads_one midpoint unended N L P 0 [] held answer answer' left left' (starts_read N L P r held answer dial left p) (starts_read N L P r held answer' dial' left' q) in
    (one.0, p.recorded ∙ ap (λ (a : ReadAnswer). elim a as (λ _. Record) [ Ok d ↦ record_after N L P [] | Err why ↦ r ]) one.0 ∙ sym q.recorded, one.1)
