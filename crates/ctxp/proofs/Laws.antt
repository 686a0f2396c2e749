-- Answers that are equal say the same; what a lent table holds, by the outcome of the checks; and a step from an equal record.
use mathlib.Core.Path.{◌≡◌, refl, sym, ap, subst, ◌∙◌}
use mathlib.Core.Bool.{Bool, true, false, ◌&&◌, cond, false≢true}
use mathlib.Core.List.{List}
use Prim.Native.Nat.{ℕ, ◌<◌, ◌^◌, ◌-◌}
use native.Mathlib.Omega.{arith}
use lib.IntN.{ℤ}
use Rattle.std.specs.Prelude.{Ok, Err}
use Rattle.refusals.specs.Checks.{lent_after, Outcome}
use Rattle.refusals.specs.declared.Refusal.{Refusal}
use Rattle.sizes.specs.Sizes.{side_fits, levels_fit, all_of, coarsest_of}
use Rattle.sizes.proofs.Laws.{side_most, all_most, both_left}
use Rattle.places.specs.Answers.{raster_if, linear_if, LinearAnswer, RasterAnswer}
use Rattle.places.specs.declared.Raster.{Raster}
use Rattle.places.specs.declared.Linear.{Linear}
use Rattle.figures.specs.Figures.{answered, outcome_of, FiguresAnswer}
use Rattle.figures.specs.declared.Figures.{Figures}
use Rattle.encoder.specs.Body.{Loan}
use Rattle.encoder.proofs.EncodeLaws.{sent_most}
use Rattle.decoder.specs.Body.{Tables, ReadAnswer}
use Rattle.steps.specs.declared.Record.{Record}
use Rattle.txp.specs.Calls.{encode_answer, encode_outcome, Encodes, EncodeAnswer}
use Rattle.ctxp.specs.Answers.{Answers, of_refusal, of_linear, of_raster}
use Rattle.ctxp.specs.Inner.{Short}

pub answers_by : (r : ℕ) (held : List ℕ) {a b : List ℕ} → a ≡ b → Answers r held a → Answers r held b
answers_by r held {a} {b} e p = subst (λ (x : List ℕ). Answers r held x) e p

-- a file's bytes fit 32 bits, as its budget does
module _ (N L : ℕ) (A : List ℤ) (budget : ℕ) where
  short_by : budget < 2 ^ 32 → (o : Outcome) → Short (encode_answer N L A budget o)
  short_by h (Ok tt) = omega (arith, sent_most N L A budget)
  short_by h (Err why) = tt

  pub file_short : (held left : Loan) (r : EncodeAnswer) → budget < 2 ^ 32 → Encodes N L A budget held r left → Short r
  file_short held left r h e = subst (λ (x : EncodeAnswer). Short x) (sym e.answered) (short_by h (encode_outcome N L A budget held))

figures_end : (o : Outcome) (f : Figures) → outcome_of (answered o f) ≡ o
figures_end (Ok tt) f = refl
figures_end (Err why) f = refl

pub figures_ends : (f : Figures) (o : Outcome) {r : FiguresAnswer} → r ≡ answered o f → outcome_of r ≡ o
figures_ends f o e = ap outcome_of e ∙ figures_end o f

-- a lent table after a call, by an outcome that is the same
pub lent_by : {A : Type 0} {now : List A} (o o' : Outcome) (own held : List A) → o ≡ o' → now ≡ lent_after o own held → now ≡ lent_after o' own held
lent_by {A} {now} o o' own held e p = p ∙ ap (λ (x : Outcome). lent_after x own held) e

-- sizes fit 32 bits
pub all_short : (N : ℕ) → cond (side_fits N) (all_of N) 0 < 2 ^ 32
all_short N = tell (side_fits N) refl
  where
    tell : (t : Bool) → side_fits N ≡ t → cond t (all_of N) 0 < 2 ^ 32
    tell true e = omega (arith, all_most N (side_most N e))
    tell false e = omega arith

pub coarsest_short : (N L : ℕ) → cond (side_fits N && levels_fit N L) (coarsest_of N L) 0 < 2 ^ 32
coarsest_short N L = tell (side_fits N && levels_fit N L) refl
  where
    tell : (t : Bool) → (side_fits N && levels_fit N L) ≡ t → cond t (coarsest_of N L) 0 < 2 ^ 32
    tell true e = omega (arith, all_most (N - L) (omega (arith, side_most N (both_left (side_fits N) (levels_fit N L) e))))
    tell false e = omega arith

-- a place that was checked has the number that was given, and both orders refuse alike
abbrev is_raster : RasterAnswer → Bool
is_raster (Ok p) = true
is_raster (Err why) = false

abbrev is_linear : LinearAnswer → Bool
is_linear (Ok q) = true
is_linear (Err why) = false

abbrev raster_at : RasterAnswer → ℕ
raster_at (Ok p) = p.0
raster_at (Err why) = 0

abbrev linear_at : LinearAnswer → ℕ
linear_at (Ok q) = q.0
linear_at (Err why) = 0

pub raster_same : (o : Outcome) (place : ℕ) (p : Raster) → raster_if o place ≡ Ok p → p.0 ≡ place
raster_same (Ok tt) place p e = sym (ap raster_at e)
raster_same (Err why) place p e = absurd (false≢true (ap is_raster e))

pub linear_same : (o : Outcome) (place : ℕ) (q : Linear) → linear_if o place ≡ Ok q → q.0 ≡ place
linear_same (Ok tt) place q e = sym (ap linear_at e)
linear_same (Err why) place q e = absurd (false≢true (ap is_linear e))

pub raster_refused : (o : Outcome) (p q : ℕ) (why : Refusal) → raster_if o p ≡ Err why → of_refusal why ≡ of_linear (linear_if o q)
raster_refused (Ok tt) p q why e = absurd (false≢true (sym (ap is_raster e)))
raster_refused (Err w) p q why e = sym (ap of_raster e)

pub linear_refused : (o : Outcome) (q p : ℕ) (why : Refusal) → linear_if o q ≡ Err why → of_refusal why ≡ of_raster (raster_if o p)
linear_refused (Ok tt) q p why e = absurd (false≢true (sym (ap is_linear e)))
linear_refused (Err w) q p why e = sym (ap of_linear e)

-- a step from a record is one from any record that is equal; Steps is one of the four relations of `steps`, at its numbers
pub step_from : (Steps : Record → Tables → ReadAnswer → Record → Tables → Type 0) {d d' : Record} {held left : Tables} {said : ReadAnswer} {moved : Record} → d ≡ d' → Steps d held said moved left → Steps d' held said moved left
step_from Steps {d} {d'} {held} {left} {said} {moved} e p = subst (λ (x : Record). Steps x held said moved left) e p
