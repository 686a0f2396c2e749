-- The figures of one plane and of all planes, from the values alone, and the checks of the calls that count them: those of
-- the summaries, and after them number 9 for a plane that no array has, or number 5 for an output too short for all planes.
use lib.{Dec.ltb, Dec.leb, IntN.ℤ}
use Rattle.std.specs.Prelude.{ℕ, zero, suc, ◌+◌, ◌*◌, List, [], ◌∷◌, ◌++◌, Result, Ok, Err}
use Rattle.refusals.specs.{declared.Refusal.Refusal, declared.Refusal.TheVariants.Planes, declared.Refusal.TheVariants.Lent, Checks.Check, Checks.need, Checks.Outcome}
use Rattle.sizes.specs.Sizes.{most_planes}
use Rattle.tree.specs.Summaries.{summary_checks}
use Rattle.nls.specs.Parts.{parts, splits_in, found_in}
use Rattle.figures.specs.declared.Figures.{Figures}

-- of the magnitudes of A and plane b: the parts that stand after it, the sets split in it, the coefficients found in it,
-- and the bits that these make
abbrev pub figures_of : ℕ → ℕ → List ℤ → ℕ → Figures
figures_of N L A b =
    record {
      parts = parts N L A b;
      splits = splits_in N L A b;
      bits = parts N L A b + splits_in N L A b + found_in N L A b;
      found = found_in N L A b;
    }

-- the values, the lengths of the two lent tables, and the plane
abbrev pub figures_checks : ℕ → ℕ → List ℤ → ℕ → ℕ → ℕ → List Check
figures_checks N L A descs grands b = summary_checks N L A descs grands ++ (need (ltb b most_planes) Planes ∷ [])

-- all planes: the four numbers of each, in the order of the record, plane after plane from 0 on
abbrev pub four_numbers : Figures → List ℕ
four_numbers f = f.parts ∷ f.splits ∷ f.bits ∷ f.found ∷ []

unfoldable pub figures_below : ℕ → ℕ → List ℤ → ℕ → List ℕ
figures_below N L A zero = []
figures_below N L A (suc b) = figures_below N L A b ++ four_numbers (figures_of N L A b)

abbrev pub all_figures : ℕ → ℕ → List ℤ → List ℕ
all_figures N L A = figures_below N L A most_planes

-- the values, and the lengths of the two lent tables and of the output
abbrev pub all_figures_checks : ℕ → ℕ → List ℤ → ℕ → ℕ → ℕ → List Check
all_figures_checks N L A descs grands outs = summary_checks N L A descs grands ++ (need (leb (4 * most_planes) outs) Lent ∷ [])

-- the figures of a plane, or the refusal
abbrev pub FiguresAnswer : Type 0
FiguresAnswer = Result Figures Refusal

-- what is answered where the checks come to an outcome, and the outcome of an answer
abbrev pub answered : Outcome → Figures → FiguresAnswer
answered (Ok tt) figures = Ok figures
answered (Err why) figures = Err why

abbrev pub outcome_of : FiguresAnswer → Outcome
outcome_of (Ok figures) = Ok tt
outcome_of (Err why) = Err why
