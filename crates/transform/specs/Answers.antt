-- The checks of the two calls (document 02, T-05), and what lent arrays hold afterwards.
use mathlib.Core.{Path.◌≡◌, Bool.Bool, Bool.cond, Bool.◌&&◌, List.List, List.[], List.◌∷◌, List.◌++◌}
use lib.{Dec.leb, Dec.eqb, IntN.ℤ, IntN.pos, IntN.negsuc, ListN.length, ListN.replicate, Signed.le_z}
use Rattle.std.specs.Prelude.{ℕ, suc}
use Rattle.refusals.specs.{Checks.Check, Checks.need, Checks.first_failing, Checks.lent_after, declared.Refusal.TheVariants.Lent, declared.Refusal.TheVariants.Sample, declared.Refusal.TheVariants.Restored, Checks.Outcome}
use Rattle.sizes.specs.{Sizes.all_of, Checks.size_checks}
use Rattle.coef.specs.Coef.{coefficient_check}
use Rattle.transform.specs.Transform.{coefficients_of, samples_of}

-- "samples from -32,768 to 32,767"; -(n + 1) is `negsuc n`
abbrev pub most_sample : ℕ
most_sample = 32767

unfoldable pub is_sample : ℤ → Bool
is_sample z = le_z (negsuc most_sample) z && le_z z (pos most_sample)

-- the first place of a number that is no sample, or the length where there is none
unfoldable pub first_outside : List ℤ → ℕ
first_outside [] = 0
first_outside (z ∷ rest) = cond (is_sample z) (suc (first_outside rest)) 0

-- every number is a sample
abbrev pub all_samples : List ℤ → Bool
all_samples A = eqb (first_outside A) (length A)

-- "17, sample out of range, with the first raster place"; "18, a restored sample out of range, place 0"
abbrev pub sample_check : List ℤ → Check
sample_check A = need (all_samples A) (Sample (first_outside A))

abbrev pub restored_check : List ℤ → Check
restored_check A = need (all_samples A) Restored

-- number 5: the lengths of the output and of the work table
abbrev pub room_check : ℕ → ℕ → ℕ → Check
room_check N out work = need (leb (all_of N) out && leb (all_of N) work) Lent

-- "both after 1, 2, 3 and 5, and on the inverse 4 stands between 3 and 5": the transform of A
abbrev pub transform_checks : ℕ → ℕ → List ℤ → ℕ → ℕ → List Check
transform_checks N L A out work = size_checks N L (length A) ++ (room_check N out work ∷ sample_check A ∷ [])

-- the inverse of C: before anything is touched, and in all
abbrev pub entry_checks : ℕ → ℕ → List ℤ → ℕ → ℕ → List Check
entry_checks N L C out work = size_checks N L (length C) ++ (coefficient_check C ∷ room_check N out work ∷ [])

abbrev pub restore_checks : ℕ → ℕ → List ℤ → ℕ → ℕ → List Check
restore_checks N L C out work = entry_checks N L C out work ++ (restored_check (samples_of N L C) ∷ [])

-- "A work table, if one is lent, ends as zeros"
unfoldable pub all_zero : ℕ → List ℤ
all_zero N = replicate (all_of N) (pos 0)

-- the output's own entries after an inverse that nothing before 18 refuses; "18 .. the first I output entries set to 0"
abbrev pub restored_of : ℕ → ℕ → List ℤ → List ℤ
restored_of N L C = cond (all_samples (samples_of N L C)) (samples_of N L C) (all_zero N)

-- a call that transforms A: its answer, and the output and the work table after it
pub record Transforms (N L : ℕ) (A out work : List ℤ) (answer : Outcome) (out' work' : List ℤ) : Type 0 where
  pub answered : answer ≡ first_failing (transform_checks N L A (length out) (length work))
  pub filled : out' ≡ lent_after answer (coefficients_of N L A) out
  pub cleared : work' ≡ lent_after answer (all_zero N) work

-- a call that restores the samples of C: the outcome of the checks on entry decides what is touched
pub record Restores (N L : ℕ) (C out work : List ℤ) (answer : Outcome) (out' work' : List ℤ) : Type 0 where
  pub answered : answer ≡ first_failing (restore_checks N L C (length out) (length work))
  pub filled : out' ≡ lent_after (first_failing (entry_checks N L C (length out) (length work))) (restored_of N L C) out
  pub cleared : work' ≡ lent_after (first_failing (entry_checks N L C (length out) (length work))) (all_zero N) work

-- A is a square of samples, and C are its coefficients
pub record HasCoefficients (N L : ℕ) (A C : List ℤ) : Type 0 where
  pub size : length A ≡ all_of N
  pub inside : first_outside A ≡ length A
  pub gives : coefficients_of N L A ≡ C
