-- The samples hold, by computation.
use mathlib.Core.Path.{refl, subst}
use mathlib.Core.Bool.{Bool, true, false}
use mathlib.Core.List.{List, ◌∷◌, ◌++◌, flat_map}
use lib.ListN.{replicate}
use native.Mathlib.Omega.{arith}
use Rattle.sizes.specs.Tables.{table}
use Rattle.sizes.specs.Sizes.{Sized}
use Rattle.bits.specs.Bits.{bit, or_all, packed, number}
use Rattle.places.specs.Order.{linearly, to_raster, row_of, col_of}
use Rattle.coef.specs.Coef.{planes_of, largest, digits}
use Rattle.tree.specs.Tree.{children, descendants, desc, grand, any_in}
use Rattle.tree.specs.Summaries.{desc_or, grand_or}
use Rattle.nls.specs.Marks.{skip, set_skip, push_from, push_roots, start_marks}
use Rattle.nls.specs.Scan.{silently, settle, ask, next, reach, start}
use Rattle.nls.specs.Stream.{answer, answers, worst_body, stream, during}
use Rattle.nls.specs.Parts.{sum_to, found, desc_split, grand_split, stands_alone, desc_stands, grand_stands, parts, splits, nonzeros}
use Rattle.nls.specs.Reading.{set_each, learned, value_by}
use Rattle.nls.specs.Judging.{Verdict, contradiction, Judged}
use Rattle.nls.specs.Samples.{raster, linear, whole, values_at, error_at, precisions_at, pictured, whole_picture, scan_samples, Each}
use Rattle.nls.proofs.Verdicts.{no_one_found, no_child_found, verdict_judged}

small : Sized 2 1
small = record { least = omega arith; most = omega arith }

-- the two bodies that are refused, by the verdict's computation
six : Judged 2 1 1 (replicate 7 false) (contradiction 6)
six = subst (λ (v : Verdict). Judged 2 1 1 (replicate 7 false) v) no_one_found (verdict_judged 2 1 small 1 (replicate 7 false))

body : List Bool
body = replicate 4 false ++ (true ∷ replicate 4 false)

eight : Judged 2 1 1 body (contradiction 8)
unfolding body
eight = subst (λ (v : Verdict). Judged 2 1 1 body v) no_child_found (verdict_judged 2 1 small 1 body)

pub all_samples : Each scan_samples
unfolding body raster linear whole values_at error_at precisions_at pictured whole_picture scan_samples table bit packed number linearly to_raster row_of col_of planes_of largest digits
    children descendants desc grand any_in flat_map or_all desc_or grand_or skip set_skip push_from push_roots start_marks
    silently settle ask next reach start answer answers worst_body stream during
    sum_to found desc_split grand_split stands_alone desc_stands grand_stands parts splits nonzeros set_each learned value_by
all_samples = (refl, (refl, (refl, (refl, (refl, (refl, (refl, (refl, (refl, (refl, (refl, (refl, (refl, (refl, (refl, (refl, (refl, (refl, (six, (eight, (refl, (refl, (refl, (refl, (refl, tt)))))))))))))))))))))))))
