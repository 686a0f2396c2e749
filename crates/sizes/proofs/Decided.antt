-- The contract of each public function decides its answer.
use mathlib.Core.Path.{sym, ◌∙◌}
use Rattle.refusals.proofs.Decided.{OneAnswer}
use Rattle.sizes.proofs.all_of.Reads as all_of
use Rattle.sizes.proofs.check_sizes.Reads as check_sizes
use Rattle.sizes.proofs.coarsest_of.Reads as coarsest_of
use Rattle.sizes.proofs.levels_fit.Reads as levels_fit
use Rattle.sizes.proofs.side_fits.Reads as side_fits
use Rattle.sizes.proofs.smaller.Reads as smaller

pub smaller_decided : OneAnswer smaller.Learnt
smaller_decided k args r r' s s' p q = p ∙ sym q

pub side_fits_decided : OneAnswer side_fits.Learnt
side_fits_decided k args r r' s s' p q = p ∙ sym q

pub levels_fit_decided : OneAnswer levels_fit.Learnt
levels_fit_decided k args r r' s s' p q = p ∙ sym q

pub all_of_decided : OneAnswer all_of.Learnt
all_of_decided k args r r' s s' p q = p ∙ sym q

pub coarsest_of_decided : OneAnswer coarsest_of.Learnt
coarsest_of_decided k args r r' s s' p q = p ∙ sym q

pub check_sizes_decided : OneAnswer check_sizes.Learnt
check_sizes_decided k args r r' s s' p q = p ∙ sym q
