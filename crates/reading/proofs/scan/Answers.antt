use mathlib.Core.Path.{refl, sym, ◌∙◌}
use native.Mathlib.Omega.{arith}
use Rattle.reading.proofs.ScanLaws.{sizes_all, scanned_whole, scanned_none}
use Rattle.reading.proofs.scan.Goals as goal

pub run-requires : goal.run-requires
run-requires c = let h = sizes_all _ _ _ _ (sym c.scan_fits.ensures ∙ c.if-scan_fits.true) in (refl, h.0, omega (arith, c.usable_of-most.ensures), h.1)

pub returns-then-scan_fits : goal.returns-then-scan_fits
returns-then-scan_fits c = let a = c.args in scanned_whole a.body.now _ a.coarsest a.top a.marks.now a.values.now _ _ _ a.usable c.usable_of-most.ensures _ c.scan_fits.ensures c.if-scan_fits.true c.run.ensures

pub returns : goal.returns
returns c = let a = c.args in scanned_none a.body.now a.usable a.coarsest a.top a.marks.now a.values.now _ c.scan_fits.ensures c.if-scan_fits.false
