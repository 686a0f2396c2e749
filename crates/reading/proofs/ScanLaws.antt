-- The test of the sizes that a scan asks for, one way at a time, and what any scan leaves by it.
use Prim.Native.Nat.{ℕ, ◌*◌, ◌≤◌, min}
use mathlib.Core.Path.{◌≡◌, refl, sym, subst, ◌∙◌}
use mathlib.Core.Bool.{Bool, true, false, ◌&&◌}
use mathlib.Core.List.{List}
use borrow.Author.Tests.{eq-eqb, le-leb, eqb-true, leb-true}
use lib.Dec.{eqb, leb}
use lib.IntN.{ℤ}
use lib.ListN.{length}
use Rattle.sizes.specs.Sizes.{most_n, most_planes, all_of}
use Rattle.sizes.proofs.Laws.{both_left, both_right}
use Rattle.walk.specs.Scans.{planes, left_of}
use Rattle.walk.specs.Visits.{scan_of}
use Rattle.reading.specs.Reading.{reader, st, Sizes, Holds, scan_fits, ScannedBy, Scanned}
use Rattle.reading.specs.declared.Reached.{Reached}

module _ (I values D P : ℕ) where
  pub sizes_5 : values ≡ I → I ≤ all_of most_n → 4 ≤ D → 4 * D ≤ I → leb P most_planes ≡ scan_fits I values D P
  unfolding scan_fits
  sizes_5 same near wide h = rw (eq-eqb values I same, le-leb I (all_of most_n) near, le-leb 4 D wide, le-leb (4 * D) I h)

  pub sizes_all : scan_fits I values D P ≡ true → (values ≡ I) × Sizes I D P
  unfolding scan_fits
  sizes_all e =
      let e1 = both_right (eqb values I) (leb I (all_of most_n) && (leb 4 D && (leb (4 * D) I && leb P most_planes))) e in
      let e2 = both_right (leb I (all_of most_n)) (leb 4 D && (leb (4 * D) I && leb P most_planes)) e1 in
      let e3 = both_right (leb 4 D) (leb (4 * D) I && leb P most_planes) e2 in (
        eqb-true values I (both_left (eqb values I) _ e),
        record {
          near = leb-true I (all_of most_n) (both_left (leb I (all_of most_n)) _ e1);
          wide = leb-true 4 D (both_left (leb 4 D) _ e2);
          room = leb-true (4 * D) I (both_left (leb (4 * D) I) _ e3);
          tops = leb-true P most_planes (both_right (leb (4 * D) I) (leb P most_planes) e3);
        },
      )

-- any scan, by the test, where u bits are usable
module _ (body : List ℕ) (u D P : ℕ) (m₀ : List ℕ) (v₀ : List ℤ) (r : Reached) (m : List ℕ) (v : List ℤ) where
  abbrev pub Whole : Type 0
  Whole =
      Holds (planes (scan_of (reader body u (length m₀) D P) (length m₀)) P (st m₀ v₀ 0)) (left_of (scan_of (reader body u (length m₀) D P) (length m₀)) P (st m₀ v₀ 0)) r.bits r.left r.stop r.bad m v

  pub scanned_whole : (usable : ℕ) → u ≡ min usable (8 * length body) → (f : Bool) → f ≡ scan_fits (length m₀) (length v₀) D P → f ≡ true → Whole → Scanned body usable D P m₀ v₀ r m v
  scanned_whole usable n f is e h = rw (← n) (subst (λ (t : Bool). ScannedBy t body u D P m₀ v₀ r m v) (sym e ∙ is) h)

  -- a caller whose sizes fit
  pub scanned_so : (usable : ℕ) → u ≡ min usable (8 * length body) → length v₀ ≡ length m₀ → Sizes (length m₀) D P → Scanned body usable D P m₀ v₀ r m v → Whole
  scanned_so usable n same s h =
      let e = sym (sizes_5 (length m₀) (length v₀) D P same s.near s.wide s.room) ∙ le-leb P most_planes s.tops in
      subst (λ (t : Bool). ScannedBy t body u D P m₀ v₀ r m v) e (rw (← n) at h)

pub scanned_none : (body : List ℕ) (usable D P : ℕ) (m : List ℕ) (v : List ℤ) (f : Bool) → f ≡ scan_fits (length m) (length v) D P → f ≡ false
    → Scanned body usable D P m v (record { bits = 0; left = 0; stop = 0; bad = false }) m v
scanned_none body usable D P m v f is e = subst (λ (t : Bool). ScannedBy t body (min usable (8 * length body)) D P m v (record { bits = 0; left = 0; stop = 0; bad = false }) m v) (sym e ∙ is) (refl, refl, refl)
