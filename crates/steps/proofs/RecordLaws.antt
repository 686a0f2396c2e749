-- Records in range, the record of where the scan stands, and the record before the first bit.
use mathlib.Core.Path.{◌≡◌, refl, sym, ap, ◌∙◌}
use mathlib.Core.Bool.{Bool, true, false, ◌&&◌, ◌||◌, cond}
use mathlib.Core.List.{List, []}
use Prim.Native.Nat.{ℕ, zero, suc, ◌-◌, ◌≤◌, ◌<◌}
use native.Mathlib.Omega.{arith}
use borrow.Author.Tests.{leb-true, ltb-true, lt-ltb, eq-eqb, ne_eqb}
use lib.Dec.{leb, ltb}
use lib.ListN.{get_or}
use mir.Val.{bool_byte}
use Rattle.sizes.specs.Sizes.{all_of, coarsest_of, most_planes, side_fits, levels_fit, Sized}
use Rattle.sizes.proofs.Laws.{both_left, both_right, coarsest_least, coarsest_all}
use Rattle.nls.specs.Marks.{MIP, start_marks}
use Rattle.nls.specs.Scan.{State, pixels, state_at, bit_of, reach, start}
use Rattle.nls.specs.Stream.{begin}
use Rattle.nls.specs.Reading.{last_plane}
use Rattle.nls.proofs.Tiled.{Tiled, tiled}
use Rattle.nls.proofs.Machine.Table.{alone}
use Rattle.nls.proofs.Machine.Run.{settle_asks, settle_over}
use Rattle.nls.proofs.Machine.Start as table
use Rattle.moves.specs.Stands.{state_of}
use Rattle.moves.specs.declared.Stand.{Stand}
use Rattle.moves.proofs.Passes.{pass_back}
use Rattle.bits.proofs.Laws.{as_digit}
use Rattle.steps.specs.Records.{record_at, record_of, is_end, is_within, in_range}
use Rattle.steps.specs.declared.Record.{Record}

-- ---- a record in range

all_four : (a b c d : Bool) → (a && (b && (c && d))) ≡ true → (a ≡ true) × (b ≡ true) × (c ≡ true) × (d ≡ true)
all_four a b c d e =
    let f = both_right a (b && (c && d)) e in
    let g = both_right b (c && d) f in
    (both_left a (b && (c && d)) e, both_left b (c && d) f, both_left c d g, both_right c d g)

-- its sizes
pub range_sizes : (r : Record) → in_range r ≡ true → (side_fits r.n ≡ true) × (levels_fit r.n r.l ≡ true) × (r.p ≤ most_planes)
unfolding in_range
range_sizes r e =
    let all = all_four (side_fits r.n) (levels_fit r.n r.l) (leb r.p most_planes) (is_end r || is_within r) e in
    (all.0, all.1, leb-true r.p most_planes all.2)

-- I and the coarsest band, as code has them
pub range_all : (r : Record) → in_range r ≡ true → (I : ℕ) → I ≡ cond (side_fits r.n) (all_of r.n) 0 → I ≡ all_of r.n
range_all r range I e = e ∙ rw (range_sizes r range).0

pub range_coarsest : (r : Record) → in_range r ≡ true → (d : ℕ) → d ≡ cond (side_fits r.n && levels_fit r.n r.l) (coarsest_of r.n r.l) 0 → d ≡ coarsest_of r.n r.l
range_coarsest r range d e = e ∙ rw ((range_sizes r range).0, (range_sizes r range).1)

-- one that does not stand at the end stands in a plane, a pass and at a place that there are
pub range_within : (r : Record) → in_range r ≡ true → is_end r ≡ false → (r.plane < r.p) × (r.pass < 3) × (r.place < all_of r.n) × (r.pending < 2)
unfolding in_range is_within
range_within r e off =
    let either = (all_four (side_fits r.n) (levels_fit r.n r.l) (leb r.p most_planes) (is_end r || is_within r) e).3 in
    let within : is_within r ≡ true = ap (λ (t : Bool). t || is_within r) (sym off) ∙ either in
    let all = all_four (ltb r.plane r.p) (ltb r.pass 3) (ltb r.place (all_of r.n)) (ltb r.pending 2) within in
    (ltb-true r.plane r.p all.0, ltb-true r.pass 3 all.1, ltb-true r.place (all_of r.n) all.2, ltb-true r.pending 2 all.3)

-- ---- the record before the first bit

-- the mark at place 0 of the start table is MIP
first_mark : {D I : ℕ} → Tiled D I → 4 ≤ D → D ≤ I → get_or (start_marks I D) 0 0 ≡ MIP
unfolding start_marks alone
first_mark {D} {I} sz d i =
    let core = (table.pix_0 sz (record { Y = λ j. ⊥; QD = λ j. ⊥; QG = λ j. ⊥; Z = λ j. ⊥ }) (λ j. ⊥) (λ j z. z)).core in
    core.tab.solo 0 (omega arith) (rw (lt-ltb 0 D (omega arith)))

-- the scan rests before its first bit: it asks at place 0, or it is over
pub begin_first : (N L P : ℕ) → Sized N L → begin N L P ≡ state_at P pixels 0 (start_marks (all_of N) (coarsest_of N L))
unfolding start
begin_first N L zero z = settle_over (all_of N) (state_at 0 pixels 0 (start_marks (all_of N) (coarsest_of N L))) refl
begin_first N L (suc b) z =
    let D = coarsest_of N L in
    let I = all_of N in
    let d = coarsest_least N L z in
    let i : D ≤ I = omega (arith, coarsest_all N L z) in
    settle_asks I (state_at (suc b) pixels 0 (start_marks I D)) (bit_of 0 b)
    (rw (lt-ltb 0 I (omega arith), first_mark (tiled N L z) d i))

-- no plane is finished there
pub begin_left : (N L P : ℕ) → Sized N L → last_plane N L P [] ≡ P
unfolding reach
begin_left N L P z = ap (λ (s : State). s.left) (begin_first N L P z)

-- ---- the record of where the scan stands

module _ (N L P used : ℕ) (t : Stand) (m : List ℕ) where
  pub record_end : t.left ≡ 0 → record_at N L P 0 2 (all_of N) used 0 ≡ record_of N L P used (state_of t m)
  unfolding record_of
  record_end e = rw (eq-eqb t.left 0 e)

  pub record_in : (t.left ≡ 0 → ⊥) → t.pass < 3 → record_at N L P (t.left - 1) t.pass t.place used (bool_byte t.pending) ≡ record_of N L P used (state_of t m)
  unfolding record_of
  record_in e h = rw (ne_eqb t.left 0 e, pass_back t.pass h, as_digit t.pending)
