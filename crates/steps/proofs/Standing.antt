-- Where the scan can stand: before the first bit, where an answer or the way back leads, and by the record of where it stands.
use mathlib.Core.Path.{◌≡◌, refl, sym, ap, subst, ◌∙◌}
use mathlib.Core.Bool.{Bool, true, false, false≢true, cond, ◌&&◌, ◌||◌, and-false}
use mathlib.Core.List.{List}
use Prim.Native.Nat.{ℕ, zero, suc, ◌+◌, ◌-◌, ◌≤◌, ◌<◌}
use native.Mathlib.Decide.{ℕ_discrete}
use native.Mathlib.Omega.{arith}
use borrow.Author.Tests.{eqb-true, eq-eqb, ne_eqb, ltb-true, lt-ltb, le-leb}
use lib.Dec.{ltb, leb, eqb}
use lib.IntN.{ℤ}
use lib.ListN.{length}
use mir.Val.{bool_byte}
use Rattle.sizes.specs.Sizes.{most_planes, all_of, coarsest_of, side_fits, levels_fit}
use Rattle.sizes.proofs.Laws.{both, both_left, both_right, sized, coarsest_least, coarsest_all}
use Rattle.bits.specs.Bits.{digit}
use Rattle.bits.proofs.Laws.{digit_le}
use Rattle.nls.specs.Scan.{pixels, refining, State, state_at}
use Rattle.moves.specs.Stands.{pass_of, pass_number, stand, state_of, stand_of}
use Rattle.moves.specs.Moves.{onward}
use Rattle.moves.specs.declared.Stand.{Stand}
use Rattle.moves.proofs.Laws.{pass_small, onward_left, onward_place}
use Rattle.moves.proofs.Passes.{pass_back}
use Rattle.moves.proofs.Ended.{ended_onward}
use Rattle.undo.specs.Back.{first, quiet, is, block, prior_pixels, prior, big_in, back}
use Rattle.undo.proofs.Fuel.{back_first, back_quiet}
use Rattle.undo.proofs.Bounds.{back_within}
use Rattle.undo.proofs.Lands.{Goes, back_lands}
use Rattle.steps.specs.Records.{record_at, record_of, is_end, is_within, in_range, stand_in, state_in}
use Rattle.steps.specs.Ready.{Stood}
use Rattle.steps.specs.declared.Record.{Record}
use Rattle.steps.proofs.RecordLaws.{range_sizes, range_within, record_end, record_in}

-- ---- the record of a state

digit_one : (x : Bool) → eqb (digit x) 1 ≡ x
digit_one true = refl
digit_one false = refl

byte_one : (x : ℕ) → x < 2 → bool_byte (eqb x 1) ≡ x
byte_one zero h = refl
byte_one (suc zero) h = refl
byte_one (suc (suc x)) h = absurd (omega (arith, h))

-- its sizes and its bits used
pub record Sizes (N L P used : ℕ) (r : Record) : Type 0 where
  pub side : r.n ≡ N
  pub levels : r.l ≡ L
  pub planes : r.p ≡ P
  pub bits : r.used ≡ used

module _ (N L P used : ℕ) (s : State) where
  abbrev E : Record
  E = record_at N L P 0 2 (all_of N) used 0

  abbrev W : Record
  W = record_at N L P (s.left - 1) (pass_number s.pass) s.place used (digit s.pending)

  pub record_sizes : Sizes N L P used (record_of N L P used s)
  unfolding record_of
  record_sizes = go (eqb s.left 0)
    where
      go : (t : Bool) → Sizes N L P used (cond t E W)
      go true = record { side = refl; levels = refl; planes = refl; bits = refl }
      go false = record { side = refl; levels = refl; planes = refl; bits = refl }

  pub record_n : (record_of N L P used s).n ≡ N
  record_n = record_sizes.side

  pub record_l : (record_of N L P used s).l ≡ L
  record_l = record_sizes.levels

  pub record_p : (record_of N L P used s).p ≡ P
  record_p = record_sizes.planes

  pub record_used : (record_of N L P used s).used ≡ used
  record_used = record_sizes.bits

  -- a record in range, and where the scan stands by it
  abbrev pub Means : Record → Type 0
  Means r = (in_range r ≡ true) × (stand_in r ≡ stand_of s)

  module _ (side : side_fits N ≡ true) (levels : levels_fit N L ≡ true) (few : P ≤ most_planes) where
    in_sizes : (r : Record) → r.n ≡ N → r.l ≡ L → r.p ≡ P → (is_end r || is_within r) ≡ true → in_range r ≡ true
    unfolding in_range
    in_sizes r en el ep e =
        both (ap (λ (x : ℕ). side_fits x) en ∙ side)
        (both (ap (λ (x : ℕ). levels_fit x r.l) en ∙ ap (λ (x : ℕ). levels_fit N x) el ∙ levels)
        (both (ap (λ (x : ℕ). leb x most_planes) ep ∙ le-leb P most_planes few) e))

    is_end_lem : is_end E ≡ true
    unfolding is_end
    is_end_lem = both refl (both refl (both (eq-eqb (all_of N) (all_of N) refl) refl))

    means_end : stand_of s ≡ stand 0 0 0 false → Means E
    unfolding stand_in
    means_end e = (
      in_sizes E refl refl refl (ap (λ (x : Bool). x || is_within E) is_end_lem),
      ap (λ (x : Bool). cond x (stand 0 0 0 false) (stand (0 + 1) 2 (all_of N) (eqb 0 1))) is_end_lem ∙ sym e,
    )

    module _ (h : s.left ≡ 0 → ⊥) (top : s.left ≤ P) (place : s.place < all_of N) where
      no_end : is_end W ≡ false
      unfolding is_end
      no_end =
          ap (λ (x : Bool). eqb (s.left - 1) 0 && (eqb (pass_number s.pass) 2 && (x && eqb (digit s.pending) 0))) (ne_eqb s.place (all_of N) (λ e. omega (arith, e, place)))
          ∙ ap (λ (x : Bool). eqb (s.left - 1) 0 && x) (and-false (eqb (pass_number s.pass) 2))
          ∙ and-false (eqb (s.left - 1) 0)

      is_within_lem : is_within W ≡ true
      unfolding is_within
      is_within_lem =
          both (lt-ltb (s.left - 1) P (omega (arith, h, top)))
          (both (lt-ltb (pass_number s.pass) 3 (pass_small s.pass))
          (both (lt-ltb s.place (all_of N) place) (lt-ltb (digit s.pending) 2 (omega (arith, digit_le s.pending)))))

      means_in : Means W
      unfolding stand_in
      means_in = (
        in_sizes W refl refl refl (ap (λ (x : Bool). x || is_within W) no_end ∙ is_within_lem),
        ap (λ (x : Bool). cond x (stand 0 0 0 false) (stand (s.left - 1 + 1) (pass_number s.pass) s.place (eqb (digit s.pending) 1))) no_end
            ∙ ap (λ (x : ℕ). stand x (pass_number s.pass) s.place (eqb (digit s.pending) 1)) {x = s.left - 1 + 1} {y = s.left} (omega (arith, h))
            ∙ ap (λ (x : Bool). stand s.left (pass_number s.pass) s.place x) (digit_one s.pending),
      )

    -- at the end the scan stands where a plane would begin; before it, in one of P planes and at one of I places
    pub record_means : s.left ≤ P → ((s.left ≡ 0 → ⊥) → s.place < all_of N) → (s.left ≡ 0 → stand_of s ≡ stand 0 0 0 false) → Means (record_of N L P used s)
    unfolding record_of
    record_means top place ended = go (ℕ_discrete s.left 0)
      where
        go : Dec (s.left ≡ 0) → Means (cond (eqb s.left 0) E W)
        go (yes e) = subst (λ (x : Bool). Means (cond x E W)) (sym (eq-eqb s.left 0 e)) (means_end (ended e))
        go (no h) = subst (λ (x : Bool). Means (cond x E W)) (sym (ne_eqb s.left 0 h)) (means_in h top (place h))

-- ---- by a record in range

module _ (r : Record) (range : in_range r ≡ true) where
  abbrev I : ℕ
  I = all_of r.n

  abbrev D : ℕ
  D = coarsest_of r.n r.l

  -- the record stands where the scan can
  pub stood_first : Stood r (stand_in r)
  unfolding stand_in
  stood_first = tell (is_end r) refl
    where
      tell : (t : Bool) → is_end r ≡ t → Stood r (cond t (stand 0 0 0 false) (stand (r.plane + 1) r.pass r.place (eqb r.pending 1)))
      tell true h = record { known = omega arith; planes = omega arith; place = λ k. absurd (omega (arith, k)); ended = λ e. refl }
      tell false h =
          let w = range_within r range h in
          record { known = w.1; planes = omega (arith, w.0); place = λ k. w.2; ended = λ e. absurd (omega (arith, e)) }

  -- it is the record of where it stands
  end_same : is_end r ≡ true → record_at r.n r.l r.p 0 2 I r.used 0 ≡ r
  unfolding is_end
  end_same h =
      let f = both_right (eqb r.plane 0) _ h in
      let g = both_right (eqb r.pass 2) _ f in
      let plane : 0 ≡ r.plane = sym (eqb-true r.plane 0 (both_left (eqb r.plane 0) _ h)) in
      let pass : 2 ≡ r.pass = sym (eqb-true r.pass 2 (both_left (eqb r.pass 2) _ f)) in
      let place : I ≡ r.place = sym (eqb-true r.place I (both_left (eqb r.place I) _ g)) in
      let pending : 0 ≡ r.pending = sym (eqb-true r.pending 0 (both_right (eqb r.place I) _ g)) in
      λ i. record_at r.n r.l r.p (plane i) (pass i) (place i) r.used (pending i)

  in_same : r.pending < 2 → record_at r.n r.l r.p (r.plane + 1 - 1) r.pass r.place r.used (bool_byte (eqb r.pending 1)) ≡ r
  in_same h =
      let plane : r.plane + 1 - 1 ≡ r.plane = omega arith in
      let pending : bool_byte (eqb r.pending 1) ≡ r.pending = byte_one r.pending h in
      λ i. record_at r.n r.l r.p (plane i) r.pass r.place r.used (pending i)

  pub record_same : (m : List ℕ) → record_of r.n r.l r.p r.used (state_in r m) ≡ r
  unfolding stand_in
  record_same m = go (is_end r) refl
    where
      go : (t : Bool) → is_end r ≡ t → record_of r.n r.l r.p r.used (state_of (cond t (stand 0 0 0 false) (stand (r.plane + 1) r.pass r.place (eqb r.pending 1))) m) ≡ r
      go true h = sym (record_end r.n r.l r.p r.used (stand 0 0 0 false) m refl) ∙ end_same h
      go false h =
          let w = range_within r range h in
          sym (record_in r.n r.l r.p r.used (stand (r.plane + 1) r.pass r.place (eqb r.pending 1)) m (λ e. omega (arith, e)) w.1) ∙ in_same w.3

  module _ (used : ℕ) (at : Stand) (m : List ℕ) (w : Stood r at) where
    same_stand : stand_of (state_of at m) ≡ at
    same_stand = ap (λ (p : ℕ). stand at.left p at.place at.pending) (pass_back at.pass w.known)

    means : Means r.n r.l r.p used (state_of at m) (record_of r.n r.l r.p used (state_of at m))
    means =
        let z = range_sizes r range in
        record_means r.n r.l r.p used (state_of at m) z.0 z.1 z.2 w.planes (λ h. w.place (omega (arith, h))) (λ e. same_stand ∙ w.ended e)

  -- the record of where the scan can stand is in range, and it stands there
  pub record_range : (used : ℕ) (at : Stand) (m : List ℕ) → Stood r at → in_range (record_of r.n r.l r.p used (state_of at m)) ≡ true
  record_range used at m w = (means used at m w).0

  pub record_stand : (used : ℕ) (at : Stand) (m : List ℕ) → Stood r at → stand_in (record_of r.n r.l r.p used (state_of at m)) ≡ at
  record_stand used at m w = (means used at m w).1 ∙ same_stand used at m w

  -- an answer leads to where the scan can stand
  pub stood_onward : (at : Stand) (m : List ℕ) (a : Bool) → Stood r at → 1 ≤ at.left → Stood r (stand_of (onward I (state_of at m) a))
  stood_onward at m a w h =
      let s : State = onward I (state_of at m) a in
      record {
        known = pass_small s.pass;
        planes = omega (arith, onward_left I (state_of at m) a, w.planes);
        place = λ k. onward_place I (state_of at m) a (w.place h) k;
        ended = λ e. ap stand_of (ended_onward I (state_of at m) a h e);
      }

  -- and so does the way back
  module _ (m : List ℕ) (v : List ℤ) (long : length m ≡ I) where
    abbrev before : State → State
    before s = back I D r.p (big_in v) s

    goes_stood : (s : State) → Goes I D r.p (big_in v) s → Stood r (stand_of (before s))
    goes_stood s g =
        let z = sized r.n r.l (range_sizes r range).1 in
        let b = back_lands I D r.p (big_in v) s (omega (arith, coarsest_least r.n r.l z, coarsest_all r.n r.l z)) g in
        record {
          known = pass_small (before s).pass;
          planes = (back_within I D r.p (big_in v) s g.planes g.place).0;
          place = λ k. b.1;
          ended = λ e. absurd (omega (arith, b.0, e));
        }

    -- from the end it leads into the last plane, or nowhere, if there is no plane
    back_end : Stood r (stand_of (before (state_at 0 pixels 0 m)))
    back_end = tell (ltb 0 r.p) refl
      where
        tell : (t : Bool) → ltb 0 r.p ≡ t → Stood r (stand_of (before (state_at 0 pixels 0 m)))
        tell true e =
            let here : prior I D r.p (big_in v) (state_at 0 pixels 0 m) ≡ quiet (state_at 1 refining I m) =
            ap (λ (x : Bool). prior_pixels I D r.p (big_in v) 0 (block m 0) m true x (is m (block m 0) 1 || is m (block m 0) 2)) e in
            subst (λ (s : State). Stood r (stand_of s)) (sym (back_quiet I D r.p (big_in v) (state_at 0 pixels 0 m) (state_at 1 refining I m) here (omega arith) (omega arith)))
            (goes_stood (state_at 1 refining I m) (record { planes = omega (arith, ltb-true 0 r.p e); some = omega arith; place = omega arith; waits = λ x. absurd (false≢true x); long = long }))
        tell false e =
            let here : prior I D r.p (big_in v) (state_at 0 pixels 0 m) ≡ first =
            ap (λ (x : Bool). prior_pixels I D r.p (big_in v) 0 (block m 0) m true x (is m (block m 0) 1 || is m (block m 0) 2)) e in
            subst (λ (s : State). Stood r (stand_of s)) (sym (back_first I D r.p (big_in v) (state_at 0 pixels 0 m) here))
            (record { known = omega arith; planes = omega arith; place = λ k. absurd (omega (arith, k)); ended = λ k. refl })

    back_stood : (at : Stand) → Stood r at → Stood r (stand_of (before (state_of at m)))
    unfolding pass_of
    back_stood at w = go (ℕ_discrete at.left 0)
      where
        go : Dec (at.left ≡ 0) → Stood r (stand_of (before (state_of at m)))
        go (yes e) = subst (λ (t : Stand). Stood r (stand_of (before (state_of t m)))) (sym (w.ended e)) back_end
        go (no h) =
            let q : at.place < I = w.place (omega (arith, h)) in
            goes_stood (state_of at m) (record { planes = w.planes; some = omega (arith, h); place = omega (arith, q); waits = λ x. q; long = long })

  pub stood_back : (at : Stand) (m : List ℕ) (v : List ℤ) → length m ≡ I → Stood r at → Stood r (stand_of (back I D r.p (big_in v) (state_of at m)))
  stood_back at m v long w = back_stood m v long at w
