-- Each way through an answer: where the scan stands after it, and its marks.
use Prim.Native.Nat.{ℕ, ◌+◌, ◌≤◌, ◌<◌}
use mathlib.Core.Path.{◌≡◌, sym, ap, subst, ◌∙◌}
use mathlib.Core.Bool.{Bool, true, false, cond}
use mathlib.Core.List.{List}
use borrow.Author.Tests.{ltb-true, eq-eqb, ne_eqb}
use lib.Dec.{ltb}
use lib.ListN.{set, get_or}
use Rattle.sizes.specs.Sizes.{most_n, all_of}
use Rattle.sizes.proofs.Laws.{both_left, both_right}
use Rattle.nls.specs.Scan.{State, settle}
use Rattle.marking.specs.Marking.{desc_split_marks, grand_split_marks, in_table}
use Rattle.marking.proofs.Laws.{in_both}
use Rattle.moves.specs.Stands.{stand, state_of, stand_of}
use Rattle.moves.specs.Moves.{told, onward, stand_fits}
use Rattle.moves.specs.declared.Stand.{Stand}
use Rattle.moves.proofs.Passes.{pass_0, pass_1, pass_2, pass_back}
use Rattle.moves.proofs.Laws.{state_stand, pass_small}

-- ---- whether the scan stands so

module _ (I : ℕ) (t : Stand) where
  pub fits_both : stand_fits I t ≡ true → (t.place < I) × (I ≤ all_of most_n) × (t.pass < 3)
  unfolding stand_fits
  fits_both e =
      let b = in_both I t.place (both_left (in_table I t.place) (ltb t.pass 3) e) in
      (b.1, b.0, ltb-true t.pass 3 (both_right (in_table I t.place) (ltb t.pass 3) e))

-- ---- an answer

-- the scan stands so after the answer, with these marks
abbrev pub Tells : ℕ → Stand → List ℕ → Bool → Stand → List ℕ → Type 0
Tells I t m a r n = (r ≡ stand_of (told I (state_of t m) a)) × (n ≡ (told I (state_of t m) a).marks)

module _ (I l p i : ℕ) (w : Bool) (m : List ℕ) (a : Bool) (r : Stand) (n : List ℕ) where
  abbrev T : Type 0
  T = Tells I (stand l p i w) m a r n

  -- a sign
  pub tells_sign : p < 3 → w ≡ true → r ≡ stand l p (i + 1) false → n ≡ set m i 2 → T
  tells_sign h e er en = rw (e, pass_back p h) (er, en)

  -- the pixel pass
  pub tells_pixel_1 : p ≡ 0 → w ≡ false → a ≡ true → r ≡ stand l 0 i true → n ≡ m → T
  tells_pixel_1 ep ew ea er en = rw (pass_0 p ep, ew, ea) (er, en)

  pub tells_pixel_0 : p ≡ 0 → w ≡ false → a ≡ false → r ≡ stand l 0 (i + 1) false → n ≡ m → T
  tells_pixel_0 ep ew ea er en = rw (pass_0 p ep, ew, ea) (er, en)

  -- the refinement pass
  pub tells_refining : (p ≡ 0 → ⊥) → (p ≡ 1 → ⊥) → w ≡ false → r ≡ stand l 2 (i + 1) false → n ≡ m → T
  tells_refining d e ew er en = rw (pass_2 p d e, ew) (er, en)

  -- the set pass
  module _ (ep : p ≡ 1) (ew : w ≡ false) where
    pub tells_desc_1 : get_or m i 0 ≡ 5 → a ≡ true → r ≡ stand l p i w → n ≡ desc_split_marks I i m → T
    tells_desc_1 e ea er en = rw (pass_1 p ep, ew, ea, eq-eqb (get_or m i 0) 5 e) (er ∙ rw (ep, ew), en)

    pub tells_desc_0 : get_or m i 0 ≡ 5 → a ≡ false → r ≡ stand l 1 (i + 4) false → n ≡ m → T
    tells_desc_0 e ea er en = rw (pass_1 p ep, ew, ea, eq-eqb (get_or m i 0) 5 e) (er, en)

    module _ (d : get_or m i 0 ≡ 5 → ⊥) where
      pub tells_grand_1 : get_or m i 0 ≡ 6 → a ≡ true → r ≡ stand l p i w → n ≡ grand_split_marks I i m → T
      tells_grand_1 e ea er en = rw (pass_1 p ep, ew, ea, ne_eqb (get_or m i 0) 5 d, eq-eqb (get_or m i 0) 6 e) (er ∙ rw (ep, ew), en)

      pub tells_grand_0 : get_or m i 0 ≡ 6 → a ≡ false → r ≡ stand l 1 (i + 16) false → n ≡ m → T
      tells_grand_0 e ea er en = rw (pass_1 p ep, ew, ea, ne_eqb (get_or m i 0) 5 d, eq-eqb (get_or m i 0) 6 e) (er, en)

      pub tells_child_1 : (get_or m i 0 ≡ 6 → ⊥) → a ≡ true → r ≡ stand l 1 i true → n ≡ m → T
      tells_child_1 g ea er en = rw (pass_1 p ep, ew, ea, ne_eqb (get_or m i 0) 5 d, ne_eqb (get_or m i 0) 6 g) (er, en)

      pub tells_child_0 : (get_or m i 0 ≡ 6 → ⊥) → a ≡ false → r ≡ stand l 1 (i + 1) false → n ≡ set m i 1 → T
      tells_child_0 g ea er en = rw (pass_1 p ep, ew, ea, ne_eqb (get_or m i 0) 5 d, ne_eqb (get_or m i 0) 6 g) (er, en)

-- ---- an answer, and the silent moves after it

module _ (I : ℕ) (t : Stand) (m : List ℕ) (a : Bool) (r : Stand) where
  -- the scan stands in a pass
  pub tells_pass : r ≡ stand_of (told I (state_of t m) a) → r.pass < 3
  tells_pass e = subst (λ (x : Stand). x.pass < 3) (sym e) (pass_small (told I (state_of t m) a).pass)

  pub goes_on : (x : Stand) (n k : List ℕ) → stand_fits I t ≡ true → Tells I t m a r n → x ≡ stand_of (settle I (state_of r n)) → k ≡ (settle I (state_of r n)).marks
      → (x ≡ cond (stand_fits I t) (stand_of (onward I (state_of t m) a)) t) × (k ≡ cond (stand_fits I t) (onward I (state_of t m) a).marks m)
  goes_on x n k f e ex ek =
      let s : State = told I (state_of t m) a in
      let es : state_of r n ≡ s = ap (λ (y : Stand). state_of y n) e.0 ∙ ap (λ (y : List ℕ). state_of (stand_of s) y) e.1 ∙ state_stand s in
      rw f (ex ∙ ap (λ (y : State). stand_of (settle I y)) es, ek ∙ ap (λ (y : State). (settle I y).marks) es)
