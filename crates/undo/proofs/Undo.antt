-- Each move of the scan, silent or after an answer, is taken back by `prior`.
use mathlib.Core.Path.{◌≡◌, refl, sym, ap, subst, ◌∙◌}
use mathlib.Core.Bool.{Bool, true, false, ◌&&◌, ◌||◌, not, true≢false, false≢true}
use mathlib.Core.Logic.{◌⊎◌, inl, inr}
use mathlib.Core.List.{List}
use Prim.Native.Nat.{ℕ, suc, ◌+◌, ◌*◌, ◌-◌, ◌/◌, ◌%◌, ◌^◌, ◌≤◌, ◌<◌}
use native.Mathlib.Omega.{arith}
use native.Mathlib.Decide.{dec_lt, ℕ_discrete}
use lib.ListN.{length, get_or, set}
use lib.Seq.{get_or-set_same, get_or-set_other, set-set}
use lib.Dec.{ltb, leb, eqb, lit<, lit≤}
use borrow.Author.Tests.{ltb-true, eqb-true, eqb-false, eq-eqb, ne_eqb, lt-ltb, leb-true, le-leb, lt-leb}
use Rattle.sizes.specs.Sizes.{most_n}
use Rattle.sizes.proofs.Laws.{both_left, both_right, both}
use Rattle.tree.proofs.Lists.{or_left, or_right}
use Rattle.nls.specs.Marks.{skip, split_desc, split_grand}
use Rattle.nls.specs.Scan.{Pass, pixels, sets, refining, State, state_at}
use Rattle.nls.proofs.Tiled.{Tiled}
use Rattle.nls.proofs.Booleans.{or_off}
use Rattle.nls.proofs.Precision.Seen.{in_table}
use Rattle.nls.proofs.Machine.Run.{skip_pos}
use Rattle.nls.proofs.Machine.Table.{Cfg, alone, no_alone, gap, skip_5}
use Rattle.nls.proofs.Machine.Split.{with_g}
use Rattle.nls.proofs.Machine.Push.{s_d_g, stands_g_on}
use Rattle.nls.proofs.Machine.Cover.{Preds, Core, Pix, Sets, Desc_at, Grand_at, Alone_at, is_alone, not_alone, is_desc_at, is_grand_at, mark_d, sets_even, split_kids, skip_mod}
use Rattle.undo.specs.Back.{Prior, quiet, answered, waiting, is, block, four_are, many_descs, none_is, join_desc, join_grand, fresh, unasked, prior_pixels, prior_refining, prior_set, prior_block, prior_sets, prior}
use Rattle.undo.proofs.Blocks.{block_right, back_skip}
use Rattle.undo.proofs.Joins.{same_there, unsplit_desc, unsplit_grand}

-- a mark written and written back
restore : (l : List ℕ) (i v w : ℕ) → get_or l i 0 ≡ w → set (set l i v) i w ≡ l
restore l i v w e = set-set l i v w ∙ same_there l i w e

-- a coefficient alone is a block of one place
one_back : (l : List ℕ) (i : ℕ) → (get_or l i 0 ≡ 0 → ⊥) → block l (i + 1) ≡ i
one_back l i n = block_right 0 l i (lit≤ tt) n (λ j a b. absurd (omega (arith, a, b)))

-- tests
both_no : (a b : Bool) → (a ≡ true → b ≡ true → ⊥) → (a && b) ≡ false
both_no true true f = absurd (f refl refl)
both_no true false f = refl
both_no false b f = refl

and_true : (a b : Bool) → (a && b) ≡ true → (a ≡ true) × (b ≡ true)
and_true a b e = (both_left a b e, both_right a b e)

isn't : (l : List ℕ) (i v : ℕ) → (get_or l i 0 ≡ v → ⊥) → is l i v ≡ false
isn't l i v n = ne_eqb (get_or l i 0) v n

it_is : (l : List ℕ) (i v : ℕ) → get_or l i 0 ≡ v → is l i v ≡ true
it_is l i v e = eq-eqb (get_or l i 0) v e

module _ (I D P : ℕ) (big : ℕ → ℕ → Bool) where
  -- the ways through the tests
  way_quiet : (l i q : ℕ) (m : List ℕ) (z a s : Bool) → i ≡ q → z ≡ false → s ≡ false → prior_pixels I D P big l i m z a s ≡ quiet (state_at l pixels q m)
  way_quiet l i q m true a s e z o = absurd (true≢false z)
  way_quiet l i q m false a true e z o = absurd (true≢false o)
  way_quiet l i q m false a false e z o = ap (λ (x : ℕ). quiet (state_at l pixels x m)) e

  way_asked : (l i q : ℕ) (m : List ℕ) (z a s : Bool) → i ≡ q → z ≡ false → s ≡ true → prior_pixels I D P big l i m z a s ≡ unasked I D P big l pixels q 1 m (is m q 2)
  way_asked l i q m true a s e z o = absurd (true≢false z)
  way_asked l i q m false a false e z o = absurd (false≢true o)
  way_asked l i q m false a true e z o = ap (λ (x : ℕ). unasked I D P big l pixels x 1 m (is m x 2)) e

  way_plane : (l i : ℕ) (m : List ℕ) (z a s : Bool) → z ≡ true → a ≡ true → prior_pixels I D P big l i m z a s ≡ quiet (state_at (suc l) refining I m)
  way_plane l i m true true s z o = refl
  way_plane l i m true false s z o = absurd (false≢true o)
  way_plane l i m false a s z o = absurd (false≢true z)

  way_sign : (l : ℕ) (p : Pass) (i v : ℕ) (m : List ℕ) (t : Bool) → t ≡ true → unasked I D P big l p i v m t ≡ answered (waiting l p i (set m i v))
  way_sign l p i v m true e = refl
  way_sign l p i v m false e = absurd (false≢true e)

  way_zero : (l : ℕ) (p : Pass) (i v : ℕ) (m : List ℕ) (t : Bool) → t ≡ false → unasked I D P big l p i v m t ≡ answered (state_at l p i (set m i v))
  way_zero l p i v m true e = absurd (true≢false e)
  way_zero l p i v m false e = refl

  way_pass : (l i : ℕ) (m : List ℕ) (z s o : Bool) → z ≡ true → prior_refining I D P big l i m z s o ≡ quiet (state_at l sets I m)
  way_pass l i m true s o e = refl
  way_pass l i m false s o e = absurd (false≢true e)

  way_bit : (l i q : ℕ) (m : List ℕ) (z s o : Bool) → i ≡ q → z ≡ false → s ≡ true → o ≡ true → prior_refining I D P big l i m z s o ≡ answered (state_at l refining q m)
  way_bit l i q m true s o e ez es eo = absurd (true≢false ez)
  way_bit l i q m false false o e ez es eo = absurd (false≢true es)
  way_bit l i q m false true false e ez es eo = absurd (false≢true eo)
  way_bit l i q m false true true e ez es eo = ap (λ (x : ℕ). answered (state_at l refining x m)) e

  way_new : (l i q : ℕ) (m : List ℕ) (z s o : Bool) → i ≡ q → z ≡ false → s ≡ true → o ≡ false → prior_refining I D P big l i m z s o ≡ quiet (state_at l refining q (set m q 2))
  way_new l i q m true s o e ez es eo = absurd (true≢false ez)
  way_new l i q m false false o e ez es eo = absurd (false≢true es)
  way_new l i q m false true true e ez es eo = absurd (true≢false eo)
  way_new l i q m false true false e ez es eo = ap (λ (x : ℕ). quiet (state_at l refining x (set m x 2))) e

  way_by : (l i q : ℕ) (m : List ℕ) (z s o : Bool) → i ≡ q → z ≡ false → s ≡ false → prior_refining I D P big l i m z s o ≡ quiet (state_at l refining q m)
  way_by l i q m true s o e ez es = absurd (true≢false ez)
  way_by l i q m false true o e ez es = absurd (true≢false es)
  way_by l i q m false false o e ez es = ap (λ (x : ℕ). quiet (state_at l refining x m)) e

  way_join : (l q : ℕ) (m : List ℕ) (f c g z : Bool) → f ≡ true → c ≡ true → prior_sets I D P big l q m f c g z ≡ answered (state_at l sets q (join_desc I q m (ltb (4 * q) I)))
  way_join l q m true true g z ef ec = refl
  way_join l q m true false g z ef ec = absurd (false≢true ec)
  way_join l q m false c g z ef ec = absurd (false≢true ef)

  way_grand : (l q : ℕ) (m : List ℕ) (f c g z : Bool) → f ≡ true → c ≡ false → g ≡ true → prior_sets I D P big l q m f c g z ≡ answered (state_at l sets q (join_grand I q m))
  way_grand l q m true true g z ef ec eg = absurd (true≢false ec)
  way_grand l q m true false true z ef ec eg = refl
  way_grand l q m true false false z ef ec eg = absurd (false≢true eg)
  way_grand l q m false c g z ef ec eg = absurd (false≢true ef)

  way_first : (l q : ℕ) (m : List ℕ) (f c g z : Bool) → f ≡ true → c ≡ false → g ≡ false → z ≡ true → prior_sets I D P big l q m f c g z ≡ quiet (state_at l pixels I m)
  way_first l q m true true g z ef ec eg ez = absurd (true≢false ec)
  way_first l q m true false true z ef ec eg ez = absurd (true≢false eg)
  way_first l q m true false false true ef ec eg ez = refl
  way_first l q m true false false false ef ec eg ez = absurd (false≢true ez)
  way_first l q m false c g z ef ec eg ez = absurd (false≢true ef)

  way_child : (l q : ℕ) (m : List ℕ) (f c g z : Bool) → f ≡ false → prior_sets I D P big l q m f c g z ≡ unasked I D P big l sets (q - 1) 4 m (is m (q - 1) 2)
  way_child l q m true c g z ef = absurd (true≢false ef)
  way_child l q m false c g z ef = refl

  abbrev alones : List ℕ → ℕ → Bool
  alones m q = ltb 0 (get_or m (q - 4) 0) && ltb (get_or m (q - 4) 0) 4

  abbrev news : List ℕ → ℕ → Bool
  news m q = leb D (q - 4) && fresh I D P big m (q - 4)

  way_block : (l q : ℕ) (m : List ℕ) (f c g z : Bool) → f ≡ true → c ≡ false → g ≡ false → z ≡ false → prior_sets I D P big l q m f c g z ≡ prior_block I D P big l q m (alones m q) (news m q)
  way_block l q m true true g z ef ec eg ez = absurd (true≢false ec)
  way_block l q m true false true z ef ec eg ez = absurd (true≢false eg)
  way_block l q m true false false true ef ec eg ez = absurd (true≢false ez)
  way_block l q m true false false false ef ec eg ez = refl
  way_block l q m false c g z ef ec eg ez = absurd (false≢true ef)

  way_four : (l q : ℕ) (m : List ℕ) (a n : Bool) → a ≡ true → n ≡ false → prior_block I D P big l q m a n ≡ quiet (state_at l sets (q - 4) m)
  way_four l q m true true ea en = absurd (true≢false en)
  way_four l q m true false ea en = refl
  way_four l q m false n ea en = absurd (false≢true ea)

  way_last : (l q : ℕ) (m : List ℕ) (a n : Bool) → a ≡ true → n ≡ true → prior_block I D P big l q m a n ≡ unasked I D P big l sets (q - 1) 4 m (is m (q - 1) 2)
  way_last l q m true true ea en = refl
  way_last l q m true false ea en = absurd (false≢true en)
  way_last l q m false n ea en = absurd (false≢true ea)

  way_set : (l q i : ℕ) (m : List ℕ) (a n : Bool) → a ≡ false → block m q ≡ i → prior_block I D P big l q m a n ≡ prior_set I D P big l i m (is m i 5 || is m i 6)
  way_set l q i m true n ea e = absurd (true≢false ea)
  way_set l q i m false n ea e = ap (λ (x : ℕ). prior_set I D P big l x m (is m x 5 || is m x 6)) e

  way_told : (l i : ℕ) (m : List ℕ) (t : Bool) → t ≡ true → prior_set I D P big l i m t ≡ answered (state_at l sets i m)
  way_told l i m true e = refl
  way_told l i m false e = absurd (false≢true e)

  way_over : (l i : ℕ) (m : List ℕ) (t : Bool) → t ≡ false → prior_set I D P big l i m t ≡ quiet (state_at l sets i m)
  way_over l i m true e = absurd (true≢false e)
  way_over l i m false e = refl

-- What the set pass rests on besides: no group ahead looks as if it had been split in this plane ..
pub record Calm (D I : ℕ) (m : List ℕ) (t : ℕ) : Type 0 where
  pub groups : (h : ℕ) → D ≤ 4 * h → t ≤ 4 * h → 4 * h < I → 1 ≤ get_or m (4 * h) 0 → get_or m (4 * h) 0 ≤ 3
      → ((j : ℕ) × (j / 4 ≡ h) × (get_or m j 0 ≡ 3)) ⊎ ((16 * h < I) × (get_or m (16 * h) 0 ≡ 6 → ⊥))
  pub grands : (q : ℕ) → 4 * D ≤ 16 * q → t < 16 * q → 16 * q < I → get_or m (16 * q) 0 ≡ 5 → get_or m (16 * q + 4) 0 ≡ 5 → get_or m (16 * q + 8) 0 ≡ 5 → get_or m (16 * q + 12) 0 ≡ 5 → ⊥

-- .. and the group that the scan stands in does
pub record Midway (D I : ℕ) (m : List ℕ) (t : ℕ) : Type 0 where
  pub calm : Calm D I m t
  pub kids : get_or m t 0 ≡ 4 → (j : ℕ) → j / 4 ≡ t / 4 → j < t → (1 ≤ get_or m j 0) × (get_or m j 0 ≤ 2)
  pub under : get_or m t 0 ≡ 4 → 16 * (t / 4) < I → get_or m (16 * (t / 4)) 0 ≡ 6
  pub root : get_or m t 0 ≡ 4 → t < D → ⊥

module _ (N : ℕ) (fits : N ≤ most_n) {D : ℕ} (P : ℕ) (sz : Tiled D (4 ^ N)) (big : ℕ → ℕ → Bool) where
  abbrev I : ℕ
  I = 4 ^ N

  abbrev prev : State → Prior
  prev s = prior I D P big s

  module _ (R : Preds) (X : ℕ → Type 0) (b i : ℕ) (c : Cfg) (m : List ℕ) where
    -- the pixel pass
    module _ (p : Pix sz R X i c m) where
      pub pixels_end : I ≤ i → i ≤ I → prev (state_at (suc b) sets 0 m) ≡ quiet (state_at (suc b) pixels i m)
      pixels_end h1 h2 =
          way_first I D P big (suc b) 0 m (eqb (0 % 4) 0) (is m 0 4) (many_descs D m 0) (eqb 0 0) refl (isn't m 0 4 no) (both_no (eqb (0 % 16) 0) (leb (4 * D) 0 && four_are m 0 5) (λ x y. omega (arith, leb-true (4 * D) 0 (and_true (leb (4 * D) 0) (four_are m 0 5) y).0, sz.least))) refl
          ∙ ap (λ (x : ℕ). quiet (state_at (suc b) pixels x m)) {x = I} {y = i} (omega arith)
        where
          i0 : 0 < I
          i0 = omega (arith, sz.room, sz.least)

          no : get_or m 0 0 ≡ 4 → ⊥
          no e = let a : Alone_at D I c m 0 = is_alone sz c m p.core 0 i0 (omega arith) (omega arith) in p.no4 0 i0 a.0 (a.1 ∙ e)

      pub pixels_by : i < I → (get_or m i 0 ≡ 0 → ⊥) → (get_or m i 0 ≡ 1 → ⊥) → prev (state_at (suc b) pixels (i + skip (get_or m i 0)) m) ≡ quiet (state_at (suc b) pixels i m)
      pixels_by h n n1 =
          way_quiet I D P big (suc b) (block m q) i m (eqb q 0) (ltb (suc b) P) (is m (block m q) 1 || is m (block m q) 2) here (ne_eqb q 0 (λ e. omega (arith, e, skip_pos (get_or m i 0))))
          (subst (λ (x : ℕ). (is m x 1 || is m x 2) ≡ false) (sym here) (or_off (is m i 1) (is m i 2) (isn't m i 1 n1) ∙ isn't m i 2 no2))
        where
          q : ℕ
          q = i + skip (get_or m i 0)

          here : block m q ≡ i
          here = (back_skip N fits sz c m p.core i h n).0

          no2 : get_or m i 0 ≡ 2 → ⊥
          no2 e = let a : Alone_at D I c m i = is_alone sz c m p.core i h (omega arith) (omega arith) in omega (arith, p.two i h a.0 (a.1 ∙ e))

    pub pixels_zero : get_or m i 0 ≡ 1 → prev (state_at (suc b) pixels (i + 1) m) ≡ answered (state_at (suc b) pixels i m)
    pixels_zero e =
        way_asked I D P big (suc b) (block m (i + 1)) i m (eqb (i + 1) 0) (ltb (suc b) P) (is m (block m (i + 1)) 1 || is m (block m (i + 1)) 2) here (ne_eqb (i + 1) 0 (λ z. omega (arith, z)))
        (subst (λ (x : ℕ). (is m x 1 || is m x 2) ≡ true) (sym here) (or_left (is m i 1) (is m i 2) ((it_is m i 1 e))))
        ∙ way_zero I D P big (suc b) pixels i 1 m (is m i 2) (isn't m i 2 (λ z. omega (arith, e, z)))
        ∙ ap (λ (r : List ℕ). answered (state_at (suc b) pixels i r)) (same_there m i 1 e)
      where
        here : block m (i + 1) ≡ i
        here = one_back m i (λ z. omega (arith, e, z))

    pub pixels_sign : i < length m → get_or m i 0 ≡ 1 → prev (state_at (suc b) pixels (i + 1) (set m i 2)) ≡ answered (waiting (suc b) pixels i m)
    pixels_sign h e =
        way_asked I D P big (suc b) (block m' (i + 1)) i m' (eqb (i + 1) 0) (ltb (suc b) P) (is m' (block m' (i + 1)) 1 || is m' (block m' (i + 1)) 2) here (ne_eqb (i + 1) 0 (λ z. omega (arith, z)))
        (subst (λ (x : ℕ). (is m' x 1 || is m' x 2) ≡ true) (sym here) (or_right (is m' i 1) (is m' i 2) ((it_is m' i 2 two))))
        ∙ way_sign I D P big (suc b) pixels i 1 m' (is m' i 2) (it_is m' i 2 two)
        ∙ ap (λ (r : List ℕ). answered (waiting (suc b) pixels i r)) (restore m i 2 1 e)
      where
        m' : List ℕ
        m' = set m i 2

        two : get_or m' i 0 ≡ 2
        two = get_or-set_same m i 2 0 h

        here : block m' (i + 1) ≡ i
        here = one_back m' i (λ z. omega (arith, two, z))

    -- the refinement pass
    pub refining_end : suc b ≤ P → I ≤ i → i ≤ I → prev (state_at b pixels 0 m) ≡ quiet (state_at (suc b) refining i m)
    refining_end h h1 h2 =
        way_plane I D P big b (block m 0) m (eqb 0 0) (ltb b P) (is m (block m 0) 1 || is m (block m 0) 2) refl (lt-ltb b P (omega arith))
        ∙ ap (λ (x : ℕ). quiet (state_at (suc b) refining x m)) {x = I} {y = i} (omega arith)

    pub refining_new : i < length m → get_or m i 0 ≡ 2 → big (suc b) i ≡ false → prev (state_at (suc b) refining (i + 1) (set m i 3)) ≡ quiet (state_at (suc b) refining i m)
    refining_new h e n =
        way_new I D P big (suc b) (block m' (i + 1)) i m' (eqb (i + 1) 0) (is m' (block m' (i + 1)) 3) (big (suc b) (block m' (i + 1))) here (ne_eqb (i + 1) 0 (λ z. omega (arith, z)))
        (subst (λ (x : ℕ). is m' x 3 ≡ true) (sym here) (it_is m' i 3 three)) (subst (λ (x : ℕ). big (suc b) x ≡ false) (sym here) n)
        ∙ ap (λ (r : List ℕ). quiet (state_at (suc b) refining i r)) (restore m i 3 2 e)
      where
        m' : List ℕ
        m' = set m i 3

        three : get_or m' i 0 ≡ 3
        three = get_or-set_same m i 3 0 h

        here : block m' (i + 1) ≡ i
        here = one_back m' i (λ z. omega (arith, three, z))

    pub refining_bit : get_or m i 0 ≡ 3 → big (suc b) i ≡ true → prev (state_at (suc b) refining (i + 1) m) ≡ answered (state_at (suc b) refining i m)
    refining_bit e n =
        way_bit I D P big (suc b) (block m (i + 1)) i m (eqb (i + 1) 0) (is m (block m (i + 1)) 3) (big (suc b) (block m (i + 1))) here (ne_eqb (i + 1) 0 (λ z. omega (arith, z)))
        (subst (λ (x : ℕ). is m x 3 ≡ true) (sym here) (it_is m i 3 e)) (subst (λ (x : ℕ). big (suc b) x ≡ true) (sym here) n)
      where
        here : block m (i + 1) ≡ i
        here = one_back m i (λ z. omega (arith, e, z))

    pub refining_by : Core sz c m → i < I → (get_or m i 0 ≡ 0 → ⊥) → (get_or m i 0 ≡ 3 → ⊥) → prev (state_at (suc b) refining (i + skip (get_or m i 0)) m) ≡ quiet (state_at (suc b) refining i m)
    refining_by k h n n3 =
        way_by I D P big (suc b) (block m q) i m (eqb q 0) (is m (block m q) 3) (big (suc b) (block m q)) here (ne_eqb q 0 (λ e. omega (arith, e, skip_pos (get_or m i 0))))
        (subst (λ (x : ℕ). is m x 3 ≡ false) (sym here) (isn't m i 3 n3))
      where
        q : ℕ
        q = i + skip (get_or m i 0)

        here : block m q ≡ i
        here = (back_skip N fits sz c m k i h n).0

    -- the set pass
    pub sets_over : I ≤ i → i ≤ I → prev (state_at (suc b) refining 0 m) ≡ quiet (state_at (suc b) sets i m)
    sets_over h1 h2 =
        way_pass I D P big (suc b) (block m 0) m (eqb 0 0) (is m (block m 0) 3) (big (suc b) (block m 0)) refl
        ∙ ap (λ (x : ℕ). quiet (state_at (suc b) sets x m)) {x = I} {y = i} (omega arith)

    not_fresh : (h : ℕ) → ((j : ℕ) × (j / 4 ≡ h) × (get_or m j 0 ≡ 3)) ⊎ ((16 * h < I) × (get_or m (16 * h) 0 ≡ 6 → ⊥)) → fresh I D P big m (4 * h) ≡ false
    not_fresh h (inl r) = both_no (none_is m (4 * h) 3) (leb I (4 * (4 * h)) || is m (4 * (4 * h)) 6) (λ x y. one x)
      where
        off : (a : Bool) → not a ≡ true → a ≡ false
        off true e = absurd (false≢true e)
        off false e = refl

        at_place : (q : ℕ) → not (is m q 3) ≡ true → r.0 ≡ q → ⊥
        at_place q e z = eqb-false (get_or m q 0) 3 (off (is m q 3) e) (ap (λ (x : ℕ). get_or m x 0) (sym z) ∙ r.2)

        one : none_is m (4 * h) 3 ≡ true → ⊥
        one e =
            let e0 = and_true (not (is m (4 * h) 3)) (not (is m (4 * h + 1) 3) && (not (is m (4 * h + 2) 3) && not (is m (4 * h + 3) 3))) e in
            let e1 = and_true (not (is m (4 * h + 1) 3)) (not (is m (4 * h + 2) 3) && not (is m (4 * h + 3) 3)) e0.1 in
            let e2 = and_true (not (is m (4 * h + 2) 3)) (not (is m (4 * h + 3) 3)) e1.1 in
            find (ℕ_discrete r.0 (4 * h)) (ℕ_discrete r.0 (4 * h + 1)) (ℕ_discrete r.0 (4 * h + 2)) e0.0 e1.0 e2.0 e2.1
          where
            find : Dec (r.0 ≡ 4 * h) → Dec (r.0 ≡ 4 * h + 1) → Dec (r.0 ≡ 4 * h + 2) → not (is m (4 * h) 3) ≡ true → not (is m (4 * h + 1) 3) ≡ true → not (is m (4 * h + 2) 3) ≡ true → not (is m (4 * h + 3) 3) ≡ true → ⊥
            find (yes z) y x e0 e1 e2 e3 = at_place (4 * h) e0 z
            find (no z) (yes y) x e0 e1 e2 e3 = at_place (4 * h + 1) e1 y
            find (no z) (no y) (yes x) e0 e1 e2 e3 = at_place (4 * h + 2) e2 x
            find (no z) (no y) (no x) e0 e1 e2 e3 = at_place (4 * h + 3) e3 (omega (arith, r.1, z, y, x))
    not_fresh h (inr r) = both_no (none_is m (4 * h) 3) (leb I (4 * (4 * h)) || is m (4 * (4 * h)) 6) (λ x y. true≢false (sym y ∙ or_off (leb I (4 * (4 * h))) (is m (4 * (4 * h)) 6) (lt-leb I (4 * (4 * h)) (omega (arith, r.0))) ∙ isn't m (4 * (4 * h)) 6 (λ e. r.1 (ap (λ (x : ℕ). get_or m x 0) {x = 16 * h} {y = 4 * (4 * h)} (omega arith) ∙ e))))

    module _ (p : Sets sz R X i c m) (w : Midway D I m i) where
      k : Core sz c m
      k = p.core

      -- no MCP outside the group in which the scan stands, and no four MD ahead
      pub no_child : (q : ℕ) → (q / 4 ≡ i / 4 → ⊥) → get_or m q 0 ≡ 4 → ⊥
      no_child q n e =
          let qi : q < I = in_table sz c m k q (omega (arith, e)) in
          let a : Alone_at D I c m q = is_alone sz c m k q qi (omega (arith, e)) (omega (arith, e)) in
          n (p.four q qi a.0 (a.1 ∙ e)).1

      no_grand : (q : ℕ) → i < q → many_descs D m q ≡ false
      no_grand q h = both_no (eqb (q % 16) 0) (leb (4 * D) q && four_are m q 5) (λ x y. go (eqb-true (q % 16) 0 x) y)
        where
          go : q % 16 ≡ 0 → (leb (4 * D) q && four_are m q 5) ≡ true → ⊥
          go q16 y =
              let e0 = and_true (leb (4 * D) q) (four_are m q 5) y in
              let e1 = and_true (is m q 5) (is m (q + 4) 5 && (is m (q + 8) 5 && is m (q + 12) 5)) e0.1 in
              let e2 = and_true (is m (q + 4) 5) (is m (q + 8) 5 && is m (q + 12) 5) e1.1 in
              let e3 = and_true (is m (q + 8) 5) (is m (q + 12) 5) e2.1 in
              all (q / 16) (omega (arith, q16)) (leb-true (4 * D) q e0.0) (eqb-true (get_or m q 0) 5 e1.0) (eqb-true (get_or m (q + 4) 0) 5 e2.0) (eqb-true (get_or m (q + 8) 0) 5 e3.0) (eqb-true (get_or m (q + 12) 0) 5 e3.1)
            where
              all : (x : ℕ) → q ≡ 16 * x → 4 * D ≤ q → get_or m q 0 ≡ 5 → get_or m (q + 4) 0 ≡ 5 → get_or m (q + 8) 0 ≡ 5 → get_or m (q + 12) 0 ≡ 5 → ⊥
              all x e lo a0 a1 a2 a3 =
                  let qi : q < I = in_table sz c m k q (omega (arith, a0)) in
                  w.calm.grands x (omega (arith, e, lo)) (omega (arith, e, h)) (omega (arith, e, qi))
                  (ap (λ (y : ℕ). get_or m y 0) (sym e) ∙ a0) (ap (λ (y : ℕ). get_or m (y + 4) 0) (sym e) ∙ a1) (ap (λ (y : ℕ). get_or m (y + 8) 0) (sym e) ∙ a2) (ap (λ (y : ℕ). get_or m (y + 12) 0) (sym e) ∙ a3)

      i4 : i < I → (get_or m i 0 ≡ 4 → ⊥) → i % 4 ≡ 0
      i4 h n = sets_even sz R X i c m p h n

      -- to the tests of a block that ends at q
      to_block : (q : ℕ) → i < q → q % 4 ≡ 0 → (q / 4 ≡ i / 4 → ⊥) → prev (state_at (suc b) sets q m) ≡ prior_block I D P big (suc b) q m (alones I D P big m q) (news I D P big m q)
      to_block q h q4 n =
          way_block I D P big (suc b) q m (eqb (q % 4) 0) (is m q 4) (many_descs D m q) (eqb q 0) (eq-eqb (q % 4) 0 q4) (isn't m q 4 (no_child q n)) (no_grand q h) (ne_eqb q 0 (λ z. omega (arith, z)))

      -- four coefficients that were split before this plane
      pub sets_four : i < I → 1 ≤ get_or m i 0 → get_or m i 0 ≤ 3 → prev (state_at (suc b) sets (i + 4) m) ≡ quiet (state_at (suc b) sets i m)
      sets_four h lo hi =
          to_block (i + 4) (omega arith) (omega (arith, e4)) (λ z. omega (arith, z, e4))
          ∙ way_four I D P big (suc b) (i + 4) m (alones I D P big m (i + 4)) (news I D P big m (i + 4))
          (subst (λ (x : ℕ). (ltb 0 (get_or m x 0) && ltb (get_or m x 0) 4) ≡ true) (sym e) (both (lt-ltb 0 (get_or m i 0) lo) (lt-ltb (get_or m i 0) 4 (omega (arith, hi)))))
          (subst (λ (x : ℕ). (leb D x && fresh I D P big m x) ≡ false) (sym e) (both_no (leb D i) (fresh I D P big m i) (λ x y. true≢false (sym y ∙ old (leb-true D i x)))))
          ∙ ap (λ (x : ℕ). quiet (state_at (suc b) sets x m)) e
        where
          e4 : i % 4 ≡ 0
          e4 = i4 h (λ z. omega (arith, z, hi))

          e : i + 4 - 4 ≡ i
          e = omega arith

          t : 4 * (i / 4) ≡ i
          t = omega (arith, e4)

          old : D ≤ i → fresh I D P big m i ≡ false
          old dl =
              subst (λ (x : ℕ). fresh I D P big m x ≡ false) t
              (not_fresh (i / 4) (w.calm.groups (i / 4) (omega (arith, t, dl)) (omega (arith, t)) (omega (arith, t, h))
              (subst (λ (x : ℕ). 1 ≤ get_or m x 0) (sym t) lo) (subst (λ (x : ℕ). get_or m x 0 ≤ 3) (sym t) hi)))

      -- a set, or a row of one
      sets_block : i < I → 5 ≤ get_or m i 0 → prev (state_at (suc b) sets (i + skip (get_or m i 0)) m) ≡ prior_set I D P big (suc b) i m (is m i 5 || is m i 6)
      sets_block h lo =
          to_block q (omega (arith, four)) (omega (arith, e4, s4)) (λ z. omega (arith, z, four, e4))
          ∙ way_set I D P big (suc b) q i m (alones I D P big m q) (news I D P big m q) (last (ℕ_discrete (q - 4) i)) (back_skip N fits sz c m k i h (λ z. omega (arith, lo, z))).0
        where
          s : ℕ
          s = skip (get_or m i 0)

          q : ℕ
          q = i + s

          e4 : i % 4 ≡ 0
          e4 = i4 h (λ z. omega (arith, z, lo))

          s4 : s % 4 ≡ 0
          s4 = skip_mod (get_or m i 0) lo

          four : 4 ≤ s
          four = omega (arith, s4, skip_pos (get_or m i 0))

          end : q ≤ I
          end = (back_skip N fits sz c m k i h (λ z. omega (arith, lo, z))).1

          last : Dec (q - 4 ≡ i) → alones I D P big m q ≡ false
          last (yes z) = both_no (ltb 0 (get_or m (q - 4) 0)) (ltb (get_or m (q - 4) 0) 4) (λ x y. omega (arith, ltb-true (get_or m (q - 4) 0) 4 y, lo, ap (λ (x : ℕ). get_or m x 0) z))
          last (no z) =
              both_no (ltb 0 (get_or m (q - 4) 0)) (ltb (get_or m (q - 4) 0) 4)
              (λ x y. omega (arith, ltb-true 0 (get_or m (q - 4) 0) x, (gap sz c (λ j. get_or m j 0) k.ok k.tab i h (not_alone sz c m k i h lo) lo (q - 4) (omega (arith, four, z)) (omega (arith, four)) (omega (arith, four, end))).1))

      pub sets_row : i < I → 7 ≤ get_or m i 0 → prev (state_at (suc b) sets (i + skip (get_or m i 0)) m) ≡ quiet (state_at (suc b) sets i m)
      sets_row h lo = sets_block h (omega (arith, lo)) ∙ way_over I D P big (suc b) i m (is m i 5 || is m i 6) (or_off (is m i 5) (is m i 6) (isn't m i 5 (λ z. omega (arith, z, lo))) ∙ isn't m i 6 (λ z. omega (arith, z, lo)))

      pub sets_desc_0 : i < I → get_or m i 0 ≡ 5 → prev (state_at (suc b) sets (i + 4) m) ≡ answered (state_at (suc b) sets i m)
      sets_desc_0 h e =
          ap (λ (x : ℕ). prev (state_at (suc b) sets (i + x) m)) {x = 4} {y = skip (get_or m i 0)} (sym (ap skip e ∙ skip_5 5 (lit≤ tt) (lit< tt)))
          ∙ sets_block h (omega (arith, e)) ∙ way_told I D P big (suc b) i m (is m i 5 || is m i 6) (or_left (is m i 5) (is m i 6) ((it_is m i 5 e)))

      pub sets_grand_0 : i < I → get_or m i 0 ≡ 6 → prev (state_at (suc b) sets (i + 16) m) ≡ answered (state_at (suc b) sets i m)
      sets_grand_0 h e =
          ap (λ (x : ℕ). prev (state_at (suc b) sets (i + x) m)) {x = 16} {y = skip (get_or m i 0)} (sym (ap skip e ∙ skip_5 6 (lit≤ tt) (lit< tt)))
          ∙ sets_block h (omega (arith, e)) ∙ way_told I D P big (suc b) i m (is m i 5 || is m i 6) (or_right (is m i 5) (is m i 6) ((it_is m i 6 e)))

      -- splits
      pub sets_desc_1 : i < I → get_or m i 0 ≡ 5 → prev (state_at (suc b) sets i (split_desc I i m (ltb (4 * i) I))) ≡ answered (state_at (suc b) sets i m)
      sets_desc_1 h e =
          way_join I D P big (suc b) i m' (eqb (i % 4) 0) (is m' i 4) (many_descs D m' i) (eqb i 0) (eq-eqb (i % 4) 0 s.0)
          (it_is m' i 4 (split_kids I i m k.len (omega (arith, s.0, sz.sixteens, h)) (omega (arith, s.3, sz.least)) (ltb (4 * i) I) i (omega arith) (omega arith)))
          ∙ ap (λ (r : List ℕ). answered (state_at (suc b) sets i r)) (unsplit_desc sz c m k i h e (ltb (4 * i) I) refl)
        where
          s : Desc_at D I c i
          s = is_desc_at sz c m k i h e

          m' : List ℕ
          m' = split_desc I i m (ltb (4 * i) I)

      pub sets_grand_1 : i < I → get_or m i 0 ≡ 6 → Core sz (with_g (i / 16) c) (split_grand I i m) → prev (state_at (suc b) sets i (split_grand I i m)) ≡ answered (state_at (suc b) sets i m)
      sets_grand_1 h e k' =
          way_grand I D P big (suc b) i m' (eqb (i % 4) 0) (is m' i 4) (many_descs D m' i) (eqb i 0) (eq-eqb (i % 4) 0 (omega (arith, i16)))
          (isn't m' i 4 (λ z. omega (arith, z, head 0 (lit< tt), ap (λ (x : ℕ). get_or m' x 0) {x = i + 4 * 0} {y = i} (omega arith))))
          (both (eq-eqb (i % 16) 0 (omega (arith, i16)))
          (both (le-leb (4 * D) i (omega (arith, i16, s.3)))
          (both (five 0 i (lit< tt) (omega arith))
          (both (five 1 (i + 4) (lit< tt) (omega arith))
          (both (five 2 (i + 8) (lit< tt) (omega arith)) (five 3 (i + 12) (lit< tt) (omega arith)))))))
          ∙ ap (λ (r : List ℕ). answered (state_at (suc b) sets i r)) (unsplit_grand sz c m k i h e)
        where
          s : Grand_at D I c i
          s = is_grand_at sz c m k i h e

          m' : List ℕ
          m' = split_grand I i m

          q : ℕ
          q = i / 16

          i16 : i ≡ 16 * q
          i16 = s.0

          fit : i + 15 < I
          fit = room q (I / 16) i I i16 (omega (arith, sz.sixteens)) h
            where
              room : (x y u v : ℕ) → u ≡ 16 * x → v ≡ 16 * y → u < v → u + 15 < v
              room x y u v a1 a2 a3 = omega (arith, a1, a2, a3)

          -- DESC of each child stands now
          off : (a : ℕ) → a < 4 → Dec (a ≡ 0) → alone D I c (4 * (4 * q + a)) ≡ false
          off a l (yes z) = subst (λ (x : ℕ). alone D I c x ≡ false) {x = i} {y = 4 * (4 * q + a)} (omega (arith, i16, z)) s.4
          off a l (no z) = (gap sz c (λ j. get_or m j 0) k.ok k.tab i h s.4 (omega (arith, e)) (4 * (4 * q + a)) (omega (arith, i16, z)) (subst (λ (x : ℕ). 4 * (4 * q + a) < i + x) (sym (ap skip e ∙ skip_5 6 (lit≤ tt) (lit< tt))) (omega (arith, i16, l))) (omega (arith, i16, l, fit))).0

          head : (a : ℕ) → a < 4 → get_or m' (i + 4 * a) 0 ≡ 5
          head a l =
              ap (λ (x : ℕ). get_or m' x 0) {x = i + 4 * a} {y = 4 * (4 * q + a)} (omega (arith, i16))
              ∙ mark_d sz (with_g q c) m' k' (4 * q + a) (omega (arith, s.3)) (omega (arith, i16, l, fit)) (stands_g_on D I q c (4 * q + a) (omega (arith, l)))
              (s_d_g q c (4 * q + a) ∙ subst (λ (x : ℕ). c.s_d x ≡ false) {x = 4 * (4 * q + a) / 4} {y = 4 * q + a} (omega arith) (no_alone D I c (4 * (4 * q + a)) (off a l (ℕ_discrete a 0))).1)

          five : (a j : ℕ) → a < 4 → j ≡ i + 4 * a → is m' j 5 ≡ true
          five a j l z = it_is m' j 5 (ap (λ (x : ℕ). get_or m' x 0) z ∙ head a l)

      -- a child, which now has the mark v
      sets_child : (v : ℕ) → 1 ≤ v → v ≤ 2 → i < I → get_or m i 0 ≡ 4 → prev (state_at (suc b) sets (i + 1) (set m i v)) ≡ unasked I D P big (suc b) sets i 4 (set m i v) (is (set m i v) i 2)
      sets_child v v1 v2 h e = go (ℕ_discrete ((i + 1) % 4) 0)
        where
          m' : List ℕ
          m' = set m i v

          back : i + 1 - 1 ≡ i
          back = omega arith

          here : get_or m' i 0 ≡ v
          here = get_or-set_same m i v 0 (omega (arith, h, k.len))

          there : (j : ℕ) → (j ≡ i → ⊥) → get_or m' j 0 ≡ get_or m j 0
          there j n = get_or-set_other m i j v 0 n

          to : unasked I D P big (suc b) sets (i + 1 - 1) 4 m' (is m' (i + 1 - 1) 2) ≡ unasked I D P big (suc b) sets i 4 m' (is m' i 2)
          to = ap (λ (x : ℕ). unasked I D P big (suc b) sets x 4 m' (is m' x 2)) back

          -- it has a parent, so it is not in the coarsest band
          dl : D ≤ i
          dl = low (dec_lt i D)
            where
              low : Dec (i < D) → D ≤ i
              low (yes z) = absurd (w.root e z)
              low (no z) = omega arith

          grand' : (q : ℕ) → i < q → many_descs D m' q ≡ false
          grand' q l = ap (λ (x : Bool). eqb (q % 16) 0 && (leb (4 * D) q && x)) same ∙ no_grand q l
            where
              same : four_are m' q 5 ≡ four_are m q 5
              same =
                  ap (λ (x : ℕ). eqb x 5 && (is m' (q + 4) 5 && (is m' (q + 8) 5 && is m' (q + 12) 5))) (there q (λ z. omega (arith, z, l)))
                  ∙ ap (λ (x : ℕ). is m q 5 && (eqb x 5 && (is m' (q + 8) 5 && is m' (q + 12) 5))) (there (q + 4) (λ z. omega (arith, z, l)))
                  ∙ ap (λ (x : ℕ). is m q 5 && (is m (q + 4) 5 && (eqb x 5 && is m' (q + 12) 5))) (there (q + 8) (λ z. omega (arith, z, l)))
                  ∙ ap (λ (x : ℕ). is m q 5 && (is m (q + 4) 5 && (is m (q + 8) 5 && eqb x 5))) (there (q + 12) (λ z. omega (arith, z, l)))

          go : Dec ((i + 1) % 4 ≡ 0) → prev (state_at (suc b) sets (i + 1) m') ≡ unasked I D P big (suc b) sets i 4 m' (is m' i 2)
          go (no z) = way_child I D P big (suc b) (i + 1) m' (eqb ((i + 1) % 4) 0) (is m' (i + 1) 4) (many_descs D m' (i + 1)) (eqb (i + 1) 0) (ne_eqb ((i + 1) % 4) 0 z) ∙ to
          go (yes z) =
              way_block I D P big (suc b) (i + 1) m' (eqb ((i + 1) % 4) 0) (is m' (i + 1) 4) (many_descs D m' (i + 1)) (eqb (i + 1) 0) (eq-eqb ((i + 1) % 4) 0 z)
              (isn't m' (i + 1) 4 (λ x. no_child (i + 1) (λ y. omega (arith, y, z)) (sym (there (i + 1) (λ y. omega (arith, y))) ∙ x))) (grand' (i + 1) (omega arith)) (ne_eqb (i + 1) 0 (λ x. omega (arith, x)))
              ∙ way_last I D P big (suc b) (i + 1) m' (alones I D P big m' (i + 1)) (news I D P big m' (i + 1))
              (subst (λ (x : ℕ). (ltb 0 (get_or m' x 0) && ltb (get_or m' x 0) 4) ≡ true) f3 (both (lt-ltb 0 (get_or m' f 0) (omega (arith, kid f (omega (arith, f4)) (omega (arith, f4, z))))) (lt-ltb (get_or m' f 0) 4 (omega (arith, kid f (omega (arith, f4)) (omega (arith, f4, z)))))))
              (subst (λ (x : ℕ). (leb D x && fresh I D P big m' x) ≡ true) f3 (both (le-leb D f (omega (arith, f4, dl, sz.fours)))
              (both (both (no3 f (omega (arith, f4)) (omega (arith, f4, z)))
              (both (no3 (f + 1) (omega (arith, f4)) (omega (arith, f4, z)))
              (both (no3 (f + 2) (omega (arith, f4)) (omega (arith, f4, z))) (no3 (f + 3) (omega (arith, f4)) (omega (arith, f4, z))))))
              (low (dec_lt (4 * f) I)))))
              ∙ to
            where
              f : ℕ
              f = 4 * (i / 4)

              f4 : f ≡ 4 * (i / 4)
              f4 = refl

              f3 : f ≡ i + 1 - 4
              f3 = omega (arith, z)

              kid : (j : ℕ) → f ≤ j → j < f + 4 → (1 ≤ get_or m' j 0) × (get_or m' j 0 ≤ 2)
              kid j a1 a2 = pick (ℕ_discrete j i)
                where
                  pick : Dec (j ≡ i) → (1 ≤ get_or m' j 0) × (get_or m' j 0 ≤ 2)
                  pick (yes y) = let g : get_or m' j 0 ≡ v = ap (λ (x : ℕ). get_or m' x 0) y ∙ here in (omega (arith, g, v1), omega (arith, g, v2))
                  pick (no y) =
                      let g : (1 ≤ get_or m j 0) × (get_or m j 0 ≤ 2) = w.kids e j (omega (arith, a1, a2)) (omega (arith, a1, a2, y, z)) in
                      (omega (arith, g.0, there j y), omega (arith, g.1, there j y))

              no3 : (j : ℕ) → f ≤ j → j < f + 4 → not (is m' j 3) ≡ true
              no3 j a1 a2 = ap not (isn't m' j 3 (λ y. omega (arith, y, kid j a1 a2)))

              low : Dec (4 * f < I) → (leb I (4 * f) || is m' (4 * f) 6) ≡ true
              low (yes y) = or_right (leb I (4 * f)) (is m' (4 * f) 6) ((it_is m' (4 * f) 6 (there (4 * f) (λ x. omega (arith, x, dl, sz.least)) ∙ ap (λ (x : ℕ). get_or m x 0) {x = 4 * f} {y = 16 * (i / 4)} (omega arith) ∙ w.under e (omega (arith, y)))))
              low (no y) = or_left (leb I (4 * f)) (is m' (4 * f) 6) ((le-leb I (4 * f) (omega (arith, y))))

      pub sets_child_0 : i < I → get_or m i 0 ≡ 4 → prev (state_at (suc b) sets (i + 1) (set m i 1)) ≡ answered (state_at (suc b) sets i m)
      sets_child_0 h e =
          sets_child 1 (lit≤ tt) (lit≤ tt) h e
          ∙ way_zero I D P big (suc b) sets i 4 (set m i 1) (is (set m i 1) i 2) (isn't (set m i 1) i 2 (λ z. omega (arith, z, get_or-set_same m i 1 0 (omega (arith, h, k.len)))))
          ∙ ap (λ (r : List ℕ). answered (state_at (suc b) sets i r)) (restore m i 1 4 e)

      pub sets_child_sign : i < I → get_or m i 0 ≡ 4 → prev (state_at (suc b) sets (i + 1) (set m i 2)) ≡ answered (waiting (suc b) sets i m)
      sets_child_sign h e =
          sets_child 2 (lit≤ tt) (lit≤ tt) h e
          ∙ way_sign I D P big (suc b) sets i 4 (set m i 2) (is (set m i 2) i 2) (it_is (set m i 2) i 2 (get_or-set_same m i 2 0 (omega (arith, h, k.len))))
          ∙ ap (λ (r : List ℕ). answered (waiting (suc b) sets i r)) (restore m i 2 4 e)
