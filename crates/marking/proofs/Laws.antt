-- Laws of the marks' functions: fills, skips, pushes, the roots, and which tables are changed.
use Prim.Native.Nat.{ℕ, zero, suc, ◌+◌, ◌-◌, ◌*◌, ◌/◌, ◌%◌, ◌≤◌, ◌<◌}
use mathlib.Core.Path.{◌≡◌, refl, sym, ap, ◌∙◌}
use mathlib.Core.Bool.{Bool, true, false, cond, ◌&&◌}
use mathlib.Core.List.{List, [], ◌∷◌, ◌++◌}
use native.Mathlib.Omega.{arith}
use native.Mathlib.Nat.{pow-le-pow_right}
use borrow.Author.Tests.{lt-ltb, le-ltb, ltb-true, ltb-false, le-leb, lt-leb, leb-true, leb-false, eq-eqb, eqb-true}
use lib.Dec.{ltb, leb, eqb, lit≤}
use lib.ListN.{length, replicate, take, drop, get_or, set, length-replicate, length-drop}
use lib.Seq.{length-take-le, drop-drop}
use borrow.Rule.Slice.PartMut.{mid_of, put_mid}
use Rattle.std.specs.List.{list_all}
use Rattle.sizes.specs.Sizes.{most_n, all_of, side_fits}
use Rattle.sizes.proofs.Laws.{both_left, both_right}
use Rattle.nls.specs.Marks.{MN, skip, set_skip, push_from, push, split_grand, push_roots, start_marks}
use Rattle.nls.proofs.Machine.Run.{skip_pos}
use Rattle.marking.specs.Marking.{codes_end, skip_of, set_skip_of, push_most, new_desc, desc_split_marks, grand_split_marks, same_four, set_four, in_table, start_fits}

-- ---- fills

-- four entries of one value in the place of the four from i on
put_same : (m : List ℕ) (i v : ℕ) → i + 4 ≤ length m → take i m ++ (v ∷ v ∷ v ∷ v ∷ drop (i + 4) m) ≡ set_four m i v
put_same [] i v h = absurd (omega arith)
put_same (a ∷ []) zero v h = absurd (omega arith)
put_same (a ∷ b ∷ []) zero v h = absurd (omega arith)
put_same (a ∷ b ∷ c ∷ []) zero v h = absurd (omega arith)
put_same (a ∷ b ∷ c ∷ d ∷ m) zero v h = refl
put_same (a ∷ m) (suc i) v h =
    let e1 : suc i + 1 ≡ suc (i + 1) = omega arith in
    let e2 : suc i + 2 ≡ suc (i + 2) = omega arith in
    let e3 : suc i + 3 ≡ suc (i + 3) = omega arith in
    let e4 : suc i + 4 ≡ suc (i + 4) = omega arith in
    rw (e1, e2, e3, e4) (ap {B = List ℕ} (λ (l : List ℕ). a ∷ l) (put_same m i v (omega arith)))

four_long : (m : List ℕ) (i : ℕ) → i + 4 ≤ length m → length (take 4 (drop i m)) ≡ 4
four_long m i h = length-take-le 4 (drop i m) (omega (arith, length-drop i m))

pub four_filled : (m filled : List ℕ) (i k v : ℕ) → k ≡ 4 → i + 4 ≤ length m → filled ≡ replicate (length (mid_of i k m)) v → put_mid i k m filled ≡ set_four m i v
four_filled m filled i k v e h f =
    let four : filled ≡ v ∷ v ∷ v ∷ v ∷ [] = f ∙ rw (e, four_long m i h) refl in
    let rest : drop 4 (drop i m) ≡ drop (i + 4) m = drop-drop 4 i m in
    rw (e, four, rest) (put_same m i v h)

-- the four entries from i on, one by one
pub four_of : (m : List ℕ) (i : ℕ) → i + 4 ≤ length m → take 4 (drop i m) ≡ get_or m i 0 ∷ get_or m (i + 1) 0 ∷ get_or m (i + 2) 0 ∷ get_or m (i + 3) 0 ∷ []
four_of [] i h = absurd (omega arith)
four_of (a ∷ []) zero h = absurd (omega arith)
four_of (a ∷ b ∷ []) zero h = absurd (omega arith)
four_of (a ∷ b ∷ c ∷ []) zero h = absurd (omega arith)
four_of (a ∷ b ∷ c ∷ d ∷ m) zero h = refl
four_of (a ∷ m) (suc i) h =
    let e1 : suc i + 1 ≡ suc (i + 1) = omega arith in
    let e2 : suc i + 2 ≡ suc (i + 2) = omega arith in
    let e3 : suc i + 3 ≡ suc (i + 3) = omega arith in
    rw (e1, e2, e3) (four_of m i (omega arith))

pub all_four : (m : List ℕ) (i k v : ℕ) → k ≡ 4 → i + 4 ≤ length m
    → list_all (λ x. eqb x v) (take k (drop i m)) ≡ (eqb (get_or m i 0) v && (eqb (get_or m (i + 1) 0) v && (eqb (get_or m (i + 2) 0) v && eqb (get_or m (i + 3) 0) v)))
all_four m i k v e h =
    rw (e, four_of m i h)
    (ap {B = Bool} (λ (t : Bool). eqb (get_or m i 0) v && (eqb (get_or m (i + 1) 0) v && (eqb (get_or m (i + 2) 0) v && t))) (last (eqb (get_or m (i + 3) 0) v)))
  where
    last : (t : Bool) → (t && true) ≡ t
    last true = refl
    last false = refl

-- ---- skips

pub skip_low : (k : ℕ) → k < 5 → skip_of k ≡ 1
unfolding skip_of skip
skip_low k h = rw (lt-ltb k codes_end (omega arith), lt-ltb k 5 h, skip)

pub skip_high : (k : ℕ) → codes_end ≤ k → skip_of k ≡ 1
unfolding skip_of
skip_high k h = rw (le-ltb k codes_end h)

pub set_skip_low : (k : ℕ) → k < 5 → set_skip_of k ≡ 4
unfolding set_skip_of set_skip
set_skip_low k h = rw (lt-ltb k codes_end (omega arith), lt-ltb k 5 h, set_skip)

pub set_skip_high : (k : ℕ) → 5 ≤ k → set_skip_of k ≡ skip_of k
unfolding set_skip_of set_skip skip_of
set_skip_high k h = rw (le-ltb k 5 h, set_skip)

-- where codes are those of a scan the skips are the scan's
pub skip_is : (k : ℕ) → k < codes_end → skip_of k ≡ skip k
unfolding skip_of
skip_is k h = rw (lt-ltb k codes_end h)

pub set_skip_is : (k : ℕ) → k < codes_end → set_skip_of k ≡ set_skip k
unfolding set_skip_of
set_skip_is k h = rw (lt-ltb k codes_end h)

-- no skip of a scan is larger than that of the last code
skip_most : (k : ℕ) → k < codes_end → skip k ≤ all_of (most_n - 1)
unfolding skip
skip_most k h = go (ltb k 5) refl (ltb k 7) refl
  where
    go : (s : Bool) → ltb k 5 ≡ s → (t : Bool) → ltb k 7 ≡ t → skip k ≤ all_of (most_n - 1)
    go true e t f = rw (e, skip) (lit≤ tt)
    go false e true f = rw (e, f, skip) (pow-le-pow_right {n = 4} (omega arith) {i = k - 4} {j = most_n - 1} (omega (arith, ltb-true k 7 f)))
    go false e false f = rw (e, f, skip) (pow-le-pow_right {n = 4} (omega arith) {i = k - 5} {j = most_n - 1} (omega (arith, h)))

-- a skip is from 1 to that
pub skip_in : (k : ℕ) → (1 ≤ skip_of k) × (skip_of k ≤ all_of (most_n - 1))
skip_in k = go (ltb k codes_end) refl
  where
    go : (t : Bool) → ltb k codes_end ≡ t → (1 ≤ skip_of k) × (skip_of k ≤ all_of (most_n - 1))
    go true e = let h = ltb-true k codes_end e in rw (skip_is k h) (skip_pos k, skip_most k h)
    go false e = rw (skip_high k (ltb-false k codes_end e)) (lit≤ tt, lit≤ tt)

pub set_skip_in : (k : ℕ) → (1 ≤ set_skip_of k) × (set_skip_of k ≤ all_of (most_n - 1))
set_skip_in k = go (ltb k 5) refl
  where
    go : (t : Bool) → ltb k 5 ≡ t → (1 ≤ set_skip_of k) × (set_skip_of k ≤ all_of (most_n - 1))
    go true e = rw (set_skip_low k (ltb-true k 5 e)) (lit≤ tt, lit≤ tt)
    go false e = rw (set_skip_high k (ltb-false k 5 e)) (skip_in k)

-- ---- pushes

push_step : (I n j k : ℕ) (m : List ℕ) → j < I → push_from I (suc n) j k m ≡ push_from I n (4 * j) (k + 1) (set m j k)
unfolding push_from
push_step I n j k m h = rw (lt-ltb j I h, push_from)

push_past : (I n j k : ℕ) (m : List ℕ) → I ≤ j → push_from I n j k m ≡ m
unfolding push_from
push_past I zero j k m h = refl
push_past I (suc n) j k m h = rw (le-ltb j I h, push_from)

push_end : (I j k : ℕ) (m : List ℕ) → push_from I 0 j k m ≡ m
unfolding push_from
push_end I j k m = refl

-- a turn of the loop: what is left of the push is the same
pub push_again : (I k j : ℕ) (m x : List ℕ) → push_from I (codes_end - k) j k m ≡ x → k < codes_end → j < I
    → push_from I (codes_end - (k + 1)) (4 * j) (k + 1) (set m j k) ≡ x
push_again I k j m x e hk h =
    let s : codes_end - k ≡ suc (codes_end - (k + 1)) = omega arith in
    sym (push_step I (codes_end - (k + 1)) j k m h) ∙ rw (← s) e

pub push_done : (I k j : ℕ) (m x : List ℕ) → push_from I (codes_end - k) j k m ≡ x → codes_end ≤ k → m ≡ x
push_done I k j m x e hk = let s : codes_end - k ≡ 0 = omega arith in sym (push_end I j k m) ∙ rw (← s) e

pub push_out : (I k j : ℕ) (m x : List ℕ) → push_from I (codes_end - k) j k m ≡ x → I ≤ j → m ≡ x
push_out I k j m x e h = sym (push_past I (codes_end - k) j k m h) ∙ e

-- f steps from j on lead past I
abbrev pub Far : ℕ → ℕ → ℕ → Type 0
Far I zero j = I ≤ j
Far I (suc f) j = Far I f (4 * j)

-- more steps than lead past I change nothing
pub push_enough : (I f F j k : ℕ) (m : List ℕ) → 1 ≤ j → Far I f j → I ≤ F + j → push_from I f j k m ≡ push_from I F j k m
unfolding push_from
push_enough I zero F j k m a e g = sym (push_past I F j k m e)
push_enough I (suc f) zero j k m a e g = push_past I (suc f) j k m (omega arith)
push_enough I (suc f) (suc F) j k m a e g = go (ltb j I) refl (push_enough I f F (4 * j) (k + 1) (set m j k) (omega arith) e (omega arith))
  where
    go : (t : Bool) → ltb j I ≡ t → push_from I f (4 * j) (k + 1) (set m j k) ≡ push_from I F (4 * j) (k + 1) (set m j k)
        → push_from I (suc f) j k m ≡ push_from I (suc F) j k m
    go true q ih = push_step I f j k m (ltb-true j I q) ∙ ih ∙ sym (push_step I F j k m (ltb-true j I q))
    go false q ih = push_past I (suc f) j k m (ltb-false j I q) ∙ sym (push_past I (suc F) j k m (ltb-false j I q))

-- from place 4 on each code once is enough
pub push_most_lem : (I i : ℕ) (m : List ℕ) → I ≤ all_of most_n → 4 ≤ i → push_most I i m ≡ push I i m
push_most_lem I i m h w = push_enough I (codes_end - MN 2) I (4 * i) (MN 2) m (omega arith) (omega arith) (omega arith)

-- the code's split of a GRAND is the machine's
pub grand_is : (I i : ℕ) (m : List ℕ) → I ≤ all_of most_n → 4 ≤ i → grand_split_marks I i m ≡ split_grand I i m
grand_is I i m h w =
    let e0 : new_desc I i m ≡ push I i (set m i 5) = push_most_lem I i (set m i 5) h w in
    let m1 : List ℕ = push I i (set m i 5) in
    let e1 : new_desc I (i + 4) m1 ≡ push I (i + 4) (set m1 (i + 4) 5) = push_most_lem I (i + 4) (set m1 (i + 4) 5) h (omega arith) in
    let m2 : List ℕ = push I (i + 4) (set m1 (i + 4) 5) in
    let e2 : new_desc I (i + 8) m2 ≡ push I (i + 8) (set m2 (i + 8) 5) = push_most_lem I (i + 8) (set m2 (i + 8) 5) h (omega arith) in
    let m3 : List ℕ = push I (i + 8) (set m2 (i + 8) 5) in
    let e3 : new_desc I (i + 12) m3 ≡ push I (i + 12) (set m3 (i + 12) 5) = push_most_lem I (i + 12) (set m3 (i + 12) 5) h (omega arith) in
    ap (λ (x : List ℕ). new_desc I (i + 12) (new_desc I (i + 8) (new_desc I (i + 4) x))) e0
    ∙ ap (λ (x : List ℕ). new_desc I (i + 12) (new_desc I (i + 8) x)) e1
    ∙ ap (λ (x : List ℕ). new_desc I (i + 12) x) e2
    ∙ e3

-- ---- the roots

pub roots_again : (I d j : ℕ) (m x : List ℕ) → push_roots I (d - j) (4 * j) m ≡ x → j < d → I ≤ all_of most_n → 1 ≤ j
    → push_roots I (d - (j + 1)) (4 * (j + 1)) (new_desc I (4 * j) m) ≡ x
unfolding push_roots
roots_again I d j m x e h w o =
    let s : d - j ≡ suc (d - (j + 1)) = omega arith in
    let t : 4 * (j + 1) ≡ 4 * j + 4 = omega arith in
    rw (t, push_most_lem I (4 * j) (set m (4 * j) 5) w (omega arith)) (rw s at e)

pub roots_done : (I d j : ℕ) (m x : List ℕ) → push_roots I (d - j) (4 * j) m ≡ x → d ≤ j → m ≡ x
unfolding push_roots
roots_done I d j m x e h = let s : d - j ≡ 0 = omega arith in rw s at e

-- what the loop over the roots has left to do where it begins is the start table
pub roots_start : (I d : ℕ) → d % 4 ≡ 0 → 4 * d ≤ I → push_roots I (d - d / 4) (4 * (d / 4)) (replicate d 1 ++ drop {A = ℕ} d (replicate I 0)) ≡ start_marks I d
unfolding start_marks
roots_start I d h w =
    let a : 4 * (d / 4) ≡ d = omega arith in
    let b : d - d / 4 ≡ 3 * d / 4 = omega arith in
    rw (a, b, drop_zeros d I (omega arith))
  where
    drop_zeros : (n k : ℕ) → n ≤ k → drop {A = ℕ} n (replicate k 0) ≡ replicate (k - n) 0
    drop_zeros zero k h = ap {B = List ℕ} (λ (x : ℕ). replicate x 0) {x = k} {y = k - 0} (omega arith)
    drop_zeros (suc n) zero h = absurd (omega arith)
    drop_zeros (suc n) (suc k) h = drop_zeros n k (omega arith) ∙ ap {B = List ℕ} (λ (x : ℕ). replicate x 0) {x = k - n} {y = suc k - suc n} (omega arith)

-- the start table, from what the two fills leave
pub start_done : (I d j : ℕ) (entry zeros ones m : List ℕ) → d % 4 ≡ 0 → 4 * d ≤ I → length entry ≡ I → zeros ≡ replicate (length entry) 0 → ones ≡ replicate (length (take d zeros)) 1
    → push_roots I (d - j) (4 * j) m ≡ push_roots I (d - d / 4) (4 * (d / 4)) (ones ++ drop d zeros) → d ≤ j → m ≡ start_marks I d
start_done I d j entry zeros ones m h w n ez eo e k =
    let z : zeros ≡ replicate I 0 = ez ∙ ap {B = List ℕ} (λ (x : ℕ). replicate x 0) n in
    let l : length zeros ≡ I = ap {B = ℕ} (λ (x : List ℕ). length x) z ∙ length-replicate {A = ℕ} I 0 in
    let o : ones ≡ replicate d 1 = eo ∙ ap {B = List ℕ} (λ (x : ℕ). replicate x 1) (length-take-le d zeros (omega arith)) in
    roots_done I d j m (start_marks I d) (e ∙ rw (z, o) (roots_start I d h w)) k

-- ---- which tables are changed

-- the length of the largest table, as `sizes` answers it
pub most_all : cond (side_fits most_n) (all_of most_n) 0 ≡ all_of most_n
unfolding side_fits
most_all = refl

module _ (I i : ℕ) where
  pub in_so : I ≤ all_of most_n → ltb i I ≡ in_table I i
  unfolding in_table
  in_so h = rw (le-leb I (all_of most_n) h)

  pub in_large : all_of most_n < I → false ≡ in_table I i
  unfolding in_table
  in_large h = rw (lt-leb I (all_of most_n) h)

  pub in_true : I ≤ all_of most_n → i < I → in_table I i ≡ true
  unfolding in_table
  in_true h w = rw (le-leb I (all_of most_n) h, lt-ltb i I w)

  pub in_both : in_table I i ≡ true → (I ≤ all_of most_n) × (i < I)
  unfolding in_table
  in_both e = (leb-true I (all_of most_n) (both_left (leb I (all_of most_n)) (ltb i I) e), ltb-true i I (both_right (leb I (all_of most_n)) (ltb i I) e))

-- ---- four marks

module _ (I i : ℕ) where
  pub four_few : I < 4 → false ≡ leb (i + 4) I
  four_few h = rw (lt-leb (i + 4) I (omega arith))

  pub four_so : 4 ≤ I → leb i (I - 4) ≡ leb (i + 4) I
  four_so h = on (leb i (I - 4)) refl
    where
      on : (x : Bool) → leb i (I - 4) ≡ x → leb i (I - 4) ≡ leb (i + 4) I
      on true e = let w = leb-true i (I - 4) e in rw (e, le-leb (i + 4) I (omega arith))
      on false e = let w = leb-false i (I - 4) e in rw (e, lt-leb (i + 4) I (omega arith))

-- what the tests tell
pub four_told : (m : List ℕ) (i v : ℕ) → same_four m i v ≡ true
    → (i + 4 ≤ length m) × (get_or m i 0 ≡ v) × (get_or m (i + 1) 0 ≡ v) × (get_or m (i + 2) 0 ≡ v) × (get_or m (i + 3) 0 ≡ v)
four_told m i v e =
    let a = both_right (leb (i + 4) (length m)) _ e in
    let b = both_right (eqb (get_or m i 0) v) _ a in
    let c = both_right (eqb (get_or m (i + 1) 0) v) _ b in (
      leb-true (i + 4) (length m) (both_left (leb (i + 4) (length m)) _ e),
      eqb-true (get_or m i 0) v (both_left (eqb (get_or m i 0) v) _ a),
      eqb-true (get_or m (i + 1) 0) v (both_left (eqb (get_or m (i + 1) 0) v) _ b),
      eqb-true (get_or m (i + 2) 0) v (both_left (eqb (get_or m (i + 2) 0) v) _ c),
      eqb-true (get_or m (i + 3) 0) v (both_right (eqb (get_or m (i + 2) 0) v) _ c),
    )

module _ (I D : ℕ) where
  pub start_large : all_of most_n < I → false ≡ start_fits I D
  unfolding start_fits
  start_large h = rw (lt-leb I (all_of most_n) h)

  module _ (h : I ≤ all_of most_n) where
    pub start_none : D < 4 → false ≡ start_fits I D
    unfolding start_fits
    start_none w = rw (le-leb I (all_of most_n) h, lt-leb 4 D w)

    module _ (w : 4 ≤ D) where
      pub start_over : I < 4 * D → false ≡ start_fits I D
      unfolding start_fits
      start_over o = rw (le-leb I (all_of most_n) h, le-leb 4 D w, lt-leb (4 * D) I o)

      pub start_four : 4 * D ≤ I → eqb (D % 4) 0 ≡ start_fits I D
      unfolding start_fits
      start_four o = rw (le-leb I (all_of most_n) h, le-leb 4 D w, le-leb (4 * D) I o)

  pub start_both : start_fits I D ≡ true → (I ≤ all_of most_n) × (4 ≤ D) × (4 * D ≤ I) × (D % 4 ≡ 0)
  unfolding start_fits
  start_both e =
      let t = both_left (leb I (all_of most_n) && leb 4 D && leb (4 * D) I) (eqb (D % 4) 0) e in
      let s = both_left (leb I (all_of most_n) && leb 4 D) (leb (4 * D) I) t in (
        leb-true I (all_of most_n) (both_left (leb I (all_of most_n)) (leb 4 D) s),
        leb-true 4 D (both_right (leb I (all_of most_n)) (leb 4 D) s),
        leb-true (4 * D) I (both_right (leb I (all_of most_n) && leb 4 D) (leb (4 * D) I) t),
        eqb-true (D % 4) 0 (both_right (leb I (all_of most_n) && leb 4 D && leb (4 * D) I) (eqb (D % 4) 0) e),
      )

-- what a caller learns whose table has I marks, and whose place is one of them
module _ (I i : ℕ) (m x : List ℕ) where
  pub split_desc_so : x ≡ cond (in_table (length m) i) (desc_split_marks (length m) i m) m → length m ≡ I → I ≤ all_of most_n → i < I → x ≡ desc_split_marks I i m
  split_desc_so e n h w = e ∙ rw (n, in_true I i h w)

  pub split_grand_so : x ≡ cond (in_table (length m) i) (grand_split_marks (length m) i m) m → length m ≡ I → I ≤ all_of most_n → i < I → x ≡ grand_split_marks I i m
  split_grand_so e n h w = e ∙ rw (n, in_true I i h w)

pub start_so : (I D : ℕ) (m x : List ℕ) → x ≡ cond (start_fits (length m) D) (start_marks (length m) D) m → length m ≡ I
    → I ≤ all_of most_n → 4 ≤ D → 4 * D ≤ I → D % 4 ≡ 0 → x ≡ start_marks I D
start_so I D m x e n h w o q = e ∙ rw (n, sym (start_four I D h w o) ∙ eq-eqb (D % 4) 0 q)
