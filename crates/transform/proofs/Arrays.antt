-- Arrays as functions of their place: what a store changes, and how a loop goes on.
use mathlib.Core.Path.{◌≡◌, refl, sym, ap, ◌∙◌}
use mathlib.Core.Bool.{Bool, true, false}
use mathlib.Core.List.{List}
use Prim.Native.Nat.{ℕ, suc, ◌+◌, ◌*◌, ◌≤◌, ◌<◌}
use native.Mathlib.Omega.{arith}
use borrow.Author.Tests.{ltb-true, ltb-false, lt-ltb, le-ltb, eqb-true, eqb-false}
use lib.Dec.{ltb, eqb}
use lib.IntN.{ℤ, pos}
use lib.ListN.{length, set, length-set}
use lib.Seq.{get_or-set_same, get_or-set_other, ext_get_or}
use Rattle.sizes.specs.Tables.{table}
use Rattle.sizes.proofs.Tables.{table_length, table_at}
use Rattle.coef.specs.Coef.{at}
use Rattle.transform.specs.declared.blocks.Quad.{Quad}
use Rattle.transform.specs.Quads.{joined, block, unblock, entry, bands, unbands, onward}
use Rattle.transform.proofs.Levels.{everywhere, bands_tl, at_tr, at_bl, at_br, entry_at}

pub onward_near : (n : ℕ) (X Y : ℕ → ℤ) (i : ℕ) → i < n → onward n X Y i ≡ X i
unfolding onward
onward_near n X Y i h = rw (lt-ltb i n h)

pub onward_far : (n : ℕ) (X Y : ℕ → ℤ) (i : ℕ) → n ≤ i → onward n X Y i ≡ Y i
unfolding onward
onward_far n X Y i h = rw (le-ltb i n h)

pub onward_none : (X Y : ℕ → ℤ) → onward 0 X Y ≡ Y
onward_none X Y = everywhere (λ i. onward_far 0 X Y i (omega arith))

-- the same where n is and the next is, but at n
onward_next : (n : ℕ) (X Y : ℕ → ℤ) (i : ℕ) → (i ≡ n → ⊥) → onward (suc n) X Y i ≡ onward n X Y i
onward_next n X Y i h = tell (ltb i n) refl
  where
    tell : (t : Bool) → ltb i n ≡ t → onward (suc n) X Y i ≡ onward n X Y i
    tell true e = onward_near (suc n) X Y i (omega (arith, ltb-true i n e)) ∙ sym (onward_near n X Y i (ltb-true i n e))
    tell false e =
        let g : n < i = omega (arith, ltb-false i n e, h) in
        onward_far (suc n) X Y i (omega arith) ∙ sym (onward_far n X Y i (omega arith))

-- a store: what holds at its place, and elsewhere
pub stored : (l : List ℤ) (n : ℕ) (v : ℤ) (Z : ℕ → ℤ) → n < length l → v ≡ Z n → ((i : ℕ) → (i ≡ n → ⊥) → at l i ≡ Z i) → at (set l n v) ≡ Z
stored l n v Z h e f = everywhere (λ i. tell i (eqb i n) refl)
  where
    tell : (i : ℕ) (t : Bool) → eqb i n ≡ t → at (set l n v) i ≡ Z i
    tell i true q =
        let same = eqb-true i n q in
        ap (λ (j : ℕ). at (set l n v) j) same ∙ get_or-set_same l n v (pos 0) h ∙ e ∙ ap Z (sym same)
    tell i false q = get_or-set_other l n i v (pos 0) (eqb-false i n q) ∙ f i (eqb-false i n q)

-- a loop that goes up writes X's entry n
pub store_up : (l : List ℤ) (n : ℕ) (v : ℤ) (X Y : ℕ → ℤ) → n < length l → at l ≡ onward n X Y → v ≡ X n → at (set l n v) ≡ onward (suc n) X Y
store_up l n v X Y h e q =
    stored l n v (onward (suc n) X Y) h (q ∙ sym (onward_near (suc n) X Y n (omega arith)))
    (λ i k. ap (λ (A : ℕ → ℤ). A i) e ∙ sym (onward_next n X Y i k))

-- a loop that goes down writes Y's entry n
pub store_down : (l : List ℤ) (n : ℕ) (v : ℤ) (X Y : ℕ → ℤ) → n < length l → at l ≡ onward (suc n) X Y → v ≡ Y n → at (set l n v) ≡ onward n X Y
store_down l n v X Y h e q =
    stored l n v (onward n X Y) h (q ∙ sym (onward_far n X Y n (omega arith)))
    (λ i k. ap (λ (A : ℕ → ℤ). A i) e ∙ onward_next n X Y i k)

-- an output of four quarters of M, of which a, b and c entries of the last three hold X's
pub filled : ℕ → ℕ → ℕ → ℕ → (ℕ → ℤ) → (ℕ → ℤ) → ℕ → ℤ
filled M a b c X Y =
    onward M Y (onward (M + a) X (onward (2 * M) Y (onward (2 * M + b) X (onward (3 * M) Y (onward (3 * M + c) X Y)))))

module _ (M : ℕ) (X Y : ℕ → ℤ) where
  onward_both : (n : ℕ) (i : ℕ) → onward n Y Y i ≡ Y i
  onward_both n i = tell (ltb i n) refl
    where
      tell : (t : Bool) → ltb i n ≡ t → onward n Y Y i ≡ Y i
      tell true e = onward_near n Y Y i (ltb-true i n e)
      tell false e = onward_far n Y Y i (ltb-false i n e)

  -- a law of `onward` below n and from n on
  split : (n : ℕ) (A B C : ℕ → ℤ) (i : ℕ) → (n ≤ i → A i ≡ B i) → onward n C A i ≡ onward n C B i
  split n A B C i f = tell (ltb i n) refl
    where
      tell : (t : Bool) → ltb i n ≡ t → onward n C A i ≡ onward n C B i
      tell true e = onward_near n C A i (ltb-true i n e) ∙ sym (onward_near n C B i (ltb-true i n e))
      tell false e = onward_far n C A i (ltb-false i n e) ∙ f (ltb-false i n e) ∙ sym (onward_far n C B i (ltb-false i n e))

  -- nothing is filled at first
  pub filled_none : filled M 0 0 0 X Y ≡ Y
  unfolding filled
  filled_none =
      everywhere (λ i.
      let c : (h : 3 * M ≤ i) → onward (3 * M + 0) X Y i ≡ Y i = λ h. onward_far (3 * M + 0) X Y i (omega arith) in
      let d : onward (3 * M) Y (onward (3 * M + 0) X Y) i ≡ Y i = split (3 * M) (onward (3 * M + 0) X Y) Y Y i c ∙ onward_both (3 * M) i in
      let e : (h : 2 * M ≤ i) → onward (2 * M + 0) X (onward (3 * M) Y (onward (3 * M + 0) X Y)) i ≡ Y i = λ h. onward_far (2 * M + 0) X (onward (3 * M) Y (onward (3 * M + 0) X Y)) i (omega arith) ∙ d in
      let f : onward (2 * M) Y (onward (2 * M + 0) X (onward (3 * M) Y (onward (3 * M + 0) X Y))) i ≡ Y i = split (2 * M) (onward (2 * M + 0) X (onward (3 * M) Y (onward (3 * M + 0) X Y))) Y Y i e ∙ onward_both (2 * M) i in
      let g : (h : M ≤ i) → onward (M + 0) X (onward (2 * M) Y (onward (2 * M + 0) X (onward (3 * M) Y (onward (3 * M + 0) X Y)))) i ≡ Y i = λ h. onward_far (M + 0) X (onward (2 * M) Y (onward (2 * M + 0) X (onward (3 * M) Y (onward (3 * M + 0) X Y)))) i (omega arith) ∙ f in
      split M (onward (M + 0) X (onward (2 * M) Y (onward (2 * M + 0) X (onward (3 * M) Y (onward (3 * M + 0) X Y))))) Y Y i g ∙ onward_both M i)

  -- and one entry of a quarter after the other
  module _ (a b c : ℕ) (l : List ℤ) (v : ℤ) (e : at l ≡ filled M a b c X Y) where
    pub fill_second : a < M → M + a < length l → v ≡ X (M + a) → at (set l (M + a) v) ≡ filled M (suc a) b c X Y
    unfolding filled
    fill_second h k q =
        let rest = onward (2 * M) Y (onward (2 * M + b) X (onward (3 * M) Y (onward (3 * M + c) X Y))) in
        let up : M + suc a ≡ suc (M + a) = omega arith in
        rw up
        (stored l (M + a) v (onward M Y (onward (suc (M + a)) X rest)) k
        (q ∙ sym (onward_far M Y (onward (suc (M + a)) X rest) (M + a) (omega arith) ∙ onward_near (suc (M + a)) X rest (M + a) (omega arith)))
        (λ i n. ap (λ (A : ℕ → ℤ). A i) e ∙ split M (onward (M + a) X rest) (onward (suc (M + a)) X rest) Y i (λ o. sym (onward_next (M + a) X rest i n))))

    pub fill_third : a ≤ M → b < M → 2 * M + b < length l → v ≡ X (2 * M + b) → at (set l (2 * M + b) v) ≡ filled M a (suc b) c X Y
    unfolding filled
    fill_third g h k q =
        let rest = onward (3 * M) Y (onward (3 * M + c) X Y) in
        let up : 2 * M + suc b ≡ suc (2 * M + b) = omega arith in
        let old = onward (2 * M) Y (onward (2 * M + b) X rest) in
        let new = onward (2 * M) Y (onward (suc (2 * M + b)) X rest) in
        rw up
        (stored l (2 * M + b) v (onward M Y (onward (M + a) X new)) k
        (q ∙ sym (onward_far M Y (onward (M + a) X new) (2 * M + b) (omega arith) ∙ onward_far (M + a) X new (2 * M + b) (omega arith) ∙ onward_far (2 * M) Y (onward (suc (2 * M + b)) X rest) (2 * M + b) (omega arith) ∙ onward_near (suc (2 * M + b)) X rest (2 * M + b) (omega arith)))
        (λ i n. ap (λ (A : ℕ → ℤ). A i) e
        ∙ split M (onward (M + a) X old) (onward (M + a) X new) Y i (λ o.
        split (M + a) old new X i (λ o.
        split (2 * M) (onward (2 * M + b) X rest) (onward (suc (2 * M + b)) X rest) Y i (λ o. sym (onward_next (2 * M + b) X rest i n))))))

    pub fill_fourth : a ≤ M → b ≤ M → c < M → 3 * M + c < length l → v ≡ X (3 * M + c) → at (set l (3 * M + c) v) ≡ filled M a b (suc c) X Y
    unfolding filled
    fill_fourth f g h k q =
        let up : 3 * M + suc c ≡ suc (3 * M + c) = omega arith in
        let old = onward (3 * M) Y (onward (3 * M + c) X Y) in
        let new = onward (3 * M) Y (onward (suc (3 * M + c)) X Y) in
        let old2 = onward (2 * M) Y (onward (2 * M + b) X old) in
        let new2 = onward (2 * M) Y (onward (2 * M + b) X new) in
        rw up
        (stored l (3 * M + c) v (onward M Y (onward (M + a) X new2)) k
        (q ∙ sym (onward_far M Y (onward (M + a) X new2) (3 * M + c) (omega arith) ∙ onward_far (M + a) X new2 (3 * M + c) (omega arith) ∙ onward_far (2 * M) Y (onward (2 * M + b) X new) (3 * M + c) (omega arith) ∙ onward_far (2 * M + b) X new (3 * M + c) (omega arith) ∙ onward_far (3 * M) Y (onward (suc (3 * M + c)) X Y) (3 * M + c) (omega arith) ∙ onward_near (suc (3 * M + c)) X Y (3 * M + c) (omega arith)))
        (λ i n. ap (λ (A : ℕ → ℤ). A i) e
        ∙ split M (onward (M + a) X old2) (onward (M + a) X new2) Y i (λ o.
        split (M + a) old2 new2 X i (λ o.
        split (2 * M) (onward (2 * M + b) X old) (onward (2 * M + b) X new) Y i (λ o.
        split (2 * M + b) old new X i (λ o.
        split (3 * M) (onward (3 * M + c) X Y) (onward (suc (3 * M + c)) X Y) Y i (λ o. sym (onward_next (3 * M + c) X Y i n))))))))

  -- all three quarters
  pub filled_all : filled M M M M X Y ≡ onward M Y (onward (4 * M) X Y)
  unfolding filled
  filled_all =
      everywhere (λ i.
      let three = onward (3 * M) Y (onward (3 * M + M) X Y) in
      let two = onward (2 * M) Y (onward (2 * M + M) X three) in
      let one = onward (M + M) X two in
      let end : ℕ → ℤ = onward (4 * M) X Y in
      let last : (h : 3 * M ≤ i) → three i ≡ end i = λ h. onward_far (3 * M) Y (onward (3 * M + M) X Y) i h ∙ ap (λ (n : ℕ). onward n X Y i) {x = 3 * M + M} {y = 4 * M} (omega arith) in
      let middle : (h : 2 * M ≤ i) → two i ≡ end i = λ h. onward_far (2 * M) Y (onward (2 * M + M) X three) i h ∙ tell (2 * M + M) three end i (λ k. last (omega arith)) (λ k. sym (onward_near (4 * M) X Y i (omega arith))) in
      split M one end Y i (λ h. tell (M + M) two end i (λ k. middle (omega arith)) (λ k. sym (onward_near (4 * M) X Y i (omega arith)))))
    where
      tell : (n : ℕ) (A B : ℕ → ℤ) (i : ℕ) → (n ≤ i → A i ≡ B i) → (i < n → X i ≡ B i) → onward n X A i ≡ B i
      tell n A B i f g = go (ltb i n) refl
        where
          go : (t : Bool) → ltb i n ≡ t → onward n X A i ≡ B i
          go true e = onward_near n X A i (ltb-true i n e) ∙ g (ltb-true i n e)
          go false e = onward_far n X A i (ltb-false i n e) ∙ f (ltb-false i n e)

-- a list of n entries that holds X's is the table
pub tabled : (l : List ℤ) (n : ℕ) (X : ℕ → ℤ) → length l ≡ n → ((i : ℕ) → i < n → at l i ≡ X i) → l ≡ table n X
tabled l n X e h =
    ext_get_or (pos 0) l (table n X) (e ∙ sym (table_length n X)) (λ i k. h i (omega arith) ∙ sym (table_at n X i (pos 0) (omega arith)))

-- below n the one, from n on the other, which is the first again
pub onward_back : (n : ℕ) (X Y : ℕ → ℤ) → onward n X (onward n Y X) ≡ X
onward_back n X Y = everywhere (λ i. tell i (ltb i n) refl)
  where
    tell : (i : ℕ) (t : Bool) → ltb i n ≡ t → onward n X (onward n Y X) i ≡ X i
    tell i true e = onward_near n X (onward n Y X) i (ltb-true i n e)
    tell i false e = onward_far n X (onward n Y X) i (ltb-false i n e) ∙ onward_far n Y X i (ltb-false i n e)

-- a block that is not yet overwritten
pub block_onward : (k : ℕ) (X Y : ℕ → ℤ) → block (onward k X Y) k ≡ block Y k
unfolding block
block_onward k X Y =
    rw (onward_far k X Y (4 * k) (omega arith), onward_far k X Y (4 * k + 1) (omega arith), onward_far k X Y (4 * k + 2) (omega arith), onward_far k X Y (4 * k + 3) (omega arith))

-- one block of a level, and of a level back, over lists
module _ (M k : ℕ) (h : k < M) (work out : List ℤ) (W O : ℕ → ℤ) (v : Quad) where
  pub down_step : 4 * M ≤ length work → 4 * M ≤ length out → at work ≡ onward k (bands M W) W → at out ≡ filled M k k k (bands M W) O → v ≡ block (at work) k
      → (at (set work k v.tl) ≡ onward (suc k) (bands M W) W)
      × (at (set (set (set out (M + k) v.tr) (2 * M + k) v.bl) (3 * M + k) v.br) ≡ filled M (suc k) (suc k) (suc k) (bands M W) O)
  down_step a b e f g =
      let s : v ≡ block W k = g ∙ ap (λ (A : ℕ → ℤ). block A k) e ∙ block_onward k (bands M W) W in
      let o1 = set out (M + k) v.tr in
      let o2 = set o1 (2 * M + k) v.bl in
      let l1 : length o1 ≡ length out = length-set out (M + k) v.tr in
      let l2 : length o2 ≡ length out = length-set o1 (2 * M + k) v.bl ∙ l1 in
      let f1 = fill_second M (bands M W) O k k k out v.tr f h (omega arith) (ap (λ (q : Quad). q.tr) s ∙ sym (at_tr M W k h)) in
      let f2 = fill_third M (bands M W) O (suc k) k k o1 v.bl f1 (omega arith) h (omega (arith, l1)) (ap (λ (q : Quad). q.bl) s ∙ sym (at_bl M W k h)) in
      let f3 = fill_fourth M (bands M W) O (suc k) (suc k) k o2 v.br f2 (omega arith) (omega arith) h (omega (arith, l2)) (ap (λ (q : Quad). q.br) s ∙ sym (at_br M W k h)) in
      (store_up work k v.tl (bands M W) W (omega arith) e (ap (λ (q : Quad). q.tl) s ∙ sym (bands_tl M W k h)), f3)

module _ (M k : ℕ) (h : k < M) (work : List ℤ) (W F : ℕ → ℤ) (v : Quad) where
  pub up_step : 4 * M ≤ length work → at work ≡ onward (4 * suc k) W (onward (4 * M) (unbands M (onward M W F)) W) → v ≡ joined (at work k) (F (M + k)) (F (2 * M + k)) (F (3 * M + k))
      → at (set (set (set (set work (4 * k + 3) v.br) (4 * k + 2) v.bl) (4 * k + 1) v.tr) (4 * k) v.tl) ≡ onward (4 * k) W (onward (4 * M) (unbands M (onward M W F)) W)
  unfolding unblock entry
  up_step a e g =
      let Y = onward M W F in
      let Z : ℕ → ℤ = onward (4 * M) (unbands M Y) W in
      let r : at work k ≡ W k = ap (λ (A : ℕ → ℤ). A k) e ∙ onward_near (4 * suc k) W Z k (omega arith) in
      let s : v ≡ unblock M Y k = g ∙ rw (r, onward_near M W F k h, onward_far M W F (M + k) (omega arith), onward_far M W F (2 * M + k) (omega arith), onward_far M W F (3 * M + k) (omega arith)) in
      let entered : (d : ℕ) → d < 4 → Z (4 * k + d) ≡ entry v d = λ d l. onward_near (4 * M) (unbands M Y) W (4 * k + d) (omega arith) ∙ entry_at M Y k h d l ∙ ap (λ (q : Quad). entry q d) (sym s) in
      let z0 : Z (4 * k) ≡ v.tl = ap Z {x = 4 * k} {y = 4 * k + 0} (omega arith) ∙ entered 0 (omega arith) in
      let w1 = set work (4 * k + 3) v.br in
      let w2 = set w1 (4 * k + 2) v.bl in
      let w3 = set w2 (4 * k + 1) v.tr in
      let l1 : length w1 ≡ length work = length-set work (4 * k + 3) v.br in
      let l2 : length w2 ≡ length work = length-set w1 (4 * k + 2) v.bl ∙ l1 in
      let l3 : length w3 ≡ length work = length-set w2 (4 * k + 1) v.tr ∙ l2 in
      let e0 : at work ≡ onward (suc (4 * k + 3)) W Z = e ∙ ap (λ (n : ℕ). onward n W Z) {x = 4 * suc k} {y = suc (4 * k + 3)} (omega arith) in
      let e1 : at w1 ≡ onward (suc (4 * k + 2)) W Z = store_down work (4 * k + 3) v.br W Z (omega arith) e0 (sym (entered 3 (omega arith))) ∙ ap (λ (n : ℕ). onward n W Z) {x = 4 * k + 3} {y = suc (4 * k + 2)} (omega arith) in
      let e2 : at w2 ≡ onward (suc (4 * k + 1)) W Z = store_down w1 (4 * k + 2) v.bl W Z (omega (arith, l1)) e1 (sym (entered 2 (omega arith))) ∙ ap (λ (n : ℕ). onward n W Z) {x = 4 * k + 2} {y = suc (4 * k + 1)} (omega arith) in
      let e3 : at w3 ≡ onward (suc (4 * k)) W Z = store_down w2 (4 * k + 1) v.tr W Z (omega (arith, l2)) e2 (sym (entered 1 (omega arith))) ∙ ap (λ (n : ℕ). onward n W Z) {x = 4 * k + 1} {y = suc (4 * k)} (omega arith) in
      store_down w3 (4 * k) v.tl W Z (omega (arith, l3)) e3 (sym z0)
