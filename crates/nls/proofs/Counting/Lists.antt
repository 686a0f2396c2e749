-- The scan over a table that is a list, as a slice of marks is: it writes what the scan over functions writes.
use Prim.Native.Nat.{ℕ, zero, suc, ◌+◌, ◌*◌, ◌-◌, ◌/◌, ◌≤◌, ◌<◌}
use mathlib.Core.Path.{◌≡◌, refl, ap, sym, ◌∙◌}
use mathlib.Core.Bool.{Bool, true, false, cond}
use mathlib.Core.List.{List, [], ◌∷◌, ◌++◌}
use mathlib.Core.Logic.{⊎_elim}
use native.Mathlib.Omega.{arith}
use borrow.Author.Tests.{lt-ltb, le-ltb, eqb-true, eqb-false, leb-false}
use lib.Dec.{ltb, leb, eqb}
use lib.ListN.{length, get_or, set, length-set, replicate, length-replicate, get_or-replicate, length-append, get_or-append}
use lib.Seq.{get_or-set_same, get_or-set_other, get_or-append-add}
use Rattle.bits.specs.Bits.{bit}
use Rattle.nls.proofs.Counting.Sums.{order}
use Rattle.nls.proofs.Counting.Tree.{Size, D, Q, I}
use Rattle.nls.proofs.Counting.Parts.{coded}
use Rattle.nls.proofs.Counting.Summary.{has_desc, has_grand}
use Rattle.nls.proofs.Counting.Steps.{Table, put, Step, skip, go, pixel_step, refine_step, set_step, push, pushed, open_desc, open_grand}
use Rattle.nls.proofs.Counting.Whole.{start_from}

abbrev pub LStep : Type 0
LStep = (List Bool) × (List ℕ) × ℕ

unfoldable pub go_l : Size → (List ℕ → ℕ → LStep) → ℕ → List ℕ → ℕ → (List Bool) × (List ℕ)
go_l z s zero l i = ([], l)
go_l z s (suc f) l i =
    let o : LStep = s l i in
    let more : (List Bool) × (List ℕ) = go_l z s f o.1 o.2 in
    let on : (List Bool) × (List ℕ) = (o.0 ++ more.0, more.1) in
    cond (leb (I z) i) ([], l) on

module _ (z : Size) where
  unfoldable pub push_l : ℕ → ℕ → ℕ → List ℕ → List ℕ
  push_l zero c w l = l
  push_l (suc f) c w l = cond (ltb w (I z)) (push_l f (suc c) (4 * w) (set l w c)) l

  unfoldable pub open_desc_l : List ℕ → ℕ → List ℕ
  open_desc_l l i =
      cond (ltb (4 * i) (I z)) (set (set (set (set (set l i 4) (i + 1) 4) (i + 2) 4) (i + 3) 4) (4 * i) 6)
      (set (set (set (set l i 4) (i + 1) 4) (i + 2) 4) (i + 3) 4)

  unfoldable pub pushed_l : List ℕ → ℕ → List ℕ
  pushed_l l i = push_l z.deep 7 (4 * i) (set l i 5)

  unfoldable pub open_grand_l : List ℕ → ℕ → List ℕ
  open_grand_l l i = pushed_l (pushed_l (pushed_l (pushed_l l i) (i + 4)) (i + 8)) (i + 12)

unfoldable pub pixel_l : (ℕ → ℕ) → (ℕ → Bool) → ℕ → List ℕ → ℕ → LStep
pixel_l mag neg b l i =
    cond (eqb (get_or l i 0) 1) (coded mag neg b i, cond (bit (mag i) b) (set l i 2) l, suc i) ([], l, i + skip (get_or l i 0))

unfoldable pub refine_l : (ℕ → ℕ) → ℕ → List ℕ → ℕ → LStep
refine_l mag b l i =
    cond (eqb (get_or l i 0) 3) (bit (mag i) b ∷ [], l, suc i)
    (cond (eqb (get_or l i 0) 2) ([], set l i 3, suc i) ([], l, i + skip (get_or l i 0)))

module _ (z : Size) (mag : ℕ → ℕ) (neg : ℕ → Bool) (b : ℕ) where
  unfoldable pub set_l : List ℕ → ℕ → LStep
  set_l l i =
      cond (eqb (get_or l i 0) 5)
      (has_desc z mag b (i / 4) ∷ [], cond (has_desc z mag b (i / 4)) (open_desc_l z l i) l, cond (has_desc z mag b (i / 4)) i (i + 4))
      (cond (eqb (get_or l i 0) 6)
      (has_grand z mag b (i / 16) ∷ [], cond (has_grand z mag b (i / 16)) (open_grand_l z l i) l, cond (has_grand z mag b (i / 16)) i (i + 16))
      (cond (eqb (get_or l i 0) 4) (coded mag neg b i, set l i (cond (bit (mag i) b) 2 1), suc i)
      ([], l, i + cond (leb (get_or l i 0) 3) 4 (skip (get_or l i 0)))))

-- a list that holds what a table says, below I
pub record Rep (z : Size) (l : List ℕ) (m : Table) : Type 0 where
  pub long : length l ≡ I z
  pub same : (y : ℕ) → y < I z → m y ≡ get_or l y 0

pub rep_set : (z : Size) (l : List ℕ) (m : Table) (x v : ℕ) → Rep z l m → Rep z (set l x v) (put m x v)
rep_set z l m x v r = record { long = length-set l x v ∙ r.long; same = λ y u. tell y u (eqb y x) refl }
  where
    tell : (y : ℕ) → y < I z → (t : Bool) → eqb y x ≡ t → cond (eqb y x) v (m y) ≡ get_or (set l x v) y 0
    tell y u true e =
        let s : y ≡ x = eqb-true y x e in
        rw (e, s) (sym (get_or-set_same l x v 0 (omega (arith, r.long))))
    tell y u false e = rw e (r.same y u ∙ sym (get_or-set_other l x y v 0 (eqb-false y x e)))

rep_cond : (z : Size) (l l' : List ℕ) (m m' : Table) (t : Bool) → Rep z l m → Rep z l' m' → Rep z (cond t l l') (cond t m m')
rep_cond z l l' m m' true p q = p
rep_cond z l l' m m' false p q = q

-- what two steps have in common
abbrev pub Like : Size → LStep → Step → Type 0
Like z o s = (o.0 ≡ s.0) × Rep z o.1 s.1 × (o.2 ≡ s.2)

like_cond : (z : Size) (o o' : LStep) (s s' : Step) (t : Bool) → Like z o s → Like z o' s' → Like z (cond t o o') (cond t s s')
like_cond z o o' s s' true p q = p
like_cond z o o' s s' false p q = q

module _ (z : Size) where
  rep_push : (f c w : ℕ) (l : List ℕ) (m : Table) → Rep z l m → Rep z (push_l z f c w l) (push z f c w m)
  unfolding push_l push
  rep_push zero c w l m r = r
  rep_push (suc f) c w l m r =
      rep_cond z (push_l z f (suc c) (4 * w) (set l w c)) l (push z f (suc c) (4 * w) (put m w c)) m (ltb w (I z))
      (rep_push f (suc c) (4 * w) (set l w c) (put m w c) (rep_set z l m w c r)) r

  rep_pushed : (l : List ℕ) (m : Table) (i : ℕ) → Rep z l m → Rep z (pushed_l z l i) (pushed z m i)
  unfolding pushed_l pushed
  rep_pushed l m i r = rep_push z.deep 7 (4 * i) (set l i 5) (put m i 5) (rep_set z l m i 5 r)

  rep_open_grand : (l : List ℕ) (m : Table) (i : ℕ) → Rep z l m → Rep z (open_grand_l z l i) (open_grand z m i)
  unfolding open_grand_l open_grand
  rep_open_grand l m i r = rep_pushed _ _ (i + 12) (rep_pushed _ _ (i + 8) (rep_pushed _ _ (i + 4) (rep_pushed l m i r)))

  rep_open_desc : (l : List ℕ) (m : Table) (i : ℕ) → Rep z l m → Rep z (open_desc_l z l i) (open_desc z m i)
  unfolding open_desc_l open_desc
  rep_open_desc l m i r =
      let l4 : List ℕ = set (set (set (set l i 4) (i + 1) 4) (i + 2) 4) (i + 3) 4 in
      let m4 : Table = put (put (put (put m i 4) (i + 1) 4) (i + 2) 4) (i + 3) 4 in
      let r4 : Rep z l4 m4 =
      rep_set z (set (set (set l i 4) (i + 1) 4) (i + 2) 4) (put (put (put m i 4) (i + 1) 4) (i + 2) 4) (i + 3) 4
      (rep_set z (set (set l i 4) (i + 1) 4) (put (put m i 4) (i + 1) 4) (i + 2) 4
      (rep_set z (set l i 4) (put m i 4) (i + 1) 4 (rep_set z l m i 4 r))) in
      rep_cond z (set l4 (4 * i) 6) l4 (put m4 (4 * i) 6) m4 (ltb (4 * i) (I z)) (rep_set z l4 m4 (4 * i) 6 r4) r4

module _ (z : Size) (mag : ℕ → ℕ) (neg : ℕ → Bool) (b : ℕ) where
  pub like_pixel : (l : List ℕ) (m : Table) (i : ℕ) → i < I z → Rep z l m → Like z (pixel_l mag neg b l i) (pixel_step mag neg b m i)
  unfolding pixel_l pixel_step
  like_pixel l m i u r =
      rw (r.same i u)
      (like_cond z (coded mag neg b i, cond (bit (mag i) b) (set l i 2) l, suc i) ([], l, i + skip (get_or l i 0))
      (coded mag neg b i, cond (bit (mag i) b) (put m i 2) m, suc i) ([], m, i + skip (get_or l i 0)) (eqb (get_or l i 0) 1)
      (refl, rep_cond z (set l i 2) l (put m i 2) m (bit (mag i) b) (rep_set z l m i 2 r) r, refl) (refl, r, refl))

  pub like_refine : (l : List ℕ) (m : Table) (i : ℕ) → i < I z → Rep z l m → Like z (refine_l mag b l i) (refine_step mag b m i)
  unfolding refine_l refine_step
  like_refine l m i u r =
      rw (r.same i u)
      (like_cond z (bit (mag i) b ∷ [], l, suc i) (cond (eqb (get_or l i 0) 2) ([], set l i 3, suc i) ([], l, i + skip (get_or l i 0)))
      (bit (mag i) b ∷ [], m, suc i) (cond (eqb (get_or l i 0) 2) ([], put m i 3, suc i) ([], m, i + skip (get_or l i 0))) (eqb (get_or l i 0) 3)
      (refl, r, refl)
      (like_cond z ([], set l i 3, suc i) ([], l, i + skip (get_or l i 0)) ([], put m i 3, suc i) ([], m, i + skip (get_or l i 0)) (eqb (get_or l i 0) 2)
      (refl, rep_set z l m i 3 r, refl) (refl, r, refl)))

  pub like_set : (l : List ℕ) (m : Table) (i : ℕ) → i < I z → Rep z l m → Like z (set_l z mag neg b l i) (set_step z mag neg b m i)
  unfolding set_l set_step
  like_set l m i u r =
      rw (r.same i u)
      (like_cond z _ _ _ _ (eqb (get_or l i 0) 5)
      (refl, rep_cond z (open_desc_l z l i) l (open_desc z m i) m (has_desc z mag b (i / 4)) (rep_open_desc z l m i r) r, refl)
      (like_cond z _ _ _ _ (eqb (get_or l i 0) 6)
      (refl, rep_cond z (open_grand_l z l i) l (open_grand z m i) m (has_grand z mag b (i / 16)) (rep_open_grand z l m i r) r, refl)
      (like_cond z _ _ _ _ (eqb (get_or l i 0) 4)
      (refl, rep_set z l m i (cond (bit (mag i) b) 2 1) r, refl) (refl, r, refl))))

pub like_go : (z : Size) (sl : List ℕ → ℕ → LStep) (s : Table → ℕ → Step)
    → ((l : List ℕ) (m : Table) (i : ℕ) → i < I z → Rep z l m → Like z (sl l i) (s m i))
    → (f : ℕ) (l : List ℕ) (m : Table) (i : ℕ) → Rep z l m → ((go_l z sl f l i).0 ≡ (go z s f m i).0) × Rep z (go_l z sl f l i).1 (go z s f m i).1
unfolding go_l go
like_go z sl s h zero l m i r = (refl, r)
like_go z sl s h (suc f) l m i r =
    tell (λ u. h l m i u r) (λ i' r'. like_go z sl s h f (sl l i).1 (s m i).1 i' r') (leb (I z) i) refl
  where
    tell : (i < I z → Like z (sl l i) (s m i))
        → ((i' : ℕ) → Rep z (sl l i).1 (s m i).1
        → ((go_l z sl f (sl l i).1 i').0 ≡ (go z s f (s m i).1 i').0) × Rep z (go_l z sl f (sl l i).1 i').1 (go z s f (s m i).1 i').1)
        → (t : Bool) → leb (I z) i ≡ t
        → ((go_l z sl (suc f) l i).0 ≡ (go z s (suc f) m i).0) × Rep z (go_l z sl (suc f) l i).1 (go z s (suc f) m i).1
    tell like ih true e = rw e (refl, r)
    tell like ih false e =
        let k = like (leb-false (I z) i e) in
        let q = ih (s m i).2 k.1 in
        rw (e, k.2) (rw k.0 (ap (λ (o : List Bool). (s m i).0 ++ o) q.0), q.1)

module _ (z : Size) where
  unfoldable pub start_from_l : ℕ → List ℕ
  start_from_l zero = replicate (D z) 1 ++ replicate (I z - D z) 0
  start_from_l (suc n) = pushed_l z (start_from_l n) (4 * (z.e + n))

  unfoldable pub start_l : List ℕ
  start_l = start_from_l (3 * z.e)

  pub rep_start : (n : ℕ) → Rep z (start_from_l n) (start_from z n)
  unfolding start_from_l start_from
  rep_start zero =
      record {
        long = length-append (replicate (D z) 1) (replicate (I z - D z) 0) ∙ omega (arith, length-replicate {A = ℕ} (D z) 1, length-replicate {A = ℕ} (I z - D z) 0);
        same = λ y u. ⊎_elim
            (λ l. rw (le-ltb y (D z) l) (sym (ap (λ (n : ℕ). get_or (replicate (D z) 1 ++ replicate (I z - D z) 0) n 0) (back y l) ∙ get_or-append-add (replicate (D z) 1) (replicate (I z - D z) 0) (y - D z) 0 ∙ get_or-replicate (I z - D z) (y - D z) 0 0 (omega arith))))
            (λ l. rw (lt-ltb y (D z) l) (sym (get_or-append (replicate (D z) 1) (replicate (I z - D z) 0) 0 y (omega (arith, length-replicate {A = ℕ} (D z) 1)) ∙ get_or-replicate (D z) y 1 0 l)))
            (order (D z) y);
      }
    where
      back : (y : ℕ) → D z ≤ y → y ≡ length {A = ℕ} (replicate (D z) 1) + (y - D z)
      back y l = omega (arith, length-replicate {A = ℕ} (D z) 1)
  rep_start (suc n) = rep_pushed z (start_from_l n) (start_from z n) (4 * (z.e + n)) (rep_start n)

module _ (z : Size) (mag : ℕ → ℕ) (neg : ℕ → Bool) where
  unfoldable pub scan_plane_l : ℕ → List ℕ → (List Bool) × (List ℕ)
  scan_plane_l b l =
      let one = go_l z (pixel_l mag neg b) (I z) l 0 in
      let two = go_l z (set_l z mag neg b) (z.e + 12 * Q z) one.1 0 in
      let three = go_l z (refine_l mag b) (I z) two.1 0 in
      (one.0 ++ (two.0 ++ three.0), three.1)
