-- The set pass writes what the magnitudes say.
use Prim.Native.Nat.{ℕ, zero, suc, ◌+◌, ◌*◌, ◌-◌, ◌^◌, ◌/◌, ◌%◌, ◌≤◌, ◌<◌}
use mathlib.Core.Path.{◌≡◌, refl, ap, sym, subst, ◌∙◌}
use mathlib.Core.Bool.{Bool, true, false, not, ◌&&◌, ◌||◌, cond, and-false, or-true}
use mathlib.Core.List.{List, [], ◌∷◌, ◌++◌, append_assoc}
use mathlib.Core.Logic.{◌⊎◌, inl, inr, ⊎_elim}
use native.Mathlib.Nat.{le_refl, zero-add, pow-succ'}
use native.Mathlib.Omega.{arith}
use borrow.Author.Tests.{lt-ltb, le-ltb, eqb-true, eqb-false, le-leb, lt-leb, ne_eqb}
use lib.Dec.{T, ltb, leb, eqb, lt→ltb, T_not, not_T}
use Rattle.bits.specs.Bits.{bit}
use Rattle.nls.proofs.Booleans.{T_or, T_false, T_true, of_true, of_false}
use Rattle.nls.proofs.Counting.Sums.{each, each_at, each_cons, each_none, each_jump, order}
use Rattle.nls.proofs.Counting.Tree.{Size, D, Q, I, desc_none, grand_none}
use Rattle.nls.proofs.Counting.Parts.{ι, big, coded, split_desc, split_grand, test_grand, test_desc, children, group}
use Rattle.nls.proofs.Counting.Count.{desc_shrinks, grand_shrinks, desc_known, child_splits, desc_splits, bit_big}
use Rattle.nls.proofs.Counting.Summary.{has_desc, has_grand, has_desc_is, has_grand_is}
use Rattle.nls.proofs.Counting.Tiles.{up, down, up_le, in_run, pow4_pos, Alone, StandsD, StandsG, Cov, Spot, after_alone, after_run, below_sg, not_sd, not_sg}
use Rattle.nls.proofs.Counting.Steps.{Table, skip, go, go_on, go_over, set_step, open_desc, open_grand, code, code_far, skip_code, Marks, remark, retell}
use Rattle.nls.proofs.Counting.Passes.{closed1, found}
use Rattle.nls.proofs.Counting.Opens.{flip, grand_opens, desc_opens, same_spot, same_marks, same_desc}

T_or_right : (s t : Bool) → T t → T (s || t)
T_or_right true t h = tt
T_or_right false t h = h

or_out : (s t : Bool) → T (not s) → T (s || t) → T t
or_out true t h k = absurd h
or_out false t h k = k

or_map : (s t u : Bool) → (T t → T u) → T (s || t) → T (s || u)
or_map true t u h k = tt
or_map false t u h k = h k

cond_nil : {X : Type 0} (t : Bool) → ◌≡◌ {A = List X} (cond t [] []) []
cond_nil true = refl
cond_nil false = refl

module _ (z : Size) (mag : ℕ → ℕ) (neg : ℕ → Bool) (b : ℕ) where
  -- what is split when the DESC sets below d, and the GRAND sets whose place is below 4 g, have been tested
  sdt : ℕ → ℕ → Bool
  sdt d y = cond (ltb y d) (split_desc z mag b y) (split_desc z mag (suc b) y)

  sgt : ℕ → ℕ → Bool
  sgt g y = cond (ltb (4 * y) g) (split_grand z mag b y) (split_grand z mag (suc b) y)

  was : ℕ → Bool
  was x = ltb x (D z) || split_desc z mag (suc b) (x / 4)

  cst : ℕ → ℕ → ℕ
  cst c x = cond (was x || ltb x c) (found z mag b x) 4

  sdt_in : (d y : ℕ) → y < d → sdt d y ≡ split_desc z mag b y
  unfolding sdt
  sdt_in d y h = rw (lt-ltb y d h)

  sdt_out : (d y : ℕ) → d ≤ y → sdt d y ≡ split_desc z mag (suc b) y
  unfolding sdt
  sdt_out d y h = rw (le-ltb y d h)

  sgt_in : (g y : ℕ) → 4 * y < g → sgt g y ≡ split_grand z mag b y
  unfolding sgt
  sgt_in g y h = rw (lt-ltb (4 * y) g h)

  sgt_out : (g y : ℕ) → g ≤ 4 * y → sgt g y ≡ split_grand z mag (suc b) y
  unfolding sgt
  sgt_out g y h = rw (le-ltb (4 * y) g h)

  closed_1 : (g d : ℕ) → g ≤ suc d → (q : ℕ) → z.e ≤ q → T (sgt g q) → T (sdt d q)
  closed_1 g d l q h t =
      ⊎_elim
      (λ o. let s : T (split_desc z mag (suc b) q) = closed1 z mag (suc b) q h (rw (sgt_out g q o) at t) in
      ⊎_elim (λ r. rw (sdt_out d q r) s) (λ r. rw (sdt_in d q r) (desc_shrinks z mag b q s)) (order d q))
      (λ o. rw (sdt_in d q (omega arith)) (closed1 z mag b q h (rw (sgt_in g q o) at t)))
      (order g (4 * q))

  closed_2 : (g d : ℕ) → d ≤ g → (p : ℕ) → T (sdt d p) → T (ltb p (D z) || sgt g (p / 4))
  closed_2 g d l p t =
      ⊎_elim
      (λ o. or_map (ltb p (D z)) (split_grand z mag (suc b) (p / 4)) (sgt g (p / 4))
      (λ s. ⊎_elim (λ r. rw (sgt_out g (p / 4) r) s) (λ r. rw (sgt_in g (p / 4) r) (grand_shrinks z mag b (p / 4) s)) (order g (4 * (p / 4))))
      (desc_known z mag (suc b) p (rw (sdt_out d p o) at t)))
      (λ o. rw (sgt_in g (p / 4) (omega arith)) (desc_known z mag b p (rw (sdt_in d p o) at t)))
      (order d p)

  -- later tests that change nothing
  adv_d : (d d' : ℕ) → d ≤ d' → ((y : ℕ) → z.e ≤ y → d ≤ y → y < d' → split_desc z mag b y ≡ split_desc z mag (suc b) y)
      → (y : ℕ) → z.e ≤ y → sdt d y ≡ sdt d' y
  adv_d d d' l h y e =
      ⊎_elim
      (λ o. ⊎_elim (λ r. sdt_out d y o ∙ sym (sdt_out d' y r)) (λ r. sdt_out d y o ∙ sym (sdt_in d' y r ∙ h y e o r)) (order d' y))
      (λ o. sdt_in d y o ∙ sym (sdt_in d' y (omega arith))) (order d y)

  adv_g : (g g' : ℕ) → g ≤ g' → ((y : ℕ) → z.e ≤ y → g ≤ 4 * y → 4 * y < g' → split_grand z mag b y ≡ split_grand z mag (suc b) y)
      → (y : ℕ) → z.e ≤ y → sgt g y ≡ sgt g' y
  adv_g g g' l h y e =
      ⊎_elim
      (λ o. ⊎_elim (λ r. sgt_out g y o ∙ sym (sgt_out g' y r)) (λ r. sgt_out g y o ∙ sym (sgt_in g' y r ∙ h y e o r)) (order g' (4 * y)))
      (λ o. sgt_in g y o ∙ sym (sgt_in g' y (omega arith))) (order g (4 * y))

  adv_c : (c c' x : ℕ) → c ≤ c' → (c ≤ x → x < c' → T (was x)) → cst c x ≡ cst c' x
  unfolding cst
  adv_c c c' x l h = tell (was x) refl
    where
      tell : (t : Bool) → was x ≡ t → cond (was x || ltb x c) (found z mag b x) 4 ≡ cond (was x || ltb x c') (found z mag b x) 4
      tell true e = rw e
      tell false e =
          rw e
          (⊎_elim
          (λ o. ⊎_elim (λ r. rw (le-ltb x c o, le-ltb x c' r)) (λ r. absurd (T_not (was x) (of_false (was x) e) (h o r))) (order c' x))
          (λ o. rw (lt-ltb x c o, lt-ltb x c' (omega arith))) (order c x))

  alone_was : (d g x : ℕ) → 4 * d ≤ x → Alone z (sdt d) (sgt g) x → T (was x)
  unfolding was
  alone_was d g x l t = rw (sdt_out d (x / 4) (omega arith)) at t

  empty_desc : (n y : ℕ) → Q z ≤ y → split_desc z mag n y ≡ false
  unfolding split_desc
  empty_desc n y h = rw (desc_none z (λ c. ι (big mag n c)) y h)

  empty_grand : (n y : ℕ) → z.j ≤ y → split_grand z mag n y ≡ false
  unfolding split_grand
  empty_grand n y h = rw (grand_none z (λ c. ι (big mag n c)) y h)

  cst_past : (c x : ℕ) → x < c → cst c x ≡ found z mag b x
  unfolding cst
  cst_past c x h = rw (lt-ltb x c h, or-true (was x))

  cst_was : (c x : ℕ) → T (was x) → cst c x ≡ found z mag b x
  unfolding cst
  cst_was c x h = rw (T_true (was x) h)

  cst_new : (c x : ℕ) → T (not (was x)) → c ≤ x → cst c x ≡ 4
  unfolding cst
  cst_new c x h l = rw (T_false (was x) (T_not (was x) h), le-ltb x c l)

  -- what is written up to here and from here
  abbrev Res : ℕ → Table → ℕ → List Bool → Type 0
  Res f m i o =
      ((go z (set_step z mag neg b) f m i).0 ≡ o)
      × Marks z (split_desc z mag b) (split_grand z mag b) (λ x. found z mag b x) (go z (set_step z mag neg b) f m i).1

  abbrev State : ℕ → ℕ → ℕ → Table → Type 0
  State g d c m = Marks z (sdt d) (sgt g) (λ x. cst c x) m

  res_on : (f : ℕ) (m m' : Table) (i i' : ℕ) (o o' : List Bool) → i < I z → (set_step z mag neg b m i).0 ≡ o → (set_step z mag neg b m i).1 ≡ m'
      → (set_step z mag neg b m i).2 ≡ i' → Res f m' i' o' → Res (suc f) m i (o ++ o')
  res_on f m m' i i' o o' h p q r w =
      rw (go_on z (set_step z mag neg b) f m i o m' i' h p q r) (ap (λ (l : List Bool). o ++ l) w.0, w.1)

  -- the end
  done : (f p : ℕ) (m : Table) → Q z ≤ p → State p p (4 * p) m → Res f m (4 * p) (each p (Q z - p) (λ k. group z mag neg b k))
  done f p m h w =
      rw (go_over z (set_step z mag neg b) f m (4 * p) (omega arith)) (
        sym (each_at p p (Q z - p) 0 (λ k. group z mag neg b k) refl (omega arith) ∙ each_none p (λ k. group z mag neg b k)),
        same_marks z (sdt p) (sgt p) (split_desc z mag b) (split_grand z mag b)
            (λ y l. ⊎_elim (λ o. sdt_out p y o ∙ empty_desc (suc b) y (omega arith) ∙ sym (empty_desc b y (omega arith))) (λ o. sdt_in p y o) (order p y))
            (λ y l. ⊎_elim (λ o. sgt_out p y o ∙ empty_grand (suc b) y (omega arith) ∙ sym (empty_grand b y (omega arith))) (λ o. sgt_in p y o) (order p (4 * y)))
            (λ x. cst (4 * p) x) (λ x. found z mag b x) m (λ x u t. cst_past (4 * p) x (omega arith)) w,
      )

  -- where a group writes nothing
  quiet_grand : (p : ℕ) → z.e ≤ p → (D z ≤ p → p % 4 ≡ 0 → T (not (split_desc z mag b (p / 4))) ⊎ T (split_grand z mag (suc b) (p / 4)))
      → cond (leb (D z) p && eqb (p % 4) 0) (test_grand z mag b (p / 4)) [] ≡ []
  unfolding test_grand
  quiet_grand p h k = ⊎_elim (λ o. tell o (eqb (p % 4) 0) refl) (λ o. rw (lt-leb (D z) p o)) (order (D z) p)
    where
      tell : D z ≤ p → (t : Bool) → eqb (p % 4) 0 ≡ t → cond (leb (D z) p && eqb (p % 4) 0) (test_grand z mag b (p / 4)) [] ≡ []
      tell o false q = rw (q, and-false (leb (D z) p))
      tell o true q =
          ⊎_elim
          (λ r. rw (T_false (split_desc z mag b (p / 4)) (T_not (split_desc z mag b (p / 4)) r)) (cond_nil (leb (D z) p && eqb (p % 4) 0)))
          (λ r. rw (T_true (split_grand z mag (suc b) (p / 4)) r, and-false (split_desc z mag b (p / 4))) (cond_nil (leb (D z) p && eqb (p % 4) 0)))
          (k o (eqb-true (p % 4) 0 q))

  group_split : (p : ℕ) → z.e ≤ p → T (split_desc z mag (suc b) p) → group z mag neg b p ≡ []
  unfolding group test_desc children
  group_split p h t =
      let s : split_desc z mag (suc b) p ≡ true = T_true (split_desc z mag (suc b) p) t in
      rw (
        quiet_grand p h (λ o r. inr (or_out (ltb p (D z)) (split_grand z mag (suc b) (p / 4)) (of_false (ltb p (D z)) (le-ltb p (D z) o)) (desc_known z mag (suc b) p t))),
        s,
        and-false (ltb p (D z) || split_grand z mag b (p / 4)),
        and-false (split_desc z mag b p),
      )

  group_none : (p : ℕ) → D z ≤ p → T (not (split_desc z mag b p)) → T (not (split_grand z mag b (p / 4))) → (p % 4 ≡ 0 → T (not (split_desc z mag b (p / 4))))
      → group z mag neg b p ≡ []
  unfolding group test_desc children
  group_none p h x y w =
      rw (
        quiet_grand p (omega arith) (λ o r. inl (w r)),
        le-ltb p (D z) h,
        T_false (split_grand z mag b (p / 4)) (T_not (split_grand z mag b (p / 4)) y),
        T_false (split_desc z mag b p) (T_not (split_desc z mag b p) x),
      )

  -- ---- the children
  coded_step : (m : Table) (x : ℕ) → m x ≡ 4 → ((set_step z mag neg b m x).0 ≡ coded mag neg b x)
      × ((y : ℕ) → (set_step z mag neg b m x).1 y ≡ cond (eqb y x) (cond (bit (mag x) b) 2 1) (m y)) × ((set_step z mag neg b m x).2 ≡ suc x)
  unfolding set_step
  coded_step m x h = rw h (refl, λ y. refl, refl)

  coef_step : (m : Table) (x v : ℕ) → m x ≡ v → v ≤ 3 → ((set_step z mag neg b m x).0 ≡ []) × ((set_step z mag neg b m x).1 ≡ m) × ((set_step z mag neg b m x).2 ≡ x + 4)
  unfolding set_step
  coef_step m x v h l = rw (h, ne_eqb v 5 (omega arith), ne_eqb v 6 (omega arith), ne_eqb v 4 (omega arith), le-leb v 3 l) (refl, refl, refl)

  run_step : (m : Table) (x v : ℕ) → m x ≡ v → 7 ≤ v → ((set_step z mag neg b m x).0 ≡ []) × ((set_step z mag neg b m x).1 ≡ m) × ((set_step z mag neg b m x).2 ≡ x + skip v)
  unfolding set_step
  run_step m x v h l = rw (h, ne_eqb v 5 (omega arith), ne_eqb v 6 (omega arith), ne_eqb v 4 (omega arith), lt-leb v 3 (omega arith)) (refl, refl, refl)

  found_le : (x : ℕ) → found z mag b x ≤ 3
  unfolding found
  found_le x = tell (big mag (suc b) x) (big mag b x)
    where
      tell : (s t : Bool) → cond s 3 (cond t 2 1) ≤ 3
      tell true t = omega arith
      tell false true = omega arith
      tell false false = omega arith

  found_new : (x : ℕ) → T (not (big mag (suc b) x)) → cond (bit (mag x) b) 2 1 ≡ found z mag b x
  unfolding found
  found_new x n = rw (bit_big mag b x n, T_false (big mag (suc b) x) (T_not (big mag (suc b) x) n))

  -- the three statements that are proved together, by the fuel
  abbrev S0 : ℕ → Type 0
  S0 f = (p : ℕ) (m : Table) → 6 * (Q z - p) ≤ f → z.e ≤ p → Spot z (sdt p) (sgt p) (4 * p) → State p p (4 * p) m
      → Res f m (4 * p) (each p (Q z - p) (λ k. group z mag neg b k))

  abbrev S1 : ℕ → Type 0
  S1 f = (p : ℕ) (m : Table) → 6 * (Q z - p) ≤ suc f → z.e ≤ p → p < Q z → StandsD z (sdt p) (sgt (suc p)) p → State (suc p) p (4 * p) m
      → Res f m (4 * p) (test_desc z mag b p ++ (children z mag neg b p ++ each (suc p) (Q z - suc p) (λ k. group z mag neg b k)))

  abbrev S2 : ℕ → Type 0
  S2 f = (p c n : ℕ) (m : Table) → 6 * (Q z - suc p) + suc n ≤ f → z.e ≤ p → p < Q z → T (split_desc z mag b p) → T (not (split_desc z mag (suc b) p))
      → 4 * p ≤ c → c + suc n ≡ 4 * p + 4 → State (suc p) (suc p) c m
      → Res f m c (each c (suc n) (λ k. coded mag neg b k) ++ each (suc p) (Q z - suc p) (λ k. group z mag neg b k))

  -- a child of a set that is split now was not alone, and is now
  not_was : (p x : ℕ) → z.e ≤ p → 4 * p ≤ x → x < 4 * p + 4 → T (not (split_desc z mag (suc b) p)) → T (not (was x))
  unfolding was
  not_was p x e u v n =
      let s : x / 4 ≡ p = omega arith in
      rw (s, le-ltb x (D z) (omega arith)) n

  now_alone : (p x g : ℕ) → 4 * p ≤ x → x < 4 * p + 4 → T (split_desc z mag b p) → Alone z (sdt (suc p)) (sgt g) x
  now_alone p x g u v t =
      let s : x / 4 ≡ p = omega arith in
      T_or_right (ltb x (D z)) (sdt (suc p) (x / 4)) (rw (s, sdt_in (suc p) p (le_refl _)) t)

  kid_mark : (p c : ℕ) (m : Table) → z.e ≤ p → p < Q z → T (split_desc z mag b p) → T (not (split_desc z mag (suc b) p))
      → 4 * p ≤ c → c < 4 * p + 4 → State (suc p) (suc p) c m → m c ≡ 4
  kid_mark p c m e l y y' g k w =
      w.coef c (omega arith) (now_alone p c (suc p) g k y) ∙ cst_new c c (not_was p c e g k y') (le_refl c)

  kid_state : (p c : ℕ) (m : Table) → z.e ≤ p → p < Q z → T (split_desc z mag b p) → T (not (split_desc z mag (suc b) p))
      → 4 * p ≤ c → c < 4 * p + 4 → State (suc p) (suc p) c m → State (suc p) (suc p) (suc c) (set_step z mag neg b m c).1
  kid_state p c m e l y y' g k w =
      retell z (sdt (suc p)) (sgt (suc p)) (closed_1 (suc p) (suc p) (omega arith)) (closed_2 (suc p) (suc p) (le_refl _))
      (λ x. cond (eqb x c) (cond (bit (mag c) b) 2 1) (cst c x)) (λ x. cst (suc c) x) (set_step z mag neg b m c).1 (λ x u t. tell x (eqb x c) refl)
      (remark z (sdt (suc p)) (sgt (suc p)) (closed_1 (suc p) (suc p) (omega arith)) (closed_2 (suc p) (suc p) (le_refl _))
      (λ x. cst c x) m (set_step z mag neg b m c).1 c (cond (bit (mag c) b) 2 1) (now_alone p c (suc p) g k y)
      (coded_step m c (kid_mark p c m e l y y' g k w)).1 w)
    where
      small : T (not (big mag (suc b) c))
      small = not_T (big mag (suc b) c) (λ t. T_not (split_desc z mag (suc b) p) y' (child_splits z mag (suc b) p c (omega arith) l g k t))

      value : cond (bit (mag c) b) 2 1 ≡ found z mag b c
      value = found_new c small

      tell : (x : ℕ) (t : Bool) → eqb x c ≡ t → cond (eqb x c) (cond (bit (mag c) b) 2 1) (cst c x) ≡ cst (suc c) x
      tell x true o =
          let same : x ≡ c = eqb-true x c o in
          rw o (value ∙ sym (ap (λ (n : ℕ). cst (suc c) n) same ∙ cst_past (suc c) c (le_refl _)))
      tell x false o = rw o (adv_c c (suc c) x (omega arith) (λ u v. absurd (eqb-false x c o (omega arith))))

  step2 : (f : ℕ) → S0 f → S2 f → S2 (suc f)
  step2 f s0 s2 p c zero m h e l y y' g k w =
      let st = coded_step m c (kid_mark p c m e l y y' g (omega arith) w) in
      let next : suc c ≡ 4 * suc p = omega arith in
      let w' : State (suc p) (suc p) (suc c) (set_step z mag neg b m c).1 = kid_state p c m e l y y' g (omega arith) w in
      let sp : Spot z (sdt (suc p)) (sgt (suc p)) (suc c) =
      after_alone z (sdt (suc p)) (sgt (suc p)) (closed_1 (suc p) (suc p) (omega arith)) (closed_2 (suc p) (suc p) (le_refl _)) c
      (now_alone p c (suc p) g (omega arith) y) in
      let r : Res f (set_step z mag neg b m c).1 (4 * suc p) (each (suc p) (Q z - suc p) (λ k. group z mag neg b k)) =
      s0 (suc p) (set_step z mag neg b m c).1 (omega arith) (omega arith) (rw next at sp) (rw next at w') in
      subst (λ (o : List Bool). Res (suc f) m c o)
      (sym (ap (λ (o : List Bool). o ++ each (suc p) (Q z - suc p) (λ k. group z mag neg b k))
      (each_cons c 0 (λ k. coded mag neg b k) ∙ ap (λ (o : List Bool). coded mag neg b c ++ o) (each_none (suc c) (λ k. coded mag neg b k)))
      ∙ append_assoc (coded mag neg b c) [] (each (suc p) (Q z - suc p) (λ k. group z mag neg b k))))
      (res_on f m (set_step z mag neg b m c).1 c (4 * suc p) (coded mag neg b c) (each (suc p) (Q z - suc p) (λ k. group z mag neg b k))
      (omega arith) st.0 refl (st.2 ∙ next) r)
  step2 f s0 s2 p c (suc n) m h e l y y' g k w =
      let st = coded_step m c (kid_mark p c m e l y y' g (omega arith) w) in
      let r = s2 p (suc c) n (set_step z mag neg b m c).1 (omega arith) e l y y' (omega arith) (omega arith) (kid_state p c m e l y y' g (omega arith) w) in
      subst (λ (o : List Bool). Res (suc f) m c o)
      (sym (ap (λ (o : List Bool). o ++ each (suc p) (Q z - suc p) (λ k. group z mag neg b k)) (each_cons c (suc n) (λ k. coded mag neg b k))
      ∙ append_assoc (coded mag neg b c) (each (suc c) (suc n) (λ k. coded mag neg b k)) (each (suc p) (Q z - suc p) (λ k. group z mag neg b k))))
      (res_on f m (set_step z mag neg b m c).1 c (suc c) (coded mag neg b c)
      (each (suc c) (suc n) (λ k. coded mag neg b k) ++ each (suc p) (Q z - suc p) (λ k. group z mag neg b k))
      (omega arith) st.0 refl st.2 r)

  -- ---- a test of DESC
  md_step : (m : Table) (p : ℕ) → m (4 * p) ≡ 5 → T (not (split_desc z mag (suc b) p)) → (t : Bool) → split_desc z mag b p ≡ t
      → ((set_step z mag neg b m (4 * p)).0 ≡ t ∷ []) × ((set_step z mag neg b m (4 * p)).1 ≡ cond t (open_desc z m (4 * p)) m)
      × ((set_step z mag neg b m (4 * p)).2 ≡ cond t (4 * p) (4 * p + 4))
  unfolding set_step
  md_step m p h n t e =
      let up_is : 4 * p / 4 ≡ p = omega arith in
      let has : has_desc z mag b p ≡ t = has_desc_is z mag b p (T_false (split_desc z mag (suc b) p) (T_not (split_desc z mag (suc b) p) n)) ∙ e in
      rw (h, up_is, has) (refl, refl, refl)

  md_mark : (m : Table) (p g c : ℕ) → z.e ≤ p → p < Q z → StandsD z (sdt p) (sgt g) p → State g p c m → m (4 * p) ≡ 5
  unfolding down code
  md_mark m p g c e l st w = w.desc 1 p (omega arith) e st (omega arith)

  flip_d : (p : ℕ) → T (split_desc z mag b p) → (y : ℕ) → flip p (sdt p) y ≡ sdt (suc p) y
  flip_d p t y = tell (eqb y p) refl
    where
      tell : (r : Bool) → eqb y p ≡ r → cond (eqb y p) true (sdt p y) ≡ sdt (suc p) y
      tell true o =
          let same : y ≡ p = eqb-true y p o in
          rw o (sym (ap (λ (n : ℕ). sdt (suc p) n) same ∙ sdt_in (suc p) p (le_refl _) ∙ T_true (split_desc z mag b p) t))
      tell false o =
          let ne : y ≡ p → ⊥ = eqb-false y p o in
          rw o (⊎_elim (λ r. sdt_out p y r ∙ sym (sdt_out (suc p) y (omega (arith, ne)))) (λ r. sdt_in p y r ∙ sym (sdt_in (suc p) y (omega arith))) (order p y))

  -- a set that is not split now was not before
  same_false : (y : ℕ) → T (not (split_desc z mag b y)) → split_desc z mag b y ≡ split_desc z mag (suc b) y
  same_false y n =
      T_false (split_desc z mag b y) (T_not (split_desc z mag b y) n)
      ∙ sym (T_false (split_desc z mag (suc b) y) (λ t. T_not (split_desc z mag b y) n (desc_shrinks z mag b y t)))

  same_false_g : (y : ℕ) → T (not (split_grand z mag b y)) → split_grand z mag b y ≡ split_grand z mag (suc b) y
  same_false_g y n =
      T_false (split_grand z mag b y) (T_not (split_grand z mag b y) n)
      ∙ sym (T_false (split_grand z mag (suc b) y) (λ t. T_not (split_grand z mag b y) n (grand_shrinks z mag b y t)))

  test_desc_is : (p : ℕ) → T (ltb p (D z) || split_grand z mag b (p / 4)) → T (not (split_desc z mag (suc b) p))
      → test_desc z mag b p ≡ split_desc z mag b p ∷ []
  unfolding test_desc
  test_desc_is p t n =
      rw (T_true (ltb p (D z) || split_grand z mag b (p / 4)) t, T_false (split_desc z mag (suc b) p) (T_not (split_desc z mag (suc b) p) n))

  children_yes : (p : ℕ) → T (split_desc z mag b p) → T (not (split_desc z mag (suc b) p)) → children z mag neg b p ≡ each (4 * p) 4 (λ k. coded mag neg b k)
  unfolding children
  children_yes p t n = rw (T_true (split_desc z mag b p) t, T_false (split_desc z mag (suc b) p) (T_not (split_desc z mag (suc b) p) n))

  children_no : (p : ℕ) → T (not (split_desc z mag b p)) → children z mag neg b p ≡ []
  unfolding children
  children_no p n = rw (T_false (split_desc z mag b p) (T_not (split_desc z mag b p) n))

  up_one : (p : ℕ) → up 1 (4 * p) ≡ p
  unfolding up
  up_one p = omega arith

  down_one : (p : ℕ) → down 1 p ≡ 4 * p
  unfolding down
  down_one p = refl

  step1 : (f : ℕ) → S0 f → S2 f → S1 (suc f)
  step1 f s0 s2 p m h e l st w = tell (split_desc z mag b p) refl
    where
      new : T (not (split_desc z mag (suc b) p))
      new = rw (sdt_out p p (le_refl p)) at st.0

      known : T (ltb p (D z) || split_grand z mag b (p / 4))
      known = rw (sgt_in (suc p) (p / 4) (omega arith)) at st.1

      R : List Bool
      R = each (suc p) (Q z - suc p) (λ k. group z mag neg b k)

      mark : m (4 * p) ≡ 5
      mark = md_mark m p (suc p) (4 * p) e l st w

      tell : (t : Bool) → split_desc z mag b p ≡ t
          → Res (suc f) m (4 * p) (test_desc z mag b p ++ (children z mag neg b p ++ each (suc p) (Q z - suc p) (λ k. group z mag neg b k)))
      tell true o =
          let y : T (split_desc z mag b p) = of_true (split_desc z mag b p) o in
          let sp = md_step m p mark new true o in
          let w' : State (suc p) (suc p) (4 * p) (open_desc z m (4 * p)) =
          same_marks z (flip p (sdt p)) (sgt (suc p)) (sdt (suc p)) (sgt (suc p)) (λ k u. flip_d p y k) (λ k u. refl)
          (λ x. cond (eqb (x / 4) p) 4 (cst (4 * p) x)) (λ x. cst (4 * p) x) (open_desc z m (4 * p))
          (λ x u t. fresh x (eqb (x / 4) p) refl)
          (desc_opens z (sdt p) (sgt (suc p)) (closed_1 (suc p) p (le_refl _)) (closed_2 (suc p) p (omega arith)) (λ x. cst (4 * p) x) m p e st w) in
          let r = s2 p (4 * p) 3 (open_desc z m (4 * p)) (omega arith) e l y new (le_refl _) (omega arith) w' in
          rw (test_desc_is p known new, o, children_yes p y new)
          (res_on f m (open_desc z m (4 * p)) (4 * p) (4 * p) (true ∷ []) (each (4 * p) 4 (λ k. coded mag neg b k) ++ R)
          (omega arith) sp.0 sp.1 sp.2 r)
        where
          fresh : (x : ℕ) (t : Bool) → eqb (x / 4) p ≡ t → cond (eqb (x / 4) p) 4 (cst (4 * p) x) ≡ cst (4 * p) x
          fresh x true q =
              let s : x / 4 ≡ p = eqb-true (x / 4) p q in
              rw q (sym (cst_new (4 * p) x (not_was p x e (omega arith) (omega arith) new) (omega arith)))
          fresh x false q = rw q
      tell false o =
          let n : T (not (split_desc z mag b p)) = of_false (split_desc z mag b p) o in
          let sp = md_step m p mark new false o in
          let next : 4 * p + 4 ≡ 4 * suc p = omega arith in
          let hd : (y : ℕ) → z.e ≤ y → sdt p y ≡ sdt (suc p) y =
          adv_d p (suc p) (omega arith) (λ y u v x. let s : y ≡ p = omega arith in rw s (same_false p n)) in
          let w' : State (suc p) (suc p) (4 * suc p) m =
          same_marks z (sdt p) (sgt (suc p)) (sdt (suc p)) (sgt (suc p)) hd (λ k u. refl) (λ x. cst (4 * p) x) (λ x. cst (4 * suc p) x) m
          (λ x u t. adv_c (4 * p) (4 * suc p) x (omega arith) (λ v v'. alone_was p (suc p) x v t)) w in
          let at : Spot z (sdt p) (sgt (suc p)) (4 * p + 4 ^ 1) =
          after_run z (sdt p) (sgt (suc p)) (closed_1 (suc p) p (le_refl _)) (closed_2 (suc p) p (omega arith)) 1 (4 * p)
          (rw (up_one p) (omega arith, e, inl st)) (rw (up_one p) (sym (down_one p))) in
          let at' : Spot z (sdt (suc p)) (sgt (suc p)) (4 * suc p) =
          rw next at (same_spot z (sdt p) (sgt (suc p)) (sdt (suc p)) (sgt (suc p)) hd (λ k u. refl) (4 * p + 4) at) in
          let r = s0 (suc p) m (omega arith) (omega arith) at' w' in
          rw (test_desc_is p known new, o, children_no p n)
          (res_on f m m (4 * p) (4 * suc p) (false ∷ []) R (omega arith) sp.0 sp.1 (sp.2 ∙ next) r)

  out_cons : (p : ℕ) → p < Q z
      → each p (Q z - p) (λ k. group z mag neg b k) ≡ group z mag neg b p ++ each (suc p) (Q z - suc p) (λ k. group z mag neg b k)
  out_cons p l = each_at p p (Q z - p) (suc (Q z - suc p)) (λ k. group z mag neg b k) refl (omega arith) ∙ each_cons p (Q z - suc p) (λ k. group z mag neg b k)

  both : (s t : Bool) → T s → T t → s ≡ t
  both s t x y = T_true s x ∙ sym (T_true t y)

  -- ---- a coefficient that stood alone
  alone0 : (f : ℕ) → S0 f → (p : ℕ) (m : Table) → 6 * (Q z - p) ≤ suc f → z.e ≤ p → p < Q z → Alone z (sdt p) (sgt p) (4 * p) → State p p (4 * p) m
      → Res (suc f) m (4 * p) (each p (Q z - p) (λ k. group z mag neg b k))
  alone0 f s0 p m h e l t w =
      let four : 4 * p / 4 ≡ p = omega arith in
      let y : T (split_desc z mag (suc b) p) =
      rw (four, sdt_out p p (le_refl p)) at (or_out (ltb (4 * p) (D z)) (sdt p (4 * p / 4)) (of_false (ltb (4 * p) (D z)) (le-ltb (4 * p) (D z) (omega arith))) t) in
      let mark : m (4 * p) ≡ found z mag b (4 * p) = w.coef (4 * p) (omega arith) t ∙ cst_was (4 * p) (4 * p) (alone_was p p (4 * p) (le_refl _) t) in
      let st = coef_step m (4 * p) (found z mag b (4 * p)) mark (found_le (4 * p)) in
      let hd : (k : ℕ) → z.e ≤ k → sdt p k ≡ sdt (suc p) k =
      adv_d p (suc p) (omega arith)
      (λ k u v x. let s : k ≡ p = omega arith in rw s (both (split_desc z mag b p) (split_desc z mag (suc b) p) (desc_shrinks z mag b p y) y)) in
      let hg : (k : ℕ) → z.e ≤ k → sgt p k ≡ sgt (suc p) k =
      adv_g p (suc p) (omega arith)
      (λ k u v x. let s : p / 4 ≡ k = omega arith in
      let g : T (split_grand z mag (suc b) k) =
      rw s at (or_out (ltb p (D z)) (split_grand z mag (suc b) (p / 4)) (of_false (ltb p (D z)) (le-ltb p (D z) (omega arith))) (desc_known z mag (suc b) p y)) in
      both (split_grand z mag b k) (split_grand z mag (suc b) k) (grand_shrinks z mag b k g) g) in
      let w' : State (suc p) (suc p) (4 * suc p) m =
      same_marks z (sdt p) (sgt p) (sdt (suc p)) (sgt (suc p)) hd hg (λ x. cst (4 * p) x) (λ x. cst (4 * suc p) x) m
      (λ x u v. adv_c (4 * p) (4 * suc p) x (omega arith) (λ o o'. alone_was p p x o v)) w in
      let last : (4 * p + 3) / 4 ≡ p = omega arith in
      let lone : Alone z (sdt p) (sgt p) (4 * p + 3) = T_or_right (ltb (4 * p + 3) (D z)) (sdt p ((4 * p + 3) / 4)) (rw (last, sdt_out p p (le_refl p)) y) in
      let at : Spot z (sdt p) (sgt p) (suc (4 * p + 3)) =
      after_alone z (sdt p) (sgt p) (closed_1 p p (omega arith)) (closed_2 p p (le_refl p)) (4 * p + 3) lone in
      let next : suc (4 * p + 3) ≡ 4 * suc p = omega arith in
      let at' : Spot z (sdt (suc p)) (sgt (suc p)) (4 * suc p) =
      rw next at (same_spot z (sdt p) (sgt p) (sdt (suc p)) (sgt (suc p)) hd hg (suc (4 * p + 3)) at) in
      let go_to : 4 * p + 4 ≡ 4 * suc p = omega arith in
      let r = s0 (suc p) m (omega arith) (omega arith) at' w' in
      rw (out_cons p l, group_split p e y)
      (res_on f m m (4 * p) (4 * suc p) [] (each (suc p) (Q z - suc p) (λ k. group z mag neg b k)) (omega arith) st.0 st.1 (st.2 ∙ go_to) r)

  up_two : (p a : ℕ) → p ≡ 4 * a → up 2 (4 * p) ≡ a
  unfolding up
  up_two p a d = omega arith

  down_two' : (p a : ℕ) → p ≡ 4 * a → down 2 a ≡ 4 * p
  unfolding down
  down_two' p a d = omega arith

  test_desc_no : (p : ℕ) → D z ≤ p → T (not (split_grand z mag b (p / 4))) → test_desc z mag b p ≡ []
  unfolding test_desc
  test_desc_no p h n = rw (le-ltb p (D z) h, T_false (split_grand z mag b (p / 4)) (T_not (split_grand z mag b (p / 4)) n))

  -- below a GRAND that is not split
  under_g : (k y : ℕ) → z.e ≤ up (suc k) y → T (not (split_grand z mag b (up (suc k) y)))
      → (D z ≤ y) × T (not (split_grand z mag b (y / 4))) × T (not (split_desc z mag b y))
  unfolding up
  under_g k y h n =
      let g : T (not (split_grand z mag b (y / 4))) =
      below_sg z (split_desc z mag b) (split_grand z mag b) (closed1 z mag b) (desc_known z mag b) k y h n in
      let high : D z ≤ y = omega (arith, up_le k (y / 4)) in
      (high, g, not_sd z (split_desc z mag b) (split_grand z mag b) (closed1 z mag b) (desc_known z mag b) y high g)

  -- ---- a test of GRAND
  mg_step : (m : Table) (p a : ℕ) → m (4 * p) ≡ 6 → p ≡ 4 * a → T (not (split_grand z mag (suc b) a)) → (t : Bool) → split_grand z mag b a ≡ t
      → ((set_step z mag neg b m (4 * p)).0 ≡ t ∷ []) × ((set_step z mag neg b m (4 * p)).1 ≡ cond t (open_grand z m (4 * p)) m)
      × ((set_step z mag neg b m (4 * p)).2 ≡ cond t (4 * p) (4 * p + 16))
  unfolding set_step
  mg_step m p a h d n t e =
      let up_is : 4 * p / 16 ≡ a = omega arith in
      let has : has_grand z mag b a ≡ t = has_grand_is z mag b a (T_false (split_grand z mag (suc b) a) (T_not (split_grand z mag (suc b) a) n)) ∙ e in
      rw (h, up_is, has) (refl, refl, refl)

  mg_mark : (m : Table) (p a : ℕ) → z.e ≤ a → p ≡ 4 * a → p < Q z → StandsG z (sdt p) (sgt p) a → State p p (4 * p) m → m (4 * p) ≡ 6
  unfolding down code
  mg_mark m p a e d l st w =
      let s : 4 * (4 * a) ≡ 4 * p = omega arith in
      rw s at (w.grand 2 a (omega arith) e st (omega arith))

  flip_g : (p a : ℕ) → p ≡ 4 * a → T (split_grand z mag b a) → (y : ℕ) → flip a (sgt p) y ≡ sgt (suc p) y
  flip_g p a d t y = tell (eqb y a) refl
    where
      tell : (r : Bool) → eqb y a ≡ r → cond (eqb y a) true (sgt p y) ≡ sgt (suc p) y
      tell true o =
          let same : y ≡ a = eqb-true y a o in
          rw o (sym (ap (λ (n : ℕ). sgt (suc p) n) same ∙ sgt_in (suc p) a (omega arith) ∙ T_true (split_grand z mag b a) t))
      tell false o =
          let ne : y ≡ a → ⊥ = eqb-false y a o in
          rw o (⊎_elim (λ r. sgt_out p y r ∙ sym (sgt_out (suc p) y (omega (arith, ne)))) (λ r. sgt_in p y r ∙ sym (sgt_in (suc p) y (omega arith))) (order p (4 * y)))

  group_grand : (p a : ℕ) → z.e ≤ a → p ≡ 4 * a → T (split_desc z mag b a) → T (not (split_grand z mag (suc b) a))
      → group z mag neg b p ≡ split_grand z mag b a ∷ (test_desc z mag b p ++ children z mag neg b p)
  unfolding group test_grand
  group_grand p a v d y n =
      let up_is : p / 4 ≡ a = omega arith in
      let even : p % 4 ≡ 0 = omega arith in
      rw (le-leb (D z) p (omega arith), even, up_is, T_true (split_desc z mag b a) y, T_false (split_grand z mag (suc b) a) (T_not (split_grand z mag (suc b) a) n))

  -- ---- a run
  module _ (f : ℕ) (s0 : S0 f) (s1 : S1 f) (s1' : S1 (suc f)) (p : ℕ) (m : Table) (h : 6 * (Q z - p) ≤ suc f) (e : z.e ≤ p) (l : p < Q z) (w : State p p (4 * p) m) where
    -- DESC(p), to be tested
    md0 : StandsD z (sdt p) (sgt p) p → Res (suc f) m (4 * p) (each p (Q z - p) (λ k. group z mag neg b k))
    unfolding group
    md0 st =
        let hg : (k : ℕ) → z.e ≤ k → sgt p k ≡ sgt (suc p) k =
        adv_g p (suc p) (omega arith)
        (λ k u v x. let s : p / 4 ≡ k = omega arith in
        let g : T (split_grand z mag (suc b) k) =
        rw (sgt_out p k v) at (rw s at (or_out (ltb p (D z)) (sgt p (p / 4)) (of_false (ltb p (D z)) (le-ltb p (D z) (omega arith))) st.1)) in
        both (split_grand z mag b k) (split_grand z mag (suc b) k) (grand_shrinks z mag b k g) g) in
        let none : cond (leb (D z) p && eqb (p % 4) 0) (test_grand z mag b (p / 4)) [] ≡ [] =
        quiet_grand p e
        (λ o r. inr (rw (sgt_out p (p / 4) (omega arith)) at (or_out (ltb p (D z)) (sgt p (p / 4)) (of_false (ltb p (D z)) (le-ltb p (D z) o)) st.1))) in
        let st' : StandsD z (sdt p) (sgt (suc p)) p =
        same_desc z (sdt p) (sgt p) (sdt p) (sgt (suc p)) (λ k u. refl) hg p e st in
        let w' : State (suc p) p (4 * p) m =
        same_marks z (sdt p) (sgt p) (sdt p) (sgt (suc p)) (λ k u. refl) hg (λ x. cst (4 * p) x) (λ x. cst (4 * p) x) m (λ x u v. refl) w in
        rw (out_cons p l, none, append_assoc (test_desc z mag b p) (children z mag neg b p) (each (suc p) (Q z - suc p) (λ k. group z mag neg b k)))
        (s1' p m (omega arith) e l st' w')

    -- GRAND(a), to be tested
    mg0 : (a : ℕ) → z.e ≤ a → p ≡ 4 * a → StandsG z (sdt p) (sgt p) a → Res (suc f) m (4 * p) (each p (Q z - p) (λ k. group z mag neg b k))
    mg0 a v d st = tell (split_grand z mag b a) refl
      where
        R : List Bool
        R = each (suc p) (Q z - suc p) (λ k. group z mag neg b k)

        up_is : p / 4 ≡ a
        up_is = omega arith

        yes_d : T (split_desc z mag b a)
        yes_d = rw (sdt_in p a (omega arith)) at st.0

        not_g : T (not (split_grand z mag (suc b) a))
        not_g = rw (sgt_out p a (omega arith)) at st.1

        mark : m (4 * p) ≡ 6
        mark = mg_mark m p a v d l st w

        -- the children of a are not split before
        old_kid : (k : ℕ) → 4 * a ≤ k → k < 4 * a + 4 → T (not (split_desc z mag (suc b) k))
        old_kid k u x = not_T (split_desc z mag (suc b) k) (λ t. T_not (split_grand z mag (suc b) a) not_g (desc_splits z mag (suc b) a k u x t))

        tell : (t : Bool) → split_grand z mag b a ≡ t → Res (suc f) m (4 * p) (each p (Q z - p) (λ k. group z mag neg b k))
        tell true o =
            let y : T (split_grand z mag b a) = of_true (split_grand z mag b a) o in
            let sp = mg_step m p a mark d not_g true o in
            let sixteen : 4 * p ≡ 16 * a = omega arith in
            let w' : State (suc p) p (4 * p) (open_grand z m (4 * p)) =
            same_marks z (sdt p) (flip a (sgt p)) (sdt p) (sgt (suc p)) (λ k u. refl) (λ k u. flip_g p a d y k)
            (λ x. cst (4 * p) x) (λ x. cst (4 * p) x) (open_grand z m (4 * p)) (λ x u t. refl)
            (rw sixteen
            (rw sixteen at (grand_opens z (sdt p) (sgt p) (closed_1 p p (omega arith)) (closed_2 p p (le_refl p)) (λ x. cst (4 * p) x) m a v st w))) in
            let st' : StandsD z (sdt p) (sgt (suc p)) p = (
              rw (sdt_out p p (le_refl p)) (old_kid p (omega arith) (omega arith)),
              T_or_right (ltb p (D z)) (sgt (suc p) (p / 4)) (rw (up_is, sgt_in (suc p) a (omega arith)) y),
            ) in
            let r = s1 p (open_grand z m (4 * p)) h e l st' w' in
            rw (out_cons p l, group_grand p a v d yes_d not_g, o, append_assoc (test_desc z mag b p) (children z mag neg b p) R)
            (res_on f m (open_grand z m (4 * p)) (4 * p) (4 * p) (true ∷ []) (test_desc z mag b p ++ (children z mag neg b p ++ R))
            (omega arith) sp.0 sp.1 sp.2 r)
        tell false o =
            let ng : T (not (split_grand z mag b a)) = of_false (split_grand z mag b a) o in
            let sp = mg_step m p a mark d not_g false o in
            let hd : (k : ℕ) → z.e ≤ k → sdt p k ≡ sdt (p + 4) k =
            adv_d p (p + 4) (omega arith) (λ k u x x'. same_false k (kid_no ng k (omega arith) (omega arith))) in
            let hg : (k : ℕ) → z.e ≤ k → sgt p k ≡ sgt (p + 4) k =
            adv_g p (p + 4) (omega arith) (λ k u x x'. let s : k ≡ a = omega arith in rw s (same_false_g a ng)) in
            let w' : State (p + 4) (p + 4) (4 * (p + 4)) m =
            same_marks z (sdt p) (sgt p) (sdt (p + 4)) (sgt (p + 4)) hd hg (λ x. cst (4 * p) x) (λ x. cst (4 * (p + 4)) x) m
            (λ x u t. adv_c (4 * p) (4 * (p + 4)) x (omega arith) (λ y y'. alone_was p p x y t)) w in
            let at : Spot z (sdt p) (sgt p) (4 * p + 4 ^ 2) =
            after_run z (sdt p) (sgt p) (closed_1 p p (omega arith)) (closed_2 p p (le_refl p)) 2 (4 * p)
            (rw (up_two p a d) (omega arith, v, inr (omega arith, st))) (rw (up_two p a d) (sym (down_two' p a d))) in
            let next : 4 * p + 16 ≡ 4 * (p + 4) = omega arith in
            let at' : Spot z (sdt (p + 4)) (sgt (p + 4)) (4 * (p + 4)) =
            rw next at (same_spot z (sdt p) (sgt p) (sdt (p + 4)) (sgt (p + 4)) hd hg (4 * p + 16) at) in
            let jump : each (suc p) (Q z - suc p) (λ k. group z mag neg b k) ≡ each (p + 4) (Q z - (p + 4)) (λ k. group z mag neg b k) =
            each_jump (suc p) 3 (Q z - suc p) (λ k. group z mag neg b k) (λ k u x x'. quiet ng k (omega arith) (omega arith))
            ∙ each_at (suc p + 3) (p + 4) (Q z - suc p - 3) (Q z - (p + 4)) (λ k. group z mag neg b k) (omega arith) (omega arith) in
            let r = s0 (p + 4) m (omega arith) (omega arith) at' w' in
            rw (out_cons p l, group_grand p a v d yes_d not_g, o, test_desc_no p (omega arith) (rw up_is ng), children_no p (kid_no ng p (omega arith) (omega arith)), jump)
            (res_on f m m (4 * p) (4 * (p + 4)) (false ∷ []) (each (p + 4) (Q z - (p + 4)) (λ k. group z mag neg b k)) (omega arith) sp.0 sp.1 (sp.2 ∙ next) r)
          where
            kid_no : T (not (split_grand z mag b a)) → (k : ℕ) → 4 * a ≤ k → k < 4 * a + 4 → T (not (split_desc z mag b k))
            kid_no ng k u x = not_T (split_desc z mag b k) (λ t. T_not (split_grand z mag b a) ng (desc_splits z mag b a k u x t))

            quiet : T (not (split_grand z mag b a)) → (k : ℕ) → p < k → k < p + 4 → group z mag neg b k ≡ []
            quiet ng k u x =
                let s : k / 4 ≡ a = omega arith in
                group_none k (omega arith) (kid_no ng k (omega arith) (omega arith)) (rw s ng) (λ even. absurd (omega arith))

    -- a run that is none of these
    skip0 : (k : ℕ) (v : ℕ) → z.e ≤ up (suc k) p → p ≡ down (suc k) (up (suc k) p) → T (not (split_grand z mag b (up (suc k) p)))
        → ((y : ℕ) → up (suc k) y ≡ up (suc k) p → T (not (split_desc z mag b (y / 4)))) → m (4 * p) ≡ v → 7 ≤ v → skip v ≡ 4 ^ suc (suc k)
        → Spot z (sdt p) (sgt p) (4 * p + 4 ^ suc (suc k)) → Res (suc f) m (4 * p) (each p (Q z - p) (λ k. group z mag neg b k))
    skip0 k v a d n q mark big_v wide at =
        let W : ℕ = 4 ^ suc k in
        let four_w : 4 ^ suc (suc k) ≡ 4 * 4 ^ suc k = pow-succ' 4 (suc k) in
        let st = run_step m (4 * p) v mark big_v in
        let hd : (y : ℕ) → z.e ≤ y → sdt p y ≡ sdt (p + 4 ^ suc k) y =
        adv_d p (p + 4 ^ suc k) (omega arith) (λ y u x x'. same_false y (all y x x').2) in
        let hg : (y : ℕ) → z.e ≤ y → sgt p y ≡ sgt (p + 4 ^ suc k) y =
        adv_g p (p + 4 ^ suc k) (omega arith)
        (λ y u x x'. let s : 4 * y / 4 ≡ y = omega arith in same_false_g y (rw s at (all (4 * y) x x').1)) in
        let w' : State (p + 4 ^ suc k) (p + 4 ^ suc k) (4 * (p + 4 ^ suc k)) m =
        same_marks z (sdt p) (sgt p) (sdt (p + 4 ^ suc k)) (sgt (p + 4 ^ suc k)) hd hg (λ x. cst (4 * p) x) (λ x. cst (4 * (p + 4 ^ suc k)) x) m
        (λ x u t. adv_c (4 * p) (4 * (p + 4 ^ suc k)) x (omega arith) (λ y y'. alone_was p p x y t)) w in
        let next : 4 * p + 4 ^ suc (suc k) ≡ 4 * (p + 4 ^ suc k) = omega arith in
        let at' : Spot z (sdt (p + 4 ^ suc k)) (sgt (p + 4 ^ suc k)) (4 * (p + 4 ^ suc k)) =
        rw next at (same_spot z (sdt p) (sgt p) (sdt (p + 4 ^ suc k)) (sgt (p + 4 ^ suc k)) hd hg (4 * p + 4 ^ suc (suc k)) at) in
        let jump : each p (Q z - p) (λ k. group z mag neg b k) ≡ each (p + 4 ^ suc k) (Q z - (p + 4 ^ suc k)) (λ k. group z mag neg b k) =
        each_jump p (4 ^ suc k) (Q z - p) (λ k. group z mag neg b k)
        (λ y u x x'. group_none y (all y u x).0 (all y u x).2 (all y u x).1 (λ even. q y (same y u x)))
        ∙ each_at (p + 4 ^ suc k) (p + 4 ^ suc k) (Q z - p - 4 ^ suc k) (Q z - (p + 4 ^ suc k)) (λ k. group z mag neg b k) refl (omega arith) in
        let r = s0 (p + 4 ^ suc k) m (omega (arith, pow4_pos (suc k))) (omega arith) at' w' in
        rw jump
        (res_on f m m (4 * p) (4 * (p + 4 ^ suc k)) [] (each (p + 4 ^ suc k) (Q z - (p + 4 ^ suc k)) (λ k. group z mag neg b k)) (omega arith)
        st.0 st.1 (st.2 ∙ ap (λ (x : ℕ). 4 * p + x) wide ∙ next) r)
      where
        same : (y : ℕ) → p ≤ y → y < p + 4 ^ suc k → up (suc k) y ≡ up (suc k) p
        same y u x = in_run (suc k) (up (suc k) p) y (omega arith) (omega arith)

        all : (y : ℕ) → p ≤ y → y < p + 4 ^ suc k → (D z ≤ y) × T (not (split_grand z mag b (y / 4))) × T (not (split_desc z mag b y))
        all y u x = under_g k y (omega (arith, same y u x)) (rw (same y u x) n)

  code_seven : (t : Bool) (k : ℕ) → 2 ≤ k → (T t → 3 ≤ k) → 7 ≤ code t k
  unfolding code
  code_seven t zero h q = absurd (omega arith)
  code_seven t (suc zero) h q = absurd (omega arith)
  code_seven true (suc (suc zero)) h q = absurd (omega (arith, q tt))
  code_seven false (suc (suc zero)) h q = omega arith
  code_seven t (suc (suc (suc k))) h q = omega (arith, code_far t (suc (suc (suc k))) (omega arith))

  run_mark_d : (m : Table) (p k : ℕ) → z.e ≤ up k p → p ≡ down k (up k p) → p < Q z → StandsD z (sdt p) (sgt p) (up k p) → State p p (4 * p) m
      → m (4 * p) ≡ code false (suc k)
  unfolding down
  run_mark_d m p k v d l st w =
      ap (λ (n : ℕ). m (4 * n)) d ∙ w.desc (suc k) (up k p) (omega arith) v st (omega arith)

  run_mark_g : (m : Table) (p k : ℕ) → 1 ≤ k → z.e ≤ up k p → p ≡ down k (up k p) → p < Q z → StandsG z (sdt p) (sgt p) (up k p) → State p p (4 * p) m
      → m (4 * p) ≡ code true (suc k)
  unfolding down
  run_mark_g m p k u v d l st w =
      ap (λ (n : ℕ). m (4 * n)) d ∙ w.grand (suc k) (up k p) (omega arith) v st (omega arith)

  -- the ways of a run, by its distance
  ways : (f : ℕ) → S0 f → S1 f → S1 (suc f) → (p : ℕ) (m : Table) → 6 * (Q z - p) ≤ suc f → z.e ≤ p → p < Q z → State p p (4 * p) m
      → (k : ℕ) → Cov z (sdt p) (sgt p) (suc k) (up k p) → p ≡ down k (up k p) → Spot z (sdt p) (sgt p) (4 * p + 4 ^ suc k)
      → Res (suc f) m (4 * p) (each p (Q z - p) (λ k. group z mag neg b k))
  unfolding up down
  ways f s0 s1 s1' p m h e l w zero c d at = ⊎_elim (λ st. md0 f s0 s1 s1' p m h e l w st) (λ g. absurd (omega arith)) c.2
  ways f s0 s1 s1' p m h e l w (suc zero) c d at =
      ⊎_elim
      (λ st. let nd : T (not (split_desc z mag b (p / 4))) = rw (sdt_in p (p / 4) (omega arith)) at st.0 in
      skip0 f s0 s1 s1' p m h e l w 0 (code false 2) c.1 d (not_sg z (split_desc z mag b) (split_grand z mag b) (closed1 z mag b) (desc_known z mag b) (p / 4) c.1 nd)
      (λ y o. rw o nd)
      (run_mark_d m p 1 c.1 d l st w)
      (code_seven false 2 (omega arith) (λ t. absurd t)) (skip_code false 2 (omega arith) (λ t. absurd t)) at)
      (λ g. mg0 f s0 s1 s1' p m h e l w (p / 4) c.1 d g.1) c.2
  ways f s0 s1 s1' p m h e l w (suc (suc k)) c d at =
      let low : up k (p / 4 / 4) ≤ p / 4 / 4 = up_le k (p / 4 / 4) in
      ⊎_elim
      (λ st. let nd : T (not (split_desc z mag b (up k (p / 4 / 4)))) = rw (sdt_in p (up k (p / 4 / 4)) (omega arith)) at st.0 in
      let ng : T (not (split_grand z mag b (up k (p / 4 / 4)))) =
      not_sg z (split_desc z mag b) (split_grand z mag b) (closed1 z mag b) (desc_known z mag b) (up k (p / 4 / 4)) c.1 nd in
      skip0 f s0 s1 s1' p m h e l w (suc k) (code false (suc (suc (suc k)))) c.1 d ng
      (λ y o. (under_g k (y / 4) (omega (arith, o, c.1)) (rw o ng)).2)
      (run_mark_d m p (suc (suc k)) c.1 d l st w)
      (code_seven false (suc (suc (suc k))) (omega arith) (λ t. absurd t)) (skip_code false (suc (suc (suc k))) (omega arith) (λ t. absurd t)) at)
      (λ g. let ng : T (not (split_grand z mag b (up k (p / 4 / 4)))) = rw (sgt_in p (up k (p / 4 / 4)) (omega arith)) at g.1.1 in
      skip0 f s0 s1 s1' p m h e l w (suc k) (code true (suc (suc (suc k)))) c.1 d ng
      (λ y o. (under_g k (y / 4) (omega (arith, o, c.1)) (rw o ng)).2)
      (run_mark_g m p (suc (suc k)) (omega arith) c.1 d l g.1 w)
      (code_seven true (suc (suc (suc k))) (omega arith) (λ t. omega arith)) (skip_code true (suc (suc (suc k))) (omega arith) (λ t. omega arith)) at)
      c.2

  up_four : (k p : ℕ) → up (suc k) (4 * p) ≡ up k p
  unfolding up
  up_four k p = ap (λ (n : ℕ). up k n) (omega arith)

  down_four : (k p : ℕ) → 4 * p ≡ down (suc k) (up k p) → p ≡ down k (up k p)
  unfolding down
  down_four k p d = omega arith

  run0 : (f : ℕ) → S0 f → S1 f → S1 (suc f) → (p : ℕ) (m : Table) → 6 * (Q z - p) ≤ suc f → z.e ≤ p → p < Q z → (k : ℕ) → Cov z (sdt p) (sgt p) k (up k (4 * p))
      → 4 * p ≡ down k (up k (4 * p)) → State p p (4 * p) m → Res (suc f) m (4 * p) (each p (Q z - p) (λ k. group z mag neg b k))
  run0 f s0 s1 s1' p m h e l zero c d w = absurd (omega (arith, c.0))
  run0 f s0 s1 s1' p m h e l (suc k) c d w =
      ways f s0 s1 s1' p m h e l w k (rw (up_four k p) at c) (down_four k p (rw (up_four k p) at d))
      (after_run z (sdt p) (sgt p) (closed_1 p p (omega arith)) (closed_2 p p (le_refl p)) (suc k) (4 * p) c d)

  step0 : (f : ℕ) → S0 f → S1 f → S1 (suc f) → S0 (suc f)
  step0 f s0 s1 s1' p m h e sp w =
      ⊎_elim (λ l. done (suc f) p m l w)
      (λ l. ⊎_elim (λ t. alone0 f s0 p m h e l t w) (λ c. run0 f s0 s1 s1' p m h e l c.0 c.1 c.2 w) sp)
      (order (Q z) p)

  -- all three
  all : (f : ℕ) → S0 f × S1 f × S2 f
  all zero = (
    λ p m h e sp w. done 0 p m (omega arith) w,
    λ p m h e l st w. absurd (omega arith),
    λ p c n m h e l y y' g k w. absurd (omega arith),
  )
  all (suc f) =
      let ih = all f in
      (step0 f ih.0 ih.1 (step1 f ih.0 ih.2), step1 f ih.0 ih.2, step2 f ih.0 ih.2)

  -- the coarsest band is passed over
  before : (n p f : ℕ) (m : Table) (o : List Bool) → p + n ≡ z.e → Marks z (split_desc z mag (suc b)) (split_grand z mag (suc b)) (λ x. found z mag b x) m
      → Res f m (4 * z.e) o → Res (n + f) m (4 * p) o
  before zero p f m o h w r =
      rw zero-add (subst (λ (i : ℕ). Res f m i o) (omega arith) r)
  before (suc n) p f m o h w r =
      let e : suc n + f ≡ suc (n + f) = omega arith in
      let next : 4 * p + 4 ≡ 4 * suc p = omega arith in
      let lone : Alone z (split_desc z mag (suc b)) (split_grand z mag (suc b)) (4 * p) =
      T_or (ltb (4 * p) (D z)) (split_desc z mag (suc b) (4 * p / 4)) (lt→ltb (4 * p) (D z) (omega arith)) in
      let st = coef_step m (4 * p) (found z mag b (4 * p)) (w.coef (4 * p) (omega arith) lone) (found_le (4 * p)) in
      rw e (res_on (n + f) m m (4 * p) (4 * suc p) [] o (omega arith) st.0 st.1 (st.2 ∙ next) (before n (suc p) f m o (omega arith) w r))

  -- the set pass
  pub set_pass : (m : Table) → Marks z (split_desc z mag (suc b)) (split_grand z mag (suc b)) (λ x. found z mag b x) m
      → ((go z (set_step z mag neg b) (z.e + 12 * Q z) m 0).0 ≡ each z.e (Q z - z.e) (λ p. group z mag neg b p))
      × Marks z (split_desc z mag b) (split_grand z mag b) (λ x. found z mag b x) (go z (set_step z mag neg b) (z.e + 12 * Q z) m 0).1
  unfolding was
  set_pass m w =
      let start : State z.e z.e (4 * z.e) m =
      same_marks z (split_desc z mag (suc b)) (split_grand z mag (suc b)) (sdt z.e) (sgt z.e)
      (λ y u. sym (sdt_out z.e y u)) (λ y u. sym (sgt_out z.e y (omega arith)))
      (λ x. found z mag b x) (λ x. cst (4 * z.e) x) m (λ x u t. sym (cst_was (4 * z.e) x t)) w in
      let last : Alone z (sdt z.e) (sgt z.e) (4 * z.e - 1) =
      T_or (ltb (4 * z.e - 1) (D z)) (sdt z.e ((4 * z.e - 1) / 4)) (lt→ltb (4 * z.e - 1) (D z) (omega arith)) in
      let at : Spot z (sdt z.e) (sgt z.e) (suc (4 * z.e - 1)) =
      after_alone z (sdt z.e) (sgt z.e) (closed_1 z.e z.e (omega arith)) (closed_2 z.e z.e (le_refl _)) (4 * z.e - 1) last in
      let here : suc (4 * z.e - 1) ≡ 4 * z.e = omega arith in
      let r = (all (12 * Q z)).0 z.e m (omega arith) (le_refl _) (rw here at at) start in
      before z.e 0 (12 * Q z) m (each z.e (Q z - z.e) (λ p. group z mag neg b p)) (omega arith) w r
