-- What the set pass does to the table where a set is split.
use Prim.Native.Nat.{ℕ, zero, suc, ◌+◌, ◌*◌, ◌-◌, ◌^◌, ◌/◌, ◌≤◌, ◌<◌}
use mathlib.Core.Path.{◌≡◌, refl, ap, sym, subst, ◌∙◌}
use mathlib.Core.Bool.{Bool, true, false, not, ◌||◌, cond}
use mathlib.Core.Logic.{inl, inr, ⊎_elim}
use native.Mathlib.Nat.{le_refl, pow-succ', pow-le-pow_right}
use native.Mathlib.Omega.{arith}
use borrow.Author.Tests.{lt-ltb, eqb-true, eqb-false, ne_eqb}
use lib.Dec.{T, ltb, eqb, nltb→le, T_not}
use Rattle.nls.proofs.Counting.Sums.{order}
use Rattle.nls.proofs.Counting.Tree.{Size, D, I}
use Rattle.nls.proofs.Counting.Tiles.{up, down, up_down, up_last, Alone, StandsD, StandsG, Cov, Spot, unique}
use Rattle.nls.proofs.Counting.Steps.{Table, put, push, pushed, open_desc, open_grand, code, code_far, Marks, clash, put_same, put_other}

down_shift : (k w : ℕ) → down k (4 * w) ≡ down (suc k) w
unfolding down
down_shift zero w = refl
down_shift (suc k) w = ap (λ (n : ℕ). 4 * n) (down_shift k w)

pub down_ge : (k w : ℕ) → w ≤ down k w
unfolding down
down_ge zero w = le_refl w
down_ge (suc k) w = omega (arith, down_ge k w)

down_pow : (k w : ℕ) → 1 ≤ w → 4 ^ k ≤ down k w
unfolding down
down_pow zero w h = h
down_pow (suc k) w h = omega (arith, down_pow k w h, pow-succ' 4 k)

-- two of the four children have no place in common below them
kids_apart : (q k k' a a' : ℕ) → 1 ≤ q → 4 * q ≤ a → a < 4 * q + 4 → 4 * q ≤ a' → a' < 4 * q + 4 → down k a ≡ down k' a' → a ≡ a'
unfolding down
kids_apart q zero zero a a' h p r p' r' e = e
kids_apart q zero (suc k') a a' h p r p' r' e = absurd (omega (arith, down_ge k' a'))
kids_apart q (suc k) zero a a' h p r p' r' e = absurd (omega (arith, down_ge k a))
kids_apart q (suc k) (suc k') a a' h p r p' r' e = kids_apart q k k' a a' h p r p' r' (omega arith)

code_two : (n : ℕ) → code false (suc (suc n)) ≡ 7 + n
unfolding code
code_two zero = refl
code_two (suc n) = code_far false (suc (suc (suc n))) (omega arith) ∙ omega arith

down_two : (p : ℕ) → down 2 p ≡ 4 * (4 * p)
unfolding down
down_two p = refl

down_far : (n p : ℕ) → 64 * p ≤ down (suc (suc (suc n))) p
unfolding down
down_far n p = omega (arith, down_ge n p)

code_mg : code true 2 ≡ 6
unfolding code
code_mg = refl

one_of_four : (s t u v : Bool) (n : ℕ) → (s ≡ false → t ≡ false → u ≡ false → v ≡ false → ⊥) → cond s 4 (cond t 4 (cond u 4 (cond v 4 n))) ≡ 4
one_of_four true t u v n h = refl
one_of_four false true u v n h = refl
one_of_four false false true v n h = refl
one_of_four false false false true n h = refl
one_of_four false false false false n h = absurd (h refl refl refl refl)

module _ (z : Size) where
  push_miss : (f c w : ℕ) (m : Table) (y : ℕ) → ((k : ℕ) → y ≡ down k w → ⊥) → push z f c w m y ≡ m y
  unfolding push
  push_miss zero c w m y h = refl
  push_miss (suc f) c w m y h = tell (ltb w (I z)) (push_miss f (suc c) (4 * w) (put m w c) y (λ k e. h (suc k) (e ∙ down_shift k w)))
    where
      base : y ≡ w → ⊥
      base e = h 0 (unfold down in e)

      tell : (t : Bool) → push z f (suc c) (4 * w) (put m w c) y ≡ put m w c y
          → cond t (push z f (suc c) (4 * w) (put m w c)) m y ≡ m y
      tell true r = r ∙ put_other m w c y base
      tell false r = refl

  push_hit : (k f c w : ℕ) (m : Table) → 1 ≤ w → k < f → down k w < I z → push z f c w m (down k w) ≡ c + k
  unfolding push down
  push_hit k zero c w m h p q = absurd (omega arith)
  push_hit zero (suc f) c w m h p q =
      let t : ltb w (I z) ≡ true = lt-ltb w (I z) q in
      rw t
      (push_miss f (suc c) (4 * w) (put m w c) w (λ k e. omega (arith, down_ge k (4 * w)))
      ∙ put_same m w c ∙ omega arith)
  push_hit (suc k) (suc f) c w m h p q =
      let t : ltb w (I z) ≡ true = lt-ltb w (I z) (omega (arith, down_ge k w)) in
      let s : down k (4 * w) ≡ 4 * down k w = down_shift k w in
      let r : push z f (suc c) (4 * w) (put m w c) (down k (4 * w)) ≡ suc c + k =
      push_hit k f (suc c) (4 * w) (put m w c) (omega arith) (omega arith) (omega arith) in
      rw t ((rw s at r) ∙ omega arith)

  two_down : (n a : ℕ) → down n (4 * (4 * a)) ≡ down (suc (suc n)) a
  two_down n a = down_shift n (4 * a) ∙ down_shift (suc n) a

  shallow : (n w : ℕ) → 1 ≤ w → down n w < I z → n < z.deep
  shallow n w h q =
      ⊎_elim
      (λ l. absurd (omega (arith, down_pow n w h, z.high, pow-le-pow_right {n = 4} (omega arith) {i = z.deep} {j = n} l)))
      (λ l. l) (order z.deep n)

  pub pushed_hit : (m : Table) (a k : ℕ) → 1 ≤ a → 1 ≤ k → down k a < I z → pushed z m (4 * a) (down k a) ≡ code false k
  unfolding pushed down code
  pushed_hit m a zero h p q = absurd (omega arith)
  pushed_hit m a (suc zero) h p q =
      push_miss z.deep 7 (4 * (4 * a)) (put m (4 * a) 5) (4 * a) (λ k e. omega (arith, down_ge k (4 * (4 * a)))) ∙ put_same m (4 * a) 5
  pushed_hit m a (suc (suc n)) h p q =
      let s : down n (4 * (4 * a)) ≡ 4 * (4 * down n a) = two_down n a in
      let r : push z z.deep 7 (4 * (4 * a)) (put m (4 * a) 5) (down n (4 * (4 * a))) ≡ 7 + n =
      push_hit n z.deep 7 (4 * (4 * a)) (put m (4 * a) 5) (omega arith) (shallow n (4 * (4 * a)) (omega arith) (omega arith)) (omega arith) in
      (rw s at r) ∙ sym (code_two n)

  pub pushed_miss : (m : Table) (a y : ℕ) → ((k : ℕ) → 1 ≤ k → y ≡ down k a → ⊥) → pushed z m (4 * a) y ≡ m y
  unfolding pushed down
  pushed_miss m a y h =
      push_miss z.deep 7 (4 * (4 * a)) (put m (4 * a) 5) y (λ k e. h (suc (suc k)) (omega arith) (e ∙ two_down k a))
      ∙ put_other m (4 * a) 5 y (h 1 (omega arith))

  -- the first n children of q
  kids : ℕ → Table → ℕ → Table
  kids zero m q = m
  kids (suc n) m q = pushed z (kids n m q) (4 * (4 * q + n))

  kids_hit : (n : ℕ) (m : Table) (q c k : ℕ) → n ≤ 4 → 1 ≤ q → c < n → 1 ≤ k → down k (4 * q + c) < I z
      → kids n m q (down k (4 * q + c)) ≡ code false k
  unfolding kids
  kids_hit zero m q c k l h p r u = absurd (omega arith)
  kids_hit (suc n) m q c k l h p r u = tell (λ v. kids_hit n m q c k (omega arith) h v r u) (eqb c n) refl
    where
      tell : (c < n → kids n m q (down k (4 * q + c)) ≡ code false k) → (t : Bool) → eqb c n ≡ t → pushed z (kids n m q) (4 * (4 * q + n)) (down k (4 * q + c)) ≡ code false k
      tell ih true e = let s : c ≡ n = eqb-true c n e in rw (← s) (pushed_hit (kids c m q) (4 * q + c) k (omega arith) r u)
      tell ih false e =
          let ne : c ≡ n → ⊥ = eqb-false c n e in
          pushed_miss (kids n m q) (4 * q + n) (down k (4 * q + c))
          (λ k' r' e'. ne (omega (arith, kids_apart q k k' (4 * q + c) (4 * q + n) h (omega arith) (omega arith) (omega arith) (omega arith) e')))
          ∙ ih (omega (arith, ne))

  kids_miss : (n : ℕ) (m : Table) (q y : ℕ) → n ≤ 4 → ((c k : ℕ) → c < 4 → 1 ≤ k → y ≡ down k (4 * q + c) → ⊥) → kids n m q y ≡ m y
  unfolding kids
  kids_miss zero m q y l h = refl
  kids_miss (suc n) m q y l h =
      pushed_miss (kids n m q) (4 * q + n) y (λ k r e. h n k (omega arith) r e) ∙ kids_miss n m q y (omega arith) h

  opened : (m : Table) (q : ℕ) → open_grand z m (16 * q) ≡ kids 4 m q
  unfolding open_grand kids
  opened m q =
      let e0 : 16 * q ≡ 4 * (4 * q + 0) = omega arith in
      let e1 : 16 * q + 4 ≡ 4 * (4 * q + 1) = omega arith in
      let e2 : 16 * q + 8 ≡ 4 * (4 * q + 2) = omega arith in
      let e3 : 16 * q + 12 ≡ 4 * (4 * q + 3) = omega arith in
      rw (e3, e2, e1, e0)

-- one set more is split
abbrev pub flip : ℕ → (ℕ → Bool) → ℕ → Bool
flip q s y = cond (eqb y q) true (s y)

-- GRAND(q) is split, or DESC(p)
module _ (z : Size) (sd sg : ℕ → Bool)
    (c1 : (q : ℕ) → z.e ≤ q → T (sg q) → T (sd q)) (c2 : (p : ℕ) → T (sd p) → T (ltb p (D z) || sg (p / 4))) where
  -- a place below a child of q is covered by GRAND(q)
  by_grand : (q c k x : ℕ) → z.e ≤ q → StandsG z sd sg q → c < 4 → 1 ≤ k → x ≡ down k (4 * q + c) → (up (suc k) x ≡ q) × Cov z sd sg (suc k) (up (suc k) x)
  by_grand q c k x h s l p e =
      let u : up k x ≡ 4 * q + c = ap (λ (n : ℕ). up k n) e ∙ up_down k (4 * q + c) in
      let v : up (suc k) x ≡ q = up_last k x ∙ omega arith in
      (v, rw v (omega arith, h, inr (omega arith, s)))

  one_set : (q c k k' a : ℕ) → z.e ≤ q → StandsG z sd sg q → c < 4 → 1 ≤ k' → down k a ≡ down k' (4 * q + c)
      → Cov z sd sg k (up k (down k a)) → a ≡ q
  one_set q c k k' a h s l p e cv =
      let g = by_grand q c k' (down k a) h s l p e in
      let same : k ≡ suc k' = unique z sd sg c1 c2 k (suc k') (down k a) cv g.1 in
      sym (up_down k a) ∙ ap (λ (n : ℕ). up n (down k a)) same ∙ g.0

  pub grand_opens : (cs : ℕ → ℕ) (m : Table) (q : ℕ) → z.e ≤ q → StandsG z sd sg q → Marks z sd sg cs m
      → Marks z sd (flip q sg) cs (open_grand z m (16 * q))
  grand_opens cs m q h s w = rw (opened z m q) (record { coef = coef; desc = desc; grand = grand })
    where
      coef : (x : ℕ) → x < I z → Alone z sd (flip q sg) x → kids z 4 m q x ≡ cs x
      coef x u t =
          kids_miss z 4 m q x (omega arith) (λ c k l p e. clash z sd sg c1 c2 (suc k) x (by_grand q c k x h s l p e).1 t)
          ∙ w.coef x u t

      grand : (k a : ℕ) → 2 ≤ k → z.e ≤ a → StandsG z sd (flip q sg) a → down k a < I z → kids z 4 m q (down k a) ≡ code true k
      grand k a p v t u = tell (eqb a q) refl
        where
          tell : (r : Bool) → eqb a q ≡ r → kids z 4 m q (down k a) ≡ code true k
          tell true e = absurd (rw e at t.1)
          tell false e =
              let st : StandsG z sd sg a = (t.0, rw e at t.1) in
              let cv : Cov z sd sg k (up k (down k a)) = rw (up_down k a) (omega arith, v, inr (p, st)) in
              kids_miss z 4 m q (down k a) (omega arith) (λ c k' l p' e'. eqb-false a q e (one_set q c k k' a h s l p' e' cv))
              ∙ w.grand k a p v st u

      desc : (k a : ℕ) → 1 ≤ k → z.e ≤ a → StandsD z sd (flip q sg) a → down k a < I z → kids z 4 m q (down k a) ≡ code false k
      desc k a p v t u = tell (eqb (a / 4) q) refl
        where
          tell : (r : Bool) → eqb (a / 4) q ≡ r → kids z 4 m q (down k a) ≡ code false k
          tell true e =
              let up_is : a / 4 ≡ q = eqb-true (a / 4) q e in
              let back : 4 * q + (a - 4 * q) ≡ a = omega arith in
              subst (λ (n : ℕ). down k n < I z → kids z 4 m q (down k n) ≡ code false k) back
              (λ o. kids_hit z 4 m q (a - 4 * q) k (omega arith) (omega arith) (omega arith) p o) u
          tell false e =
              let st : StandsD z sd sg a = (t.0, rw e at t.1) in
              let cv : Cov z sd sg k (up k (down k a)) = rw (up_down k a) (p, v, inl st) in
              kids_miss z 4 m q (down k a) (omega arith)
              (λ c k' l p' e'. T_not (sd a) t.0 (rw (one_set q c k k' a h s l p' e' cv) s.0))
              ∙ w.desc k a p v st u

  -- ---- DESC(p) is split
  four : Table → ℕ → Table
  four m p = put (put (put (put m (4 * p) 4) (4 * p + 1) 4) (4 * p + 2) 4) (4 * p + 3) 4

  four_hit : (m : Table) (p y : ℕ) → y / 4 ≡ p → four m p y ≡ 4
  unfolding four
  four_hit m p y e =
      one_of_four (eqb y (4 * p + 3)) (eqb y (4 * p + 2)) (eqb y (4 * p + 1)) (eqb y (4 * p)) (m y)
      (λ a b c d. omega (arith, eqb-false y (4 * p + 3) a, eqb-false y (4 * p + 2) b, eqb-false y (4 * p + 1) c, eqb-false y (4 * p) d))

  four_miss : (m : Table) (p y : ℕ) → (y / 4 ≡ p → ⊥) → four m p y ≡ m y
  unfolding four
  four_miss m p y h =
      rw (
        ne_eqb y (4 * p + 3) (λ e. h (omega arith)),
        ne_eqb y (4 * p + 2) (λ e. h (omega arith)),
        ne_eqb y (4 * p + 1) (λ e. h (omega arith)),
        ne_eqb y (4 * p) (λ e. h (omega arith)),
      )

  opened_desc : (m : Table) (p : ℕ) → open_desc z m (4 * p) ≡ cond (ltb (4 * (4 * p)) (I z)) (put (four m p) (4 * (4 * p)) 6) (four m p)
  unfolding open_desc four
  opened_desc m p = refl

  kid : (m : Table) (p y : ℕ) → 1 ≤ p → y / 4 ≡ p → open_desc z m (4 * p) y ≡ 4
  kid m p y h e = rw (opened_desc m p) (tell (ltb (4 * (4 * p)) (I z)))
    where
      tell : (t : Bool) → cond t (put (four m p) (4 * (4 * p)) 6) (four m p) y ≡ 4
      tell true = put_other (four m p) (4 * (4 * p)) 6 y (λ o. omega arith) ∙ four_hit m p y e
      tell false = four_hit m p y e

  grandkid : (m : Table) (p : ℕ) → 4 * (4 * p) < I z → open_desc z m (4 * p) (4 * (4 * p)) ≡ 6
  grandkid m p u = rw (opened_desc m p, lt-ltb (4 * (4 * p)) (I z) u) (put_same (four m p) (4 * (4 * p)) 6)

  untouched : (m : Table) (p y : ℕ) → (y / 4 ≡ p → ⊥) → (y ≡ 4 * (4 * p) → ⊥) → open_desc z m (4 * p) y ≡ m y
  untouched m p y h k = rw (opened_desc m p) (tell (ltb (4 * (4 * p)) (I z)))
    where
      tell : (t : Bool) → cond t (put (four m p) (4 * (4 * p)) 6) (four m p) y ≡ m y
      tell true = put_other (four m p) (4 * (4 * p)) 6 y k ∙ four_miss m p y h
      tell false = four_miss m p y h

  pub desc_opens : (cs : ℕ → ℕ) (m : Table) (p : ℕ) → z.e ≤ p → StandsD z sd sg p → Marks z sd sg cs m
      → Marks z (flip p sd) sg (λ x. cond (eqb (x / 4) p) 4 (cs x)) (open_desc z m (4 * p))
  desc_opens cs m p h s w = record { coef = coef; desc = desc; grand = grand }
    where
      -- the children and the grandchildren of p are covered by DESC(p)
      cov_kid : (x : ℕ) → x / 4 ≡ p → Cov z sd sg 1 (up 1 x)
      cov_kid x e = let u : up 1 x ≡ p = unfold up in e in rw u (omega arith, h, inl s)

      cov_grandkid : (x : ℕ) → x ≡ 4 * (4 * p) → Cov z sd sg 2 (up 2 x)
      cov_grandkid x e = let u : up 2 x ≡ p = unfold up in (omega arith) in rw u (omega arith, h, inl s)

      one_one : (k a : ℕ) → Cov z sd sg k (up k (down k a)) → down k a / 4 ≡ p → (k ≡ 1) × (a ≡ p)
      one_one k a cv e =
          let same : k ≡ 1 = unique z sd sg c1 c2 k 1 (down k a) cv (cov_kid (down k a) e) in
          let u : up 1 (down k a) ≡ p = unfold up in e in
          (same, sym (up_down k a) ∙ ap (λ (n : ℕ). up n (down k a)) same ∙ u)

      one_two : (k a : ℕ) → Cov z sd sg k (up k (down k a)) → down k a ≡ 4 * (4 * p) → (k ≡ 2) × (a ≡ p)
      one_two k a cv e =
          let same : k ≡ 2 = unique z sd sg c1 c2 k 2 (down k a) cv (cov_grandkid (down k a) e) in
          let u : up 2 (down k a) ≡ p = unfold up in (omega arith) in
          (same, sym (up_down k a) ∙ ap (λ (n : ℕ). up n (down k a)) same ∙ u)

      coef : (x : ℕ) → x < I z → Alone z (flip p sd) sg x → open_desc z m (4 * p) x ≡ cond (eqb (x / 4) p) 4 (cs x)
      coef x u t = tell (eqb (x / 4) p) refl
        where
          tell : (r : Bool) → eqb (x / 4) p ≡ r → open_desc z m (4 * p) x ≡ cond (eqb (x / 4) p) 4 (cs x)
          tell true e = rw e (kid m p x (omega arith) (eqb-true (x / 4) p e))
          tell false e =
              let old : Alone z sd sg x = rw e at t in
              rw e
              (untouched m p x (eqb-false (x / 4) p e) (λ o. clash z sd sg c1 c2 2 x (cov_grandkid x o) old)
              ∙ w.coef x u old)

      desc : (k a : ℕ) → 1 ≤ k → z.e ≤ a → StandsD z (flip p sd) sg a → down k a < I z → open_desc z m (4 * p) (down k a) ≡ code false k
      desc k a l v t u = tell (eqb a p) refl
        where
          tell : (r : Bool) → eqb a p ≡ r → open_desc z m (4 * p) (down k a) ≡ code false k
          tell true e = absurd (rw e at t.0)
          tell false e =
              let st : StandsD z sd sg a = (rw e at t.0, t.1) in
              let cv : Cov z sd sg k (up k (down k a)) = rw (up_down k a) (l, v, inl st) in
              untouched m p (down k a) (λ o. eqb-false a p e (one_one k a cv o).1) (λ o. eqb-false a p e (one_two k a cv o).1)
              ∙ w.desc k a l v st u

      grand : (k a : ℕ) → 2 ≤ k → z.e ≤ a → StandsG z (flip p sd) sg a → down k a < I z → open_desc z m (4 * p) (down k a) ≡ code true k
      grand k a l v t u = tell (eqb a p) refl
        where
          far : (k : ℕ) → 2 ≤ k → down k p < I z → open_desc z m (4 * p) (down k p) ≡ code true k
          far zero l u = absurd (omega arith)
          far (suc zero) l u = absurd (omega arith)
          far (suc (suc zero)) l u = rw (down_two p, code_mg) (grandkid m p (rw (down_two p) at u))
          far (suc (suc (suc n))) l u =
              untouched m p (down (suc (suc (suc n))) p) (λ o. omega (arith, down_far n p)) (λ o. omega (arith, down_far n p))
              ∙ w.desc (suc (suc (suc n))) p (omega arith) h s u
              ∙ code_far false (suc (suc (suc n))) (omega arith) ∙ sym (code_far true (suc (suc (suc n))) (omega arith))

          tell : (r : Bool) → eqb a p ≡ r → open_desc z m (4 * p) (down k a) ≡ code true k
          tell true e = let same : a ≡ p = eqb-true a p e in subst (λ (n : ℕ). down k n < I z → open_desc z m (4 * p) (down k n) ≡ code true k) (sym same) (far k l) u
          tell false e =
              let st : StandsG z sd sg a = (rw e at t.0, t.1) in
              let cv : Cov z sd sg k (up k (down k a)) = rw (up_down k a) (omega arith, v, inr (l, st)) in
              untouched m p (down k a) (λ o. eqb-false a p e (one_one k a cv o).1) (λ o. eqb-false a p e (one_two k a cv o).1)
              ∙ w.grand k a l v st u

-- tables and spots, where what is split is told in another way
module _ (z : Size) (sd sg sd' sg' : ℕ → Bool) (hd : (y : ℕ) → z.e ≤ y → sd y ≡ sd' y) (hg : (y : ℕ) → z.e ≤ y → sg y ≡ sg' y) where
  same_or : (s t t' : Bool) → (T (not s) → t ≡ t') → T (s || t) → T (s || t')
  same_or true t t' h k = tt
  same_or false t t' h k = rw (h tt) at k

  same_alone : (x : ℕ) → Alone z sd sg x → Alone z sd' sg' x
  same_alone x t = same_or (ltb x (D z)) (sd (x / 4)) (sd' (x / 4)) (λ o. let l : D z ≤ x = nltb→le x (D z) o in hd (x / 4) (omega arith)) t

  pub same_desc : (a : ℕ) → z.e ≤ a → StandsD z sd sg a → StandsD z sd' sg' a
  same_desc a h s = (
    rw (hd a h) at s.0,
    same_or (ltb a (D z)) (sg (a / 4)) (sg' (a / 4)) (λ o. let l : D z ≤ a = nltb→le a (D z) o in hg (a / 4) (omega arith)) s.1,
  )

  same_grand : (a : ℕ) → z.e ≤ a → StandsG z sd sg a → StandsG z sd' sg' a
  same_grand a h s = (rw (hd a h) at s.0, rw (hg a h) at s.1)

  pub same_spot : (x : ℕ) → Spot z sd sg x → Spot z sd' sg' x
  same_spot x s =
      ⊎_elim (λ t. inl (same_alone x t))
      (λ c. inr (c.0, (c.1.0, c.1.1, ⊎_elim (λ d. inl (same_desc (up c.0 x) c.1.1 d)) (λ g. inr (g.0, same_grand (up c.0 x) c.1.1 g.1)) c.1.2), c.2))
      s

pub same_marks : (z : Size) (sd sg sd' sg' : ℕ → Bool) (hd : (y : ℕ) → z.e ≤ y → sd y ≡ sd' y) (hg : (y : ℕ) → z.e ≤ y → sg y ≡ sg' y)
    (cs cs' : ℕ → ℕ) (m : Table) → ((x : ℕ) → x < I z → Alone z sd sg x → cs x ≡ cs' x) → Marks z sd sg cs m → Marks z sd' sg' cs' m
same_marks z sd sg sd' sg' hd hg cs cs' m h w =
    record {
      coef = λ x u t. let old : Alone z sd sg x = same_alone z sd' sg' sd sg hd' hg' x t in w.coef x u old ∙ h x u old;
      desc = λ k a l v s u. w.desc k a l v (same_desc z sd' sg' sd sg hd' hg' a v s) u;
      grand = λ k a l v s u. w.grand k a l v (same_grand z sd' sg' sd sg hd' hg' a v s) u;
    }
  where
    hd' : (y : ℕ) → z.e ≤ y → sd' y ≡ sd y
    hd' y l = sym (hd y l)

    hg' : (y : ℕ) → z.e ≤ y → sg' y ≡ sg y
    hg' y l = sym (hg y l)
