-- The scan with a table of marks (document 01, "Marks" and "The three passes"), and a scan that goes over a table at rest.
use Prim.Native.Nat.{ℕ, zero, suc, ◌+◌, ◌*◌, ◌-◌, ◌^◌, ◌/◌, ◌≤◌, ◌<◌}
use mathlib.Core.Path.{◌≡◌, refl, ap, sym, subst, ◌∙◌}
use mathlib.Core.Bool.{Bool, true, false, ◌&&◌, ◌||◌, cond}
use mathlib.Core.List.{List, [], ◌∷◌, ◌++◌}
use mathlib.Core.Logic.{inl, inr, ⊎_elim}
use native.Mathlib.Nat.{le_refl}
use native.Mathlib.Omega.{arith}
use borrow.Author.Tests.{lt-ltb, le-ltb, eqb-true, eqb-false, le-leb, lt-leb, eq-eqb, ne_eqb}
use lib.Dec.{T, ltb, leb, eqb, ltb→lt, T_not}
use Rattle.bits.specs.Bits.{bit}
use Rattle.nls.proofs.Counting.Sums.{each, each_at, each_cons, each_none, each_jump, order}
use Rattle.nls.proofs.Counting.Tree.{Size, D, I}
use Rattle.nls.proofs.Counting.Parts.{coded}
use Rattle.nls.proofs.Counting.Summary.{has_desc, has_grand}
use Rattle.nls.proofs.Counting.Tiles.{up, down, up_down, in_run, pow4_pos, Alone, StandsD, StandsG, Cov, Spot, covered, after_alone, after_run}

-- a table of marks: 1 MIP, 2 MNP, 3 MSP, 4 MCP, 5 MD, 6 MG, k + 5 MNk
abbrev pub Table : Type 0
Table = ℕ → ℕ

abbrev pub put : Table → ℕ → ℕ → Table
put m x v = λ y. cond (eqb y x) v (m y)

-- the bits that a step writes, the table and the place after it
abbrev pub Step : Type 0
Step = (List Bool) × Table × ℕ

-- skips, but for the set pass at 1, 2 and 3
unfoldable pub skip : ℕ → ℕ
skip c = cond (leb c 4) 1 (cond (eqb c 5) 4 (cond (eqb c 6) 16 (4 ^ (c - 5))))

-- steps until the end of the table
unfoldable pub go : Size → (Table → ℕ → Step) → ℕ → Table → ℕ → (List Bool) × Table
go z s zero m i = ([], m)
go z s (suc f) m i =
    cond (leb (I z) i) ([], m)
    ((s m i).0 ++ (go z s f (s m i).1 (s m i).2).0, (go z s f (s m i).1 (s m i).2).1)

module _ (z : Size) where
  -- 4 i, 16 i, .. become MN2, MN3, ..: from place w on, with code c
  unfoldable pub push : ℕ → ℕ → ℕ → Table → Table
  push zero c w m = m
  push (suc f) c w m = cond (ltb w (I z)) (push f (suc c) (4 * w) (put m w c)) m

  unfoldable pub open_desc : Table → ℕ → Table
  open_desc m i =
      cond (ltb (4 * i) (I z)) (put (put (put (put (put m i 4) (i + 1) 4) (i + 2) 4) (i + 3) 4) (4 * i) 6)
      (put (put (put (put m i 4) (i + 1) 4) (i + 2) 4) (i + 3) 4)

  unfoldable pub pushed : Table → ℕ → Table
  pushed m i = push z.deep 7 (4 * i) (put m i 5)

  unfoldable pub open_grand : Table → ℕ → Table
  open_grand m i = pushed (pushed (pushed (pushed m i) (i + 4)) (i + 8)) (i + 12)

unfoldable pub pixel_step : (ℕ → ℕ) → (ℕ → Bool) → ℕ → Table → ℕ → Step
pixel_step mag neg b m i =
    cond (eqb (m i) 1) (coded mag neg b i, cond (bit (mag i) b) (put m i 2) m, suc i) ([], m, i + skip (m i))

unfoldable pub refine_step : (ℕ → ℕ) → ℕ → Table → ℕ → Step
refine_step mag b m i =
    cond (eqb (m i) 3) (bit (mag i) b ∷ [], m, suc i)
    (cond (eqb (m i) 2) ([], put m i 3, suc i) ([], m, i + skip (m i)))

module _ (z : Size) (mag : ℕ → ℕ) (neg : ℕ → Bool) (b : ℕ) where
  unfoldable pub set_step : Table → ℕ → Step
  set_step m i =
      cond (eqb (m i) 5)
      (has_desc z mag b (i / 4) ∷ [], cond (has_desc z mag b (i / 4)) (open_desc z m i) m, cond (has_desc z mag b (i / 4)) i (i + 4))
      (cond (eqb (m i) 6)
      (has_grand z mag b (i / 16) ∷ [], cond (has_grand z mag b (i / 16)) (open_grand z m i) m, cond (has_grand z mag b (i / 16)) i (i + 16))
      (cond (eqb (m i) 4) (coded mag neg b i, put m i (cond (bit (mag i) b) 2 1), suc i)
      ([], m, i + cond (leb (m i) 3) 4 (skip (m i)))))

-- the mark of a set, k steps down: of DESC, and of GRAND
unfoldable pub code : Bool → ℕ → ℕ
code s k = cond (eqb k 1) 5 (cond (s && eqb k 2) 6 (k + 5))

pub code_far : (s : Bool) (k : ℕ) → 3 ≤ k → code s k ≡ k + 5
unfolding code
code_far true k h = rw (ne_eqb k 1 (omega arith), ne_eqb k 2 (omega arith))
code_far false k h = rw (ne_eqb k 1 (omega arith))

skip_far : (c : ℕ) → 7 ≤ c → skip c ≡ 4 ^ (c - 5)
unfolding skip
skip_far c h = rw (lt-leb c 4 (omega arith), ne_eqb c 5 (omega arith), ne_eqb c 6 (omega arith))

pub skip_code : (s : Bool) (k : ℕ) → 1 ≤ k → (T s → 2 ≤ k) → skip (code s k) ≡ 4 ^ k
unfolding skip code
skip_code s zero p q = absurd (omega arith)
skip_code false (suc zero) p q = refl
skip_code true (suc zero) p q = absurd (omega (arith, q tt))
skip_code false (suc (suc zero)) p q = refl
skip_code true (suc (suc zero)) p q = refl
skip_code s (suc (suc (suc k))) p q =
    ap skip (code_far s (suc (suc (suc k))) (omega arith)) ∙ skip_far (suc (suc (suc k)) + 5) (omega arith)
    ∙ ap (λ (n : ℕ). 4 ^ n) (omega arith)

pub code_high : (s : Bool) (k : ℕ) → 1 ≤ k → 5 ≤ code s k
unfolding code
code_high s zero p = absurd (omega arith)
code_high s (suc zero) p = omega arith
code_high true (suc (suc zero)) p = omega arith
code_high false (suc (suc zero)) p = omega arith
code_high s (suc (suc (suc k))) p = omega (arith, code_far s (suc (suc (suc k))) (omega arith))

-- What a table holds while `sd` and `sg` say what is split, and `cs` the mark of each coefficient that stands alone.
pub record Marks (z : Size) (sd sg : ℕ → Bool) (cs : ℕ → ℕ) (m : Table) : Type 0 where
  pub coef : (x : ℕ) → x < I z → Alone z sd sg x → m x ≡ cs x
  pub desc : (k a : ℕ) → 1 ≤ k → z.e ≤ a → StandsD z sd sg a → down k a < I z → m (down k a) ≡ code false k
  pub grand : (k a : ℕ) → 2 ≤ k → z.e ≤ a → StandsG z sd sg a → down k a < I z → m (down k a) ≡ code true k

pub put_same : (m : Table) (x v : ℕ) → put m x v x ≡ v
put_same m x v = rw (eq-eqb x x refl)

pub put_other : (m : Table) (x v y : ℕ) → (y ≡ x → ⊥) → put m x v y ≡ m y
put_other m x v y h = rw (ne_eqb y x h)

-- the marks of the coefficients when a scan is at i
abbrev pub halfway : (ℕ → ℕ) → (ℕ → ℕ) → ℕ → ℕ → ℕ
halfway new old i x = cond (ltb x i) (new x) (old x)

later : (new old : ℕ → ℕ) (i y : ℕ) → cond (eqb y i) (new i) (halfway new old i y) ≡ halfway new old (suc i) y
later new old i y = tell (eqb y i) refl
  where
    tell : (t : Bool) → eqb y i ≡ t → cond (eqb y i) (new i) (cond (ltb y i) (new y) (old y)) ≡ cond (ltb y (suc i)) (new y) (old y)
    tell true e =
        let same : y ≡ i = eqb-true y i e in
        rw (e, lt-ltb y (suc i) (omega arith), same)
    tell false e =
        let ne : y ≡ i → ⊥ = eqb-false y i e in
        rw e
        (⊎_elim (λ l. rw (le-ltb y i l, le-ltb y (suc i) (omega (arith, ne)))) (λ l. rw (lt-ltb y i l, lt-ltb y (suc i) (omega arith))) (order i y))

pub go_over : (z : Size) (s : Table → ℕ → Step) (f : ℕ) (m : Table) (i : ℕ) → I z ≤ i → go z s f m i ≡ ([], m)
unfolding go
go_over z s zero m i h = refl
go_over z s (suc f) m i h = let t : leb (I z) i ≡ true = le-leb (I z) i h in rw t

pub go_on : (z : Size) (s : Table → ℕ → Step) (f : ℕ) (m : Table) (i : ℕ) (o : List Bool) (m' : Table) (i' : ℕ) → i < I z
    → (s m i).0 ≡ o → (s m i).1 ≡ m' → (s m i).2 ≡ i'
    → go z s (suc f) m i ≡ (o ++ (go z s f m' i').0, (go z s f m' i').1)
unfolding go
go_on z s f m i o m' i' h p q r =
    let t : leb (I z) i ≡ false = lt-leb (I z) i h in
    rw (t, p, q, r)

module _ (z : Size) (sd sg : ℕ → Bool)
    (c1 : (q : ℕ) → z.e ≤ q → T (sg q) → T (sd q)) (c2 : (p : ℕ) → T (sd p) → T (ltb p (D z) || sg (p / 4))) where
  -- a coefficient's place is in no run
  pub clash : (k x : ℕ) → Cov z sd sg k (up k x) → Alone z sd sg x → ⊥
  clash k x c t =
      let o = covered z sd sg c1 c2 k x c in
      out (ltb x (D z)) (sd (x / 4)) (λ u. let l : x < D z = ltb→lt x (D z) u in omega (arith, o.0)) (T_not (sd (x / 4)) o.1) t
    where
      out : (s t : Bool) → (T s → ⊥) → (T t → ⊥) → T (s || t) → ⊥
      out true t p q r = p tt
      out false t p q r = q r

  pub apart : (k a x : ℕ) → Cov z sd sg k a → Alone z sd sg x → down k a ≡ x → ⊥
  apart k a x c t e =
      let c' : Cov z sd sg k (up k (down k a)) = rw (up_down k a) c in
      clash k x (subst (λ (n : ℕ). Cov z sd sg k (up k n)) e c') t

  -- all of a run is covered as its first place is
  pub inside : (k i x : ℕ) → Cov z sd sg k (up k i) → i ≡ down k (up k i) → i ≤ x → x < i + 4 ^ k → Cov z sd sg k (up k x)
  inside k i x c e u v = let s : up k x ≡ up k i = in_run k (up k i) x (omega arith) (omega arith) in rw s c

  -- a new mark for one coefficient, and marks that are the same where it matters
  pub remark : (cs : ℕ → ℕ) (m m' : Table) (x v : ℕ) → Alone z sd sg x → ((y : ℕ) → m' y ≡ cond (eqb y x) v (m y))
      → Marks z sd sg cs m → Marks z sd sg (λ y. cond (eqb y x) v (cs y)) m'
  remark cs m m' x v t h k =
      record {
        coef = λ y u w. h y ∙ ap (λ (n : ℕ). cond (eqb y x) v n) (k.coef y u w);
        desc = λ n a p q s u. h (down n a) ∙ put_other m x v (down n a) (apart n a x (p, q, inl s) t) ∙ k.desc n a p q s u;
        grand = λ n a p q s u. h (down n a) ∙ put_other m x v (down n a) (apart n a x (omega arith, q, inr (p, s)) t) ∙ k.grand n a p q s u;
      }

  pub retell : (cs cs' : ℕ → ℕ) (m : Table) → ((x : ℕ) → x < I z → Alone z sd sg x → cs x ≡ cs' x) → Marks z sd sg cs m → Marks z sd sg cs' m
  retell cs cs' m h k = record { coef = λ x u t. k.coef x u t ∙ h x u t; desc = k.desc; grand = k.grand }

  -- the mark at the first place of a run
  pub mark_at : (cs : ℕ → ℕ) (m : Table) (k x : ℕ) → x < I z → Cov z sd sg k (up k x) → x ≡ down k (up k x) → Marks z sd sg cs m
      → (s : Bool) × (m x ≡ code s k) × (T s → 2 ≤ k)
  mark_at cs m k x u c e w =
      ⊎_elim
      (λ s. (false, ap m e ∙ w.desc k (up k x) c.0 c.1 s (omega arith), λ t. absurd t))
      (λ s. (true, ap m e ∙ w.grand k (up k x) s.0 c.1 s.1 (omega arith), λ t. s.0))
      c.2

  -- A scan that changes a coefficient's mark from `old` to `new`, writes `out` there, and skips every run.
  module _ (step : Table → ℕ → Step) (old new : ℕ → ℕ) (out : ℕ → List Bool)
      (quiet : (k x : ℕ) → x < I z → Cov z sd sg k (up k x) → out x ≡ [])
      (at_coef : (m : Table) (x : ℕ) → x < I z → Alone z sd sg x → m x ≡ old x
      → ((step m x).0 ≡ out x) × ((y : ℕ) → (step m x).1 y ≡ cond (eqb y x) (new x) (m y)) × ((step m x).2 ≡ suc x))
      (at_run : (m : Table) (x : ℕ) (s : Bool) (k : ℕ) → 1 ≤ k → (T s → 2 ≤ k) → m x ≡ code s k
      → ((step m x).0 ≡ []) × ((step m x).1 ≡ m) × ((step m x).2 ≡ x + 4 ^ k)) where
    over : (f i : ℕ) (m : Table) → I z ≤ i → Marks z sd sg (halfway new old i) m
        → ((go z step f m i).0 ≡ each i (I z - i) out) × Marks z sd sg (λ x. new x) (go z step f m i).1
    over f i m h k =
        rw (go_over z step f m i h) (
          sym (each_at i i (I z - i) 0 out refl (omega arith) ∙ each_none i out),
          retell (halfway new old i) (λ x. new x) m (λ x u t. rw (lt-ltb x i (omega arith))) k,
        )

    pub pass : (f i : ℕ) (m : Table) → I z ≤ f + i → Spot z sd sg i → Marks z sd sg (halfway new old i) m
        → ((go z step f m i).0 ≡ each i (I z - i) out) × Marks z sd sg (λ x. new x) (go z step f m i).1
    pass zero i m h p k = over zero i m (omega arith) k
    pass (suc f) i m h p k =
        ⊎_elim (λ l. over (suc f) i m l k)
        (λ l. ⊎_elim
        (λ t. coef l t (pass f (suc i) (step m i).1 (omega arith) (after_alone z sd sg c1 c2 i t) (coef_marks l t)))
        (λ c. run l c (pass f (i + 4 ^ c.0) m (omega (arith, pow4_pos c.0)) (after_run z sd sg c1 c2 c.0 i c.1 c.2) (run_marks c)))
        p)
        (order (I z) i)
      where
        was : i < I z → Alone z sd sg i → m i ≡ old i
        was l t = k.coef i l t ∙ rw (le-ltb i i (le_refl i))

        coef_marks : i < I z → (t : Alone z sd sg i) → Marks z sd sg (halfway new old (suc i)) (step m i).1
        coef_marks l t =
            retell (λ y. cond (eqb y i) (new i) (halfway new old i y)) (halfway new old (suc i)) (step m i).1 (λ y u v. later new old i y)
            (remark (halfway new old i) m (step m i).1 i (new i) t (at_coef m i l t (was l t)).1 k)

        coef : i < I z → (t : Alone z sd sg i)
            → ((go z step f (step m i).1 (suc i)).0 ≡ each (suc i) (I z - suc i) out) × Marks z sd sg (λ x. new x) (go z step f (step m i).1 (suc i)).1
            → ((go z step (suc f) m i).0 ≡ each i (I z - i) out) × Marks z sd sg (λ x. new x) (go z step (suc f) m i).1
        coef l t r =
            let w = at_coef m i l t (was l t) in
            rw (go_on z step f m i (out i) (step m i).1 (suc i) l w.0 refl w.2) (
              ap (λ (o : List Bool). out i ++ o) r.0 ∙ sym (each_at i i (I z - i) (suc (I z - suc i)) out refl (omega arith) ∙ each_cons i (I z - suc i) out),
              r.1,
            )

        run_marks : (c : (n : ℕ) × Cov z sd sg n (up n i) × (i ≡ down n (up n i))) → Marks z sd sg (halfway new old (i + 4 ^ c.0)) m
        run_marks c = retell (halfway new old i) (halfway new old (i + 4 ^ c.0)) m
            (λ x u t. ⊎_elim
            (λ l. ⊎_elim (λ r. rw (le-ltb x i l, le-ltb x (i + 4 ^ c.0) r))
            (λ r. absurd (clash c.0 x (inside c.0 i x c.1 c.2 l r) t)) (order (i + 4 ^ c.0) x))
            (λ l. rw (lt-ltb x i l, lt-ltb x (i + 4 ^ c.0) (omega (arith, pow4_pos c.0)))) (order i x))
            k

        run : i < I z → (c : (n : ℕ) × Cov z sd sg n (up n i) × (i ≡ down n (up n i)))
            → ((go z step f m (i + 4 ^ c.0)).0 ≡ each (i + 4 ^ c.0) (I z - (i + 4 ^ c.0)) out) × Marks z sd sg (λ x. new x) (go z step f m (i + 4 ^ c.0)).1
            → ((go z step (suc f) m i).0 ≡ each i (I z - i) out) × Marks z sd sg (λ x. new x) (go z step (suc f) m i).1
        run l c r =
            let q = mark_at (halfway new old i) m c.0 i l c.1 c.2 k in
            let w = at_run m i q.0 c.0 c.1.0 q.2 q.1 in
            rw (go_on z step f m i [] m (i + 4 ^ c.0) l w.0 w.1 w.2) (
              r.0
                  ∙ each_at (i + 4 ^ c.0) (i + 4 ^ c.0) (I z - (i + 4 ^ c.0)) (I z - i - 4 ^ c.0) out refl (omega arith)
                  ∙ sym (each_jump i (4 ^ c.0) (I z - i) out (λ x u v o. quiet c.0 x (omega arith) (inside c.0 i x c.1 c.2 u v))),
              r.1,
            )
