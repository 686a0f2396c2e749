-- One visit of a place: the machine asks its questions there one at a time, and writes what the step over a list writes.
use Prim.Native.Nat.{ℕ, zero, suc, ◌+◌, ◌*◌, ◌-◌, ◌^◌, ◌/◌, ◌≤◌, ◌<◌}
use mathlib.Core.Path.{◌≡◌, refl, ap, sym, subst, ◌∙◌}
use mathlib.Core.Bool.{Bool, true, false, cond}
use mathlib.Core.List.{List, [], ◌∷◌}
use mathlib.Core.Logic.{⊎_elim}
use native.Mathlib.Numerals.{add-one}
use native.Mathlib.Omega.{arith}
use borrow.Author.Tests.{lt-ltb, eqb-true, eqb-false, ne_eqb}
use lib.Dec.{ltb, leb, eqb}
use lib.ListN.{length, get_or, set, get_or-eq_default}
use lib.Seq.{get_or-set_same, get_or-set_other}
use Rattle.bits.specs.Bits.{bit}
use Rattle.nls.specs.Marks.{skip, set_skip, split_desc, split_grand}
use Rattle.nls.specs.Scan.{State, silent, asks, bit_of, sign_of, in_desc, in_grand, Pass, pixels, sets, refining, state_at, look, tell}
use Rattle.nls.proofs.Counting.Parts.{coded}
use Rattle.nls.proofs.Arrays.{Arr, Bits, bits_of_arr, ans}
use Rattle.nls.proofs.Machine.Run.{skip_pos, sskip_pos}
use Rattle.nls.proofs.Counting.Sums.{order}
use Rattle.nls.proofs.Counting.Tree.{Size, I}
use Rattle.nls.proofs.Counting.Steps as C
use Rattle.nls.proofs.Counting.Summary.{has_desc, has_grand}
use Rattle.nls.proofs.Counting.Lists.{LStep, pixel_l, refine_l, set_l, push_l, pushed_l, open_desc_l, open_grand_l}
use Rattle.nls.proofs.Joined.Answers.{desc_answer, grand_answer}
use Rattle.nls.proofs.Joined.Leads.{Leads, leads_hush, leads_asks, leads_bit}
use Rattle.nls.proofs.Joined.Same.{skip_same, sskip_same, open_same, grand_same}

-- no set has its mark at place 0
abbrev pub Low : List ℕ → Type 0
Low l = get_or l 0 0 ≤ 4

low_pos : (l : List ℕ) (i : ℕ) → Low l → 5 ≤ get_or l i 0 → 1 ≤ i
low_pos l zero w h = absurd (omega (arith, w, h))
low_pos l (suc i) w h = omega arith

pub low_other : (l : List ℕ) (i v : ℕ) → 1 ≤ i → Low l → Low (set l i v)
low_other l i v h w = subst (λ (x : ℕ). x ≤ 4) (sym (get_or-set_other l i 0 v 0 (λ o. omega (arith, o, h)))) w

low_small : (l : List ℕ) (i v : ℕ) → v ≤ 4 → Low l → Low (set l i v)
low_small [] i v h w = w
low_small (x ∷ l) zero v h w = h
low_small (x ∷ l) (suc i) v h w = w

pub in_range : (l : List ℕ) (i : ℕ) → 1 ≤ get_or l i 0 → i < length l
in_range l i h = ⊎_elim (λ o. absurd (omega (arith, h, get_or-eq_default l 0 {n = i} o))) (λ o. o) (order (length l) i)

-- how often a place may be visited again
unfoldable pub again : ℕ → ℕ
again c = cond (eqb c 6) 2 (cond (eqb c 5) 1 0)

pub again_le : (c : ℕ) → again c ≤ 2
unfolding again
again_le c = go (eqb c 6) (eqb c 5)
  where
    go : (s t : Bool) → cond s 2 (cond t 1 0) ≤ 2
    go true t = omega arith
    go false true = omega arith
    go false false = omega arith

pub again_low : (c : ℕ) → c ≤ 4 → again c ≡ 0
unfolding again
again_low c h = rw (ne_eqb c 6 (omega arith), ne_eqb c 5 (omega arith))

again_5 : again 5 ≡ 1
unfolding again
again_5 = refl

again_6 : again 6 ≡ 2
unfolding again
again_6 = refl

module _ (z : Size) where
  push_miss : (f c w : ℕ) (l : List ℕ) (y : ℕ) → y < w → 1 ≤ w → get_or (push_l z f c w l) y 0 ≡ get_or l y 0
  unfolding push_l
  push_miss zero c w l y h o = refl
  push_miss (suc f) c w l y h o =
      go (ltb w (I z)) (push_miss f (suc c) (4 * w) (set l w c) y (omega arith) (omega arith) ∙ get_or-set_other l w y c 0 (λ e. omega (arith, e, h)))
    where
      go : (t : Bool) → get_or (push_l z f (suc c) (4 * w) (set l w c)) y 0 ≡ get_or l y 0
          → get_or (cond t (push_l z f (suc c) (4 * w) (set l w c)) l) y 0 ≡ get_or l y 0
      go true e = e
      go false e = refl

  pub pushed_miss : (l : List ℕ) (a y : ℕ) → y < a → get_or (pushed_l z l a) y 0 ≡ get_or l y 0
  unfolding pushed_l
  pushed_miss l a y h = push_miss z.deep 7 (4 * a) (set l a 5) y (omega arith) (omega arith) ∙ get_or-set_other l a y 5 0 (λ e. omega (arith, e, h))

  pushed_here : (l : List ℕ) (a : ℕ) → 1 ≤ a → a < length l → get_or (pushed_l z l a) a 0 ≡ 5
  unfolding pushed_l
  pushed_here l a o h = push_miss z.deep 7 (4 * a) (set l a 5) a (omega arith) (omega arith) ∙ get_or-set_same l a 5 0 h

  grand_upto : (l : List ℕ) (i y : ℕ) → y ≤ i → get_or (open_grand_l z l i) y 0 ≡ get_or (pushed_l z l i) y 0
  unfolding open_grand_l
  grand_upto l i y h =
      pushed_miss (pushed_l z (pushed_l z (pushed_l z l i) (i + 4)) (i + 8)) (i + 12) y (omega arith)
      ∙ pushed_miss (pushed_l z (pushed_l z l i) (i + 4)) (i + 8) y (omega arith)
      ∙ pushed_miss (pushed_l z l i) (i + 4) y (omega arith)

  low_grand : (l : List ℕ) (i : ℕ) → 1 ≤ i → Low l → Low (open_grand_l z l i)
  low_grand l i h w = subst (λ (x : ℕ). x ≤ 4) (sym (grand_upto l i 0 (omega arith) ∙ pushed_miss l i 0 h)) w

  grand_here : (l : List ℕ) (i : ℕ) → 1 ≤ i → i < length l → get_or (open_grand_l z l i) i 0 ≡ 5
  grand_here l i h u = grand_upto l i i (omega arith) ∙ pushed_here l i h u

  abbrev four_l : List ℕ → ℕ → List ℕ
  four_l l i = set (set (set (set l i 4) (i + 1) 4) (i + 2) 4) (i + 3) 4

  low_desc : (l : List ℕ) (i : ℕ) → 1 ≤ i → Low l → Low (open_desc_l z l i)
  unfolding open_desc_l
  low_desc l i h w =
      go (ltb (4 * i) (I z))
      (low_other (set (set (set l i 4) (i + 1) 4) (i + 2) 4) (i + 3) 4 (omega arith) (low_other (set (set l i 4) (i + 1) 4) (i + 2) 4 (omega arith)
      (low_other (set l i 4) (i + 1) 4 (omega arith) (low_other l i 4 h w))))
    where
      go : (t : Bool) → Low (four_l l i) → Low (cond t (set (four_l l i) (4 * i) 6) (four_l l i))
      go true k = low_other (four_l l i) (4 * i) 6 (omega arith) k
      go false k = k

  desc_here : (l : List ℕ) (i : ℕ) → 1 ≤ i → i < length l → get_or (open_desc_l z l i) i 0 ≡ 4
  unfolding open_desc_l
  desc_here l i h u =
      go (ltb (4 * i) (I z))
      (get_or-set_other (set (set (set l i 4) (i + 1) 4) (i + 2) 4) (i + 3) i 4 0 (λ e. omega (arith, e))
      ∙ get_or-set_other (set (set l i 4) (i + 1) 4) (i + 2) i 4 0 (λ e. omega (arith, e))
      ∙ get_or-set_other (set l i 4) (i + 1) i 4 0 (λ e. omega (arith, e))
      ∙ get_or-set_same l i 4 0 u)
    where
      go : (t : Bool) → get_or (four_l l i) i 0 ≡ 4 → get_or (cond t (set (four_l l i) (4 * i) 6) (four_l l i)) i 0 ≡ 4
      go true k = get_or-set_other (four_l l i) (4 * i) i 6 0 (λ e. omega (arith, e, h)) ∙ k
      go false k = k
      -- what is kept: nothing but coefficients at place 0

module _ (z : Size) (mag : ℕ → ℕ) (neg : ℕ → Bool) (b : ℕ) where
  pub low_pixel : (l : List ℕ) (i : ℕ) → Low l → Low (pixel_l mag neg b l i).1
  unfolding pixel_l
  low_pixel l i w = go (eqb (get_or l i 0) 1) (bit (mag i) b)
    where
      go : (s t : Bool) → Low (cond {A = LStep} s (coded mag neg b i, cond t (set l i 2) l, suc i) ([], l, i + C.skip (get_or l i 0))).1
      go true true = low_small l i 2 (omega arith) w
      go true false = w
      go false t = w

  pub low_refine : (l : List ℕ) (i : ℕ) → Low l → Low (refine_l mag b l i).1
  unfolding refine_l
  low_refine l i w = go (eqb (get_or l i 0) 3) (eqb (get_or l i 0) 2)
    where
      go : (s t : Bool) → Low (cond {A = LStep} s (bit (mag i) b ∷ [], l, suc i) (cond t ([], set l i 3, suc i) ([], l, i + C.skip (get_or l i 0)))).1
      go true t = w
      go false true = low_small l i 3 (omega arith) w
      go false false = w

  pub low_set : (l : List ℕ) (i : ℕ) → Low l → Low (set_l z mag neg b l i).1
  unfolding set_l
  low_set l i w = go (eqb (get_or l i 0) 5) refl (eqb (get_or l i 0) 6) refl (eqb (get_or l i 0) 4) (has_desc z mag b (i / 4)) (has_grand z mag b (i / 16)) (bit (mag i) b)
    where
      go : (d : Bool) → eqb (get_or l i 0) 5 ≡ d → (g : Bool) → eqb (get_or l i 0) 6 ≡ g → (c h k t : Bool)
          → Low (cond {A = LStep} d (h ∷ [], cond h (open_desc_l z l i) l, cond h i (i + 4))
          (cond g (k ∷ [], cond k (open_grand_l z l i) l, cond k i (i + 16))
          (cond c (coded mag neg b i, set l i (cond t 2 1), suc i) ([], l, i + cond (leb (get_or l i 0) 3) 4 (C.skip (get_or l i 0)))))).1
      go true e g q c true k t = low_desc z l i (low_pos l i w (omega (arith, eqb-true (get_or l i 0) 5 e))) w
      go true e g q c false k t = w
      go false e true q c h true t = low_grand z l i (low_pos l i w (omega (arith, eqb-true (get_or l i 0) 6 q))) w
      go false e true q c h false t = w
      go false e false q true h k true = low_small l i 2 (omega arith) w
      go false e false q true h k false = low_small l i 1 (omega arith) w
      go false e false q false h k t = w

  -- what falls
  pub falls_pixel : (l : List ℕ) (i : ℕ) → i < I z → I z - (pixel_l mag neg b l i).2 < I z - i
  unfolding pixel_l
  falls_pixel l i h = go (eqb (get_or l i 0) 1)
    where
      go : (s : Bool) → I z - (cond {A = LStep} s (coded mag neg b i, cond (bit (mag i) b) (set l i 2) l, suc i) ([], l, i + C.skip (get_or l i 0))).2 < I z - i
      go true = omega arith
      go false = omega (arith, skip_same (get_or l i 0), skip_pos (get_or l i 0))

  pub falls_refine : (l : List ℕ) (i : ℕ) → i < I z → I z - (refine_l mag b l i).2 < I z - i
  unfolding refine_l
  falls_refine l i h = go (eqb (get_or l i 0) 3) (eqb (get_or l i 0) 2)
    where
      go : (s t : Bool) → I z - (cond {A = LStep} s (bit (mag i) b ∷ [], l, suc i) (cond t ([], set l i 3, suc i) ([], l, i + C.skip (get_or l i 0)))).2 < I z - i
      go true t = omega arith
      go false true = omega arith
      go false false = omega (arith, skip_same (get_or l i 0), skip_pos (get_or l i 0))

  abbrev pub rank : List ℕ → ℕ → ℕ
  rank l i = 3 * (I z - i) + again (get_or l i 0)

  pub falls_set : (l : List ℕ) (i : ℕ) → i < I z → Low l → rank (set_l z mag neg b l i).1 (set_l z mag neg b l i).2 < rank l i
  unfolding set_l
  falls_set l i u w = go (eqb (get_or l i 0) 5) refl (eqb (get_or l i 0) 6) refl (eqb (get_or l i 0) 4) refl (has_desc z mag b (i / 4)) (has_grand z mag b (i / 16))
    where
      step : Bool → Bool → Bool → Bool → Bool → LStep
      step d g c h k = cond {A = LStep} d (h ∷ [], cond h (open_desc_l z l i) l, cond h i (i + 4))
          (cond g (k ∷ [], cond k (open_grand_l z l i) l, cond k i (i + 16))
          (cond c (coded mag neg b i, set l i (cond (bit (mag i) b) 2 1), suc i) ([], l, i + cond (leb (get_or l i 0) 3) 4 (C.skip (get_or l i 0)))))

      go : (d : Bool) → eqb (get_or l i 0) 5 ≡ d → (g : Bool) → eqb (get_or l i 0) 6 ≡ g → (c : Bool) → eqb (get_or l i 0) 4 ≡ c → (h k : Bool)
          → rank (step d g c h k).1 (step d g c h k).2 < rank l i
      go true e g q c o true k =
          let v : get_or l i 0 ≡ 5 = eqb-true (get_or l i 0) 5 e in
          let now : get_or (open_desc_l z l i) i 0 ≡ 4 = desc_here z l i (low_pos l i w (omega arith)) (in_range l i (omega arith)) in
          omega (arith, ap again v, again_5, ap again now, again_low 4 (omega arith))
      go true e g q c o false k = omega (arith, again_le (get_or l (i + 4) 0))
      go false e true q c o h true =
          let v : get_or l i 0 ≡ 6 = eqb-true (get_or l i 0) 6 q in
          let now : get_or (open_grand_l z l i) i 0 ≡ 5 = grand_here z l i (low_pos l i w (omega arith)) (in_range l i (omega arith)) in
          omega (arith, ap again v, again_6, ap again now, again_5)
      go false e true q c o h false = omega (arith, again_le (get_or l (i + 16) 0))
      go false e false q true o h k = omega (arith, again_le (get_or (set l i (cond (bit (mag i) b) 2 1)) (suc i) 0))
      go false e false q false o h k =
          omega (
            arith,
            again_le (get_or l (i + cond (leb (get_or l i 0) 3) 4 (C.skip (get_or l i 0))) 0),
            sskip_same (get_or l i 0) (eqb-false (get_or l i 0) 4 o),
            sskip_pos (get_or l i 0),
          )

-- ---- the visits
pub leads_at : (N : ℕ) (A : Bits) (k : ℕ) (s : State) (o : List Bool) (l : ℕ) (p : Pass) (i i' : ℕ) (m m' : List ℕ) → i ≡ i' → m ≡ m' → Leads N A k s o (state_at l p i m) → Leads N A k s o (state_at l p i' m')
leads_at N A k s o l p i i' m m' e f x =
    subst (λ (n : List ℕ). Leads N A k s o (state_at l p i' n)) f (subst (λ (n : ℕ). Leads N A k s o (state_at l p n m)) e x)

module _ (z : Size) (full : I z ≡ 4 ^ z.deep) (A : Arr) (b : ℕ) where
  abbrev N : ℕ
  N = z.deep

  abbrev K : ℕ
  K = 4 ^ z.deep

  abbrev B : Bits
  B = bits_of_arr A

  one_answer : (i : ℕ) (a : Bool) → bit (A.mag i) b ≡ a → ans N B (bit_of i b) ≡ a
  unfolding ans
  one_answer i a e = e

  sgn_answer : (i : ℕ) → ans N B (sign_of i) ≡ A.neg i
  unfolding ans
  sgn_answer i = refl

  -- a test that was 1: its sign
  signed : (p : Pass) (i : ℕ) (l : List ℕ)
      → Leads N B (suc b) (record { left = suc b; pass = p; place = i; pending = true; marks = l }) (A.neg i ∷ []) (state_at (suc b) p (suc i) (set l i 2))
  signed p i l =
      leads_at N B (suc b) (record { left = suc b; pass = p; place = i; pending = true; marks = l }) (A.neg i ∷ []) (suc b) p (i + 1) (suc i) (set l i 2) (set l i 2) (add-one i) refl
      (leads_asks N B (suc b) (record { left = suc b; pass = p; place = i; pending = true; marks = l }) (sign_of i) (A.neg i) refl refl (sgn_answer i))

  abbrev pub Visit : Pass → List ℕ → ℕ → LStep → Type 0
  Visit p l i o = Leads N B (suc b) (state_at (suc b) p i l) o.0 (state_at (suc b) p o.2 o.1)

  pub visit_pixel : (l : List ℕ) (i : ℕ) → i < I z → Visit pixels l i (pixel_l A.mag A.neg b l i)
  unfolding pixel_l coded
  visit_pixel l i h = go (eqb (get_or l i 0) 1) refl (bit (A.mag i) b) refl
    where
      go : (t : Bool) → eqb (get_or l i 0) 1 ≡ t → (a : Bool) → bit (A.mag i) b ≡ a
          → Visit pixels l i (cond {A = LStep} t (a ∷ cond a (A.neg i ∷ []) [], cond a (set l i 2) l, suc i) ([], l, i + C.skip (get_or l i 0)))
      go true e true f =
          let lk : look K (state_at (suc b) pixels i l) ≡ asks (bit_of i b) = rw (lt-ltb i K (omega (arith, full)), e) in
          leads_bit N B (suc b) (state_at (suc b) pixels i l) (state_at (suc b) pixels (suc i) (set l i 2)) (bit_of i b) true (A.neg i ∷ []) refl lk (one_answer i true f) (signed pixels i l)
      go true e false f =
          let lk : look K (state_at (suc b) pixels i l) ≡ asks (bit_of i b) = rw (lt-ltb i K (omega (arith, full)), e) in
          leads_at N B (suc b) (state_at (suc b) pixels i l) (false ∷ []) (suc b) pixels (i + 1) (suc i) l l (add-one i) refl
          (leads_asks N B (suc b) (state_at (suc b) pixels i l) (bit_of i b) false refl lk (one_answer i false f))
      go false e a f =
          let lk : look K (state_at (suc b) pixels i l) ≡ silent (state_at (suc b) pixels (i + skip (get_or l i 0)) l) = rw (lt-ltb i K (omega (arith, full)), e) in
          leads_at N B (suc b) (state_at (suc b) pixels i l) [] (suc b) pixels (i + skip (get_or l i 0)) (i + C.skip (get_or l i 0)) l l (ap (λ (x : ℕ). i + x) (sym (skip_same (get_or l i 0)))) refl
          (leads_hush N B (suc b) (state_at (suc b) pixels i l) (state_at (suc b) pixels (i + skip (get_or l i 0)) l) lk)

  pub visit_refine : (l : List ℕ) (i : ℕ) → i < I z → Visit refining l i (refine_l A.mag b l i)
  unfolding refine_l
  visit_refine l i h = go (eqb (get_or l i 0) 3) refl (eqb (get_or l i 0) 2) refl
    where
      go : (t : Bool) → eqb (get_or l i 0) 3 ≡ t → (u : Bool) → eqb (get_or l i 0) 2 ≡ u
          → Visit refining l i (cond {A = LStep} t (bit (A.mag i) b ∷ [], l, suc i) (cond u ([], set l i 3, suc i) ([], l, i + C.skip (get_or l i 0))))
      go true e u f =
          let lk : look K (state_at (suc b) refining i l) ≡ asks (bit_of i b) = rw (lt-ltb i K (omega (arith, full)), e) in
          leads_at N B (suc b) (state_at (suc b) refining i l) (bit (A.mag i) b ∷ []) (suc b) refining (i + 1) (suc i) l l (add-one i) refl
          (leads_asks N B (suc b) (state_at (suc b) refining i l) (bit_of i b) (bit (A.mag i) b) refl lk (one_answer i (bit (A.mag i) b) refl))
      go false e true f =
          let lk : look K (state_at (suc b) refining i l) ≡ silent (state_at (suc b) refining (i + 1) (set l i 3)) = rw (lt-ltb i K (omega (arith, full)), e, f) in
          leads_at N B (suc b) (state_at (suc b) refining i l) [] (suc b) refining (i + 1) (suc i) (set l i 3) (set l i 3) (add-one i) refl
          (leads_hush N B (suc b) (state_at (suc b) refining i l) (state_at (suc b) refining (i + 1) (set l i 3)) lk)
      go false e false f =
          let lk : look K (state_at (suc b) refining i l) ≡ silent (state_at (suc b) refining (i + skip (get_or l i 0)) l) = rw (lt-ltb i K (omega (arith, full)), e, f) in
          leads_at N B (suc b) (state_at (suc b) refining i l) [] (suc b) refining (i + skip (get_or l i 0)) (i + C.skip (get_or l i 0)) l l (ap (λ (x : ℕ). i + x) (sym (skip_same (get_or l i 0)))) refl
          (leads_hush N B (suc b) (state_at (suc b) refining i l) (state_at (suc b) refining (i + skip (get_or l i 0)) l) lk)

  pub visit_set : (l : List ℕ) (i : ℕ) → i < I z → Low l → Visit sets l i (set_l z A.mag A.neg b l i)
  unfolding set_l coded
  visit_set l i u w =
      go (eqb (get_or l i 0) 5) refl (eqb (get_or l i 0) 6) refl (eqb (get_or l i 0) 4) refl
      (has_desc z A.mag b (i / 4)) refl (has_grand z A.mag b (i / 16)) refl (bit (A.mag i) b) refl
    where
      below : ltb i K ≡ true
      below = lt-ltb i K (omega (arith, u, full))

      s : State
      s = state_at (suc b) sets i l

      go : (d : Bool) → eqb (get_or l i 0) 5 ≡ d → (g : Bool) → eqb (get_or l i 0) 6 ≡ g → (c : Bool) → eqb (get_or l i 0) 4 ≡ c
          → (h : Bool) → has_desc z A.mag b (i / 4) ≡ h → (k : Bool) → has_grand z A.mag b (i / 16) ≡ k → (a : Bool) → bit (A.mag i) b ≡ a
          → Visit sets l i (cond {A = LStep} d (h ∷ [], cond h (open_desc_l z l i) l, cond h i (i + 4))
          (cond g (k ∷ [], cond k (open_grand_l z l i) l, cond k i (i + 16))
          (cond c (a ∷ cond a (A.neg i ∷ []) [], set l i (cond a 2 1), suc i) ([], l, i + cond (leb (get_or l i 0) 3) 4 (C.skip (get_or l i 0))))))
      go true e g q c o h eh k ek a ea =
          let lk : look K s ≡ asks (in_desc (i / 4) b) = rw (below, e) in
          let x : Leads N B (suc b) s (h ∷ []) (tell K s h) = leads_asks N B (suc b) s (in_desc (i / 4) b) h refl lk (desc_answer z full A (i / 4) b ∙ eh) in
          part h x
        where
          part : (h : Bool) → Leads N B (suc b) s (h ∷ []) (tell K s h)
              → Leads N B (suc b) s (h ∷ []) (state_at (suc b) sets (cond h i (i + 4)) (cond h (open_desc_l z l i) l))
          part true x =
              leads_at N B (suc b) s (true ∷ []) (suc b) sets i i (split_desc K i l (ltb (4 * i) K)) (open_desc_l z l i) refl (open_same z full l i)
              (rw e at x)
          part false x = rw e at x
      go false e true q c o h eh k ek a ea =
          let lk : look K s ≡ asks (in_grand (i / 16) b) = rw (below, e, q) in
          let x : Leads N B (suc b) s (k ∷ []) (tell K s k) = leads_asks N B (suc b) s (in_grand (i / 16) b) k refl lk (grand_answer z full A (i / 16) b ∙ ek) in
          part k x
        where
          part : (k : Bool) → Leads N B (suc b) s (k ∷ []) (tell K s k)
              → Leads N B (suc b) s (k ∷ []) (state_at (suc b) sets (cond k i (i + 16)) (cond k (open_grand_l z l i) l))
          part true x =
              leads_at N B (suc b) s (true ∷ []) (suc b) sets i i (split_grand K i l) (open_grand_l z l i) refl
              (grand_same z full l i (low_pos l i w (omega (arith, eqb-true (get_or l i 0) 6 q))))
              (rw (e, q) at x)
          part false x = rw (e, q) at x
      go false e false q true o h eh k ek true ea =
          let lk : look K s ≡ asks (bit_of i b) = rw (below, e, q, o) in
          let x : Leads N B (suc b) (tell K s true) (A.neg i ∷ []) (state_at (suc b) sets (suc i) (set l i 2)) = rw (e, q) (signed sets i l) in
          leads_bit N B (suc b) s (state_at (suc b) sets (suc i) (set l i 2)) (bit_of i b) true (A.neg i ∷ []) refl lk (one_answer i true ea) x
      go false e false q true o h eh k ek false ea =
          let lk : look K s ≡ asks (bit_of i b) = rw (below, e, q, o) in
          let x : Leads N B (suc b) s (false ∷ []) (tell K s false) = leads_asks N B (suc b) s (bit_of i b) false refl lk (one_answer i false ea) in
          leads_at N B (suc b) s (false ∷ []) (suc b) sets (i + 1) (suc i) (set l i 1) (set l i 1) (add-one i) refl (rw (e, q) at x)
      go false e false q false o h eh k ek a ea =
          let lk : look K s ≡ silent (state_at (suc b) sets (i + set_skip (get_or l i 0)) l) = rw (below, e, q, o) in
          leads_at N B (suc b) s [] (suc b) sets (i + set_skip (get_or l i 0)) (i + cond (leb (get_or l i 0) 3) 4 (C.skip (get_or l i 0))) l l
          (ap (λ (x : ℕ). i + x) (sym (sskip_same (get_or l i 0) (eqb-false (get_or l i 0) 4 o)))) refl
          (leads_hush N B (suc b) s (state_at (suc b) sets (i + set_skip (get_or l i 0)) l) lk)
