-- Refusal 12: after bits that some array of P planes fits, a next bit fits none exactly if it is a 0 at a clash.
use mathlib.Core.Path.{◌≡◌, refl, sym, ap, subst, ◌∙◌}
use mathlib.Core.Bool.{Bool, true, false, not, ◌&&◌, true≢false, false≢true}
use mathlib.Core.Logic.{◌⊎◌, inl, inr}
use mathlib.Core.Option.{none, some}
use mathlib.Core.List.{List, [], ◌∷◌, ◌++◌}
use Prim.Native.Nat.{ℕ, zero, suc, ◌/◌, ◌^◌, ◌≤◌, ◌<◌}
use native.Mathlib.Omega.{arith}
use native.Mathlib.Decide.{ℕ_discrete}
use lib.ListN.{get_or}
use lib.Dec.{ltb, eqb}
use borrow.Author.Tests.{ltb-true, lt-ltb, eqb-true, eq-eqb}
use Rattle.sizes.proofs.Laws.{both_left, both_right, both}
use Rattle.nls.specs.Scan.{State, Look, over, silent, asks, Question, bit_of, sign_of, in_desc, in_grand, Pass, pixels, sets, refining, look, look_at, look_pixels, look_sets, look_refining, ask, asked, next, reach, start}
use Rattle.nls.proofs.Tiled.{Tiled}
use Rattle.nls.proofs.Booleans.{not_true_false}
use Rattle.nls.proofs.Arrays.{Bits, inside, ans, below, ◌⊑◌, told, any_find, any_some, Fit}
use Rattle.nls.proofs.Machine.Run.{fit_append}
use Rattle.nls.proofs.Judging.Most.{most, most_fits, most_keeps, most_below, clear, gone}
use Rattle.nls.proofs.Reading.Know.{least, least_below}
use Rattle.nls.proofs.Judging.Owed.{Owed, owed_true, change}
use Rattle.nls.proofs.Machine.Cover.{Under, is_alone, is_desc_at, is_grand_at, Desc_at, Grand_at, Alone_at}
use Rattle.nls.proofs.Reading.Told.{under_below, below_under}
use Rattle.nls.proofs.Judging.Clash.{Valid, Clash}
use Rattle.nls.proofs.Machine.Start.{nothing}
use Rattle.nls.proofs.Judging.Open.{All, All_at, Owing, all_run, all_start, clear_out}
use Rattle.nls.proofs.Judging.Enough.{Enough, Open1, enough_pix, open_pix, enough_fine, open_fine, enough_c, open_c, enough_d, open_d, enough_g, open_g}

module _ (N : ℕ) where
  clear_in : (q : Question) (b : ℕ) (W : Bits) (j : ℕ) → inside N q j ≡ true → (clear N q b W).has j b ≡ true → ⊥
  unfolding clear
  clear_in q b W j i h = gone (inside N q j) (eqb b b) (W.has j b) i (eq-eqb b b refl) h

  pub clear_below : (q : Question) (b : ℕ) (W : Bits) (j e : ℕ) → (clear N q b W).has j e ≡ true → W.has j e ≡ true
  unfolding clear
  clear_below q b W j e h = both_right (not (inside N q j && eqb e b)) (W.has j e) h

  -- the answer is 0 afterwards
  pub cleared_one : (i b : ℕ) (W : Bits) → ans N (clear N (bit_of i b) b W) (bit_of i b) ≡ false
  unfolding ans inside
  cleared_one i b W = not_true_false _ (λ h. clear_in (bit_of i b) b W i (eq-eqb i i refl) h)

  cleared_desc : (g b : ℕ) (W : Bits) → ans N (clear N (in_desc g b) b W) (in_desc g b) ≡ false
  unfolding ans
  cleared_desc g b W = not_true_false _ (λ h.
      let r : (j : ℕ) × (j < 4 ^ N) × ((inside N (in_desc g b) j && (clear N (in_desc g b) b W).has j b) ≡ true) = any_find (4 ^ N) (λ j. inside N (in_desc g b) j && (clear N (in_desc g b) b W).has j b) h in
      clear_in (in_desc g b) b W r.0 (both_left (inside N (in_desc g b) r.0) _ r.2) (both_right (inside N (in_desc g b) r.0) _ r.2))

  cleared_grand : (g b : ℕ) (W : Bits) → ans N (clear N (in_grand g b) b W) (in_grand g b) ≡ false
  unfolding ans
  cleared_grand g b W = not_true_false _ (λ h.
      let r : (j : ℕ) × (j < 4 ^ N) × ((inside N (in_grand g b) j && (clear N (in_grand g b) b W).has j b) ≡ true) = any_find (4 ^ N) (λ j. inside N (in_grand g b) j && (clear N (in_grand g b) b W).has j b) h in
      clear_in (in_grand g b) b W r.0 (both_left (inside N (in_grand g b) r.0) _ r.2) (both_right (inside N (in_grand g b) r.0) _ r.2))

  in_desc_lem : (g b j : ℕ) → 1 ≤ g → j < 4 ^ N → Under g j → inside N (in_desc g b) j ≡ true
  unfolding inside
  in_desc_lem g b j g1 hj u = both (lt-ltb j (4 ^ N) hj) (under_below N g j g1 hj u)

  in_grand_lem : (g b j : ℕ) → 1 ≤ g → j < 4 ^ N → Under g (j / 4) → inside N (in_grand g b) j ≡ true
  unfolding inside
  in_grand_lem g b j g1 hj u = both (lt-ltb j (4 ^ N) hj) (under_below N g (j / 4) g1 (omega arith) u)

  desc_in : (g b j : ℕ) → inside N (in_desc g b) j ≡ true → Under g j × (j < 4 ^ N)
  unfolding inside
  desc_in g b j h = (below_under N g j (both_right (ltb j (4 ^ N)) (below N g j) h), ltb-true j (4 ^ N) (both_left (ltb j (4 ^ N)) (below N g j) h))

  grand_in : (g b j : ℕ) → inside N (in_grand g b) j ≡ true → Under g (j / 4) × (j < 4 ^ N)
  unfolding inside
  grand_in g b j h = (below_under N g (j / 4) (both_right (ltb j (4 ^ N)) (below N g (j / 4)) h), ltb-true j (4 ^ N) (both_left (ltb j (4 ^ N)) (below N g (j / 4)) h))

  pub one_in : (i b j : ℕ) → inside N (bit_of i b) j ≡ true → j ≡ i
  unfolding inside
  one_in i b j h = eqb-true j i h

  pub yes_one : (W : Bits) (i b : ℕ) → W.has i b ≡ true → ans N W (bit_of i b) ≡ true
  unfolding ans
  yes_one W i b h = h

  yes_sgn : (W : Bits) (i : ℕ) (c : Bool) → W.neg i ≡ c → ans N W (sign_of i) ≡ c
  unfolding ans
  yes_sgn W i c h = h

  pub yes_desc : (W : Bits) (g b j : ℕ) → j < 4 ^ N → inside N (in_desc g b) j ≡ true → W.has j b ≡ true → ans N W (in_desc g b) ≡ true
  unfolding ans
  yes_desc W g b j hj i h = any_some (4 ^ N) (λ x. inside N (in_desc g b) x && W.has x b) j hj (both i h)

  pub yes_grand : (W : Bits) (g b j : ℕ) → j < 4 ^ N → inside N (in_grand g b) j ≡ true → W.has j b ≡ true → ans N W (in_grand g b) ≡ true
  unfolding ans
  yes_grand W g b j hj i h = any_some (4 ^ N) (λ x. inside N (in_grand g b) x && W.has x b) j hj (both i h)

  pub find_desc : (W : Bits) (g b : ℕ) → ans N W (in_desc g b) ≡ true → (j : ℕ) × (j < 4 ^ N) × (inside N (in_desc g b) j ≡ true) × (W.has j b ≡ true)
  unfolding ans
  find_desc W g b h = let r : (j : ℕ) × (j < 4 ^ N) × ((inside N (in_desc g b) j && W.has j b) ≡ true) = any_find (4 ^ N) (λ x. inside N (in_desc g b) x && W.has x b) h in
      (r.0, r.1, both_left (inside N (in_desc g b) r.0) (W.has r.0 b) r.2, both_right (inside N (in_desc g b) r.0) (W.has r.0 b) r.2)

  pub find_grand : (W : Bits) (g b : ℕ) → ans N W (in_grand g b) ≡ true → (j : ℕ) × (j < 4 ^ N) × (inside N (in_grand g b) j ≡ true) × (W.has j b ≡ true)
  unfolding ans
  find_grand W g b h = let r : (j : ℕ) × (j < 4 ^ N) × ((inside N (in_grand g b) j && W.has j b) ≡ true) = any_find (4 ^ N) (λ x. inside N (in_grand g b) x && W.has x b) h in
      (r.0, r.1, both_left (inside N (in_grand g b) r.0) (W.has r.0 b) r.2, both_right (inside N (in_grand g b) r.0) (W.has r.0 b) r.2)

module _ (N : ℕ) {D : ℕ} (P : ℕ) (sz : Tiled D (4 ^ N)) where
  abbrev I : ℕ
  I = 4 ^ N

  abbrev pub S0 : State
  S0 = start I D P

  -- A's stream begins with u
  abbrev pub Begins : Bits → List Bool → Type 0
  Begins A u = Fit N A S0 u

  abbrev pub Clash_at : ℕ → Pass → ℕ → Bool → List ℕ → Type 0
  Clash_at zero p i s m = ⊥
  Clash_at (suc b) pixels i s m = ⊥
  Clash_at (suc b) refining i s m = ⊥
  Clash_at (suc b) sets i true m = ⊥
  Clash_at (suc b) sets i false m = Clash D I P b i m

  abbrev pub Clashes : State → Type 0
  Clashes s = Clash_at s.left s.pass s.place s.pending s.marks

  -- what was answered 1 is owed
  module _ (W : Bits) (vv : Bool) where
    keep : (s : State) (u : List Bool) (O : Question → Type 0) (p : Question) → O p → Owing N s u O p
    keep s [] O p o = o
    keep s (a ∷ u) O p o = keep (next I s a) u (λ p. O p ⊎ ((a ≡ true) × (ask I s ≡ some p))) p (inl o)

    pub owing : (s : State) (u : List Bool) (O : Question → Type 0) (p : Question) → Owed N s u p → Owing N s u O p
    owing s [] O p o = absurd o
    owing s (a ∷ u) O p (inl o) = keep (next I s a) u (λ p. O p ⊎ ((a ≡ true) × (ask I s ≡ some p))) p (inr o)
    owing s (a ∷ u) O p (inr o) = owing (next I s a) u (λ p. O p ⊎ ((a ≡ true) × (ask I s ≡ some p))) p o

  -- the question's bits cleared: the array still has P planes, and its stream still begins with u
  module _ (W : Bits) (O : Question → Type 0) (u : List Bool) (va : Valid I P W) (f : Begins W u) (ow : (p : Question) → Owed N S0 u p → O p)
      (q : Question) (b : ℕ) (In : ℕ → Type 0) (to : (j : ℕ) → inside N q j ≡ true → In j × (j < I))
      (en : Enough N P sz W O b In) where
    out : (j e : ℕ) → (In j → e ≡ b → ⊥) → W.has j e ≡ true → (clear N q b W).has j e ≡ true
    out j e n h = clear_out N q b W j e (λ i z. n (to j i).0 z) h

    still : (p : Question) → Owed N S0 u p → ans N (clear N q b W) p ≡ true
    still (bit_of j e) o = unfold ans in clear_out N q b W j e (λ i z. en.e_o j (to j i).1 (subst (λ (y : ℕ). O (bit_of j y)) z (ow (bit_of j e) o)) (to j i).0) (unfold ans in owed_true N W S0 u f (bit_of j e) o)
    still (sign_of j) o = unfold ans clear in owed_true N W S0 u f (sign_of j) o
    still (in_desc h e) o = at (find_desc N W h e (owed_true N W S0 u f (in_desc h e) o)) (ℕ_discrete e b)
      where
        at : (j : ℕ) × (j < I) × (inside N (in_desc h e) j ≡ true) × (W.has j e ≡ true) → Dec (e ≡ b) → ans N (clear N q b W) (in_desc h e) ≡ true
        at r (no z) = yes_desc N (clear N q b W) h e r.0 r.1 r.2 (out r.0 e (λ i y. z y) r.3)
        at r (yes z) = pick (inside N q r.0) refl
          where
            pick : (x : Bool) → inside N q r.0 ≡ x → ans N (clear N q b W) (in_desc h e) ≡ true
            pick false i = yes_desc N (clear N q b W) h e r.0 r.1 r.2 (clear_out N q b W r.0 e (λ y w. true≢false (sym y ∙ i)) r.3)
            pick true i =
                let t : (j : ℕ) × (j < I) × Under h j × (W.has j b ≡ true) × (In j → ⊥) × (1 ≤ h) = en.e_d h r.0 (subst (λ (y : ℕ). O (in_desc h y)) z (ow (in_desc h e) o)) (desc_in N h e r.0 r.2).0 (to r.0 i).0 in
                yes_desc N (clear N q b W) h e t.0 t.1 (in_desc_lem N h e t.0 t.5 t.1 t.2) (out t.0 e (λ y w. t.4 y) (subst (λ (y : ℕ). W.has t.0 y ≡ true) (sym z) t.3))
    still (in_grand h e) o = at (find_grand N W h e (owed_true N W S0 u f (in_grand h e) o)) (ℕ_discrete e b)
      where
        at : (j : ℕ) × (j < I) × (inside N (in_grand h e) j ≡ true) × (W.has j e ≡ true) → Dec (e ≡ b) → ans N (clear N q b W) (in_grand h e) ≡ true
        at r (no z) = yes_grand N (clear N q b W) h e r.0 r.1 r.2 (out r.0 e (λ i y. z y) r.3)
        at r (yes z) = pick (inside N q r.0) refl
          where
            pick : (x : Bool) → inside N q r.0 ≡ x → ans N (clear N q b W) (in_grand h e) ≡ true
            pick false i = yes_grand N (clear N q b W) h e r.0 r.1 r.2 (clear_out N q b W r.0 e (λ y w. true≢false (sym y ∙ i)) r.3)
            pick true i =
                let t : (j : ℕ) × (j < I) × Under h (j / 4) × (W.has j b ≡ true) × (In j → ⊥) × (1 ≤ h) = en.e_g h r.0 (subst (λ (y : ℕ). O (in_grand h y)) z (ow (in_grand h e) o)) (grand_in N h e r.0 r.2).0 (to r.0 i).0 in
                yes_grand N (clear N q b W) h e t.0 t.1 (in_grand_lem N h e t.0 t.5 t.1 t.2) (out t.0 e (λ y w. t.4 y) (subst (λ (y : ℕ). W.has t.0 y ≡ true) (sym z) t.3))

    pub still_begins : Begins (clear N q b W) u
    unfolding ◌⊑◌
    still_begins = change N (clear N q b W) W (λ j e h. clear_below N q b W j e h) (λ j. unfold clear in refl) S0 u f still

    pub still_valid : Valid I P (clear N q b W)
    still_valid = record { cap = λ j e h. va.cap j e (clear_below N q b W j e h); top = top' (ℕ_discrete va.top.1 b) }
      where
        top' : Dec (va.top.1 ≡ b) → (j : ℕ) × (e : ℕ) × (j < I) × (suc e ≡ P) × ((clear N q b W).has j e ≡ true)
        top' (no z) = (va.top.0, va.top.1, va.top.2, va.top.3, out va.top.0 va.top.1 (λ i y. z y) va.top.4)
        top' (yes z) =
            let e : suc b ≡ P = ap suc (sym z) ∙ va.top.3 in
            let t : (j : ℕ) × (j < I) × (W.has j b ≡ true) × (In j → ⊥) = en.e_t e in
            (t.0, b, t.1, e, out t.0 b (λ y w. t.3 y) t.2)

  -- ---- what the question allows
  module _ (W k : Bits) (vv : Bool) (O : Question → Type 0) (k⊑W : (j e : ℕ) → k.has j e ≡ true → W.has j e ≡ true) (cap : (j e : ℕ) → W.has j e ≡ true → e < P) where
    abbrev Can : Question → Type 0
    Can (sign_of i) = W.neg i ≡ vv
    Can (bit_of i b) = (i < I) × Enough N P sz W O b (λ j. j ≡ i)
    Can (in_desc g b) = Enough N P sz W O b (λ j. Under g j)
    Can (in_grand g b) = Enough N P sz W O b (λ j. Under g (j / 4))

    abbrev CanL : Look → Type 0
    CanL over = Unit {0}
    CanL (silent s) = Unit {0}
    CanL (asks q) = Can q

    abbrev Yes : Question → Type 0
    Yes (sign_of i) = W.neg i ≡ vv
    Yes (bit_of i b) = ans N W (bit_of i b) ≡ true
    Yes (in_desc g b) = ans N W (in_desc g b) ≡ true
    Yes (in_grand g b) = ans N W (in_grand g b) ≡ true

    abbrev YesL : Look → Type 0
    YesL over = Unit {0}
    YesL (silent s) = Unit {0}
    YesL (asks q) = Yes q

    abbrev Here : ℕ → Pass → ℕ → Bool → List ℕ → Type 0
    Here l p i s m = All_at N P sz W vv k W O l p i s m

    can_pix : (b i : ℕ) (m : List ℕ) (x y : Bool) → ltb i I ≡ x → eqb (get_or m i 0) 1 ≡ y → Here (suc b) pixels i false m → CanL (look_pixels b i m x y) × YesL (look_pixels b i m x y)
    can_pix b i m false y ex ey z = (tt, tt)
    can_pix b i m true false ex ey z = (tt, tt)
    can_pix b i m true true ex ey z =
        let r : Open1 N W b (λ j. j ≡ i) = open_pix N P sz W k vv O k⊑W cap b i m z.1.0 (ltb-true i I ex) z.1.1 (eqb-true _ _ ey) in (
          (ltb-true i I ex, enough_pix N P sz W k vv O k⊑W cap b i m z.1.0 (ltb-true i I ex) z.1.1 (eqb-true _ _ ey)),
          yes_one N W i b (subst (λ (x : ℕ). W.has x b ≡ true) r.2 r.3),
        )

    can_sets : (b i : ℕ) (m : List ℕ) (x d g c : Bool) → ltb i I ≡ x → eqb (get_or m i 0) 5 ≡ d → eqb (get_or m i 0) 6 ≡ g → eqb (get_or m i 0) 4 ≡ c → Here (suc b) sets i false m
        → (Clash D I P b i m → ⊥) → CanL (look_sets b i m x d g c)
    can_sets b i m false d g c ex ed eg ec z n = tt
    can_sets b i m true false false false ex ed eg ec z n = tt
    can_sets b i m true true g c ex ed eg ec z n = enough_d N P sz W k vv O k⊑W cap b i m z.1.0 (ltb-true i I ex) z.0 z.1.1 (eqb-true _ _ ed) n
    can_sets b i m true false true c ex ed eg ec z n = enough_g N P sz W k vv O k⊑W cap b i m z.1.0 (ltb-true i I ex) z.0 z.1.1 (eqb-true _ _ eg) n
    can_sets b i m true false false true ex ed eg ec z n = (ltb-true i I ex, enough_c N P sz W k vv O k⊑W cap b i m z.1.0 (ltb-true i I ex) z.0 z.1.1 (eqb-true _ _ ec) n)

    yes_sets : (b i : ℕ) (m : List ℕ) (x d g c : Bool) → ltb i I ≡ x → eqb (get_or m i 0) 5 ≡ d → eqb (get_or m i 0) 6 ≡ g → eqb (get_or m i 0) 4 ≡ c → Here (suc b) sets i false m → YesL (look_sets b i m x d g c)
    yes_sets b i m false d g c ex ed eg ec z = tt
    yes_sets b i m true false false false ex ed eg ec z = tt
    yes_sets b i m true true g c ex ed eg ec z =
        let r : Open1 N W b (λ j. Under (i / 4) j) = open_d N P sz W k vv O k⊑W cap b i m z.1.0 (ltb-true i I ex) z.0 z.1.1 (eqb-true _ _ ed) in
        let is : Desc_at D I z.1.0 i = is_desc_at sz z.1.0 m z.1.1.g.core i (ltb-true i I ex) (eqb-true _ _ ed) in
        yes_desc N W (i / 4) b r.0 r.1 (in_desc_lem N (i / 4) b r.0 (omega (arith, is.3)) r.1 r.2) r.3
    yes_sets b i m true false true c ex ed eg ec z =
        let r : Open1 N W b (λ j. Under (i / 16) (j / 4)) = open_g N P sz W k vv O k⊑W cap b i m z.1.0 (ltb-true i I ex) z.0 z.1.1 (eqb-true _ _ eg) in
        let is : Grand_at D I z.1.0 i = is_grand_at sz z.1.0 m z.1.1.g.core i (ltb-true i I ex) (eqb-true _ _ eg) in
        yes_grand N W (i / 16) b r.0 r.1 (in_grand_lem N (i / 16) b r.0 (omega (arith, is.3)) r.1 r.2) r.3
    yes_sets b i m true false false true ex ed eg ec z =
        let r : Open1 N W b (λ j. j ≡ i) = open_c N P sz W k vv O k⊑W cap b i m z.1.0 (ltb-true i I ex) z.0 z.1.1 (eqb-true _ _ ec) in
        yes_one N W i b (subst (λ (x : ℕ). W.has x b ≡ true) r.2 r.3)

    can_fine : (b i : ℕ) (m : List ℕ) (x s n : Bool) → ltb i I ≡ x → eqb (get_or m i 0) 3 ≡ s → Here (suc b) refining i false m → CanL (look_refining b i m x s n) × YesL (look_refining b i m x s n)
    can_fine b i m false s n ex es z = (tt, tt)
    can_fine b i m true false true ex es z = (tt, tt)
    can_fine b i m true false false ex es z = (tt, tt)
    can_fine b i m true true n ex es z =
        let r : Open1 N W b (λ j. j ≡ i) = open_fine N P sz W k vv O k⊑W cap b i m z.1.0 (ltb-true i I ex) z.1.1 (eqb-true _ _ es) in (
          (ltb-true i I ex, enough_fine N P sz W k vv O k⊑W cap b i m z.1.0 (ltb-true i I ex) z.1.1 (eqb-true _ _ es)),
          yes_one N W i b (subst (λ (x : ℕ). W.has x b ≡ true) r.2 r.3),
        )

    sign_pix : (b i : ℕ) (m : List ℕ) → Here (suc b) pixels i true m → W.neg i ≡ vv
    sign_pix b i m z =
        let it : Alone_at D I z.1.0 m i = is_alone sz z.1.0 m z.1.1.g.core i z.2 (omega (arith, z.3)) (omega (arith, z.3)) in
        z.1.1.ho.ng i (λ a l u. omega (arith, it.1, z.3))

    sign_sets : (b i : ℕ) (m : List ℕ) → Here (suc b) sets i true m → W.neg i ≡ vv
    sign_sets b i m z =
        let it : Alone_at D I z.1.0 m i = is_alone sz z.1.0 m z.1.1.g.core i z.2 (omega (arith, z.3)) (omega (arith, z.3)) in
        z.1.1.ho.ng i (λ a l u. omega (arith, it.1, z.3))

    can_look : (l : ℕ) (p : Pass) (i : ℕ) (s : Bool) (m : List ℕ) → Here l p i s m → (Clash_at l p i s m → ⊥) → CanL (look_at I l p i s m)
    can_look zero p i s m z n = tt
    can_look (suc b) pixels i true m z n = sign_pix b i m z
    can_look (suc b) sets i true m z n = sign_sets b i m z
    can_look (suc b) refining i true m z n = absurd z
    can_look (suc b) pixels i false m z n = (can_pix b i m (ltb i I) (eqb (get_or m i 0) 1) refl refl z).0
    can_look (suc b) sets i false m z n = can_sets b i m (ltb i I) (eqb (get_or m i 0) 5) (eqb (get_or m i 0) 6) (eqb (get_or m i 0) 4) refl refl refl refl z n
    can_look (suc b) refining i false m z n = (can_fine b i m (ltb i I) (eqb (get_or m i 0) 3) (eqb (get_or m i 0) 2) refl refl z).0

    yes_look : (l : ℕ) (p : Pass) (i : ℕ) (s : Bool) (m : List ℕ) → Here l p i s m → YesL (look_at I l p i s m)
    yes_look zero p i s m z = tt
    yes_look (suc b) pixels i true m z = sign_pix b i m z
    yes_look (suc b) sets i true m z = sign_sets b i m z
    yes_look (suc b) refining i true m z = absurd z
    yes_look (suc b) pixels i false m z = (can_pix b i m (ltb i I) (eqb (get_or m i 0) 1) refl refl z).1
    yes_look (suc b) sets i false m z = yes_sets b i m (ltb i I) (eqb (get_or m i 0) 5) (eqb (get_or m i 0) 6) (eqb (get_or m i 0) 4) refl refl refl refl z
    yes_look (suc b) refining i false m z = (can_fine b i m (ltb i I) (eqb (get_or m i 0) 3) (eqb (get_or m i 0) 2) refl refl z).1

  abbrev pub all_of : Bool → Bits
  all_of v = record { has = λ i b. ltb b P; neg = λ i. v }

  -- a next bit that is no 0 at a clash begins the stream of some array of P planes
  pub accepts : (A : Bits) → Valid I P A → (u : List Bool) → Begins A u → (q : Question) → ask I (reach (4 ^ N) S0 u) ≡ some q → (a : Bool) → (a ≡ false → Clashes (reach (4 ^ N) S0 u) → ⊥)
      → (B : Bits) × Valid I P B × Begins B (u ++ (a ∷ []))
  unfolding ◌⊑◌ ask
  accepts A va u f q eq a n = fin a refl (look I s) refl (λ e. can_look W k a O k⊑W cap s.left s.pass s.place s.pending s.marks z (n e)) (yes_look W k a O k⊑W cap s.left s.pass s.place s.pending s.marks z)
    where
      s : State
      s = reach (4 ^ N) S0 u

      W : Bits
      W = most N S0 u (all_of a)

      k : Bits
      k = least N S0 u nothing

      A⊑ : A ⊑ all_of a
      A⊑ j e h = lt-ltb e P (va.cap j e h)

      f_w : Begins W u
      f_w = most_fits N A S0 u (all_of a) f A⊑

      O : Question → Type 0
      O = Owing N S0 u (λ p. ⊥)

      z : All N P sz W a k W O s
      z = all_run N P sz W a nothing (all_of a) (λ p. ⊥) S0 u (all_start N P sz W a) f_w

      cap : (j e : ℕ) → W.has j e ≡ true → e < P
      cap j e h = ltb-true e P (most_below N S0 u (all_of a) j e h)

      k⊑W : (j e : ℕ) → k.has j e ≡ true → W.has j e ≡ true
      k⊑W j e h = least_below N W S0 u nothing f_w (λ i b y. absurd (false≢true y)) j e h

      v_w : Valid I P W
      v_w = record { cap = cap; top = (va.top.0, va.top.1, va.top.2, va.top.3, most_keeps N A S0 u (all_of a) f A⊑ va.top.0 va.top.1 va.top.4) }

      ow : (p : Question) → Owed N S0 u p → O p
      ow p o = owing W a S0 u (λ p. ⊥) p o

      add : (B : Bits) (p : Question) (c : Bool) → look I s ≡ asks p → Begins B u → ans N B p ≡ c → Begins B (u ++ (c ∷ []))
      add B p c e g h = fit_append N B S0 u (c ∷ []) g (subst (λ (L : Look). told N B (asked I L) c) (sym e) h, tt)

      fin : (x : Bool) → a ≡ x → (L : Look) → look I s ≡ L → (a ≡ false → CanL W k a O k⊑W cap L) → YesL W k a O k⊑W cap L → (B : Bits) × Valid I P B × Begins B (u ++ (x ∷ []))
      fin x ex over e c y = absurd (let bad : none ≡ some q = subst (λ (L : Look). asked I L ≡ some q) e eq in let b : ◌≡◌ {A = ℕ} 0 1 = cc in omega arith)
      fin x ex (silent r) e c y = absurd (let bad : none ≡ some q = subst (λ (L : Look). asked I L ≡ some q) e eq in let b : ◌≡◌ {A = ℕ} 0 1 = cc in omega arith)
      fin x ex (asks (sign_of i)) e c y = (W, v_w, add W (sign_of i) x e f_w (yes_sgn N W i x (y ∙ ex)))
      fin true ex (asks (bit_of i b)) e c y = (W, v_w, add W (bit_of i b) true e f_w y)
      fin true ex (asks (in_desc g b)) e c y = (W, v_w, add W (in_desc g b) true e f_w y)
      fin true ex (asks (in_grand g b)) e c y = (W, v_w, add W (in_grand g b) true e f_w y)
      fin false ex (asks (bit_of i b)) e c y = (
        clear N (bit_of i b) b W,
        still_valid W O u v_w f_w ow (bit_of i b) b (λ j. j ≡ i) (λ j h. (one_in N i b j h, subst (λ (r : ℕ). r < I) (sym (one_in N i b j h)) (c ex).0)) (c ex).1,
        add (clear N (bit_of i b) b W) (bit_of i b) false e (still_begins W O u v_w f_w ow (bit_of i b) b (λ j. j ≡ i) (λ j h. (one_in N i b j h, subst (λ (r : ℕ). r < I) (sym (one_in N i b j h)) (c ex).0)) (c ex).1) (cleared_one N i b W),
      )
      fin false ex (asks (in_desc g b)) e c y = (
        clear N (in_desc g b) b W,
        still_valid W O u v_w f_w ow (in_desc g b) b (λ j. Under g j) (desc_in N g b) (c ex),
        add (clear N (in_desc g b) b W) (in_desc g b) false e (still_begins W O u v_w f_w ow (in_desc g b) b (λ j. Under g j) (desc_in N g b) (c ex)) (cleared_desc N g b W),
      )
      fin false ex (asks (in_grand g b)) e c y = (
        clear N (in_grand g b) b W,
        still_valid W O u v_w f_w ow (in_grand g b) b (λ j. Under g (j / 4)) (grand_in N g b) (c ex),
        add (clear N (in_grand g b) b W) (in_grand g b) false e (still_begins W O u v_w f_w ow (in_grand g b) b (λ j. Under g (j / 4)) (grand_in N g b) (c ex)) (cleared_grand N g b W),
      )
