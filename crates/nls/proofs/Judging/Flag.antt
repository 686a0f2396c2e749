-- At the last root of the first plane nothing was found significant exactly if no 1 was read.
use mathlib.Core.Path.{◌≡◌, refl, sym, ap, subst, ◌∙◌}
use mathlib.Core.Bool.{Bool, true, false, not, true≢false, false≢true, ◌||◌}
use mathlib.Core.Logic.{◌⊎◌, inl, inr}
use mathlib.Core.Option.{Option, none, some}
use mathlib.Core.List.{List, [], ◌∷◌}
use Prim.Native.Nat.{ℕ, zero, suc, ◌+◌, ◌*◌, ◌/◌, ◌^◌, ◌≤◌, ◌<◌}
use native.Mathlib.Omega.{arith}
use native.Mathlib.Decide.{dec_lt, ℕ_discrete}
use lib.ListN.{get_or}
use lib.Dec.{ltb, eqb}
use Rattle.nls.specs.Scan.{State, Look, over, silent, asks, Question, bit_of, sign_of, in_desc, in_grand, Pass, pixels, sets, refining, look, look_at, look_pixels, look_sets, look_refining, ask, asked, next, reach, start}
use Rattle.nls.proofs.Judging.Apart.{whole_d}
use Rattle.nls.proofs.Tiled.{Tiled}
use Rattle.nls.proofs.Booleans.{neither}
use Rattle.nls.proofs.Arrays.{Bits, told, Fit}
use Rattle.nls.proofs.Judging.Most.{most, after_o}
use Rattle.nls.proofs.Reading.Know.{least, know, know_o, know_sgn_has}
use Rattle.nls.proofs.Judging.Owed.{Owed}
use Rattle.nls.proofs.Machine.Table.{alone, stands, no_stands, alone_no, alone_low}
use Rattle.nls.proofs.Machine.Cover.{Under, Core, is_desc_at, mark_d, Desc_at}
use Rattle.nls.proofs.Machine.Steps.{Fam, Good, Good_at, Learned, On_ask, good_next, good_mono}
use Rattle.nls.proofs.Judging.Clash.{root}
use Rattle.nls.proofs.Machine.Start.{nothing, good_start}
use Rattle.nls.proofs.Judging.Open.{All, All_at, Owing, all_next, all_run, all_start}
use Rattle.nls.proofs.Judging.Decide.{None}

-- a 1 was read
unfoldable pub lit : List Bool → Bool
lit [] = false
lit (a ∷ u) = a || lit u

abbrev Plain : Question → Type 0
Plain (bit_of i b) = Unit {0}
Plain (sign_of i) = ⊥
Plain (in_desc g b) = Unit {0}
Plain (in_grand g b) = Unit {0}

-- a set was split only after a 1
abbrev pub F1 : Type 0 → Fam
F1 fl = record { X = λ b j. Unit {0}; Y = λ j. Unit {0}; QD = λ b h. fl; QG = λ b h. fl; Z = λ j. ⊥; dn_d = λ b h x. x; dn_g = λ b h x. x }

abbrev pub Fl : List Bool → Type 0 → Type 0
Fl [] fl = fl
Fl (a ∷ u) fl = Fl u (fl ⊎ (a ≡ true))

pub unfl : (u : List Bool) (fl : Type 0) → (fl → ⊥) → lit u ≡ false → Fl u fl → ⊥
unfolding lit
unfl [] fl n e x = n x
unfl (a ∷ u) fl n e x = unfl u (fl ⊎ (a ≡ true)) go (neither a (lit u) e).1 x
  where
    go : fl ⊎ (a ≡ true) → ⊥
    go (inl y) = n y
    go (inr y) = true≢false (sym y ∙ (neither a (lit u) e).0)

-- nothing is known without a 1
abbrev pub Blank : Bits → Type 0
Blank k = (j e : ℕ) → k.has j e ≡ true → ⊥

blank_o : (o : Option Question) (k : Bits) → Blank k → Blank (know_o o false k)
unfolding know
blank_o none k n = n
blank_o (some (bit_of i b)) k n = n
blank_o (some (sign_of i)) k n = λ j e h. n j e (sym (know_sgn_has i false k j e) ∙ h)
blank_o (some (in_desc g b)) k n = n
blank_o (some (in_grand g b)) k n = n

module _ (N : ℕ) where
  pub blank_run : (s : State) (u : List Bool) (k : Bits) → lit u ≡ false → Blank k → Blank (least N s u k)
  unfolding lit
  blank_run s [] k e n = n
  blank_run s (true ∷ u) k e n = absurd (true≢false e)
  blank_run s (false ∷ u) k e n = blank_run (next (4 ^ N) s false) u (know_o (ask (4 ^ N) s) false k) e (blank_o (ask (4 ^ N) s) k n)

-- no sign is asked where none is pending
abbrev Not_sgn : Look → Type 0
Not_sgn over = Unit {0}
Not_sgn (silent t) = Unit {0}
Not_sgn (asks q) = Plain q

plain_pix : (b i : ℕ) (m : List ℕ) (x y : Bool) → Not_sgn (look_pixels b i m x y)
plain_pix b i m false y = tt
plain_pix b i m true true = tt
plain_pix b i m true false = tt

plain_sets : (b i : ℕ) (m : List ℕ) (x d g c : Bool) → Not_sgn (look_sets b i m x d g c)
plain_sets b i m false d g c = tt
plain_sets b i m true true g c = tt
plain_sets b i m true false true c = tt
plain_sets b i m true false false true = tt
plain_sets b i m true false false false = tt

plain_fine : (b i : ℕ) (m : List ℕ) (x s y : Bool) → Not_sgn (look_refining b i m x s y)
plain_fine b i m false s y = tt
plain_fine b i m true true y = tt
plain_fine b i m true false true = tt
plain_fine b i m true false false = tt

module _ (N : ℕ) {D : ℕ} (P : ℕ) (sz : Tiled D (4 ^ N)) where
  abbrev I : ℕ
  I = 4 ^ N

  abbrev S : State
  S = start I D P

  learned1 : (fl : Type 0) (q : Question) (a : Bool) → Learned I (F1 (fl ⊎ (a ≡ true))) (λ j. ⊥) q a
  learned1 fl (bit_of i b) true = (tt, λ j z n. z)
  learned1 fl (bit_of i b) false = (tt, λ j z. z)
  learned1 fl (sign_of i) a = (tt, λ j z. z)
  learned1 fl (in_desc g b) true = (inr refl, λ j z. z)
  learned1 fl (in_desc g b) false = ((λ g1 i hi u. tt), λ j z. z)
  learned1 fl (in_grand g b) true = (inr refl, λ j z. z)
  learned1 fl (in_grand g b) false = ((λ g1 i hi u. tt), λ j z. z)

  pub on_ask1 : (A : Bits) (fl : Type 0) (a : Bool) (L : Look) → told N A (asked I L) a → On_ask I (F1 (fl ⊎ (a ≡ true))) (λ j. ⊥) a L
  on_ask1 A fl a over t = t
  on_ask1 A fl a (silent s) t = t
  on_ask1 A fl a (asks q) t = learned1 fl q a

  run1 : (A : Bits) (fl : Type 0) (s : State) (u : List Bool) → Good sz P (F1 fl) s → Fit N A s u → Good sz P (F1 (Fl u fl)) (reach (4 ^ N) s u)
  unfolding reach ask
  run1 A fl s [] g f = g
  run1 A fl s (a ∷ u) g f = run1 A (fl ⊎ (a ≡ true)) (next I s a) u
      (good_next sz P (F1 (fl ⊎ (a ≡ true))) (λ j. ⊥) s a
      (good_mono sz P (F1 fl) (F1 (fl ⊎ (a ≡ true))) (λ b j x. x) (λ j x. x) (λ b j x. inl x) (λ b j x. inl x) (λ j z. z) s g) (on_ask1 A fl a (look I s) f.0)) f.1

  -- a sign is asked only after a 1
  module _ (A k w : Bits) (O : Question → Type 0) (n : Blank k) where
    plain_at : (l : ℕ) (p : Pass) (i : ℕ) (s : Bool) (m : List ℕ) → All_at N P sz A false k w O l p i s m → Not_sgn (look_at I l p i s m)
    plain_at zero p i s m z = tt
    plain_at (suc b) pixels i true m z = absurd (n i b z.5)
    plain_at (suc b) sets i true m z = absurd (n i b z.5)
    plain_at (suc b) refining i true m z = absurd z
    plain_at (suc b) pixels i false m z = plain_pix b i m (ltb i I) (eqb (get_or m i 0) 1)
    plain_at (suc b) sets i false m z = plain_sets b i m (ltb i I) (eqb (get_or m i 0) 5) (eqb (get_or m i 0) 6) (eqb (get_or m i 0) 4)
    plain_at (suc b) refining i false m z = plain_fine b i m (ltb i I) (eqb (get_or m i 0) 3) (eqb (get_or m i 0) 2)

  -- the first 1 answers no sign
  first_1 : (A k w : Bits) (O : Question → Type 0) (s : State) (u : List Bool) → All N P sz A false k w O s → Blank k → Fit N A s u → lit u ≡ true → (p : Question) × Plain p × Owed N s u p
  unfolding lit
  first_1 A k w O s [] z n f e = absurd (false≢true e)
  first_1 A k w O s (false ∷ u) z n f e =
      let r : (p : Question) × Plain p × Owed N (next I s false) u p = first_1 A (know_o (ask I s) false k) (after_o N (ask I s) false w) (λ p. O p ⊎ ((false ≡ true) × (ask I s ≡ some p))) (next I s false) u (all_next N P sz A false k w O s false z f.0) (blank_o (ask I s) k n) f.1 e in
      (r.0, r.1, inr r.2)
  first_1 A k w O s (true ∷ u) z n f e = go (look I s) refl (plain_at A k w O n s.left s.pass s.place s.pending s.marks z) (unfold ask in f.0)
    where
      go : (L : Look) → look I s ≡ L → Not_sgn L → told N A (asked I (look I s)) true → (p : Question) × Plain p × Owed N s (true ∷ u) p
      go over q y t = absurd (subst (λ (L : Look). told N A (asked I L) true) q t)
      go (silent r) q y t = absurd (subst (λ (L : Look). told N A (asked I L) true) q t)
      go (asks p) q y t = (p, y, inl (refl, (unfold ask in ap (λ (L : Look). asked I L) q)))

  -- with nothing marked, nothing was answered 1
  module _ (A k w : Bits) (O : Question → Type 0) (b i : ℕ) (m : List ℕ) (hi : i < I) (mk : get_or m i 0 ≡ 5) (te : i + 4 ≡ 4 * D)
      (z : All_at N P sz A false k w O (suc b) sets i false m) where
    kk : Core sz z.1.0 m
    kk = z.1.1.g.core

    isd : Desc_at D I z.1.0 i
    isd = is_desc_at sz z.1.0 m kk i hi mk

    -- no 1: places below D have MIP
    ones : Blank k → (j : ℕ) → j < D → get_or m j 0 ≡ 1
    ones n j h = go (ℕ_discrete (get_or m j 0) 2) (ℕ_discrete (get_or m j 0) 3) (ℕ_discrete (get_or m j 0) 4)
      where
        go : Dec (get_or m j 0 ≡ 2) → Dec (get_or m j 0 ≡ 3) → Dec (get_or m j 0 ≡ 4) → get_or m j 0 ≡ 1
        go (yes e) y x = absurd (n j b (z.1.1.fr.m2 j (omega arith) e))
        go (no e) (yes y) x = let r : (e : ℕ) × (b < e) × (k.has j e ≡ true) = z.1.1.fr.m3 j (omega arith) y in absurd (n j r.0 r.2)
        go (no e) (no y) (yes x) = absurd (omega (arith, isd.3, (z.1.1.g.four j (omega arith) (alone_low D I z.1.0 j h) (sym (kk.tab.solo j (omega arith) (alone_low D I z.1.0 j h)) ∙ x)).0))
        go (no e) (no y) (no x) = omega (arith, kk.tab.solo j (omega arith) (alone_low D I z.1.0 j h), kk.rng j (omega arith) (alone_low D I z.1.0 j h))

    -- the roots are unsplit
    unsplit : None D i m → (h : ℕ) → D ≤ 4 * h → h < D → z.1.0.s_d h ≡ false
    unsplit n h lo hd = subst (λ (x : ℕ). z.1.0.s_d x ≡ false) {x = 4 * h / 4} {y = h} (omega arith) (is_desc_at sz z.1.0 m kk (4 * h) (omega arith) (at (ℕ_discrete (4 * h) i))).2
      where
        at : Dec (4 * h ≡ i) → get_or m (4 * h) 0 ≡ 5
        at (yes e) = ap (λ (x : ℕ). get_or m x 0) e ∙ mk
        at (no e) = n.1 h lo (omega arith)

    no_split : None D i m → (h : ℕ) → z.1.0.s_d h ≡ true → ⊥
    no_split n h s = go (dec_lt h D)
      where
        go : Dec (h < D) → ⊥
        go (yes y) = true≢false (sym s ∙ unsplit n h (kk.ok.lo h s) y)
        go (no y) =
            let r : (g : ℕ) × (D ≤ 4 * g) × (g < D) × Under g h = root sz h h (omega arith) (omega arith) in
            whole_d sz z.1.0 kk.ok r.0 h r.1 (unsplit n r.0 r.1 r.2) r.3 s

    none_owed : None D i m → (p : Question) → Plain p → O p → ⊥
    none_owed n (sign_of j) y o = y
    none_owed n (in_desc h e) y o = no_split n h (z.1.1.de.o_d h e o).0
    none_owed n (in_grand h e) y o = no_split n h (kk.ok.gd h (z.1.1.de.o_g h e o).0)
    none_owed n (bit_of j e) y o =
        let h : k.has j e ≡ true = (z.1.1.de.o_o j e o).0 in
        let r : (alone D I z.1.0 j ≡ true) × (2 ≤ z.1.0.al j) × (z.1.0.al j ≤ 3) = z.1.1.g.more.zs j (z.1.1.de.o_o j e o).3 (e, h) in
        go (z.1.1.de.o_o j e o).3 r (dec_lt j D) (z.1.0.s_d (j / 4)) refl
      where
        go : j < I → (alone D I z.1.0 j ≡ true) × (2 ≤ z.1.0.al j) × (z.1.0.al j ≤ 3) → Dec (j < D) → (x : Bool) → z.1.0.s_d (j / 4) ≡ x → ⊥
        go hj r (yes l) x s = omega (arith, r.1, kk.tab.solo j hj r.0, n.0 j l)
        go hj r (no l) true s = no_split n (j / 4) s
        go hj r (no l) false s = true≢false (sym r.0 ∙ alone_no D I z.1.0 j (omega arith) s)

  -- the flag says so
  module _ (A : Bits) (u : List Bool) (f : Fit N A (start I D P) u) where
    pub z : All N P sz A false (least N S u nothing) (most N S u (record { has = λ i b. ltb b P; neg = λ i. false })) (Owing N S u (λ p. ⊥)) (reach (4 ^ N) S u)
    z = all_run N P sz A false nothing (record { has = λ i b. ltb b P; neg = λ i. false }) (λ p. ⊥) S u (all_start N P sz A false) f

    pub g1 : Good sz P (F1 (Fl u ⊥)) (reach (4 ^ N) S u)
    g1 = run1 A ⊥ S u (good_start sz P (F1 ⊥) (λ j y. y)) f

    pub flag_to : (k w : Bits) (O : Question → Type 0) (b i : ℕ) (m : List ℕ) → i < I → get_or m i 0 ≡ 5 → i + 4 ≡ 4 * D → All_at N P sz A false k w O (suc b) sets i false m
        → Good_at sz P (F1 (Fl u ⊥)) (suc b) sets i false m → Blank k → lit u ≡ false → None D i m
    flag_to k w O b i m hi mk te z g n e = (ones A k w O b i m hi mk te z n, λ h lo l. pick h lo l (g.1.0.s_d h) refl)
      where
        pick : (h : ℕ) → D ≤ 4 * h → 4 * h < i → (x : Bool) → g.1.0.s_d h ≡ x → get_or m (4 * h) 0 ≡ 5
        pick h lo l true s = absurd (unfl u ⊥ (λ y. y) e (g.1.1.more.q_d h s))
        pick h lo l false s = mark_d sz g.1.0 m g.1.1.core h lo (omega arith) (st (stands D I g.1.0 h) refl) s
          where
            st : (x : Bool) → stands D I g.1.0 h ≡ x → stands D I g.1.0 h ≡ true
            st true y = y
            st false y = absurd (omega (arith, (no_stands D I g.1.0 h y).0))

    pub flag_of : (k w : Bits) (O : Question → Type 0) (b i : ℕ) (m : List ℕ) → i < I → get_or m i 0 ≡ 5 → i + 4 ≡ 4 * D → All_at N P sz A false k w O (suc b) sets i false m
        → ((p : Question) → Owed N (start I D P) u p → O p) → None D i m → (x : Bool) → lit u ≡ x → not (lit u) ≡ true
    flag_of k w O b i m hi mk te z ow n false e = ap not e
    flag_of k w O b i m hi mk te z ow n true e =
        let r : (p : Question) × Plain p × Owed N S u p = first_1 A nothing (record { has = λ i b. ltb b P; neg = λ i. false }) (λ p. ⊥) S u (all_start N P sz A false) (λ j e h. false≢true h) f e in
        absurd (none_owed A k w O b i m hi mk te z n r.0 r.1 (ow r.0 r.2))
