-- Only places below I are asked: an array may be taken to be 0 from I on, so it is a list of I numbers.
use mathlib.Core.Path.{◌≡◌, refl, sym, ◌∙◌, ap}
use mathlib.Core.Bool.{Bool, true, false, ◌&&◌, true≢false, false≢true}
use mathlib.Core.List.{List, [], ◌∷◌}
use Prim.Native.Nat.{ℕ, zero, suc, ◌^◌, ◌≤◌, ◌<◌, ◌-◌}
use native.Mathlib.Omega.{arith}
use lib.ListN.{get_or}
use lib.Dec.{ltb, eqb}
use borrow.Author.Tests.{ltb-true, lt-ltb, le-ltb}
use Rattle.sizes.proofs.Laws.{both_right, both}
use Rattle.bits.specs.Bits.{digit, number}
use Rattle.nls.specs.Scan.{State, Look, over, silent, asks, Question, bit_of, sign_of, in_desc, in_grand, Pass, pixels, sets, refining, look, look_at, look_pixels, look_sets, look_refining, ask, asked, next, start}
use Rattle.nls.proofs.Booleans.{same_bool}
use Rattle.nls.proofs.Arrays.{Arr, Bits, bits_of_arr, ans, inside, told, Fit}
use Rattle.nls.proofs.Judging.Clash.{Valid}
use Rattle.nls.proofs.Judging.Refuse.{find_desc, find_grand, yes_desc, yes_grand}
use Rattle.nls.proofs.Judging.Numbers.{Planes, arr_of, arr_has, planes_of_lem, fits_ext}

-- what is asked about is below I
abbrev In : ℕ → Look → Type 0
In I over = Unit {0}
In I (silent t) = Unit {0}
In I (asks (bit_of i b)) = i < I
In I (asks (sign_of i)) = Unit {0}
In I (asks (in_desc g b)) = Unit {0}
In I (asks (in_grand g b)) = Unit {0}

module _ (I : ℕ) where
  in_pix : (b i : ℕ) (m : List ℕ) (x y : Bool) → ltb i I ≡ x → In I (look_pixels b i m x y)
  in_pix b i m false y e = tt
  in_pix b i m true true e = ltb-true i I e
  in_pix b i m true false e = tt

  in_sets : (b i : ℕ) (m : List ℕ) (x d g c : Bool) → ltb i I ≡ x → In I (look_sets b i m x d g c)
  in_sets b i m false d g c e = tt
  in_sets b i m true true g c e = tt
  in_sets b i m true false true c e = tt
  in_sets b i m true false false true e = ltb-true i I e
  in_sets b i m true false false false e = tt

  in_fine : (b i : ℕ) (m : List ℕ) (x s n : Bool) → ltb i I ≡ x → In I (look_refining b i m x s n)
  in_fine b i m false s n e = tt
  in_fine b i m true true n e = ltb-true i I e
  in_fine b i m true false true e = tt
  in_fine b i m true false false e = tt

  in_at : (l : ℕ) (p : Pass) (i : ℕ) (s : Bool) (m : List ℕ) → In I (look_at I l p i s m)
  in_at zero p i s m = tt
  in_at (suc b) p i true m = tt
  in_at (suc b) pixels i false m = in_pix b i m (ltb i I) (eqb (get_or m i 0) 1) refl
  in_at (suc b) sets i false m = in_sets b i m (ltb i I) (eqb (get_or m i 0) 5) (eqb (get_or m i 0) 6) (eqb (get_or m i 0) 4) refl
  in_at (suc b) refining i false m = in_fine b i m (ltb i I) (eqb (get_or m i 0) 3) (eqb (get_or m i 0) 2) refl

abbrev pub only : ℕ → Bits → Bits
only I B = record { has = λ j e. ltb j I && B.has j e; neg = B.neg }

keep : (x y : Bool) → x ≡ true → (x && y) ≡ y
keep true y e = refl
keep false y e = absurd (false≢true e)

pub drop : (x y : Bool) → x ≡ false → (x && y) ≡ false
drop true y e = absurd (true≢false e)
drop false y e = refl

pub number_0 : (n : ℕ) (f : ℕ → Bool) → ((k : ℕ) → f k ≡ false) → number n f ≡ 0
unfolding number
number_0 zero f h = refl
number_0 (suc n) f h = let none : digit (f n) ≡ 0 = ap (λ (x : Bool). digit x) (h n) in omega (arith, number_0 n f h)

module _ (N : ℕ) where
  only_ans : (B : Bits) (q : Question) → In (4 ^ N) (asks q) → ans N B q ≡ ans N (only (4 ^ N) B) q
  only_ans B (bit_of i b) h = unfold ans in sym (keep (ltb i (4 ^ N)) (B.has i b) (lt-ltb i (4 ^ N) h))
  only_ans B (sign_of i) h = unfold ans in refl
  only_ans B (in_desc g b) h = same_bool _ _
      (λ e. (let r : (j : ℕ) × (j < 4 ^ N) × (inside N (in_desc g b) j ≡ true) × (B.has j b ≡ true) = find_desc N B g b e in yes_desc N (only (4 ^ N) B) g b r.0 r.1 r.2 (both (lt-ltb r.0 (4 ^ N) r.1) r.3)))
      (λ e. (let r : (j : ℕ) × (j < 4 ^ N) × (inside N (in_desc g b) j ≡ true) × ((ltb j (4 ^ N) && B.has j b) ≡ true) = find_desc N (only (4 ^ N) B) g b e in yes_desc N B g b r.0 r.1 r.2 (both_right (ltb r.0 (4 ^ N)) (B.has r.0 b) r.3)))
  only_ans B (in_grand g b) h = same_bool _ _
      (λ e. (let r : (j : ℕ) × (j < 4 ^ N) × (inside N (in_grand g b) j ≡ true) × (B.has j b ≡ true) = find_grand N B g b e in yes_grand N (only (4 ^ N) B) g b r.0 r.1 r.2 (both (lt-ltb r.0 (4 ^ N) r.1) r.3)))
      (λ e. (let r : (j : ℕ) × (j < 4 ^ N) × (inside N (in_grand g b) j ≡ true) × ((ltb j (4 ^ N) && B.has j b) ≡ true) = find_grand N (only (4 ^ N) B) g b e in yes_grand N B g b r.0 r.1 r.2 (both_right (ltb r.0 (4 ^ N)) (B.has r.0 b) r.3)))

  pub only_fits : (B : Bits) (s : State) (u : List Bool) → Fit N B s u → Fit N (only (4 ^ N) B) s u
  unfolding ask
  only_fits B s [] f = tt
  only_fits B s (a ∷ u) f = (go (look (4 ^ N) s) (in_at (4 ^ N) s.left s.pass s.place s.pending s.marks) f.0, only_fits B (next (4 ^ N) s a) u f.1)
    where
      go : (L : Look) → In (4 ^ N) L → told N B (asked (4 ^ N) L) a → told N (only (4 ^ N) B) (asked (4 ^ N) L) a
      go over i t = t
      go (silent r) i t = t
      go (asks q) i t = sym (only_ans B q i) ∙ t

  pub only_valid : (P : ℕ) (B : Bits) → Valid (4 ^ N) P B → Valid (4 ^ N) P (only (4 ^ N) B)
  only_valid P B v = record {
    cap = λ j e h. v.cap j e (both_right (ltb j (4 ^ N)) (B.has j e) h);
    top = (v.top.0, v.top.1, v.top.2, v.top.3, both (lt-ltb v.top.0 (4 ^ N) v.top.2) v.top.4);
  }

  -- some array of bits is some array of numbers that is 0 from I on
  unfoldable pub to_list : (D P : ℕ) (u : List Bool) → (B : Bits) × Valid (4 ^ N) P B × Fit N B (start (4 ^ N) D P) u
      → (A : Arr) × Planes (4 ^ N) P A × Fit N (bits_of_arr A) (start (4 ^ N) D P) u × ((j : ℕ) → 4 ^ N ≤ j → A.mag j ≡ 0)
  to_list D P u w = (
    arr_of P (only (4 ^ N) w.0),
    planes_of_lem (4 ^ N) P (only (4 ^ N) w.0) (only_valid P w.0 w.1),
    fits_ext N (only (4 ^ N) w.0) (bits_of_arr (arr_of P (only (4 ^ N) w.0))) (λ j e. sym (arr_has (4 ^ N) P (only (4 ^ N) w.0) (only_valid P w.0 w.1) j e)) (λ j. refl) (start (4 ^ N) D P) u (only_fits w.0 (start (4 ^ N) D P) u w.2),
    λ j h. number_0 P (λ k. ltb j (4 ^ N) && w.0.has j (P - 1 - k)) (λ k. drop (ltb j (4 ^ N)) (w.0.has j (P - 1 - k)) (le-ltb j (4 ^ N) h)),
  )
