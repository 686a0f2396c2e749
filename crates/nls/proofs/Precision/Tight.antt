-- The precisions are tight (T-04): where a coefficient has precision k of at least 1, two arrays whose streams begin with the bits differ
-- there by at least 2^(k-1). They are the greatest array that the bits allow, with one sign and with the other where the sign was not read,
-- and else with bit k-1 and without it.
use mathlib.Core.Path.{◌≡◌, refl, sym, ap, subst, ◌∙◌}
use mathlib.Core.Bool.{Bool, true, false, cond, ◌&&◌, true≢false, false≢true}
use mathlib.Core.Logic.{◌⊎◌, inl, inr, ⊎_elim}
use mathlib.Core.List.{List}
use Prim.Native.Nat.{ℕ, zero, suc, ◌+◌, ◌*◌, ◌-◌, ◌/◌, ◌^◌, ◌≤◌, ◌<◌}
use native.Mathlib.Omega.{arith}
use native.Mathlib.Nat.{pow-succ', min-le_left}
use native.Mathlib.Decide.{ℕ_discrete}
use lib.Dec.{ltb}
use lib.IntN.{ℤ, pos, negsuc, nat_abs, sub_ℕ, ◌-ℤ◌}
use lib.ListN.{get_or}
use borrow.Author.Tests.{ltb-true, ltb-false, lt-ltb}
use Rattle.sizes.specs.Sizes.{all_of, coarsest_of, Sized}
use Rattle.sizes.proofs.Tables.{table_at}
use Rattle.bits.specs.Bits.{digit, number}
use Rattle.bits.proofs.Laws.{bit_high, number_ext}
use Rattle.coef.specs.Coef.{at, mag_at, signed}
use Rattle.nls.specs.Scan.{Question, bit_of, in_desc, in_grand, State, Pass, pixels, sets, refining}
use Rattle.nls.specs.Stream.{begin, after}
use Rattle.nls.specs.Reading.{known, precision_at}
use Rattle.nls.specs.Judging.{Begins, Fits}
use Rattle.nls.proofs.Tiled.{Tiled, tiled}
use Rattle.nls.proofs.Booleans.{same_bool}
use Rattle.nls.proofs.Arrays.{Bits, inside, ans, ◌⊑◌, Fit}
use Rattle.nls.proofs.Counting.Sums.{order}
use Rattle.nls.proofs.Machine.Table.{Cfg}
use Rattle.nls.proofs.Machine.Cover.{Under, Core, is_alone, Alone_at}
use Rattle.nls.proofs.Machine.Start.{nothing}
use Rattle.nls.proofs.Reading.Know.{least, least_below}
use Rattle.nls.proofs.Judging.Most.{most, most_fits, most_keeps, most_below, clear}
use Rattle.nls.proofs.Judging.Owed.{Owed}
use Rattle.nls.proofs.Judging.Debt.{Hold, Debt}
use Rattle.nls.proofs.Judging.Open.{All_at, Owing, all_run, all_start, clear_out}
use Rattle.nls.proofs.Judging.Clash.{Valid}
use Rattle.nls.proofs.Judging.Enough.{Enough}
use Rattle.nls.proofs.Judging.Refuse.{clear_below, cleared_one, one_in, owing, still_begins, still_valid}
use Rattle.nls.proofs.Judging.Numbers.{num, num_bit}
use Rattle.nls.proofs.Known.{known_sound, precision_left, left_most}
use Rattle.nls.proofs.KnownBits.{answered_own}
use Rattle.nls.proofs.Precision.OwnBits.{found_marked}
use Rattle.nls.proofs.Streams.{begins_iff}
use Rattle.nls.proofs.Precision.Greatest.{full, greatest_has}
use Rattle.nls.proofs.Judging.Only.{to_list}
use Rattle.nls.proofs.Signs.{BitsFit, lists_fit, bits_fit}

-- ---- numbers
-- two numbers whose digits differ in one place
number_one : (n : ℕ) (f g : ℕ → Bool) (k : ℕ) → k < n → f k ≡ true → g k ≡ false → ((j : ℕ) → j < n → (j ≡ k → ⊥) → f j ≡ g j)
    → number n f ≡ number n g + 2 ^ (n - 1 - k)
unfolding number
number_one zero f g k h ef eg same = absurd (omega arith)
number_one (suc n) f g k h ef eg same = on (ℕ_discrete k n) (λ l. number_one n f g k l ef eg (λ j hj q. same j (omega arith) q))
  where
    on : Dec (k ≡ n) → (k < n → number n f ≡ number n g + 2 ^ (n - 1 - k)) → number n f * 2 + digit (f n) ≡ number n g * 2 + digit (g n) + 2 ^ (suc n - 1 - k)
    on (yes q) ih =
        let one : digit (f n) ≡ 1 = ap (λ (x : ℕ). digit (f x)) (sym q) ∙ ap digit ef in
        let none : digit (g n) ≡ 0 = ap (λ (x : ℕ). digit (g x)) (sym q) ∙ ap digit eg in
        let last : 2 ^ (suc n - 1 - k) ≡ 1 = ap (λ (x : ℕ). 2 ^ x) {x = suc n - 1 - k} {y = 0} (omega arith) in
        omega (arith, number_ext n f g (λ j hj. same j (omega arith) (λ e. omega arith)))
    on (no q) ih =
        let like : digit (f n) ≡ digit (g n) = ap digit (same n (omega arith) (λ e. q (sym e))) in
        let up : 2 ^ (suc n - 1 - k) ≡ 2 * 2 ^ (n - 1 - k) = ap (λ (x : ℕ). 2 ^ x) {x = suc n - 1 - k} {y = suc (n - 1 - k)} (omega arith) ∙ pow-succ' 2 (n - 1 - k) in
        omega (arith, ih (omega arith))

-- the same, by the bit
num_one : (n : ℕ) (f g : ℕ → Bool) (b : ℕ) → b < n → f b ≡ true → g b ≡ false → ((e : ℕ) → (e ≡ b → ⊥) → f e ≡ g e) → num n f ≡ num n g + 2 ^ b
num_one n f g b h ef eg same =
    let back : n - 1 - (n - 1 - b) ≡ b = omega arith in
    number_one n (λ k. f (n - 1 - k)) (λ k. g (n - 1 - k)) (n - 1 - b) (omega arith) (ap f back ∙ ef) (ap g back ∙ eg) (λ j hj q. same (n - 1 - j) (λ e. q (omega arith)))
    ∙ ap (λ (x : ℕ). num n g + 2 ^ x) back

-- a number with bit b
num_big : (n : ℕ) (f : ℕ → Bool) (b : ℕ) → b < n → f b ≡ true → 2 ^ b ≤ num n f
num_big n f b h e =
    ⊎_elim (λ z. z) (λ z. absurd (true≢false (sym e ∙ sym (num_bit n f b h) ∙ bit_high b (num n f) b z (omega arith)))) (order (2 ^ b) (num n f))

-- how far two numbers are apart at least
wide : (a b d : ℕ) → (a ≡ b + d) ⊎ (b ≡ a + d) → d ≤ nat_abs (sub_ℕ a b)
wide a b d h = on (ltb a b) refl h
  where
    on : (t : Bool) → ltb a b ≡ t → (a ≡ b + d) ⊎ (b ≡ a + d) → d ≤ nat_abs (cond t (negsuc (b - suc a)) (pos (a - b)))
    on true e (inl q) = omega (arith, ltb-true a b e)
    on true e (inr q) = omega (arith, ltb-true a b e)
    on false e (inl q) = omega (arith, ltb-false a b e)
    on false e (inr q) = omega (arith, ltb-false a b e)

-- of one sign
signed_wide : (n : Bool) (x y d : ℕ) → x ≡ y + d → d ≤ nat_abs (signed n x -ℤ signed n y)
signed_wide false x zero d e = omega arith
signed_wide false x (suc y) d e = wide x (suc y) d (inl e)
signed_wide true zero zero d e = omega arith
signed_wide true zero (suc y) d e = omega arith
signed_wide true (suc x) zero d e = wide 0 (suc x) d (inr (omega arith))
signed_wide true (suc x) (suc y) d e = wide (suc y) (suc x) d (inr e)

-- of two
signed_across : (x y : ℕ) → x + y ≤ nat_abs (signed true x -ℤ signed false y)
signed_across zero zero = omega arith
signed_across zero (suc y) = omega (arith, wide 0 (suc y) (suc y) (inr (omega arith)))
signed_across (suc x) zero = omega (arith, wide 0 (suc x) (suc x) (inr (omega arith)))
signed_across (suc x) (suc y) = omega arith

-- the numbers of a list that was made of bits
list_at : (N L : ℕ) (z : Sized N L) (P : ℕ) (u : List Bool) (w : BitsFit N L P u) (i : ℕ) → i < all_of N
    → at (lists_fit N L z P u w).0 i ≡ signed (w.0.neg i) (num P (w.0.has i))
unfolding lists_fit to_list
list_at N L z P u w i hi =
    table_at (all_of N) (λ j. signed (w.0.neg j) (num P (λ e. ltb j (all_of N) && w.0.has j e))) i (pos 0) hi
    ∙ rw (lt-ltb i (all_of N) hi) refl

-- ---- what the scan's invariant for refusals (Judging/Open) says of one coefficient
module _ (N L : ℕ) (size : Sized N L) (P : ℕ) where
  abbrev I : ℕ
  I = all_of N

  abbrev D : ℕ
  D = coarsest_of N L

  abbrev sz : Tiled D I
  sz = tiled N L size

  -- W is the greatest array, k the bits 1 that were read, O what was answered 1; signs that were not asked are v
  module _ (W k : Bits) (v : Bool) (O : Question → Type 0) (i : ℕ) (hi : i < I) where
    abbrev Found : List ℕ → Type 0
    Found m = (2 ≤ get_or m i 0) × (get_or m i 0 ≤ 3)

    -- At place t, with w for a sign that is waited for: the sign at i is v if i was not found; if it was, one of its bits is known, and it is
    -- not the one that waits. Its bits that were answered 1 are known, and no bit of it was when a set that holds it was.
    record Of (t : ℕ) (w : Bool) (m : List ℕ) : Type 0 where
      sign : (Found m → ⊥) → W.neg i ≡ v
      one : Found m → (x : ℕ) × (k.has i x ≡ true)
      not_here : w ≡ true → i ≡ t → Found m → ⊥
      o_o : (e : ℕ) → O (bit_of i e) → k.has i e ≡ true
      o_d : (h e x : ℕ) → O (in_desc h e) → Under h i → k.has i x ≡ true → x ≤ e
      o_g : (h e x : ℕ) → O (in_grand h e) → Under h (i / 4) → k.has i x ≡ true → x ≤ e

    -- from what every pass keeps
    of_by : (c : Cfg) (b lo z t : ℕ) (w : Bool) (m : List ℕ) → Core sz c m → Hold D I P W v b z c → Debt I O k b lo z c
        → (get_or m i 0 ≡ 2 → (x : ℕ) × (k.has i x ≡ true)) → (get_or m i 0 ≡ 3 → (x : ℕ) × (k.has i x ≡ true))
        → (w ≡ true → (get_or m t 0 ≡ 1) ⊎ (get_or m t 0 ≡ 4)) → Of t w m
    of_by c b lo z t w m r ho de two three wait = record {
      sign = λ n. ho.ng i (λ a l h. n (omega (arith, r.tab.solo i hi a), omega (arith, r.tab.solo i hi a)));
      one = λ f. ⊎_elim (λ y. three (omega (arith, f.1))) (λ y. two (omega (arith, f.0))) (order 3 (get_or m i 0));
      not_here = λ y q f. ⊎_elim (λ e. omega (arith, f.0, ap (λ (x : ℕ). get_or m x 0) q)) (λ e. omega (arith, f.1, ap (λ (x : ℕ). get_or m x 0) q)) (wait y);
      o_o = λ e o. (de.o_o i e o).0;
      o_d = λ h e x o n y. (de.o_d h e o).2 i x hi n y;
      o_g = λ h e x o n y. (de.o_g h e o).2 i x hi n y;
    }

    -- in each pass
    of_all : (l : ℕ) (p : Pass) (t : ℕ) (w : Bool) (m : List ℕ) → 1 ≤ l → All_at N P sz W v k W O l p t w m → Of t w m
    of_all zero p t w m h z = absurd (omega arith)
    of_all (suc b) pixels t false m h z =
        let r = z.1.1 in
        of_by z.1.0 b (suc b) 0 t false m r.g.core r.ho r.de (λ e. (b, r.fr.m2 i hi e)) (λ e. let y = r.fr.m3 i hi e in (y.0, y.2)) (λ e. absurd (false≢true e))
    of_all (suc b) pixels t true m h z =
        let r = z.1.1 in
        of_by z.1.0 b (suc b) 0 t true m r.g.core r.ho r.de (λ e. (b, r.fr.m2 i hi e)) (λ e. let y = r.fr.m3 i hi e in (y.0, y.2)) (λ e. inl z.3)
    of_all (suc b) sets t false m h z =
        let r = z.1.1 in
        of_by z.1.0 b b 0 t false m r.g.core r.ho r.de (λ e. (b, r.fr.m2 i hi e)) (λ e. let y = r.fr.m3 i hi e in (y.0, y.2)) (λ e. absurd (false≢true e))
    of_all (suc b) sets t true m h z =
        let r = z.1.1 in
        of_by z.1.0 b b 0 t true m r.g.core r.ho r.de (λ e. (b, r.fr.m2 i hi e)) (λ e. let y = r.fr.m3 i hi e in (y.0, y.2)) (λ e. inr z.3)
    of_all (suc b) refining t true m h z = absurd z
    of_all (suc b) refining t false m h z =
        let r = z.1.1 in
        of_by z.1.0 b b t t false m r.g.core r.ho r.de
        (λ e. let a : Alone_at D I z.1.0 m i = is_alone sz z.1.0 m r.g.core i hi (omega arith) (omega arith) in (b, r.fr.m2 i hi (r.g.two i hi a.0 (a.1 ∙ e)) e))
        (λ e. let y = r.fr.m3 i hi e in (y.0, y.2)) (λ e. absurd (false≢true e))

-- ---- after bits that some array's stream begins with
module _ (N L : ℕ) (size : Sized N L) (P : ℕ) (u : List Bool) (fits : Fits N L P u) (i : ℕ) (hi : i < all_of N) (some : 1 ≤ precision_at N L P u i) where
  abbrev s : State
  s = after N L P u

  -- the bits 1 that were read, and what was answered 1
  abbrev k : Bits
  k = least N (begin N L P) u nothing

  abbrev O : Question → Type 0
  O = Owing N (begin N L P) u (λ q. ⊥)

  -- the plane below i's precision
  abbrev b : ℕ
  b = precision_at N L P u i - 1

  -- it is a plane, and i was not noted in it
  twice : 2 ^ precision_at N L P u i ≡ 2 * 2 ^ b
  twice = ap (λ (x : ℕ). 2 ^ x) {x = precision_at N L P u i} {y = suc b} (omega arith) ∙ pow-succ' 2 b

  left_some : 1 ≤ s.left
  left_some = omega (arith, precision_left N L P u i)

  in_planes : b < P
  in_planes = omega (arith, precision_left N L P u i, left_most N L P u)

  not_noted : b < get_or (known N L P u).planes i 0
  not_noted = omega (arith, min-le_left (get_or (known N L P u).planes i 0) s.left)

  -- the array that the bits begin, as bits
  own : BitsFit N L P u
  own = bits_fit N L size P (omega (arith, in_planes)) u fits

  -- the greatest array, with the sign v wherever none was read
  abbrev W : Bool → Bits
  W v = most N (begin N L P) u (full P v)

  -- its stream begins with u too, and it has P planes
  below_full : (v : Bool) → own.0 ⊑ full P v
  unfolding ◌⊑◌
  below_full v j e h = lt-ltb e P (own.1.cap j e h)

  W_fits : (v : Bool) → Fit N (W v) (begin N L P) u
  W_fits v = most_fits N own.0 (begin N L P) u (full P v) own.2 (below_full v)

  W_cap : (v : Bool) (j e : ℕ) → (W v).has j e ≡ true → e < P
  unfolding ◌⊑◌
  W_cap v j e h = ltb-true e P (most_below N (begin N L P) u (full P v) j e h)

  W_valid : (v : Bool) → Valid (all_of N) P (W v)
  unfolding ◌⊑◌
  W_valid v = record {
    cap = W_cap v;
    top = (own.1.top.0, own.1.top.1, own.1.top.2, own.1.top.3, most_keeps N own.0 (begin N L P) u (full P v) own.2 (below_full v) own.1.top.0 own.1.top.1 own.1.top.4);
  }

  -- it has the bit, and the scan's invariant
  W_has : (v : Bool) → (W v).has i b ≡ true
  W_has v = greatest_has N L size P u v i b hi in_planes not_noted

  told : (v : Bool) → Of N L size P (W v) k v O i hi s.place s.pending s.marks
  told v =
      of_all N L size P (W v) k v O i hi s.left s.pass s.place s.pending s.marks left_some
      (all_run N P (tiled N L size) (W v) v nothing (full P v) (λ q. ⊥) (begin N L P) u (all_start N P (tiled N L size) (W v) v) (W_fits v))

  -- the greatest array as a list, and its number at i
  abbrev W_bits : Bool → BitsFit N L P u
  W_bits v = (W v, W_valid v, W_fits v)

  abbrev list_w : Bool → List ℤ
  list_w v = (lists_fit N L size P u (W_bits v)).0

  W_at : (v : Bool) → at (list_w v) i ≡ signed ((W v).neg i) (num P ((W v).has i))
  W_at v = list_at N L size P u (W_bits v) i hi

  -- two arrays that differ at i by at least d
  abbrev Apart : ℕ → Type 0
  Apart d = (A : List ℤ) × (B : List ℤ) × Begins N L P A u × Begins N L P B u × (d ≤ nat_abs (at A i -ℤ at B i))

  -- Where no bit of i is known its sign was not read: the greatest array with one sign and with the other, even 2^k apart.
  pub unsigned_tight : mag_at (known N L P u).bits i ≡ 0 → Apart (2 ^ precision_at N L P u i)
  unsigned_tight e = (list_w true, list_w false, (lists_fit N L size P u (W_bits true)).1, (lists_fit N L size P u (W_bits false)).1, far)
    where
      sign : (v : Bool) → (W v).neg i ≡ v
      sign v = (told v).sign (λ f. omega (arith, (known_sound N L P u).found left_some i hi f.0 f.1))

      value : (v : Bool) → at (list_w v) i ≡ signed v (num P ((W v).has i))
      value v = W_at v ∙ ap (λ (x : Bool). signed x (num P ((W v).has i))) (sign v)

      large : (v : Bool) → 2 ^ b ≤ num P ((W v).has i)
      large v = num_big P ((W v).has i) b in_planes (W_has v)

      far : 2 ^ precision_at N L P u i ≤ nat_abs (at (list_w true) i -ℤ at (list_w false) i)
      far = rw (value true, value false) (omega (arith, twice, large true, large false, signed_across (num P ((W true).has i)) (num P ((W false).has i))))

  -- Where one is, bit b was not asked, nor was it any set's that was answered 1: the greatest array with it and without it.
  module _ (seen : 1 ≤ mag_at (known N L P u).bits i) where
    -- so i was found
    found : Found N L size P (W false) k false O i hi s.marks
    found = found_marked N L size P fits.0 u fits.1 i hi seen

    -- a known bit of i lies above b
    above : (x : ℕ) → k.has i x ≡ true → b < x
    above x h =
        omega (
          arith,
          not_noted,
          answered_own N L size P fits.0 fits.1.planes.below u ((begins_iff N L size P fits.0 u).0 fits.1).2 i x hi h (λ w q e. (told false).not_here w q found),
        )

    one_known : (x : ℕ) × (k.has i x ≡ true)
    one_known = (told false).one found

    -- so bit b of i is owed to no question that was answered 1
    enough : Enough N P (tiled N L size) (W false) O b (λ j. j ≡ i)
    enough = record {
      e_o = λ j hj o q. omega (arith, above b ((told false).o_o b (subst (λ (y : ℕ). O (bit_of y b)) q o)));
      e_d = λ h j o n q. absurd (omega (arith, above one_known.0 one_known.1, (told false).o_d h b one_known.0 o (subst (λ (y : ℕ). Under h y) q n) one_known.1));
      e_g = λ h j o n q. absurd (omega (arith, above one_known.0 one_known.1, (told false).o_g h b one_known.0 o (subst (λ (y : ℕ). Under h (y / 4)) q n) one_known.1));
      e_t = λ e. absurd (omega (arith, above one_known.0 one_known.1, W_cap false i one_known.0 (known_w i one_known.0 one_known.1)));
    }
      where
        known_w : (j e : ℕ) → k.has j e ≡ true → (W false).has j e ≡ true
        known_w j e h = unfold ◌⊑◌ in least_below N (W false) (begin N L P) u nothing (W_fits false) (λ j e y. absurd (false≢true y)) j e h

    -- the array without it: its stream begins with u too, and it has P planes
    abbrev C : Bits
    C = clear N (bit_of i b) b (W false)

    owed : (q : Question) → Owed N (begin N L P) u q → O q
    owed q o = owing N P (tiled N L size) (W false) false (begin N L P) u (λ p. ⊥) q o

    only_i : (j : ℕ) → inside N (bit_of i b) j ≡ true → (j ≡ i) × (j < all_of N)
    only_i j h = let q : j ≡ i = one_in N i b j h in (q, omega arith)

    C_valid : Valid (all_of N) P C
    C_valid = still_valid N P (tiled N L size) (W false) O u (W_valid false) (W_fits false) owed (bit_of i b) b (λ j. j ≡ i) only_i enough

    C_fits : Fit N C (begin N L P) u
    C_fits = still_begins N P (tiled N L size) (W false) O u (W_valid false) (W_fits false) owed (bit_of i b) b (λ j. j ≡ i) only_i enough

    -- it is less by that bit
    C_less : num P ((W false).has i) ≡ num P (C.has i) + 2 ^ b
    C_less =
        num_one P ((W false).has i) (C.has i) b in_planes (W_has false) (unfold ans in cleared_one N i b (W false))
        (λ e n. same_bool ((W false).has i e) (C.has i e) (clear_out N (bit_of i b) b (W false) i e (λ y q. n q)) (clear_below N (bit_of i b) b (W false) i e))

    abbrev list_c : List ℤ
    list_c = (lists_fit N L size P u (C, C_valid, C_fits)).0

    pub signed_tight : Apart (2 ^ b)
    signed_tight = (list_w false, list_c, (lists_fit N L size P u (W_bits false)).1, (lists_fit N L size P u (C, C_valid, C_fits)).1, far)
      where
        value : at list_c i ≡ signed ((W false).neg i) (num P (C.has i))
        value = list_at N L size P u (C, C_valid, C_fits) i hi ∙ (unfold clear in refl)

        far : 2 ^ b ≤ nat_abs (at (list_w false) i -ℤ at list_c i)
        far = rw (W_at false, value) (signed_wide ((W false).neg i) (num P ((W false).has i)) (num P (C.has i)) (2 ^ b) C_less)

-- Where a place has precision k > 0, two arrays that both begin with the bits differ there by at least 2^(k-1).
pub own_tight : (N L : ℕ) → Sized N L → (P : ℕ) (u : List Bool) → Fits N L P u → (i : ℕ) → i < all_of N → 1 ≤ precision_at N L P u i
    → (A : List ℤ) × (B : List ℤ) × Begins N L P A u × Begins N L P B u × (2 ^ (precision_at N L P u i - 1) ≤ nat_abs (at A i -ℤ at B i))
own_tight N L size P u fits i hi some = ⊎_elim (λ h. signed_tight N L size P u fits i hi some h) unsigned (order 1 (mag_at (known N L P u).bits i))
  where
    unsigned : mag_at (known N L P u).bits i < 1 → Apart N L size P u fits i hi some (2 ^ (precision_at N L P u i - 1))
    unsigned h = let r = unsigned_tight N L size P u fits i hi some (omega arith) in (r.0, r.1, r.2, r.3, omega (arith, r.4, twice N L size P u fits i hi some))
