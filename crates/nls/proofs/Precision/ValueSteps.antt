-- One bit more, over values and precisions: which value changes, from what to what, and the precisions as one table.
use mathlib.Core.Path.{◌≡◌, refl, sym, ap, subst, ◌∙◌}
use mathlib.Core.Bool.{Bool, true, false, true≢false, cond}
use mathlib.Core.Logic.{◌⊎◌, inl, inr}
use mathlib.Core.Option.{Option, some}
use mathlib.Core.List.{List, [], ◌∷◌, ◌++◌}
use Prim.Native.Nat.{ℕ, suc, ◌+◌, ◌*◌, ◌-◌, ◌/◌, ◌%◌, ◌^◌, ◌≤◌, ◌<◌}
use native.Mathlib.Omega.{arith}
use native.Mathlib.Nat.{add-mul, mul_assoc, mul-mod_left, pow-succ', one-le-pow}
use lib.Dec.{eqb}
use lib.IntN.{ℤ, pos}
use lib.ListN.{length, get_or, set, length-set}
use lib.Pow.{split, high}
use lib.Seq.{get_or-set_same, get_or-set_other}
use borrow.Author.Tests.{eqb-false, eq-eqb, ne_eqb}
use Rattle.sizes.specs.Sizes.{all_of, Sized}
use Rattle.sizes.specs.Tables.{table}
use Rattle.sizes.proofs.Tables.{table_length, table_at, table_ext, table_is}
use Rattle.bits.specs.Bits.{digit}
use Rattle.coef.specs.Coef.{at, mag_at, magnitude, negative, signed}
use Rattle.coef.proofs.Laws.{magnitude_signed}
use Rattle.nls.specs.Scan.{State, Question, bit_of, sign_of, in_desc, in_grand, Pass, pixels, sets, refining, ask}
use Rattle.nls.specs.Stream.{begin, after}
use Rattle.nls.specs.Reading.{Known, nothing, learn, learn_at, learned, known, midpoint, value_by, precision_at, values_by, precisions, completes}
use Rattle.nls.specs.Judging.{Begins}
use Rattle.nls.proofs.Counting.Sums.{order}
use Rattle.nls.proofs.HighBits.{neg_signed}
use Rattle.nls.proofs.Known.{Due, by_entry, known_sound, learned_append}
use Rattle.nls.proofs.Streams.{begins_less}
use Rattle.nls.proofs.Precision.Noted.{learn_plane, learn_long}
use Rattle.nls.proofs.Precision.Answers.{ask_left, precision_step}
use Rattle.nls.proofs.Precision.OwnBits.{found_marked}
use Rattle.nls.proofs.Precision.Before.{Unfound, Met, Asked, asked_after, precision_before}

-- ---- one value
module _ (rule : ℕ → ℕ → ℕ) (k : ℕ) where
  -- "if m is 0 the value is 0"
  pub value_zero : (z : ℤ) → magnitude z ≡ 0 → value_by rule k z ≡ pos 0
  unfolding value_by
  value_zero z e = rw (eq-eqb (magnitude z) 0 e) refl

  pub value_some : (z : ℤ) → 1 ≤ magnitude z → value_by rule k z ≡ signed (negative z) (rule k (magnitude z))
  unfolding value_by
  value_some z h = rw (ne_eqb (magnitude z) 0 (λ e. omega (arith, h, e))) refl

  pub value_of : (n : Bool) (x : ℕ) → 1 ≤ x → value_by rule k (signed n x) ≡ signed n (rule k x)
  value_of n x h =
      value_some (signed n x) (subst (λ (y : ℕ). 1 ≤ y) (sym (magnitude_signed n x)) h)
      ∙ ap (λ (m : Bool). signed m (rule k (magnitude (signed n x)))) (neg_signed n x h)
      ∙ ap (λ (y : ℕ). signed n (rule k y)) (magnitude_signed n x)

-- two tables that differ at i alone
table_put : {A : Type 0} (n : ℕ) (f g : ℕ → A) (d : A) (i : ℕ) → ((j : ℕ) → j < n → (j ≡ i → ⊥) → f j ≡ g j) → table n g ≡ set (table n f) i (get_or (table n g) i d)
table_put n f g d i same =
    sym (table_is n g d (set (table n f) i (get_or (table n g) i d)) (length-set (table n f) i (get_or (table n g) i d) ∙ table_length n f)
    (λ j hj. by_entry (table n f) i (get_or (table n g) i d) d j (λ x. omega (arith, x, hj, table_length n f)) (λ z. z ≡ g j)
    (λ x. ap (λ y. get_or (table n g) y d) (sym x) ∙ table_at n g j d hj) (λ x. table_at n f j d hj ∙ same j hj x)))

-- ---- what an answer adds to the known bits
-- whether it adds to those of the coefficient at i: its sign, or a refinement bit of it
abbrev pub adds : Question → Pass → ℕ → Bool
adds (bit_of j c) refining i = eqb j i
adds (bit_of j c) pixels i = false
adds (bit_of j c) sets i = false
adds (sign_of j) p i = eqb j i
adds (in_desc g c) p i = false
adds (in_grand g c) p i = false

-- and to those of no other
pub sign_other : (p : Pass) (i j : ℕ) → (j ≡ i → ⊥) → adds (sign_of i) p j ≡ false
sign_other p i j n = ne_eqb i j (λ x. n (sym x))

pub bit_other : (p : Pass) (i b j : ℕ) → (j ≡ i → ⊥) → adds (bit_of i b) p j ≡ false
bit_other refining i b j n = ne_eqb i j (λ x. n (sym x))
bit_other pixels i b j n = refl
bit_other sets i b j n = refl

other_bits : (l : List ℤ) (j i : ℕ) (z : ℤ) → eqb j i ≡ false → at (set l j z) i ≡ at l i
other_bits l j i z e = get_or-set_other l j i z (pos 0) (λ q. eqb-false j i e (sym q))

module _ (N L : ℕ) where
  learn_kept : (p : Pass) (b : ℕ) (q : Question) (a : Bool) (k : Known) (i : ℕ) → adds q p i ≡ false → at (learn N L p b q a k).bits i ≡ at k.bits i
  learn_kept refining b (bit_of j c) a k i e = other_bits k.bits j i _ e
  learn_kept pixels b (bit_of j c) false k i e = refl
  learn_kept pixels b (bit_of j c) true k i e = refl
  learn_kept sets b (bit_of j c) false k i e = refl
  learn_kept sets b (bit_of j c) true k i e = refl
  learn_kept refining b (sign_of j) a k i e = other_bits k.bits j i _ e
  learn_kept pixels b (sign_of j) a k i e = other_bits k.bits j i _ e
  learn_kept sets b (sign_of j) a k i e = other_bits k.bits j i _ e
  learn_kept refining b (in_desc g c) false k i e = refl
  learn_kept refining b (in_desc g c) true k i e = refl
  learn_kept pixels b (in_desc g c) false k i e = refl
  learn_kept pixels b (in_desc g c) true k i e = refl
  learn_kept sets b (in_desc g c) false k i e = refl
  learn_kept sets b (in_desc g c) true k i e = refl
  learn_kept refining b (in_grand g c) false k i e = refl
  learn_kept refining b (in_grand g c) true k i e = refl
  learn_kept pixels b (in_grand g c) false k i e = refl
  learn_kept pixels b (in_grand g c) true k i e = refl
  learn_kept sets b (in_grand g c) false k i e = refl
  learn_kept sets b (in_grand g c) true k i e = refl

  learn_sign : (p : Pass) (b i : ℕ) (a : Bool) (k : Known) → i < length k.bits → at (learn N L p b (sign_of i) a k).bits i ≡ signed a (2 ^ b)
  learn_sign refining b i a k h = get_or-set_same k.bits i (signed a (2 ^ b)) (pos 0) h
  learn_sign pixels b i a k h = get_or-set_same k.bits i (signed a (2 ^ b)) (pos 0) h
  learn_sign sets b i a k h = get_or-set_same k.bits i (signed a (2 ^ b)) (pos 0) h

  sign_completes : (p : Pass) (i : ℕ) (a : Bool) → completes N L p (sign_of i) a i ≡ true
  sign_completes refining i a = eq-eqb i i refl
  sign_completes pixels i a = eq-eqb i i refl
  sign_completes sets i a = eq-eqb i i refl

  -- what is completed without such an answer has no known bits
  unmoved_unfound : (q : Question) (p : Pass) (a : Bool) (i v : ℕ) → adds q p i ≡ false → completes N L p q a i ≡ true → Met q p v → Unfound v
  unmoved_unfound (bit_of j c) refining a i v e t m = absurd (true≢false (sym t ∙ e))
  unmoved_unfound (bit_of j c) pixels a i v e t m = m
  unmoved_unfound (bit_of j c) sets a i v e t m = m
  unmoved_unfound (sign_of j) p a i v e t m = m
  unmoved_unfound (in_desc g c) p a i v e t m = m
  unmoved_unfound (in_grand g c) p a i v e t m = m

  known_step : (P : ℕ) (u : List Bool) (a : Bool) (q : Question) → ask (all_of N) (after N L P u) ≡ some q
      → known N L P (u ++ (a ∷ [])) ≡ learn N L (after N L P u).pass ((after N L P u).left - 1) q a (known N L P u)
  unfolding learned
  known_step P u a q e =
      learned_append N L (begin N L P) (nothing N P) u (a ∷ [])
      ∙ ap (λ (o : Option Question). learn_at N L o (after N L P u) a (known N L P u)) e

  -- on any bits
  pub bits_unmoved : (P : ℕ) (u : List Bool) (a : Bool) (q : Question) → ask (all_of N) (after N L P u) ≡ some q → (i : ℕ) → adds q (after N L P u).pass i ≡ false
      → at (known N L P (u ++ (a ∷ []))).bits i ≡ at (known N L P u).bits i
  bits_unmoved P u a q e i n =
      ap (λ (k : Known). at k.bits i) (known_step P u a q e)
      ∙ learn_kept (after N L P u).pass ((after N L P u).left - 1) q a (known N L P u) i n

-- ---- a refinement bit a in plane b, where v was the value of the midpoint and w is
pub record Refined (b : ℕ) (a : Bool) (v w : ℤ) : Type 0 where
  pub m : ℕ
  pub round : m % 2 ^ suc b ≡ 0
  pub large : 2 ^ suc b ≤ m
  pub size : magnitude v ≡ m + 2 ^ b
  pub low : magnitude v % 2 ^ b ≡ 0
  pub odd : magnitude v / 2 ^ b % 2 ≡ 1
  pub before : v ≡ signed (negative v) (m + 2 ^ b)
  pub after : w ≡ signed (negative v) (midpoint b (m + digit a * 2 ^ b))

pub midpoint_suc : (b m : ℕ) → midpoint (suc b) m ≡ m + 2 ^ b
midpoint_suc b m = ap (λ (t : Bool). cond t m (m + 2 ^ (suc b - 1))) (ne_eqb (suc b) 0 (λ e. omega arith)) ∙ ap (λ (k : ℕ). m + 2 ^ k) {x = suc b - 1} {y = b} (omega arith)

refined : (b : ℕ) (a n : Bool) (m : ℕ) (v w : ℤ) → 1 ≤ m → m % 2 ^ suc b ≡ 0 → v ≡ signed n (midpoint (suc b) m) → w ≡ signed n (midpoint b (m + digit a * 2 ^ b)) → Refined b a v w
refined b a n m v w h r ev ew = record {
  m = m;
  round = r;
  large = large;
  size = size;
  low = ap (λ (x : ℕ). x % 2 ^ b) whole ∙ mul-mod_left (m / 2 ^ suc b * 2 + 1) (2 ^ b);
  odd = ap (λ (x : ℕ). x % 2) (ap (λ (x : ℕ). x / 2 ^ b) (whole ∙ omega arith) ∙ high (m / 2 ^ suc b * 2 + 1) b {lo = 0} (one-le-pow b 2 (omega arith))) ∙ omega arith;
  before = ev ∙ ap (λ (x : ℕ). signed n x) (midpoint_suc b m) ∙ ap (λ (x : Bool). signed x (m + 2 ^ b)) (sym sign);
  after = ew ∙ ap (λ (x : Bool). signed x (midpoint b (m + digit a * 2 ^ b))) (sym sign);
}
  where
    parts : m / 2 ^ suc b * 2 ^ suc b ≡ m
    parts = omega (arith, split m (suc b), r)

    positive : 1 ≤ m / 2 ^ suc b
    positive = on (order 1 (m / 2 ^ suc b))
      where
        on : (1 ≤ m / 2 ^ suc b) ⊎ (m / 2 ^ suc b < 1) → 1 ≤ m / 2 ^ suc b
        on (inl x) = x
        on (inr x) = let none : m / 2 ^ suc b * 2 ^ suc b ≡ 0 = ap (λ (y : ℕ). y * 2 ^ suc b) {x = m / 2 ^ suc b} {y = 0} (omega arith) ∙ omega arith in absurd (omega (arith, h, parts))

    large : 2 ^ suc b ≤ m
    large = omega (arith, parts, add-mul (m / 2 ^ suc b - 1) 1 (2 ^ suc b), ap (λ (y : ℕ). y * 2 ^ suc b) {x = m / 2 ^ suc b} {y = m / 2 ^ suc b - 1 + 1} (omega (arith, positive)))

    size : magnitude v ≡ m + 2 ^ b
    size = ap magnitude ev ∙ magnitude_signed n (midpoint (suc b) m) ∙ midpoint_suc b m

    sign : negative v ≡ n
    sign = ap negative ev ∙ neg_signed n (midpoint (suc b) m) (omega (arith, midpoint_suc b m, h))

    whole : magnitude v ≡ (m / 2 ^ suc b * 2 + 1) * 2 ^ b
    whole =
        let doubled : m / 2 ^ suc b * 2 ^ suc b ≡ m / 2 ^ suc b * 2 * 2 ^ b = ap (λ (y : ℕ). m / 2 ^ suc b * y) (pow-succ' 2 b) ∙ sym (mul_assoc (m / 2 ^ suc b) 2 (2 ^ b)) in
        omega (arith, size, parts, doubled, add-mul (m / 2 ^ suc b * 2) 1 (2 ^ b))

module _ (N L : ℕ) (sized : Sized N L) (P : ℕ) (A : List ℤ) (u : List Bool) (a : Bool) (begins : Begins N L P A (u ++ (a ∷ []))) (q : Question) (e : ask (all_of N) (after N L P u) ≡ some q) where
  abbrev I : ℕ
  I = all_of N

  abbrev s : State
  s = after N L P u

  less : Begins N L P A u
  less = begins_less N L sized P A u (a ∷ []) begins

  asked_here : Asked N L (s.left - 1) s.pass s.place s.marks a q
  asked_here = asked_after N L sized P A u less a q e

  unfound_zero : (i : ℕ) → i < I → Unfound (get_or s.marks i 0) → mag_at (known N L P u).bits i ≡ 0
  unfound_zero i hi n = on (order 1 (mag_at (known N L P u).bits i))
    where
      on : (1 ≤ mag_at (known N L P u).bits i) ⊎ (mag_at (known N L P u).bits i < 1) → mag_at (known N L P u).bits i ≡ 0
      on (inl h) = let r = found_marked N L sized P A u less i hi h in absurd (n r.0 r.1)
      on (inr h) = omega arith

  -- no value changes but that of a coefficient whose sign or refinement bit was read
  pub value_unmoved : (rule : ℕ → ℕ → ℕ) (i : ℕ) → i < I → adds q s.pass i ≡ false
      → value_by rule (precision_at N L P (u ++ (a ∷ [])) i) (at (known N L P (u ++ (a ∷ []))).bits i) ≡ value_by rule (precision_at N L P u i) (at (known N L P u).bits i)
  value_unmoved rule i hi n =
      ap (λ (z : ℤ). value_by rule (precision_at N L P (u ++ (a ∷ [])) i) z) (bits_unmoved N L P u a q e i n)
      ∙ ap (λ (k : ℕ). value_by rule k (at (known N L P u).bits i)) (precision_step N L P sized A u a begins q e i hi)
      ∙ on (completes N L s.pass q a i) refl
    where
      on : (t : Bool) → completes N L s.pass q a i ≡ t
          → value_by rule (cond t (s.left - 1) (precision_at N L P u i)) (at (known N L P u).bits i) ≡ value_by rule (precision_at N L P u i) (at (known N L P u).bits i)
      on false et = refl
      on true et =
          let none : mag_at (known N L P u).bits i ≡ 0 = unfound_zero i hi (unmoved_unfound N L q s.pass a i (get_or s.marks i 0) n et (asked_here.met i hi et)) in
          value_zero rule (s.left - 1) (at (known N L P u).bits i) none ∙ sym (value_zero rule (precision_at N L P u i) (at (known N L P u).bits i) none)

  values_at : (v : List Bool) (rule : ℕ → ℕ → ℕ) (i : ℕ) → i < I → at (values_by N L P v rule) i ≡ value_by rule (precision_at N L P v i) (at (known N L P v).bits i)
  values_at v rule i hi = table_at I (λ j. value_by rule (precision_at N L P v j) (at (known N L P v).bits j)) i (pos 0) hi

  -- the same of the whole list: where no coefficient's sign or refinement bit was read, and where that at i was
  pub values_unmoved : (rule : ℕ → ℕ → ℕ) → ((i : ℕ) → i < I → adds q s.pass i ≡ false) → values_by N L P (u ++ (a ∷ [])) rule ≡ values_by N L P u rule
  values_unmoved rule n = table_ext I _ _ (λ i hi. value_unmoved rule i hi (n i hi))

  pub values_moved : (rule : ℕ → ℕ → ℕ) (i : ℕ) → ((j : ℕ) → j < I → (j ≡ i → ⊥) → adds q s.pass j ≡ false)
      → values_by N L P (u ++ (a ∷ [])) rule ≡ set (values_by N L P u rule) i (at (values_by N L P (u ++ (a ∷ [])) rule) i)
  values_moved rule i n = table_put I _ _ (pos 0) i (λ j hj x. sym (value_unmoved rule j hj (n j hj x)))

  pub values_back : (rule : ℕ → ℕ → ℕ) (i : ℕ) → ((j : ℕ) → j < I → (j ≡ i → ⊥) → adds q s.pass j ≡ false)
      → values_by N L P u rule ≡ set (values_by N L P (u ++ (a ∷ [])) rule) i (at (values_by N L P u rule) i)
  values_back rule i n = table_put I _ _ (pos 0) i (λ j hj x. value_unmoved rule j hj (n j hj x))

  -- the precisions after the answer are what it notes in those before it
  pub precisions_stepped : precisions N L P (u ++ (a ∷ [])) ≡ (learn N L s.pass (s.left - 1) q a (record { bits = []; planes = precisions N L P u })).planes
  precisions_stepped =
      sym (table_is I _ 0 _ (learn_long N L s.pass (s.left - 1) q a k ∙ long)
      (λ i hi. learn_plane N L s.pass (s.left - 1) q a k i (omega (arith, hi, long))
      ∙ ap (λ (n : ℕ). cond (completes N L s.pass q a i) (s.left - 1) n) (table_at I (λ j. precision_at N L P u j) i 0 hi)
      ∙ sym (precision_step N L P sized A u a begins q e i hi)))
    where
      k : Known
      k = record { bits = []; planes = precisions N L P u }

      long : length (precisions N L P u) ≡ I
      long = table_length I (λ j. precision_at N L P u j)

  -- and those before it what the same answer notes in those after it, with the number of the last finished plane
  pub precisions_back : precisions N L P u ≡ (learn N L s.pass s.left q a (record { bits = []; planes = precisions N L P (u ++ (a ∷ [])) })).planes
  precisions_back =
      sym (table_is I _ 0 _ (learn_long N L s.pass s.left q a k ∙ long)
      (λ i hi. learn_plane N L s.pass s.left q a k i (omega (arith, hi, long))
      ∙ ap (λ (n : ℕ). cond (completes N L s.pass q a i) s.left n) (table_at I (λ j. precision_at N L P (u ++ (a ∷ [])) j) i 0 hi ∙ precision_step N L P sized A u a begins q e i hi)
      ∙ on i hi (completes N L s.pass q a i) refl))
    where
      k : Known
      k = record { bits = []; planes = precisions N L P (u ++ (a ∷ [])) }

      long : length (precisions N L P (u ++ (a ∷ []))) ≡ I
      long = table_length I (λ j. precision_at N L P (u ++ (a ∷ [])) j)

      on : (i : ℕ) → i < I → (t : Bool) → completes N L s.pass q a i ≡ t → cond t s.left (cond t (s.left - 1) (precision_at N L P u i)) ≡ precision_at N L P u i
      on i hi true et = sym (precision_before N L sized P A u a begins q e i hi et)
      on i hi false et = refl

module _ (N L : ℕ) (sized : Sized N L) (P : ℕ) (A : List ℤ) (u : List Bool) (a : Bool) (begins : Begins N L P A (u ++ (a ∷ []))) (i : ℕ) where
  -- a sign: the value was 0
  pub value_found : (rule : ℕ → ℕ → ℕ) → ask (all_of N) (after N L P u) ≡ some (sign_of i)
      → (at (values_by N L P (u ++ (a ∷ [])) rule) i ≡ signed a (rule ((after N L P u).left - 1) (2 ^ ((after N L P u).left - 1)))) × (at (values_by N L P u rule) i ≡ pos 0)
  value_found rule e = (new, values_at N L sized P A u a begins (sign_of i) e u rule i hi ∙ value_zero rule (precision_at N L P u i) (at (known N L P u).bits i) none)
    where
      s : State
      s = after N L P u

      hi : i < all_of N
      hi = (asked_here N L sized P A u a begins (sign_of i) e).own.1

      done : completes N L (after N L P u).pass (sign_of i) a i ≡ true
      done = sign_completes N L (after N L P u).pass i a

      none : mag_at (known N L P u).bits i ≡ 0
      none = unfound_zero N L sized P A u a begins (sign_of i) e i hi ((asked_here N L sized P A u a begins (sign_of i) e).met i hi done)

      bits : at (known N L P (u ++ (a ∷ []))).bits i ≡ signed a (2 ^ ((after N L P u).left - 1))
      bits =
          ap (λ (k : Known). at k.bits i) (known_step N L P u a (sign_of i) e)
          ∙ learn_sign N L (after N L P u).pass ((after N L P u).left - 1) i a (known N L P u) (omega (arith, hi, (known_sound N L P u).long_bits))

      sharp : precision_at N L P (u ++ (a ∷ [])) i ≡ (after N L P u).left - 1
      sharp = precision_step N L P sized A u a begins (sign_of i) e i hi ∙ ap (λ (t : Bool). cond t ((after N L P u).left - 1) (precision_at N L P u i)) done

      new : at (values_by N L P (u ++ (a ∷ [])) rule) i ≡ signed a (rule ((after N L P u).left - 1) (2 ^ ((after N L P u).left - 1)))
      new =
          values_at N L sized P A u a begins (sign_of i) e (u ++ (a ∷ [])) rule i hi
          ∙ ap (λ (k : ℕ). value_by rule k (at (known N L P (u ++ (a ∷ []))).bits i)) sharp
          ∙ ap (λ (z : ℤ). value_by rule ((after N L P u).left - 1) z) bits
          ∙ value_of rule ((after N L P u).left - 1) a (2 ^ ((after N L P u).left - 1)) (one-le-pow ((after N L P u).left - 1) 2 (omega arith))

  pub values_found : (rule : ℕ → ℕ → ℕ) → ask (all_of N) (after N L P u) ≡ some (sign_of i)
      → (values_by N L P (u ++ (a ∷ [])) rule ≡ set (values_by N L P u rule) i (signed a (rule ((after N L P u).left - 1) (2 ^ ((after N L P u).left - 1)))))
      × (values_by N L P u rule ≡ set (values_by N L P (u ++ (a ∷ [])) rule) i (pos 0))
  values_found rule e = (
    values_moved N L sized P A u a begins (sign_of i) e rule i (λ j hj n. sign_other (after N L P u).pass i j n) ∙ ap (λ (z : ℤ). set (values_by N L P u rule) i z) (value_found rule e).0,
    values_back N L sized P A u a begins (sign_of i) e rule i (λ j hj n. sign_other (after N L P u).pass i j n) ∙ ap (λ (z : ℤ). set (values_by N L P (u ++ (a ∷ [])) rule) i z) (value_found rule e).1,
  )

  -- a refinement bit
  pub value_refined : (b : ℕ) → ask (all_of N) (after N L P u) ≡ some (bit_of i b) → (after N L P u).pass ≡ refining → Refined b a (at (values_by N L P u midpoint) i) (at (values_by N L P (u ++ (a ∷ [])) midpoint) i)
  value_refined b e r =
      refined b a (negative z) (magnitude z) (at (values_by N L P u midpoint) i) (at (values_by N L P (u ++ (a ∷ [])) midpoint) i) more fresh
      (values_at N L sized P A u a begins (bit_of i b) e u midpoint i hi ∙ ap (λ (k : ℕ). value_by midpoint k z) coarse ∙ value_some midpoint (suc b) z more)
      (values_at N L sized P A u a begins (bit_of i b) e (u ++ (a ∷ [])) midpoint i hi
      ∙ ap (λ (k : ℕ). value_by midpoint k (at (known N L P (u ++ (a ∷ []))).bits i)) sharp
      ∙ ap (λ (y : ℤ). value_by midpoint b y) bits
      ∙ value_of midpoint b (negative z) (magnitude z + digit a * 2 ^ b) (omega (arith, more)))
    where
      z : ℤ
      z = at (known N L P u).bits i

      it : (i ≡ (after N L P u).place) × (b ≡ (after N L P u).left - 1) × (i < all_of N)
      it = (asked_here N L sized P A u a begins (bit_of i b) e).own

      hi : i < all_of N
      hi = it.2

      plane : (after N L P u).left ≡ suc b
      plane = omega (arith, it.1, ask_left (all_of N) (after N L P u) (bit_of i b) e)

      done : completes N L (after N L P u).pass (bit_of i b) a i ≡ true
      done = ap (λ (p : Pass). completes N L p (bit_of i b) a i) r ∙ eq-eqb i i refl

      mark : get_or (after N L P u).marks i 0 ≡ 3
      mark = subst (λ (p : Pass). Met (bit_of i b) p (get_or (after N L P u).marks i 0)) r ((asked_here N L sized P A u a begins (bit_of i b) e).met i hi done)

      more : 1 ≤ magnitude z
      more = (known_sound N L P u).found (omega (arith, plane)) i hi (omega (arith, mark)) (omega (arith, mark))

      fresh : magnitude z % 2 ^ suc b ≡ 0
      fresh =
          subst (λ (n : ℕ). magnitude z % 2 ^ n ≡ 0) plane
          ((known_sound N L P u).fresh i hi mark (subst (λ (p : Pass). Due p (after N L P u).place i) (sym r) (omega (arith, it.0))))

      coarse : precision_at N L P u i ≡ suc b
      coarse = precision_before N L sized P A u a begins (bit_of i b) e i hi done ∙ plane

      sharp : precision_at N L P (u ++ (a ∷ [])) i ≡ b
      sharp = precision_step N L P sized A u a begins (bit_of i b) e i hi ∙ ap (λ (t : Bool). cond t ((after N L P u).left - 1) (precision_at N L P u i)) done ∙ sym it.1

      bits : at (known N L P (u ++ (a ∷ []))).bits i ≡ signed (negative z) (magnitude z + digit a * 2 ^ b)
      bits =
          ap (λ (k : Known). at k.bits i) (known_step N L P u a (bit_of i b) e)
          ∙ ap (λ (p : Pass). at (learn N L p ((after N L P u).left - 1) (bit_of i b) a (known N L P u)).bits i) r
          ∙ get_or-set_same (known N L P u).bits i (signed (negative z) (magnitude z + digit a * 2 ^ ((after N L P u).left - 1))) (pos 0) (omega (arith, hi, (known_sound N L P u).long_bits))
          ∙ ap (λ (c : ℕ). signed (negative z) (magnitude z + digit a * 2 ^ c)) (sym it.1)
