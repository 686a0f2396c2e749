-- What a run of answers tells of every array that fits it: the invariant of Machine/Steps with the known bits in it.
use mathlib.Core.Path.{◌≡◌, sym, ◌∙◌}
use mathlib.Core.Bool.{Bool, true, false, ◌&&◌, true≢false, false≢true}
use mathlib.Core.Logic.{◌⊎◌, inl, inr}
use mathlib.Core.Option.{Option, none, some}
use mathlib.Core.List.{List, [], ◌∷◌}
use Prim.Native.Nat.{ℕ, zero, suc, ◌*◌, ◌/◌, ◌^◌, ◌≤◌, ◌<◌}
use native.Mathlib.Omega.{arith}
use native.Mathlib.Nat.{pow-suc}
use lib.Dec.{ltb, eqb}
use borrow.Author.Tests.{eqb-true, eq-eqb, lt-ltb}
use Rattle.sizes.proofs.Laws.{both_left, both_right, both}
use Rattle.tree.proofs.Lists.{or_left, or_right}
use Rattle.nls.specs.Scan.{State, Look, over, silent, asks, Question, bit_of, sign_of, in_desc, in_grand, look, tell, ask, asked, next, reach}
use Rattle.nls.proofs.Tiled.{Tiled}
use Rattle.nls.proofs.Booleans.{or_cases}
use Rattle.nls.proofs.Arrays.{Bits, inside, ans, below, ◌⊑◌, told, any_find, member, Fit}
use Rattle.nls.proofs.Reading.Know.{least, know, know_o, know_grows, know_one, know_other, know_sign, know_sgn_has, know_neg}
use Rattle.nls.proofs.Machine.Cover.{Under, kid, far}
use Rattle.nls.proofs.Machine.Steps.{Fam, with_z, Good, Learned, On_ask, good_tell, good_settle, good_mono}

pub under_ge : (g i : ℕ) → Under g i → 4 * g ≤ i
under_ge g i (kid e) = omega arith
under_ge g i (far u) = omega (arith, under_ge g (i / 4) u)

-- fuel N is enough below 4^N
pub under_below : (n g i : ℕ) → 1 ≤ g → i < 4 ^ n → Under g i → below n g i ≡ true
unfolding below
under_below zero g i h k u = absurd (omega (arith, under_ge g i u))
under_below (suc n) g i h k (kid e) = or_left (eqb (i / 4) g) (below n g (i / 4)) (eq-eqb (i / 4) g e)
under_below (suc n) g i h k (far u) = or_right (eqb (i / 4) g) (below n g (i / 4)) (under_below n g (i / 4) h (omega (arith, pow-suc 4 n)) u)

-- bit b of A at j is known
abbrev pub Known : Bits → Bits → ℕ → ℕ → Type 0
Known A k b j = A.has j b ≡ true → k.has j b ≡ true

pub below_under : (n g i : ℕ) → below n g i ≡ true → Under g i
unfolding below
below_under zero g i h = absurd (false≢true h)
below_under (suc n) g i h = go (or_cases (eqb (i / 4) g) (below n g (i / 4)) h) (below_under n g (i / 4))
  where
    go : (eqb (i / 4) g ≡ true) ⊎ (below n g (i / 4) ≡ true) → (below n g (i / 4) ≡ true → Under g (i / 4)) → Under g i
    go (inl e) ih = kid (eqb-true (i / 4) g e)
    go (inr e) ih = far (ih e)

-- what a run knows about an array A that fits it, k being the known bits
abbrev pub fam : ℕ → Bits → Bits → Fam
fam N A k = record {
  X = Known A k;
  Y = λ j. k.neg j ≡ A.neg j;
  QD = λ b h. (j : ℕ) × (e : ℕ) × (j < 4 ^ N) × Under h j × (b ≤ e) × (A.has j e ≡ true);
  QG = λ b h. (j : ℕ) × (e : ℕ) × (j < 4 ^ N) × Under h (j / 4) × (b ≤ e) × (A.has j e ≡ true);
  Z = λ j. (e : ℕ) × (k.has j e ≡ true);
  dn_d = λ b h r. (r.0, r.1, r.2, r.3, omega arith, r.5);
  dn_g = λ b h r. (r.0, r.1, r.2, r.3, omega arith, r.5);
}

-- a bit of j is known
abbrev pub Zof : Bits → ℕ → Type 0
Zof k j = (e : ℕ) × (k.has j e ≡ true)

grows_o : (o : Option Question) (a : Bool) (k : Bits) → k ⊑ know_o o a k
unfolding ◌⊑◌
grows_o none a k i b h = h
grows_o (some q) a k i b h = know_grows q a k i b h

module _ (N : ℕ) where
  abbrev I : ℕ
  I = 4 ^ N

  pub learned : (A k : Bits) (q : Question) (a : Bool) → ans N A q ≡ a → Learned I (with_z (fam N A (know q a k)) (Zof k)) (Zof (know q a k)) q a
  unfolding ans inside
  learned A k (bit_of i b) true e = ((λ h. know_one i b k), λ j z n. (z.0, know_other i b k j z.0 z.1 n))
  learned A k (bit_of i b) false e = ((λ h. absurd (true≢false (sym h ∙ e))), λ j z. (z.0, unfold know in z.1))
  learned A k (sign_of i) a e = (know_sign i a k ∙ sym e, λ j z. (z.0, sym (know_sgn_has i a k j z.0) ∙ z.1))
  learned A k (in_desc g b) true e =
      let r : (j : ℕ) × (j < I) × (((ltb j I && below N g j) && A.has j b) ≡ true) = any_find I (λ j. (ltb j I && below N g j) && A.has j b) e in (
        (r.0, b, r.1, below_under N g r.0 (both_right (ltb r.0 I) (below N g r.0) (both_left (ltb r.0 I && below N g r.0) (A.has r.0 b) r.2)), omega arith, both_right (ltb r.0 I && below N g r.0) (A.has r.0 b) r.2),
        λ j z. (z.0, unfold know in z.1),
      )
  learned A k (in_desc g b) false e =
      ((λ g1 i hi u h. absurd (true≢false (sym (member N (λ j. below N g j) A b i (both (lt-ltb i I hi) (under_below N g i g1 hi u)) h) ∙ e))), λ j z. (z.0, unfold know in z.1))
  learned A k (in_grand g b) true e =
      let r : (j : ℕ) × (j < I) × (((ltb j I && below N g (j / 4)) && A.has j b) ≡ true) = any_find I (λ j. (ltb j I && below N g (j / 4)) && A.has j b) e in (
        (r.0, b, r.1, below_under N g (r.0 / 4) (both_right (ltb r.0 I) (below N g (r.0 / 4)) (both_left (ltb r.0 I && below N g (r.0 / 4)) (A.has r.0 b) r.2)), omega arith, both_right (ltb r.0 I && below N g (r.0 / 4)) (A.has r.0 b) r.2),
        λ j z. (z.0, unfold know in z.1),
      )
  learned A k (in_grand g b) false e =
      ((λ g1 i hi u h. absurd (true≢false (sym (member N (λ j. below N g (j / 4)) A b i (both (lt-ltb i I hi) (under_below N g (i / 4) g1 (omega arith) u)) h) ∙ e))), λ j z. (z.0, unfold know in z.1))

  on_ask : (A k : Bits) (a : Bool) (L : Look) → told N A (asked I L) a → On_ask I (with_z (fam N A (know_o (asked I L) a k)) (Zof k)) (Zof (know_o (asked I L) a k)) a L
  on_ask A k a over t = t
  on_ask A k a (silent s) t = t
  on_ask A k a (asks q) t = learned A k q a t

  neg_o : (A k : Bits) (o : Option Question) (a : Bool) → told N A o a → (j : ℕ) → k.neg j ≡ A.neg j → (know_o o a k).neg j ≡ A.neg j
  neg_o A k none a t j h = h
  neg_o A k (some q) a t j h = know_neg N A k q a t j h

module _ (N : ℕ) {D : ℕ} (P : ℕ) (sz : Tiled D (4 ^ N)) where
  abbrev pub Ok_at : Fam → State → Type 0
  Ok_at F s = Good sz P F s

  -- one answer, before the silent moves after it
  pub one_tell : (A k : Bits) (s : State) (a : Bool) → Ok_at (fam N A k) s → told N A (ask (4 ^ N) s) a → Ok_at (fam N A (know_o (ask (4 ^ N) s) a k)) (tell (4 ^ N) s a)
  unfolding ask ◌⊑◌
  one_tell A k s a g t = good_tell sz P (with_z (fam N A (know_o (ask (4 ^ N) s) a k)) (Zof k)) (Zof (know_o (ask (4 ^ N) s) a k)) s.left s.pass s.place s.pending s.marks a
      (good_mono sz P (fam N A k) (with_z (fam N A (know_o (ask (4 ^ N) s) a k)) (Zof k))
      (λ b j z h. grows_o (ask (4 ^ N) s) a k j b (z h)) (neg_o N A k (ask (4 ^ N) s) a t) (λ b j z. z) (λ b j z. z) (λ j z. z) s g) (on_ask N A k a (look (4 ^ N) s) t)

  pub one_bit : (A k : Bits) (s : State) (a : Bool) → Ok_at (fam N A k) s → told N A (ask (4 ^ N) s) a → Ok_at (fam N A (know_o (ask (4 ^ N) s) a k)) (next (4 ^ N) s a)
  unfolding next
  one_bit A k s a g t = good_settle sz P (fam N A (know_o (ask (4 ^ N) s) a k)) (tell (4 ^ N) s a) (one_tell A k s a g t)

  -- along a run
  pub run : (A k : Bits) (s : State) (u : List Bool) → Ok_at (fam N A k) s → Fit N A s u → Ok_at (fam N A (least N s u k)) (reach (4 ^ N) s u)
  unfolding reach
  run A k s [] g f = g
  run A k s (a ∷ u) g f = run A (know_o (ask (4 ^ N) s) a k) (next (4 ^ N) s a) u (one_bit A k s a g f.0) f.1
