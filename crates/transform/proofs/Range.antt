-- How large the numbers get, ahead and back. `mag` is at most 32,767 exactly for the numbers from -32,768 to 32,767.
use mathlib.Core.Path.{◌≡◌, refl, sym, ap, ◌∙◌, subst}
use mathlib.Core.Bool.{Bool, true, false}
use Prim.Native.Nat.{ℕ, zero, suc, ◌+◌, ◌*◌, ◌-◌, ◌/◌, ◌%◌, ◌^◌, ◌≤◌, ◌<◌}
use native.Mathlib.Nat.{pow-succ'}
use native.Mathlib.Omega.{arith}
use borrow.Author.Tests.{ltb-true, ltb-false}
use lib.Dec.{ltb}
use lib.IntN.{ℤ, pos, negsuc, neg_ℤ, sub_ℕ, nat_abs, ◌+ℤ◌, ◌-ℤ◌}
use lib.Signed.{mag}
use Rattle.transform.specs.Transform.{halved, low, high, first, second}
use Rattle.transform.specs.Quads.{apart, joined, block, unblock, entry, bands, unbands, downs, ups}
use Rattle.transform.proofs.Pairs.{sub_ind, sub_same, half_sub, second_sub, minus_sub, is}
use Rattle.transform.proofs.Levels.{by_band, bands_tl, bands_tr, bands_bl, bands_br, bands_past, unbands_near, unbands_past}

-- sums, differences and halves
pub mag_size : (z : ℤ) → mag z ≤ nat_abs z
mag_size (pos n) = omega arith
mag_size (negsuc n) = omega arith

pub size_mag : (z : ℤ) → nat_abs z ≤ suc (mag z)
size_mag (pos n) = omega arith
size_mag (negsuc n) = omega arith

pub neg_size : (z : ℤ) → nat_abs (neg_ℤ z) ≡ nat_abs z
neg_size (pos zero) = refl
neg_size (pos (suc n)) = refl
neg_size (negsuc n) = refl

sub_size : (a b : ℕ) → nat_abs (sub_ℕ a b) ≤ a + b
sub_size a b = sub_ind (λ z. nat_abs z ≤ a + b) a b (λ h. omega arith) (λ h. omega arith)

pub sum_size : (a b : ℤ) → nat_abs (a +ℤ b) ≤ nat_abs a + nat_abs b
sum_size (pos a) (pos b) = omega arith
sum_size (pos a) (negsuc b) = sub_size a (suc b)
sum_size (negsuc a) (pos b) = omega (arith, sub_size b (suc a))
sum_size (negsuc a) (negsuc b) = omega arith

pub high_size : (a b : ℤ) → nat_abs (high a b) ≤ nat_abs a + nat_abs b
unfolding high
high_size a b = omega (arith, sum_size a (neg_ℤ b), neg_size b)

pub half_size : (z : ℤ) → nat_abs (halved z) ≤ (nat_abs z + 1) / 2
half_size (pos n) = omega arith
half_size (negsuc n) = omega arith

pub low_size : (a b : ℤ) (n : ℕ) → nat_abs a ≤ n → nat_abs b ≤ n → nat_abs (low a b) ≤ n
unfolding low
low_size a b n h k = omega (arith, half_size (a +ℤ b), sum_size a b)

-- a floor stays between its two numbers
sub_mag : (a b m : ℕ) → a ≤ m → b ≤ suc m → mag (sub_ℕ a b) ≤ m
sub_mag a b m h k = sub_ind (λ z. mag z ≤ m) a b (λ l. omega arith) (λ l. omega arith)

half_mag : (z : ℤ) → mag (halved z) ≤ mag z
half_mag (pos n) = omega arith
half_mag (negsuc n) = omega arith

pub low_mag : (a b : ℤ) (m : ℕ) → mag a ≤ m → mag b ≤ m → mag (low a b) ≤ m
unfolding low
low_mag (pos a) (pos b) m h k = omega arith
low_mag (pos a) (negsuc b) m h k = omega (arith, half_mag (sub_ℕ a (suc b)), sub_mag a (suc b) m h (omega arith))
low_mag (negsuc a) (pos b) m h k = omega (arith, half_mag (sub_ℕ b (suc a)), sub_mag b (suc a) m k (omega arith))
low_mag (negsuc a) (negsuc b) m h k = omega arith

pub high_mag : (a b : ℤ) (m : ℕ) → mag a ≤ m → mag b ≤ m → nat_abs (high a b) ≤ 2 * m + 1
unfolding high
high_mag (pos a) (pos zero) m h k = omega arith
high_mag (pos a) (pos (suc b)) m h k = sub_ind (λ z. nat_abs z ≤ 2 * m + 1) a (suc b) (λ l. omega arith) (λ l. omega arith)
high_mag (pos a) (negsuc b) m h k = omega arith
high_mag (negsuc a) (pos zero) m h k = sub_ind (λ z. nat_abs z ≤ 2 * m + 1) 0 (suc a) (λ l. omega arith) (λ l. omega arith)
high_mag (negsuc a) (pos (suc b)) m h k = omega arith
high_mag (negsuc a) (negsuc b) m h k = sub_ind (λ z. nat_abs z ≤ 2 * m + 1) (suc b) (suc a) (λ l. omega arith) (λ l. omega arith)

-- back
pub next_half : (z : ℤ) → nat_abs (halved (z +ℤ pos 1)) ≤ (nat_abs z + 1) / 2
next_half (pos n) = omega arith
next_half (negsuc n) = sub_ind (λ z. nat_abs (halved z) ≤ (suc n + 1) / 2) 1 (suc n) (λ l. omega arith) (λ l. omega arith)

pub first_size : (l h : ℤ) → nat_abs (first l h) ≤ nat_abs l + (nat_abs h + 1) / 2
unfolding first
first_size l h = omega (arith, sum_size l (halved (h +ℤ pos 1)), next_half h)

-- the second of a pair is low minus the floor of high/2
second_is : (l h : ℤ) → second l h ≡ l -ℤ halved h
second_is l h =
    let p = is l in let q = is h in
    let a = p.over in let b = p.under in let u = q.over in let v = q.under in
    let e : halved (sub_ℕ u v) ≡ sub_ℕ ((u + v) / 2) v = ap halved (sub_same u v (u + v) (v + v) (omega arith)) ∙ half_sub (u + v) v in
    rw (p.same, q.same, e)
    (second_sub a b u v ∙ sub_same (a + (u + 1 + v) / 2 + v) (b + v + u) (a + v) (b + (u + v) / 2) (omega arith) ∙ sym (minus_sub a b ((u + v) / 2) v))

pub second_size : (l h : ℤ) → nat_abs (second l h) ≤ nat_abs l + (nat_abs h + 1) / 2
second_size l h =
    subst (λ (z : ℤ). nat_abs z ≤ nat_abs l + (nat_abs h + 1) / 2) (sym (second_is l h))
    (omega (arith, sum_size l (neg_ℤ (halved h)), neg_size (halved h), half_size h))

-- a quad of samples: its coarse number is a sample again, the others are at most 131,070
module _ (p q r s : ℤ) (a : mag p ≤ 32767) (b : mag q ≤ 32767) (c : mag r ≤ 32767) (d : mag s ≤ 32767) where
  pub tl_mag : mag (apart p q r s).tl ≤ 32767
  unfolding apart
  tl_mag = low_mag (low p q) (low r s) 32767 (low_mag p q 32767 a b) (low_mag r s 32767 c d)

  pub tr_size : nat_abs (apart p q r s).tr ≤ 65535
  unfolding apart
  tr_size = low_size (high p q) (high r s) 65535 (high_mag p q 32767 a b) (high_mag r s 32767 c d)

  pub bl_size : nat_abs (apart p q r s).bl ≤ 65535
  unfolding apart
  bl_size = high_mag (low p q) (low r s) 32767 (low_mag p q 32767 a b) (low_mag r s 32767 c d)

  pub br_size : nat_abs (apart p q r s).br ≤ 131070
  unfolding apart
  br_size = omega (arith, high_size (high p q) (high r s), high_mag p q 32767 a b, high_mag r s 32767 c d)

-- back: a quad of numbers of which three are within the limit grows by at most 20,971,520
module _ (a b c d : ℤ) (k : nat_abs b ≤ 16777215) (l : nat_abs c ≤ 16777215) (m : nat_abs d ≤ 16777215) where
  joined_size : (n : ℕ) → n < 4 → nat_abs (entry (joined a b c d) n) ≤ nat_abs a + 20971520
  unfolding joined entry
  joined_size zero h = omega (arith, first_size (first a c) (first b d), first_size a c, first_size b d)
  joined_size (suc zero) h = omega (arith, second_size (first a c) (first b d), first_size a c, first_size b d)
  joined_size (suc (suc zero)) h = omega (arith, first_size (second a c) (second b d), second_size a c, second_size b d)
  joined_size (suc (suc (suc n))) h = omega (arith, second_size (second a c) (second b d), second_size a c, second_size b d)

-- levels
module _ (M : ℕ) (X : ℕ → ℤ) (h : (i : ℕ) → i < 4 * M → mag (X i) ≤ 32767) where
  pub bands_mag : (i : ℕ) → i < M → mag (bands M X i) ≤ 32767
  unfolding block
  bands_mag i l =
      subst (λ (z : ℤ). mag z ≤ 32767) (sym (bands_tl M X i l))
      (tl_mag (X (4 * i)) (X (4 * i + 1)) (X (4 * i + 2)) (X (4 * i + 3)) (h (4 * i) (omega arith)) (h (4 * i + 1) (omega arith)) (h (4 * i + 2) (omega arith)) (h (4 * i + 3) (omega arith)))

  of_block : (k : ℕ) → k < M → (nat_abs (block X k).tr ≤ 131070) × (nat_abs (block X k).bl ≤ 131070) × (nat_abs (block X k).br ≤ 131070)
  unfolding block
  of_block k l =
      let p = X (4 * k) in let q = X (4 * k + 1) in let r = X (4 * k + 2) in let s = X (4 * k + 3) in
      let a = h (4 * k) (omega arith) in let b = h (4 * k + 1) (omega arith) in let c = h (4 * k + 2) (omega arith) in let d = h (4 * k + 3) (omega arith) in
      (omega (arith, tr_size p q r s a b c d), omega (arith, bl_size p q r s a b c d), br_size p q r s a b c d)

  pub bands_size : (i : ℕ) → i < 4 * M → nat_abs (bands M X i) ≤ 131070
  bands_size i l =
      by_band {P = nat_abs (bands M X i) ≤ 131070} M i
      (λ k. omega (arith, size_mag (bands M X i), bands_mag i k))
      (λ g k. subst (λ (z : ℤ). nat_abs z ≤ 131070) (sym (bands_tr M X i g k)) (of_block (i - M) (omega arith)).0)
      (λ g k. subst (λ (z : ℤ). nat_abs z ≤ 131070) (sym (bands_bl M X i g k)) (of_block (i - 2 * M) (omega arith)).1)
      (λ g k. subst (λ (z : ℤ). nat_abs z ≤ 131070) (sym (bands_br M X i g k)) (of_block (i - 3 * M) (omega arith)).2)
      (λ g. absurd (omega arith))

-- the sizes of a level
pub level_up : (N j : ℕ) → suc j ≤ N → 4 ^ (N - j) ≡ 4 * 4 ^ (N - suc j)
level_up N j h = ap (λ (x : ℕ). 4 ^ x) {x = N - j} {y = suc (N - suc j)} (omega arith) ∙ pow-succ' 4 (N - suc j)

module _ (N : ℕ) (X : ℕ → ℤ) (h : (i : ℕ) → i < 4 ^ N → mag (X i) ≤ 32767) where
  pub downs_mag : (j : ℕ) → j ≤ N → (i : ℕ) → i < 4 ^ (N - j) → mag (downs N j X i) ≤ 32767
  unfolding downs
  downs_mag zero g i l = h i (subst (λ (x : ℕ). i < 4 ^ x) {x = N - 0} {y = N} (omega arith) l)
  downs_mag (suc j) g i l =
      bands_mag (4 ^ (N - suc j)) (downs N j X) (λ k m. downs_mag j (omega arith) k (omega (arith, level_up N j g))) i l

  pub downs_size : (j : ℕ) → j ≤ N → (i : ℕ) → i < 4 ^ N → nat_abs (downs N j X i) ≤ 131070
  unfolding downs
  downs_size zero g i l = omega (arith, size_mag (X i), h i l)
  downs_size (suc j) g i l = tell (ltb i (4 * 4 ^ (N - suc j))) refl (λ k. downs_size j (omega arith) i k)
    where
      tell : (t : Bool) → ltb i (4 * 4 ^ (N - suc j)) ≡ t → (i < 4 ^ N → nat_abs (downs N j X i) ≤ 131070) → nat_abs (bands (4 ^ (N - suc j)) (downs N j X) i) ≤ 131070
      tell true e ih =
          bands_size (4 ^ (N - suc j)) (downs N j X) (λ k m. downs_mag j (omega arith) k (omega (arith, level_up N j g))) i (ltb-true i (4 * 4 ^ (N - suc j)) e)
      tell false e ih =
          subst (λ (z : ℤ). nat_abs z ≤ 131070) (sym (bands_past (4 ^ (N - suc j)) (downs N j X) i (ltb-false i (4 * 4 ^ (N - suc j)) e))) (ih l)

-- back: one level
module _ (M A : ℕ) (Y : ℕ → ℤ) (f : (i : ℕ) → i < M → nat_abs (Y i) ≤ A) (g : (i : ℕ) → M ≤ i → i < 4 * M → nat_abs (Y i) ≤ 16777215) where
  pub unbands_size : (i : ℕ) → i < 4 * M → nat_abs (unbands M Y i) ≤ A + 20971520
  unfolding unblock
  unbands_size i h =
      let k = i / 4 in
      let b : k < M = omega arith in
      subst (λ (z : ℤ). nat_abs z ≤ A + 20971520) (sym (unbands_near M Y i h))
      (omega (arith, joined_size (Y k) (Y (M + k)) (Y (2 * M + k)) (Y (3 * M + k)) (g (M + k) (omega arith) (omega arith)) (g (2 * M + k) (omega arith) (omega arith)) (g (3 * M + k) (omega arith) (omega arith)) (i % 4) (omega arith), f k b))

-- all of them: where the first 4^(N-j) entries are at most A and the others within the limit, j levels back add at most 20,971,520 each
pub ups_size : (N j A : ℕ) (Y : ℕ → ℤ) → j ≤ N → ((i : ℕ) → i < 4 ^ (N - j) → nat_abs (Y i) ≤ A) → ((i : ℕ) → 4 ^ (N - j) ≤ i → nat_abs (Y i) ≤ 16777215) → (i : ℕ) → i < 4 ^ N → nat_abs (ups N j Y i) ≤ A + j * 20971520
unfolding ups
ups_size N zero A Y g f h i l = omega (arith, f i (subst (λ (x : ℕ). i < 4 ^ x) {x = N} {y = N - 0} (omega arith) l))
ups_size N (suc j) A Y g f h i l =
    let M = 4 ^ (N - suc j) in
    let u = level_up N j g in
    let near : (k : ℕ) → k < 4 ^ (N - j) → nat_abs (unbands M Y k) ≤ A + 20971520 = λ k m. unbands_size M A Y f (λ n a b. h n a) k (omega (arith, u, m)) in
    let far : (k : ℕ) → 4 ^ (N - j) ≤ k → nat_abs (unbands M Y k) ≤ 16777215 = λ k m. subst (λ (z : ℤ). nat_abs z ≤ 16777215) (sym (unbands_past M Y k (omega (arith, u, m)))) (h k (omega (arith, u, m))) in
    omega (arith, ups_size N j (A + 20971520) (unbands M Y) (omega arith) near far i l)
