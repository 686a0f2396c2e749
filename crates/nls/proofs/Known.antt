-- What is known after some bits (specs/Reading): lengths and sizes on any bits.
use mathlib.Core.Path.{◌≡◌, refl, sym, ap, subst, ◌∙◌}
use mathlib.Core.Bool.{Bool, true, false, true≢false, false≢true}
use mathlib.Core.Logic.{◌⊎◌, inl, inr, ⊎_elim}
use mathlib.Core.List.{List, [], ◌∷◌, ◌++◌}
use Prim.Native.Nat.{ℕ, zero, suc, ◌+◌, ◌*◌, ◌-◌, ◌/◌, ◌%◌, ◌^◌, ◌≤◌, ◌<◌}
use native.Mathlib.Omega.{arith}
use native.Mathlib.Decide.{ℕ_discrete}
use native.Mathlib.Nat.{zero-mod, mul-mod_left, one-le-pow, min-le_right, add-mul, mul-le-mul_right, lt_of_mul-lt-mul_right, add-mul-mod_self_right}
use lib.Dec.{ltb, eqb}
use lib.IntN.{ℤ, pos}
use lib.ListN.{length, get_or, set, replicate, length-set, length-replicate, get_or-replicate, get_or-eq_default}
use lib.Pow.{pow-lt, split, pow-add, mod-mod-pow}
use lib.Seq.{get_or-set_same, get_or-set_other, set_out, set-get_or}
use borrow.Author.Tests.{ltb-true, eqb-true}
use Rattle.sizes.specs.Sizes.{all_of, coarsest_of}
use Rattle.bits.specs.Bits.{digit}
use Rattle.coef.specs.Coef.{at, mag_at, magnitude, negative, signed}
use Rattle.coef.proofs.Laws.{magnitude_signed}
use Rattle.nls.specs.Marks.{push_from, push, split_desc, split_grand, push_roots, start_marks}
use Rattle.nls.specs.Scan as scan
use Rattle.nls.specs.Scan.{State, Look, over, silent, asks, Pass, pixels, sets, refining, look, look_at, look_pixels, look_sets, look_refining, tell, tell_at, tell_sets, settle, ask, asked, next, reach, start}
use Rattle.nls.specs.Stream.{begin, after}
use Rattle.nls.specs.Reading.{Known, nothing, noted, set_each, tested_zero, learn, learn_at, learned, known, last_plane, precision_at}
use Rattle.nls.proofs.Counting.Sums.{order}
use Rattle.nls.proofs.Machine.Run.{Settled, start_settled, next_settled, tell_left}
use Rattle.nls.proofs.Kept.{ones, AfterMove, settle_keeps}

-- A split writes no mark from 1 to 3.
record Old (m n : List ℕ) : Type 0 where
  same : (j : ℕ) → 1 ≤ get_or n j 0 → get_or n j 0 ≤ 3 → get_or m j 0 ≡ get_or n j 0

-- the mark at i after v is put there: v, or 0 past the end
put : (m : List ℕ) (i v : ℕ) → (get_or (set m i v) i 0 ≡ v) ⊎ (get_or (set m i v) i 0 ≡ 0)
put m i v =
    ⊎_elim
    (λ h. inr (ap (λ (l : List ℕ). get_or l i 0) (set_out m i v h) ∙ get_or-eq_default m 0 {n = i} h))
    (λ h. inl (get_or-set_same m i v 0 h))
    (order (length m) i)

old_none : {m : List ℕ} → Old m m
old_none = record { same = λ j a b. refl }

old_set : {m n : List ℕ} (i v : ℕ) → 4 ≤ v → Old m n → Old m (set n i v)
old_set {m} {n} i v h o = record { same = λ j a b. on j a b (ℕ_discrete j i) }
  where
    on : (j : ℕ) → 1 ≤ get_or (set n i v) j 0 → get_or (set n i v) j 0 ≤ 3 → Dec (j ≡ i) → get_or m j 0 ≡ get_or (set n i v) j 0
    on j a b (yes e) =
        let here : get_or (set n i v) j 0 ≡ get_or (set n i v) i 0 = ap (λ (x : ℕ). get_or (set n i v) x 0) e in
        absurd (⊎_elim (λ z. omega (arith, z)) (λ z. omega (arith, z)) (put n i v))
    on j a b (no e) =
        let there : get_or (set n i v) j 0 ≡ get_or n j 0 = get_or-set_other n i j v 0 e in
        o.same j (omega arith) (omega arith) ∙ sym there

module _ (I : ℕ) where
  old_push : {m n : List ℕ} (f j c : ℕ) → 4 ≤ c → Old m n → Old m (push_from I f j c n)
  unfolding push_from
  old_push zero j c h o = o
  old_push {m} {n} (suc f) j c h o = on (ltb j I) (old_push f (4 * j) (c + 1) (omega arith) (old_set j c h o))
    where
      on : (t : Bool) → Old m (push_from I f (4 * j) (c + 1) (set n j c)) → Old m (elim t as (λ _. List ℕ) [ true ↦ push_from I f (4 * j) (c + 1) (set n j c) | false ↦ n ])
      on true f = f
      on false f = o

  old_root : {m n : List ℕ} (i : ℕ) → Old m n → Old m (push I i (set n i 5))
  old_root i o = old_push I (4 * i) 7 (omega arith) (old_set i 5 (omega arith) o)

  old_grand : (i : ℕ) (m : List ℕ) → Old m (split_grand I i m)
  old_grand i m = old_root (i + 12) (old_root (i + 8) (old_root (i + 4) (old_root i old_none)))

  old_roots : {m n : List ℕ} (f i : ℕ) → Old m n → Old m (push_roots I f i n)
  unfolding push_roots
  old_roots zero i o = o
  old_roots {m = m} {n = n} (suc f) i o = old_roots {n = push I i (set {A = ℕ} n i 5)} f (i + 4) (old_root i o)

  old_start : (D : ℕ) → Old (replicate D 1 ++ replicate (I - D) 0) (start_marks I D)
  unfolding start_marks
  old_start D = old_roots (3 * D / 4) D old_none

  old_desc : (i : ℕ) (m : List ℕ) (t : Bool) → Old m (split_desc I i m t)
  old_desc i m t = on t (old_set (i + 3) 4 (omega arith) (old_set (i + 2) 4 (omega arith) (old_set (i + 1) 4 (omega arith) (old_set i 4 (omega arith) old_none))))
    where
      on : (t : Bool) → Old m (split_desc I i m false) → Old m (split_desc I i m t)
      on true o = old_set (4 * i) 6 (omega arith) o
      on false o = o

-- Multiples of powers of 2.
pub lower_round : (b p x : ℕ) → b ≤ p → x % 2 ^ p ≡ 0 → x % 2 ^ b ≡ 0
lower_round b p x h e =
    sym (mod-mod-pow x (p - b) b)
    ∙ ap (λ (n : ℕ). x % 2 ^ n % 2 ^ b) {x = p - b + b} {y = p} (omega arith)
    ∙ ap (λ (n : ℕ). n % 2 ^ b) e
    ∙ zero-mod (2 ^ b)

-- below 2^P there is room for one more 2^p
pub room : (p P x : ℕ) → p ≤ P → x % 2 ^ p ≡ 0 → x < 2 ^ P → x + 2 ^ p ≤ 2 ^ P
room p P x h e l =
    let whole : 2 ^ P ≡ 2 ^ (P - p) * 2 ^ p = ap (λ (n : ℕ). 2 ^ n) {x = P} {y = P - p + p} (omega arith) ∙ pow-add 2 (P - p) p in
    let part : x / 2 ^ p * 2 ^ p ≡ x = omega (arith, split x p) in
    let under : x / 2 ^ p < 2 ^ (P - p) = lt_of_mul-lt-mul_right (2 ^ p) (omega (arith, l)) in
    omega (arith, add-mul (x / 2 ^ p) 1 (2 ^ p), mul-le-mul_right {m = x / 2 ^ p + 1} {n = 2 ^ (P - p)} (2 ^ p) (omega arith))

-- The refinement pass is still to come to place j.
abbrev pub Due : Pass → ℕ → ℕ → Type 0
Due pixels i j = Unit {0}
Due sets i j = Unit {0}
Due refining i j = i ≤ j

-- Of a scan at s, with k known: planes are that in progress or above it, at most P; a coefficient that is yet to be refined has no bit of
-- the plane in progress; one that was found is not 0; magnitudes are below 2^P and have no bit below their plane; a sign is asked below I.
pub record Sound (I P : ℕ) (s : State) (k : Known) : Type 0 where
  pub long_bits : length k.bits ≡ I
  pub long_planes : length k.planes ≡ I
  pub left : s.left ≤ P
  pub most : (j : ℕ) → j < I → get_or k.planes j 0 ≤ P
  pub least : (j : ℕ) → j < I → s.left ≤ suc (get_or k.planes j 0)
  pub fresh : (j : ℕ) → j < I → get_or s.marks j 0 ≡ 3 → Due s.pass s.place j → mag_at k.bits j % 2 ^ s.left ≡ 0
  pub found : 1 ≤ s.left → (j : ℕ) → j < I → 2 ≤ get_or s.marks j 0 → get_or s.marks j 0 ≤ 3 → 1 ≤ mag_at k.bits j
  pub range : (j : ℕ) → j < I → mag_at k.bits j < 2 ^ P
  pub round : (j : ℕ) → j < I → mag_at k.bits j % 2 ^ get_or k.planes j 0 ≡ 0
  pub inside : s.pending ≡ true → 1 ≤ s.left → s.place < I

-- what holds of the entry at j after v is put at i: by whether it is that one
pub by_entry : {A : Type 0} (l : List A) (i : ℕ) (v d : A) (j : ℕ) → (j ≡ i → i < length l) → (F : A → Type 0) → (j ≡ i → F v) → ((j ≡ i → ⊥) → F (get_or l j d)) → F (get_or (set l i v) j d)
by_entry {A} l i v d j h F f g = on (ℕ_discrete j i)
  where
    on : Dec (j ≡ i) → F (get_or (set l i v) j d)
    on (yes e) = subst F (sym (ap (λ (x : ℕ). get_or (set l i v) x d) e ∙ get_or-set_same l i v d (h e))) (f e)
    on (no e) = subst F (sym (get_or-set_other l i j v d e)) (g e)

-- and of the coefficient at j after that at i is noted
pub by_place : (k : Known) (i b : ℕ) (z : ℤ) → i < length k.bits → i < length k.planes → (F : ℤ → ℕ → Type 0) (j : ℕ)
    → (j ≡ i → F z b) → ((j ≡ i → ⊥) → F (at k.bits j) (get_or k.planes j 0)) → F (at (set k.bits i z) j) (get_or (set k.planes i b) j 0)
by_place k i b z hb hp F j f g =
    by_entry k.bits i z (pos 0) j (λ e. hb) (λ y. F y (get_or (set k.planes i b) j 0)) (λ e. by_entry k.planes i b 0 j (λ e. hp) (λ n. F z n) f (λ n. absurd (n e)))
    (λ n. by_entry k.planes i b 0 j (λ e. hp) (λ m. F (at k.bits j) m) (λ e. absurd (n e)) g)

-- or of the plane alone
pub plane_at : (l : List ℕ) (i b : ℕ) (F : ℕ → Type 0) (j : ℕ) → j < length l → (j ≡ i → F b) → F (get_or l j 0) → F (get_or (set l i b) j 0)
plane_at l i b F j h f g = by_entry l i b 0 j (λ e. omega (arith, e, h)) F f (λ e. g)

due_next : (p : Pass) (i j : ℕ) → Due p (i + 1) j → Due p i j
due_next pixels i j d = tt
due_next sets i j d = tt
due_next refining i j d = omega arith

-- a mark that is not the one put at i
other_mark : (m : List ℕ) (i v j c : ℕ) → get_or (set m i v) j 0 ≡ c → (v ≡ c → ⊥) → 1 ≤ c → (j ≡ i → ⊥) × (get_or m j 0 ≡ c)
other_mark m i v j c e n h = (off, sym (get_or-set_other m i j v 0 off) ∙ e)
  where
    off : j ≡ i → ⊥
    off q = let here : get_or (set m i v) i 0 ≡ c = ap (λ (x : ℕ). get_or (set m i v) x 0) (sym q) ∙ e in ⊎_elim (λ z. n (sym z ∙ here)) (λ z. omega arith) (put m i v)

module _ (I P : ℕ) where
  -- the scan goes on, and nothing is noted
  moved : {s t : State} {k : Known} → Sound I P s k → t.left ≤ s.left → (t.pending ≡ true → t.place < I)
      → ((j : ℕ) → j < I → get_or t.marks j 0 ≡ 3 → Due t.pass t.place j → mag_at k.bits j % 2 ^ t.left ≡ 0)
      → ((j : ℕ) → j < I → 2 ≤ get_or t.marks j 0 → get_or t.marks j 0 ≤ 3 → (2 ≤ get_or s.marks j 0) × (get_or s.marks j 0 ≤ 3))
      → Sound I P t k
  moved h l w f g = record {
    long_bits = h.long_bits;
    long_planes = h.long_planes;
    left = omega (arith, h.left);
    most = h.most;
    least = λ j hj. omega (arith, h.least j hj);
    fresh = f;
    found = λ o j hj a b. h.found (omega arith) j hj (g j hj a b).0 (g j hj a b).1;
    range = h.range;
    round = h.round;
    inside = λ e o. w e;
  }

  -- to another place or pass of the same plane
  passed : {k : Known} {l i n : ℕ} {p r : Pass} {m : List ℕ} → Sound I P (scan.state_at l p i m) k → ((j : ℕ) → Due r n j → Due p i j) → Sound I P (scan.state_at l r n m) k
  passed h f = moved h (omega arith) (λ e. absurd (false≢true e)) (λ j hj e d. h.fresh j hj e (f j d)) (λ j hj x y. (x, y))

  -- a split
  parted : {k : Known} {l i : ℕ} {m n : List ℕ} → Sound I P (scan.state_at l sets i m) k → Old m n → Sound I P (scan.state_at l sets i n) k
  parted h o =
      moved h (omega arith) (λ e. absurd (false≢true e)) (λ j hj e d. h.fresh j hj (o.same j (omega arith) (omega arith) ∙ e) tt)
      (λ j hj x y. (omega (arith, o.same j (omega arith) y), omega (arith, o.same j (omega arith) y)))

  abbrev Quiet : Known → Look → Type 0
  Quiet k = AfterMove I (λ t. Sound I P t k)

  quiet_pixels : (b i : ℕ) (m : List ℕ) (k : Known) (x y : Bool) → Sound I P (scan.state_at (suc b) pixels i m) k → Quiet k (look_pixels b i m x y)
  quiet_pixels b i m k false y h = passed h (λ j d. tt)
  quiet_pixels b i m k true true h = tt
  quiet_pixels b i m k true false h = passed h (λ j d. tt)

  quiet_sets : (b i : ℕ) (m : List ℕ) (k : Known) (x d g c : Bool) → Sound I P (scan.state_at (suc b) sets i m) k → Quiet k (look_sets b i m x d g c)
  quiet_sets b i m k false d g c h = passed h (λ j d. tt)
  quiet_sets b i m k true true g c h = tt
  quiet_sets b i m k true false true c h = tt
  quiet_sets b i m k true false false true h = tt
  quiet_sets b i m k true false false false h = passed h (λ j d. tt)

  quiet_refining : (b i : ℕ) (m : List ℕ) (k : Known) (x s n : Bool) → eqb (get_or m i 0) 2 ≡ n → Sound I P (scan.state_at (suc b) refining i m) k → Quiet k (look_refining b i m x s n)
  quiet_refining b i m k false s n en h = moved h (omega arith) (λ e. absurd (false≢true e)) (λ j hj e d. lower_round b (get_or k.planes j 0) (mag_at k.bits j) (omega (arith, h.least j hj)) (h.round j hj)) (λ j hj a b. (a, b))
  quiet_refining b i m k true true n en h = tt
  quiet_refining b i m k true false true en h = moved h (omega arith) (λ e. absurd (false≢true e)) fr fd
    where
      fr : (j : ℕ) → j < I → get_or (set m i 3) j 0 ≡ 3 → i + 1 ≤ j → mag_at k.bits j % 2 ^ suc b ≡ 0
      fr j hj e d = h.fresh j hj (sym (get_or-set_other m i j 3 0 (λ q. omega arith)) ∙ e) (omega arith)

      fd : (j : ℕ) → j < I → 2 ≤ get_or (set m i 3) j 0 → get_or (set m i 3) j 0 ≤ 3 → (2 ≤ get_or m j 0) × (get_or m j 0 ≤ 3)
      fd j hj x y = on (ℕ_discrete j i)
        where
          on : Dec (j ≡ i) → (2 ≤ get_or m j 0) × (get_or m j 0 ≤ 3)
          on (yes q) = let z : get_or m j 0 ≡ 2 = ap (λ (x : ℕ). get_or m x 0) q ∙ eqb-true (get_or m i 0) 2 en in (omega arith, omega arith)
          on (no q) = let z : get_or (set m i 3) j 0 ≡ get_or m j 0 = get_or-set_other m i j 3 0 q in (omega arith, omega arith)
  quiet_refining b i m k true false false en h = passed h (λ j d. omega arith)

  quiet_look : (l : ℕ) (p : Pass) (i : ℕ) (w : Bool) (m : List ℕ) (k : Known) → Sound I P (record { left = l; pass = p; place = i; pending = w; marks = m }) k → Quiet k (look_at I l p i w m)
  quiet_look zero p i w m k h = tt
  quiet_look (suc b) p i true m k h = tt
  quiet_look (suc b) pixels i false m k h = quiet_pixels b i m k (ltb i I) (eqb (get_or m i 0) 1) h
  quiet_look (suc b) sets i false m k h = quiet_sets b i m k (ltb i I) (eqb (get_or m i 0) 5) (eqb (get_or m i 0) 6) (eqb (get_or m i 0) 4) h
  quiet_look (suc b) refining i false m k h = quiet_refining b i m k (ltb i I) (eqb (get_or m i 0) 3) (eqb (get_or m i 0) 2) refl h

  sound_settle : (s : State) (k : Known) → Sound I P s k → Sound I P (settle I s) k
  sound_settle s k = settle_keeps I (λ t. Sound I P t k) (λ t. quiet_look t.left t.pass t.place t.pending t.marks k) s

  -- the coefficient at i is noted in plane b
  noted_sound : {s t : State} {k : Known} (i b : ℕ) (z : ℤ) → Sound I P s k → i < I → s.left ≡ suc b → t.left ≡ suc b → t.pending ≡ false
      → magnitude z < 2 ^ P → magnitude z % 2 ^ b ≡ 0
      → ((j : ℕ) → j < I → get_or t.marks j 0 ≡ 3 → Due t.pass t.place j → (j ≡ i → ⊥) × (get_or s.marks j 0 ≡ 3) × Due s.pass s.place j)
      → ((j : ℕ) → j < I → 2 ≤ get_or t.marks j 0 → get_or t.marks j 0 ≤ 3 → (j ≡ i → 1 ≤ magnitude z) × ((j ≡ i → ⊥) → (2 ≤ get_or s.marks j 0) × (get_or s.marks j 0 ≤ 3)))
      → Sound I P t (noted i z b k)
  noted_sound {s} {t} {k} i b z h hi ls lt w small whole fr fd = record {
    long_bits = length-set k.bits i z ∙ h.long_bits;
    long_planes = length-set k.planes i b ∙ h.long_planes;
    left = omega (arith, h.left);
    most = λ j hj. at_plane (λ n. n ≤ P) j (λ e. omega (arith, h.left)) (λ e. h.most j hj);
    least = λ j hj. at_plane (λ n. t.left ≤ suc n) j (λ e. omega arith) (λ e. omega (arith, h.least j hj));
    fresh = λ j hj e d. at_bits (λ z. magnitude z % 2 ^ t.left ≡ 0) j (λ q. absurd ((fr j hj e d).0 q)) (λ q. subst (λ (n : ℕ). mag_at k.bits j % 2 ^ n ≡ 0) (ls ∙ sym lt) (h.fresh j hj (fr j hj e d).1 (fr j hj e d).2));
    found = λ o j hj x y. at_bits (λ z. 1 ≤ magnitude z) j (fd j hj x y).0 (λ q. h.found (omega arith) j hj ((fd j hj x y).1 q).0 ((fd j hj x y).1 q).1);
    range = λ j hj. at_bits (λ z. magnitude z < 2 ^ P) j (λ e. small) (λ e. h.range j hj);
    round = λ j hj. by_place k i b z (omega (arith, h.long_bits)) (omega (arith, h.long_planes)) (λ z n. magnitude z % 2 ^ n ≡ 0) j (λ e. whole) (λ e. h.round j hj);
    inside = λ e o. absurd (true≢false (sym e ∙ w));
  }
    where
      at_plane : (F : ℕ → Type 0) (j : ℕ) → (j ≡ i → F b) → ((j ≡ i → ⊥) → F (get_or k.planes j 0)) → F (get_or (set k.planes i b) j 0)
      at_plane F j f g = by_place k i b z (omega (arith, h.long_bits)) (omega (arith, h.long_planes)) (λ y n. F n) j f g

      at_bits : (F : ℤ → Type 0) (j : ℕ) → (j ≡ i → F z) → ((j ≡ i → ⊥) → F (at k.bits j)) → F (at (set k.bits i z) j)
      at_bits F j f g = by_place k i b z (omega (arith, h.long_bits)) (omega (arith, h.long_planes)) (λ y n. F y) j f g

  -- plane 0 has ended
  ended : {s t : State} {k : Known} → Sound I P s k → t.left ≡ 0 → Sound I P t k
  ended {s} {t} {k} h e = record {
    long_bits = h.long_bits;
    long_planes = h.long_planes;
    left = omega arith;
    most = h.most;
    least = λ j hj. omega arith;
    fresh = λ j hj m d. lower_round t.left (get_or k.planes j 0) (mag_at k.bits j) (omega arith) (h.round j hj);
    found = λ o. absurd (omega arith);
    range = h.range;
    round = h.round;
    inside = λ w o. absurd (omega arith);
  }

  -- the precision of one place goes down to plane b
  pub zero_one : {s : State} {k : Known} (i b : ℕ) → Sound I P s k → s.left ≡ suc b → Sound I P s (record { bits = k.bits; planes = set k.planes i b })
  zero_one {s} {k} i b h e = record {
    long_bits = h.long_bits;
    long_planes = length-set k.planes i b ∙ h.long_planes;
    left = h.left;
    most = λ j hj. plane_at k.planes i b (λ n. n ≤ P) j (omega (arith, h.long_planes)) (λ q. omega (arith, h.left)) (h.most j hj);
    least = λ j hj. plane_at k.planes i b (λ n. s.left ≤ suc n) j (omega (arith, h.long_planes)) (λ q. omega arith) (h.least j hj);
    fresh = h.fresh;
    found = h.found;
    range = h.range;
    round = λ j hj. plane_at k.planes i b (λ n. mag_at k.bits j % 2 ^ n ≡ 0) j (omega (arith, h.long_planes))
        (λ q. lower_round b (get_or k.planes j 0) (mag_at k.bits j) (omega (arith, h.least j hj)) (h.round j hj)) (h.round j hj);
    inside = h.inside;
  }

  -- a test bit 0
  zero_sound : {s t : State} {k : Known} (i b : ℕ) → Sound I P s k → i < I → s.left ≡ suc b → t.left ≡ suc b → t.pending ≡ false
      → ((j : ℕ) → j < I → get_or t.marks j 0 ≡ 3 → Due t.pass t.place j → (j ≡ i → ⊥) × (get_or s.marks j 0 ≡ 3) × Due s.pass s.place j)
      → ((j : ℕ) → j < I → 2 ≤ get_or t.marks j 0 → get_or t.marks j 0 ≤ 3 → (j ≡ i → ⊥) × (2 ≤ get_or s.marks j 0) × (get_or s.marks j 0 ≤ 3))
      → Sound I P t (record { bits = k.bits; planes = set k.planes i b })
  zero_sound {s} {t} {k} i b h hi ls lt w fr fd =
      subst (λ (l : List ℤ). Sound I P t (record { bits = l; planes = set k.planes i b })) (set-get_or k.bits i (pos 0))
      (noted_sound i b (at k.bits i) h hi ls lt w (h.range i hi)
      (lower_round b (get_or k.planes i 0) (mag_at k.bits i) (omega (arith, h.least i hi)) (h.round i hi)) fr
      (λ j hj x y. ((λ q. absurd ((fd j hj x y).0 q)), λ q. ((fd j hj x y).1, (fd j hj x y).2))))

  -- a sign
  sign_sound : {k : Known} (b i : ℕ) (p : Pass) (w a : Bool) (m : List ℕ) → Sound I P (record { left = suc b; pass = p; place = i; pending = w; marks = m }) k → i < I
      → Sound I P (scan.state_at (suc b) p (i + 1) (set m i 2)) (noted i (signed a (2 ^ b)) b k)
  sign_sound {k} b i p w a m h hi =
      noted_sound i b (signed a (2 ^ b)) h hi refl refl refl
      (rw magnitude_signed (pow-lt (omega (arith, h.left)))) (rw magnitude_signed (ap (λ (x : ℕ). x % 2 ^ b) {x = 2 ^ b} {y = 1 * 2 ^ b} (omega arith) ∙ mul-mod_left 1 (2 ^ b)))
      (λ j hj e d. ((other_mark m i 2 j 3 e (λ q. omega arith) (omega arith)).0, (other_mark m i 2 j 3 e (λ q. omega arith) (omega arith)).1, due_next p i j d))
      (λ j hj x y. ((λ q. rw magnitude_signed (one-le-pow b 2 (omega arith))), λ q. (let e : get_or (set m i 2) j 0 ≡ get_or m j 0 = get_or-set_other m i j 2 0 q in (omega arith, omega arith))))

  -- a refinement bit
  refined_sound : {k : Known} (b i : ℕ) (a : Bool) (m : List ℕ) → Sound I P (scan.state_at (suc b) refining i m) k → i < I → get_or m i 0 ≡ 3
      → Sound I P (scan.state_at (suc b) refining (i + 1) m) (noted i (signed (negative (at k.bits i)) (mag_at k.bits i + digit a * 2 ^ b)) b k)
  refined_sound {k} b i a m h hi e =
      noted_sound i b (signed (negative (at k.bits i)) (mag_at k.bits i + digit a * 2 ^ b)) h hi refl refl refl
      (rw magnitude_signed small) (rw magnitude_signed whole)
      (λ j hj z d. ((λ q. omega arith), z, omega arith))
      (λ j hj x y. ((λ q. rw magnitude_signed grown), λ q. (x, y)))
    where
      high : mag_at k.bits i % 2 ^ suc b ≡ 0
      high = h.fresh i hi e (omega arith)

      more : 1 ≤ mag_at k.bits i
      more = h.found (omega arith) i hi (omega arith) (omega arith)

      grown : 1 ≤ mag_at k.bits i + digit a * 2 ^ b
      grown = omega (arith, more)

      bit_small : (a : Bool) → digit a * 2 ^ b ≤ 2 ^ b
      bit_small true = omega arith
      bit_small false = omega arith

      small : mag_at k.bits i + digit a * 2 ^ b < 2 ^ P
      small = omega (arith, bit_small a, room (suc b) P (mag_at k.bits i) h.left high (h.range i hi), pow-lt {i = b} {j = suc b} (omega arith))

      whole : (mag_at k.bits i + digit a * 2 ^ b) % 2 ^ b ≡ 0
      whole = add-mul-mod_self_right (mag_at k.bits i) (digit a) (2 ^ b) ∙ lower_round b (suc b) (mag_at k.bits i) (omega arith) high

  -- members of a set that was tested 0 in plane b
  pub zero_each : {s : State} {k : Known} (l : List ℕ) (b : ℕ) → Sound I P s k → s.left ≡ suc b → Sound I P s (tested_zero l b k)
  unfolding set_each
  zero_each [] b h e = h
  zero_each {s} {k} (i ∷ l) b h e = zero_each l b (zero_one i b h e) e

  module _ (N L : ℕ) where
    -- an answer a in plane b, in pass p; t is the state after it
    abbrev Answered : ℕ → Pass → Bool → Known → State → Look → Type 0
    Answered b p a k t over = Sound I P t k
    Answered b p a k t (silent r) = Unit {0}
    Answered b p a k t (asks q) = Sound I P t (learn N L p b q a k)

    answered_pixels : (b i : ℕ) (m : List ℕ) (a : Bool) (k : Known) (x y : Bool) → ltb i I ≡ x → eqb (get_or m i 0) 1 ≡ y → Sound I P (scan.state_at (suc b) pixels i m) k
        → Answered b pixels a k (tell_at I (suc b) pixels i false m a) (look_pixels b i m x y)
    answered_pixels b i m a k false y ex ey h = tt
    answered_pixels b i m a k true false ex ey h = tt
    answered_pixels b i m true k true true ex ey h = moved h (omega arith) (λ e. ltb-true i I ex) (λ j hj e d. h.fresh j hj e tt) (λ j hj x y. (x, y))
    answered_pixels b i m false k true true ex ey h =
        zero_sound i b h (ltb-true i I ex) refl refl refl (λ j hj e d. (not_here j (omega arith), e, tt)) (λ j hj x y. (not_here j x, x, y))
      where
        not_here : (j : ℕ) → 2 ≤ get_or m j 0 → j ≡ i → ⊥
        not_here j x q = omega (arith, eqb-true (get_or m i 0) 1 ey, ap (λ (x : ℕ). get_or m x 0) q)

    answered_sets : (b i : ℕ) (m : List ℕ) (a : Bool) (k : Known) (x d g c : Bool) → ltb i I ≡ x → Sound I P (scan.state_at (suc b) sets i m) k
        → Answered b sets a k (tell_sets I (suc b) i m a d g) (look_sets b i m x d g c)
    answered_sets b i m a k false d g c ex h = tt
    answered_sets b i m true k true true g c ex h = parted h (old_desc I i m (ltb (4 * i) I))
    answered_sets b i m false k true true g c ex h = zero_each _ b (passed h (λ j d. tt)) refl
    answered_sets b i m true k true false true c ex h = parted h (old_grand I i m)
    answered_sets b i m false k true false true c ex h = zero_each _ b (passed h (λ j d. tt)) refl
    answered_sets b i m true k true false false true ex h = moved h (omega arith) (λ e. ltb-true i I ex) (λ j hj e d. h.fresh j hj e tt) (λ j hj x y. (x, y))
    answered_sets b i m false k true false false true ex h =
        zero_sound i b h (ltb-true i I ex) refl refl refl
        (λ j hj e d. (let o : (j ≡ i → ⊥) × (get_or m j 0 ≡ 3) = other_mark m i 1 j 3 e (λ q. omega arith) (omega arith) in (o.0, o.1, tt)))
        (λ j hj x y.
        let o : (j ≡ i → ⊥) × (get_or m j 0 ≡ get_or (set m i 1) j 0) = other_mark m i 1 j (get_or (set m i 1) j 0) refl (λ q. omega arith) (omega arith) in
        (o.0, omega arith, omega arith))
    answered_sets b i m a k true false false false ex h = tt

    answered_refining : (b i : ℕ) (m : List ℕ) (a : Bool) (k : Known) (x s n : Bool) → ltb i I ≡ x → eqb (get_or m i 0) 3 ≡ s → Sound I P (scan.state_at (suc b) refining i m) k
        → Answered b refining a k (scan.state_at (suc b) refining (i + 1) m) (look_refining b i m x s n)
    answered_refining b i m a k false s n ex es h = tt
    answered_refining b i m a k true true n ex es h = refined_sound b i a m h (ltb-true i I ex) (eqb-true (get_or m i 0) 3 es)
    answered_refining b i m a k true false true ex es h = tt
    answered_refining b i m a k true false false ex es h = tt

    answered_in : (b : ℕ) (p : Pass) (i : ℕ) (w : Bool) (m : List ℕ) (a : Bool) (k : Known) → Sound I P (record { left = suc b; pass = p; place = i; pending = w; marks = m }) k
        → Answered b p a k (tell_at I (suc b) p i w m a) (look_at I (suc b) p i w m)
    answered_in b pixels i true m a k h = sign_sound b i pixels true a m h (h.inside refl (omega arith))
    answered_in b sets i true m a k h = sign_sound b i sets true a m h (h.inside refl (omega arith))
    answered_in b refining i true m a k h = sign_sound b i refining true a m h (h.inside refl (omega arith))
    answered_in b pixels i false m a k h = answered_pixels b i m a k (ltb i I) (eqb (get_or m i 0) 1) refl refl h
    answered_in b sets i false m a k h = answered_sets b i m a k (ltb i I) (eqb (get_or m i 0) 5) (eqb (get_or m i 0) 6) (eqb (get_or m i 0) 4) refl h
    answered_in b refining i false m a k h = answered_refining b i m a k (ltb i I) (eqb (get_or m i 0) 3) (eqb (get_or m i 0) 2) refl refl h

    answered : (l : ℕ) (p : Pass) (i : ℕ) (w : Bool) (m : List ℕ) (a : Bool) (k : Known) → Sound I P (record { left = l; pass = p; place = i; pending = w; marks = m }) k
        → Answered (l - 1) p a k (tell_at I l p i w m a) (look_at I l p i w m)
    answered zero p i w m a k h = ended h (tell_left I zero p i w m a)
    answered (suc b) p i w m a k h =
        let e : b ≡ suc b - 1 = omega arith in
        subst (λ (c : ℕ). Answered c p a k (tell_at I (suc b) p i w m a) (look_at I (suc b) p i w m)) e (answered_in b p i w m a k h)

    pub sound_next : (s : State) (k : Known) (a : Bool) → Settled I s → Sound I P s k → Sound I P (next I s a) (learn_at N L (ask I s) s a k)
    unfolding next ask
    sound_next s k a q h =
        sound_settle (tell I s a) (learn_at N L (asked I (look I s)) s a k)
        (on (look I s) refl (answered s.left s.pass s.place s.pending s.marks a k h))
      where
        on : (x : Look) → look I s ≡ x → Answered (s.left - 1) s.pass a k (tell I s a) x → Sound I P (tell I s a) (learn_at N L (asked I x) s a k)
        on over e h = h
        on (silent t) e h = absurd (q t e)
        on (asks r) e h = h

-- bits after bits
pub learned_append : (N L : ℕ) (s : State) (k : Known) (u v : List Bool) → learned N L s k (u ++ v) ≡ learned N L (reach (all_of N) s u) (learned N L s k u) v
unfolding reach learned
learned_append N L s k [] v = refl
learned_append N L s k (a ∷ u) v = learned_append N L (next (all_of N) s a) (learn_at N L (ask (all_of N) s) s a k) u v

sound_run : (N L P : ℕ) (s : State) (k : Known) (u : List Bool) → Settled (all_of N) s → Sound (all_of N) P s k → Sound (all_of N) P (reach (all_of N) s u) (learned N L s k u)
unfolding reach learned
sound_run N L P s k [] q h = h
sound_run N L P s k (a ∷ u) q h = sound_run N L P (next (all_of N) s a) (learn_at N L (ask (all_of N) s) s a k) u (next_settled (all_of N) s a) (sound_next (all_of N) P N L s k a q h)

module _ (N L P : ℕ) where
  abbrev I : ℕ
  I = all_of N

  abbrev D : ℕ
  D = coarsest_of N L

  bits_0 : (j : ℕ) → j < I → at (replicate I (pos 0)) j ≡ pos 0
  bits_0 j hj = get_or-replicate I j (pos 0) (pos 0) hj

  planes_0 : (j : ℕ) → j < I → get_or (replicate I P) j 0 ≡ P
  planes_0 j hj = get_or-replicate I j P 0 hj

  pub sound_begin : Sound I P (begin N L P) (nothing N P)
  unfolding start
  sound_begin = sound_settle I P (scan.state_at P pixels 0 (start_marks I D)) (nothing N P) (record {
    long_bits = length-replicate I (pos 0);
    long_planes = length-replicate I P;
    left = omega arith;
    most = λ j hj. omega (arith, planes_0 j hj);
    least = λ j hj. omega (arith, planes_0 j hj);
    fresh = λ j hj e d. rw (bits_0 j hj) (zero-mod _);
    found = λ o j hj x y. absurd (omega (arith, ones D (I - D) j, (old_start I D).same j (omega arith) y));
    range = λ j hj. rw (bits_0 j hj) (one-le-pow P 2 (omega arith));
    round = λ j hj. rw (bits_0 j hj) (zero-mod _);
    inside = λ e o. absurd (false≢true e);
  })

  -- on any bits
  pub known_sound : (u : List Bool) → Sound I P (after N L P u) (known N L P u)
  known_sound u = sound_run N L P (begin N L P) (nothing N P) u (start_settled I D P) sound_begin

  pub bits_length : (u : List Bool) → length (known N L P u).bits ≡ I
  bits_length u = (known_sound u).long_bits

  pub planes_length : (u : List Bool) → length (known N L P u).planes ≡ I
  planes_length u = (known_sound u).long_planes

  pub left_most : (u : List Bool) → last_plane N L P u ≤ P
  left_most u = (known_sound u).left

  pub precision_left : (u : List Bool) (i : ℕ) → precision_at N L P u i ≤ last_plane N L P u
  precision_left u i = min-le_right (get_or (known N L P u).planes i 0) (last_plane N L P u)

  pub known_range : (u : List Bool) (i : ℕ) → mag_at (known N L P u).bits i < 2 ^ P
  known_range u i =
      ⊎_elim
      (λ h. subst (λ (z : ℤ). magnitude z < 2 ^ P) (sym (get_or-eq_default (known N L P u).bits (pos 0) {n = i} (omega (arith, bits_length u)))) (one-le-pow P 2 (omega arith)))
      (λ h. (known_sound u).range i h)
      (order I i)
