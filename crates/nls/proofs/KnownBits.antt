-- What is known after bits that an array answers: the array's bits, down to each coefficient's precision.
use mathlib.Core.Path.{◌≡◌, refl, sym, ap, subst, ◌∙◌}
use mathlib.Core.Bool.{Bool, true, false, ◌&&◌, ◌||◌, true≢false, false≢true}
use mathlib.Core.Logic.{◌⊎◌, inl, inr, ⊎_elim}
use mathlib.Core.List.{List, [], ◌∷◌}
use Prim.Native.Nat.{ℕ, zero, suc, ◌+◌, ◌*◌, ◌-◌, ◌/◌, ◌^◌, ◌≤◌, ◌<◌}
use native.Mathlib.Omega.{arith}
use native.Mathlib.Nat.{min-le_left}
use native.Mathlib.Decide.{ℕ_discrete}
use lib.Dec.{ltb, eqb}
use lib.IntN.{ℤ, pos}
use lib.ListN.{get_or, set, get_or-replicate}
use lib.Seq.{set-get_or}
use borrow.Author.Tests.{ltb-true, eqb-true, lt-ltb}
use Rattle.sizes.specs.Sizes.{all_of, coarsest_of, Sized}
use Rattle.sizes.proofs.Laws.{both}
use Rattle.bits.specs.Bits.{bit, digit}
use Rattle.coef.specs.Coef.{at, mag_at, magnitude, negative, signed}
use Rattle.nls.specs.Scan as scan
use Rattle.nls.specs.Scan.{State, Look, over, silent, asks, bit_of, sign_of, in_desc, in_grand, Pass, pixels, sets, refining, look, look_at, look_pixels, look_sets, look_refining, tell, tell_at, tell_sets, settle, ask, asked, next, reach}
use Rattle.nls.specs.Stream.{begin, after}
use Rattle.nls.specs.Reading.{Known, nothing, noted, set_each, tested_zero, learn, learn_at, learned, known, high_bits, precision_at}
use Rattle.nls.specs.Judging.{Begins}
use Rattle.nls.proofs.Tiled.{Tiled, tiled}
use Rattle.nls.proofs.Arrays.{Bits, bits_of_arr, below, inside, ans, told, member, Fit}
use Rattle.tree.specs.Tree.{desc, grand}
use Rattle.tree.proofs.Lists.{Each, each_to}
use Rattle.tree.proofs.Members.{under, InDesc, InGrand, each_desc, each_grand}
use Rattle.nls.proofs.Counting.Sums.{order}
use Rattle.nls.proofs.Machine.Table.{Cfg, alone}
use Rattle.nls.proofs.Machine.Cover.{Core, More, is_alone, Alone_at}
use Rattle.nls.proofs.Machine.Steps.{Good_at, From, preds, from_good}
use Rattle.nls.proofs.Machine.Start.{good_start}
use Rattle.nls.proofs.Machine.Start as first
use Rattle.nls.proofs.Reading.Know.{know, know_o, add, least, know_sgn_has}
use Rattle.nls.proofs.Reading.Told.{fam, one_bit, run}
use Rattle.nls.proofs.Kept.{AfterMove, settle_keeps}
use Rattle.nls.proofs.Lists.{arr_of}
use Rattle.nls.proofs.Streams.{begins_iff}
use Rattle.nls.proofs.HighBits.{high_same, high_none, high_refined, high_first, high_round}
use Rattle.nls.proofs.Known.{Sound, by_place, plane_at, zero_one, sound_next, sound_begin, known_sound}
use Rattle.nls.proofs.Machine.Run.{Settled, start_settled, next_settled}

-- a bit that is known after bit b of i was answered with 1: that one, or one that was known
know_old : (i b : ℕ) (k : Bits) (j e : ℕ) → (know (bit_of i b) true k).has j e ≡ true → ((j ≡ i) × (e ≡ b)) ⊎ (k.has j e ≡ true)
unfolding know add
know_old i b k j e = on (eqb j i) refl (eqb e b) refl
  where
    on : (x : Bool) → eqb j i ≡ x → (y : Bool) → eqb e b ≡ y → ((x && y) || k.has j e) ≡ true → ((j ≡ i) × (e ≡ b)) ⊎ (k.has j e ≡ true)
    on true ex true ey h = inl (eqb-true j i ex, eqb-true e b ey)
    on true ex false ey h = inr h
    on false ex y ey h = inr h

off : (x : Bool) {y : Bool} → (x ≡ true → y ≡ true) → y ≡ false → x ≡ false
off true f e = absurd (true≢false (sym (f refl) ∙ e))
off false f e = refl

pub under_is : (n g j : ℕ) → below n g j ≡ under n g j
unfolding below under
under_is zero g j = refl
under_is (suc n) g j = ap (λ (x : Bool). eqb (j / 4) g || x) (under_is n g (j / 4))

module _ (N L : ℕ) (size : Sized N L) (P : ℕ) (A : List ℤ) (under : (i : ℕ) → mag_at A i < 2 ^ P) where
  abbrev I : ℕ
  I = all_of N

  abbrev D : ℕ
  D = coarsest_of N L

  abbrev sz : Tiled D I
  sz = tiled N L size

  -- A as bits, and the scan's invariant with k for the bits of A that were read
  abbrev B : Bits
  B = bits_of_arr (arr_of A)

  abbrev Good : Bits → ℕ → Pass → ℕ → Bool → List ℕ → Type 0
  Good k l p i w m = Good_at sz P (fam N B k) l p i w m

  -- Of a scan at s: what is noted of a coefficient are A's bits, down to its plane; a bit that was read lies at its plane or above,
  -- but the one whose sign is still to come; and that is A's highest.
  record Right (s : State) (o : Known) (k : Bits) : Type 0 where
    high : (j : ℕ) → j < I → at o.bits j ≡ high_bits (get_or o.planes j 0) (at A j)
    own : (j e : ℕ) → j < I → k.has j e ≡ true → (s.pending ≡ true → j ≡ s.place → suc e ≡ s.left → ⊥) → get_or o.planes j 0 ≤ e
    first : (b : ℕ) → s.pending ≡ true → s.left ≡ suc b → (bit (mag_at A s.place) b ≡ true) × ((e : ℕ) → suc b ≤ e → e < P → bit (mag_at A s.place) e ≡ false)

  -- between the last finished plane and the plane of its last own bit, a coefficient has no bit
  gap : (k : Bits) (l : ℕ) (p : Pass) (i : ℕ) (w : Bool) (m : List ℕ) (o : Known) → Good k l p i w m
      → Sound I P (record { left = l; pass = p; place = i; pending = w; marks = m }) o → Right (record { left = l; pass = p; place = i; pending = w; marks = m }) o k
      → (j : ℕ) → j < I → (e : ℕ) → l ≤ e → e < get_or o.planes j 0 → bit (mag_at A j) e ≡ false
  gap k l p i w m o g h r j hj e a b = on (bit (mag_at A j) e) refl
    where
      on : (t : Bool) → bit (mag_at A j) e ≡ t → t ≡ false
      on false q = refl
      on true q =
          absurd
          (let seen : k.has j e ≡ true = from_good sz P (fam N B k) l p i w m g e a (omega (arith, h.most j hj)) j hj q in
          omega (arith, r.own j e hj seen (λ x y z. omega arith)))

  -- a coefficient whose mark is MIP or MCP has no bit in a finished plane
  unfound : (k : Bits) (b i : ℕ) (m : List ℕ) (c : Cfg) → From sz P (fam N B k) (suc b)
      → Core sz c m → More sz (preds (fam N B k) b) c → i < I → (get_or m i 0 ≡ 1) ⊎ (get_or m i 0 ≡ 4)
      → (e : ℕ) → suc b ≤ e → e < P → bit (mag_at A i) e ≡ false
  unfound k b i m c f core more hi v e a u = on (bit (mag_at A i) e) refl
    where
      mark : (1 ≤ get_or m i 0) × (get_or m i 0 < 5) × ((2 ≤ get_or m i 0) × (get_or m i 0 ≤ 3) → ⊥)
      mark = ⊎_elim (λ z. (omega arith, omega arith, λ y. omega (arith, y))) (λ z. (omega arith, omega arith, λ y. omega (arith, y))) v

      on : (t : Bool) → bit (mag_at A i) e ≡ t → t ≡ false
      on false q = refl
      on true q =
          let held : (alone D I c i ≡ true) × (2 ≤ c.al i) × (c.al i ≤ 3) = more.zs i hi (e, f e a u i hi q) in
          let same : Alone_at D I c m i = is_alone sz c m core i hi mark.0 mark.1 in
          absurd (mark.2 (omega arith, omega arith))

  -- nothing is noted
  right_on : {s t : State} {o : Known} {k : Bits} → s.pending ≡ false → t.pending ≡ false → Right s o k → Right t o k
  right_on ws wt r = record {
    high = r.high;
    own = λ j e hj h n. r.own j e hj h (λ w. absurd (true≢false (sym w ∙ ws)));
    first = λ b w. absurd (true≢false (sym w ∙ wt));
  }

  -- the coefficient at i is noted in plane b, where it is asked about
  right_noted : {s t : State} {o : Known} {k k' : Bits} (i b : ℕ) (z : ℤ) → Sound I P s o → Right s o k → i < I → s.left ≡ suc b → s.place ≡ i → t.pending ≡ false
      → z ≡ high_bits b (at A i) → ((j e : ℕ) → k'.has j e ≡ true → ((j ≡ i) × (e ≡ b)) ⊎ (k.has j e ≡ true)) → Right t (noted i z b o) k'
  right_noted {s} {t} {o} {k} {k'} i b z h r hi l at_i w e f = record {
    high = λ j hj. by_place o i b z (omega (arith, h.long_bits)) (omega (arith, h.long_planes)) (λ y n. y ≡ high_bits n (at A j)) j (λ q. e ∙ ap (λ (x : ℕ). high_bits b (at A x)) (sym q)) (λ q. r.high j hj);
    own = λ j x hj y n. by_place o i b z (omega (arith, h.long_bits)) (omega (arith, h.long_planes)) (λ y n. n ≤ x) j (λ q. here j x hj q (f j x y)) (λ q. there j x hj q (f j x y));
    first = λ b v. absurd (true≢false (sym v ∙ w));
  }
    where
      here : (j x : ℕ) → j < I → j ≡ i → ((j ≡ i) × (x ≡ b)) ⊎ (k.has j x ≡ true) → b ≤ x
      here j x hj q (inl y) = omega (arith, y.1)
      here j x hj q (inr y) = on (ℕ_discrete x b)
        where
          on : Dec (x ≡ b) → b ≤ x
          on (yes c) = omega arith
          on (no c) = omega (arith, h.least j hj, r.own j x hj y (λ _ _ d. c (omega arith)))

      there : (j x : ℕ) → j < I → (j ≡ i → ⊥) → ((j ≡ i) × (x ≡ b)) ⊎ (k.has j x ≡ true) → get_or o.planes j 0 ≤ x
      there j x hj q (inl y) = absurd (q y.0)
      there j x hj q (inr y) = r.own j x hj y (λ _ c _. q (c ∙ at_i))

  module _ (o : Known) (k : Bits) (b i : ℕ) (m : List ℕ) where
    abbrev Stand : Pass → Bool → State
    Stand p w = record { left = suc b; pass = p; place = i; pending = w; marks = m }

    -- a sign
    right_sign : (p : Pass) (a : Bool) → Sound I P (Stand p true) o → Right (Stand p true) o k → ans N B (sign_of i) ≡ a
        → Right (scan.state_at (suc b) p (i + 1) (set m i 2)) (noted i (signed a (2 ^ b)) b o) (know (sign_of i) a k)
    unfolding ans
    right_sign p a h r e =
        right_noted i b (signed a (2 ^ b)) h r (h.inside refl (omega arith)) refl refl refl
        (ap (λ (n : Bool). signed n (2 ^ b)) (sym e) ∙ sym (high_first b P (at A i) (under i) h.left (r.first b refl refl).0 (r.first b refl refl).1))
        (λ j x y. inr (sym (know_sgn_has i a k j x) ∙ y))

    -- a test bit 0
    right_zero : {t : State} (p : Pass) → Good k (suc b) p i false m → Sound I P (Stand p false) o → Right (Stand p false) o k → i < I → t.pending ≡ false → bit (mag_at A i) b ≡ false
        → Right t (record { bits = o.bits; planes = set o.planes i b }) k
    right_zero {t} p g h r hi w e =
        subst (λ (l : List ℤ). Right t (record { bits = l; planes = set o.planes i b }) k) (set-get_or o.bits i (pos 0))
        (right_noted i b (at o.bits i) h r hi refl refl w
        (r.high i hi ∙ high_same b (get_or o.planes i 0) (at A i) (omega (arith, h.least i hi)) (λ x l u. on x l u (ℕ_discrete x b)))
        (λ j x y. inr y))
      where
        on : (x : ℕ) → b ≤ x → x < get_or o.planes i 0 → Dec (x ≡ b) → bit (mag_at A i) x ≡ false
        on x l u (yes q) = ap (λ (n : ℕ). bit (mag_at A i) n) q ∙ e
        on x l u (no q) = gap k (suc b) p i false m o g h r i hi x (omega arith) u

    -- a test bit 1: its sign is still to come
    right_one : (p : Pass) → Right (Stand p false) o k → bit (mag_at A i) b ≡ true → ((e : ℕ) → suc b ≤ e → e < P → bit (mag_at A i) e ≡ false)
        → Right (Stand p true) o (know (bit_of i b) true k)
    right_one p r e f = record {
      high = r.high;
      own = λ j x hj y n. ⊎_elim (λ q. absurd (n refl q.0 (omega (arith, q.1)))) (λ q. r.own j x hj q (λ w. absurd (false≢true w))) (know_old i b k j x y);
      first = λ c w l. (subst (λ (n : ℕ). bit (mag_at A i) n ≡ true) (omega arith) e, λ x y u. f x (omega arith) u);
    }

    -- a refinement bit
    right_refined : (a : Bool) → Good k (suc b) refining i false m → Sound I P (Stand refining false) o → Right (Stand refining false) o k → i < I → get_or m i 0 ≡ 3 → bit (mag_at A i) b ≡ a
        → Right (scan.state_at (suc b) refining (i + 1) m) (noted i (signed (negative (at o.bits i)) (mag_at o.bits i + digit a * 2 ^ b)) b o) (know (bit_of i b) a k)
    right_refined a g h r hi v e =
        right_noted i b (signed (negative (at o.bits i)) (mag_at o.bits i + digit a * 2 ^ b)) h r hi refl refl refl
        (subst (λ (c : Bool). signed (negative (at o.bits i)) (mag_at o.bits i + digit c * 2 ^ b) ≡ high_bits b (at A i)) e
        (subst (λ (z : ℤ). signed (negative z) (magnitude z + digit (bit (mag_at A i) b) * 2 ^ b) ≡ high_bits b (at A i)) (sym held)
        (high_refined b (at A i) (subst (λ (z : ℤ). 1 ≤ magnitude z) held (h.found (omega arith) i hi (omega arith) (omega arith))))))
        (grown a)
      where
        -- the bits noted lie above plane b, whether or not its 0 is noted
        held : at o.bits i ≡ high_bits (suc b) (at A i)
        held = high_round b (at A i) (at o.bits i) (here (order (suc b) (get_or o.planes i 0))) (h.fresh i hi v (omega arith))
          where
            here : (suc b ≤ get_or o.planes i 0) ⊎ (get_or o.planes i 0 < suc b) → (at o.bits i ≡ high_bits (suc b) (at A i)) ⊎ (at o.bits i ≡ high_bits b (at A i))
            here (inl y) = inl (r.high i hi ∙ high_same (suc b) (get_or o.planes i 0) (at A i) y (λ x l u. gap k (suc b) refining i false m o g h r i hi x l u))
            here (inr y) = inr (r.high i hi ∙ ap (λ (n : ℕ). high_bits n (at A i)) {x = get_or o.planes i 0} {y = b} (omega (arith, h.least i hi)))

        grown : (a : Bool) (j x : ℕ) → (know (bit_of i b) a k).has j x ≡ true → ((j ≡ i) × (x ≡ b)) ⊎ (k.has j x ≡ true)
        grown true j x y = know_old i b k j x y
        grown false j x y = inr (unfold know in y)

  -- a set was tested 0 in plane b: so has each of its members bit b
  abbrev Zero : ℕ → ℕ → Type 0
  Zero b j = (j < I) × (bit (mag_at A j) b ≡ false)

  desc_zero : (g b : ℕ) → ans N B (in_desc g b) ≡ false → (j : ℕ) → InDesc N L g j → Zero b j
  unfolding ans inside
  desc_zero g b e j z = (z.1, off (bit (mag_at A j) b) (λ y. member N (λ j. below N g j) B b j (both (lt-ltb j (4 ^ N) z.1) (under_is N g j ∙ z.2)) y) e)

  grand_zero : (g b : ℕ) → ans N B (in_grand g b) ≡ false → (j : ℕ) → InGrand N L g j → Zero b j
  unfolding ans inside
  grand_zero g b e j z = (z.1, off (bit (mag_at A j) b) (λ y. member N (λ j. below N g (j / 4)) B b j (both (lt-ltb j (4 ^ N) z.1) (under_is N g (j / 4) ∙ z.2)) y) e)

  module _ (o : Known) (k : Bits) (b i : ℕ) (m : List ℕ) (g : Good k (suc b) sets i false m) where
    right_member : Sound I P (scan.state_at (suc b) sets i m) o → Right (scan.state_at (suc b) sets i m) o k → (j : ℕ) → Zero b j
        → Right (scan.state_at (suc b) sets i m) (record { bits = o.bits; planes = set o.planes j b }) k
    right_member h r j z = record {
      high = λ x hx. plane_at o.planes j b (λ n. at o.bits x ≡ high_bits n (at A x)) x (omega (arith, h.long_planes)) (same x hx) (r.high x hx);
      own = λ x e hx y n. plane_at o.planes j b (λ n. n ≤ e) x (omega (arith, h.long_planes)) (λ q. omega (arith, h.least x hx, r.own x e hx y n)) (r.own x e hx y n);
      first = λ c w. absurd (false≢true w);
    }
      where
        same : (x : ℕ) → x < I → x ≡ j → at o.bits x ≡ high_bits b (at A x)
        same x hx q = r.high x hx ∙ high_same b (get_or o.planes x 0) (at A x) (omega (arith, h.least x hx)) (λ e l u. on e l u (ℕ_discrete e b))
          where
            on : (e : ℕ) → b ≤ e → e < get_or o.planes x 0 → Dec (e ≡ b) → bit (mag_at A x) e ≡ false
            on e l u (yes y) = ap (λ (n : ℕ). bit (mag_at A x) n) y ∙ ap (λ (n : ℕ). bit (mag_at A n) b) q ∙ z.1
            on e l u (no y) = gap k (suc b) sets i false m o g h r x hx e (omega arith) u

  right_each : (o : Known) (k : Bits) (b i : ℕ) (m : List ℕ) → Good k (suc b) sets i false m → Sound I P (scan.state_at (suc b) sets i m) o
      → Right (scan.state_at (suc b) sets i m) o k → (l : List ℕ) → Each (Zero b) l → Right (scan.state_at (suc b) sets i m) (tested_zero l b o) k
  unfolding Each set_each
  right_each o k b i m g h r [] z = r
  right_each o k b i m g h r (j ∷ l) z =
      right_each (record { bits = o.bits; planes = set o.planes j b }) k b i m g (zero_one I P j b h refl) (right_member o k b i m g h r j z.0) l z.1

  -- A's answer a in plane b, in pass p; t is the state after it
  abbrev Learns : ℕ → Pass → Bool → Known → Bits → State → Look → Type 0
  Learns b p a o k t over = Unit {0}
  Learns b p a o k t (silent r) = Unit {0}
  Learns b p a o k t (asks q) = ans N B q ≡ a → Right t (learn N L p b q a o) (know q a k)

  learns_pixels : (b i : ℕ) (m : List ℕ) (a : Bool) (o : Known) (k : Bits) (x y : Bool) → ltb i I ≡ x → eqb (get_or m i 0) 1 ≡ y
      → Good k (suc b) pixels i false m → Sound I P (scan.state_at (suc b) pixels i m) o → Right (scan.state_at (suc b) pixels i m) o k
      → Learns b pixels a o k (tell_at I (suc b) pixels i false m a) (look_pixels b i m x y)
  unfolding ans
  learns_pixels b i m a o k false y ex ey g h r = tt
  learns_pixels b i m a o k true false ex ey g h r = tt
  learns_pixels b i m true o k true true ex ey g h r = λ e.
      right_one o k b i m pixels r e (unfound k b i m g.1.0 g.0 g.1.1.core g.1.1.more (ltb-true i I ex) (inl (eqb-true (get_or m i 0) 1 ey)))
  learns_pixels b i m false o k true true ex ey g h r = λ e. unfold know in right_zero o k b i m pixels g h r (ltb-true i I ex) refl e

  learns_sets : (b i : ℕ) (m : List ℕ) (a : Bool) (o : Known) (k : Bits) (x d n c : Bool) → ltb i I ≡ x → eqb (get_or m i 0) 4 ≡ c
      → Good k (suc b) sets i false m → Sound I P (scan.state_at (suc b) sets i m) o → Right (scan.state_at (suc b) sets i m) o k
      → Learns b sets a o k (tell_sets I (suc b) i m a d n) (look_sets b i m x d n c)
  unfolding ans know
  learns_sets b i m a o k false d n c ex ec g h r = tt
  learns_sets b i m true o k true true n c ex ec g h r = λ e. right_on refl refl r
  learns_sets b i m false o k true true n c ex ec g h r = λ e. right_on refl refl (right_each o k b i m g h r (desc N L (i / 4)) (each_to (InDesc N L (i / 4)) (Zero b) (desc_zero (i / 4) b e) (desc N L (i / 4)) (each_desc N L size (i / 4))))
  learns_sets b i m true o k true false true c ex ec g h r = λ e. right_on refl refl r
  learns_sets b i m false o k true false true c ex ec g h r = λ e. right_on refl refl (right_each o k b i m g h r (grand N L (i / 16)) (each_to (InGrand N L (i / 16)) (Zero b) (grand_zero (i / 16) b e) (grand N L (i / 16)) (each_grand N L size (i / 16))))
  learns_sets b i m true o k true false false true ex ec g h r = λ e.
      right_one o k b i m sets r e (unfound k b i m g.1.0 g.0 g.1.1.core g.1.1.more (ltb-true i I ex) (inr (eqb-true (get_or m i 0) 4 ec)))
  learns_sets b i m false o k true false false true ex ec g h r = λ e. right_zero o k b i m sets g h r (ltb-true i I ex) refl e
  learns_sets b i m a o k true false false false ex ec g h r = tt

  learns_refining : (b i : ℕ) (m : List ℕ) (a : Bool) (o : Known) (k : Bits) (x s n : Bool) → ltb i I ≡ x → eqb (get_or m i 0) 3 ≡ s
      → Good k (suc b) refining i false m → Sound I P (scan.state_at (suc b) refining i m) o → Right (scan.state_at (suc b) refining i m) o k
      → Learns b refining a o k (scan.state_at (suc b) refining (i + 1) m) (look_refining b i m x s n)
  unfolding ans
  learns_refining b i m a o k false s n ex es g h r = tt
  learns_refining b i m a o k true true n ex es g h r = λ e. right_refined o k b i m a g h r (ltb-true i I ex) (eqb-true (get_or m i 0) 3 es) e
  learns_refining b i m a o k true false true ex es g h r = tt
  learns_refining b i m a o k true false false ex es g h r = tt

  learns_in : (b : ℕ) (p : Pass) (i : ℕ) (w : Bool) (m : List ℕ) (a : Bool) (o : Known) (k : Bits) → Good k (suc b) p i w m
      → Sound I P (record { left = suc b; pass = p; place = i; pending = w; marks = m }) o → Right (record { left = suc b; pass = p; place = i; pending = w; marks = m }) o k
      → Learns b p a o k (tell_at I (suc b) p i w m a) (look_at I (suc b) p i w m)
  learns_in b pixels i true m a o k g h r = right_sign o k b i m pixels a h r
  learns_in b sets i true m a o k g h r = right_sign o k b i m sets a h r
  learns_in b refining i true m a o k g h r = absurd g
  learns_in b pixels i false m a o k g h r = learns_pixels b i m a o k (ltb i I) (eqb (get_or m i 0) 1) refl refl g h r
  learns_in b sets i false m a o k g h r = learns_sets b i m a o k (ltb i I) (eqb (get_or m i 0) 5) (eqb (get_or m i 0) 6) (eqb (get_or m i 0) 4) refl refl g h r
  learns_in b refining i false m a o k g h r = learns_refining b i m a o k (ltb i I) (eqb (get_or m i 0) 3) (eqb (get_or m i 0) 2) refl refl g h r

  learns : (l : ℕ) (p : Pass) (i : ℕ) (w : Bool) (m : List ℕ) (a : Bool) (o : Known) (k : Bits) → Good k l p i w m
      → Sound I P (record { left = l; pass = p; place = i; pending = w; marks = m }) o → Right (record { left = l; pass = p; place = i; pending = w; marks = m }) o k
      → Learns (l - 1) p a o k (tell_at I l p i w m a) (look_at I l p i w m)
  learns zero p i w m a o k g h r = tt
  learns (suc b) p i w m a o k g h r =
      let e : b ≡ suc b - 1 = omega arith in
      subst (λ (c : ℕ). Learns c p a o k (tell_at I (suc b) p i w m a) (look_at I (suc b) p i w m)) e (learns_in b p i w m a o k g h r)

  -- silent moves note nothing
  right_pixels : (b i : ℕ) (m : List ℕ) (o : Known) (k : Bits) (x y : Bool) → Right (scan.state_at (suc b) pixels i m) o k → AfterMove I (λ t. Right t o k) (look_pixels b i m x y)
  right_pixels b i m o k false y r = right_on refl refl r
  right_pixels b i m o k true true r = tt
  right_pixels b i m o k true false r = right_on refl refl r

  right_sets : (b i : ℕ) (m : List ℕ) (o : Known) (k : Bits) (x d g c : Bool) → Right (scan.state_at (suc b) sets i m) o k → AfterMove I (λ t. Right t o k) (look_sets b i m x d g c)
  right_sets b i m o k false d g c r = right_on refl refl r
  right_sets b i m o k true true g c r = tt
  right_sets b i m o k true false true c r = tt
  right_sets b i m o k true false false true r = tt
  right_sets b i m o k true false false false r = right_on refl refl r

  right_refining : (b i : ℕ) (m : List ℕ) (o : Known) (k : Bits) (x s n : Bool) → Right (scan.state_at (suc b) refining i m) o k → AfterMove I (λ t. Right t o k) (look_refining b i m x s n)
  right_refining b i m o k false s n r = right_on refl refl r
  right_refining b i m o k true true n r = tt
  right_refining b i m o k true false true r = right_on refl refl r
  right_refining b i m o k true false false r = right_on refl refl r

  right_look : (o : Known) (k : Bits) (l : ℕ) (p : Pass) (i : ℕ) (w : Bool) (m : List ℕ) → Right (record { left = l; pass = p; place = i; pending = w; marks = m }) o k
      → AfterMove I (λ t. Right t o k) (look_at I l p i w m)
  right_look o k zero p i w m r = tt
  right_look o k (suc b) p i true m r = tt
  right_look o k (suc b) pixels i false m r = right_pixels b i m o k (ltb i I) (eqb (get_or m i 0) 1) r
  right_look o k (suc b) sets i false m r = right_sets b i m o k (ltb i I) (eqb (get_or m i 0) 5) (eqb (get_or m i 0) 6) (eqb (get_or m i 0) 4) r
  right_look o k (suc b) refining i false m r = right_refining b i m o k (ltb i I) (eqb (get_or m i 0) 3) (eqb (get_or m i 0) 2) r

  abbrev Good_of : Bits → State → Type 0
  Good_of k s = Good k s.left s.pass s.place s.pending s.marks

  right_settle : (o : Known) (k : Bits) (s : State) → Right s o k → Right (settle I s) o k
  right_settle o k s = settle_keeps I (λ t. Right t o k) (λ t. right_look o k t.left t.pass t.place t.pending t.marks) s

  -- one bit
  right_next : (o : Known) (k : Bits) (s : State) (a : Bool) → Good_of k s → Sound I P s o → Right s o k → told N B (ask I s) a → Right (next I s a) (learn_at N L (ask I s) s a o) (know_o (ask I s) a k)
  unfolding next ask
  right_next o k s a g h r t =
      right_settle (learn_at N L (asked I (look I s)) s a o) (know_o (asked I (look I s)) a k) (tell I s a)
      (on (look I s) t (learns s.left s.pass s.place s.pending s.marks a o k g h r))
    where
      on : (l : Look) → told N B (asked I l) a → Learns (s.left - 1) s.pass a o k (tell I s a) l → Right (tell I s a) (learn_at N L (asked I l) s a o) (know_o (asked I l) a k)
      on over t f = absurd t
      on (silent r) t f = absurd t
      on (asks q) t f = f t

  right_run : (o : Known) (k : Bits) (s : State) (u : List Bool) → Settled I s → Good_of k s → Sound I P s o → Right s o k → Fit N B s u
      → Right (reach I s u) (learned N L s o u) (least N s u k)
  unfolding reach learned
  right_run o k s [] n g h r f = r
  right_run o k s (a ∷ u) n g h r f =
      right_run (learn_at N L (ask I s) s a o) (know_o (ask I s) a k) (next I s a) u (next_settled I s a) (one_bit N P sz B k s a g f.0) (sound_next I P N L s o a n h) (right_next o k s a g h r f.0) f.1

  -- before the first bit
  good_begin : Good_of first.nothing (begin N L P)
  good_begin = good_start sz P (fam N B first.nothing) (λ j z. false≢true z.1)

  right_begin : Right (begin N L P) (nothing N P) first.nothing
  unfolding scan.start
  right_begin = right_settle (nothing N P) first.nothing _ (record {
    high = λ j hj. get_or-replicate I j (pos 0) (pos 0) hj ∙ sym (ap (λ (n : ℕ). high_bits n (at A j)) (get_or-replicate I j P 0 hj) ∙ high_none P (at A j) (under j));
    own = λ j e hj h n. absurd (false≢true h);
    first = λ b w. absurd (false≢true w);
  })

  right_after : (u : List Bool) → Fit N B (begin N L P) u → Right (after N L P u) (known N L P u) (least N (begin N L P) u first.nothing)
  right_after u f = right_run (nothing N P) first.nothing (begin N L P) u (start_settled (all_of N) (coarsest_of N L) P) good_begin (sound_begin N L P) right_begin f

  -- a bit 1 that was read lies at its coefficient's plane or above, but one whose sign is still to come
  pub answered_own : (u : List Bool) → Fit N B (begin N L P) u → (j e : ℕ) → j < I → (least N (begin N L P) u first.nothing).has j e ≡ true
      → ((after N L P u).pending ≡ true → j ≡ (after N L P u).place → suc e ≡ (after N L P u).left → ⊥) → get_or (known N L P u).planes j 0 ≤ e
  answered_own u f = (right_after u f).own

  -- the known bits of each coefficient are A's, down to its precision
  pub answered_bits : (u : List Bool) → Fit N B (begin N L P) u → (i : ℕ) → i < I → at (known N L P u).bits i ≡ high_bits (precision_at N L P u i) (at A i)
  answered_bits u f i hi =
      r.high i hi
      ∙ high_same (precision_at N L P u i) (get_or (known N L P u).planes i 0) (at A i) (min-le_left (get_or (known N L P u).planes i 0) t.left)
      (λ e l h. gap k t.left t.pass t.place t.pending t.marks (known N L P u) (run N P sz B first.nothing (begin N L P) u good_begin f) (known_sound N L P u) r i hi e (omega arith) h)
    where
      k : Bits
      k = least N (begin N L P) u first.nothing

      t : State
      t = after N L P u

      r : Right (after N L P u) (known N L P u) (least N (begin N L P) u first.nothing)
      r = right_after u f

-- of every array whose stream begins so, the bits down to each coefficient's precision
pub known_bits : (N L : ℕ) → Sized N L → (P : ℕ) (A : List ℤ) (u : List Bool) → Begins N L P A u
    → (i : ℕ) → i < all_of N → at (known N L P u).bits i ≡ high_bits (precision_at N L P u i) (at A i)
known_bits N L z P A u b = answered_bits N L z P A b.planes.below u ((begins_iff N L z P A u).0 b).2
