-- The way back reads the values as they stand in the table of decoding: it needs no known bits beside them.
use mathlib.Core.Path.{◌≡◌, refl, sym, ap, ◌∙◌}
use mathlib.Core.Bool.{Bool, true, false, cond, ◌&&◌, ◌||◌}
use mathlib.Core.List.{List, [], ◌∷◌, ◌++◌}
use Prim.Native.Nat.{ℕ, zero, suc, ◌-◌, ◌%◌, ◌^◌, ◌≤◌, ◌<◌}
use native.Mathlib.Omega.{arith}
use native.Mathlib.Decide.{dec_lt}
use native.Mathlib.Nat.{one-le-pow, min-le_left}
use lib.IntN.{ℤ, pos}
use lib.ListN.{get_or, get_or-eq_default}
use lib.Dec.{ltb, leb, eqb}
use borrow.Author.Tests.{eqb-true, eqb-false, le-leb, lt-leb}
use Rattle.sizes.specs.Sizes.{most_n, all_of, coarsest_of, Sized}
use Rattle.sizes.proofs.Tables.{table_at, table_length}
use Rattle.coef.specs.Coef.{at, mag_at, magnitude, negative, signed}
use Rattle.coef.proofs.Laws.{magnitude_signed}
use Rattle.nls.specs.Scan.{State, Pass, pixels, sets, refining, moves_left}
use Rattle.nls.specs.Stream.{after}
use Rattle.nls.specs.Reading.{known, precision_at, last_plane, midpoint, value_by, Between, values_by}
use Rattle.nls.specs.Judging.{Begins}
use Rattle.nls.proofs.Known.{room, lower_round, known_sound, bits_length, precision_left}
use Rattle.nls.proofs.Values.{midpoint_between}
use Rattle.undo.specs.Back.{Prior, first, quiet, answered, big_in, block, is, many_descs, fresh, unasked, prior_pixels, prior_refining, prior_set, prior_block, prior_sets, prior_at, prior, back_from, back, all_moves}
use Rattle.undo.proofs.Moves.{big_of}
use Rattle.undo.proofs.Whole.{mags_of, back_after}

-- known bits m without a bit below k, and a value between m and m + 2^k - 1, reach the level of a plane from k on both or neither
value_test : (rule : ℕ → ℕ → ℕ) → Between rule → (l k : ℕ) (z : ℤ) → k ≤ l → magnitude z % 2 ^ k ≡ 0 → leb (2 ^ l) (magnitude (value_by rule k z)) ≡ leb (2 ^ l) (magnitude z)
unfolding value_by
value_test rule fair l k z h e = on (eqb m 0) refl
  where
    m : ℕ
    m = magnitude z

    one : 1 ≤ 2 ^ l
    one = one-le-pow l 2 (omega arith)

    by : 1 ≤ m → Dec (m < 2 ^ l) → leb (2 ^ l) (rule k m) ≡ leb (2 ^ l) m
    by some (yes w) = lt-leb (2 ^ l) (rule k m) (omega (arith, room k l m h e w, fair.high k m some, one-le-pow k 2 (omega arith))) ∙ sym (lt-leb (2 ^ l) m w)
    by some (no w) = le-leb (2 ^ l) (rule k m) (omega (arith, w, fair.low k m some)) ∙ sym (le-leb (2 ^ l) m (omega (arith, w)))

    on : (t : Bool) → eqb m 0 ≡ t → leb (2 ^ l) (magnitude (cond t (pos 0) (signed (negative z) (rule k m)))) ≡ leb (2 ^ l) m
    on true q = lt-leb (2 ^ l) 0 one ∙ sym (lt-leb (2 ^ l) m (omega (arith, eqb-true m 0 q, one)))
    on false q = rw magnitude_signed (by (omega (arith, eqb-false m 0 q)) (dec_lt m (2 ^ l)))

-- at the planes left and above, the values have a bit where the known bits have one
big_same : (N L P : ℕ) (u : List Bool) (l i : ℕ) → last_plane N L P u ≤ l → big_in (values_by N L P u midpoint) l i ≡ big_of (mags_of (known N L P u)) l i
big_same N L P u l i h = on (dec_lt i (all_of N))
  where
    k : ℕ
    k = precision_at N L P u i

    on : Dec (i < all_of N) → leb (2 ^ l) (magnitude (at (values_by N L P u midpoint) i)) ≡ leb (2 ^ l) (mag_at (known N L P u).bits i)
    on (yes y) =
        ap (λ (z : ℤ). leb (2 ^ l) (magnitude z)) (table_at (all_of N) _ i (pos 0) y)
        ∙ value_test midpoint midpoint_between l k (at (known N L P u).bits i) (omega (arith, h, precision_left N L P u i))
        (lower_round k (get_or (known N L P u).planes i 0) (mag_at (known N L P u).bits i) (min-le_left (get_or (known N L P u).planes i 0) (last_plane N L P u)) ((known_sound N L P u).round i y))
    on (no y) =
        ap (λ (z : ℤ). leb (2 ^ l) (magnitude z)) (get_or-eq_default (values_by N L P u midpoint) (pos 0) {n = i} (omega (arith, y, table_length (all_of N) (λ i. value_by midpoint (precision_at N L P u i) (at (known N L P u).bits i)))))
        ∙ sym (ap (λ (z : ℤ). leb (2 ^ l) (magnitude z)) (get_or-eq_default (known N L P u).bits (pos 0) {n = i} (omega (arith, y, bits_length N L P u))))

-- Two tests that agree at the planes left and above give the same way back: a move back asks at the planes left, and these get no fewer.
module _ (I D P : ℕ) (f g : ℕ → ℕ → Bool) where
  -- after a silent move back from l planes left there are as many or more
  abbrev Rises : ℕ → Prior → Type 0
  Rises l first = Unit {0}
  Rises l (quiet t) = l ≤ t.left
  Rises l (answered t) = Unit {0}

  -- one move back, by either test
  abbrev Alike : ℕ → Prior → Prior → Type 0
  Alike l x y = (x ≡ y) × Rises l y

  alike_unasked : (l : ℕ) (p : Pass) (i v : ℕ) (m : List ℕ) (t : Bool) → Alike l (unasked I D P f l p i v m t) (unasked I D P g l p i v m t)
  alike_unasked l p i v m true = (refl, tt)
  alike_unasked l p i v m false = (refl, tt)

  alike_pixels : (l i : ℕ) (m : List ℕ) (z a s : Bool) → Alike l (prior_pixels I D P f l i m z a s) (prior_pixels I D P g l i m z a s)
  alike_pixels l i m true true s = (refl, omega arith)
  alike_pixels l i m true false s = (refl, tt)
  alike_pixels l i m false a true = alike_unasked l pixels i 1 m (is m i 2)
  alike_pixels l i m false a false = (refl, omega arith)

  alike_refining : (l i : ℕ) (m : List ℕ) (z s o : Bool) → Alike l (prior_refining I D P f l i m z s o) (prior_refining I D P g l i m z s o)
  alike_refining l i m true s o = (refl, omega arith)
  alike_refining l i m false true true = (refl, tt)
  alike_refining l i m false true false = (refl, omega arith)
  alike_refining l i m false false o = (refl, omega arith)

  alike_set : (l i : ℕ) (m : List ℕ) (t : Bool) → Alike l (prior_set I D P f l i m t) (prior_set I D P g l i m t)
  alike_set l i m true = (refl, tt)
  alike_set l i m false = (refl, omega arith)

  alike_block : (l q : ℕ) (m : List ℕ) (a n : Bool) → Alike l (prior_block I D P f l q m a n) (prior_block I D P g l q m a n)
  alike_block l q m true true = alike_unasked l sets (q - 1) 4 m (is m (q - 1) 2)
  alike_block l q m true false = (refl, omega arith)
  alike_block l q m false n = alike_set l (block m q) m (is m (block m q) 5 || is m (block m q) 6)

  alike_sets : (l q : ℕ) (m : List ℕ) (x c y z : Bool) → Alike l (prior_sets I D P f l q m x c y z) (prior_sets I D P g l q m x c y z)
  alike_sets l q m false c y z = alike_unasked l sets (q - 1) 4 m (is m (q - 1) 2)
  alike_sets l q m true true y z = (refl, tt)
  alike_sets l q m true false true z = (refl, tt)
  alike_sets l q m true false false true = (refl, omega arith)
  alike_sets l q m true false false false = alike_block l q m (ltb 0 (get_or m (q - 4) 0) && ltb (get_or m (q - 4) 0) 4) (leb D (q - 4) && fresh I D P f m (q - 4))

  alike_at : (l : ℕ) (p : Pass) (q : ℕ) (w : Bool) (m : List ℕ) → ((i : ℕ) → f l i ≡ g l i) → Alike l (prior_at I D P f l p q w m) (prior_at I D P g l p q w m)
  alike_at l p q true m e = (refl, tt)
  alike_at l pixels q false m e = alike_pixels l (block m q) m (eqb q 0) (ltb l P) (is m (block m q) 1 || is m (block m q) 2)
  alike_at l sets q false m e = alike_sets l q m (eqb (q % 4) 0) (is m q 4) (many_descs D m q) (eqb q 0)
  alike_at l refining q false m e =
      let r = alike_refining l (block m q) m (eqb q 0) (is m (block m q) 3) (g l (block m q)) in
      (ap (λ (x : Bool). prior_refining I D P f l (block m q) m (eqb q 0) (is m (block m q) 3) x) (e (block m q)) ∙ r.0, r.1)

  same_back : (n : ℕ) (s : State) → ((l i : ℕ) → s.left ≤ l → f l i ≡ g l i) → back_from I D P f n s ≡ back_from I D P g n s
  unfolding back_from
  same_back zero s e = refl
  same_back (suc n) s e =
      let r = alike_at s.left s.pass s.place s.pending s.marks (λ i. e s.left i (omega arith)) in
      rw (r.0, back_from) (on (prior I D P g s) r.1 (λ t h. same_back n t (λ l i k. e l i (omega (arith, h, k)))))
    where
      on : (x : Prior) → Rises s.left x → ((t : State) → s.left ≤ t.left → back_from I D P f n t ≡ back_from I D P g n t)
          → ◌≡◌ {A = State} (elim x as (λ _. State) [ first ↦ s | quiet t ↦ back_from I D P f n t | answered t ↦ t ]) (elim x as (λ _. State) [ first ↦ s | quiet t ↦ back_from I D P g n t | answered t ↦ t ])
      on first r ih = refl
      on (quiet t) r ih = ih t r
      on (answered t) r ih = refl

-- One bit back by marks and values alone: after the bits u and one more, which some array's stream begins with, it is the state after u.
pub back_by_values : (N L : ℕ) → Sized N L → N ≤ most_n → (P : ℕ) (A : List ℤ) (u : List Bool) (a : Bool) → Begins N L P A (u ++ (a ∷ []))
    → back (all_of N) (coarsest_of N L) P (big_in (values_by N L P (u ++ (a ∷ [])) midpoint)) (after N L P (u ++ (a ∷ []))) ≡ after N L P u
unfolding back
back_by_values N L z fits P A u a b =
    same_back (all_of N) (coarsest_of N L) P (big_in (values_by N L P w midpoint)) (big_of (mags_of (known N L P w)))
    (suc (all_moves (all_of N) (coarsest_of N L) P (big_in (values_by N L P w midpoint)) - moves_left (all_of N) (after N L P w))) (after N L P w) (big_same N L P w)
    ∙ back_after N L z fits P A u a b
  where
    w : List Bool
    w = u ++ (a ∷ [])
