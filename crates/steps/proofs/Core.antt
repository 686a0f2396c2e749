-- One bit more and one bit fewer, after bits that some array's stream begins with: what a step leaves is what decoding leaves.
use mathlib.Core.Path.{◌≡◌, refl, sym, ap, subst, ◌∙◌}
use mathlib.Core.Bool.{Bool, true, false, cond}
use mathlib.Core.Option.{Option, none, some}
use mathlib.Core.List.{List, [], ◌∷◌, ◌++◌}
use Prim.Native.Nat.{ℕ, zero, suc, ◌+◌, ◌*◌, ◌-◌, ◌/◌, ◌^◌, ◌≤◌, ◌<◌}
use native.Mathlib.Omega.{arith}
use native.Mathlib.Nat.{pow-suc, one-le-pow}
use borrow.Author.Tests.{le-leb}
use lib.Dec.{eqb}
use lib.IntN.{ℤ, pos}
use lib.ListN.{length, set, length-append}
use lib.Pow.{pow_mono, split, high}
use Rattle.sizes.specs.Sizes.{limit, most_n, most_planes, all_of, Sized}
use Rattle.sizes.proofs.Tables.{table_at}
use Rattle.bits.specs.Bits.{digit}
use Rattle.coef.specs.Coef.{at, magnitude, negative, signed}
use Rattle.coef.proofs.Laws.{magnitude_signed}
use Rattle.nls.specs.Scan.{State, Question, bit_of, sign_of, in_desc, in_grand, Pass, pixels, sets, refining, ask, next, reach}
use Rattle.nls.specs.Stream.{begin, after}
use Rattle.nls.specs.Reading.{learn, known, midpoint, value_by, values_by, precision_at, precisions}
use Rattle.nls.specs.Judging.{Begins, taken}
use Rattle.nls.proofs.Arrays.{bits_of_arr, told}
use Rattle.nls.proofs.Lists.{arr_of}
use Rattle.nls.proofs.HighBits.{neg_signed}
use Rattle.nls.proofs.Streams.{begins_iff, begins_less}
use Rattle.nls.proofs.Values.{midpoint_between, value_range}
use Rattle.nls.proofs.Verdicts.{last_told}
use Rattle.nls.proofs.Machine.Run.{reach_append}
use Rattle.nls.proofs.Precision.Answers.{ask_left}
use Rattle.nls.proofs.Precision.Before.{AskedAt, Asked, asked_after}
use Rattle.nls.proofs.Precision.ValueSteps.{adds, bit_other, Refined, midpoint_suc, values_unmoved, values_moved, values_back, precisions_stepped, precisions_back, value_found, values_found, value_refined}
use Rattle.moves.specs.{Moves.onward, Stands.pass_number}
use Rattle.moves.proofs.Laws.{told_next}
use Rattle.undo.proofs.ByValues.{back_by_values}
use Rattle.decoder.specs.{Body.Tables, Body.tables, Body.read_answer, Body.own_tables, declared.ending.Ending.Ending}
use Rattle.steps.specs.Records.{record_at, record_of, record_after, step}
use Rattle.steps.specs.declared.Record.{Record}
use Rattle.steps.specs.Moved.{kind_of, asked_in, noted, joined_or0, found_in, finer, coarser, heard, unheard, reached, raised_to, lowered_to, lowered}

-- ---- one value

-- a sign and a magnitude within the limit
joined_is : (n : Bool) (x : ℕ) → x ≤ limit → joined_or0 n x ≡ signed n x
joined_is n x h = rw (le-leb x limit h) refl

-- "m + 2^(k-1) .. for k = 0 it is m": half of 2^0 is 0
middle_is : (k m : ℕ) → midpoint k m ≡ m + 2 ^ k / 2
middle_is zero m = omega arith
middle_is (suc k) m = midpoint_suc k m ∙ omega (arith, pow-suc 2 k)

found_is : (a : Bool) (b : ℕ) → midpoint b (2 ^ b) ≤ limit → found_in a b ≡ signed a (midpoint b (2 ^ b))
found_is a b h = joined_is a (2 ^ b + 2 ^ b / 2) (omega (arith, h, middle_is b (2 ^ b))) ∙ ap (λ (x : ℕ). signed a x) (sym (middle_is b (2 ^ b)))

module _ (b : ℕ) (a : Bool) (v w : ℤ) (r : Refined b a v w) where
  abbrev new : ℕ
  new = midpoint b (r.m + digit a * 2 ^ b)

  new_is : new ≡ r.m + (digit a * 2 ^ b + 2 ^ b / 2)
  new_is = middle_is b (r.m + digit a * 2 ^ b) ∙ omega arith

  size : magnitude w ≡ new
  size = ap magnitude r.after ∙ magnitude_signed (negative v) new

  finer_is : magnitude w ≤ limit → finer a b v ≡ w
  finer_is h =
      ap (λ (x : ℕ). joined_or0 (negative v) x) (sum a ∙ sym (middle_is b (r.m + digit a * 2 ^ b)))
      ∙ joined_is (negative v) new (omega (arith, h, size)) ∙ sym r.after
    where
      sum : (x : Bool) → (magnitude v + 2 ^ b / 2) - cond x 0 (2 ^ b) ≡ r.m + digit x * 2 ^ b + 2 ^ b / 2
      sum true = omega (arith, r.size)
      sum false = omega (arith, r.size)

  rest : digit a * 2 ^ b + 2 ^ b / 2 < 2 ^ suc b
  rest = on a
    where
      on : (x : Bool) → digit x * 2 ^ b + 2 ^ b / 2 < 2 ^ suc b
      on true = omega (arith, pow-suc 2 b, one-le-pow b 2 (omega arith))
      on false = omega (arith, pow-suc 2 b, one-le-pow b 2 (omega arith))

  cut : magnitude w / 2 ^ suc b * 2 ^ suc b ≡ r.m
  cut =
      ap (λ (x : ℕ). x / 2 ^ suc b * 2 ^ suc b) (size ∙ new_is ∙ ap (λ (x : ℕ). x + (digit a * 2 ^ b + 2 ^ b / 2)) (sym whole))
      ∙ ap (λ (x : ℕ). x * 2 ^ suc b) (high (r.m / 2 ^ suc b) (suc b) {lo = digit a * 2 ^ b + 2 ^ b / 2} rest)
      ∙ whole
    where
      whole : r.m / 2 ^ suc b * 2 ^ suc b ≡ r.m
      whole = omega (arith, split r.m (suc b), r.round)

  coarser_is : magnitude v ≤ limit → coarser (suc b) w ≡ v
  coarser_is h =
      ap (λ (x : ℕ). joined_or0 (negative w) x) {x = magnitude w / 2 ^ suc b * 2 ^ suc b + 2 ^ suc b / 2} {y = r.m + 2 ^ b} (omega (arith, cut, pow-suc 2 b))
      ∙ joined_is (negative w) (r.m + 2 ^ b) (omega (arith, h, r.size))
      ∙ ap (λ (n : Bool). signed n (r.m + 2 ^ b)) same
      ∙ sym r.before
    where
      same : negative w ≡ negative v
      same = ap negative r.after ∙ neg_signed (negative v) new (omega (arith, new_is, r.large, one-le-pow (suc b) 2 (omega arith)))

-- ---- precisions

-- what an answer notes, by what is asked and where the scan stands
module _ (N L c : ℕ) (k : List ℕ) (I b i : ℕ) where
  abbrev Notes : Pass → Question → Bool → Type 0
  Notes p q a = noted N L (kind_of p (some q)) i c a k ≡ (learn N L p c q a (record { bits = []; planes = k })).planes

  own_put : (t : ℕ) → t ≡ i → set k i c ≡ set k t c
  own_put t e = ap (λ (x : ℕ). set k x c) (sym e)

  notes_bit : (p : Pass) (t d : ℕ) (a : Bool) → t ≡ i → Notes p (bit_of t d) a
  notes_bit refining t d a e = own_put t e
  notes_bit pixels t d true e = refl
  notes_bit pixels t d false e = own_put t e
  notes_bit sets t d true e = refl
  notes_bit sets t d false e = own_put t e

  notes_sign : (p : Pass) (t : ℕ) (a : Bool) → t ≡ i → Notes p (sign_of t) a
  notes_sign refining t a e = own_put t e
  notes_sign pixels t a e = own_put t e
  notes_sign sets t a e = own_put t e

  notes_desc : (p : Pass) (d : ℕ) (a : Bool) → Notes p (in_desc (i / 4) d) a
  notes_desc refining d true = refl
  notes_desc refining d false = refl
  notes_desc pixels d true = refl
  notes_desc pixels d false = refl
  notes_desc sets d true = refl
  notes_desc sets d false = refl

  notes_grand : (p : Pass) (d : ℕ) (a : Bool) → Notes p (in_grand (i / 16) d) a
  notes_grand refining d true = refl
  notes_grand refining d false = refl
  notes_grand pixels d true = refl
  notes_grand pixels d false = refl
  notes_grand sets d true = refl
  notes_grand sets d false = refl

  noted_is : (p : Pass) (q : Question) (a : Bool) → AskedAt I b i q → Notes p q a
  noted_is p (bit_of t d) a w = notes_bit p t d a w.0
  noted_is p (sign_of t) a w = notes_sign p t a w.0
  noted_is p (in_desc g d) a w = subst (λ (x : ℕ). Notes p (in_desc x d) a) (sym w.0) (notes_desc p d a)
  noted_is p (in_grand g d) a w = subst (λ (x : ℕ). Notes p (in_grand x d) a) (sym w.0) (notes_grand p d a)

-- ---- records

-- a step reads the sizes and the bits used in a record, which say nothing of where it stands
abbrev plain : ℕ → ℕ → ℕ → ℕ → Record
plain N L P used = record_at N L P 0 0 0 used 0

module _ (word : ℕ → ℕ → Ending) (N L P used : ℕ) (r t : State) (a : Bool) (x : Tables) where
  abbrev either : Bool → Record
  either z = cond z (record_at N L P 0 2 (all_of N) used 0) (record_at N L P (r.left - 1) (pass_number r.pass) r.place used (digit r.pending))

  raised_plain : raised_to (record_of N L P used r) word t a x ≡ raised_to (plain N L P used) word t a x
  unfolding record_of
  raised_plain = on (eqb r.left 0)
    where
      on : (z : Bool) → raised_to (either z) word t a x ≡ raised_to (plain N L P used) word t a x
      on true = refl
      on false = refl

  lowered_plain : lowered (record_of N L P used r) word t a x ≡ lowered (plain N L P used) word t a x
  unfolding record_of
  lowered_plain = on (eqb r.left 0)
    where
      on : (z : Bool) → lowered (either z) word t a x ≡ lowered (plain N L P used) word t a x
      on true = refl
      on false = refl

-- ---- after bits

module _ (N L : ℕ) (sized : Sized N L) (most : N ≤ most_n) (P : ℕ) (planes : P ≤ most_planes) (A : List ℤ) (u : List Bool) (a : Bool) (begins : Begins N L P A (u ++ (a ∷ []))) where
  abbrev I : ℕ
  I = all_of N

  abbrev s : State
  s = after N L P u

  abbrev v : List ℤ
  v = values_by N L P u midpoint

  abbrev w : List ℤ
  w = values_by N L P (u ++ (a ∷ [])) midpoint

  -- a value is within the limit
  value_in : (x : List Bool) (i : ℕ) → i < I → magnitude (at (values_by N L P x midpoint) i) ≤ limit
  value_in x i h =
      omega (arith, ap magnitude (table_at I (λ j. value_by midpoint (precision_at N L P x j) (at (known N L P x).bits j)) i (pos 0) h), value_range N L P x midpoint midpoint_between i h, pow_mono {i = P} {j = most_planes} planes)

  one_more : after N L P (u ++ (a ∷ [])) ≡ next I s a
  unfolding reach
  one_more = reach_append N (begin N L P) u (a ∷ [])

  -- something is asked
  module _ (q : Question) (e : ask I s ≡ some q) where
    asked_here : Asked N L (s.left - 1) s.pass s.place s.marks a q
    asked_here = asked_after N L sized P A u (begins_less N L sized P A u (a ∷ []) begins) a q e

    kind : asked_in I s ≡ kind_of s.pass (some q)
    kind = ap (λ (o : Option Question). kind_of s.pass o) e

    precisions_next : noted N L (asked_in I s) s.place (s.left - 1) a (precisions N L P u) ≡ precisions N L P (u ++ (a ∷ []))
    precisions_next =
        ap (λ k. noted N L k s.place (s.left - 1) a (precisions N L P u)) kind
        ∙ noted_is N L (s.left - 1) (precisions N L P u) I (s.left - 1) s.place s.pass q a asked_here.own
        ∙ sym (precisions_stepped N L sized P A u a begins q e)

    precisions_prior : noted N L (asked_in I s) s.place s.left a (precisions N L P (u ++ (a ∷ []))) ≡ precisions N L P u
    precisions_prior =
        ap (λ k. noted N L k s.place s.left a (precisions N L P (u ++ (a ∷ [])))) kind
        ∙ noted_is N L s.left (precisions N L P (u ++ (a ∷ []))) I (s.left - 1) s.place s.pass q a asked_here.own
        ∙ sym (precisions_back N L sized P A u a begins q e)

    -- no value changes
    unmoved : (p : Pass) → s.pass ≡ p → ((j : ℕ) → adds q p j ≡ false) → w ≡ v
    unmoved p r n = values_unmoved N L sized P A u a begins q e midpoint (λ j h. ap (λ (x : Pass). adds q x j) r ∙ n j)

  -- a sign
  module _ (i : ℕ) (e : ask I s ≡ some (sign_of i)) where
    own_sign : (i ≡ s.place) × (i < I)
    own_sign = (asked_here (sign_of i) e).own

    sign_found : set v s.place (found_in a (s.left - 1)) ≡ w
    sign_found =
        ap (λ (x : ℕ). set v x (found_in a (s.left - 1))) (sym own_sign.0)
        ∙ ap (λ (z : ℤ). set v i z) (found_is a (s.left - 1) fits)
        ∙ sym (values_found N L sized P A u a begins i midpoint e).0
      where
        fits : midpoint (s.left - 1) (2 ^ (s.left - 1)) ≤ limit
        fits =
            omega (arith, value_in (u ++ (a ∷ [])) i own_sign.1, ap magnitude (value_found N L sized P A u a begins i midpoint e).0, magnitude_signed a (midpoint (s.left - 1) (2 ^ (s.left - 1))))

    sign_lost : set w s.place (pos 0) ≡ v
    sign_lost = ap (λ (x : ℕ). set w x (pos 0)) (sym own_sign.0) ∙ sym (values_found N L sized P A u a begins i midpoint e).1

  -- a refinement bit
  module _ (i b : ℕ) (e : ask I s ≡ some (bit_of i b)) (p : s.pass ≡ refining) where
    own_bit : (i ≡ s.place) × (b ≡ s.left - 1) × (i < I)
    own_bit = (asked_here (bit_of i b) e).own

    refined : Refined b a (at v i) (at w i)
    refined = value_refined N L sized P A u a begins i b e p

    bit_taken : set v s.place (finer a (s.left - 1) (at v s.place)) ≡ w
    bit_taken =
        ap (λ (x : ℕ). set v x (finer a (s.left - 1) (at v x))) (sym own_bit.0)
        ∙ ap (λ (x : ℕ). set v i (finer a x (at v i))) (sym own_bit.1)
        ∙ ap (λ (z : ℤ). set v i z) (finer_is b a (at v i) (at w i) refined (value_in (u ++ (a ∷ [])) i own_bit.2))
        ∙ sym (values_moved N L sized P A u a begins (bit_of i b) e midpoint i (λ j h n. bit_other s.pass i b j n))

    bit_lost : set w s.place (coarser s.left (at w s.place)) ≡ v
    bit_lost =
        ap (λ (x : ℕ). set w x (coarser s.left (at w x))) (sym own_bit.0)
        ∙ ap (λ (x : ℕ). set w i (coarser x (at w i))) {x = s.left} {y = suc b} (omega (arith, own_bit.1, ask_left I s (bit_of i b) e))
        ∙ ap (λ (z : ℤ). set w i z) (coarser_is b a (at v i) (at w i) refined (value_in u i own_bit.2))
        ∙ sym (values_back N L sized P A u a begins (bit_of i b) e midpoint i (λ j h n. bit_other s.pass i b j n))

  -- the values after the answer, and before it
  heard_is : (p : Pass) → s.pass ≡ p → (q : Question) → ask I s ≡ some q
      → (heard (kind_of p (some q)) s.place (s.left - 1) a v ≡ w) × (unheard (kind_of p (some q)) s.place s.left w ≡ v)
  heard_is refining r (bit_of i b) e = (bit_taken i b e r, bit_lost i b e r)
  heard_is pixels r (bit_of i b) e = let same = unmoved (bit_of i b) e pixels r (λ j. refl) in (sym same, same)
  heard_is sets r (bit_of i b) e = let same = unmoved (bit_of i b) e sets r (λ j. refl) in (sym same, same)
  heard_is p r (sign_of i) e = (sign_found i e, sign_lost i e)
  heard_is p r (in_desc g b) e = let same = unmoved (in_desc g b) e p r (λ j. refl) in (sym same, same)
  heard_is p r (in_grand g b) e = let same = unmoved (in_grand g b) e p r (λ j. refl) in (sym same, same)

  -- the bits used
  used_more : length (u ++ (a ∷ [])) ≡ length u + 1
  used_more = length-append u (a ∷ [])

  -- a step, where q is asked
  raised_asked : (word : ℕ → ℕ → Ending) (q : Question) → ask I s ≡ some q
      → raised_to (plain N L P (length u)) word s a (own_tables midpoint N L P u taken) ≡ step (read_answer word N L P (u ++ (a ∷ [])) taken) (record_after N L P (u ++ (a ∷ []))) (own_tables midpoint N L P (u ++ (a ∷ [])) taken)
  raised_asked word q e =
      let used : length u + 1 ≡ length (u ++ (a ∷ [])) = sym used_more in
      let state : onward I s a ≡ after N L P (u ++ (a ∷ [])) = told_next N L P sized most u a ∙ sym one_more in
      let values : heard (asked_in I s) s.place (s.left - 1) a v ≡ w = ap (λ k. heard k s.place (s.left - 1) a v) (kind q e) ∙ (heard_is s.pass refl q e).0 in
      let planes : noted N L (asked_in I s) s.place (s.left - 1) a (precisions N L P u) ≡ precisions N L P (u ++ (a ∷ [])) = precisions_next q e in
      λ i. step (reached word P (used i) (state i).left) (record_of N L P (used i) (state i)) (tables (values i) (planes i) (state i).marks)

  lowered_asked : (word : ℕ → ℕ → Ending) (q : Question) → ask I s ≡ some q
      → lowered_to (plain N L P (length (u ++ (a ∷ [])))) word s a (own_tables midpoint N L P (u ++ (a ∷ [])) taken) ≡ step (read_answer word N L P u taken) (record_after N L P u) (own_tables midpoint N L P u taken)
  lowered_asked word q e =
      let used : length (u ++ (a ∷ [])) - 1 ≡ length u = omega (arith, used_more) in
      let values : unheard (asked_in I s) s.place s.left w ≡ v = ap (λ k. unheard k s.place s.left w) (kind q e) ∙ (heard_is s.pass refl q e).1 in
      let planes : noted N L (asked_in I s) s.place s.left a (precisions N L P (u ++ (a ∷ []))) ≡ precisions N L P u = precisions_prior q e in
      λ i. step (reached word P (used i) s.left) (record_of N L P (used i) s) (tables (values i) (planes i) s.marks)

  -- one bit more was asked for
  some_asked : (q : Question) × (ask I s ≡ some q)
  some_asked = on (ask I s) refl (last_told N (bits_of_arr (arr_of A)) (begin N L P) u a ((begins_iff N L sized P A (u ++ (a ∷ []))).0 begins).2)
    where
      on : (o : Option Question) → ask I s ≡ o → told N (bits_of_arr (arr_of A)) o a → (q : Question) × (ask I s ≡ some q)
      on none e t = absurd t
      on (some q) e t = (q, e)

-- One bit forward from what decoding u leaves is what decoding u and that bit leaves,
pub raised_next : (word : ℕ → ℕ → Ending) (N L : ℕ) → Sized N L → N ≤ most_n → (P : ℕ) → P ≤ most_planes → (A : List ℤ) (u : List Bool) (a : Bool) → Begins N L P A (u ++ (a ∷ []))
    → raised_to (record_after N L P u) word (after N L P u) a (own_tables midpoint N L P u taken) ≡ step (read_answer word N L P (u ++ (a ∷ [])) taken) (record_after N L P (u ++ (a ∷ []))) (own_tables midpoint N L P (u ++ (a ∷ [])) taken)
raised_next word N L sized most P planes A u a begins =
    let o = some_asked N L sized most P planes A u a begins in
    raised_plain word N L P (length u) (after N L P u) (after N L P u) a (own_tables midpoint N L P u taken) ∙ raised_asked N L sized most P planes A u a begins word o.0 o.1

-- and one bit back from there is what decoding u leaves.
pub lowered_prior : (word : ℕ → ℕ → Ending) (N L : ℕ) → Sized N L → N ≤ most_n → (P : ℕ) → P ≤ most_planes → (A : List ℤ) (u : List Bool) (a : Bool) → Begins N L P A (u ++ (a ∷ []))
    → lowered (record_after N L P (u ++ (a ∷ []))) word (after N L P (u ++ (a ∷ []))) a (own_tables midpoint N L P (u ++ (a ∷ [])) taken) ≡ step (read_answer word N L P u taken) (record_after N L P u) (own_tables midpoint N L P u taken)
lowered_prior word N L sized most P planes A u a begins =
    let o = some_asked N L sized most P planes A u a begins in
    lowered_plain word N L P (length (u ++ (a ∷ []))) (after N L P (u ++ (a ∷ []))) (after N L P (u ++ (a ∷ []))) a (own_tables midpoint N L P (u ++ (a ∷ [])) taken)
    ∙ ap (λ (t : State). lowered_to (plain N L P (length (u ++ (a ∷ [])))) word t a (own_tables midpoint N L P (u ++ (a ∷ [])) taken)) (back_by_values N L sized most P A u a begins)
    ∙ lowered_asked N L sized most P planes A u a begins word o.0 o.1
