-- What each way through a step over four places leaves, from what the code's calls have done.
use Prim.Native.Nat.{ℕ, ◌+◌, ◌*◌, ◌/◌, ◌%◌, ◌^◌, ◌≤◌, ◌<◌}
use mathlib.Core.Path.{◌≡◌, refl, sym, ap, ◌∙◌, subst}
use mathlib.Core.Bool.{Bool, true, false, false≢true}
use mathlib.Core.List.{List, [], ◌∷◌}
use native.Mathlib.Omega.{arith}
use borrow.Author.Tests.{eqb-true, eqb-false}
use lib.Bits.{bit_and}
use lib.Dec.{eqb}
use lib.IntN.{ℤ}
use lib.ListN.{length, get_or}
use Rattle.bits.specs.Bits.{bit, digit, with_bit}
use Rattle.coef.specs.Coef.{at, mag_at, negative}
use Rattle.nls.specs.Scan.{Question, in_desc, in_grand, sets}
use Rattle.marking.specs.Marking.{skip_of, set_skip_of, desc_split_marks, grand_split_marks}
use Rattle.marking.proofs.Laws.{skip_in, set_skip_in, set_skip_low}
use Rattle.fours.specs.Words.{spread_of, which_are, refined_word, with_word, word_at, low_word, FourBytes, FourLow, key}
use Rattle.fours.specs.Tables.{entry_of, four, own_bits, pick_bits, sent_table, picked_table}
use Rattle.fours.proofs.Laws.{nibble_lt, none_of, which_are_lem, low_marks, same_word, key_found, key_lt, sent_entry, picked_entry, own_length, pick_length}
use Rattle.walk.specs.Scans.{Scan, Leads}
use Rattle.walk.specs.Visits.{Source, got, Sv, sv, scan_of}
use Rattle.walk.proofs.Fours.{Counts, leads_none, leads_on, pixels_by, refining_by, sets_by, desc_zero, desc_one, grand_zero, grand_one, four_pixels, four_refined, four_children, idle_pixels, idle_refining, new_children}
use Rattle.encoder.specs.Writing.{Bytes, bytes, replies, writer}
use Rattle.encoder.specs.Sinks.{plus_bit, plus_bits, Holding, with_held, held, SameHeld}
use Rattle.encoder.specs.Siblings.{bits_at, signs_at, Ahead, Gone}
use Rattle.encoder.specs.declared.Sink.{Sink}
use Rattle.encoder.proofs.SinkLaws.{held_more, bits_count, held_count, holds_bits, fewer_held}
use Rattle.encoder.proofs.SiblingLaws.{entry_held, entry_room, entry_fits, pixel_bits, pixel_marks, refined_bits, refined_marks, child_bits, child_marks}

-- bits and signs as digits
pub digit_of : (x b : ℕ) → x / 2 ^ b % 2 ≡ digit (bit x b)
unfolding bit
digit_of x b = on (eqb (x / 2 ^ b % 2) 1) refl
  where
    on : (t : Bool) → eqb (x / 2 ^ b % 2) 1 ≡ t → x / 2 ^ b % 2 ≡ digit t
    on true e = eqb-true (x / 2 ^ b % 2) 1 e
    on false e = let d : (x / 2 ^ b % 2 ≡ 1) → ⊥ = eqb-false (x / 2 ^ b % 2) 1 e in omega arith

pub four_digits : (x0 x1 x2 x3 : ℕ) (t0 t1 t2 t3 : Bool) → x0 ≡ digit t0 → x1 ≡ digit t1 → x2 ≡ digit t2 → x3 ≡ digit t3 → x0 + 2 * x1 + 4 * x2 + 8 * x3 < 16
four_digits x0 x1 x2 x3 t0 t1 t2 t3 e0 e1 e2 e3 = subst (λ (n : ℕ). n < 16) (λ i. sym e0 i + 2 * sym e1 i + 4 * sym e2 i + 8 * sym e3 i) (nibble_lt t0 t1 t2 t3)

-- what is held with the bits of an entry more, and with one digit more
abbrev pub with_entry : Sink → ℕ → Sink
with_entry s e = record { acc = s.acc * 2 ^ (e / 256) + e % 256; n = s.n + e / 256; at = s.at }

abbrev pub with_digit : Sink → ℕ → Sink
with_digit s x = record { acc = s.acc * 2 ^ 1 + x; n = s.n + 1; at = s.at }

-- each bit that the encoder puts takes one of the budget
counts : (A : List ℤ) (d g : List ℕ) (budget : ℕ) → Counts (writer A d g budget)
counts A d g budget p b q x o = refl

-- bits and signs of four places
pub bits_few : (A : List ℤ) (b i : ℕ) → bits_at A b i < 16
bits_few A b i = nibble_lt (bit (mag_at A i) b) (bit (mag_at A (i + 1)) b) (bit (mag_at A (i + 2)) b) (bit (mag_at A (i + 3)) b)

pub signs_few : (A : List ℤ) (i : ℕ) → signs_at A i < 16
signs_few A i = nibble_lt (negative (at A i)) (negative (at A (i + 1))) (negative (at A (i + 2))) (negative (at A (i + 3)))

-- the entry for four coefficients of which those of k are asked
module _ (A : List ℤ) (b place k x : ℕ) (hk : k < 16) (ex : x ≡ key k (bits_at A b place) (signs_at A place)) where
  abbrev asked : List Bool
  asked = four (λ j. own_bits (bit k j) (bit (bits_at A b place) j) (bit (signs_at A place) j))

  asked_few : length asked ≤ 8
  asked_few = own_length (λ j. bit k j) (λ j. bit (bits_at A b place) j) (λ j. bit (signs_at A place) j)

  pub found_few : x < 256
  found_few = omega (arith, ex, key_lt k (bits_at A b place) (signs_at A place) hk (bits_few A b place) (signs_few A place))

  found_are : x / 16 ≡ bit_and k (bits_at A b place)
  found_are = ap (λ (y : ℕ). y / 16) ex ∙ key_found k (bits_at A b place) (signs_at A place) hk (bits_few A b place) (signs_few A place)

  module _ (e : ℕ) (sent : List ℕ) (es : sent ≡ sent_table) (ee : e ≡ get_or sent x 0) where
    sent_is : e ≡ entry_of asked
    sent_is = ee ∙ ap (λ (y : ℕ). get_or sent y 0) ex ∙ sent_entry sent k (bits_at A b place) (signs_at A place) es hk (bits_few A b place) (signs_few A place)

    pub sent_ready : (S : Sink) → Holding S 8 → Holding S (e / 256) × (e % 256 < 2 ^ (e / 256))
    sent_ready S h = (entry_room [] S S [] asked e sent_is asked_few h, entry_fits [] S S [] asked e sent_is asked_few)

    sent_held : (S t : Sink) (o o₁ : List ℕ) → SameHeld o (with_entry S e) o₁ t → SameHeld o (plus_bits S asked) o₁ t
    sent_held S t o o₁ h = entry_held o S t o₁ asked e sent_is asked_few h

-- the entry for four coefficients of which those of k are refined
module _ (A : List ℤ) (b place k e : ℕ) (picked : List ℕ) (es : picked ≡ picked_table) (hk : k < 16) (ee : e ≡ get_or picked (16 * k + bits_at A b place) 0) where
  abbrev refining_bits : List Bool
  refining_bits = four (λ j. pick_bits (bit k j) (bit (bits_at A b place) j))

  refining_few : length refining_bits ≤ 4
  refining_few = pick_length (λ j. bit k j) (λ j. bit (bits_at A b place) j)

  picked_is : e ≡ entry_of refining_bits
  picked_is = ee ∙ picked_entry picked k (bits_at A b place) es hk (bits_few A b place)

  pub picked_ready : (S : Sink) → Holding S 8 → Holding S (e / 256) × (e % 256 < 2 ^ (e / 256))
  picked_ready S h = (entry_room [] S S [] refining_bits e picked_is (omega (arith, refining_few)) h, entry_fits [] S S [] refining_bits e picked_is (omega (arith, refining_few)))

  picked_held : (S t : Sink) (o o₁ : List ℕ) → SameHeld o (with_entry S e) o₁ t → SameHeld o (plus_bits S refining_bits) o₁ t
  picked_held S t o o₁ h = entry_held o S t o₁ refining_bits e picked_is (omega (arith, refining_few)) h

-- what a step asks gives room
module _ (A : List ℤ) (all budget safe b place : ℕ) (m o : List ℕ) (s : Sink) (a : Ahead A m o all budget safe b place s) where
  pub four_there : place + 4 ≤ length m
  four_there = omega (arith, a.below, a.size)

  spent_so : 8 * s.at + s.n ≤ budget
  spent_so = omega (arith, a.easy.spent)

  left_so : s.at ≤ safe → 8 * s.at + s.n + 9 ≤ budget
  left_so near = omega (arith, a.margin, a.easy.few)

  pub room_for : s.at ≤ safe → s.at + 4 ≤ length o
  room_for near = omega (arith, a.room, a.margin)

  pub holds_eight : Holding s 8
  holds_eight = record { small = a.easy.holds.small; free = omega (arith, a.easy.few) }

  -- the bit of a test is put, and there is room for eight bits more
  pub test_ready : s.at ≤ safe → (x : Bool) (S : Sink) → S ≡ with_digit s (digit x) → Holding S 8 × Holding S 0 × (S.at + 4 ≤ length o)
  unfolding plus_bits
  test_ready near x S e =
      let h = holds_bits s (x ∷ []) 8 (record { small = a.easy.holds.small; free = omega (arith, a.easy.few) }) in
      subst (λ (z : Sink). Holding z 8 × Holding z 0 × (z.at + 4 ≤ length o)) (sym e) (h, fewer_held (plus_bit s x) 0 8 (omega arith) h, room_for near)

  pub low_four : (w : ℕ) → w ≡ word_at m place → FourBytes m place → (t : Bool) → t ≡ low_word w → t ≡ true → FourLow m place
  low_four w ew fb t e h = low_marks m place four_there fb (ap low_word (sym ew) ∙ sym e ∙ h)

-- the ways through a step
module _ (A : List ℤ) (d g : List ℕ) (all budget safe b place : ℕ) (m o : List ℕ) (s : Sink) (a : Ahead A m o all budget safe b place s) where
  abbrev K : Source Bytes
  K = writer A d g budget

  abbrev E : Scan (Sv Bytes)
  E = scan_of (writer A d g budget) all

  -- the pass gets from here to a place, and goes on there
  abbrev Way : ℕ → ℕ → Sv Bytes → Type 0
  Way pass place₁ q = Leads (scan_of (writer A d g budget) all) b pass place (sv m (held o s)) place₁ q

  abbrev pub GoesOn : ℕ → ℕ → Sink → List ℕ → List ℕ → Type 0
  GoesOn pass place₁ t m₁ o₁ = Gone A d g all budget b pass place m o s (record { on = true; sink = t; place = place₁ }) m₁ o₁

  inside : place + 4 ≤ length m
  inside = four_there A all budget safe b place m o s a

  spent : 8 * s.at + s.n ≤ budget
  spent = spent_so A all budget safe b place m o s a

  left : s.at ≤ safe → 8 * s.at + s.n + 9 ≤ budget
  left = left_so A all budget safe b place m o s a

  -- nothing is done: the place is left to the plain scan
  pub leave : (pass : ℕ) → Gone A d g all budget b pass place m o s (record { on = false; sink = s; place = place }) m o
  leave pass = record { led = record { leads = leads_none E b pass place (sv m (held o s)); easy = a.easy }; falls = λ e. absurd (false≢true e) }

  -- places that are skipped
  skipped : (pass far : ℕ) → Way pass (place + far) (sv m (held o s)) → 1 ≤ far → GoesOn pass (place + far) s m o
  skipped pass far l h = record { led = record { leads = l; easy = a.easy }; falls = λ e. (omega arith, omega arith, omega arith) }

  pub skip_pixels : (far : ℕ) → 4 < get_or m place 0 → far ≡ skip_of (get_or m place 0) → GoesOn 0 (place + far) s m o
  skip_pixels far h e =
      skipped 0 far (subst (λ (k : ℕ). Way 0 (place + k) (sv m (held o s))) (sym e) (pixels_by K all b place m (held o s) (omega (arith, a.below)) spent (λ (z : get_or m place 0 ≡ 1). omega arith)))
      (omega (arith, e, skip_in (get_or m place 0)))

  pub skip_refining : (far : ℕ) → 4 < get_or m place 0 → far ≡ skip_of (get_or m place 0) → GoesOn 2 (place + far) s m o
  skip_refining far h e =
      skipped 2 far (subst (λ (k : ℕ). Way 2 (place + k) (sv m (held o s))) (sym e) (refining_by K all b place m (held o s) (omega (arith, a.below)) spent (λ (z : get_or m place 0 ≡ 3). omega arith) (λ (z : get_or m place 0 ≡ 2). omega arith)))
      (omega (arith, e, skip_in (get_or m place 0)))

  pub skip_sets : (far : ℕ) → (get_or m place 0 ≡ 4 → ⊥) → (get_or m place 0 ≡ 5 → ⊥) → (get_or m place 0 ≡ 6 → ⊥) → far ≡ set_skip_of (get_or m place 0)
      → GoesOn 1 (place + far) s m o
  skip_sets far f4 f5 f6 e =
      skipped 1 far (subst (λ (k : ℕ). Way 1 (place + k) (sv m (held o s))) (sym e) (sets_by K all b place m (held o s) (omega (arith, a.below)) spent f4 f5 f6))
      (omega (arith, e, set_skip_in (get_or m place 0)))

  pub skip_low_sets : get_or m place 0 < 4 → GoesOn 1 (place + 4) s m o
  skip_low_sets h =
      skip_sets 4 (λ (z : get_or m place 0 ≡ 4). omega arith) (λ (z : get_or m place 0 ≡ 5). omega arith) (λ (z : get_or m place 0 ≡ 6). omega arith) (sym (set_skip_low (get_or m place 0) (omega arith)))

  -- four places at which there is nothing to do
  module _ (w : ℕ) (ew : w ≡ word_at m place) (fb : FourBytes m place) where
    pub no_pixels : FourLow m place → which_are 1 w ≡ 0 → GoesOn 0 (place + 4) s m o
    no_pixels f e =
        let n = none_of _ _ _ _ (sym (which_are_lem m place 1 inside f) ∙ ap (which_are 1) (sym ew) ∙ e) in
        skipped 0 4 (idle_pixels K all b place m (held o s) a.below spent f.first f.second f.third f.fourth (eqb-false (get_or m place 0) 1 n.0) (eqb-false (get_or m (place + 1) 0) 1 n.1) (eqb-false (get_or m (place + 2) 0) 1 n.2) (eqb-false (get_or m (place + 3) 0) 1 n.3)) (omega arith)

    pub none_refined : w ≡ 16843009 → GoesOn 2 (place + 4) s m o
    none_refined e =
        let n = same_word m place inside fb (sym ew ∙ e) in
        skipped 2 4 (idle_refining K all b place m (held o s) a.below spent n.0 n.1 n.2 n.3) (omega arith)

  -- bits are put
  module _ (near : s.at ≤ safe) (u : List Bool) (short : length u ≤ 9) (t : Sink) (o₁ : List ℕ) (same : SameHeld o (plus_bits s u) o₁ t) (few : t.n ≤ 31) where
    count : 8 * t.at + t.n ≡ 8 * s.at + s.n + length u
    count = omega (arith, held_count o o₁ (plus_bits s u) t same, (bits_count s u).0, (bits_count s u).1)

    put_on : (pass place₁ : ℕ) (m₁ m₂ : List ℕ) → Way pass place₁ (sv m₁ (held o (plus_bits s u))) → m₂ ≡ m₁ → place ≤ place₁ → place < place₁ + length u → GoesOn pass place₁ t m₂ o₁
    put_on pass place₁ m₁ m₂ l em h k =
        record {
          led = record {
            leads = subst (λ (q : Sv Bytes). Way pass place₁ q) (λ i. sv (sym em i) (sym same.same i)) l;
            easy = record { holds = same.holds; few = few; spent = omega (arith, count, a.margin, a.easy.few) };
          };
          falls = λ e. (h, omega (arith, count), omega (arith, count));
        }

  -- four places of the pixel pass, of which those of k are asked
  module _ (k x e : ℕ) (sent : List ℕ) (es : sent ≡ sent_table) (hk : k < 16) (ex : x ≡ key k (bits_at A b place) (signs_at A place)) (ee : e ≡ get_or sent x 0) where
    pub found_pixels : (w : ℕ) → w ≡ word_at m place → FourLow m place → k ≡ which_are 1 w → s.at ≤ safe
        → (t : Sink) (o₁ : List ℕ) → SameHeld o (with_entry s e) o₁ t × (t.n ≤ 31)
        → (y : ℕ) → y ≡ spread_of (x / 16) → (m₁ : List ℕ) → m₁ ≡ with_word m place (w + y) → GoesOn 0 (place + 4) t m₁ o₁
    found_pixels w ew f ek near t o₁ h y ey m₁ em =
        let kk : k ≡ which_are 1 (word_at m place) = ek ∙ ap (which_are 1) ew in
        let held_so = pixel_bits A d g budget b o place m s inside f ∙ ap (λ (z : ℕ). held o (plus_bits s (four (λ j. own_bits (bit z j) (bit (bits_at A b place) j) (bit (signs_at A place) j))))) (sym kk) in
        let way = four_pixels K (counts A d g budget) all b place m (held o s) a.below f.first f.second f.third f.fourth (omega (arith, left near)) in
        let marks_so = pixel_marks A d g budget b o place m s inside f (held o s) in
        put_on near (asked A b place k x hk ex) (omega (arith, asked_few A b place k x hk ex)) t o₁ (sent_held A b place k x hk ex e sent es ee s t o o₁ h.0) h.1 0 (place + 4) (with_word m place (word_at m place + spread_of (bit_and (which_are 1 (word_at m place)) (bits_at A b place)))) m₁
        (subst (λ (q : Sv Bytes). Way 0 (place + 4) q) (λ i. sv (marks_so i) (held_so i)) way)
        (em ∙ (λ i. with_word m place (ew i + ey i)) ∙ ap (λ (z : ℕ). with_word m place (word_at m place + spread_of z)) (found_are A b place k x hk ex ∙ ap (λ (z : ℕ). bit_and z (bits_at A b place)) kk)) (omega arith) (omega arith)

  -- four places of the refinement pass, of which those of k are refined
  module _ (w k e : ℕ) (picked : List ℕ) (es : picked ≡ picked_table) (hk : k < 16) (ew : w ≡ word_at m place) (ek : k ≡ which_are 3 w) (ee : e ≡ get_or picked (16 * k + bits_at A b place) 0) where
    pub found_refined : FourLow m place → s.at ≤ safe
        → (t : Sink) (o₁ : List ℕ) → SameHeld o (with_entry s e) o₁ t × (t.n ≤ 31)
        → (m₁ : List ℕ) → m₁ ≡ with_word m place (refined_word w) → GoesOn 2 (place + 4) t m₁ o₁
    found_refined f near t o₁ h m₁ em =
        let kk : k ≡ which_are 3 (word_at m place) = ek ∙ ap (which_are 3) ew in
        let held_so = refined_bits A d g budget b o place m s inside f ∙ ap (λ (z : ℕ). held o (plus_bits s (four (λ j. pick_bits (bit z j) (bit (bits_at A b place) j))))) (sym kk) in
        let way = four_refined K (counts A d g budget) all b place m (held o s) a.below f.first f.second f.third f.fourth (omega (arith, left near)) in
        let marks_so = refined_marks A d g budget b o place m s inside f (held o s) in
        put_on near (refining_bits A b place k e picked es hk ee) (omega (arith, refining_few A b place k e picked es hk ee)) t o₁ (picked_held A b place k e picked es hk ee s t o o₁ h.0) h.1 2 (place + 4) (with_word m place (refined_word (word_at m place))) m₁
        (subst (λ (q : Sv Bytes). Way 2 (place + 4) q) (λ i. sv (marks_so i) (held_so i)) way)
        (em ∙ ap (λ (z : ℕ). with_word m place (refined_word z)) ew) (omega arith) (omega arith)

  -- one bit more: the test of a set
  module _ (near : s.at ≤ safe) (x : Bool) (S : Sink) (e_s : S ≡ with_digit s (digit x)) where
    got_held : (q : Question) → replies A d g q ≡ x → got K sets b q (held o s) ≡ held o (plus_bit s x)
    got_held q e = (λ i. bytes (with_bit (with_held o s) (8 * s.at + s.n) (e i)) (8 * s.at + s.n + 1)) ∙ sym (held_more o s x)

    tested : (t : Sink) (o₁ : List ℕ) → SameHeld o S o₁ t × (t.n ≤ 31) → (q : Question) → replies A d g q ≡ x → (place₁ : ℕ) (m₁ m₂ : List ℕ)
        → Way 1 place₁ (sv m₁ (got K sets b q (held o s))) → m₂ ≡ m₁ → place ≤ place₁ → GoesOn 1 place₁ t m₂ o₁
    unfolding plus_bits
    tested t o₁ h q e place₁ m₁ m₂ l em k =
        put_on near (x ∷ []) (omega arith) t o₁ (subst (λ (z : Sink). SameHeld o z o₁ t) e_s h.0) h.1 1 place₁ m₁ m₂
        (subst (λ (z : Bytes). Way 1 place₁ (sv m₁ z)) (got_held q e) l) em k (omega arith)

  -- a set that is not split, and a GRAND that is
  module _ (near : s.at ≤ safe) (x : Bool) (S t : Sink) (o₁ : List ℕ) (h : SameHeld o S o₁ t × (t.n ≤ 31)) where
    pub no_desc : S ≡ with_digit s 0 → get_or m place 0 ≡ 5 → x ≡ bit (get_or d (place / 4) 0) b → x ≡ false → GoesOn 1 (place + 4) t m o₁
    no_desc e_s v ex e =
        tested near false S e_s t o₁ h (in_desc (place / 4) b) (sym ex ∙ e) (place + 4) m m
        (desc_zero K (counts A d g budget) all b place m (held o s) (omega (arith, a.below)) (omega (arith, left near)) v (sym ex ∙ e) refl) refl (omega arith)

    pub no_grand : S ≡ with_digit s 0 → get_or m place 0 ≡ 6 → x ≡ bit (get_or g (place / 16) 0) b → x ≡ false → GoesOn 1 (place + 16) t m o₁
    no_grand e_s v ex e =
        tested near false S e_s t o₁ h (in_grand (place / 16) b) (sym ex ∙ e) (place + 16) m m
        (grand_zero K (counts A d g budget) all b place m (held o s) (omega (arith, a.below)) (omega (arith, left near)) v (sym ex ∙ e) refl) refl (omega arith)

    pub split_grand : S ≡ with_digit s 1 → get_or m place 0 ≡ 6 → x ≡ bit (get_or g (place / 16) 0) b → x ≡ true
        → (m₁ : List ℕ) → m₁ ≡ grand_split_marks all place m → GoesOn 1 place t m₁ o₁
    split_grand e_s v ex e m₁ em =
        tested near true S e_s t o₁ h (in_grand (place / 16) b) (sym ex ∙ e) place (grand_split_marks all place m) m₁
        (grand_one K (counts A d g budget) all b place m (held o s) (omega (arith, a.below)) (omega (arith, left near)) v (sym ex ∙ e)) em (omega arith)

  -- a DESC that is split, and its four children
  module _ (x e : ℕ) (sent : List ℕ) (es : sent ≡ sent_table) (ex : x ≡ key 15 (bits_at A b place) (signs_at A place)) (ee : e ≡ get_or sent x 0)
      (near : s.at ≤ safe) (S : Sink) (e_s : S ≡ with_digit s 1) (r : Bool) (er : r ≡ bit (get_or d (place / 4) 0) b) (yes : r ≡ true) where
    pub split_desc : (t : Sink) (o₁ : List ℕ) → SameHeld o (with_entry S e) o₁ t × (t.n ≤ 31)
        → get_or m place 0 ≡ 5 → 4 ≤ place → (m₁ : List ℕ) → m₁ ≡ desc_split_marks all place m → length m₁ ≡ length m
        → (y : ℕ) → y ≡ spread_of (x / 16) → (m₂ : List ℕ) → m₂ ≡ with_word m₁ place (16843009 + y) → GoesOn 1 (place + 4) t m₂ o₁
    unfolding plus_bits
    split_desc t o₁ h v from m₁ em n y ey m₂ em₂ =
        let u = four (λ j. own_bits (bit 15 j) (bit (bits_at A b place) j) (bit (signs_at A place) j)) in
        let few : length u ≤ 8 = own_length (λ j. bit 15 j) (λ j. bit (bits_at A b place) j) (λ j. bit (signs_at A place) j) in
        let inside₁ : place + 4 ≤ length m₁ = omega (arith, inside, n) in
        let nc = new_children all place m (omega (arith, inside)) (omega arith) in
        let first = subst (λ (q : Sv Bytes). Way 1 place q) (λ i. sv (sym em i) (got_held near true S e_s (in_desc (place / 4) b) (sym er ∙ yes) i))
        (desc_one K (counts A d g budget) all b place m (held o s) (omega (arith, a.below)) (omega (arith, left near)) v (sym er ∙ yes)) in
        let way = four_children K (counts A d g budget) all b place m₁ (held o (plus_bit s true)) a.below
        (ap (λ (l : List ℕ). get_or l place 0) em ∙ nc.0) (ap (λ (l : List ℕ). get_or l (place + 1) 0) em ∙ nc.1) (ap (λ (l : List ℕ). get_or l (place + 2) 0) em ∙ nc.2) (ap (λ (l : List ℕ). get_or l (place + 3) 0) em ∙ nc.3)
        (record { zero_free = λ _. refl }) (record { zero_free = λ _. refl }) (record { zero_free = λ _. refl }) (record { zero_free = λ _. refl }) (omega (arith, left near)) in
        let held_so = child_bits A d g budget b o place m₁ (plus_bit s true) inside₁ in
        let marks_so = child_marks A d g budget b o place m₁ (plus_bit s true) inside₁ (held o (plus_bit s true)) in
        let then = subst (λ (q : Sv Bytes). Leads E b 1 place (sv m₁ (held o (plus_bit s true))) (place + 4) q) (λ i. sv (marks_so i) (held_so i)) way in
        put_on near (true ∷ u) (omega (arith, few)) t o₁ (subst (λ (z : Sink). SameHeld o (plus_bits z u) o₁ t) e_s (sent_held A b place 15 x (omega arith) ex e sent es ee S t o o₁ h.0)) h.1 1 (place + 4) (with_word m₁ place (16843009 + spread_of (bit_and 15 (bits_at A b place)))) m₂
        (leads_on E b 1 place place (place + 4) (sv m (held o s)) (sv m₁ (held o (plus_bit s true))) _ first then)
        (em₂ ∙ ap (λ (z : ℕ). with_word m₁ place (16843009 + z)) (ey ∙ ap spread_of (found_are A b place 15 x (omega arith) ex))) (omega arith) (omega arith)
