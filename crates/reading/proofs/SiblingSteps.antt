-- Each way through a step of the decoder over four places, from what the code's calls have done.
use Prim.Native.Nat.{ℕ, ◌+◌, ◌*◌, ◌/◌, ◌%◌, ◌≤◌, ◌<◌}
use mathlib.Core.Path.{◌≡◌, refl, sym, ap, ◌∙◌, subst}
use mathlib.Core.Bool.{Bool, true, false, false≢true, cond, not, ◌&&◌}
use mathlib.Core.List.{List}
use native.Mathlib.Omega.{arith}
use borrow.Author.Tests.{eqb-false}
use lib.Dec.{eqb}
use lib.IntN.{ℤ}
use lib.ListN.{length, get_or}
use Rattle.bits.specs.Bits.{bit, digit}
use Rattle.marking.specs.Marking.{skip_of, set_skip_of, in_table, desc_split_marks, grand_split_marks}
use Rattle.marking.proofs.Laws.{skip_in, set_skip_in, set_skip_low, split_desc_so, split_grand_so}
use Rattle.walk.specs.Scans.{Leads}
use Rattle.walk.specs.Visits.{Source, Sv, sv, scan_of}
use Rattle.walk.specs.Fours.{of_child, four_seen}
use Rattle.walk.proofs.Fours.{Counts, leads_none, leads_on, pixels_by, refining_by, sets_by, desc_zero, desc_one, grand_zero, grand_one, four_pixels, four_refined, four_children, idle_pixels, idle_refining, new_children, split_length}
use Rattle.fours.specs.Words.{spread_of, count_of, which_are, refined_word, with_word, word_at, low_word, FourBytes, FourLow}
use Rattle.fours.specs.Tables.{in_byte, in_nibble, end4, found_of, minus_of, placed_of}
use Rattle.fours.proofs.Laws.{nibble_lt, none_of, which_are_lem, same_word, low_fits, low_marks}
use Rattle.reading.specs.Reading.{Read, read, desc_clash, grand_clash, reader, st}
use Rattle.reading.specs.Siblings.{found_four, refined_four, Fixed, Shows, Ahead, Gone}
use Rattle.reading.proofs.SiblingLaws.{found_small, minus_small, end4_le, byte_shows, next_shows, nibble_shows, zero_shows, one_shows, pixel_codes, pixel_marks, refined_codes, refined_marks, child_codes, child_marks, free0, free1, free2, free3}

not_not : (t : Bool) → not t ≡ false → t ≡ true
not_not true e = refl
not_not false e = sym e

module _ (body : List ℕ) (all D P usable safe b i : ℕ) (m : List ℕ) (v : List ℤ) (n : ℕ) (a : Ahead body m v all usable safe b i n) where
  abbrev K : Source Read
  K = reader body usable all D P

  counts : Counts (reader body usable all D P)
  counts p c q x o = refl

  inside : i + 4 ≤ length m
  inside = omega (arith, a.below, a.size)

  -- the step leaves the place as it is
  pub stays : (pass : ℕ) → Gone body all D P usable b pass i m v n (record { on = false; n = n; place = i }) m v
  stays pass = record { led = record { leads = leads_none (scan_of K all) b pass i (st m v n); spent = a.spent }; falls = λ e. absurd (false≢true e) }

  -- a place further on, with nothing else changed
  moves : (pass k : ℕ) → i < k → Leads (scan_of K all) b pass i (st m v n) k (st m v n) → Gone body all D P usable b pass i m v n (record { on = true; n = n; place = k }) m v
  moves pass k h l = record { led = record { leads = l; spent = a.spent }; falls = λ e. (omega arith, omega arith, omega arith) }

  pub skips_pixel : (far : ℕ) → 4 < get_or m i 0 → far ≡ skip_of (get_or m i 0) → Gone body all D P usable b 0 i m v n (record { on = true; n = n; place = i + far }) m v
  skips_pixel far h e =
      moves 0 (i + far) (omega (arith, e, skip_in (get_or m i 0))) (subst (λ (k : ℕ). Leads (scan_of K all) b 0 i (st m v n) (i + k) (st m v n)) (sym e) (pixels_by K all b i m (read v n) (omega (arith, a.below)) a.spent (λ z. omega (arith, h, z))))

  pub skips_refining : (far : ℕ) → 4 < get_or m i 0 → far ≡ skip_of (get_or m i 0) → Gone body all D P usable b 2 i m v n (record { on = true; n = n; place = i + far }) m v
  skips_refining far h e =
      moves 2 (i + far) (omega (arith, e, skip_in (get_or m i 0)))
      (subst (λ (k : ℕ). Leads (scan_of K all) b 2 i (st m v n) (i + k) (st m v n)) (sym e) (refining_by K all b i m (read v n) (omega (arith, a.below)) a.spent (λ z. omega (arith, h, z)) (λ z. omega (arith, h, z))))

  pub skips_set : (far : ℕ) → (get_or m i 0 ≡ 4 → ⊥) → (get_or m i 0 ≡ 5 → ⊥) → (get_or m i 0 ≡ 6 → ⊥) → far ≡ set_skip_of (get_or m i 0)
      → Gone body all D P usable b 1 i m v n (record { on = true; n = n; place = i + far }) m v
  skips_set far d5 d6 d7 e =
      moves 1 (i + far) (omega (arith, e, set_skip_in (get_or m i 0))) (subst (λ (k : ℕ). Leads (scan_of K all) b 1 i (st m v n) (i + k) (st m v n)) (sym e) (sets_by K all b i m (read v n) (omega (arith, a.below)) a.spent d5 d6 d7))

  -- marks of coefficients skip 4 in the set pass
  pub skips_own : get_or m i 0 < 4 → Gone body all D P usable b 1 i m v n (record { on = true; n = n; place = i + 4 }) m v
  skips_own h = skips_set 4 (λ z. omega (arith, h, z)) (λ z. omega (arith, h, z)) (λ z. omega (arith, h, z)) (sym (set_skip_low (get_or m i 0) (omega (arith, h))))

  -- four places at which there is nothing to do
  pub no_pixels : FourLow m i → which_are 1 (word_at m i) ≡ 0 → Gone body all D P usable b 0 i m v n (record { on = true; n = n; place = i + 4 }) m v
  no_pixels low e =
      let z = none_of (eqb (get_or m i 0) 1) (eqb (get_or m (i + 1) 0) 1) (eqb (get_or m (i + 2) 0) 1) (eqb (get_or m (i + 3) 0) 1) (sym (which_are_lem m i 1 inside low) ∙ e) in
      moves 0 (i + 4) (omega arith)
      (idle_pixels K all b i m (read v n) a.below a.spent low.first low.second low.third low.fourth
      (eqb-false (get_or m i 0) 1 z.0) (eqb-false (get_or m (i + 1) 0) 1 z.1) (eqb-false (get_or m (i + 2) 0) 1 z.2) (eqb-false (get_or m (i + 3) 0) 1 z.3))

  pub no_refined : FourBytes m i → word_at m i ≡ 16843009 → Gone body all D P usable b 2 i m v n (record { on = true; n = n; place = i + 4 }) m v
  no_refined bytes e =
      let s = same_word m i inside bytes e in
      moves 2 (i + 4) (omega arith) (idle_refining K all b i m (read v n) a.below a.spent s.0 s.1 s.2 s.3)

  -- bits of the body are used, and the state is what the code has made
  goes : (pass k used : ℕ) (u : Sv Read) (m₁ : List ℕ) (v₁ : List ℤ) → i < k → used ≤ 9 → n ≤ safe → Leads (scan_of K all) b pass i (st m v n) k u → u ≡ st m₁ v₁ (n + used)
      → Gone body all D P usable b pass i m v n (record { on = true; n = n + used; place = k }) m₁ v₁
  goes pass k used u m₁ v₁ h l s g e =
      record {
        led = record { leads = subst (λ (t : Sv Read). Leads (scan_of K all) b pass i (st m v n) k t) e g; spent = omega (arith, s, l, a.margin) };
        falls = λ z. (omega arith, omega arith, omega arith);
      }

  module _ (w : ℕ) (shows : Shows body n w) (s : n ≤ safe) where
    -- four places of the pixel pass
    pub pixels_heard : FourLow m i
        → Gone body all D P usable b 0 i m v n (record { on = true; n = n + end4 (bit (which_are 1 (word_at m i))) (in_byte (w / 256)); place = i + 4 })
        (with_word m i (word_at m i + spread_of (found_of (bit (which_are 1 (word_at m i))) (in_byte (w / 256)))))
        (found_four v i b (found_of (bit (which_are 1 (word_at m i))) (in_byte (w / 256))) (minus_of (bit (which_are 1 (word_at m i))) (in_byte (w / 256))))
    pixels_heard low =
        let codes = pixel_codes body usable all D P b i m v n inside low (w / 256) (byte_shows body n w shows) in
        let marks = pixel_marks body usable all D P b i m v n inside low (w / 256) (byte_shows body n w shows) in
        goes 0 (i + 4) _ _ _ _ (omega arith) (omega (arith, end4_le (bit (which_are 1 (word_at m i))) (in_byte (w / 256)))) s
        (four_pixels K counts all b i m (read v n) a.below low.first low.second low.third low.fourth (omega (arith, s, a.margin))) (λ j. sv (marks j) (codes j))

    -- four places of the refinement pass
    pub refined_heard : FourLow m i → Fixed v i b
        → Gone body all D P usable b 2 i m v n (record { on = true; n = n + count_of (which_are 3 (word_at m i)); place = i + 4 })
        (with_word m i (refined_word (word_at m i)))
        (refined_four v i b (placed_of (bit (which_are 3 (word_at m i))) (in_nibble (w / 4096))))
    refined_heard low fixed =
        let codes = refined_codes body usable all D P b i m v n inside low (w / 4096) (nibble_shows body n w shows) fixed in
        let marks = refined_marks body usable all D P b i m v n inside low (w / 4096) (nibble_shows body n w shows) fixed (read v n) in
        goes 2 (i + 4) _ _ _ _ (omega arith) count_le s
        (four_refined K counts all b i m (read v n) a.below low.first low.second low.third low.fourth (omega (arith, s, a.margin))) (λ j. sv (marks j) (codes j))
      where
        count_le : count_of (which_are 3 (word_at m i)) ≤ 9
        count_le = omega arith

    -- the test of a DESC
    pub desc_none : get_or m i 0 ≡ 5 → w < 32768 → desc_clash D P b n i m ≡ false → Gone body all D P usable b 1 i m v n (record { on = true; n = n + 1; place = i + 4 }) m v
    desc_none e h z =
        goes 1 (i + 4) 1 _ m v (omega arith) (omega arith) s
        (desc_zero K counts all b i m (read v n) (omega (arith, a.below)) (omega (arith, s, a.margin)) e (zero_shows body n w shows h) z) refl

    pub desc_heard : get_or m i 0 ≡ 5 → 32768 ≤ w → 4 ≤ i → i % 4 ≡ 0 → (found_of (bit 15) (in_byte (w / 128 % 256)) ≡ 0 → 4 * i < all)
        → Gone body all D P usable b 1 i m v n (record { on = true; n = n + 1 + end4 (bit 15) (in_byte (w / 128 % 256)); place = i + 4 })
        (with_word (desc_split_marks all i m) i (16843009 + spread_of (found_of (bit 15) (in_byte (w / 128 % 256)))))
        (found_four v i b (found_of (bit 15) (in_byte (w / 128 % 256))) (minus_of (bit 15) (in_byte (w / 128 % 256))))
    desc_heard e h four_on aligned some =
        let y = w / 128 % 256 in
        let m₁ = desc_split_marks all i m in
        let shown = next_shows body n w shows in
        let codes = child_codes body usable all D P b i m₁ v (n + 1) wide y shown in
        let marks = child_marks body usable all D P b i m₁ v (n + 1) wide y shown in
        let c = new_children all i m (omega (arith, a.below, a.size)) (omega (arith, four_on)) in
        let one = desc_one K counts all b i m (read v n) (omega (arith, a.below)) (omega (arith, s, a.margin)) e (one_shows body n w shows h) in
        let next =
        four_children K counts all b i m₁ (read v (n + 1)) a.below c.0 c.1 c.2 c.3 (free0 body usable all D P b i m₁ v (n + 1) wide y shown aligned some)
        (free1 body usable all D P b i m₁ v (n + 1) wide y shown aligned some _ _) (free2 body usable all D P b i m₁ v (n + 1) wide y shown aligned some _ _) (free3 body usable all D P b i m₁ v (n + 1) wide y shown aligned some)
        (omega (arith, s, a.margin)) in
        let end = end4_le (bit 15) (in_byte y) in
        record {
          led =
              record {
                leads = subst (λ (t : Sv Read). Leads (scan_of K all) b 1 i (st m v n) (i + 4) t) (λ j. sv (marks j) (codes j)) (leads_on (scan_of K all) b 1 i i (i + 4) (st m v n) (st m₁ v (n + 1)) (four_seen (of_child K b) i m₁ (read v (n + 1))) one next);
                spent = omega (arith, s, end, a.margin);
              };
          falls = λ z. (omega arith, omega arith, omega arith);
        }
      where
        wide : i + 4 ≤ length (desc_split_marks all i m)
        wide = omega (arith, inside, split_length all i m)

    -- the test of a GRAND
    pub grand_none : get_or m i 0 ≡ 6 → w < 32768 → grand_clash i m ≡ false → Gone body all D P usable b 1 i m v n (record { on = true; n = n + 1; place = i + 16 }) m v
    grand_none e h z =
        goes 1 (i + 16) 1 _ m v (omega arith) (omega arith) s
        (grand_zero K counts all b i m (read v n) (omega (arith, a.below)) (omega (arith, s, a.margin)) e (zero_shows body n w shows h) z) refl

    pub grand_heard : get_or m i 0 ≡ 6 → 32768 ≤ w → Gone body all D P usable b 1 i m v n (record { on = true; n = n + 1; place = i }) (grand_split_marks all i m) v
    grand_heard e h =
        record {
          led =
              record {
                leads = grand_one K counts all b i m (read v n) (omega (arith, a.below)) (omega (arith, s, a.margin)) e (one_shows body n w shows h);
                spent = omega (arith, s, a.margin);
              };
          falls = λ z. (omega arith, omega arith, omega arith);
        }

  -- the same in the words of the code: w is the word of the marks, k which of them are asked, and so on
  module _ (w : ℕ) (ew : w ≡ word_at m i) (bytes : i + 4 ≤ length m → FourBytes m i) where
    pub is_low : (t : Bool) → t ≡ low_word w → not t ≡ false → FourLow m i
    is_low t e f = low_marks m i inside (bytes inside) (ap (λ (x : ℕ). low_word x) (sym ew) ∙ sym e ∙ not_not t f)

    pub word_fits : (t : Bool) → t ≡ low_word w → not t ≡ false → (x sp : ℕ) → sp ≡ spread_of x → w + sp < 4294967296
    word_fits t e f x sp es = omega (arith, ew, es, low_fits m i inside (is_low t e f) x)

    pub no_pixels_so : (t : Bool) → t ≡ low_word w → not t ≡ false → (k : ℕ) → k ≡ which_are 1 w → k ≡ 0 → Gone body all D P usable b 0 i m v n (record { on = true; n = n; place = i + 4 }) m v
    no_pixels_so t e f k ek z = no_pixels (is_low t e f) (ap (λ (x : ℕ). which_are 1 x) (sym ew) ∙ sym ek ∙ z)

    pub no_refined_so : w ≡ 16843009 → Gone body all D P usable b 2 i m v n (record { on = true; n = n; place = i + 4 }) m v
    no_refined_so e = no_refined (bytes inside) (sym ew ∙ e)

    pub pixels_so : (t : Bool) → t ≡ low_word w → not t ≡ false → (k : ℕ) → k ≡ which_are 1 w → (win : ℕ) → Shows body n win → n ≤ safe
        → (used found minus sp : ℕ) → used ≡ end4 (bit k) (in_byte (win / 256)) → found ≡ found_of (bit k) (in_byte (win / 256)) → minus ≡ minus_of (bit k) (in_byte (win / 256)) → sp ≡ spread_of found
        → (m₁ : List ℕ) (v₁ : List ℤ) → m₁ ≡ with_word m i (w + sp) → v₁ ≡ found_four v i b found minus → Gone body all D P usable b 0 i m v n (record { on = true; n = n + used; place = i + 4 }) m₁ v₁
    pixels_so t e f k ek win shows s used found minus sp eu ef em es m₁ v₁ e₁ e₂ = rw (e₁, e₂, es, eu, ef, em, ek, ew) (pixels_heard win shows s (is_low t e f))

    pub refined_so : (t : Bool) → t ≡ low_word w → not t ≡ false → (k : ℕ) → k ≡ which_are 3 w → (win : ℕ) → Shows body n win → n ≤ safe
        → (count placed word : ℕ) → count ≡ count_of k → placed ≡ placed_of (bit k) (in_nibble (win / 4096)) → word ≡ refined_word w
        → (m₁ : List ℕ) (v₁ : List ℤ) → m₁ ≡ with_word m i word → v₁ ≡ refined_four v i b placed → Fixed v i b → Gone body all D P usable b 2 i m v n (record { on = true; n = n + count; place = i + 4 }) m₁ v₁
    refined_so t e f k ek win shows s count placed word ec ep er m₁ v₁ e₁ e₂ fixed = rw (e₁, e₂, er, ec, ep, ek, ew) (refined_heard win shows s (is_low t e f) fixed)

  pub desc_so : get_or m i 0 ≡ 5 → (w : ℕ) → Shows body n w → n ≤ safe → 32768 ≤ w → 4 ≤ i → i % 4 ≡ 0
      → (used found minus sp : ℕ) → used ≡ end4 (bit 15) (in_byte (w / 128 % 256)) → found ≡ found_of (bit 15) (in_byte (w / 128 % 256)) → minus ≡ minus_of (bit 15) (in_byte (w / 128 % 256)) → (found ≡ 0 → 4 * i < all) → sp ≡ spread_of found
      → (m₁ m₂ : List ℕ) (v₁ : List ℤ) → m₁ ≡ cond (in_table (length m) i) (desc_split_marks (length m) i m) m → m₂ ≡ with_word m₁ i (16843009 + sp) → v₁ ≡ found_four v i b found minus
      → Gone body all D P usable b 1 i m v n (record { on = true; n = n + 1 + used; place = i + 4 }) m₂ v₁
  desc_so e w shows s h four_on aligned used found minus sp eu ef em some es m₁ m₂ v₁ e₁ e₂ e₃ =
      let split = split_desc_so all i m m₁ e₁ a.size a.near (omega (arith, a.below)) in
      rw (e₂, e₃, split, es, eu, ef, em) (desc_heard w shows s e h four_on aligned (λ z. some (ef ∙ z)))

  pub grand_so : get_or m i 0 ≡ 6 → (w : ℕ) → Shows body n w → n ≤ safe → 32768 ≤ w → (m₁ : List ℕ) → m₁ ≡ cond (in_table (length m) i) (grand_split_marks (length m) i m) m
      → Gone body all D P usable b 1 i m v n (record { on = true; n = n + 1; place = i }) m₁ v
  grand_so e w shows s h m₁ e₁ =
      let split = split_grand_so all i m m₁ e₁ a.size a.near (omega (arith, a.below)) in
      rw split (grand_heard w shows s e h)

-- sizes of what is heard
pub found_lt : (k u : ℕ → Bool) (x : ℕ) → x ≡ found_of k u → x < 16
found_lt k u x e = subst (λ (y : ℕ). y < 16) (sym e) (found_small k u)

pub minus_lt : (k u : ℕ → Bool) (x : ℕ) → x ≡ minus_of k u → x < 16
minus_lt k u x e = subst (λ (y : ℕ). y < 16) (sym e) (minus_small k u)

pub placed_lt : (k u : ℕ → Bool) → placed_of k u < 16
placed_lt k u = nibble_lt (k 0 && u 0) (k 1 && u (digit (k 0))) (k 2 && u (digit (k 0) + digit (k 1))) (k 3 && u (digit (k 0) + digit (k 1) + digit (k 2)))
