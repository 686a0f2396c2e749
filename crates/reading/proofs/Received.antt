-- The decoder's scan does what the verdict on the usable bits says, and keeps the codes of what the definitions keep.
use Prim.Native.Nat.{ℕ, suc, ◌+◌, ◌-◌, ◌*◌, ◌/◌, ◌%◌, ◌≤◌, ◌<◌}
use mathlib.Core.Path.{◌≡◌, refl, sym, ap, subst, ◌∙◌}
use mathlib.Core.Option.{Option, none, some}
use mathlib.Core.List.{List, [], ◌∷◌, ◌++◌}
use mathlib.Core.Bool.{Bool, true, false, not, ◌&&◌, ◌||◌, cond, and-false}
use native.Mathlib.Omega.{arith}
use native.Mathlib.Numerals.{add-one}
use borrow.Author.Tests.{ltb-true, ltb-false, eqb-true, ne_eqb, leb-true}
use lib.Dec.{ltb, leb, eqb}
use lib.IntN.{ℤ, pos}
use lib.ListN.{get_or, drop, drop_of_length-le, replicate}
use lib.Seq.{drop-cons}
use Rattle.sizes.specs.Sizes.{least_n, most_n, all_of, coarsest_of}
use Rattle.sizes.specs.Tables.{table}
use Rattle.bits.specs.Bits.{bit_at, bits_of}
use Rattle.bits.proofs.Laws.{bits_of_length, bits_of_at, bits_of_suc}
use Rattle.nls.specs.Marks.{start_marks}
use Rattle.nls.specs.Scan.{Question, bit_of, in_desc, in_grand, Pass, pixels, sets, refining, State, state_at, asks, look, look_sets, tell, settle, ask, next, reach}
use Rattle.nls.specs.Stream.{begin, after}
use Rattle.nls.specs.Reading.{Known, nothing, learn, learn_at, learned, known}
use Rattle.nls.specs.Turns.{standing}
use Rattle.nls.specs.Judging.{Verdict, taken, contradiction, beyond}
use Rattle.nls.proofs.Known.{Sound, known_sound, learned_append}
use Rattle.nls.proofs.Machine.Run.{settle_hush, settle_asks, settle_over}
use Rattle.nls.proofs.Judging.Decide.{clash_by, cb_child, cb_grand, cb_desc, cb_root}
use Rattle.nls.proofs.Judging.ByCount.{clash_count}
use Rattle.nls.proofs.Verdicts.{verdict, verdict_from}
use Rattle.walk.specs.Scans.{Ran, out, bad, on, last, now_of, is_bad, planes, left_of}
use Rattle.walk.specs.Visits.{Source, Sv, sv, scan_of, got}
use Rattle.reading.specs.Reading.{Read, read, codes, keep, is, child_clash, grand_clash, last_clash, root_clash, desc_clash, bars, reader, st}
use Rattle.walk.proofs.Good.{Keeps, Free, state, dry, barred}
use Rattle.walk.proofs.Whole.{Ended, scan_good}
use Rattle.walk.proofs.Led.{Led, led_silent, led_there, led_told, led_asks, asks_some, over_none, led_start, codes_first}
use Rattle.reading.proofs.Coded.{codes_none, learn_is}

-- ---- the code's tests of refusal 12 are the verdict's

or_no : (x : Bool) → x ≡ (x || false)
or_no true = refl
or_no false = refl

module _ (I D P b i used : ℕ) (m : List ℕ) where
  abbrev pub none_yet : Bool
  none_yet = eqb used (D + 3 * D / 4 - 1)

  pub child_is : get_or m i 0 ≡ 4 → child_clash I i m ≡ clash_by I D P b i m none_yet
  unfolding clash_by cb_child cb_grand cb_desc cb_root child_clash
  child_is e = rw e (or_no _)

  pub grand_is : get_or m i 0 ≡ 6 → grand_clash i m ≡ clash_by I D P b i m none_yet
  unfolding clash_by cb_child cb_grand cb_desc cb_root grand_clash
  grand_is e = rw e (or_no _)

  pub desc_is : get_or m i 0 ≡ 5 → desc_clash D P b used i m ≡ clash_by I D P b i m none_yet
  unfolding clash_by cb_child cb_grand cb_desc cb_root desc_clash last_clash root_clash
  desc_is e = rw e (go (leb (4 * D) i) refl)
    where
      go : (x : Bool) → leb (4 * D) i ≡ x
          → cond x (eqb (i / 4 % 4) 3 && (is m (4 * (i / 4 - 1)) 5 && (is m (4 * (i / 4 - 2)) 5 && is m (4 * (i / 4 - 3)) 5))) (eqb (i + 4) (4 * D) && (eqb (suc b) P && eqb used (D + 3 * D / 4 - 1)))
          ≡ ((x && (eqb (i / 4 % 4) 3 && (is m (4 * (i / 4 - 1)) 5 && (is m (4 * (i / 4 - 2)) 5 && is m (4 * (i / 4 - 3)) 5)))) || (eqb (i + 4) (4 * D) && (eqb (suc b) P && eqb used (D + 3 * D / 4 - 1))))
      go true y =
          let n : eqb (i + 4) (4 * D) ≡ false = ne_eqb (i + 4) (4 * D) (λ z. omega (arith, z, leb-true (4 * D) i y)) in
          rw n (or_no _)
      go false y = refl

  bars_is : (x d g c : Bool) → eqb (get_or m i 0) 5 ≡ d → eqb (get_or m i 0) 6 ≡ g → eqb (get_or m i 0) 4 ≡ c → (q : Question) → look_sets b i m x d g c ≡ asks q
      → bars I D P b q i m used ≡ clash_by I D P b i m none_yet
  bars_is false d g c ed eg ec q e = let z : ◌≡◌ {A = ℕ} 0 1 = cc in absurd (omega (arith, z))
  bars_is true true g c ed eg ec q e = let y : in_desc (i / 4) b ≡ q = cc in subst (λ (q : Question). bars I D P b q i m used ≡ clash_by I D P b i m none_yet) y (desc_is (eqb-true (get_or m i 0) 5 ed))
  bars_is true false true c ed eg ec q e = let y : in_grand (i / 16) b ≡ q = cc in subst (λ (q : Question). bars I D P b q i m used ≡ clash_by I D P b i m none_yet) y (grand_is (eqb-true (get_or m i 0) 6 eg))
  bars_is true false false true ed eg ec q e = let y : bit_of i b ≡ q = cc in subst (λ (q : Question). bars I D P b q i m used ≡ clash_by I D P b i m none_yet) y (child_is (eqb-true (get_or m i 0) 4 ec))
  bars_is true false false false ed eg ec q e = let z : ◌≡◌ {A = ℕ} 0 1 = cc in absurd (omega (arith, z))

  bars_clash : (q : Question) → look I (state_at (suc b) sets i m) ≡ asks q → bars I D P b q i m used ≡ clash_count I D P used (state_at (suc b) sets i m)
  unfolding clash_count
  bars_clash q e = bars_is (ltb i I) (eqb (get_or m i 0) 5) (eqb (get_or m i 0) 6) (eqb (get_or m i 0) 4) refl refl refl q e

-- ---- the verdict, one bit at a time

module _ (N L P : ℕ) where
  abbrev pub clash : ℕ → State → Bool
  clash used s = clash_count (all_of N) (coarsest_of N L) P used s

  pub verdict_go : (k : ℕ) (s : State) (a : Bool) (u : List Bool) (q : Question) → ask (all_of N) s ≡ some q → (not a && clash k s) ≡ false → verdict_from N L P k s (a ∷ u) ≡ verdict_from N L P (k + 1) (next (all_of N) s a) u
  unfolding verdict_from
  verdict_go k s a u q e f = rw (e, verdict_from) (rw f)

  pub verdict_no : (k : ℕ) (s : State) (a : Bool) (u : List Bool) (q : Question) → ask (all_of N) s ≡ some q → (not a && clash k s) ≡ true → verdict_from N L P k s (a ∷ u) ≡ contradiction k
  unfolding verdict_from
  verdict_no k s a u q e f = rw (e, verdict_from) (rw f)

  pub verdict_over : (k : ℕ) (s : State) (a : Bool) (u : List Bool) → ask (all_of N) s ≡ none → verdict_from N L P k s (a ∷ u) ≡ beyond k
  unfolding verdict_from
  verdict_over k s a u e = rw (e, verdict_from)

  pub verdict_end : (k : ℕ) (s : State) → verdict_from N L P k s [] ≡ taken
  unfolding verdict_from
  verdict_end k s = refl

-- ---- what is learned, bit by bit

pub bits_more : (n : ℕ) (body : List ℕ) → bits_of (n + 1) body ≡ bits_of n body ++ (bit_at body n ∷ [])
bits_more n body = ap {B = List Bool} (λ (k : ℕ). bits_of k body) (add-one n) ∙ bits_of_suc n body

learned_one : (N L : ℕ) (s : State) (k : Known) (a : Bool) → learned N L s k (a ∷ []) ≡ learn_at N L (ask (all_of N) s) s a k
unfolding learned
learned_one N L s k a = refl

-- ---- the scan

module _ (N L P : ℕ) (most : P ≤ 24) (body : List ℕ) (usable : ℕ) where
  abbrev I : ℕ
  I = all_of N

  abbrev D : ℕ
  D = coarsest_of N L

  abbrev K : Source Read
  K = reader body usable I D P

  abbrev s₀ : State
  s₀ = begin N L P

  abbrev B : List Bool
  B = bits_of usable body

  pub record Going (s : State) (o : Read) : Type 0 where
    pub led : Led N (begin N L P) s (bits_of o.n body)
    pub knows : o.codes ≡ codes (known N L P (bits_of o.n body)).bits
    pub same : verdict N L P (bits_of usable body) ≡ verdict_from N L P o.n (settle (all_of N) s) (drop o.n (bits_of usable body))

  next_bit : (n : ℕ) → n < usable → drop n B ≡ bit_at body n ∷ drop (suc n) B
  next_bit n h = drop-cons B n false (omega (arith, h, bits_of_length usable body)) ∙ ap {B = List Bool} (λ (x : Bool). x ∷ drop (suc n) B) (bits_of_at usable body n h)

  no_clash : (b : ℕ) (p : Pass) (i : ℕ) (e : Bool) (m : List ℕ) (q : Question) (o : Read) → look I (state (suc b) p i e m) ≡ asks q → Free K b p i e q m o
      → (not (bit_at body o.n) && clash_count I D P o.n (state (suc b) p i e m)) ≡ false
  unfolding clash_count
  no_clash b pixels i e m q o l f = and-false (not (bit_at body o.n))
  no_clash b refining i e m q o l f = and-false (not (bit_at body o.n))
  no_clash b sets i true m q o l f = and-false (not (bit_at body o.n))
  no_clash b sets i false m q o l f = go (bit_at body o.n) refl
    where
      go : (a : Bool) → bit_at body o.n ≡ a → (not a && clash_by I D P b i m (eqb o.n (D + 3 * D / 4 - 1))) ≡ false
      go true y = refl
      go false y = sym (bars_is I D P b i o.n m (ltb i I) (eqb (get_or m i 0) 5) (eqb (get_or m i 0) 6) (eqb (get_or m i 0) 4) refl refl refl q l) ∙ f y

  going_told : (b : ℕ) (p : Pass) (i : ℕ) (e : Bool) (m : List ℕ) (q : Question) (o : Read) → Going (state (suc b) p i e m) o → look I (state (suc b) p i e m) ≡ asks q → i < I
      → o.n < usable → Free K b p i e q m o → Going (tell I (state (suc b) p i e m) (bit_at body o.n)) (got K p b q o)
  unfolding next
  going_told b p i e m q o g l h u f =
      let s : State = state (suc b) p i e m in
      let a : Bool = bit_at body o.n in
      let w : List Bool = bits_of o.n body in
      let c : bits_of (o.n + 1) body ≡ w ++ a ∷ [] = bits_more o.n body in
      let r : reach I s₀ w ≡ s = led_there N s₀ s w q g.led l in
      let z : ask I (reach I s₀ w) ≡ some q = led_asks N s₀ s w q g.led l in
      let d : suc b - 1 ≡ b = omega arith in
      let t : settle I s ≡ s = settle_asks I s q l in
      let f₀ : Sound I P s (known N L P w) = subst (λ (v : State). Sound I P v (known N L P w)) r (known_sound N L P w) in
      let lw : learn_at N L (ask I (reach I s₀ w)) (reach I s₀ w) a (known N L P w) ≡ learn N L p b q a (known N L P w) =
      ap (λ (v : Option Question). learn_at N L v (reach I s₀ w) a (known N L P w)) z
      ∙ ap (λ (v : State). learn N L v.pass (v.left - 1) q a (known N L P w)) r
      ∙ ap (λ (v : ℕ). learn N L p v q a (known N L P w)) d in
      let kw : keep p b q a o.codes ≡ codes (learn N L p b q a (known N L P w)).bits =
      ap (λ (v : List ℤ). keep p b q a v) g.knows ∙ learn_is I P b i m (known N L P w) h N L p e a q l f₀ most in
      record {
        led = led_told N s₀ s w q a g.led l ∙ ap (λ (v : List Bool). reach I s₀ v) (sym c);
        knows = kw ∙ ap (λ (v : Known). codes v.bits) (sym (ap (λ (v : List Bool). known N L P v) c ∙ learned_append N L s₀ (nothing N P) w (a ∷ []) ∙ learned_one N L (reach I s₀ w) (known N L P w) a ∙ lw));
        same =
            g.same
            ∙ ap (λ (v : State). verdict_from N L P o.n v (drop o.n B)) t
            ∙ ap (λ (v : List Bool). verdict_from N L P o.n s v) (next_bit o.n u)
            ∙ verdict_go N L P o.n s a (drop (suc o.n) B) q (asks_some I s q l) (no_clash b p i e m q o l f)
            ∙ ap (λ (k : ℕ). verdict_from N L P (o.n + 1) (settle I (tell I s a)) (drop k B)) (sym (add-one o.n));
      }

  keeps : Keeps K I Going
  keeps =
      record {
        silence = λ s r o g e. record {
          led = led_silent N s₀ s r (bits_of o.n body) g.led e;
          knows = g.knows;
          same = g.same ∙ ap (λ (v : State). verdict_from N L P o.n v (drop o.n B)) (settle_hush I s r e);
        };
        told = λ b p i e m q o g l h x u f. going_told b p i e m q o g l h u f;
        counts = λ p b q x o. refl;
      }

  -- what the scan leaves, by the verdict on the usable bits
  abbrev pub Matches : Verdict → Ran (Sv Read) → ℕ → Type 0
  Matches taken r l =
      (is_bad r ≡ false) × ((last r).rest.n ≡ usable) × ((last r).marks ≡ (after N L P (bits_of usable body)).marks) × ((last r).rest.codes ≡ codes (known N L P (bits_of usable body)).bits)
      × (l ≡ (after N L P (bits_of usable body)).left) × (now_of r ≡ standing (all_of N) (after N L P (bits_of usable body)).pass (after N L P (bits_of usable body)).place)
  Matches (contradiction k) r l = (is_bad r ≡ true) × ((last r).rest.n ≡ k) × (k < usable)
  Matches (beyond k) r l = (is_bad r ≡ false) × ((last r).rest.n ≡ k) × (k < usable)

  -- all bits used
  used_up : (r : Ran (Sv Read)) (s : State) (l : ℕ) (o : Read) → Going s o → settle I s ≡ s → o.n ≡ usable → is_bad r ≡ false → last r ≡ sv s.marks o → l ≡ s.left → now_of r ≡ standing I s.pass s.place → Matches (verdict N L P B) r l
  used_up r s l o g t n nb e z y =
      let d : verdict N L P B ≡ taken =
      g.same ∙ ap (λ (k : List Bool). verdict_from N L P o.n (settle I s) k) (drop_of_length-le B {i = o.n} (omega (arith, n, bits_of_length usable body))) ∙ verdict_end N L P o.n (settle I s) in
      let c : bits_of o.n body ≡ B = ap {B = List Bool} (λ (k : ℕ). bits_of k body) n in
      let w : after N L P B ≡ s = sym (sym t ∙ g.led ∙ ap (λ (u : List Bool). reach I s₀ u) c) in
      let k : o.codes ≡ codes (known N L P B).bits = g.knows ∙ ap (λ (u : List Bool). codes (known N L P u).bits) c in
      subst (λ (v : Verdict). Matches v r l) (sym d) (
        nb,
        ap (λ (v : Sv Read). v.rest.n) e ∙ n,
        ap (λ (v : Sv Read). v.marks) e ∙ ap (λ (x : State). x.marks) (sym w),
        ap (λ (v : Sv Read). v.rest.codes) e ∙ k,
        z ∙ ap (λ (x : State). x.left) (sym w),
        y ∙ ap (λ (x : State). standing I x.pass x.place) (sym w),
      )

  -- some are left
  more_left : (s : State) (o : Read) → Going s o → settle I s ≡ s → o.n < usable → verdict N L P B ≡ verdict_from N L P o.n s (bit_at body o.n ∷ drop (suc o.n) B)
  more_left s o g t u =
      g.same ∙ ap (λ (v : State). verdict_from N L P o.n v (drop o.n B)) t ∙ ap (λ (v : List Bool). verdict_from N L P o.n s v) (next_bit o.n u)

  first : Going (state_at P pixels 0 (start_marks I D)) (read (replicate I (pos 0)) 0)
  unfolding reach learned table
  first =
      record {
        led = led_start N D P;
        knows = codes_none I;
        same = ap (λ (s : State). verdict_from N L P 0 s B) (sym (led_start N D P));
      }

  abbrev pub E : Ran (Sv Read)
  E = planes (scan_of (reader body usable (all_of N) (coarsest_of N L) P) (all_of N)) P (st (start_marks (all_of N) (coarsest_of N L)) (replicate (all_of N) (pos 0)) 0)

  abbrev pub left : ℕ
  left = left_of (scan_of (reader body usable (all_of N) (coarsest_of N L) P) (all_of N)) P (st (start_marks (all_of N) (coarsest_of N L)) (replicate (all_of N) (pos 0)) 0)

  -- THE DECODER'S SCAN IS THE VERDICT
  pub reads : least_n ≤ N → N ≤ most_n → 4 ≤ coarsest_of N L → Matches (verdict N L P (bits_of usable body)) E left
  reads two most wide =
      go left E (scan_good K N Going keeps two most P (st (start_marks I D) (replicate I (pos 0)) 0) (record { held = first; codes = codes_first N D two wide; cap = omega arith }))
    where
      go : (l : ℕ) (r : Ran (Sv Read)) → Ended K N Going l r → Matches (verdict N L P B) r l
      go l (out now v) (dry s q o g e b c _ h _ w) = used_up (out now (sv s.marks o)) s l o g (settle_asks I s q e) (omega (arith, b, c)) refl refl (sym h) (sym w)
      go l (bad v) (barred b i q m o g e li u x z) =
          let s : State = state_at (suc b) sets i m in
          let f : (not (bit_at body o.n) && clash_count I D P o.n s) ≡ true = rw x (sym (bars_clash I D P b i o.n m q e) ∙ z) in
          subst (λ (w : Verdict). Matches w (bad (sv m o)) l)
          (sym (more_left s o g (settle_asks I s q e) u ∙ verdict_no N L P o.n s (bit_at body o.n) (drop (suc o.n) B) q (asks_some I s q e) f)) (refl, refl, u)
      go l (on v) (z, h) = end (ltb v.rest.n usable) refl
        where
          s : State
          s = state_at 0 pixels 0 v.marks

          t : settle I s ≡ s
          t = settle_over I s refl

          end : (x : Bool) → ltb v.rest.n usable ≡ x → Matches (verdict N L P B) (on v) l
          end true x =
              let u : v.rest.n < usable = ltb-true v.rest.n usable x in
              subst (λ (w : Verdict). Matches w (on v) l)
              (sym (more_left s v.rest h.held t u ∙ verdict_over N L P v.rest.n s (bit_at body v.rest.n) (drop (suc v.rest.n) B) (over_none I v.marks))) (refl, refl, u)
          end false x = used_up (on v) s l v.rest h.held t (omega (arith, h.cap, ltb-false v.rest.n usable x)) refl refl z refl
