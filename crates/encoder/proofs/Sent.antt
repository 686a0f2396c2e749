-- The encoder puts the machine's stream, cut at the budget.
use Prim.Native.Nat.{ℕ, zero, suc, ◌+◌, ◌*◌, ◌^◌, ◌≤◌, ◌<◌, min}
use mathlib.Core.Path.{◌≡◌, refl, sym, ap, ◌∙◌}
use mathlib.Core.Logic.{◌⊎◌, inl, inr}
use mathlib.Core.Option.{none, some}
use mathlib.Core.List.{List, [], ◌∷◌, ◌++◌, append_assoc, append-nil}
use mathlib.Core.Bool.{Bool, false≢true}
use native.Mathlib.Omega.{arith}
use lib.IntN.{ℤ}
use lib.ListN.{length, get_or, take, drop, length-append}
use lib.Seq.{take_all}
use Rattle.sizes.specs.Sizes.{least_n, most_n, all_of, coarsest_of, Sized}
use Rattle.bits.specs.Bits.{bit, bytes_for, packed, with_bit}
use Rattle.bits.proofs.Laws.{packed_nil, put_packed}
use Rattle.coef.specs.Coef.{IsPlanes}
use Rattle.tree.specs.Summaries.{desc_or, grand_or}
use Rattle.nls.specs.Marks.{start_marks}
use Rattle.nls.specs.Scan.{Question, bit_of, sign_of, in_desc, in_grand, pixels, State, state_at, asks, look, tell, settle, ask, next, reach}
use Rattle.nls.specs.Stream.{answer, answers, begin, after, stream, worst_body}
use Rattle.nls.proofs.Machine.Run.{settle_hush, settle_asks, settle_over}
use Rattle.nls.proofs.Counting.Sums.{order}
use Rattle.nls.proofs.Counts.{stream_bound}
use Rattle.nls.proofs.Streams.{budget_bits}
use Rattle.walk.specs.Scans.{Ran, out, bad, on, last, planes, left_of}
use Rattle.walk.specs.Visits.{Source, Sv, scan_of}
use Rattle.encoder.specs.Writing.{Bytes, bytes, replies, writer, st}
use Rattle.walk.proofs.Good.{Keeps, Proper, dry, barred}
use Rattle.walk.proofs.Whole.{Ended, scan_good}
use Rattle.walk.proofs.Led.{Led, led_silent, led_there, led_over, led_told, asks_some, over_none, led_start, codes_first}

-- the summaries hold what the array's sets answer
pub record Says (N L : ℕ) (A : List ℤ) (d g : List ℕ) : Type 0 where
  pub descs : (j : ℕ) → 4 * j < all_of N → get_or d j 0 ≡ desc_or N L A j
  pub grands : (j : ℕ) → 16 * j < all_of N → get_or g j 0 ≡ grand_or N L A j

-- what is put: the bits u, and the rest of the bytes as it was
pub record Put (N L P : ℕ) (A : List ℤ) (held : List ℕ) (u : List Bool) (n : ℕ) (m o : List ℕ) : Type 0 where
  pub count : n ≡ length u
  pub marked : m ≡ (after N L P u).marks
  pub wrote : o ≡ packed u ++ drop (bytes_for (length u)) held

true_reply : (N L : ℕ) (A : List ℤ) (d g : List ℕ) → Says N L A d g → (q : Question) → Proper (4 ^ N) q → replies A d g q ≡ answer N L A q
unfolding answer
true_reply N L A d g y (bit_of i b) p = refl
true_reply N L A d g y (sign_of i) p = refl
true_reply N L A d g y (in_desc j b) p = ap (λ (x : ℕ). bit x b) (y.descs j p)
true_reply N L A d g y (in_grand j b) p = ap (λ (x : ℕ). bit x b) (y.grands j p)

-- the answers, one at a time
answers_some : (N L : ℕ) (A : List ℤ) (n : ℕ) (s : State) (q : Question) → ask (all_of N) s ≡ some q
    → answers N L A (suc n) s ≡ answer N L A q ∷ answers N L A n (next (all_of N) s (answer N L A q))
unfolding answers
answers_some N L A n s q e = rw (e, answers)

answers_none : (N L : ℕ) (A : List ℤ) (n : ℕ) (s : State) → ask (all_of N) s ≡ none → answers N L A n s ≡ []
unfolding answers
answers_none N L A zero s e = refl
answers_none N L A (suc n) s e = rw (e, answers)

answers_zero : (N L : ℕ) (A : List ℤ) (s : State) → answers N L A 0 s ≡ []
unfolding answers
answers_zero N L A s = refl

module _ (N L P : ℕ) (A : List ℤ) (d g : List ℕ) (says : Says N L A d g) (cap : ℕ) (held : List ℕ) (room : cap ≤ 8 * length held) where
  abbrev I : ℕ
  I = 4 ^ N

  abbrev K : Source Bytes
  K = writer A d g cap

  -- so far: the bits, where they lead, that they are the first answers and which follow, and what is put
  pub record Far (s : State) (o : Bytes) : Type 0 where
    pub bits : List Bool
    pub led : Led N (begin N L P) s bits
    pub rest : (n : ℕ) → answers N L A (length bits + n) (begin N L P) ≡ bits ++ answers N L A n (settle I s)
    pub count : o.n ≡ length bits
    pub wrote : o.out ≡ packed bits ++ drop (bytes_for (length bits)) held

  more_far : (s : State) (q : Question) (o : Bytes) → Far s o → look I s ≡ asks q → Proper I q → o.n < cap
      → Far (tell I s (replies A d g q)) (bytes (with_bit o.out o.n (replies A d g q)) (o.n + 1))
  unfolding next
  more_far s q o f e p h =
      let a : Bool = replies A d g q in
      let u : List Bool = f.bits in
      let y : replies A d g q ≡ answer N L A q = true_reply N L A d g says q p in
      let l : length (u ++ a ∷ []) ≡ length u + 1 = length-append u (a ∷ []) in
      let k : (n : ℕ) → length (u ++ a ∷ []) + n ≡ length u + suc n = λ n. omega (arith, l) in
      let t : settle I s ≡ s = settle_asks I s q e in
      let r₁ : (n : ℕ) → answers N L A (suc n) (settle I s) ≡ a ∷ answers N L A n (settle I (tell I s a)) = λ n.
      ap (λ (x : State). answers N L A (suc n) x) t
      ∙ answers_some N L A n s q (asks_some I s q e)
      ∙ ap {B = List Bool} (λ (x : Bool). x ∷ answers N L A n (next I s x)) (sym y) in
      let b : bytes_for (length u + 1) ≡ bytes_for (length (u ++ a ∷ [])) = ap (λ (x : ℕ). bytes_for x) (sym l) in
      record {
        bits = u ++ a ∷ [];
        led = led_told N (begin N L P) s u q a f.led e;
        rest = λ n. ap (λ (x : ℕ). answers N L A x (begin N L P)) (k n) ∙ f.rest (suc n) ∙ ap (λ (x : List Bool). u ++ x) (r₁ n)
            ∙ sym (append_assoc u (a ∷ []) (answers N L A n (settle I (tell I s a))));
        count = omega (arith, l, f.count);
        wrote = ap (λ (x : ℕ). with_bit o.out x a) f.count ∙ ap (λ (x : List ℕ). with_bit x (length u) a) f.wrote
            ∙ put_packed u held a (omega (arith, h, f.count, room)) ∙ ap (λ (x : ℕ). packed (u ++ a ∷ []) ++ drop x held) b;
      }

  keeps : Keeps K I Far
  keeps =
      record {
        silence = λ s r o f e. record {
          bits = f.bits;
          led = led_silent N (begin N L P) s r f.bits f.led e;
          rest = λ n. f.rest n ∙ ap (λ (x : State). f.bits ++ answers N L A n x) (settle_hush I s r e);
          count = f.count;
          wrote = f.wrote;
        };
        told = λ b p i e m q o f y l x u z. more_far _ q o f y x u;
        counts = λ p b q x o. refl;
      }

  first : Far (state_at P pixels 0 (start_marks I (coarsest_of N L))) (bytes held 0)
  unfolding reach
  first =
      record {
        bits = [];
        led = led_start N (coarsest_of N L) P;
        rest = λ n. ap (λ (k : ℕ). answers N L A k (begin N L P)) {x = 0 + n} {y = n} (omega arith) ∙ ap (λ (x : State). answers N L A n x) (sym (led_start N (coarsest_of N L) P));
        count = refl;
        wrote = ap (λ (x : List ℕ). x ++ held) (sym packed_nil);
      }

  -- the bits are the stream's first ones, for a budget that is cut to the worst body
  module _ (sized : Sized N L) (planes_are : IsPlanes A P) (budget : ℕ) (cut : cap ≡ min budget (worst_body N L P)) where
    -- the cap takes no more off than the budget does
    capped : take budget (stream N L P A) ≡ take cap (stream N L P A)
    capped = go (order budget (worst_body N L P))
      where
        go : (budget ≤ worst_body N L P) ⊎ (worst_body N L P < budget) → take budget (stream N L P A) ≡ take cap (stream N L P A)
        go (inl l) = let e : budget ≡ cap = omega (arith, cut, l) in ap (λ (k : ℕ). take k (stream N L P A)) e
        go (inr l) =
            take_all budget (stream N L P A) (omega (arith, l, stream_bound N L P sized A planes_are))
            ∙ sym (take_all cap (stream N L P A) (omega (arith, cut, l, stream_bound N L P sized A planes_are)))

    taken : (u : List Bool) (s : State) → length u ≡ cap → ((n : ℕ) → answers N L A (length u + n) (begin N L P) ≡ u ++ answers N L A n s) → take budget (stream N L P A) ≡ u
    taken u s h e =
        let k : cap ≡ length u + 0 = omega (arith, h) in
        capped ∙ sym (budget_bits N L sized P A planes_are.below cap) ∙ ap (λ (x : ℕ). answers N L A x (begin N L P)) k
        ∙ e 0 ∙ ap (λ (x : List Bool). u ++ x) (answers_zero N L A s) ∙ append-nil u

    -- where nothing follows they are all
    all_taken : (u : List Bool) (s : State) → ask I s ≡ none → ((n : ℕ) → answers N L A (length u + n) (begin N L P) ≡ u ++ answers N L A n s) → stream N L P A ≡ u
    all_taken u s h e =
        let n : ℕ = length (stream N L P A) in
        sym (take_all (length u + n) (stream N L P A) (omega arith)) ∙ sym (budget_bits N L sized P A planes_are.below (length u + n))
        ∙ e n ∙ ap (λ (x : List Bool). u ++ x) (answers_none N L A n s h) ∙ append-nil u

    abbrev sent : List Bool
    sent = take budget (stream N L P A)

    put : (u : List Bool) (n : ℕ) (m o : List ℕ) → take budget (stream N L P A) ≡ u → n ≡ length u → o ≡ packed u ++ drop (bytes_for (length u)) held → (reach I (begin N L P) u).marks ≡ m
        → Put N L P A held sent n m o
    put u n m o e c w r =
        record {
          count = c ∙ ap (λ (x : List Bool). length x) (sym e);
          marked = sym r ∙ ap (λ (x : List Bool). (after N L P x).marks) (sym e);
          wrote = w ∙ ap (λ (x : List Bool). packed x ++ drop (bytes_for (length x)) held) (sym e);
        }

    abbrev E : Ran (Sv Bytes)
    E = planes (scan_of K I) P (st (start_marks I (coarsest_of N L)) held 0)

    -- THE ENCODER'S SCAN IS THE STREAM
    pub sends : least_n ≤ N → N ≤ most_n → 4 ≤ coarsest_of N L → Put N L P A held sent (last E).rest.n (last E).marks (last E).rest.out
    sends two most wide =
        go (left_of (scan_of K I) P (st (start_marks I (coarsest_of N L)) held 0)) E (scan_good K N Far keeps two most P (st (start_marks I (coarsest_of N L)) held 0)
        (record { held = first; codes = codes_first N (coarsest_of N L) two wide; cap = omega arith }))
      where
        go : (l : ℕ) (r : Ran (Sv Bytes)) → Ended K N Far l r → Put N L P A held sent (last r).rest.n (last r).marks (last r).rest.out
        go l (out now v) (dry s q o f e b c _ h _ w) =
            put f.bits o.n s.marks o.out (taken f.bits (settle I s) (omega (arith, f.count, b, c)) f.rest) f.count f.wrote
            (ap (λ (x : State). x.marks) (led_there N (begin N L P) s f.bits q f.led e))
        go l (bad v) (barred b i q m o f e li h x z) = absurd (false≢true z)
        go l (on v) (z, h) =
            let f : Far (state_at 0 pixels 0 v.marks) v.rest = h.held in
            let t : settle I (state_at 0 pixels 0 v.marks) ≡ state_at 0 pixels 0 v.marks = settle_over I (state_at 0 pixels 0 v.marks) refl in
            let w : stream N L P A ≡ f.bits =
            all_taken f.bits (state_at 0 pixels 0 v.marks) (over_none I v.marks) (λ n. f.rest n ∙ ap (λ (x : State). f.bits ++ answers N L A n x) t) in
            put f.bits v.rest.n v.marks v.rest.out (ap (λ (x : List Bool). take budget x) w ∙ take_all budget f.bits (omega (arith, f.count, h.cap, cut))) f.count f.wrote
            (ap (λ (x : State). x.marks) (led_over N (begin N L P) (state_at 0 pixels 0 v.marks) f.bits f.led refl))
