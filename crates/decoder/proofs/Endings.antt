-- Laws of why the bits ended: which word each position has (document 02, T-06).
use Prim.Native.Nat.{ℕ, zero, suc, ◌*◌, ◌≤◌, ◌<◌, min}
use mathlib.Core.Path.{◌≡◌, refl, sym, ap, subst, ◌∙◌}
use mathlib.Core.Bool.{Bool, true, false, cond, true≢false}
use mathlib.Core.Option.{none}
use mathlib.Core.List.{List}
use native.Mathlib.Decide.{dec_lt}
use native.Mathlib.Omega.{arith}
use borrow.Author.Tests.{eq-eqb, ne_eqb, eqb-true}
use lib.Dec.{eqb}
use lib.IntN.{ℤ}
use lib.ListN.{length, length-take}
use lib.Seq.{take_all}
use Rattle.std.specs.Prelude.{Ok, Err}
use Rattle.sizes.specs.Sizes.{all_of, Sized}
use Rattle.bits.specs.declared.Why.TheVariants.{Declared, Short}
use Rattle.bits.specs.Bits.{Next}
use Rattle.view.specs.View.{viewed}
use Rattle.view.proofs.Laws.{viewed_bit, viewed_declared, viewed_short}
use Rattle.nls.specs.Scan.{ask}
use Rattle.nls.specs.Stream.{stream, after}
use Rattle.nls.specs.Reading.{last_plane}
use Rattle.nls.specs.Judging.{Begins, Fits, taken, beyond, IsBeyond}
use Rattle.nls.proofs.Streams.{left_asks_none, asks_none_left, ends_left}
use Rattle.nls.proofs.Verdicts.{judged_only}
use Rattle.decoder.specs.Ending.{word_of, whole_or, ending}
use Rattle.decoder.specs.declared.ending.Ending.{Ending}
use Rattle.decoder.specs.declared.ending.Ending.TheVariants.{Whole, Budget, Cut, GoesOn}

abbrev is_whole : Ending → Bool
is_whole Whole = true
is_whole Budget = false
is_whole Cut = false
is_whole GoesOn = false

-- a plane is left: the word is not `whole`
pub unfinished : (left : ℕ) (word : Ending) → 0 < left → whole_or left word ≡ word
unfinished left word h = rw (ne_eqb left 0 (λ e. omega (arith, e, h)))

never_whole : (n : Next) → is_whole (word_of n) ≡ false
never_whole (Ok x) = refl
never_whole (Err Declared) = refl
never_whole (Err Short) = refl

module _ (declared : ℕ) (body : List ℕ) (used left : ℕ) where
  -- what the code says of the next bit is the word
  pub ending_said : (said : Ending) (n : Next) → said ≡ whole_or left (word_of n) → n ≡ viewed body used declared → said ≡ ending declared body used left
  unfolding ending
  ending_said said n e is = e ∙ ap (λ (x : Next). whole_or left (word_of x)) is

  -- `whole` exactly where no plane is left: it wins over the declared count and the bytes present
  pub ending_whole : left ≡ 0 → ending declared body used left ≡ Whole
  unfolding ending
  ending_whole e = rw (eq-eqb left 0 e)

  pub whole_ended : ending declared body used left ≡ Whole → left ≡ 0
  unfolding ending
  whole_ended e = tell (eqb left 0) refl
    where
      tell : (x : Bool) → eqb left 0 ≡ x → left ≡ 0
      tell true h = eqb-true left 0 h
      tell false h =
          absurd (true≢false (sym (ap (λ (w : Ending). is_whole w) (sym (ap (λ (x : Bool). cond x Whole (word_of (viewed body used declared))) h) ∙ e)) ∙ never_whole (viewed body used declared)))

  module _ (some : 0 < left) where
    -- "declared count reached (also where both fall at one bit)"
    pub ending_budget : declared ≤ used → ending declared body used left ≡ Budget
    unfolding ending
    ending_budget h = unfinished left (word_of (viewed body used declared)) some ∙ ap word_of (viewed_declared body used declared h)

    -- "or file short"
    pub ending_cut : used < declared → 8 * length body ≤ used → ending declared body used left ≡ Cut
    unfolding ending
    ending_cut h l = unfinished left (word_of (viewed body used declared)) some ∙ ap word_of (viewed_short body used declared h l)

    -- and where usable bits are left, they go on
    pub ending_goes_on : used < min declared (8 * length body) → ending declared body used left ≡ GoesOn
    unfolding ending
    ending_goes_on h = unfinished left (word_of (viewed body used declared)) some ∙ ap word_of (viewed_bit body used declared h)

-- ---- after bits

module _ (N L P : ℕ) (declared : ℕ) (body : List ℕ) (u : List Bool) where
  abbrev pub word_after : Ending
  word_after = ending declared body (length u) (last_plane N L P u)

  -- `whole` exactly where nothing is asked after the bits used
  pub whole_asks_none : word_after ≡ Whole → ask (all_of N) (after N L P u) ≡ none
  whole_asks_none e = left_asks_none N L P u (whole_ended declared body (length u) (last_plane N L P u) e)

  pub none_asked_whole : ask (all_of N) (after N L P u) ≡ none → word_after ≡ Whole
  none_asked_whole e = ending_whole declared body (length u) (last_plane N L P u) (asks_none_left N L P u e)

  -- and exactly where they are all bits of the stream, for any array whose stream begins with them
  module _ (z : Sized N L) (A : List ℤ) (b : Begins N L P A u) where
    all_there : Fits N L P (stream N L P A)
    all_there = (A, record { size = b.size; planes = b.planes; same = take_all (length (stream N L P A)) (stream N L P A) (omega arith) })

    -- where bits of the stream are not there a plane is left
    pub some_left : length u < length (stream N L P A) → 0 < last_plane N L P u
    some_left h = tell (last_plane N L P u) refl
      where
        over : last_plane N L P u ≡ 0 → IsBeyond N L P (stream N L P A) (length u)
        over e =
            record {
              there = h;
              before = subst (λ (v : List Bool). Fits N L P v) (sym b.same) (A, b);
              ended = ap (λ (v : List Bool). (after N L P v).left) b.same ∙ e;
            }

        tell : (l : ℕ) → last_plane N L P u ≡ l → 0 < l
        tell zero e =
            let bad : taken ≡ beyond (length u) = judged_only N L z P (stream N L P A) taken (beyond (length u)) all_there (over e) in
            let no : ◌≡◌ {A = ℕ} 0 1 = cc in
            absurd (omega (arith, no))
        tell (suc l) e = omega arith

    pub none_left : length (stream N L P A) ≤ length u → last_plane N L P u ≡ 0
    none_left h = ap (λ (v : List Bool). last_plane N L P v) (sym b.same ∙ take_all (length u) (stream N L P A) h) ∙ ends_left N L z P A b.planes.below

    pub whole_all : word_after ≡ Whole → length (stream N L P A) ≡ length u
    whole_all e = tell (dec_lt (length u) (length (stream N L P A)))
      where
        tell : Dec (length u < length (stream N L P A)) → length (stream N L P A) ≡ length u
        tell (yes h) = absurd (omega (arith, some_left h, whole_ended declared body (length u) (last_plane N L P u) e))
        tell (no h) = omega (arith, h, length-take (length u) (stream N L P A), ap (λ (v : List Bool). length v) b.same)

    pub all_whole : length (stream N L P A) ≤ length u → word_after ≡ Whole
    all_whole h = ending_whole declared body (length u) (last_plane N L P u) (none_left h)
