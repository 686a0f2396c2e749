-- Laws of bits read through a view: it gives the usable bits of the body, from the first on, and then says why there are no more.
use mathlib.Core.Path.{◌≡◌, sym, ap, ◌∙◌}
use mathlib.Core.Bool.{Bool, true, false, cond, true≢false}
use mathlib.Core.List.{List, [], ◌∷◌, ◌++◌, append-nil}
use Prim.Native.Nat.{ℕ, zero, suc, ◌+◌, ◌*◌, ◌/◌, ◌≤◌, ◌<◌, min}
use native.Mathlib.Decide.{dec_lt}
use native.Mathlib.Omega.{arith}
use borrow.Author.Tests.{lt-ltb, le-ltb, lt-leb, le-leb}
use denote.Ref.{Bor}
use lib.Dec.{leb}
use lib.ListN.{length}
use lib.Seq.{append_snoc}
use Rattle.std.specs.Prelude.{Ok, Err}
use Rattle.sizes.specs.Tables.{table}
use Rattle.bits.specs.declared.Why.{Why}
use Rattle.bits.specs.declared.Why.TheVariants.{Declared, Short}
use Rattle.bits.specs.Bits.{bit_at, bits_of, Next}
use Rattle.bits.proofs.Laws.{bits_of_suc}
use Rattle.view.specs.declared.BitView.{BitView}
use Rattle.view.specs.View.{viewed, next_after, moved_to, view_of, past}

-- how many bits a view gives
abbrev pub span : List ℕ → ℕ → ℕ
span body declared = min declared (8 * length body)

abbrev is_bit : Next → Bool
is_bit (Ok x) = true
is_bit (Err why) = false

-- ---- one read

module _ (body : List ℕ) (at declared : ℕ) where
  pub viewed_bit : at < span body declared → viewed body at declared ≡ Ok (bit_at body at)
  unfolding viewed
  viewed_bit h = rw (lt-ltb at declared (omega arith), lt-ltb (at / 8) (length body) (omega arith))

  -- "declared count reached (also where both fall at one bit)"
  pub viewed_declared : declared ≤ at → viewed body at declared ≡ Err Declared
  unfolding viewed
  viewed_declared h = rw (le-ltb at declared h)

  -- "or file short"
  pub viewed_short : at < declared → 8 * length body ≤ at → viewed body at declared ≡ Err Short
  unfolding viewed
  viewed_short h l = rw (lt-ltb at declared h, le-ltb (at / 8) (length body) (omega arith))

  -- why there are no more, past the bits that a view gives
  abbrev pub why_none : Why
  why_none = cond (leb declared at) Declared Short

  pub viewed_none : span body declared ≤ at → viewed body at declared ≡ Err why_none
  viewed_none h = tell (dec_lt at declared)
    where
      tell : Dec (at < declared) → viewed body at declared ≡ Err why_none
      tell (yes l) = viewed_short l (omega arith) ∙ ap (λ (x : Bool). Err (cond x Declared Short)) (sym (lt-leb declared at l))
      tell (no l) = viewed_declared (omega arith) ∙ ap (λ (x : Bool). Err (cond x Declared Short)) (sym (le-leb declared at (omega arith)))

  pub viewed_within : (x : Bool) → viewed body at declared ≡ Ok x → at < span body declared
  viewed_within x e = tell (dec_lt at (span body declared))
    where
      tell : Dec (at < span body declared) → at < span body declared
      tell (yes l) = l
      tell (no l) = absurd (true≢false (ap is_bit (sym e ∙ viewed_none (omega arith))))

  pub viewed_past : (why : Why) → viewed body at declared ≡ Err why → span body declared ≤ at
  viewed_past why e = tell (dec_lt at (span body declared))
    where
      tell : Dec (at < span body declared) → span body declared ≤ at
      tell (yes l) = absurd (true≢false (ap is_bit (sym (viewed_bit l) ∙ e)))
      tell (no l) = omega arith

  pub moved_bit : at < span body declared → moved_to body at declared ≡ at + 1
  moved_bit h = ap (λ (n : Next). next_after n at) (viewed_bit h)

  pub moved_none : span body declared ≤ at → moved_to body at declared ≡ at
  moved_none h = ap (λ (n : Next). next_after n at) (viewed_none h)

-- ---- reads one after another

-- a read's bit before the bits of later reads
abbrev pub onto : Next → List Bool → List Bool
onto (Ok x) l = x ∷ l
onto (Err why) l = l

-- the bits that n reads give
unfoldable pub bits_read : ℕ → BitView → List Bool
bits_read zero v = []
bits_read (suc n) v = onto (viewed v.body.now v.at v.declared) (bits_read n (past v))

module _ (s : Bor (List ℕ)) (declared : ℕ) where
  abbrev all : ℕ
  all = span s.now declared

  abbrev first : ℕ → List Bool
  first k = bits_of k s.now

  abbrev from : ℕ → BitView
  from at = record { body = s; at = at; declared = declared }

  -- the bits before `at`, and what n reads from there give
  abbrev On : ℕ → ℕ → Type 0
  On n at = first at ++ bits_read n (from at) ≡ first (min (at + n) all)

  on_bit : (n at : ℕ) → at < all → On n (at + 1) → On (suc n) at
  unfolding bits_read
  on_bit n at h more =
      let one : suc at ≡ at + 1 = omega arith in
      let same : min (at + 1 + n) all ≡ min (at + suc n) all = omega arith in
      rw (viewed_bit s.now at declared h)
      (sym (append_snoc (first at) (bit_at s.now at) (bits_read n (from (at + 1))))
      ∙ ap (λ (u : List Bool). u ++ bits_read n (from (at + 1))) (sym (bits_of_suc at s.now) ∙ ap first one)
      ∙ more
      ∙ ap first same)

  on_none : (n at : ℕ) → all ≤ at → On n at → On (suc n) at
  unfolding bits_read
  on_none n at h stays =
      let same : min (at + n) all ≡ min (at + suc n) all = omega arith in
      rw (viewed_none s.now at declared h) (stays ∙ ap first same)

  on : (n at : ℕ) → at ≤ all → On n at
  unfolding bits_read
  on zero at h =
      let same : at ≡ min (at + 0) all = omega arith in
      append-nil (first at) ∙ ap first same
  on (suc n) at h = tell (dec_lt at all) (on n at h) (λ l. on n (at + 1) l)
    where
      tell : Dec (at < all) → On n at → (at + 1 ≤ all → On n (at + 1)) → On (suc n) at
      tell (yes l) stays more = on_bit n at l (more (omega arith))
      tell (no l) stays more = on_none n at (omega arith) stays

  -- n reads from the first bit on give the first n of the bits, and with n large enough all of them
  pub read_first : (n : ℕ) → bits_read n (view_of s declared) ≡ bits_of (min n (span s.now declared)) s.now
  unfolding table
  read_first n =
      let same : min (0 + n) all ≡ min n all = omega arith in
      on n 0 (omega arith) ∙ ap first same

  pub read_all : (n : ℕ) → span s.now declared ≤ n → bits_read n (view_of s declared) ≡ bits_of (span s.now declared) s.now
  read_all n h =
      let same : min n all ≡ all = omega arith in
      read_first n ∙ ap first same
