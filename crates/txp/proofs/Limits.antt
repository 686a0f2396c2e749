-- What a call answers, and what it leaves, does not depend on the largest N as long as its own N is no larger
-- (document 02, T-02: "Files accepted before decode as before").
use mathlib.Core.Path.{◌≡◌, refl, ap, subst}
use mathlib.Core.Bool.{Bool}
use mathlib.Core.List.{List, ◌∷◌}
use Prim.Native.Nat.{ℕ, ◌≤◌}
use native.Mathlib.Omega.{arith}
use lib.Dec.{leb}
use lib.IntN.{ℤ}
use lib.ListN.{length}
use Rattle.refusals.specs.Checks.{Check, need, first_failing, Outcome}
use Rattle.refusals.specs.declared.Refusal.TheVariants.{Side, Levels, Letters, Version, Planes}
use Rattle.refusals.proofs.Laws.{side_asks}
use Rattle.sizes.specs.Sizes.{most_n, most_planes, side_fits, levels_fit}
use Rattle.sizes.proofs.Laws.{side_fits_to, side_same}
use Rattle.room.specs.Room.{write_checks}
use Rattle.encoder.specs.Body.{Loan}
use Rattle.decoder.specs.Body.{Tables}
use Rattle.txp.specs.Header.{header_size, letters_fit, version_fits, header_of, body_of}
use Rattle.txp.specs.File.{usable_bits, ending_of}
use Rattle.txp.specs.Calls.{encode_outcome, header_checks, body_checks, decode_checks, DecodesTo, Decodes, DecodeAnswer}

-- the largest N before T-02
abbrev most_before : ℕ
most_before = 8

-- checks of an N, and what they answer where the largest N is `most`
abbrev pub outcome_to : ℕ → ℕ → List Check → Outcome
outcome_to most N checks = first_failing (side_asks (side_fits_to most N) checks)

same_outcome : (N : ℕ) (checks : List Check) (a b : ℕ) → N ≤ a → N ≤ b → outcome_to a N checks ≡ outcome_to b N checks
same_outcome N checks a b h k = ap (λ (t : Bool). first_failing (side_asks t checks)) (side_same a b N h k)

-- ---- decoding

module _ (file : List ℕ) where
  -- decoding's checks, number 1 with another limit: the others are as they are
  pub decode_checks_to : (most values precisions marks : ℕ)
      → side_asks (side_fits_to most (header_of file).n) (decode_checks file values precisions marks)
      ≡ need (letters_fit file) Letters ∷ need (version_fits file) Version ∷ need (side_fits_to most (header_of file).n) Side
      ∷ need (levels_fit (header_of file).n (header_of file).l) Levels ∷ need (leb (header_of file).p most_planes) Planes
      ∷ body_checks (header_of file) (body_of file) values precisions marks
  decode_checks_to most values precisions marks = refl

  module _ (rule : ℕ → ℕ → ℕ) (held : Tables) (answer : DecodeAnswer) (left : Tables) where
    -- what `Decodes` says, where the largest N is `most`
    abbrev pub DecodesUpTo : ℕ → Type 0
    DecodesUpTo most =
        DecodesTo (outcome_to most (header_of file).n (decode_checks file (length held.values) (length held.precisions) (length held.marks))) rule (ending_of file) (header_of file) (usable_bits file) held answer left

    -- it is `Decodes` for the limit in use
    pub up_to_most : DecodesUpTo most_n → Decodes rule file held answer left
    unfolding side_fits side_fits_to
    up_to_most d = d

    pub most_up_to : Decodes rule file held answer left → DecodesUpTo most_n
    unfolding side_fits side_fits_to
    most_up_to d = d

    -- and the same for all that admit the file's N
    pub decodes_any : (a b : ℕ) → (header_of file).n ≤ a → (header_of file).n ≤ b → DecodesUpTo a → DecodesUpTo b
    decodes_any a b h k =
        subst (λ (o : Outcome). DecodesTo o rule (ending_of file) (header_of file) (usable_bits file) held answer left)
        (same_outcome (header_of file).n (decode_checks file (length held.values) (length held.precisions) (length held.marks)) a b h k)

    -- DECODING AS BEFORE: with 8 as the largest N a file of N up to 8 is answered, and leaves, what it does now
    pub decodes_as_before : (header_of file).n ≤ most_before → (DecodesUpTo most_before → Decodes rule file held answer left) × (Decodes rule file held answer left → DecodesUpTo most_before)
    decodes_as_before h = (
      λ d. up_to_most (decodes_any most_before most_n h (omega (arith, h)) d),
      λ d. decodes_any most_n most_before (omega (arith, h)) h (most_up_to d),
    )

  -- the header by itself
  pub header_as_before : (header_of file).n ≤ most_before → outcome_to most_before (header_of file).n (header_checks file) ≡ first_failing (header_checks file)
  unfolding side_fits side_fits_to
  header_as_before h = same_outcome (header_of file).n (header_checks file) most_before most_n h (omega (arith, h))

-- ENCODING AS BEFORE: what the checks answer decides the rest (`Encodes`)
pub encodes_as_before : (N L : ℕ) (A : List ℤ) (budget : ℕ) (held : Loan) → N ≤ most_before
    → outcome_to most_before N (write_checks N L A (length held.descs) (length held.grands) (length held.marks) (length held.out) header_size budget) ≡ encode_outcome N L A budget held
unfolding side_fits side_fits_to
encodes_as_before N L A budget held h = same_outcome N (write_checks N L A (length held.descs) (length held.grands) (length held.marks) (length held.out) header_size budget) most_before most_n h (omega (arith, h))
