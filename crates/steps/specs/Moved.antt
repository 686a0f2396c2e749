-- What a step leaves, in any tables: words of inner contracts, and of the field `decided` of a step's contract, which the promise in the
-- words of decoding does not use. That they are what decoding one bit more or one bit fewer leaves is `forward_follows` and `back_follows` of
-- proofs/Demands.antt.
use mathlib.Core.{Bool.Bool, Bool.not, Bool.◌&&◌, Bool.cond, Option.Option, Option.none, Option.some, List.List}
use lib.{Dec.eqb, Dec.leb, IntN.ℤ, IntN.pos, ListN.set}
use Rattle.std.specs.Prelude.{ℕ, ◌+◌, ◌-◌, ◌*◌, ◌/◌, ◌^◌, Ok}
use Rattle.refusals.specs.declared.Refusal.TheVariants.{Contradiction, Beyond}
use Rattle.sizes.specs.Sizes.{limit, all_of, coarsest_of}
use Rattle.coef.specs.Coef.{at, magnitude, negative, signed}
use Rattle.tree.specs.Tree.{desc, grand}
use Rattle.nls.specs.{Scan.Question, Scan.bit_of, Scan.sign_of, Scan.in_desc, Scan.in_grand, Scan.Pass, Scan.pixels, Scan.sets, Scan.refining, Scan.State, Scan.ask, Reading.set_each}
use Rattle.moves.specs.Moves.{onward}
use Rattle.undo.specs.Back.{big_in, back}
use Rattle.reading.specs.Reading.{bars_zero}
use Rattle.decoder.specs.{Body.Tables, Body.tables, declared.ending.Ending.Ending, Body.ReadAnswer}
use Rattle.steps.specs.{Records.record_of, Records.Step, Records.step, Records.stays, declared.Record.Record, declared.Asked.Asked}
use Rattle.steps.specs.declared.Asked.TheVariants as asked

-- What is asked in a state: nothing, a sign, the bit of a coefficient that is not found, a refinement bit, a DESC or a GRAND.
abbrev pub kind_of : Pass → Option Question → Asked
kind_of pass none = asked.Nothing
kind_of pass (some (sign_of i)) = asked.Sign
kind_of pixels (some (bit_of i c)) = asked.Bit
kind_of sets (some (bit_of i c)) = asked.Bit
kind_of refining (some (bit_of i c)) = asked.More
kind_of pass (some (in_desc g c)) = asked.Desc
kind_of pass (some (in_grand g c)) = asked.Grand

abbrev pub asked_in : ℕ → State → Asked
asked_in I s = kind_of s.pass (ask I s)

module _ (N L : ℕ) where
  -- The precisions after the answer a at place i: those that it makes known get the number c.
  abbrev pub noted : Asked → ℕ → ℕ → Bool → List ℕ → List ℕ
  noted asked.Nothing i c a k = k
  noted asked.Sign i c a k = set k i c
  noted asked.More i c a k = set k i c
  noted asked.Bit i c a k = cond a k (set k i c)
  noted asked.Desc i c a k = cond a k (set_each (desc N L (i / 4)) c k)
  noted asked.Grand i c a k = cond a k (set_each (grand N L (i / 16)) c k)

-- A value of a sign and a magnitude. In tables that decoding left it is within the limit; in others it may not be.
abbrev pub joined_or0 : Bool → ℕ → ℤ
joined_or0 below size = cond (leb size limit) (signed below size) (pos 0)

-- a coefficient found in plane b; one with bit b more, x; and one whose last bit is taken back, so that it is known down to plane l
abbrev pub found_in : Bool → ℕ → ℤ
found_in below b = joined_or0 below (2 ^ b + 2 ^ b / 2)

abbrev pub finer : Bool → ℕ → ℤ → ℤ
finer x b z = joined_or0 (negative z) ((magnitude z + 2 ^ b / 2) - cond x 0 (2 ^ b))

abbrev pub coarser : ℕ → ℤ → ℤ
coarser l z = joined_or0 (negative z) (magnitude z / 2 ^ l * 2 ^ l + 2 ^ l / 2)

-- the values after an answer at place i in plane b; and before it, where they are known down to plane l at most
abbrev pub heard : Asked → ℕ → ℕ → Bool → List ℤ → List ℤ
heard asked.Nothing i b a v = v
heard asked.Sign i b a v = set v i (found_in a b)
heard asked.More i b a v = set v i (finer a b (at v i))
heard asked.Bit i b a v = v
heard asked.Desc i b a v = v
heard asked.Grand i b a v = v

abbrev pub unheard : Asked → ℕ → ℕ → List ℤ → List ℤ
unheard asked.Nothing i l v = v
unheard asked.Sign i l v = set v i (pos 0)
unheard asked.More i l v = set v i (coarser l (at v i))
unheard asked.Bit i l v = v
unheard asked.Desc i l v = v
unheard asked.Grand i l v = v

-- "planes finished and the worst error", where `left` planes are not finished; and the word for that position
abbrev pub reached : (ℕ → ℕ → Ending) → ℕ → ℕ → ℕ → ReadAnswer
reached word P used left = Ok (record { used = used; finished = P - left; error = 2 ^ left - 1; ending = word used left })

-- Over tables of I entries, by a record r whose state is s:
module _ (r : Record) where
  abbrev I : ℕ
  I = all_of r.n

  abbrev D : ℕ
  D = coarsest_of r.n r.l

  -- a 0 that no array fits; a sign may be either
  abbrev pub barred : State → Bool → Bool
  barred s a = not a && (not s.pending && bars_zero I D r.p s.left r.used s.place s.marks)

  -- where `word` has why the bits ended, by the bits used and the planes left
  module _ (word : ℕ → ℕ → Ending) where
    -- at a state after `used` bits
    abbrev pub moved_to : ℕ → State → List ℤ → List ℕ → Step
    moved_to used s v k = step (reached word r.p used s.left) (record_of r.n r.l r.p used s) (tables v k s.marks)

    -- the answer a taken back, which was given in the state s
    abbrev pub lowered_to : State → Bool → Tables → Step
    lowered_to s a t =
        moved_to (r.used - 1) s (unheard (asked_in I s) s.place s.left t.values) (noted r.n r.l (asked_in I s) s.place s.left a t.precisions)

    -- one bit back
    abbrev pub lowered : State → Bool → Tables → Step
    lowered s a t = lowered_to (back I D r.p (big_in t.values) s) a t

    -- the answer a in the state s
    abbrev pub raised_to : State → Bool → Tables → Step
    raised_to s a t =
        moved_to (r.used + 1) (onward I s a) (heard (asked_in I s) s.place (s.left - 1) a t.values) (noted r.n r.l (asked_in I s) s.place (s.left - 1) a t.precisions)

    -- one bit forward: refused where no plane is left, and where no array fits
    abbrev pub raised : State → Bool → Tables → Step
    raised s a t = cond (eqb s.left 0) (stays (Beyond r.used) r t) (cond (barred s a) (stays (Contradiction r.used) r t) (raised_to s a t))
