-- Bits read through a view (document 01, "Reading a cut stream": "The decoder reads bits through a view that carries the lent body and the number of the next bit"; document 02, T-06: "The bit view's 'no more bits' must now name which").
use mathlib.Core.{Bool.cond, List.List}
use Rattle.std.specs.Prelude.{ℕ, ◌+◌, ltb, Ok, Err}
use Rattle.std.specs.Borrow.{Bor}
use Rattle.bits.specs.{declared.Why.TheVariants.Declared, Bits.fetched, Bits.Next}
use Rattle.view.specs.declared.BitView.{BitView}

-- the bit with number `at` of a body of `declared` bits; or which end is there: "declared count reached (also where both fall at one bit), or
-- file short"
unfoldable pub viewed : List ℕ → ℕ → ℕ → Next
viewed body at declared = cond (ltb at declared) (fetched body at) (Err Declared)

-- the number of the next bit, after a read at number `at`: one more after a bit, else the same
abbrev pub next_after : Next → ℕ → ℕ
next_after (Ok x) at = at + 1
next_after (Err why) at = at

abbrev pub moved_to : List ℕ → ℕ → ℕ → ℕ
moved_to body at declared = next_after (viewed body at declared) at

-- a view of a body of `declared` bits, at the first of them
abbrev pub view_of : Bor (List ℕ) → ℕ → BitView
view_of body declared = record { body = body; at = 0; declared = declared }

-- a view moved past the bit that is next: the same body, the same count
abbrev pub past : BitView → BitView
past v = record { body = v.body; at = moved_to v.body.now v.at v.declared; declared = v.declared }
