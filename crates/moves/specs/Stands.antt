-- Where the scan stands, as code has it: a state of crate nls without its marks, which are lent.
use Rattle.std.specs.Prelude.{ℕ, eqb}
use mathlib.Core.{Bool.Bool, Bool.cond, List.List}
use Rattle.nls.specs.Scan.{Pass, pixels, sets, refining, State}
use Rattle.moves.specs.declared.Stand.{Stand}

-- the passes by number: 0, 1 and 2
unfoldable pub pass_of : ℕ → Pass
pass_of n = cond (eqb n 0) pixels (cond (eqb n 1) sets refining)

abbrev pub pass_number : Pass → ℕ
pass_number pixels = 0
pass_number sets = 1
pass_number refining = 2

abbrev pub stand : ℕ → ℕ → ℕ → Bool → Stand
stand left pass place pending = record { left = left; pass = pass; place = place; pending = pending }

abbrev pub state_of : Stand → List ℕ → State
state_of t m = record { left = t.left; pass = pass_of t.pass; place = t.place; pending = t.pending; marks = m }

abbrev pub stand_of : State → Stand
stand_of s = stand s.left (pass_number s.pass) s.place s.pending
