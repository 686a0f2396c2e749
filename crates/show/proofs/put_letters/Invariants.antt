use Prim.Native.Nat.{◌+◌}
use lib.ListN.{drop}
use Rattle.show.proofs.Puts.{Leaves}
use Rattle.show.proofs.put_letters.Given as goal

-- the letters from the i-th on are left
abbrev pub invariant-loop-i : goal.invariant-loop-i
invariant-loop-i l = Leaves l.initial.out l.at l.word l.out (l.at + l.i) (drop l.i l.word)
