use native.Mathlib.Omega.{arith}
use Rattle.show.proofs.put_ending.Goals as goal

-- TODO
-- slice-aggregate-put-letters : tie.Need-slice-aggregate-put-letters
-- slice-aggregate-put-letters c = search rules

-- TODO
-- slice-aggregate-put-letters-2 : tie.Need-slice-aggregate-put-letters-2
-- slice-aggregate-put-letters-2 c = search rules

-- TODO
-- slice-aggregate-put-letters-3 : tie.Need-slice-aggregate-put-letters-3
-- slice-aggregate-put-letters-3 c = search rules

-- TODO
-- slice-aggregate-put-letters-4 : tie.Need-slice-aggregate-put-letters-4
-- slice-aggregate-put-letters-4 c = search rules

pub returns-in-Whole : goal.returns-in-Whole
returns-in-Whole c = rw c.in-Whole.is (c.put_letters.ensures, omega (arith, c.put_letters.ensures.ends))

pub returns-in-Budget : goal.returns-in-Budget
returns-in-Budget c = rw c.in-Budget.is (c.put_letters-in-Budget.ensures, omega (arith, c.put_letters-in-Budget.ensures.ends))

pub returns-in-Cut : goal.returns-in-Cut
returns-in-Cut c = rw c.in-Cut.is (c.put_letters-in-Cut.ensures, omega (arith, c.put_letters-in-Cut.ensures.ends))

pub returns-in-GoesOn : goal.returns-in-GoesOn
returns-in-GoesOn c = rw c.in-GoesOn.is (c.put_letters-in-GoesOn.ensures, omega (arith, c.put_letters-in-GoesOn.ensures.ends))
