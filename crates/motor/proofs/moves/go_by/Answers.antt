-- `motor::go_by` meets its contract: the test for 0 first. Assumes nothing.
use borrow.Author.Tests.{eq-eqb, ne_eqb}
use Rattle.motor.specs.Motion.{relative}
use Rattle.motor.proofs.moves.go_by.Goals as goal

pub returns-then-n-eq0 : goal.returns-then-n-eq0
unfolding relative
returns-then-n-eq0 c = simp (c.go_endless.ensures, c.room_of.ensures, eq-eqb _ _ c.if-n-eq0.true)

pub returns : goal.returns
unfolding relative
returns c = simp (c.go_finite.ensures, ne_eqb _ _ c.if-n-eq0.false)
