-- `motor::go_finite` meets its contract: the test is the one of the definition. Assumes nothing.
use borrow.Author.Tests.{lt-leb, le-leb}
use Rattle.motor.specs.Motion.{finite}
use Rattle.motor.proofs.moves.go_finite.Goals as goal

pub returns-then-n-room_of : goal.returns-then-n-room_of
unfolding finite
returns-then-n-room_of c = simp (c.wait_for.ensures, le-leb _ _ c.if-n-room_of.true, ← c.room_of.ensures)

pub returns : goal.returns
unfolding finite
returns c = simp (lt-leb _ _ c.if-n-room_of.false, ← c.room_of.ensures)
