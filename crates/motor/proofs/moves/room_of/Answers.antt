-- `motor::room_of` meets its contract: a difference that stops at 0. Assumes nothing.
use Rattle.motor.specs.Motion.{room}
use Rattle.motor.proofs.moves.room_of.Goals as goal

pub returns-then-up : goal.returns-then-up
unfolding room
returns-then-up c = simp (c.if-up.true, c.saturating_sub.ensures)

pub returns-else-up : goal.returns-else-up
unfolding room
returns-else-up c = simp c.if-up.false
