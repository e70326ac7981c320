-- `motor::count_steps` meets its contract: what is counted is within the room. Assumes nothing.
use native.Mathlib.Omega.{arith}
use Rattle.motor.specs.Motion.{counted, room}
use Rattle.motor.proofs.count_steps.Goals as goal

pub overflow_add-result : goal.overflow_add-result
unfolding counted room
overflow_add-result c = omega (arith, simp c.if-up.true at c.room_of.ensures)

pub overflow_sub-result : goal.overflow_sub-result
unfolding counted room
overflow_sub-result c = omega (arith, simp c.if-up.false at c.room_of.ensures)

pub returns-then-up : goal.returns-then-up
unfolding counted room
returns-then-up c = simp (c.if-up.true, c.min-n.ensures, c.room_of.ensures)

pub returns-else-up : goal.returns-else-up
unfolding counted room
returns-else-up c = simp (c.if-up.false, c.min-n.ensures, c.room_of.ensures)
