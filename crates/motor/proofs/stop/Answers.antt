-- `motor::stop` meets its contract: the position is lost where a leg was waited for. Assumes nothing.
use Rattle.motor.specs.Motion.{stopped}
use Rattle.motor.proofs.stop.Goals as goal

pub returns-then-is_leg : goal.returns-then-is_leg
unfolding stopped
returns-then-is_leg c = simp (c.if-is_leg.true, ← c.is_leg.ensures, c.wait_for-r.ensures)

pub returns-else-is_leg : goal.returns-else-is_leg
unfolding stopped
returns-else-is_leg c = simp (c.if-is_leg.false, ← c.is_leg.ensures, c.wait_for-r.ensures)
