-- `motor::hold` meets its contract: the level is tested at once. Assumes nothing.
use Rattle.motor.specs.Motion.{held}
use Rattle.motor.proofs.hold.Goals as goal

pub returns-then-level_there : goal.returns-then-level_there
unfolding held
returns-then-level_there c = simp (c.wait_for.ensures, c.if-level_there.true, ← c.level_there.ensures)

pub returns : goal.returns
unfolding held
returns c = simp (c.wait_for-2.ensures, c.if-level_there.false, ← c.level_there.ensures)
