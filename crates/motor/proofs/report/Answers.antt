-- `motor::report` meets its contract: steps count only where the last action counts them. Assumes nothing.
use Rattle.motor.specs.Motion.{reported}
use Rattle.motor.proofs.report.Goals as goal

pub returns-then-m : goal.returns-then-m
unfolding reported
returns-then-m c = simp (c.count_steps.ensures, c.if-m.true)

pub returns-else-m : goal.returns-else-m
unfolding reported
returns-else-m c = simp c.if-m.false
