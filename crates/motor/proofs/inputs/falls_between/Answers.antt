-- `motor::falls_between` meets its contract: a low input before cannot fall. Assumes nothing.
use Rattle.motor.specs.Inputs.{falls}
use Rattle.motor.proofs.inputs.falls_between.Goals as goal

pub returns-then-is_high : goal.returns-then-is_high
unfolding falls
returns-then-is_high c = simp (c.is_high-then-is_high.ensures, c.if-is_high.true, ← c.is_high.ensures)

pub returns-else-is_high : goal.returns-else-is_high
unfolding falls
returns-else-is_high c = simp (c.if-is_high.false, ← c.is_high.ensures)
