-- `motor::is_high` meets its contract: the bit is the one of the definition. Assumes nothing.
use Rattle.motor.specs.Inputs.{high}
use Rattle.motor.proofs.inputs.is_high.Goals as goal

pub returns : goal.returns
unfolding high
returns c = simp c.bit_of.ensures
