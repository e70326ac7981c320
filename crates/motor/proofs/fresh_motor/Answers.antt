-- `motor::fresh_motor` meets its contract: by computing. Assumes nothing.
use mathlib.Core.Path.{refl}
use Rattle.motor.specs.Motion.{fresh_motor}
use Rattle.motor.proofs.fresh_motor.Goals as goal

pub returns : goal.returns
unfolding fresh_motor
returns c = refl
