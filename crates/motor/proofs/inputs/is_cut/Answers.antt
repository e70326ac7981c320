-- `motor::is_cut` meets its contract: high is cut for f0, and low for any other f. Assumes nothing.
use mathlib.Core.Path.{◌≡◌, refl}
use mathlib.Core.Bool.{Bool, true, false, cond, not, beq}
use Rattle.motor.specs.Inputs.{cut}
use Rattle.motor.proofs.inputs.is_cut.Goals as goal

same : (h f : Bool) → beq h f ≡ cond f h (not h)
same true true = refl
same true false = refl
same false true = refl
same false false = refl

pub returns : goal.returns
unfolding cut
returns c = rw c.is_high.ensures (same _ _)
