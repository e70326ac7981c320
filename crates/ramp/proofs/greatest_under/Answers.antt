-- `ramp::greatest_under` meets its contract: v is the greatest where it fits. Else all that fit stay at or below the peak (`Above`), and a peak that does not
-- fit falls, so the loop ends at one that does. Assumes nothing.
use native.Mathlib.Nat.{mul-le-mul_left}
use native.Mathlib.Omega.{arith}
use mathlib.Core.Path.{sym}
use mir.Facts.{Fits-le, Fits-lit}
use Rattle.ramp.proofs.Peak.{square_le, whole}
use Rattle.ramp.proofs.Newton.{begun, some, falls, lowered, ended}
use Rattle.ramp.proofs.greatest_under.Goals as goal

pub overflow_mul-v : goal.overflow_mul-v
overflow_mul-v c = Fits-le (square_le c.requires) (Fits-lit tt)

pub overflow_mul-v-2 : goal.overflow_mul-v-2
overflow_mul-v-2 c = Fits-le (mul-le-mul_left 2 (square_le c.requires)) (Fits-lit tt)

pub returns-then-v-room : goal.returns-then-v-room
returns-then-v-room c = sym (whole c.if-v-room.true)

pub loop-peak-init : goal.loop-peak-init
loop-peak-init c = rw (c.min-peak.ensures, c.step.ensures) (begun _ c.guess.ensures.0)

pub overflow_mul-peak : goal.overflow_mul-peak
overflow_mul-peak c = Fits-le (square_le (omega arith)) (Fits-lit tt)

pub overflow_mul-peak-in-loop-peak : goal.overflow_mul-peak-in-loop-peak
overflow_mul-peak-in-loop-peak c = Fits-le (mul-le-mul_left 2 (square_le (omega arith))) (Fits-lit tt)

pub step-peak-requires : goal.step-peak-requires
step-peak-requires c = (some c.loop-peak-test.true, omega arith, omega arith)

pub loop-peak-smaller : goal.loop-peak-smaller
loop-peak-smaller c = rw c.step-peak.ensures (falls c.loop-peak-test.true)

pub loop-peak-preserved : goal.loop-peak-preserved
loop-peak-preserved c = rw c.step-peak.ensures (lowered c.loop-peak-test.true c.loop-peak.invariant)

pub returns : goal.returns
returns c = ended c.loop-peak.invariant c.loop-peak-test.false
