-- `ramp::greatest_under` meets its contract: v is the greatest where it fits. Else all that fit stay at or below the peak (`Above`), and a peak that does not
-- fit falls, so the loop ends at one that does. Assumes nothing.
use Rattle.ramp.proofs.Newton.{Above}
use Rattle.ramp.proofs.greatest_under.Given as goal

abbrev pub invariant-loop-peak : goal.invariant-loop-peak
invariant-loop-peak l = Above l.v l.room l.peak

abbrev pub decreases-loop-peak : goal.decreases-loop-peak
decreases-loop-peak l = l.peak
