-- `digits::read_operand` meets its contract. The invariant: going on from here gives the capped value and the end of the whole run.
-- Assumes nothing.
use Prim.Native.Nat.{◌-◌}
use lib.ListN.{length}
use Rattle.digits.proofs.Reading.{Reading}
use Rattle.digits.proofs.read_operand.Given as goal

abbrev pub invariant-loop-d : goal.invariant-loop-d
invariant-loop-d l = Reading l.s l.at l.i l.v

abbrev pub decreases-loop-d : goal.decreases-loop-d
decreases-loop-d l = length l.s - l.i
