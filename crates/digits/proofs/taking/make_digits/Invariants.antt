-- `taking::make_digits` meets its contract. The invariant: the digits made, then those of what is left, are those of n.
-- Assumes nothing.
use Prim.Native.Nat.{◌-◌}
use Rattle.digits.proofs.Powers.{Making}
use Rattle.digits.proofs.taking.make_digits.Given as goal

abbrev pub invariant-loop-i : goal.invariant-loop-i
invariant-loop-i l = Making l.n l.digits l.rest l.i (l.count - l.i)
