-- `taking::count_digits` meets its contract: n has at least k digits as long as no power was above it, and no more than the first that is.
-- Assumes nothing.
use Prim.Native.Nat.{◌≤◌}
use lib.ListN.{length}
use Rattle.digits.specs.Decimal.{decimal}
use Rattle.digits.proofs.taking.count_digits.Given as goal

abbrev pub invariant-loop-k : goal.invariant-loop-k
invariant-loop-k l = l.k ≤ length (decimal l.n)
