-- The digits that are left to put stand before those that are put.
use Rattle.std.proofs.Common.{length, ◌≡◌, ◌≤◌, drop, false}
use Rattle.std.specs.Fmt.{digits_onto, digits}
use Rattle.bench.proofs.telling.put_digits.Given as goal

abbrev pub invariant-loop-at : goal.invariant-loop-at
invariant-loop-at l = (l.at ≤ 64) × (length l.out ≡ 64) × (digits_onto l.at l.base false l.left (drop l.at l.out) ≡ digits l.base false l.n)

abbrev pub decreases-loop-at : goal.decreases-loop-at
decreases-loop-at l = l.at
