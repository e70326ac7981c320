-- `taking::count_digits` meets its contract: n has at least k digits as long as no power was above it, and no more than the first that is.
-- Assumes nothing.
use Prim.Native.Nat.{◌^◌, ◌≤◌, ◌<◌}
use native.Mathlib.Omega.{arith}
use lib.ListN.{length}
use Rattle.digits.specs.Decimal.{decimal}
use Rattle.digits.proofs.Writing.{length_some, length_most, length-least, length-ten}
use Rattle.digits.proofs.taking.count_digits.Goals as goal

pub loop-k-init : goal.loop-k-init
loop-k-init c = length_some _

pub returns-then-n-power_of : goal.returns-then-n-power_of
returns-then-n-power_of c =
    let n = c.args.n in
    let k = c.loop-k.k in
    let fits : n < 10 ^ k = omega (arith, c.power_of.ensures, c.if-n-power_of.true) in
    let l : length (decimal n) ≤ k = length_most k n (omega arith) fits in
    omega (arith, l)

pub loop-k-preserved : goal.loop-k-preserved
loop-k-preserved c =
    let n = c.args.n in
    let k = c.loop-k.k in
    omega (arith, length-least k n (omega (arith, c.power_of.ensures, c.if-n-power_of.false)))

pub returns : goal.returns
returns c = omega (arith, length-ten c.args.n (omega arith))
