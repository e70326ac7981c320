-- `taking::make_digits` meets its contract. The invariant: the digits made, then those of what is left, are those of n.
-- Assumes nothing.
use Prim.Native.Nat.{ℕ, suc, ◌+◌, ◌-◌, ◌<◌}
use mathlib.Core.Path.{◌≡◌}
use mathlib.Core.List.{List}
use native.Mathlib.Omega.{arith}
use Rattle.digits.proofs.Powers.{Making, making, next_power, made_more, made}
use Rattle.digits.proofs.taking.make_digits.Goals as goal

-- a digit is still to be made
more : {n : ℕ} {digits : List ℕ} {rest i count : ℕ} → Making n digits rest i (count - i) → i < count → Making n digits rest i (suc (count - 1 - i))
more {i = i} {count = count} m l = let e : count - i ≡ suc (count - 1 - i) = omega arith in rw e at m

pub loop-i-init : goal.loop-i-init
loop-i-init c = making _ _ _ (omega arith) c.told-digits (omega arith)

pub take_digit-taken-requires : goal.take_digit-taken-requires
take_digit-taken-requires c = rw c.power_of.ensures (next_power _ _ _ _ _ (more c.loop-i.invariant c.loop-i-test.true))

pub loop-i-preserved : goal.loop-i-preserved
loop-i-preserved c =
    let t = rw c.power_of.ensures at c.take_digit-taken.ensures in
    let left : c.count_digits-count.result - (c.loop-i.i + 1) ≡ c.count_digits-count.result - 1 - c.loop-i.i = omega arith in
    rw left (made_more _ _ _ _ _ _ _ (more c.loop-i.invariant c.loop-i-test.true) t.0 t.1 t.2)

pub returns : goal.returns
returns c =
    let m = c.loop-i.invariant in
    let end : c.loop-i.i ≡ c.count_digits-count.result = omega arith in
    let none : c.count_digits-count.result - c.loop-i.i ≡ 0 = omega arith in
    (omega (arith, m.place), rw (← end) (made _ _ _ _ (rw none at m)))
