-- `digits::read_operand` meets its contract. The invariant: going on from here gives the capped value and the end of the whole run.
-- Assumes nothing.
use native.Mathlib.Omega.{arith}
use Rattle.digits.specs.Operand.{operand_at}
use Rattle.digits.proofs.Reading.{inside, next, past-run, at_missing, at_number, at_above}
use Rattle.digits.proofs.read_operand.Goals as goal

pub loop-d-preserved : goal.loop-d-preserved
loop-d-preserved c = next _ _ _ _ _ _ c.loop-d.invariant c.in-Some.ensures.0 c.push-v.ensures

pub returns-then-i-at : goal.returns-then-i-at
unfolding operand_at
returns-then-i-at c = at_missing _ _ _ c.if-i-at.true (past-run _ _ _ _ c.loop-d.invariant c.in_default.ensures).0

pub returns-in-Ok : goal.returns-in-Ok
unfolding operand_at
returns-in-Ok c =
    let e = past-run _ _ _ _ c.loop-d.invariant c.in_default.ensures in
    rw c.in-Ok.ensures.1 (at_number _ _ _ _ c.if-i-at.false e.0 e.1 (omega (arith, c.in-Ok.ensures.0)))

pub returns-in-Err : goal.returns-in-Err
unfolding operand_at
returns-in-Err c =
    let e = past-run _ _ _ _ c.loop-d.invariant c.in_default.ensures in
    at_above _ _ _ _ c.if-i-at.false e.0 e.1 (omega (arith, c.in-Err.ensures))

pub overflow_add-i : goal.overflow_add-i
overflow_add-i c = omega (arith, inside c.args.s.now c.loop-d.i c.in-Some.d c.in-Some.ensures.0)

pub loop-d-smaller : goal.loop-d-smaller
loop-d-smaller c = omega (arith, inside c.args.s.now c.loop-d.i c.in-Some.d c.in-Some.ensures.0)
