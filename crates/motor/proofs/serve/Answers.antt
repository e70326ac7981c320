-- `motor::serve` meets its contract: each arm knows its wait. Assumes nothing.
use Rattle.motor.specs.Motion.{served}
use Rattle.motor.proofs.serve.Goals as goal

pub returns-in-Nothing : goal.returns-in-Nothing
unfolding served
returns-in-Nothing c = simp c.in-Nothing.is

pub returns-then-endless : goal.returns-then-endless
unfolding served
returns-then-endless c = simp (c.serve_endless.ensures, c.if-endless.true, c.in-Move.is)

pub returns-else-endless : goal.returns-else-endless
unfolding served
returns-else-endless c = simp (c.serve_move.ensures, c.if-endless.false, c.in-Move.is)

pub returns-in-LegAway : goal.returns-in-LegAway
unfolding served
returns-in-LegAway c = simp (c.serve_away.ensures, c.in-LegAway.is)

pub returns-in-LegToward : goal.returns-in-LegToward
unfolding served
returns-in-LegToward c = simp (c.serve_toward.ensures, c.in-LegToward.is)

pub returns-in-Delay : goal.returns-in-Delay
unfolding served
returns-in-Delay c = simp (c.serve_delay.ensures, c.in-Delay.is)

pub returns-in-Input : goal.returns-in-Input
unfolding served
returns-in-Input c = simp (c.hold.ensures, c.in-Input.is)
