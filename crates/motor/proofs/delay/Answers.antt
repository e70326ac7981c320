-- `motor::delay` meets its contract: the test is the one of the definition. Assumes nothing.
use borrow.Author.Tests.{eq-eqb, ne_eqb}
use Rattle.motor.specs.Motion.{delayed}
use Rattle.motor.proofs.delay.Goals as goal

pub returns-then-ms-eq0 : goal.returns-then-ms-eq0
unfolding delayed
returns-then-ms-eq0 c = simp (c.wait_for.ensures, eq-eqb _ _ c.if-ms-eq0.true)

pub returns : goal.returns
unfolding delayed
returns c = simp (c.wait_for-2.ensures, ne_eqb _ _ c.if-ms-eq0.false)
