-- `motor::serve_delay` meets its contract: the test is the one of the definition. Assumes nothing.
use borrow.Author.Tests.{lt-leb, le-leb}
use Rattle.motor.specs.Motion.{delay_on}
use Rattle.motor.proofs.serve_delay.Goals as goal

pub returns-then-left-ms : goal.returns-then-left-ms
unfolding delay_on
returns-then-left-ms c = simp (c.wait_for.ensures, le-leb _ _ c.if-left-ms.true)

pub returns : goal.returns
unfolding delay_on
returns c = simp (c.wait_for-2.ensures, lt-leb _ _ c.if-left-ms.false)
