-- `motor::serve_move` meets its contract: the test is the one of the definition. Assumes nothing.
use borrow.Author.Tests.{lt-leb, le-leb}
use Rattle.motor.specs.Motion.{moved_on}
use Rattle.motor.proofs.moves.serve_move.Goals as goal

pub returns-then-left-steps : goal.returns-then-left-steps
unfolding moved_on
returns-then-left-steps c = simp (c.wait_for.ensures, le-leb _ _ c.if-left-steps.true)

pub returns : goal.returns
unfolding moved_on
returns c = simp (c.wait_for-2.ensures, lt-leb _ _ c.if-left-steps.false)
