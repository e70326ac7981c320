-- `motor::serve_toward` meets its contract: the level first, then the leg used up. Assumes nothing.
use borrow.Author.Tests.{lt-leb, le-leb}
use Rattle.motor.specs.Motion.{toward_on}
use Rattle.motor.proofs.homing.serve_toward.Goals as goal

pub returns-then-is_cut : goal.returns-then-is_cut
unfolding toward_on
returns-then-is_cut c = simp (c.place_at.ensures, c.if-is_cut.true, ← c.is_cut.ensures)

pub returns-then-left-steps : goal.returns-then-left-steps
unfolding toward_on
returns-then-left-steps c = simp (le-leb _ _ c.if-left-steps.true, c.if-is_cut.false, ← c.is_cut.ensures)

pub returns : goal.returns
unfolding toward_on
returns c = simp (c.wait_for.ensures, lt-leb _ _ c.if-left-steps.false, c.if-is_cut.false, ← c.is_cut.ensures)
