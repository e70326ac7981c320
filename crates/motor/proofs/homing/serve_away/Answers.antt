-- `motor::serve_away` meets its contract: the level first, then the leg used up. Assumes nothing.
use borrow.Author.Tests.{lt-leb, le-leb}
use Rattle.motor.specs.Motion.{away_on}
use Rattle.motor.proofs.homing.serve_away.Goals as goal

pub returns-then-not-is_cut : goal.returns-then-not-is_cut
unfolding away_on
returns-then-not-is_cut c = simp (c.go_toward.ensures, c.if-not-is_cut.true, ← c.is_cut.ensures)

pub returns-then-left-steps : goal.returns-then-left-steps
unfolding away_on
returns-then-left-steps c = simp (le-leb _ _ c.if-left-steps.true, c.if-not-is_cut.false, ← c.is_cut.ensures)

pub returns : goal.returns
unfolding away_on
returns c = simp (c.wait_for.ensures, lt-leb _ _ c.if-left-steps.false, c.if-not-is_cut.false, ← c.is_cut.ensures)
