-- `turns::step` meets its contract: the report is counted before the unit runs. Assumes nothing.
-- the unit runs on with the report counted
use Rattle.turns.specs.Turns.{step_of}
use Rattle.turns.proofs.step.Goals as goal

pub returns-then-c : goal.returns-then-c
unfolding step_of
returns-then-c c = simp (c.run_on.ensures, c.if-c.true, c.set_motor-d.ensures, c.report.ensures)

pub returns : goal.returns
unfolding step_of
returns c = simp (
  c.stay.ensures,
  c.set_motor.ensures,
  c.resume.ensures,
  c.if-c.false,
  c.set_motor-d.ensures,
  c.report.ensures,
)
