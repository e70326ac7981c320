-- `turns::take_next` meets its contract: each arm knows what was read. Assumes nothing.
use Rattle.turns.specs.Turns.{read_taken}
use Rattle.turns.proofs.taking.take_next.Goals as goal

pub returns-in-At : goal.returns-in-At
unfolding read_taken
returns-in-At c = simp (c.take_command.ensures, c.in-At.is, ← c.read_command.ensures)

pub returns-in-Bad : goal.returns-in-Bad
unfolding read_taken
returns-in-Bad c = simp (
  c.stay.ensures,
  c.go_astray.ensures,
  c.in-Bad.is,
  ← c.read_command.ensures,
)

pub returns-in-End : goal.returns-in-End
unfolding read_taken
returns-in-End c = simp (
  c.stay-in-End.ensures,
  c.end_run.ensures,
  c.in-End.is,
  ← c.read_command.ensures,
)
