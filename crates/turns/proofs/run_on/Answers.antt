-- `turns::run_on` meets its contract: the wait says whether a command is taken. Assumes nothing.
use Rattle.turns.specs.Turns.{running}
use Rattle.turns.proofs.run_on.Goals as goal

pub returns-then-is_free : goal.returns-then-is_free
unfolding running
returns-then-is_free c = simp (c.take_next.ensures, c.if-is_free.true, ← c.is_free.ensures)

pub returns : goal.returns
unfolding running
returns c = simp (
  c.stay.ensures,
  c.move_on.ensures,
  c.serve.ensures,
  c.if-is_free.false,
  ← c.is_free.ensures,
)
