-- `turns::start_run` meets its contract: the flow begins, and what a start sets is set. Assumes nothing.
use Rattle.turns.specs.Turns.{started}
use Rattle.turns.proofs.start_run.Goals as goal

pub returns : goal.returns
unfolding started
returns c = simp c.begin-c.ensures
