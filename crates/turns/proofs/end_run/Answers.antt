-- `turns::end_run` meets its contract: the motor stops, and the code is held. Assumes nothing.
use Rattle.turns.specs.Turns.{ended}
use Rattle.turns.proofs.end_run.Goals as goal

pub returns : goal.returns
unfolding ended
returns c = simp c.stop-c.ensures
