-- `turns::go_astray` meets its contract: the run ends with the code it holds. Assumes nothing.
use Rattle.turns.specs.Turns.{astray}
use Rattle.turns.proofs.taking.go_astray.Goals as goal

pub returns : goal.returns
unfolding astray
returns c = simp c.end_run.ensures
