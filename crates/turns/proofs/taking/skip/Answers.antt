-- `turns::skip` meets its contract: the level is tested, then the next command is passed. Assumes nothing.
use Rattle.turns.specs.Turns.{skip_taken}
use Rattle.turns.proofs.taking.skip.Goals as goal

pub returns-then-level_there : goal.returns-then-level_there
unfolding skip_taken
returns-then-level_there c = simp (c.pass.ensures, c.if-level_there.true, ← c.level_there.ensures)

pub returns : goal.returns
unfolding skip_taken
returns c = simp (c.go_to.ensures, c.if-level_there.false, ← c.level_there.ensures)
