-- `turns::turn_core` meets its contract: the text lent is the current one, cut to its length. Assumes nothing.
use Rattle.turns.specs.Turns.{turn_core}
use Rattle.turns.proofs.turn_core.Goals as goal

pub returns : goal.returns
unfolding turn_core
returns c = simp (c.settle.ensures, c.step.ensures, c.first.ensures)
