-- `turns::fresh_core` meets its contract: a fresh unit is made of fresh parts. Assumes nothing.
use Rattle.turns.specs.Turns.{fresh_core}
use Rattle.turns.proofs.fresh_core.Goals as goal

pub returns : goal.returns
unfolding fresh_core
returns c = simp (c.default_settings.ensures, c.fresh_motor.ensures, c.begin.ensures)
