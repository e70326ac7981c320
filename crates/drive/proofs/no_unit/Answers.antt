-- `drive::no_unit` meets its contract: the record of number 0. Assumes nothing.
use Rattle.drive.specs.Calls.{no_unit}
use Rattle.drive.proofs.no_unit.Goals as goal

pub returns : goal.returns
unfolding no_unit
returns = (λ c body text. simp (c.fresh_core.ensures, c.fresh.ensures))
