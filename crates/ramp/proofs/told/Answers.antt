-- `ramp::told` meets its contract. Assumes nothing.
use lib.Ieee.{of_bits}
use Rattle.ramp.specs.Ramp.{no_figures}
use Rattle.ramp.proofs.told.Goals as goal

pub returns : goal.returns
unfolding of_bits no_figures
returns c = c.unwrap_or.ensures
