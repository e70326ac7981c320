-- `obeying::step_size` meets its contract: 2 to the exponent, or to the last.
-- Assumes nothing.
use Rattle.obeying.proofs.SizeLaws.{step_shifted}
use Rattle.obeying.proofs.step_size.Goals as goal

pub returns : goal.returns
returns c = step_shifted _ c.min.ensures
