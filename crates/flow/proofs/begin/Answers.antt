-- `flow::begin` meets its contract: four zeros are four zeros. Assumes nothing.
use mathlib.Core.Path.{refl}
use Rattle.flow.specs.Flow.{begun}
use Rattle.flow.proofs.begin.Goals as goal

pub returns : goal.returns
unfolding begun
returns c = refl
