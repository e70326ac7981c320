-- `keeping::turns_do`: each command and each wait is one of the deeds. Assumes nothing.
use Rattle.keeping.proofs.TurnLaws.{step-does}
use Rattle.keeping.proofs.turns_do.Goals as goal

pub returns : goal.returns
returns c = step-does
