-- `obeying::bodies_do`: each kind of body is one of the deeds. Assumes nothing.
use Rattle.obeying.proofs.DeedLaws.{body-does}
use Rattle.obeying.proofs.bodies_do.Goals as goal

pub returns : goal.returns
returns c = body-does
