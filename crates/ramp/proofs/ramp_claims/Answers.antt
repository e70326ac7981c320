-- `ramp::ramp_claims` meets its contract: the claims are proved in `Claims`. Assumes nothing.
use Rattle.ramp.proofs.Claims.{ramp_claims}
use Rattle.ramp.proofs.ramp_claims.Goals as goal

pub returns : goal.returns
returns c = ramp_claims
