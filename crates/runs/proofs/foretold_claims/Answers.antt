-- `runs::foretold_claims`: by the claims of the count and of runs. Assumes nothing.
use Rattle.runs.proofs.TrueLaws.{comes_true}
use Rattle.runs.proofs.foretold_claims.Goals as goal

pub returns : goal.returns
returns c = record { comes_true = comes_true c.forecast_claims.ensures c.schedule_claims.ensures; told = c.forecast_claims.ensures }
