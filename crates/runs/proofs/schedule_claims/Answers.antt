-- `runs::schedule_claims`: each claim is a law. Assumes nothing.
use Rattle.runs.proofs.BeginLaws.{starts, begins}
use Rattle.runs.proofs.TakenLaws.{plain-goes-on}
use Rattle.runs.proofs.RanLaws.{runs_as, counted}
use Rattle.runs.proofs.schedule_claims.Goals as goal

pub returns : goal.returns
returns c = record { starts = starts; begins = begins; runs_as = runs_as; counted = counted; plain-goes-on = plain-goes-on }
