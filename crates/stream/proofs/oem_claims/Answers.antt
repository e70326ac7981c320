-- What 02 says of OEM frames holds: each statement is a law of `proofs/`.
-- Assumes nothing.
use Rattle.stream.proofs.OemLaws.{skips, goes_on, repeats_tell, same_deed, numbers, none_at_start, plain-leaves, turn-leaves}
use Rattle.stream.proofs.oem_claims.Goals as goal

pub returns : goal.returns
returns c = record { skips = skips; goes_on = goes_on; repeats = repeats_tell; same_deed = same_deed; numbers = numbers; none_at_start = none_at_start; plain-leaves = plain-leaves; turn-leaves = turn-leaves }
