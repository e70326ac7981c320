-- `pace::feed_stream` ends: each call leaves less of the stream.
use Rattle.std.proofs.Common.{length}
use Rattle.pace.proofs.feed_stream.Given as goal

abbrev pub decreases-loop-left : goal.decreases-loop-left
decreases-loop-left l = length l.left
