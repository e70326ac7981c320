-- How a feed call is answered: it is taken, or why it is refused.
-- Assumes nothing.
use Rattle.std.specs.Prelude.{Result, Ok, Err, ⊤}
use Rattle.drive.specs.declared.FeedRefused.{FeedRefused}

abbrev pub FeedAnswer : Type 0
FeedAnswer = Result ⊤ FeedRefused

abbrev pub feed_ok : FeedAnswer
feed_ok = Ok tt

-- the refusals in the order of their tests
abbrev pub feed_buffer_short : FeedAnswer
feed_buffer_short = Err FeedRefused.BufferShort

abbrev pub feed_image_length : FeedAnswer
feed_image_length = Err FeedRefused.ImageLength
