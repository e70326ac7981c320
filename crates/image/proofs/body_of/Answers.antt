-- `image::body_of` meets its contract: the part of 256 bytes from its start.
-- Assumes nothing.
use Rattle.image.specs.Image.{slot_body}
use Rattle.image.proofs.SlotLaws.{cut}
use Rattle.image.proofs.body_of.Goals as goal

pub returns : goal.returns
unfolding slot_body
returns c = rw c.start-at.ensures (cut c.args.image.now _ _)
