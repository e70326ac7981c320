-- `image::entry_of` meets its contract: the part of four bytes at its place.
-- Assumes nothing.
use Rattle.image.specs.Image.{entry_of}
use Rattle.image.proofs.SlotLaws.{cut}
use Rattle.image.proofs.entry_of.Goals as goal

pub returns : goal.returns
unfolding entry_of
returns c = rw c.entry_place-at.ensures (cut c.args.image.now _ _)
