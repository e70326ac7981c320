-- `image::all_zero` meets its contract: all bytes are 0 exactly when those seen were and those left are (the invariant).
-- Assumes nothing.
use Rattle.image.proofs.SlotLaws.{zeros-more, zeros-end}
use Rattle.image.proofs.all_zero.Goals as goal

pub loop-byte-preserved : goal.loop-byte-preserved
loop-byte-preserved c = zeros-more c.args.bytes.now c.loop-byte.byte-index c.loop-byte.clean c.loop-byte.invariant c.loop-byte-test.true

pub returns : goal.returns
returns c = zeros-end c.args.bytes.now c.loop-byte.byte-index c.loop-byte.clean c.loop-byte.invariant c.loop-byte-test.false
