-- `frames::take` meets its contract: in each place what a byte makes of it is the definition's, whatever unit number it was asked with.
-- Assumes nothing.
use Rattle.frames.proofs.take.Goals as goal

pub returns-in-OemSequence : goal.returns-in-OemSequence
returns-in-OemSequence c = simp c.in-OemSequence.is (c.in_oem_sequence.ensures 0 _)

pub returns-in-OemBody : goal.returns-in-OemBody
returns-in-OemBody c = simp c.in-OemBody.is (c.in_oem_body.ensures 0)

pub returns-in-OemSum : goal.returns-in-OemSum
returns-in-OemSum c = simp c.in-OemSum.is (c.in_oem_sum.ensures 0 _)
