-- `answers::tell` meets its contract: what stands within the packet, taken apart, is what the host is told.
-- Assumes nothing.
use Rattle.answers.specs.Reading.{told_of}
use Rattle.answers.proofs.tell.Goals as goal

pub returns-in_default : goal.returns-in_default
unfolding told_of
returns-in_default c = rw c.in_default.is

pub returns : goal.returns
unfolding told_of
returns c = rw c.in-Some.is
