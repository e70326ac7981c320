-- `drive::begin_with` meets its contract. Assumes nothing.
use borrow.Author.Tests.{lt-ltb, le-ltb}
use Rattle.drive.proofs.starting.begin_with.Goals as goal

pub returns-then-n-gt0 : goal.returns-then-n-gt0
returns-then-n-gt0 c = rw (lt-ltb _ _ c.if-n-gt0.true, ← c.fresh_core-c.ensures) c.start_run.ensures

pub returns : goal.returns
returns c = rw (le-ltb _ _ c.if-n-gt0.false) c.fresh_core-c.ensures
