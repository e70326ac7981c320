-- `drive::begin_on` meets its contract. Assumes nothing.
use Rattle.drive.proofs.starting.begin_on.Goals as goal

pub returns : goal.returns
returns c = rw (c.if-good.false, ← c.fresh_core.ensures) c.end_run.ensures

pub returns-then-good : goal.returns-then-good
returns-then-good c = rw c.if-good.true c.begin_with.ensures
