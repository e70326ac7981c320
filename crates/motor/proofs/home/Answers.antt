-- `motor::home` meets its contract: the flag is tested at once. Assumes nothing.
-- the leg away
use Rattle.motor.specs.Motion.{homed}
use Rattle.motor.proofs.home.Goals as goal

pub returns-then-is_cut : goal.returns-then-is_cut
unfolding homed
returns-then-is_cut c = simp (c.wait_for.ensures, c.if-is_cut.true, ← c.is_cut.ensures)

pub returns : goal.returns
unfolding homed
returns c = simp (c.go_toward.ensures, c.if-is_cut.false, ← c.is_cut.ensures)
