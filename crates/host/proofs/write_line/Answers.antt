-- `host::write_line` meets its contract: what was made is the line or passes 256 bytes, and the line check's fault is the fault of the list (`fault_is`).
-- Assumes nothing.
use Rattle.host.proofs.LineLaws.{line-passes, line-written}
use Rattle.host.proofs.write_line.Goals as goal

pub returns-in_default : goal.returns-in_default
returns-in_default c = line-passes _ _ (rw c.in_default.is at c.make_line.ensures)

pub returns : goal.returns
returns c = line-written _ _ (rw c.in-Some.is at c.make_line.ensures) c.write_checked.ensures
