-- `host::add_run` meets its contract: `write_byte` writes the R or refuses, and without R nothing is added. Assumes nothing.
use Rattle.host.proofs.AddLaws.{run-added, no_run-added}
use Rattle.host.proofs.add_run.Goals as goal

pub returns-then-run : goal.returns-then-run
returns-then-run c = run-added c.if-run.true c.write_byte.ensures

pub returns-else-run : goal.returns-else-run
returns-else-run c = no_run-added _ _ c.if-run.false c.requires
