-- `drive::start_unit` meets its contract: program 0 is the current text. Assumes nothing.
use Rattle.drive.specs.Calls.{fresh_unit}
use Rattle.drive.proofs.starting.start_unit.Goals as goal

pub returns : goal.returns
unfolding fresh_unit
returns = (λ c body.
    rw (c.begin_on.ensures, c.slot_good.ensures, c.fresh.ensures, c.put_text.ensures, c.slot_text-program.ensures))
