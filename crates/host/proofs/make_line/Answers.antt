-- `host::make_line` meets its contract: slot, commands and R are added one behind the other, or one of them does not fit. Assumes nothing.
use Rattle.lines.specs.Lists.{written_of}
use Rattle.host.proofs.AddLaws.{added-inside, added_more, added_none}
use Rattle.host.proofs.make_line.Goals as goal

pub returns-in_err-start : goal.returns-in_err-start
unfolding written_of
returns-in_err-start c = rw c.from_residual.ensures (added_none _ _ (rw c.in_err-start.was at c.add_slot.ensures))

pub add_commands-requires : goal.add_commands-requires
add_commands-requires c = added-inside (rw c.in_ok-start.was at c.add_slot.ensures)

pub returns-in_err-end : goal.returns-in_err-end
unfolding written_of
returns-in_err-end c =
    rw c.from_residual-in_err-end.ensures
    (added_more (rw c.in_ok-start.was at c.add_slot.ensures) (added_none _ _ (rw c.in_err-end.was at c.add_commands.ensures)))

pub add_run-requires : goal.add_run-requires
add_run-requires c = added-inside (rw c.in_ok-end.was at c.add_commands.ensures)

pub returns : goal.returns
unfolding written_of
returns c =
    added_more (rw c.in_ok-start.was at c.add_slot.ensures)
    (added_more (rw c.in_ok-end.was at c.add_commands.ensures) c.add_run.ensures)
