-- `host::add_commands` meets its contract. The invariant: the commands so far are added, up to `at`. One more is added behind them (`one-added`),
-- or it does not fit, and then neither does the whole (`none-added`). Assumes nothing.
use Rattle.lines.specs.Lists.{commands_text}
use Rattle.host.proofs.AddLaws.{nothing-added, one-added, none-added}
use Rattle.host.proofs.add_commands.Goals as goal

pub loop-c-init : goal.loop-c-init
unfolding commands_text
loop-c-init c = nothing-added _ _ c.requires

pub returns-in_err-at : goal.returns-in_err-at
returns-in_err-at c =
    let l = c.loop-c in
    rw c.from_residual.ensures
    (none-added c.args.commands.now l.c-index _ c.loop-c-test.true l.invariant (rw c.in_err-at.was at c.write_command.ensures))

pub loop-c-preserved : goal.loop-c-preserved
loop-c-preserved c =
    let l = c.loop-c in
    one-added c.args.commands.now l.c-index _ c.loop-c-test.true l.invariant (rw c.in_ok-at.was at c.write_command.ensures)
