-- `host::add_commands` meets its contract. The invariant: the commands so far are added, up to `at`. One more is added behind them (`one-added`),
-- or it does not fit, and then neither does the whole (`none-added`). Assumes nothing.
use Rattle.std.specs.Prelude.{Some}
use lib.ListN.{take}
use Rattle.lines.specs.Lists.{commands_text}
use Rattle.host.specs.Adding.{AddedIs}
use Rattle.host.proofs.add_commands.Given as goal

abbrev pub invariant-loop-c : goal.invariant-loop-c
invariant-loop-c l = AddedIs l.initial.line l.start (commands_text (take l.c-index l.commands)) (Some l.at) l.line
