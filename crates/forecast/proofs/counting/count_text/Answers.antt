-- `forecast::count_text` meets its contract. The invariant: going on from here counts the whole text (`Tallying`).
-- Each command is a byte long at least, so what is left falls. Assumes nothing.
use mathlib.Core.Path.{sym, ◌∙◌}
use native.Mathlib.Omega.{arith}
use Rattle.commands.proofs.ReadingLaws.{read_step}
use Rattle.forecast.proofs.TallyLaws.{tallying, tally-on, tally-bad, tally-end}
use Rattle.forecast.proofs.counting.count_text.Goals as goal

pub loop-c-smaller : goal.loop-c-smaller
loop-c-smaller c =
    let h = read_step _ _ (sym c.read_command.ensures ∙ c.in-At.is) in
    omega arith

pub loop-c-preserved : goal.loop-c-preserved
loop-c-preserved c =
    rw c.tally_one-tally.ensures
    (tally-on c.loop-c.invariant (sym c.read_command.ensures ∙ c.in-At.is))

pub returns-in-Bad : goal.returns-in-Bad
returns-in-Bad c = tally-bad c.loop-c.invariant (sym c.read_command.ensures ∙ c.in-Bad.is)

pub returns-in-End : goal.returns-in-End
returns-in-End c =
    c.tell.ensures
    ∙ tally-end c.loop-c.invariant (sym c.read_command.ensures ∙ c.in-End.is)

pub loop-c-init : goal.loop-c-init
loop-c-init c = tallying _
