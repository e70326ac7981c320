-- `lines::judge` meets its contract. The invariant: going on from here judges the whole text (`Judging`).
-- Each command is a byte long at least, so what is left falls. Assumes nothing.
use mathlib.Core.Path.{sym, ◌∙◌}
use native.Mathlib.Omega.{arith}
use Rattle.commands.proofs.ReadingLaws.{step_by}
use Rattle.lines.proofs.ScanLaws.{judging, judged-on, judged-bad, judged-end}
use Rattle.lines.proofs.judging.judge.Goals as goal

pub overflow_add-at : goal.overflow_add-at
overflow_add-at c = let h = step_by _ _ _ (sym c.read_by.ensures ∙ c.in-At.is) in omega arith

pub overflow_add-at-in-At : goal.overflow_add-at-in-At
overflow_add-at-in-At c = let h = step_by _ _ _ (sym c.read_by.ensures ∙ c.in-At.is) in omega arith

pub overflow_add-count : goal.overflow_add-count
overflow_add-count c =
    let h = step_by _ _ _ (sym c.read_by.ensures ∙ c.in-At.is) in
    omega (arith, c.loop-c.invariant.counted)

pub loop-c-smaller : goal.loop-c-smaller
loop-c-smaller c =
    let h = step_by _ _ _ (sym c.read_by.ensures ∙ c.in-At.is) in
    omega arith

pub loop-c-preserved : goal.loop-c-preserved
loop-c-preserved c =
    rw (c.late_of-late.ensures, c.seen-scan.ensures)
    (judged-on c.loop-c.invariant (sym c.read_by.ensures ∙ c.in-At.is))

pub returns-in-Bad : goal.returns-in-Bad
returns-in-Bad c = judged-bad c.loop-c.invariant (sym c.read_by.ensures ∙ c.in-Bad.is)

pub returns-in-End : goal.returns-in-End
returns-in-End c =
    c.verdict.ensures
    ∙ rw c.end_place.ensures
    (judged-end c.loop-c.invariant (sym c.read_by.ensures ∙ c.in-End.is))

pub loop-c-init : goal.loop-c-init
loop-c-init c = judging _ _ _ _

pub seen-scan-requires : goal.seen-scan-requires
seen-scan-requires c = omega (arith, c.loop-c.invariant.shallow)
