-- `host::write_checked` meets its contract: the line check's fault, or what `write_taken` answers. Assumes nothing.
use mathlib.Core.Path.{sym, ◌∙◌}
use Rattle.lines.proofs.CodeLaws.{checked-ok, checked-err}
use Rattle.host.proofs.write_checked.Goals as goal

pub returns-in-Err : goal.returns-in-Err
returns-in-Err c =
    let e = checked-err _ (sym c.check_line.ensures ∙ c.in-Err.is) in
    record { answers = rw (e.0, e.1); leaves = rw (e.0, e.1) }

pub returns-in-Ok : goal.returns-in-Ok
returns-in-Ok c =
    let e = checked-ok _ (sym c.check_line.ensures ∙ c.in-Ok.is) in
    record { answers = rw e c.write_taken.ensures.answers; leaves = rw e c.write_taken.ensures.leaves }
