-- `obeying::order_speed` meets its contract: by the fault that an idle unit finds in the line.
-- Assumes nothing.
use mathlib.Core.Path.{sym, ◌∙◌}
use Rattle.lines.proofs.CodeLaws.{checked-ok, checked-err}
use Rattle.lines.proofs.FaultLaws.{place-most}
use Rattle.obeying.proofs.order_speed.Goals as goal

pub refuse_at-requires : goal.refuse_at-requires
refuse_at-requires c = rw (checked-err _ (sym c.check_line.ensures ∙ c.in-Err.is)).0 at (place-most c.args.body.now)

pub returns-in-Ok : goal.returns-in-Ok
returns-in-Ok c core =
    rw (checked-ok c.args.body.now (sym c.check_line.ensures ∙ c.in-Ok.is), ← c.speed_in.ensures) (c.hold.ensures core)

pub returns-in-Err : goal.returns-in-Err
returns-in-Err c core =
    let p = checked-err c.args.body.now (sym c.check_line.ensures ∙ c.in-Err.is) in
    rw (p.0, p.1) (c.refuse_at.ensures core)
