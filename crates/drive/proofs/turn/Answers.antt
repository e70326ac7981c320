-- `drive::turn` meets its contract: the turn of the core, and the text where a slot was entered. Assumes nothing.
use Rattle.std.proofs.lemmas.Result.{err_from_is_err_and}
use Rattle.drive.specs.Unit.{unit_of}
use Rattle.drive.proofs.TurnLaws.{turned}
use Rattle.drive.proofs.turn.Goals as goal

pub returns-in_err-t : goal.returns-in_err-t
returns-in_err-t c body =
    let a = c.args in
    let p = err_from_is_err_and c.from_residual.result c.from_residual.ensures.1 in
    rw (← turned (unit_of a.u body a.text.now) a.sample a.ms a.steps a.image.now, ← c.turn_core.ensures, c.in_err-t.was, p.1, p.2)

pub returns : goal.returns
returns c body =
    let a = c.args in
    rw (← turned (unit_of a.u body a.text.now) a.sample a.ms a.steps a.image.now, ← c.turn_core.ensures, c.in_ok-t.was, c.enter_text.ensures, c.answer_action.ensures)
