-- `lines::stored_at` meets its contract: what is judged is the text behind the slot, with its `R`; its fault's place is told of the whole.
-- Assumes nothing.
use native.Mathlib.Omega.{arith}
use Rattle.lines.proofs.BodyLaws.{stored-taken, stored-place}
use Rattle.lines.proofs.storing.stored_at.Goals as goal

pub overflow_add-result : goal.overflow_add-result
overflow_add-result c =
    let a = c.args in
    let h = stored-place a.text.now a.at a.run (omega arith) c.judge.ensures c.in-Err.is in
    omega arith

pub returns-in-Ok : goal.returns-in-Ok
returns-in-Ok c =
    let a = c.args in
    stored-taken a.text.now a.slot a.at a.run c.judge.ensures c.in-Ok.is

pub returns-in-Err : goal.returns-in-Err
returns-in-Err c =
    let a = c.args in
    stored-taken a.text.now a.slot a.at a.run c.judge.ensures c.in-Err.is
