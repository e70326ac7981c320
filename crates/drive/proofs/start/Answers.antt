-- `drive::start` meets its contract: the number first, then each answer of the image check. Assumes nothing.
use Rattle.drive.specs.Calls.{start_of}
use Rattle.drive.proofs.StartLaws.{by_check}
use Rattle.drive.proofs.start.Goals as goal

pub returns-then-not-is_unit : goal.returns-then-not-is_unit
unfolding start_of
returns-then-not-is_unit c = rw (← c.is_unit.ensures, c.if-not-is_unit.true)

pub returns-in-Ok : goal.returns-in-Ok
unfolding start_of
returns-in-Ok c =
    let u = c.is_unit in
    rw (← u.ensures, c.if-not-is_unit.false, ← by_check _ _ _ _, ← c.check_older.ensures, c.in-Ok.is, c.start_unit.ensures _)

pub returns-in-Err-WrongLength : goal.returns-in-Err-WrongLength
unfolding start_of
returns-in-Err-WrongLength c =
    let u = c.is_unit in
    let w = c.in-Err-WrongLength in
    rw (← u.ensures, c.if-not-is_unit.false, ← by_check _ _ _ _, ← c.check_older.ensures, w.is, w.field-0-is)

pub returns-in-Err-Bad : goal.returns-in-Err-Bad
unfolding start_of
returns-in-Err-Bad c =
    let u = c.is_unit in
    let w = c.in-Err-Bad in
    rw (← u.ensures, c.if-not-is_unit.false, ← by_check _ _ _ _, ← c.check_older.ensures, w.is, w.field-0-is)
