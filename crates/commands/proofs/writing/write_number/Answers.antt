-- `commands::write_number` meets its contract: eleven places hold the letter and every number behind it. Assumes nothing.
use native.Mathlib.Omega.{arith}
use Rattle.commands.proofs.MadeLaws.{lettered-written, lettered-most, lettered-room}
use Rattle.commands.proofs.writing.write_number.Goals as goal

pub returns-in_err-end : goal.returns-in_err-end
returns-in_err-end c =
    let a = c.args in
    absurd (lettered-room a.letter a.n (omega arith) c.write_number.ensures c.in_err-end.was)

pub slice_bounds-write_bytes-end : goal.slice_bounds-write_bytes-end
slice_bounds-write_bytes-end c =
    let a = c.args in
    omega (arith, lettered-most a.letter a.n (omega arith) c.write_number.ensures _ c.in_ok-end.was)

pub returns : goal.returns
returns c =
    let a = c.args in
    lettered-written a.letter a.n (omega arith) c.write_number.ensures a.buffer.now a.at _ c.in_ok-end.was c.write_bytes.ensures
