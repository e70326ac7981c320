-- `listening::unit_line` meets its contract: each piece fits behind those before it, and all of them are the line (`line-whole`).
-- Assumes nothing.
use native.Mathlib.Omega.{arith}
use Rattle.listening.proofs.Lining.{line-whole}
use Rattle.listening.proofs.unit_line.Goals as goal

pub returns : goal.returns
returns c =
    let a = c.args in
    rw (
      c.add_status.ensures,
      c.add_byte-answers.ensures,
      c.add_number-3.ensures.0,
      c.add_byte-frames.ensures,
      c.add_number-2.ensures.0,
      c.add_byte-number.ensures,
      c.add_number.ensures.0,
      c.from.ensures,
    )
    (line-whole a.unit a.r (omega arith) c.add_number-2.ensures.1 c.add_number-3.ensures.1)
