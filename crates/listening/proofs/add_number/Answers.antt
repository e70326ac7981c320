-- `listening::add_number` meets its contract: where the number fits, it stands behind the line; else the line is as it was.
-- Assumes nothing.
use native.Mathlib.Omega.{arith}
use Rattle.digits.specs.Decimal.{decimal}
use Rattle.listening.proofs.Lining.{written-added, refused-same}
use Rattle.listening.proofs.add_number.Goals as goal

pub returns-in-None : goal.returns-in-None
returns-in-None c =
    let a = c.args in
    (refused-same a.l (decimal a.n) c.write_number.ensures c.in-None.is, omega arith)

pub returns-in-Some : goal.returns-in-Some
returns-in-Some c =
    let a = c.args in
    (written-added a.l (decimal a.n) c.write_number.ensures c.in-Some.is, omega arith)
