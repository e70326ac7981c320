-- `commands::exponent_of` meets its contract, by the laws of one bit. Assumes nothing.
use Rattle.commands.proofs.TableLaws.{bit-one, bit-other, bit-above}
use Rattle.commands.proofs.exponent_of.Goals as goal
use Rattle.commands.proofs.exponent_of.Goals.{else-n-le256-via-then-n-le256+else-n-eq1, else-n-le256-via-else-n-le256}

pub returns-then-n-eq1 : goal.returns-then-n-eq1
returns-then-n-eq1 c = bit-one _ c.if-n-le256.true c.if-n-eq1.true

pub returns-else-n-le256 : goal.returns-else-n-le256
returns-else-n-le256 c = elim c.else-n-le256.branch [
  | else-n-le256-via-then-n-le256+else-n-eq1 w ↦ bit-other _ w.if-n-le256.true w.if-n-eq1.false
  | else-n-le256-via-else-n-le256 w ↦ bit-above _ w.if-n-le256.false
]
