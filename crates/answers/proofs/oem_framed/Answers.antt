-- `answers::oem_framed` meets its contract: where all bytes of the frame but the last are right, the last tells (`by_sum`); else the slice is
-- none (`not_oem_framed`). Assumes nothing.
use Rattle.std.proofs.Common.{arith}
use Rattle.answers.proofs.OemLaws.{by_sum, not_oem_framed}
use Rattle.answers.proofs.oem_framed.Goals as goal

pub returns : goal.returns
returns c = by_sum _ (omega arith) (omega arith) (omega arith) (omega arith) c.sum.ensures

pub returns-in_default : goal.returns-in_default
returns-in_default c = not_oem_framed _ (λ a b d e. omega arith)

pub returns-in_default-2 : goal.returns-in_default-2
returns-in_default-2 c = not_oem_framed _ (λ a b d e. omega arith)

pub returns-in_default-3 : goal.returns-in_default-3
returns-in_default-3 c = not_oem_framed _ (λ a b d e. omega arith)

pub returns-in_default-4 : goal.returns-in_default-4
returns-in_default-4 c = not_oem_framed _ (λ a b d e. omega arith)
