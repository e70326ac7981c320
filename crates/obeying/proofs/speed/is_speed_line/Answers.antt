-- `obeying::is_speed_line` meets its contract: the same tests as the definition's. Assumes nothing.
use native.Mathlib.Omega.{arith}
use Rattle.obeying.proofs.SpeedLaws.{by_operand, short-line, other_letter, other_end}
use Rattle.obeying.proofs.speed.is_speed_line.Goals as goal

pub returns-in-86 : goal.returns-in-86
returns-in-86 c = by_operand c.args.body.now (omega arith) (omega arith) c.read_operand.ensures c.operand_end.ensures

pub returns-in_default : goal.returns-in_default
returns-in_default c = short-line _ (omega arith)

pub returns-in_default-2 : goal.returns-in_default-2
returns-in_default-2 c = other_end c.args.body.now (λ h. omega arith)

pub returns-in_default-3 : goal.returns-in_default-3
returns-in_default-3 c = other_letter c.args.body.now (λ h. omega arith)
