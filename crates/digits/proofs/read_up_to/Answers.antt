-- `digits::read_up_to` meets its contract: each way out knows what was read. Assumes nothing.
use mathlib.Core.Path.{sym, ◌∙◌}
use native.Mathlib.Omega.{arith}
use Rattle.digits.proofs.ReadBack.{number_past, limit_few, limit_many, limit_other}
use Rattle.digits.proofs.read_up_to.Goals as goal

pub returns-in_default : goal.returns-in_default
returns-in_default c = limit_other _ _ _ _ (sym c.read_operand-operand.ensures) c.in_default.not-Number

pub overflow_sub-next : goal.overflow_sub-next
overflow_sub-next c = let h = number_past _ _ _ _ (sym c.read_operand-operand.ensures ∙ c.in-Number.is) in omega arith

pub returns-then-most-next : goal.returns-then-most-next
returns-then-most-next c = limit_many _ _ _ _ _ (sym c.read_operand-operand.ensures ∙ c.in-Number.is) c.if-most-next.true

pub returns-else-most-next : goal.returns-else-most-next
returns-else-most-next c = limit_few _ _ _ _ _ (sym c.read_operand-operand.ensures ∙ c.in-Number.is) c.if-most-next.false
