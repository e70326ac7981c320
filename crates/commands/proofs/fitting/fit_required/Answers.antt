-- `commands::fit_required` meets its contract: the operand is a number in its range, or it is refused. Assumes nothing.
use Rattle.commands.proofs.ReadingLaws.{not-number}
use Rattle.commands.proofs.fitting.fit_required.Goals as goal

pub returns-in_default : goal.returns-in_default
returns-in_default = (λ c l. not-number l _ c.args.operand _ c.in_default.not-Number)

pub overflow_sub-next : goal.overflow_sub-next
overflow_sub-next c = rw c.in-Number.is at c.requires

pub returns-then-is_within : goal.returns-then-is_within
returns-then-is_within = (λ c l. rw (c.in-Number.is, ← c.is_within.ensures, c.if-is_within.true))

pub returns-else-is_within : goal.returns-else-is_within
returns-else-is_within = (λ c l. rw (c.in-Number.is, ← c.is_within.ensures, c.if-is_within.false))
