-- `obeying::order_of` meets its contract: each kind of body has its arm, and its arm is the definition's clause; no fault stands past the 257th byte.
-- Assumes nothing.
use mathlib.Core.Path.{sym, ◌∙◌}
use Rattle.obeying.specs.Obeying.{body_obeyed}
use Rattle.obeying.proofs.DeedLaws.{refused-place}
use Rattle.obeying.proofs.order_of.Goals as goal

pub refuse_at-requires : goal.refuse_at-requires
refuse_at-requires c = refused-place _ (sym c.body_of.ensures ∙ c.in-Err.is)

pub returns-in-Err : goal.returns-in-Err
unfolding body_obeyed
returns-in-Err c = rw (← c.body_of.ensures, c.in-Err.is) (c.refuse_at.ensures _)

pub returns-in-Ok-Empty : goal.returns-in-Ok-Empty
unfolding body_obeyed
returns-in-Ok-Empty c = rw (← c.body_of.ensures, c.in-Ok-Empty.is, c.in-Ok-Empty.field-0-is) (c.hold.ensures _)

pub returns-in-Ok-Immediate : goal.returns-in-Ok-Immediate
unfolding body_obeyed
returns-in-Ok-Immediate c = rw (← c.body_of.ensures, c.in-Ok-Immediate.is, c.in-Ok-Immediate.field-0-is) c.order_immediate.ensures

pub returns-in-Ok-Run : goal.returns-in-Ok-Run
unfolding body_obeyed
returns-in-Ok-Run c = rw (← c.body_of.ensures, c.in-Ok-Run.is, c.in-Ok-Run.field-0-is) c.order_run.ensures

pub returns-in-Ok-Again : goal.returns-in-Ok-Again
unfolding body_obeyed
returns-in-Ok-Again c = rw (← c.body_of.ensures, c.in-Ok-Again.is, c.in-Ok-Again.field-0-is) c.order_again.ensures

pub returns-in-Ok-Line : goal.returns-in-Ok-Line
unfolding body_obeyed
returns-in-Ok-Line c = rw (← c.body_of.ensures, c.in-Ok-Line.is, c.in-Ok-Line.field-0-is) c.order_line.ensures
