-- `turns::answer_action` meets its contract: the test is the one of the definition. Assumes nothing.
use borrow.Author.Tests.{eq-eqb, ne_eqb}
use Rattle.turns.specs.Turns.{action_answered}
use Rattle.turns.proofs.answer_action.Goals as goal

pub returns-then-l-eq0 : goal.returns-then-l-eq0
unfolding action_answered
returns-then-l-eq0 c = simp (eq-eqb _ _ c.if-l-eq0.true)

pub returns : goal.returns
unfolding action_answered
returns c = simp (c.way.ensures, ne_eqb _ _ c.if-l-eq0.false)
