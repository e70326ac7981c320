-- `flow::begin_loop` meets its contract: the test is the definition's. Assumes nothing.
use borrow.Author.Tests.{lt-ltb, le-ltb}
use Rattle.flow.specs.Flow.{loop_begun}
use Rattle.flow.proofs.begin_loop.Goals as goal

pub returns-then-f-ge-MOST_OPEN : goal.returns-then-f-ge-MOST_OPEN
unfolding loop_begun
returns-then-f-ge-MOST_OPEN c = simp (le-ltb _ _ c.if-f-ge-MOST_OPEN.true)

pub returns : goal.returns
unfolding loop_begun
returns c = simp (lt-ltb _ _ c.if-f-ge-MOST_OPEN.false, c.put.ensures, c.put-2.ensures)
