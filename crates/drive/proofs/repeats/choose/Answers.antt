-- `drive::choose` meets its contract: the same tests as the definition's. Assumes nothing.
use Rattle.drive.specs.Repeats.{chosen}
use Rattle.drive.proofs.repeats.choose.Goals as goal
use Rattle.drive.proofs.repeats.choose.Goals.{else-is_repeat-via-then-is_repeat+else-not-is_query, else-is_repeat-via-else-is_repeat}

pub returns-then-not-is_query : goal.returns-then-not-is_query
unfolding chosen
returns-then-not-is_query c =
    let query = c.is_query in
    rw (c.first.ensures, ← c.is_repeat.ensures, c.if-is_repeat.true, ← query.ensures, c.if-not-is_query.true)

pub returns : goal.returns
unfolding chosen
returns c =
    elim c.else-is_repeat.branch [
      | else-is_repeat-via-then-is_repeat+else-not-is_query w ↦
          let query = w.is_query in rw (← c.is_repeat.ensures, w.if-is_repeat.true, ← query.ensures, w.if-not-is_query.false)
      | else-is_repeat-via-else-is_repeat w ↦ rw (← c.is_repeat.ensures, w.if-is_repeat.false)
    ]
