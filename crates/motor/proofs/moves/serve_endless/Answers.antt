-- `motor::serve_endless` meets its contract: the edge first, then the end of the range. Assumes nothing.
use borrow.Author.Tests.{eq-eqb, ne_eqb}
use Rattle.motor.specs.Motion.{endless_on}
use Rattle.motor.proofs.moves.serve_endless.Goals as goal

pub returns-then-far-eq0 : goal.returns-then-far-eq0
unfolding endless_on
returns-then-far-eq0 c =
    simp (
      eq-eqb _ _ c.if-far-eq0.true,
      ← c.room_of-far.ensures,
      c.if-falls_between.false,
      ← c.falls_between.ensures,
    )

pub returns : goal.returns
unfolding endless_on
returns c =
    simp (
      c.go_endless.ensures,
      ne_eqb _ _ c.if-far-eq0.false,
      ← c.room_of-far.ensures,
      c.if-falls_between.false,
      ← c.falls_between.ensures,
    )

pub returns-then-falls_between : goal.returns-then-falls_between
unfolding endless_on
returns-then-falls_between c = simp (c.wait_for.ensures, c.if-falls_between.true, ← c.falls_between.ensures)
