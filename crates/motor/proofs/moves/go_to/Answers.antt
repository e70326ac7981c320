-- `motor::go_to` meets its contract: the place against the present one. Assumes nothing.
use borrow.Author.Tests.{lt-ltb, le-ltb, eq-eqb, ne_eqb}
use Rattle.motor.specs.Motion.{absolute}
use Rattle.motor.proofs.moves.go_to.Goals as goal

pub returns-then-n-m : goal.returns-then-n-m
unfolding absolute
returns-then-n-m c = simp (eq-eqb _ _ c.if-n-m.true)

pub returns-then-n-m-2 : goal.returns-then-n-m-2
unfolding absolute
returns-then-n-m-2 c = simp (c.go_finite.ensures, lt-ltb _ _ c.if-n-m-2.true, ne_eqb _ _ c.if-n-m.false)

pub returns : goal.returns
unfolding absolute
returns c = simp (c.go_finite-2.ensures, le-ltb _ _ c.if-n-m-2.false, ne_eqb _ _ c.if-n-m.false)
