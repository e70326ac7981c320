-- `turns::jump` meets its contract: a slot with a text is good, one without may be. Assumes nothing.
use mathlib.Core.Path.{◌≡◌}
use native.Mathlib.Omega.{arith}
use lib.ListN.{length}
use Rattle.image.proofs.HeldLaws.{text-there}
use Rattle.turns.specs.Turns.{jumped}
use Rattle.turns.proofs.taking.jump.Goals as goal

pub returns-then-n-gt0 : goal.returns-then-n-gt0
unfolding jumped
returns-then-n-gt0 c =
    let a = c.args in
    let t = c.slot_text-n.ensures in
    rw (text-there a.image.now a.slot (rw (← t) c.if-n-gt0.true), ← t) c.go_into.ensures

pub returns-then-slot_good : goal.returns-then-slot_good
unfolding jumped
returns-then-slot_good c =
    let t = c.slot_text-n.ensures in
    let h = c.if-n-gt0.false in
    let none : length c.slot_text-n.result.now ≡ 0 = omega arith in
    rw (← c.slot_good.ensures, c.if-slot_good.true, ← t, none) c.go_into-then-slot_good.ensures

pub returns : goal.returns
unfolding jumped
returns c = simp (c.stay.ensures, c.end_run.ensures, c.if-slot_good.false, ← c.slot_good.ensures)
