-- `answers::look_inside` meets its contract: a slice is a packet where frame, status and data each pass their test.
-- Assumes nothing.
use native.Mathlib.Omega.{arith}
use Rattle.answers.proofs.Framing.{inside_is, no_frame, no_status, no_data}
use Rattle.answers.proofs.look_inside.Goals as goal
use Rattle.answers.proofs.look_inside.Goals.{else-good_status-via-then-good_status+else-good_data, else-good_status-via-else-good_status}

pub returns-then-good_data : goal.returns-then-good_data
returns-then-good_data c =
    inside_is
    _
    _
    c.requires
    c.if-framed.true
    c.good_status.ensures
    c.if-good_status.true
    c.good_data.ensures
    c.if-good_data.true

pub bounds-packet-2 : goal.bounds-packet-2
bounds-packet-2 c = omega (arith, c.requires.head, c.requires.whole c.if-framed.true)

pub overflow_sub-n : goal.overflow_sub-n
overflow_sub-n c = omega (arith, c.requires.whole c.if-framed.true)

pub slice_bounds-good_data-end : goal.slice_bounds-good_data-end
slice_bounds-good_data-end c = omega (arith, c.requires.head, c.requires.whole c.if-framed.true)

pub returns-else-good_status : goal.returns-else-good_status
returns-else-good_status c =
    elim c.else-good_status.branch [
      | else-good_status-via-then-good_status+else-good_data w ↦ no_data _ _ _ w.good_data.ensures w.if-good_data.false
      | else-good_status-via-else-good_status w ↦ no_status _ _ _ c.good_status.ensures w.if-good_status.false
    ]

pub returns-else-framed : goal.returns-else-framed
returns-else-framed c = no_frame _ _ c.if-framed.false
