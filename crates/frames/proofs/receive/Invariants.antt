-- `frames::receive` meets its contract: what the rest of the bytes gives, past those consumed, is what the whole
-- gives (the invariant), and so after each advance. Assumes nothing.
use Prim.Native.Nat.{◌≤◌, ◌-◌}
use mathlib.Core.Path.{◌≡◌}
use lib.ListN.{length, drop}
use Rattle.frames.specs.Receive.{receiver_of, past, receive_of}
use Rattle.frames.specs.Pieces.{whole_of}
use Rattle.frames.proofs.receive.Given as goal

abbrev pub invariant-loop-i : goal.invariant-loop-i
invariant-loop-i l =
    (l.i ≤ length l.bytes)
    × (receive_of (receiver_of l.fn.p l.fn.body) l.unit l.bytes ≡ past l.i (receive_of (whole_of l.h l.body) l.unit (drop l.i l.bytes)))

abbrev pub decreases-loop-i : goal.decreases-loop-i
decreases-loop-i l = length l.bytes - l.i
