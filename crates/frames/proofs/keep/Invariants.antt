-- `frames::keep` meets its contract: a byte that does not leave the body is stored (`stays-kept`, `stays-full`), and the call goes on as from
-- the next one (the invariant); one that leaves it is one step of the definition (`leaves_by`). Assumes nothing.
use Prim.Native.Nat.{ℕ}
use mathlib.Core.Path.{◌≡◌}
use lib.ListN.{drop}
use Rattle.frames.specs.Receive.{receiver_at, receiver_of, past, receive_of}
use Rattle.frames.proofs.keep.Given as goal

abbrev pub invariant-loop-k : goal.invariant-loop-k
invariant-loop-k l =
    (u : ℕ)
    → past l.i (receive_of (receiver_of l.p l.initial.body) u (drop l.i l.bytes))
    ≡ past l.k (receive_of (receiver_at l.p.place l.n l.body) u (drop l.k l.bytes))
