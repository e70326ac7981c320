-- `frames::look_out` meets its contract: a byte that begins no frame leaves the receiver (`skipped`), and the call goes on as from
-- the next one (the invariant). Assumes nothing.
use Prim.Native.Nat.{ℕ}
use mathlib.Core.Path.{◌≡◌}
use mathlib.Core.List.{List}
use lib.ListN.{drop}
use Rattle.frames.specs.declared.Place.{Place}
use Rattle.frames.specs.Receive.{receiver_at, past, receive_of}
use Rattle.frames.proofs.look_out.Given as goal

abbrev pub invariant-loop-k : goal.invariant-loop-k
invariant-loop-k l =
    (u : ℕ) (body : List ℕ)
    → past l.i (receive_of (receiver_at Place.Outside l.kept body) u (drop l.i l.bytes))
    ≡ past l.k (receive_of (receiver_at Place.Outside l.kept body) u (drop l.k l.bytes))
