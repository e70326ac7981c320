-- For the code: the receiver in pieces, as it works on it: the body lent, all else by value.
-- Assumes nothing.
use Rattle.std.specs.Prelude.{ℕ, ◌<◌, ◌≤◌, List, ◌≡◌, Bool, true, false, cond, ◌||◌, length, drop, eqb}
use Rattle.frames.specs.declared.Place.{Place}
use Rattle.frames.specs.declared.Frame.{Frame}
use Rattle.frames.specs.declared.Framing.{Framing}
use Rattle.frames.specs.declared.Head.{Head}
use Rattle.frames.specs.declared.Advanced.{Advanced}
use Rattle.parts.specs.Letters.{slash, cr, stx}
use Rattle.frames.specs.Receive.{Receiver, Received, Stepped, receiver_of, ours, placed, quiet, stored, closed_by_cr, past, receive_of}

-- what a CR completes
abbrev pub completed : Place → Frame
completed Place.Outside = Frame.Nothing
completed Place.Address = Frame.Nothing
completed Place.Alone = Frame.Alone
completed Place.Group = Frame.Group
completed Place.OemAddress = Frame.Nothing
completed (Place.OemSequence w s) = Frame.Nothing
completed (Place.OemBody w q s) = Frame.Nothing
completed (Place.OemSum w q s) = Frame.Nothing

-- it stands outside a frame
abbrev pub is_outside : Place → Bool
is_outside Place.Outside = true
is_outside Place.Address = false
is_outside Place.Alone = false
is_outside Place.Group = false
is_outside Place.OemAddress = false
is_outside (Place.OemSequence w s) = false
is_outside (Place.OemBody w q s) = false
is_outside (Place.OemSum w q s) = false

-- a byte that ends a plain body: the CR, or a new frame
abbrev pub leaves_body : ℕ → Bool
leaves_body b = eqb b cr || (eqb b stx || eqb b slash)

-- a byte in the body of a plain frame for w: a new frame, the CR, or one byte more
abbrev pub in_plain : Frame → ℕ → Receiver → Stepped
in_plain w b r =
    cond (eqb b slash) (quiet (placed Place.Address r))
    (cond (eqb b stx) (quiet (placed Place.OemAddress r)) (closed_by_cr w b r (quiet (stored b r))))

-- the receiver there, nothing completed
abbrev pub quiet_at : Place → ℕ → Head
quiet_at p n = record { progress = record { place = p; length = n }; frame = Frame.Nothing; framing = Framing.Plain }

-- put together with the body
abbrev pub whole_of : Head → List ℕ → Receiver
whole_of h body = receiver_of h.progress body

abbrev pub stepped_at : Head → List ℕ → Stepped
stepped_at h body = record { receiver = whole_of h body; frame = h.frame; framing = h.framing }

-- a feed call that ends there
abbrev pub ended_at : Advanced → List ℕ → Received
ended_at a body =
    record { receiver = whole_of a.head body; consumed = a.next; frame = a.head.frame; framing = a.head.framing }

-- the rest of a feed call from the byte at i on, where the receiver r stands there: it ends with a, or goes on from it
abbrev pub Advances : Receiver → ℕ → List ℕ → ℕ → Advanced → List ℕ → Type 0
Advances r u bytes i a body =
    (i < a.next)
    × (a.next ≤ length bytes)
    × (past i (receive_of r u (drop i bytes)) ≡ cond (ours a.head.frame) (ended_at a body)
    (past a.next (receive_of (whole_of a.head body) u (drop a.next bytes))))
