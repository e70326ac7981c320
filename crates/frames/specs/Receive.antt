-- The receiver: what it makes of a byte, and of the bytes of a feed call. 01, "Frames"; 02, E1.
-- Assumes nothing.
use Rattle.std.specs.Prelude.{ℕ, ◌+◌, List, [], ◌∷◌, Bool, true, false, cond, ◌&&◌, set, take, ltb, leb, eqb}
use Rattle.parts.specs.Parts.{most_bytes}
use Rattle.parts.specs.Letters.{slash, cr, stx, etx}
use Rattle.checksum.specs.Checksum.{xor}
use Rattle.frames.specs.declared.Place.{Place}
use Rattle.frames.specs.declared.Frame.{Frame}
use Rattle.frames.specs.declared.Framing.{Framing}
use Rattle.frames.specs.declared.Progress.{Progress}
use Rattle.frames.specs.declared.Heard.{Heard}
use Rattle.frames.specs.Addresses.{called_of}

-- "The body has 0 to 256 bytes": one byte more is kept, so that a longer one is seen to be over-long
abbrev pub most_kept : ℕ
most_kept = most_bytes + 1

-- for this unit or its groups: "A group frame is obeyed and never answered"
abbrev pub ours : Frame → Bool
ours Frame.Nothing = false
ours Frame.Alone = true
ours Frame.Group = true

-- the receiver: where it stands, how many bytes of a body it keeps, and the bytes, with what earlier frames left behind them
pub record Receiver : Type 0 where
  pub place : Place
  pub length : ℕ
  pub body : List ℕ

abbrev pub receiver_at : Place → ℕ → List ℕ → Receiver
receiver_at p n body = record { place = p; length = n; body = body }

-- the body that it keeps
abbrev pub body_in : Receiver → List ℕ
body_in r = take r.length r.body

-- what a feed call makes of the receiver, how many bytes it consumed, and what they completed, in which framing
pub record Received : Type 0 where
  pub receiver : Receiver
  pub consumed : ℕ
  pub frame : Frame
  pub framing : Framing

-- a call works on the small part of a receiver by value, and on the body where it lies
abbrev pub receiver_of : Progress → List ℕ → Receiver
receiver_of p body = receiver_at p.place p.length body

abbrev pub heard_with : Heard → List ℕ → Received
heard_with h body =
    record { receiver = receiver_of h.progress body; consumed = h.consumed; frame = h.frame; framing = h.framing }

-- it has seen nothing
abbrev pub fresh_progress : Progress
fresh_progress = record { place = Place.Outside; length = 0 }

-- the receiver at another place, all else as it was
abbrev pub placed : Place → Receiver → Receiver
placed p r = receiver_at p r.length r.body

-- what a byte makes of the receiver, what it completes, and in which framing: the plain one where nothing is completed
pub record Stepped : Type 0 where
  pub receiver : Receiver
  pub frame : Frame
  pub framing : Framing

-- nothing is completed
abbrev pub quiet : Receiver → Stepped
quiet r = record { receiver = r; frame = Frame.Nothing; framing = Framing.Plain }

-- a frame is complete: for others that is nothing
abbrev pub finished : Frame → Framing → Receiver → Stepped
finished Frame.Nothing g r = quiet r
finished Frame.Alone g r = record { receiver = r; frame = Frame.Alone; framing = g }
finished Frame.Group g r = record { receiver = r; frame = Frame.Group; framing = g }

-- after an address byte: the body of a frame for this unit or its groups begins; a frame for others is not looked at
abbrev pub begun_plain : Frame → Receiver → Receiver
begun_plain Frame.Nothing r = placed Place.Outside r
begun_plain Frame.Alone r = receiver_at Place.Alone 0 r.body
begun_plain Frame.Group r = receiver_at Place.Group 0 r.body

-- one body byte more; a byte past the most that is kept is not
unfoldable pub stored : ℕ → Receiver → Receiver
stored b r = cond (ltb r.length most_kept) (receiver_at r.place (r.length + 1) (set r.body r.length b)) r

-- in a frame of the plain framing: a CR ends it, another byte does not
abbrev pub closed_by_cr : Frame → ℕ → Receiver → Stepped → Stepped
closed_by_cr w b r other = cond (eqb b cr) (finished w Framing.Plain (placed Place.Outside r)) other

-- in one of the OEM framing: "03 as address or sequence byte drops the frame"
abbrev pub unless03 : ℕ → Receiver → Receiver → Stepped
unless03 b r next = quiet (cond (eqb b etx) (placed Place.Outside r) next)

-- "a sequence byte outside 30 to 3F": the frame is followed to its checksum as one for others is
abbrev pub good : ℕ → Bool
good q = leb 0x30 q && leb q 0x3F

unfoldable pub heard : Frame → ℕ → Frame
heard w q = cond (good q) w Frame.Nothing

-- after the sequence byte: the body of a frame for this unit or its groups begins; of one for others only the place is kept
abbrev pub begun_oem : Frame → ℕ → ℕ → Receiver → Receiver
begun_oem w q s r = receiver_at (Place.OemBody w q s) (cond (ours w) 0 r.length) r.body

-- one body byte more, of a frame for this unit or its groups
abbrev pub stored_for : Frame → ℕ → Receiver → Receiver
stored_for w b r = cond (ours w) (stored b r) r

-- any other byte: "Bytes outside a frame, LF included, are skipped"; "a CR in the address place ends the frame with no effect"
abbrev pub other_byte : Place → ℕ → ℕ → Receiver → Stepped
other_byte Place.Outside u b r = quiet r
other_byte Place.Address u b r = closed_by_cr Frame.Nothing b r (quiet (begun_plain (called_of u b) r))
other_byte Place.Alone u b r = closed_by_cr Frame.Alone b r (quiet (stored b r))
other_byte Place.Group u b r = closed_by_cr Frame.Group b r (quiet (stored b r))
other_byte Place.OemAddress u b r = unless03 b r (placed (Place.OemSequence (called_of u b) (xor stx b)) r)
other_byte (Place.OemSequence w s) u b r = unless03 b r (begun_oem (heard w b) b (xor s b) r)
other_byte (Place.OemBody w q s) u b r =
    quiet (cond (eqb b etx) (placed (Place.OemSum w q (xor s b)) r) (stored_for w b (placed (Place.OemBody w q (xor s b)) r)))
-- "a wrong checksum .. makes the feed skip the frame"
other_byte (Place.OemSum w q s) u b r =
    cond (eqb b s) (finished w (Framing.Oem q) (placed Place.Outside r)) (quiet (placed Place.Outside r))

-- "02 or `/` begins a new frame everywhere but in the checksum place"
abbrev pub elsewhere : Place → Bool
elsewhere Place.Outside = true
elsewhere Place.Address = true
elsewhere Place.Alone = true
elsewhere Place.Group = true
elsewhere Place.OemAddress = true
elsewhere (Place.OemSequence w s) = true
elsewhere (Place.OemBody w q s) = true
elsewhere (Place.OemSum w q s) = false

abbrev pub begins : ℕ → Place → ℕ → Bool
begins x p b = eqb b x && elsewhere p

-- one byte: a new frame "drops an unfinished one"
unfoldable pub byte_received : Receiver → ℕ → ℕ → Stepped
byte_received r u b =
    cond (begins slash r.place b) (quiet (placed Place.Address r))
    (cond (begins stx r.place b) (quiet (placed Place.OemAddress r))
    (other_byte r.place u b r))

-- an answer with k bytes consumed before it
abbrev pub past : ℕ → Received → Received
past k f = record { receiver = f.receiver; consumed = k + f.consumed; frame = f.frame; framing = f.framing }

-- "consumes up to and with the CR", or the checksum, "of the first frame for this unit or its groups": the call ends at this byte, or goes on
abbrev pub ended_here : Stepped → Received
ended_here s = record { receiver = s.receiver; consumed = 1; frame = s.frame; framing = s.framing }

abbrev pub onward : Stepped → Received → Received
onward s rest = cond (ours s.frame) (ended_here s) (past 1 rest)

-- a feed call, one step a byte: "else all it was given, and reports how many bytes that was"
unfoldable pub receive_of : Receiver → ℕ → List ℕ → Received
receive_of r u [] = record { receiver = r; consumed = 0; frame = Frame.Nothing; framing = Framing.Plain }
receive_of r u (b ∷ bs) = onward (byte_received r u b) (receive_of (byte_received r u b).receiver u bs)
