-- The calls that firmware makes: start, feed, turn. 01, "Frames", "What comes back", "Image of the programs", "A turn"; 02, E1 and E9.
-- Assumes nothing.
use Rattle.std.specs.Prelude.{ℕ, List, [], Bool, true, false, cond, not, length, ltb, Option, None}
use Rattle.parts.specs.Parts.{put_in, padded_text}
use Rattle.image.specs.Image.{right_length, slots, slot_good, slots_older, slot_text}
use Rattle.frames.specs.declared.Frame.{Frame}
use Rattle.frames.specs.declared.Framing.{Framing}
use Rattle.frames.specs.Addresses.{is_unit}
use Rattle.frames.specs.Receive.{Receiver, Received, receiver_of, fresh_progress, body_in, receive_of}
use Rattle.turns.specs.declared.Core.{Core}
use Rattle.turns.specs.declared.Action.{Action}
use Rattle.turns.specs.declared.Direction.{Direction}
use Rattle.turns.specs.declared.Stepped.{Stepped}
use Rattle.turns.specs.Turns.{fresh_core, started, ended, slot_broken, turn_core, text_after, action_answered}
use Rattle.answers.specs.Packet.{packet, packet_bytes, status_of}
use Rattle.answers.specs.Oem.{oem_packet}
use Rattle.obeying.specs.declared.Obeyed.{Obeyed}
use Rattle.obeying.specs.Obeying.{data_of, nothing_obeyed, body_obeyed, text_written, image_written}
use Rattle.drive.specs.StartAnswer
use Rattle.drive.specs.StartAnswer.{StartAnswer}
use Rattle.drive.specs.FeedAnswer
use Rattle.drive.specs.FeedAnswer.{FeedAnswer}
use Rattle.drive.specs.TurnAnswer
use Rattle.drive.specs.TurnAnswer.{TurnAnswer}
use Rattle.drive.specs.Unit.{Drive, drive}
use Rattle.drive.specs.Repeats.{chosen, last_after}

-- ---- start

-- what a start answers, and the unit, in which the texts are as it leaves them
pub record Starting : Type 0 where
  pub answer : StartAnswer
  pub unit : Drive

abbrev pub starting : StartAnswer → Drive → Starting
starting a u = record { answer = a; unit = u }

abbrev pub fresh_receiver : List ℕ → Receiver
fresh_receiver body = receiver_of fresh_progress body

-- "At start a non-empty program 0 becomes the current text and runs; else the current text is empty."
abbrev pub begun_with : ℕ → Core
begun_with n = cond (ltb 0 n) (started n fresh_core) fresh_core

-- 02, E9: a program stored earlier with an operand of more than ten digits counts as bad, so it has no text, and "as program 0
-- leaves it idle, the current text empty, holding 1"
abbrev pub begun_on : Bool → ℕ → Core
begun_on true n = begun_with n
begun_on false n = ended slot_broken fresh_core

unfoldable pub fresh_unit : ℕ → List ℕ → List ℕ → Drive
fresh_unit number image body =
    drive number (fresh_receiver body) (padded_text (slot_text image 0)) (begun_on (slot_good image 0) (length (slot_text image 0))) None

-- "no unit": the record of number 0, which no address calls, idle; the texts are as they were lent
unfoldable pub no_unit : List ℕ → List ℕ → Drive
no_unit body text = drive 0 (fresh_receiver body) text fresh_core None

-- "at start: unit number not 1 to 16, then image not 4,160 bytes, then bad image"; 02, E9: a program stored earlier with an operand
-- of more than ten digits "at start .. does not refuse the unit"
unfoldable pub start_of : ℕ → List ℕ → List ℕ → List ℕ → Starting
start_of number image body text =
    cond (is_unit number)
    (cond (right_length image)
    (cond (slots_older image slots) (starting StartAnswer.start_ok (fresh_unit number image body)) (starting StartAnswer.start_image_bad (no_unit body text)))
    (starting StartAnswer.start_image_length (no_unit body text)))
    (starting StartAnswer.start_unit_number (no_unit body text))

-- ---- feed

-- what a feed call answers, and the unit, the image and the buffer that it leaves
pub record Feeding : Type 0 where
  pub answer : FeedAnswer
  pub unit : Drive
  pub consumed : ℕ
  -- bytes of the answer at the front of the buffer, 0 where there is none
  pub answered : ℕ
  pub image : List ℕ
  pub buffer : List ℕ

-- "named refusal, 0 consumed, nothing changed"
abbrev pub feed_refused : FeedAnswer → Drive → List ℕ → List ℕ → Feeding
feed_refused a u image buffer = record { answer = a; unit = u; consumed = 0; answered = 0; image = image; buffer = buffer }

abbrev pub received_by : Drive → List ℕ → Received
received_by u bytes = receive_of u.receiver u.number bytes

-- the body of a completed frame, obeyed
abbrev pub frame_obeyed : Frame → List ℕ → Core → Obeyed
frame_obeyed Frame.Nothing body c = nothing_obeyed c
frame_obeyed Frame.Alone body c = body_obeyed body c
frame_obeyed Frame.Group body c = body_obeyed body c

-- the body that is obeyed: a repeat chooses it
abbrev pub body_for : Option ℕ → Received → List ℕ
body_for last r = chosen last r.framing (body_in r.receiver)

abbrev pub received_obeyed : Option ℕ → Received → Core → Obeyed
received_obeyed last r c = frame_obeyed r.frame (body_for last r) c

abbrev pub body_by : Drive → List ℕ → List ℕ
body_by u bytes = body_for u.last (received_by u bytes)

abbrev pub obeyed_by : Drive → List ℕ → Obeyed
obeyed_by u bytes = received_obeyed u.last (received_by u bytes) u.core

-- the text that it leaves
abbrev pub text_then : List ℕ → Obeyed → List ℕ → List ℕ
text_then body o text = text_written o.write body text

-- the packet of each framing
abbrev pub packet_as : Framing → ℕ → List ℕ → List ℕ
packet_as Framing.Plain status bytes = packet status bytes
packet_as (Framing.Oem q) status bytes = oem_packet status bytes

-- the packet that answers a frame, in its framing, obeyed with that text left
unfoldable pub answer_to : Framing → Obeyed → List ℕ → List ℕ
answer_to g o text = packet_as g (status_of (not o.core.running) o.code) (data_of o.tell o.core.flow.length text)

-- "A group frame is obeyed and never answered"
abbrev pub answer_for : Frame → Framing → Obeyed → List ℕ → List ℕ
answer_for Frame.Nothing g o text = []
answer_for Frame.Alone g o text = answer_to g o text
answer_for Frame.Group g o text = []

-- what was received, the body of it that was obeyed, and the answer; "Answer bytes past the packet are unchanged; without an answer all are."
abbrev pub feed_taken : Received → List ℕ → Obeyed → Drive → List ℕ → List ℕ → Feeding
feed_taken r body o u image buffer =
    record {
      answer = FeedAnswer.feed_ok;
      unit = drive u.number r.receiver (text_then body o u.text) o.core (last_after r.frame r.framing o.code u.last);
      consumed = r.consumed;
      answered = length (answer_for r.frame r.framing o (text_then body o u.text));
      image = image_written o.write body image;
      buffer = put_in buffer 0 (answer_for r.frame r.framing o (text_then body o u.text));
    }

-- "answer buffer under 262 bytes | named refusal, 0 consumed, nothing changed"; "image not 4,160 bytes | the same; tested after the buffer"
unfoldable pub feed_of : Drive → List ℕ → List ℕ → List ℕ → Feeding
feed_of u bytes image buffer =
    cond (ltb (length buffer) packet_bytes) (feed_refused FeedAnswer.feed_buffer_short u image buffer)
    (cond (right_length image) (feed_taken (received_by u bytes) (body_by u bytes) (obeyed_by u bytes) u image buffer)
    (feed_refused FeedAnswer.feed_image_length u image buffer))

-- ---- turn

-- "a sample of inputs 1 to 4"
abbrev pub most_sample : ℕ
most_sample = 15

abbrev pub no_action : Action
no_action = record { direction = Direction.Still; number = 0 }

-- what a turn answers, and the unit that it leaves
pub record Turning : Type 0 where
  pub answer : TurnAnswer
  pub unit : Drive
  pub action : Action

-- "named refusal, nothing changed"
abbrev pub turn_refused : TurnAnswer → Drive → Turning
turn_refused a u = record { answer = a; unit = u; action = no_action }

abbrev pub turn_taken : Stepped → List ℕ → Drive → Turning
turn_taken s image u =
    record {
      answer = TurnAnswer.turn_ok;
      unit = drive u.number u.receiver (text_after s.enter u.text image) s.core u.last;
      action = action_answered s.core.settings.turned s.core.motor.last;
    }

-- "sample over 15, then too many microsteps, in a turn: .. tested after the image length"
unfoldable pub turn_of : Drive → ℕ → ℕ → ℕ → List ℕ → Turning
turn_of u sample ms steps image =
    cond (right_length image)
    (cond (ltb most_sample sample) (turn_refused TurnAnswer.turn_sample u)
    (cond (ltb u.core.motor.last.number steps) (turn_refused TurnAnswer.turn_steps u)
    (turn_taken (turn_core sample ms steps u.text image u.core) image u)))
    (turn_refused TurnAnswer.turn_image_length u)
