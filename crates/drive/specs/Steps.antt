-- For the code: the steps of a feed call and of a turn, one after the other.
-- Assumes nothing.
use Rattle.std.specs.Prelude.{ℕ, List, [], cond, ◌≡◌, length, ltb, Result, Ok, Err}
use Rattle.parts.specs.Parts.{put_in}
use Rattle.image.specs.Image.{right_length}
use Rattle.answers.specs.Packet.{packet_bytes}
use Rattle.frames.specs.declared.Frame.{Frame}
use Rattle.frames.specs.declared.Framing.{Framing}
use Rattle.turns.specs.declared.Core.{Core}
use Rattle.turns.specs.declared.Stepped.{Stepped}
use Rattle.turns.specs.Turns.{turn_core}
use Rattle.obeying.specs.declared.Write.{Write}
use Rattle.obeying.specs.Obeying.{text_written, image_written}
use Rattle.drive.specs.declared.TurnRefused.{TurnRefused}
use Rattle.drive.specs.FeedAnswer
use Rattle.drive.specs.FeedAnswer.{FeedAnswer}
use Rattle.drive.specs.Calls.{packet_as, most_sample}

-- ---- feed

-- how a call is answered
abbrev pub feed_answer : List ℕ → List ℕ → FeedAnswer
feed_answer image buffer =
    cond (ltb (length buffer) packet_bytes) FeedAnswer.feed_buffer_short (cond (right_length image) FeedAnswer.feed_ok FeedAnswer.feed_image_length)

-- what a body has to write, written: the text and the image
pub record WriteDone (w : Write) (body text image text' image' : List ℕ) : Type 0 where
  pub to_text : text' ≡ text_written w body text
  pub to_image : image' ≡ image_written w body image

-- a packet of a framing at the front of a buffer with room for it: its length, and the buffer
pub record PacketOf (g : Framing) (status : ℕ) (bytes buffer : List ℕ) (n : ℕ) (buffer' : List ℕ) : Type 0 where
  pub answers : n ≡ length (packet_as g status bytes)
  pub leaves : buffer' ≡ put_in buffer 0 (packet_as g status bytes)

-- a packet that is sent to a frame for this unit alone
abbrev pub sent_to : Frame → List ℕ → List ℕ
sent_to Frame.Nothing p = []
sent_to Frame.Alone p = p
sent_to Frame.Group p = []

-- what answers a frame: the length, and the buffer
pub record AnsweredIs (frame : Frame) (p buffer : List ℕ) (n : ℕ) (after : List ℕ) : Type 0 where
  pub answers : n ≡ length (sent_to frame p)
  pub leaves : after ≡ put_in buffer 0 (sent_to frame p)

-- ---- turn

-- a turn of the core, or why it is refused
abbrev pub core_turned : Core → ℕ → ℕ → ℕ → List ℕ → List ℕ → Result Stepped TurnRefused
core_turned c sample ms steps text image =
    cond (right_length image)
    (cond (ltb most_sample sample) (Err TurnRefused.Sample)
    (cond (ltb c.motor.last.number steps) (Err TurnRefused.Steps) (Ok (turn_core sample ms steps text image c))))
    (Err TurnRefused.ImageLength)
