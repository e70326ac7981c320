-- The OEM framing: what a skipped frame leaves, what a repeat changes, and that a frame of either framing does the same. 02, E1.
-- Assumes nothing.
use Rattle.std.specs.Prelude.{ℕ, ◌+◌, ◌≤◌, ◌≡◌, List, [], ◌∷◌, ◌++◌, true, false, cond, length, Some, None}
use Rattle.parts.specs.Parts.{put_in}
use Rattle.parts.specs.Letters.{cr, etx}
use Rattle.answers.specs.Packet.{packet, packet_bytes}
use Rattle.answers.specs.Oem.{oem_packet}
use Rattle.image.specs.Image.{right_length}
use Rattle.frames.specs.declared.Framing.{Framing}
use Rattle.frames.specs.Addresses.{called_of}
use Rattle.frames.specs.declared.Frame.{Frame}
use Rattle.frames.specs.declared.Place.{Place}
use Rattle.frames.specs.Receive.{Receiver, body_in, ours, good, elsewhere}
use Rattle.frames.specs.Claims.{Sound, Alike, free, frame_of, oem_of, sum_of}
use Rattle.obeying.specs.declared.Tell.{Tell}
use Rattle.obeying.specs.Obeying.{telling}
use Rattle.drive.specs.FeedAnswer
use Rattle.drive.specs.FeedAnswer.{FeedAnswer}
use Rattle.drive.specs.Unit.{Drive, drive}
use Rattle.drive.specs.Repeats.{sequence_number, is_repeat, is_query, is_refusal}
use Rattle.drive.specs.Calls.{start_of, received_by, frame_obeyed, obeyed_by, feed_of, turn_of}

-- the unit with another receiver
abbrev pub moved_to : Receiver → Drive → Drive
moved_to r u = drive u.number r u.text u.core u.last

-- a feed call that is not refused
pub record Heeded (image buffer : List ℕ) : Type 0 where
  pub buffer_right : packet_bytes ≤ length buffer
  pub image_right : right_length image ≡ true

-- "makes the feed skip the frame": all is consumed, nothing answered, and nothing changed but that the receiver stands behind it
pub record SkippedBy (u : Drive) (bytes image buffer : List ℕ) : Type 0 where
  pub receiver : Receiver
  pub outside : receiver.place ≡ Place.Outside
  pub feeds : feed_of u bytes image buffer
      ≡ record { answer = FeedAnswer.feed_ok; unit = moved_to receiver u; consumed = length bytes; answered = 0; image = image; buffer = buffer }

-- "makes the feed skip the frame", and the same call goes on behind it: xs, with n bytes of such a frame before ys, does what ys does. In the
-- receiver's body other bytes may be left, and they are never told (`Alike`)
pub record PassesOver (u : Drive) (n : ℕ) (xs ys image buffer : List ℕ) : Type 0 where
  pub receiver : Receiver
  pub alike : Alike receiver (feed_of u ys image buffer).unit.receiver
  pub feeds : feed_of u xs image buffer
      ≡ record {
        answer = (feed_of u ys image buffer).answer;
        unit = moved_to receiver (feed_of u ys image buffer).unit;
        consumed = n + (feed_of u ys image buffer).consumed;
        answered = (feed_of u ys image buffer).answered;
        image = (feed_of u ys image buffer).image;
        buffer = (feed_of u ys image buffer).buffer;
      }

-- "it is not obeyed": the receiver is where the bytes bring it, and nothing else is changed
pub record RepeatedBy (u : Drive) (bytes image buffer : List ℕ) : Type 0 where
  pub unit-same : (feed_of u bytes image buffer).unit ≡ moved_to (received_by u bytes).receiver u
  pub image-same : (feed_of u bytes image buffer).image ≡ image
  -- "is answered as an empty body, or, if a query other than `?9`, by that query afresh"
  pub answers_as : obeyed_by u bytes
      ≡ frame_obeyed (received_by u bytes).frame (cond (is_query (body_in (received_by u bytes).receiver)) (body_in (received_by u bytes).receiver) []) u.core
  -- a packet with the held code
  pub told : Tell
  pub tells : obeyed_by u bytes ≡ telling told u.core

-- two calls, of a plain frame and of an OEM one, that are answered with one status and one data, each in its framing
pub record SameAnswer (u : Drive) (xs ys image buffer : List ℕ) : Type 0 where
  pub status : ℕ
  pub told : List ℕ
  pub plain-length : (feed_of u xs image buffer).answered ≡ length (packet status told)
  pub plain-packet : (feed_of u xs image buffer).buffer ≡ put_in buffer 0 (packet status told)
  pub oem-length : (feed_of u ys image buffer).answered ≡ length (oem_packet status told)
  pub oem-packet : (feed_of u ys image buffer).buffer ≡ put_in buffer 0 (oem_packet status told)

-- and that do the same to the unit, beyond the number and the receiver
pub record SameDeed (u : Drive) (xs ys image buffer : List ℕ) : Type 0 where
  pub core-same : (feed_of u xs image buffer).unit.core ≡ (feed_of u ys image buffer).unit.core
  pub text_same : (feed_of u xs image buffer).unit.text ≡ (feed_of u ys image buffer).unit.text
  pub image-same : (feed_of u xs image buffer).image ≡ (feed_of u ys image buffer).image
  pub obeyed-same : obeyed_by u xs ≡ obeyed_by u ys
  pub answered-same : (received_by u xs).frame ≡ Frame.Alone → SameAnswer u xs ys image buffer

pub record OemClaims : Type 0 where
  -- "a wrong checksum .. makes the feed skip the frame, before all other checks", whomever it calls
  pub skips : (u : Drive) (a q : ℕ) (body : List ℕ) (c : ℕ) (image buffer : List ℕ) → Heeded image buffer → elsewhere u.receiver.place ≡ true
      → free etx (a ∷ q ∷ body) ≡ true → (c ≡ sum_of a q body → ⊥) → SkippedBy u (oem_of a q body c) image buffer
  pub goes_on : (u : Drive) (a q : ℕ) (body : List ℕ) (c : ℕ) (ys image buffer : List ℕ) → Heeded image buffer → Sound u.receiver
      → u.receiver.place ≡ Place.Outside → free etx (a ∷ q ∷ body) ≡ true → (c ≡ sum_of a q body → ⊥)
      → PassesOver u (length (oem_of a q body c)) (oem_of a q body c ++ ys) ys image buffer
  -- a repeat of the last number, whatever its body
  pub repeats : (u : Drive) (bytes image buffer : List ℕ) → Heeded image buffer
      → is_repeat u.last (received_by u bytes).framing ≡ true → RepeatedBy u bytes image buffer
  -- "One reading of bodies .. serves both framings": a whole frame that is no repeat, in either framing
  pub same_deed : (u : Drive) (a q : ℕ) (body image buffer : List ℕ) → Heeded image buffer → Sound u.receiver → elsewhere u.receiver.place ≡ true
      → ours (called_of u.number a) ≡ true → good q ≡ true → free cr body ≡ true → free etx body ≡ true
      → is_repeat u.last (Framing.Oem q) ≡ false
      → SameDeed u (frame_of a body) (oem_of a q body (sum_of a q body)) image buffer
  -- "the last OEM frame for this unit or its groups not refused": its number is kept, of no other frame
  pub numbers : (u : Drive) (bytes image buffer : List ℕ) (q : ℕ) → Heeded image buffer → ours (received_by u bytes).frame ≡ true
      → (received_by u bytes).framing ≡ Framing.Oem q
      → (feed_of u bytes image buffer).unit.last ≡ cond (is_refusal (obeyed_by u bytes).code) u.last (Some (sequence_number q))
  -- "(at start there is none)"; plain frames and turns leave it
  pub none_at_start : (number : ℕ) (image body text : List ℕ) → (start_of number image body text).unit.last ≡ None
  pub plain-leaves : (u : Drive) (bytes image buffer : List ℕ) → (received_by u bytes).framing ≡ Framing.Plain
      → (feed_of u bytes image buffer).unit.last ≡ u.last
  pub turn-leaves : (u : Drive) (sample ms steps : ℕ) (image : List ℕ) → (turn_of u sample ms steps image).unit.last ≡ u.last
