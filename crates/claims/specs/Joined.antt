-- From bytes to answer: what holds of every reached unit before a call, and a frame of either framing typed to it. 01, "Frames" and "What
-- comes back"; 02, E1. Assumes nothing.
use Rattle.std.specs.Prelude.{ℕ, ◌≤◌, ◌≡◌, List, [], true, false, not, cond, length, Some}
use Rattle.commands.specs.Table.{one_of}
use Rattle.parts.specs.Parts.{most_bytes}
use Rattle.parts.specs.Letters.{cr, etx}
use Rattle.image.specs.Image.{right_length}
use Rattle.frames.specs.declared.Framing.{Framing}
use Rattle.frames.specs.Addresses.{is_unit, unit_byte}
use Rattle.frames.specs.Receive.{ours, good, elsewhere}
use Rattle.frames.specs.Claims.{Sound, free, frame_of, oem_of, sum_of}
use Rattle.answers.specs.Packet.{packet_bytes, status_of}
use Rattle.obeying.specs.Obeying.{body_obeyed}
use Rattle.drive.specs.Unit.{Drive}
use Rattle.drive.specs.Repeats.{sequence_number, is_repeat, is_query}
use Rattle.drive.specs.Calls.{received_by, packet_as, Feeding, feed_of}
use Rattle.stream.specs.Fits.{Fits}
use Rattle.stream.specs.Oem.{Heeded}
use Rattle.runs.specs.Causes.{cause_codes}
use Rattle.runs.specs.Packets.{answered_by}
use Rattle.claims.specs.Bodies.{core_by, text_by, image_by, data_by}
use Rattle.claims.specs.Demand1.{frame_code}

-- a frame for this unit alone, the body of it that is obeyed, and the packet that answers it in the frame's framing
pub record Typed (u : Drive) (framing : Framing) (body bytes image buffer : List ℕ) (r : Feeding) : Type 0 where
  pub consumed : r.consumed ≡ length bytes
  pub core-left : r.unit.core ≡ core_by body u.core
  pub text-left : r.unit.text ≡ text_by body u.core u.text
  pub image-left : r.image ≡ image_by body u.core image
  pub answer : answered_by u bytes image buffer
      ≡ packet_as framing (status_of (not (core_by body u.core).running) (body_obeyed body u.core).code) (data_by body u.core u.text)

-- a body of at most 256 bytes, and a call that is not refused, wherever the receiver stands but in the checksum place
pub record Typing (u : Drive) (body image buffer : List ℕ) : Type 0 where
  pub short : length body ≤ most_bytes
  pub buffer_right : packet_bytes ≤ length buffer
  pub image_right : right_length image ≡ true
  pub elsewhere_than_sum : elsewhere u.receiver.place ≡ true

pub record Joined (u : Drive) : Type 0 where
  pub fits : Fits u
  pub sound : Sound u.receiver
  pub numbered : is_unit u.number ≡ true
  -- "all others carry the held code": that of a cause, and no code of a refused frame
  pub held-code : one_of cause_codes u.core.code ≡ true
  -- "A frame is `/`, an address byte, a body, CR"
  pub typed : (body image buffer : List ℕ) → Typing u body image buffer → free cr body ≡ true
      → let bytes = frame_of (unit_byte u.number) body in
      Typed u Framing.Plain body bytes image buffer (feed_of u bytes image buffer)
  -- "02, address, sequence byte, body, 03", and its checksum: the same body does the same, with the same status and data
  pub typed-oem : (q : ℕ) (body image buffer : List ℕ) → Typing u body image buffer → good q ≡ true → free etx body ≡ true
      → is_repeat u.last (Framing.Oem q) ≡ false
      → let bytes = oem_of (unit_byte u.number) q body (sum_of (unit_byte u.number) q body) in
      Typed u (Framing.Oem q) body bytes image buffer (feed_of u bytes image buffer)
  -- "A repeat .. is answered as an empty body, or, if a query other than `?9`, by that query afresh; it is not obeyed"
  pub repeated : (q : ℕ) (body image buffer : List ℕ) → Typing u body image buffer → good q ≡ true → free etx body ≡ true
      → is_repeat u.last (Framing.Oem q) ≡ true
      → let bytes = oem_of (unit_byte u.number) q body (sum_of (unit_byte u.number) q body) in
      Typed u (Framing.Oem q) (cond (is_query body) body []) bytes image buffer (feed_of u bytes image buffer)
  -- "the number of the last OEM frame for this unit or its groups not refused": one that the order of checks takes sets it; a refused one
  -- leaves it (`FeedRow`), as do plain and skipped frames
  pub sets-number : (bytes image buffer : List ℕ) (q : ℕ) → Heeded image buffer → ours (received_by u bytes).frame ≡ true
      → (received_by u bytes).framing ≡ Framing.Oem q → frame_code u bytes ≡ 0 → (feed_of u bytes image buffer).unit.last ≡ Some (sequence_number q)
