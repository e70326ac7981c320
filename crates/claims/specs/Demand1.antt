-- Demand 1: "Every call answers on every input and every lent length. Bad input gets the code or refusal that document 01 names, at the place in
-- the order that it names, and that refusal changes nothing .. beyond what 01 says." A field for each row of 01's table of outcomes.
-- Assumes nothing.
use Rattle.std.specs.Prelude.{ℕ, ◌≤◌, ◌<◌, ◌≡◌, List, [], ◌∷◌, ◌++◌, true, false, not, cond, length, drop, eqb, Option, Some, Result}
use Prim.Native.String.{String}
use Rattle.digits.specs.Decimal.{decimal}
use Rattle.commands.specs.declared.Fault.{Fault}
use Rattle.commands.specs.Table as table
use Rattle.lines.specs.Texts.{text_good, older_good}
use Rattle.lines.specs.Bodies.{line_fault, line_code_lem}
use Rattle.lines.specs.Claims.{PlacedIn}
use Rattle.frames.specs.declared.Frame.{Frame}
use Rattle.frames.specs.declared.Framing.{Framing}
use Rattle.answers.specs.Packet.{status_of}
use Rattle.ramp.specs.declared.Figures.{Figures}
use Rattle.ramp.specs.declared.Refused.{Refused}
use Rattle.ramp.specs.Ramp.{figures_of, figures_told, verdict_name}
use Rattle.ramp.specs.Claims.{AllZero}
use Rattle.host.specs.Claims.{HostClaims}
use Rattle.turns.specs.declared.Core.{Core}
use Rattle.turns.specs.Turns.{direction_name}
use Rattle.obeying.specs.Obeying as obeying
use Rattle.obeying.specs.Obeying.{body_obeyed}
use Rattle.drive.specs.Unit.{Drive, drive}
use Rattle.drive.specs.FeedAnswer
use Rattle.drive.specs.FeedAnswer.{FeedAnswer}
use Rattle.drive.specs.Names.{start_name, feed_name, turn_name}
use Rattle.drive.specs.Calls.{Starting, start_of, received_by, body_by, packet_as, Feeding, feed_of, Turning, turn_of}
use Rattle.claims.specs.Order.{fault_in_order, code_in_order}
use Rattle.claims.specs.Images.{EverySlot, ImageRow, StoreRow}
use Rattle.claims.specs.Packets.{PacketRow}
use Rattle.claims.specs.Counts.{CountRow}

-- from low to high
abbrev pub From : ℕ → ℕ → ℕ → Type 0
From low high n = (low ≤ n) × (n ≤ high)

-- a refused start: "named refusal, no unit". That is the number 0, which no address calls, idle; the texts are as they were lent
pub record StartRefused (name : String) (body text : List ℕ) (s : Starting) : Type 0 where
  pub named : start_name s.answer ≡ name
  pub number_0 : s.unit.number ≡ 0
  pub idle : s.unit.core.running ≡ false
  pub body_same : s.unit.receiver.body ≡ body
  pub text_same : s.unit.text ≡ text

-- "at start: unit number not 1 to 16, then image not 4,160 bytes, then bad image"; 02, E9: by the check of texts without a limit of digits
pub record StartRow (number : ℕ) (image body text : List ℕ) : Type 0 where
  pub unit-number : (From 1 16 number → ⊥) → StartRefused "unit number not 1 to 16" body text (start_of number image body text)
  pub image-length : From 1 16 number → (length image ≡ 4160 → ⊥) → StartRefused "image not 4,160 bytes" body text (start_of number image body text)
  pub image-bad : From 1 16 number → length image ≡ 4160 → (EverySlot older_good image → ⊥) → StartRefused "bad image" body text (start_of number image body text)
  pub started : From 1 16 number → length image ≡ 4160 → EverySlot older_good image
      → (start_name (start_of number image body text).answer ≡ "started") × ((start_of number image body text).unit.number ≡ number)
  -- an image that the image check calls good is never refused
  pub good-starts : From 1 16 number → length image ≡ 4160 → EverySlot text_good image → start_name (start_of number image body text).answer ≡ "started"

-- a feed call whose frame is refused with a code: "packet with the code (none to a group); record beyond the receiver, and image, unchanged";
-- "Answer bytes past the packet are unchanged; without an answer all are."
abbrev pub FrameRefused : Drive → List ℕ → List ℕ → List ℕ → List ℕ → Type 0
FrameRefused u bytes image buffer answer =
    feed_of u bytes image buffer
    ≡ record {
      answer = FeedAnswer.feed_ok;
      unit = drive u.number (received_by u bytes).receiver u.text u.core u.last;
      consumed = (received_by u bytes).consumed;
      answered = length answer;
      image = image;
      buffer = answer ++ drop (length answer) buffer;
    }

-- the code of the frame that these bytes complete, and the place of its fault: of a repeat, those of the body that it chooses
abbrev pub frame_fault : Drive → List ℕ → Fault
frame_fault u bytes = fault_in_order (body_by u bytes) u.core

abbrev pub frame_code : Drive → List ℕ → ℕ
frame_code u bytes = (frame_fault u bytes).code

-- 02, E6: "the place of the fault as decimal data"; where there is none, "no data"
abbrev pub place_data : ℕ → List ℕ
place_data p = cond (eqb p 0) [] (decimal p)

-- a refusal's packet: its code and its place, idle or running as before, in the frame's framing
abbrev pub refusal_packet : Drive → Framing → Fault → List ℕ
refusal_packet u g f = packet_as g (status_of (not u.core.running) f.code) (place_data f.place)

-- "named refusal, 0 consumed, nothing changed"
pub record FeedRefused (name : String) (u : Drive) (image buffer : List ℕ) (r : Feeding) : Type 0 where
  pub named : feed_name r.answer ≡ name
  pub none-consumed : r.consumed ≡ 0
  pub none-answered : r.answered ≡ 0
  pub unit-same : r.unit ≡ u
  pub image-same : r.image ≡ image
  pub buffer-same : r.buffer ≡ buffer

pub record FeedRow (u : Drive) (bytes image buffer : List ℕ) : Type 0 where
  -- "answer buffer under 262 bytes"
  pub buffer-short : length buffer < 262 → FeedRefused "answer buffer under 262 bytes" u image buffer (feed_of u bytes image buffer)
  -- "image not 4,160 bytes | the same; tested after the buffer"
  pub image-length : 262 ≤ length buffer → (length image ≡ 4160 → ⊥) → FeedRefused "image not 4,160 bytes" u image buffer (feed_of u bytes image buffer)
  pub taken : 262 ≤ length buffer → length image ≡ 4160 → feed_name (feed_of u bytes image buffer).answer ≡ "taken"
  -- "A group frame is obeyed and never answered"; "without an answer all are [unchanged]"
  pub group-silent : 262 ≤ length buffer → length image ≡ 4160 → (received_by u bytes).frame ≡ Frame.Group
      → ((feed_of u bytes image buffer).answered ≡ 0) × ((feed_of u bytes image buffer).buffer ≡ buffer)
  -- "code 2, 3 or 15", to this unit alone and to a group
  pub frame_refused : 262 ≤ length buffer → length image ≡ 4160 → (received_by u bytes).frame ≡ Frame.Alone
      → (frame_code u bytes ≡ 0 → ⊥) → FrameRefused u bytes image buffer (refusal_packet u (received_by u bytes).framing (frame_fault u bytes))
  pub group-refused : 262 ≤ length buffer → length image ≡ 4160 → (received_by u bytes).frame ≡ Frame.Group
      → (frame_code u bytes ≡ 0 → ⊥) → FrameRefused u bytes image buffer []

-- "Order of checks for a frame", for every body and core
pub record OrderRow (b : List ℕ) (c : Core) : Type 0 where
  pub codes : table.one_of (0 ∷ 2 ∷ 3 ∷ 15 ∷ []) (code_in_order b c) ≡ true
  -- "A refused frame carries its own code", and by 02, E6, the place; record unchanged, and nothing to write
  pub refused : (code_in_order b c ≡ 0 → ⊥) → body_obeyed b c ≡ obeying.refused_at (fault_in_order b c) c
  -- "refused with 2 or 3": a place in the body or just behind it, but for "an overlong body"; with 15 none; at most three digits
  pub placed : length b ≤ 256 → table.one_of (2 ∷ 3 ∷ []) (code_in_order b c) ≡ true → PlacedIn (length b) (fault_in_order b c)
  pub no_place : table.one_of (2 ∷ 3 ∷ []) (code_in_order b c) ≡ false → (fault_in_order b c).place ≡ 0
  pub three_digits : length (place_data (fault_in_order b c).place) ≤ 3
  -- "all others carry the held code"
  pub held : code_in_order b c ≡ 0 → (body_obeyed b c).code ≡ (body_obeyed b c).core.code

-- "named refusal, nothing changed"; no action is answered
pub record TurnRefused (name : String) (u : Drive) (r : Turning) : Type 0 where
  pub named : turn_name r.answer ≡ name
  pub unit-same : r.unit ≡ u
  pub no_direction : direction_name r.action.direction ≡ "no direction"
  pub number_0 : r.action.number ≡ 0

-- "sample over 15, then too many microsteps, in a turn | named refusal, nothing changed; tested after the image length"
pub record TurnRow (u : Drive) (sample ms steps : ℕ) (image : List ℕ) : Type 0 where
  pub image-length : (length image ≡ 4160 → ⊥) → TurnRefused "image not 4,160 bytes" u (turn_of u sample ms steps image)
  pub sample-high : length image ≡ 4160 → 15 < sample → TurnRefused "sample over 15" u (turn_of u sample ms steps image)
  pub steps-many : length image ≡ 4160 → sample ≤ 15 → u.core.motor.last.number < steps → TurnRefused "too many microsteps" u (turn_of u sample ms steps image)
  pub taken : length image ≡ 4160 → sample ≤ 15 → steps ≤ u.core.motor.last.number → turn_name (turn_of u sample ms steps image).answer ≡ "taken"

-- "named refusal, all figures 0"
pub record RampRefused (name : String) (r : Result Figures Refused) : Type 0 where
  pub named : verdict_name r ≡ name
  pub zeros : AllZero (figures_told r)

-- "ramp: V, then L, then N outside the ranges of this paper"; "endless, where N is not looked at": None
pub record RampRow (v l : ℕ) (steps : Option ℕ) : Type 0 where
  pub v_outside : (From 1 16777216 v → ⊥) → RampRefused "V outside its range" (figures_of v l steps)
  pub l_outside : From 1 16777216 v → (From 1 65000 l → ⊥) → RampRefused "L outside its range" (figures_of v l steps)
  pub n_outside : (n : ℕ) → From 1 16777216 v → From 1 65000 l → steps ≡ Some n → (From 1 2147483647 n → ⊥)
      → RampRefused "N outside its range" (figures_of v l steps)
  pub taken : From 1 16777216 v → From 1 65000 l → ((n : ℕ) → steps ≡ Some n → From 1 2147483647 n) → verdict_name (figures_of v l steps) ≡ "taken"

pub record Demand1 : Type 0 where
  pub start : (number : ℕ) (image body text : List ℕ) → StartRow number image body text
  pub feed : (u : Drive) (bytes image buffer : List ℕ) → FeedRow u bytes image buffer
  pub order : (b : List ℕ) (c : Core) → OrderRow b c
  pub turn : (u : Drive) (sample ms steps : ℕ) (image : List ℕ) → TurnRow u sample ms steps image
  -- "host: list that the line check refuses .., then buffer too short | that code, or named refusal; buffer unchanged"
  pub line : HostClaims
  pub packet : PacketRow
  pub ramp : (v l : ℕ) (steps : Option ℕ) → RampRow v l steps
  pub check_image : (image : List ℕ) → ImageRow image
  pub store : (image : List ℕ) (k : ℕ) (text : List ℕ) → StoreRow image k text
  -- 02, E14: "Refusals: by name, .."
  pub count : (b : List ℕ) → CountRow b
  -- the line check has a code for every body
  pub check_line : (b : List ℕ) → table.one_of (0 ∷ 2 ∷ 3 ∷ []) (line_code_lem b) ≡ true
  -- 02, E6: and the place of its fault
  pub line-place : (b : List ℕ) → length b ≤ 256 → (line_code_lem b ≡ 0 → ⊥) → PlacedIn (length b) (line_fault b)
