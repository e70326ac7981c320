-- 02, E10, as statements about every listener and all bytes: `listening_claims` promises them.
-- Assumes nothing.
use Rattle.std.specs.Prelude.{ℕ, ◌+◌, ◌-◌, ◌≤◌, ◌<◌, ◌≡◌, Bool, true, false, cond, ◌⊎◌, List, [], ◌∷◌, ◌++◌, ltb, length, get_or, replicate, Option, Some, None}
use Rattle.parts.specs.Letters.{bytes, slash, cr, etx}
use Rattle.checksum.specs.Checksum.{example₁}
use Rattle.frames.specs.declared.Frame.{Frame}
use Rattle.frames.specs.Addresses.{is_unit, is_in}
use Rattle.frames.specs.Receive.{Receiver, receiver_of, fresh_progress, byte_received}
use Rattle.answers.specs.Packet.{host_address, packet}
use Rattle.answers.specs.Reading.{good_status, good_data}
use Rattle.answers.specs.Oem.{oem_packet}
use Rattle.listening.specs.declared.UnitRecord.{UnitRecord}
use Rattle.listening.specs.declared.Spot.{Spot}
use Rattle.listening.specs.declared.Listener.{Listener}
use Rattle.listening.specs.Table.{blank_record}
use Rattle.listening.specs.Lines.{unit_line}
use Rattle.listening.specs.Listen.{not_sum, fresh_listener, listen_of}

-- the record of unit u
abbrev pub of_unit : ℕ → List UnitRecord → UnitRecord
of_unit u t = get_or t (u - 1) blank_record

-- the table of the program: from a fresh start, after all bytes
abbrev pub table_after : List ℕ → List UnitRecord
table_after xs = (listen_of fresh_listener xs).table

-- "A frame changes one record at most": no record comes or goes, and all but one hold what they held
pub record OneAtMost (t after : List UnitRecord) : Type 0 where
  pub long : length after ≡ length t
  pub place : ℕ
  pub others : (k : ℕ) → (k ≡ place → ⊥) → get_or after k blank_record ≡ get_or t k blank_record

-- counts never fall, and "stay at 4294967295 once there"
pub record NeverFalls (r after : UnitRecord) : Type 0 where
  pub frames : r.frames ≤ after.frames
  pub answers : r.answers ≤ after.answers
  pub frames_stay : r.frames ≡ 4294967295 → after.frames ≡ 4294967295
  pub answers_stay : r.answers ≡ 4294967295 → after.answers ≡ 4294967295

-- a count up to that number
abbrev pub up_to : ℕ → ℕ
up_to n = cond (ltb n 4294967295) n 4294967295

-- how many frames the receiver of unit u completes for the unit alone
abbrev pub is_alone : Frame → Bool
is_alone Frame.Nothing = false
is_alone Frame.Alone = true
is_alone Frame.Group = false

unfoldable pub frames_alone : ℕ → Receiver → List ℕ → ℕ
frames_alone u r [] = 0
frames_alone u r (b ∷ bs) = cond (is_alone (byte_received r u b).frame) 1 0 + frames_alone u (byte_received r u b).receiver bs

-- "a plain answer counts at its CR": a plain packet up to its 03, and up to its CR
abbrev pub to03 : ℕ → List ℕ → List ℕ
to03 status xs = slash ∷ host_address ∷ status ∷ (xs ++ (etx ∷ []))

abbrev pub to_cr : ℕ → List ℕ → List ℕ
to_cr status xs = slash ∷ host_address ∷ status ∷ (xs ++ (etx ∷ cr ∷ []))

-- one answer more of unit u, with this status; all else as it was
pub record AnswerHeard (u status : ℕ) (t after : List UnitRecord) : Type 0 where
  pub answers : (of_unit u t).answers < 4294967295 → (of_unit u after).answers ≡ (of_unit u t).answers + 1
  pub last : (of_unit u after).last ≡ Some status
  pub frames : (of_unit u after).frames ≡ (of_unit u t).frames
  pub others : (k : ℕ) → (k ≡ u - 1 → ⊥) → get_or after k blank_record ≡ get_or t k blank_record

-- a packet behind what l has heard: it "belongs to the unit of the last such frame; with none before it, it is dropped"
pub record AnswersHeard (l : Listener) (status : ℕ) (xs : List ℕ) : Type 0 where
  pub not_at_03 : (listen_of l (to03 status xs)).table ≡ l.table
  pub at_cr : is_unit l.ear.unit ≡ true → length l.table ≡ 16
      → AnswerHeard l.ear.unit status l.table (listen_of l (to_cr status xs)).table
  pub none : l.ear.unit ≡ 0 → (listen_of l (to_cr status xs)).table ≡ l.table
  -- the listener is outside a frame, with that unit; the LF changes nothing; and the OEM packet does the same
  pub ready : (listen_of l (to_cr status xs)).ear ≡ record { spot = Spot.Outside; unit = l.ear.unit }
  pub line-feed : listen_of l (packet status xs) ≡ listen_of l (to_cr status xs)
  pub oem : listen_of l (oem_packet status xs) ≡ listen_of l (to_cr status xs)

-- bytes that end in a whole answer with this status, plain up to its CR or OEM with its checksum
pub data EndsInAnswer (status : ℕ) : List ℕ → Type 0 where
  plain : (front xs : List ℕ) → good_status status ≡ true → good_data xs ≡ true → EndsInAnswer status (front ++ to_cr status xs)
  oem : (front xs : List ℕ) → good_status status ≡ true → good_data xs ≡ true → EndsInAnswer status (front ++ oem_packet status xs)

-- "the last such frame": the last of all that the units' receivers complete for their unit alone ended at the byte `end`, and was unit u's
pub record LastFrameTo (u : ℕ) (xs : List ℕ) : Type 0 where
  pub front : List ℕ
  pub end : ℕ
  pub since : List ℕ
  pub split : xs ≡ front ++ (end ∷ since)
  pub to_unit_lem : (body : List ℕ) → frames_alone u (receiver_of fresh_progress body) (front ++ (end ∷ []))
      ≡ frames_alone u (receiver_of fresh_progress body) front + 1
  pub none-since : (v : ℕ) → is_unit v ≡ true → (body : List ℕ)
      → frames_alone v (receiver_of fresh_progress body) xs ≡ frames_alone v (receiver_of fresh_progress body) (front ++ (end ∷ []))

-- neither the count of answers nor the last status has changed
pub record SameAnswers (r after : UnitRecord) : Type 0 where
  pub answers : after.answers ≡ r.answers
  pub last : after.last ≡ r.last

-- bytes that end in a whole answer which belongs to unit u, and its status is the unit's last
pub record AnswerEnds (u : ℕ) (xs : List ℕ) : Type 0 where
  pub belongs : LastFrameTo u xs
  pub status : ℕ
  pub ends : EndsInAnswer status xs
  pub last : (of_unit u (table_after xs)).last ≡ Some status

-- the tables of the examples
abbrev pub heard_of : ℕ → ℕ → Option ℕ → UnitRecord
heard_of frames answers last = record { frames = frames; answers = answers; last = last }

abbrev pub blanks : ℕ → List UnitRecord
blanks n = replicate n blank_record

pub record HeardExamples : Type 0 where
  -- "For an input of `/1Q`, CR and the bytes 2F 30 60 03 0D 0A the first line is `1 1 1 60` .."
  pub first : table_after (bytes "/1Q" ++ (cr ∷ 0x2F ∷ 0x30 ∷ 0x60 ∷ 0x03 ∷ 0x0D ∷ 0x0A ∷ []))
      ≡ heard_of 1 1 (Some 0x60) ∷ blanks 15
  -- "with none before it, it is dropped"
  pub dropped : table_after (0x2F ∷ 0x30 ∷ 0x60 ∷ 0x03 ∷ 0x0D ∷ 0x0A ∷ []) ≡ blanks 16
  -- "Group frames count for nobody", and an answer behind one belongs to the frame before
  pub group : table_after (bytes "/2Q" ++ (cr ∷ []) ++ bytes "/AQ" ++ (cr ∷ 0x2F ∷ 0x30 ∷ 0x60 ∷ 0x03 ∷ 0x0D ∷ []))
      ≡ blank_record ∷ heard_of 1 1 (Some 0x60) ∷ blanks 14
  -- the answer counts at its CR
  pub before-cr : table_after (bytes "/1Q" ++ (cr ∷ 0x2F ∷ 0x30 ∷ 0x60 ∷ 0x03 ∷ [])) ≡ heard_of 1 0 None ∷ blanks 15
  -- 004's first OEM frame and an OEM answer; the same with a wrong checksum each: "none that E1 skips"
  pub oem : table_after (example₁ ++ (0x23 ∷ 0x02 ∷ 0x30 ∷ 0x40 ∷ 0x03 ∷ 0x71 ∷ []))
      ≡ heard_of 1 1 (Some 0x40) ∷ blanks 15
  pub oem-wrong : table_after (example₁ ++ (0x24 ∷ 0x02 ∷ 0x30 ∷ 0x40 ∷ 0x03 ∷ 0x70 ∷ [])) ≡ blanks 16
  -- `/` in the checksum place begins no frame: `1Q` is outside one
  pub sum-place : table_after (0x02 ∷ 0x30 ∷ 0x11 ∷ 0x03 ∷ 0x2F ∷ (bytes "1Q" ++ (cr ∷ []))) ≡ blanks 16
  -- ".. the first line is `1 1 1 60` and the other fifteen are of the form `2 0 0 --`"
  pub first-line : unit_line 1 (heard_of 1 1 (Some 0x60)) ≡ bytes "1 1 1 60"
  pub other-lines : unit_line 2 blank_record ≡ bytes "2 0 0 --"
  -- a status with a letter, behind the greatest counts
  pub longest-line : unit_line 16 (heard_of 4294967295 4294967295 (Some 0x4B)) ≡ bytes "16 4294967295 4294967295 4B"

pub record ListeningClaims : Type 0 where
  -- "Where the reads cut the input does not alter the table"
  pub cut : (l : Listener) (xs ys : List ℕ) → listen_of l (xs ++ ys) ≡ listen_of (listen_of l xs) ys
  -- "A frame changes one record at most": no byte changes more
  pub one_record : (l : Listener) (b : ℕ) → OneAtMost l.table (listen_of l (b ∷ [])).table
  -- "Counts stay at 4294967295 once there"
  pub never_falls : (l : Listener) (xs : List ℕ) (k : ℕ)
      → NeverFalls (get_or l.table k blank_record) (get_or (listen_of l xs).table k blank_record)
  -- "finished frames to that unit alone (none that E1 skips)": from a fresh start, as many as the unit's own receiver completes
  pub frames : (u : ℕ) → is_unit u ≡ true → (body xs : List ℕ)
      → (of_unit u (table_after xs)).frames ≡ up_to (frames_alone u (receiver_of fresh_progress body) xs)
  -- "whole answers by 01's host rule .. in both framings", heard anywhere but in the checksum place; `/` begins a frame in data too
  pub answers : (l : Listener) (status : ℕ) (xs : List ℕ) → not_sum l.ear.spot ≡ true → good_status status ≡ true
      → good_data xs ≡ true → is_in slash xs ≡ false
      → AnswersHeard l status xs
  -- "the unit of the last such frame": it is kept, whatever else comes
  pub last_frame : (u : ℕ) → is_unit u ≡ true → (xs : List ℕ) → LastFrameTo u xs → (listen_of fresh_listener xs).ear.unit ≡ u
  -- nothing else is an answer, and it "belongs to the unit of the last such frame": no other byte changes a unit's answers or its last status
  pub only-answers : (u : ℕ) → is_unit u ≡ true → (xs : List ℕ) (b : ℕ)
      → AnswerEnds u (xs ++ (b ∷ [])) ⊎ SameAnswers (of_unit u (table_after xs)) (of_unit u (table_after (xs ++ (b ∷ []))))
  pub examples : HeardExamples
