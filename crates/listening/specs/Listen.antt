-- The listener: what it makes of a byte, and of all bytes that a read gives. 02, E10, and E1 for the framings.
-- Assumes nothing.
use Rattle.std.specs.Prelude.{ℕ, ◌+◌, ◌-◌, Bool, true, false, cond, ◌&&◌, List, [], ◌∷◌, ltb, eqb}
use Rattle.parts.specs.Letters.{slash, cr, stx, etx}
use Rattle.checksum.specs.Checksum.{xor}
use Rattle.frames.specs.Addresses.{is_unit, unit_byte}
use Rattle.frames.specs.Receive.{good}
use Rattle.answers.specs.Packet.{host_address, most_data}
use Rattle.answers.specs.Reading.{good_status, printable}
use Rattle.listening.specs.declared.Finish.{Finish}
use Rattle.listening.specs.declared.Spot.{Spot}
use Rattle.listening.specs.declared.Ear.{Ear}
use Rattle.listening.specs.declared.Hearing.{Hearing}
use Rattle.listening.specs.declared.Listener.{Listener}
use Rattle.listening.specs.Table.{blank_table, noted}

-- "finished frames to that unit alone": what a frame with address byte a finishes. "Group frames count for nobody"
unfoldable pub alone_of : ℕ → Finish
alone_of a = cond (is_unit (a - unit_byte 0)) (Finish.FrameTo (a - unit_byte 0)) Finish.Nothing

-- after the address byte of a plain frame: an answer has the host's address
abbrev pub after_address : ℕ → Spot
after_address b = cond (eqb b host_address) Spot.AnswerStatus (Spot.Body (alone_of b))

-- "whole answers by 01's host rule": the status, and one byte of data more; else there is no answer
abbrev pub after_status : ℕ → Spot
after_status b = cond (good_status b) (Spot.AnswerData b 0) Spot.Outside

unfoldable pub may_follow : ℕ → ℕ → Bool
may_follow n b = ltb n most_data && printable b

abbrev pub after_data : ℕ → ℕ → ℕ → Spot
after_data status n b =
    cond (eqb b etx) (Spot.AnswerEnd status) (cond (may_follow n b) (Spot.AnswerData status (n + 1)) Spot.Outside)

-- the same "in both framings", with the sum of the bytes up to this one. "03 as address or sequence byte drops the frame"
abbrev pub after_oem_address : ℕ → Spot
after_oem_address b =
    cond (eqb b etx) Spot.Outside
    (cond (eqb b host_address) (Spot.OemStatus (xor stx b)) (Spot.OemSequence (alone_of b) (xor stx b)))

-- "a sequence byte outside 30 to 3F": a frame that E1 skips is followed to its checksum, and so is an answer that is none
abbrev pub after_sequence : Finish → ℕ → ℕ → Spot
after_sequence f s b = cond (eqb b etx) Spot.Outside (Spot.OemBody (cond (good b) f Finish.Nothing) s)

abbrev pub after_oem_body : Finish → ℕ → ℕ → Spot
after_oem_body f s b = cond (eqb b etx) (Spot.OemSum f s) (Spot.OemBody f s)

abbrev pub after_oem_status : ℕ → ℕ → Spot
after_oem_status s b =
    cond (eqb b etx) Spot.Outside (cond (good_status b) (Spot.OemData b 0 s) (Spot.OemBody Finish.Nothing s))

abbrev pub after_oem_data : ℕ → ℕ → ℕ → ℕ → ℕ → Spot
after_oem_data unit status n s b =
    cond (eqb b etx) (Spot.OemSum (Finish.AnswerOf unit status) s)
    (cond (may_follow n b) (Spot.OemData status (n + 1) s) (Spot.OemBody Finish.Nothing s))

-- nothing is finished
abbrev pub standing : Spot → ℕ → Hearing
standing spot unit = record { ear = record { spot = spot; unit = unit }; finish = Finish.Nothing }

-- "An answer belongs to the unit of the last such frame"
abbrev pub unit_after : Finish → ℕ → ℕ
unit_after Finish.Nothing unit = unit
unit_after (Finish.FrameTo u) unit = u
unit_after (Finish.AnswerOf u status) unit = unit

-- the byte that ends a frame or an answer finishes it; another one does not
abbrev pub ended_by : ℕ → ℕ → Finish → Spot → ℕ → Hearing
ended_by end b f other unit =
    cond (eqb b end) (record { ear = record { spot = Spot.Outside; unit = unit_after f unit }; finish = f }) (standing other unit)

-- a byte that begins no frame: "a plain answer counts at its CR", a plain frame too; an OEM one at its checksum, if it is right
abbrev pub other_heard : Spot → ℕ → ℕ → Hearing
other_heard Spot.Outside unit b = standing Spot.Outside unit
other_heard Spot.Address unit b = standing (after_address b) unit
other_heard (Spot.Body f) unit b = ended_by cr b f (Spot.Body f) unit
other_heard Spot.AnswerStatus unit b = standing (after_status b) unit
other_heard (Spot.AnswerData status n) unit b = standing (after_data status n b) unit
other_heard (Spot.AnswerEnd status) unit b = ended_by cr b (Finish.AnswerOf unit status) Spot.Outside unit
other_heard Spot.OemAddress unit b = standing (after_oem_address b) unit
other_heard (Spot.OemSequence f s) unit b = standing (after_sequence f (xor s b) b) unit
other_heard (Spot.OemBody f s) unit b = standing (after_oem_body f (xor s b) b) unit
other_heard (Spot.OemStatus s) unit b = standing (after_oem_status (xor s b) b) unit
other_heard (Spot.OemData status n s) unit b = standing (after_oem_data unit status n (xor s b) b) unit
other_heard (Spot.OemSum f s) unit b = ended_by s b f Spot.Outside unit

-- "02 or `/` begins a new frame everywhere but in the checksum place"
abbrev pub not_sum : Spot → Bool
not_sum Spot.Outside = true
not_sum Spot.Address = true
not_sum (Spot.Body f) = true
not_sum Spot.AnswerStatus = true
not_sum (Spot.AnswerData status n) = true
not_sum (Spot.AnswerEnd status) = true
not_sum Spot.OemAddress = true
not_sum (Spot.OemSequence f s) = true
not_sum (Spot.OemBody f s) = true
not_sum (Spot.OemStatus s) = true
not_sum (Spot.OemData status n s) = true
not_sum (Spot.OemSum f s) = false

abbrev pub opens_at : ℕ → Spot → ℕ → Bool
opens_at x spot b = eqb b x && not_sum spot

-- one byte
unfoldable pub hear_of : Ear → ℕ → Hearing
hear_of ear b =
    cond (opens_at slash ear.spot b) (standing Spot.Address ear.unit)
    (cond (opens_at stx ear.spot b) (standing Spot.OemAddress ear.unit)
    (other_heard ear.spot ear.unit b))

-- a listener that has heard nothing: 0 is the unit of no frame
abbrev pub fresh_listener : Listener
fresh_listener = record { ear = record { spot = Spot.Outside; unit = 0 }; table = blank_table }

-- "reads the line's raw bytes, commands and answers together", one after the other
abbrev pub heard_byte : Listener → ℕ → Listener
heard_byte l b = record { ear = (hear_of l.ear b).ear; table = noted l.table (hear_of l.ear b).finish }

unfoldable pub listen_of : Listener → List ℕ → Listener
listen_of l [] = l
listen_of l (b ∷ bs) = listen_of (heard_byte l b) bs
