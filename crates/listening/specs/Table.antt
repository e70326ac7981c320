-- The table of a listener: a record for each unit, and what becomes of it when a frame or an answer is finished. 02, E10.
-- Assumes nothing.
use Rattle.std.specs.Prelude.{ℕ, zero, suc, ◌+◌, ◌-◌, cond, List, [], ◌∷◌, ltb, eqb, replicate, Some, None}
use Rattle.listening.specs.declared.UnitRecord.{UnitRecord}
use Rattle.listening.specs.declared.Finish.{Finish}

-- "a table of sixteen unit records"; nothing is heard of a unit yet
abbrev pub blank_record : UnitRecord
blank_record = record { frames = 0; answers = 0; last = None }

abbrev pub blank_table : List UnitRecord
blank_table = replicate 16 blank_record

-- "Counts stay at 4294967295 once there"
abbrev pub greatest_count : ℕ
greatest_count = 4294967295

abbrev pub once_more : ℕ → ℕ
once_more n = cond (ltb n greatest_count) (n + 1) n

-- "finished frames to that unit alone"
abbrev pub with_frame : UnitRecord → UnitRecord
with_frame r = record { frames = once_more r.frames; answers = r.answers; last = r.last }

-- "whole answers .., last status"
abbrev pub with_answer : ℕ → UnitRecord → UnitRecord
with_answer status r = record { frames = r.frames; answers = once_more r.answers; last = Some status }

-- the record at place k is changed, all others are as they were, and so is a table that has no such place
abbrev pub changed_at : ℕ → (UnitRecord → UnitRecord) → List UnitRecord → List UnitRecord
changed_at k change [] = []
changed_at zero change (r ∷ t) = change r ∷ t
changed_at (suc k) change (r ∷ t) = r ∷ changed_at k change t

-- the record of unit u stands at place u - 1; unit 0 is nobody and has none
abbrev pub changed_of : ℕ → (UnitRecord → UnitRecord) → List UnitRecord → List UnitRecord
changed_of u change t = cond (eqb u 0) t (changed_at (u - 1) change t)

-- "A frame changes one record at most"; an answer with no frame before it belongs to nobody, and "is dropped"
abbrev pub noted : List UnitRecord → Finish → List UnitRecord
noted t Finish.Nothing = t
noted t (Finish.FrameTo u) = changed_of u with_frame t
noted t (Finish.AnswerOf u status) = changed_of u (with_answer status) t
