-- For the code: the place of the record that something finished is about, and what becomes of that record; and a line, made piece by
-- piece.
-- Assumes nothing.
use Rattle.std.specs.Prelude.{ℕ, ◌+◌, ◌-◌, cond, List, [], ◌∷◌, eqb, length}
use Rattle.parts.specs.Parts.{put, fits_at}
use Rattle.listening.specs.declared.UnitRecord.{UnitRecord}
use Rattle.listening.specs.declared.Finish.{Finish}
use Rattle.listening.specs.declared.Line.{Line}
use Rattle.listening.specs.Table.{with_frame, with_answer}

-- 0 where it is about none
abbrev pub record_place : Finish → ℕ
record_place Finish.Nothing = 0
record_place (Finish.FrameTo u) = u - 1
record_place (Finish.AnswerOf u status) = u - 1

-- and then the record there stays as it was
abbrev pub with_finish : UnitRecord → Finish → UnitRecord
with_finish r Finish.Nothing = r
with_finish r (Finish.FrameTo u) = cond (eqb u 0) r (with_frame r)
with_finish r (Finish.AnswerOf u status) = cond (eqb u 0) r (with_answer status r)

-- a line with a text behind it; where that does not fit, the line as it was
unfoldable pub added : Line → List ℕ → Line
added l s =
    cond (fits_at l.bytes l.length (length s)) (record { bytes = put l.bytes l.length s; length = l.length + length s }) l

-- the same byte by byte
abbrev pub added_each : Line → List ℕ → Line
added_each l [] = l
added_each l (b ∷ bs) = added_each (added l (b ∷ [])) bs
