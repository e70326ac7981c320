-- The host's side: a line written from a list of commands. 01, "The host's list" and the host's row of the outcomes.
-- Assumes nothing.
use Rattle.std.specs.Prelude.{ℕ, List, Bool, cond, ◌≡◌, length, ltb, eqb, Option, Result, Ok, Err}
use Prim.Native.String.{String}
use Rattle.parts.specs.Parts.{fits_at, put, most_bytes}
use Rattle.commands.specs.declared.Command.{Command}
use Rattle.commands.specs.declared.Fault.{Fault}
use Rattle.commands.specs.Reading.{fault, malformed}
use Rattle.lines.specs.Bodies.{line_fault}
use Rattle.lines.specs.Lists.{HostList, written_of, list_code_lem}
use Rattle.host.specs.declared.NotWritten.{NotWritten}
use Rattle.host.specs.declared.NotWritten.TheVariants.{Refused, NoRoom}

-- "a slot or none, commands, and `R` or none"
abbrev pub host_list : Option ℕ → List Command → Bool → HostList
host_list slot commands run = record { slot = slot; listed = commands; run = run }

-- "list that the line check refuses or whose line passes 256 bytes": more than 256 commands do, as each has a byte at least
unfoldable pub code_of : HostList → ℕ
code_of l = cond (ltb most_bytes (length l.listed)) malformed (list_code_lem l)

-- 02, E6: the place of the fault, as the line check tells it of the line; "an overlong body has no place"
unfoldable pub place_of : HostList → ℕ
place_of l = cond (ltb most_bytes (length l.listed)) 0 (line_fault (written_of l)).place

abbrev pub fault_of : HostList → Fault
fault_of l = fault (code_of l) (place_of l)

-- "then buffer too short": so many bytes, or that there is no room for them
abbrev pub fitted : List ℕ → ℕ → Result ℕ NotWritten
fitted buffer n = cond (fits_at buffer 0 n) (Ok n) (Err NoRoom)

-- "that code, or named refusal"; with the code its place
unfoldable pub answer_of : HostList → List ℕ → Result ℕ NotWritten
answer_of l buffer = cond (eqb (code_of l) 0) (fitted buffer (length (written_of l))) (Err (Refused (fault_of l)))

-- the code in each answer; "named refusal" is no code
abbrev pub code_in : Result ℕ NotWritten → ℕ
code_in (Ok n) = 0
code_in (Err (Refused f)) = f.code
code_in (Err NoRoom) = 0

-- and its name: "that code, or named refusal"
abbrev pub line_name : Result ℕ NotWritten → String
line_name (Ok n) = "written"
line_name (Err (Refused f)) = "the line check's code"
line_name (Err NoRoom) = "buffer too short"

-- what each answer leaves: the line at the front, bytes past it unchanged; else "buffer unchanged"
abbrev pub left_by_lem : Result ℕ NotWritten → HostList → List ℕ → List ℕ
left_by_lem (Ok n) l buffer = put buffer 0 (written_of l)
left_by_lem (Err e) l buffer = buffer

-- the answer and the buffer after a list was to be written
pub record LineIs (l : HostList) (buffer : List ℕ) (answer : Result ℕ NotWritten) (after : List ℕ) : Type 0 where
  pub answers : answer ≡ answer_of l buffer
  pub leaves : after ≡ left_by_lem (answer_of l buffer) l buffer
