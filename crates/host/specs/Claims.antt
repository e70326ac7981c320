-- What is claimed of the host's lines: what is written reads back, what is left, which list is refused, and how it is spelled.
-- 01, "The host's list" and the host's row of the outcomes. Assumes nothing.
use Rattle.std.specs.Prelude.{ℕ, ◌+◌, ◌/◌, ◌%◌, ◌≤◌, ◌<◌, List, [], ◌∷◌, ◌++◌, Bool, true, false, cond, ◌≡◌, length, get_or, take, drop, None, Some, Result, Ok, Err}
use Rattle.parts.specs.Letters.{byte, bytes}
use Rattle.digits.specs.Decimal.{decimal}
use Rattle.commands.specs.declared.Command.{Command}
use Rattle.commands.specs.declared.Fault.{Fault}
use Rattle.commands.specs.declared.Command.TheVariants.{LoopBegin, LoopEnd, Skip, Jump, Plain}
use Rattle.commands.specs.declared.Act.TheVariants.{MoveTo, WaitInput}
use Rattle.commands.specs.Table.{one_of, command_of}
use Rattle.commands.specs.Writing.{spelled}
use Rattle.lines.specs.Bodies.{line_fault, line_code_lem}
use Rattle.lines.specs.Lists.{HostList, written_of, list_code_lem, list, list_of}
use Rattle.host.specs.declared.NotWritten.{NotWritten}
use Rattle.host.specs.declared.NotWritten.TheVariants.{Refused, NoRoom}
use Rattle.host.specs.Host.{host_list, code_of, place_of, fault_of, code_in, line_name, LineIs}

-- "the empty list": no slot, no commands, no `R`
abbrev pub empty_list : HostList
empty_list = record { slot = None; listed = []; run = false }

-- the letters with a number, "`G` always with its number"; those "as two digits"
abbrev pub numbered : List ℕ
numbered = bytes "APDzZVLfFmhjoJbMGe"

abbrev pub two_digited : List ℕ
two_digited = bytes "HS"

-- how a list is written: a slot, its commands one after another, and `R`; each command by its letter
pub record Written : Type 0 where
  pub slot : (n : ℕ) (cs : List Command) (run : Bool) → written_of (host_list (Some n) cs run) ≡ byte "s" ∷ (decimal n ++ written_of (host_list None cs run))
  pub more : (c : Command) (cs : List Command) (run : Bool) → written_of (host_list None (c ∷ cs) run) ≡ spelled c ++ written_of (host_list None cs run)
  pub end : (run : Bool) → written_of (host_list None [] run) ≡ cond run (bytes "R") []
  pub loop-begin : (n : ℕ) → spelled (command_of (byte "g") n) ≡ bytes "g"
  pub number : (l n : ℕ) → one_of numbered l ≡ true → spelled (command_of l n) ≡ l ∷ decimal n
  pub two_digits : (l n : ℕ) → one_of two_digited l ≡ true → n < 100 → spelled (command_of l n) ≡ l ∷ (byte "0" + n / 10) ∷ (byte "0" + n % 10) ∷ []
  -- "without leading zeros": only 0 begins with the digit 0
  pub no_leading_zero : (n : ℕ) → 1 ≤ n → get_or (decimal n) 0 0 ≡ byte "0" → ⊥

-- the list of K8's second line: `/1gA0S03e0G0R`
abbrev pub k8_list : HostList
k8_list = record { slot = None; listed = LoopBegin ∷ Plain (MoveTo 0) ∷ Skip 3 ∷ Jump 0 ∷ LoopEnd 0 ∷ []; run = true }

-- a wait at `H`, for slot 15
abbrev pub slot_list : HostList
slot_list = record { slot = Some 15; listed = Plain (WaitInput 2) ∷ []; run = true }

-- so many bytes were written: the list is taken, they fit, they read as the list, and bytes past them are as they were
pub record LineWrittenIs (l : HostList) (n : ℕ) (buffer after : List ℕ) : Type 0 where
  pub no_code : code_of l ≡ 0
  pub fits : n ≤ length buffer
  pub bytes : take n after ≡ written_of l
  pub reads_back : list_of (take n after) ≡ list l
  pub past-line : drop n after ≡ drop n buffer
  pub as_long : length after ≡ length buffer

-- refused with a code and a place: those of the list, and "buffer unchanged"
pub record LineRefusedIs (l : HostList) (f : Fault) (buffer after : List ℕ) : Type 0 where
  pub its_code : f.code ≡ code_of l
  pub its_place : f.place ≡ place_of l
  pub a_fault : one_of (2 ∷ 3 ∷ []) f.code ≡ true
  pub unchanged : after ≡ buffer

-- "then buffer too short": nothing else is wrong, and "buffer unchanged"
pub record LineShortIs (l : HostList) (buffer after : List ℕ) : Type 0 where
  pub no_code : code_of l ≡ 0
  pub too_short : length buffer < length (written_of l)
  pub unchanged : after ≡ buffer

pub record HostClaims : Type 0 where
  -- what each answer says: demand 2's reading back, slot, commands and `R` included, by the reading that a drive uses
  pub written : {l : HostList} {n : ℕ} {buffer after : List ℕ} → LineIs l buffer (Ok n) after
      → LineWrittenIs l n buffer after
  pub refused : {l : HostList} {f : Fault} {buffer after : List ℕ} → LineIs l buffer (Err (Refused f)) after
      → LineRefusedIs l f buffer after
  pub short : {l : HostList} {buffer after : List ℕ} → LineIs l buffer (Err NoRoom) after
      → LineShortIs l buffer after
  -- each answer by its name, and wherever it may come: first the code, then the room
  pub refused_where : {l : HostList} {buffer after : List ℕ} {answer : Result ℕ NotWritten} → LineIs l buffer answer after
      → (code_of l ≡ 0 → ⊥) → (line_name answer ≡ "the line check's code") × (code_in answer ≡ code_of l)
  pub written_where : {l : HostList} {buffer after : List ℕ} {answer : Result ℕ NotWritten} → LineIs l buffer answer after
      → code_of l ≡ 0 → length (written_of l) ≤ length buffer → (line_name answer ≡ "written") × (answer ≡ Ok (length (written_of l)))
  pub short_where : {l : HostList} {buffer after : List ℕ} {answer : Result ℕ NotWritten} → LineIs l buffer answer after
      → code_of l ≡ 0 → length buffer < length (written_of l) → line_name answer ≡ "buffer too short"
  -- "list that the line check refuses": the code is the line check's, of the line as it is written
  pub line_check : (l : HostList) → code_of l ≡ line_code_lem (written_of l)
  -- 02, E6: so is the place; a line that passes 256 bytes has none
  pub line-place : (l : HostList) → fault_of l ≡ line_fault (written_of l)
  pub no_place : (l : HostList) → 256 < length (written_of l) → place_of l ≡ 0
  -- "or whose line passes 256 bytes": so does every list of more than 256 commands
  pub too_many : (l : HostList) → 256 < length l.listed → list_code_lem l ≡ 2
  pub count-over : (l : HostList) → 256 < length l.listed → code_of l ≡ 2
  -- "an empty body reads as the empty list", and the empty list is written as the empty body
  pub empty-reads : list_of [] ≡ list empty_list
  pub empty-written : written_of empty_list ≡ []
  pub empty-answer : {buffer after : List ℕ} {answer : Result ℕ NotWritten} → LineIs empty_list buffer answer after → (answer ≡ Ok 0) × (after ≡ buffer)
  -- "operands without leading zeros, `H` and `S` as two digits, `G` always with its number"
  pub how-written : Written
  -- no two lists that are taken are written alike
  pub written_apart : (l m : HostList) → list_code_lem l ≡ 0 → list_code_lem m ≡ 0 → written_of l ≡ written_of m → l ≡ m
  -- the list of K8's second line, and one with a slot
  pub k8_written : written_of k8_list ≡ bytes "gA0S03e0G0R"
  pub slot-written : written_of slot_list ≡ bytes "s15H02R"
