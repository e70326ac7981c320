-- What is claimed of lines: which are taken, said of lists of commands and not by reading bytes; and what a taken text has.
-- 01, "Lines", "The host's list", "Structure". Assumes nothing.
use Rattle.std.specs.Prelude.{ℕ, ◌+◌, ◌-◌, ◌≤◌, ◌<◌, List, [], ◌∷◌, ◌++◌, Bool, true, false, cond, ◌&&◌, ◌↔◌, ◌≡◌, length, get_or, take, Ok, Err}
use Rattle.parts.specs.Parts.{part, most_bytes}
use Rattle.parts.specs.Letters.{byte, bytes}
use Rattle.commands.specs.declared.Command.{Command}
use Rattle.digits.specs.Operand.{operand_most, few_digits}
use Rattle.digits.specs.ReadBack.{spelling}
use Rattle.commands.specs.declared.Read.TheVariants.{At, Bad}
use Rattle.commands.specs.Table.{one_of}
use Rattle.commands.specs.declared.Fault.{Fault}
use Rattle.commands.specs.Reading.{fault, read_at}
use Rattle.lines.specs.declared.Body.{Body}
use Rattle.lines.specs.declared.Taken.{Taken}
use Rattle.lines.specs.Texts.{Placed, unplaced, goes_on_lem, reading_from, structured, storable, fault_places, stored_places, leftmost, text_good_by, text_good, older_good}
use Rattle.lines.specs.Bodies.{body_of, text_end, line_of, taken_code, line_checked, line_fault, line_code_lem}
use Rattle.lines.specs.Lists.{HostList, run_text, written_of, all_in_range, slot_in_range, shaped, list_fault, list_code_lem, list, list_of, Spells}
use Rattle.lines.specs.Loops.{Enclosed, enclosing, Checked, Lawful}
use Rattle.lines.specs.Examples.{examples, leftmosts, each, olders, each_older, operands, each_operand}

-- a body of at most 256 bytes spells a list with nothing wrong in it
pub record SpelledAs (l : HostList) (b : List ℕ) : Type 0 where
  pub short : length b ≤ most_bytes
  pub spells : Spells l b
  pub no_fault_lem : list_fault l ≡ 0

-- such a list, and that the body reads as it
pub record Spelled (b : List ℕ) : Type 0 where
  pub means : HostList
  pub spelled : SpelledAs means b
  pub reads : list_of b ≡ list means

-- what is stored from a line: "a slot 0 to 15", "the text between slot and `R`", which passes "the check for stored text"
pub record StoredFrom (b : List ℕ) (slot at n : ℕ) : Type 0 where
  pub slot-most : slot ≤ 15
  pub inside : at + n ≤ length b
  pub good : text_good (part b at n) ≡ true
  -- the body is `s`, the slot, that text and `R`: "leading zeros allowed"
  pub zeros : ℕ
  pub whole : b ≡ byte "s" ∷ (spelling zeros slot ++ (part b at n ++ bytes "R"))

-- what becomes the current text: the first bytes of the body, checked
pub record TakenFrom (b : List ℕ) (n : ℕ) (run : Bool) : Type 0 where
  pub inside : n ≤ length b
  pub checked : Checked (take n b)
  -- the body is that text, "then optionally one `R`"
  pub whole : b ≡ take n b ++ run_text run

-- the least of some places
pub record Leftmost (ps : List ℕ) (p : ℕ) : Type 0 where
  pub there : one_of ps p ≡ true
  pub least : (q : ℕ) → one_of ps q ≡ true → p ≤ q

-- a body cut before a place, and run
abbrev pub cut_at : ℕ → List ℕ → List ℕ
cut_at p b = take (p - 1) b ++ bytes "R"

-- what stands before a place reads as commands without fault: cut there and run, the body is taken up to structure
pub record ReadsBefore (b : List ℕ) (p : ℕ) : Type 0 where
  pub means : HostList
  pub spells : Spells means (cut_at p b)
  pub in-range : (slot_in_range means.slot && all_in_range means.listed) ≡ true
  pub taken : line_code_lem (cut_at p b) ≡ cond (shaped means.slot means.listed means.run) 0 2

-- why a line is refused, and where: all of it reads and its structure is at fault; or a command of it is bad, told at its first byte;
-- or the slot is, told at the `s`
pub data Because (b : List ℕ) (f : Fault) : Type 0 where
  by_structure : (l : HostList) → Spells l b → list_fault l ≡ 2 → f.code ≡ 2 → Because b f
  by_command : read_at (take (text_end b) b) (f.place - 1) ≡ Bad f.code f.place → ReadsBefore b f.place → Because b f
  by_slot : get_or b 0 0 ≡ byte "s" → f ≡ fault 3 1 → ReadsBefore b 1 → Because b f

-- a fault at one of n bytes, or just behind them
pub record PlacedIn (n : ℕ) (f : Fault) : Type 0 where
  pub first : 1 ≤ f.place
  pub last : f.place ≤ n + 1

pub record LineClaims : Type 0 where
  -- every list, written as a body, gets the code of the list, by its length, its ranges and its structure
  pub list_code : (l : HostList) → line_code_lem (written_of l) ≡ list_code_lem l
  -- a list that is taken reads back, slot and `R` included
  pub reads_back : (l : HostList) → list_code_lem l ≡ 0 → list_of (written_of l) ≡ list l
  -- what the host writes of a list in range is a spelling of it
  pub written-spells : (l : HostList) → (slot_in_range l.slot && all_in_range l.listed) ≡ true → Spells l (written_of l)
  -- every spelling, leading zeros and a bare `G` or `H` too, is taken and reads as its list: no line is refused that 01 takes
  pub spelled-taken : {l : HostList} {b : List ℕ} → SpelledAs l b → (line_code_lem b ≡ 0) × (list_of b ≡ list l)
  -- nothing else reads as a list, and what is taken as a line or a store reads as one: no line is taken that 01 refuses
  pub reads-spelled : (b : List ℕ) (l : HostList) → list_of b ≡ list l → SpelledAs l b
  pub taken-spelled : (b : List ℕ) → body_of b ≡ Ok Body.Line → taken_code (line_of b) ≡ 0 → Spelled b
  -- 02, E9: what is taken has no run of more than ten digits, in its slot neither, and what is checked has none
  pub taken-few : (b : List ℕ) → body_of b ≡ Ok Body.Line → taken_code (line_of b) ≡ 0 → few_digits operand_most b ≡ true
  pub checked-few : (t : List ℕ) → Checked t → few_digits operand_most t ≡ true
  -- "also in stored text": that, and nothing else, is new; the older reading has no limit, since a greater one reads the same
  pub good-now : (t : List ℕ) → text_good t ≡ older_good t && few_digits operand_most t
  pub older-most : (most : ℕ) (t : List ℕ) → most_bytes ≤ most → text_good_by most t ≡ older_good t
  -- "(2)", "(3)": there is no other code
  pub codes : (b : List ℕ) → one_of (0 ∷ 2 ∷ 3 ∷ []) (line_code_lem b) ≡ true
  -- the code 0 is the answer that nothing is wrong, and no fault that is told has it
  pub checked_taken : (b : List ℕ) → line_code_lem b ≡ 0 → line_checked b ≡ Ok tt
  pub checked_refused : (b : List ℕ) → (line_code_lem b ≡ 0 → ⊥) → line_checked b ≡ Err (line_fault b)
  -- "the first fault from the left": a text read from a place is its command there, then the text read from behind it
  pub from_the_left : (t : List ℕ) (at : ℕ) → reading_from t at ≡ goes_on_lem at (read_at t at) (λ n. reading_from t n)
  -- a command ends within its text: with its spelling (`CommandAt`) that leaves one next place
  pub next_place : (t : List ℕ) (at : ℕ) (c : Command) (next : ℕ) → read_at t at ≡ At c next → (at < next) × (next ≤ length t)
  -- 02, E6: there is a faulty place exactly where the structure is broken; of a store also its count and its `R`
  pub no_place : (cs : List Placed) → (fault_places [] cs ≡ []) ↔ (structured 0 (unplaced cs) ≡ true)
  pub no_place-stored : (run : Bool) (long : ℕ) (cs : List Placed) → (stored_places run long cs ≡ []) ↔ ((storable (unplaced cs) && run) ≡ true)
  -- "the leftmost of"
  pub the_leftmost : (p : ℕ) (ps : List ℕ) → one_of (p ∷ ps) 0 ≡ false → Leftmost (p ∷ ps) (leftmost (p ∷ ps))
  -- "counting body bytes from 1": what is refused, but for its length, has a place, and what is taken none; "an overlong body has no place"
  pub place-there : (b : List ℕ) → length b ≤ most_bytes → (line_code_lem b ≡ 0 → ⊥) → PlacedIn (length b) (line_fault b)
  pub place_none : (b : List ℕ) → line_code_lem b ≡ 0 → (line_fault b).place ≡ 0
  pub place-most : (b : List ℕ) → (line_fault b).place ≤ most_bytes + 1
  pub over-long : (b : List ℕ) → most_bytes < length b → line_fault b ≡ fault 2 0
  -- a refused line has one of three reasons; what stands before a fault of the reading is good up to structure
  pub because : (b : List ℕ) (f : Fault) → body_of b ≡ Ok Body.Line → line_of b ≡ Err f → Because b f
  -- what is stored may be stored, and may run
  pub stored : (b : List ℕ) (slot at n : ℕ) → line_of b ≡ Ok (Taken.Store slot at n) → length b ≤ most_bytes
      → StoredFrom b slot at n
  pub stored-checked : (t : List ℕ) → text_good t ≡ true → Checked t
  -- "its commands, one or more, become the current text"
  pub held : (b : List ℕ) (n : ℕ) (run : Bool) → line_of b ≡ Ok (Taken.Line n run) → TakenFrom b n run
  pub one-or-more : (b : List ℕ) (n : ℕ) (run : Bool) → body_of b ≡ Ok Body.Line → line_of b ≡ Ok (Taken.Line n run) → 1 ≤ n
  -- each place of a checked text: no fault, no fifth loop, no `G` without its `g`, no `S` before one, all closed at the end
  pub lawful : {t : List ℕ} {at : ℕ} {starts : List ℕ} → Checked t → Enclosed t at starts
      → Lawful t (length starts) (read_at t at)
  -- "at most four open"
  pub at_most-four : {t : List ℕ} {at : ℕ} {starts : List ℕ} → Checked t → Enclosed t at starts → length starts ≤ 4
  -- the loops open at a place are those that enclose it, whatever way was run
  pub enclosed_by : {t : List ℕ} {at : ℕ} {starts : List ℕ} → Enclosed t at starts → starts ≡ enclosing t at
  -- K5 to K8, K11 and the edges around them
  pub edges : each examples ≡ true
  -- "the first fault from the left .. then structure"; 02, E6: "the leftmost of"
  pub first-told : each leftmosts ≡ true
  -- 02, E9: stored texts at the edges of ten digits
  pub older-edges : each_older olders ≡ true
  -- the table of commands: the last good and the first bad operand of every row
  pub ranges : each_operand operands ≡ true
