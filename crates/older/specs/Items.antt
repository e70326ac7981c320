-- A text of one drive for the other: read past its faults, the leftmost told, written plainly. 02, E12. Assumes nothing.
use Rattle.std.specs.Prelude.{ℕ, zero, suc, ◌+◌, List, [], ◌∷◌, Bool, false, cond, ◌||◌, ◌≡◌, length, get_or, ltb, eqb, Result, Ok, Err}
use Prim.Native.String.{String}
use Rattle.parts.specs.Parts.{fits_at, put}
use Rattle.parts.specs.Letters.{byte}
use Rattle.digits.specs.declared.Operand.{Operand}
use Rattle.digits.specs.declared.Operand.TheVariants.{Missing, Number, Above}
use Rattle.digits.specs.Operand.{operand_at}
use Rattle.commands.specs.declared.Command.{Command}
use Rattle.commands.specs.declared.Command.TheVariants.{LoopEnd, Skip, Jump}
use Rattle.commands.specs.declared.Read.{Read}
use Rattle.commands.specs.declared.Read.TheVariants.{At, Bad, End}
use Rattle.commands.specs.Reading.{read_at}
use Rattle.lines.specs.Texts.{Placed, placed, most_stored, fault_places, left_of, leftmost}
use Rattle.lines.specs.Lists.{commands_text}
use Rattle.older.specs.declared.Way.{Way}
use Rattle.older.specs.declared.Way.TheVariants.{Inward, Outward}
use Rattle.older.specs.declared.Stands.{Stands}
use Rattle.older.specs.declared.Stands.TheVariants.{Carries, Lacks, Unfit, Ends}
use Rattle.older.specs.declared.Why.{Why}
use Rattle.older.specs.declared.Why.TheVariants.{BadLetter, BadOperand, BadStructure, PastMost}
use Rattle.older.specs.declared.Refusal.{Refusal}
use Rattle.older.specs.declared.Translated.{Translated}
use Rattle.older.specs.declared.NotTranslated.{NotTranslated}
use Rattle.older.specs.declared.NotTranslated.TheVariants.{Refused, NoRoom}
use Rattle.older.specs.Older.{both_have, older_takes, sets_ramp, becomes}

-- ---- what stands at a place

-- what a bad command is for the structure: a `G` or an `S` still, else neither loop nor skip
abbrev pub stand_in : ℕ → Command
stand_in l = cond (eqb l (byte "G")) (LoopEnd 0) (cond (eqb l (byte "S")) (Skip 0) (Jump 0))

-- behind the digits that begin at a place
abbrev pub past_operand : ℕ → Operand → ℕ
past_operand at Missing = at
past_operand at (Number n next) = next
past_operand at (Above next) = next

-- "an operand missing or outside either range"
abbrev pub stands_read : Way → List ℕ → ℕ → Read → Stands
stands_read w t at (At c next) = cond (older_takes w c) (Carries (becomes w c) next) (Unfit (stand_in (get_or t at 0)) next)
stands_read w t at (Bad code place) = Unfit (stand_in (get_or t at 0)) (past_operand (at + 1) (operand_at t (at + 1)))
stands_read w t at End = Ends

-- "a letter that the other side lacks", whatever stands behind it
unfoldable pub stands_at : Way → List ℕ → ℕ → Stands
stands_at w t at = cond (ltb at (length t)) (cond (both_have (get_or t at 0)) (stands_read w t at (read_at t at)) Lacks) Ends

-- ---- the whole text, read past its faults

-- at the place of its first byte, counting from 1: a command as the other drive has it, a letter, or a bad command
pub data Item : Type 0 where
  carries : ℕ → Command → Item
  lacks : ℕ → Item
  unfit : ℕ → Command → Item

abbrev pub items_on : ℕ → Stands → (ℕ → List Item) → List Item
items_on at (Carries c next) rest = carries (at + 1) c ∷ rest next
items_on at Lacks rest = lacks (at + 1) ∷ rest (at + 1)
items_on at (Unfit c next) rest = unfit (at + 1) c ∷ rest next
items_on at Ends rest = []

-- in at most so many items; each is a byte long at least, so the text's length is enough
unfoldable pub items_in : ℕ → Way → List ℕ → ℕ → List Item
items_in zero w t at = []
items_in (suc k) w t at = items_on at (stands_at w t at) (λ next. items_in k w t next)

unfoldable pub items_from : Way → List ℕ → ℕ → List Item
items_from w t at = items_in (length t) w t at

-- ---- "by name with the place, leftmost first"

-- "a letter"
unfoldable pub letter_places : List Item → List ℕ
letter_places [] = []
letter_places (carries p c ∷ is) = letter_places is
letter_places (lacks p ∷ is) = p ∷ letter_places is
letter_places (unfit p c ∷ is) = letter_places is

-- "an operand"
unfoldable pub operand_places : List Item → List ℕ
operand_places [] = []
operand_places (carries p c ∷ is) = operand_places is
operand_places (lacks p ∷ is) = operand_places is
operand_places (unfit p c ∷ is) = p ∷ operand_places is

-- "a structure fault" (`fault_places`) and the count are of all that stands there, good or bad
abbrev pub item_placed : Item → Placed
item_placed (carries p c) = placed p c
item_placed (lacks p) = placed p (stand_in 0)
item_placed (unfit p c) = placed p c

unfoldable pub items_placed : List Item → List Placed
items_placed [] = []
items_placed (i ∷ is) = item_placed i ∷ items_placed is

-- "14 inward or 25 outward"
abbrev pub most_carried : Way → ℕ
most_carried Inward = most_stored
most_carried Outward = 25

-- "a command past" so many
unfoldable pub places_past : ℕ → List Placed → List ℕ
places_past k [] = []
places_past zero (placed p c ∷ cs) = p ∷ places_past zero cs
places_past (suc k) (placed p c ∷ cs) = places_past k cs

abbrev pub refusal : Why → ℕ → Refusal
refusal why p = record { why = why; place = p }

-- "leftmost first"; "at one place in this order": the first of the two, unless the other is further to the left. A place 0 is none
abbrev pub sooner : Refusal → Refusal → Refusal
sooner a b = cond (eqb a.place (left_of a.place b.place)) a b

-- "a letter .., an operand .., a structure fault, a command past ..": the leftmost places in this order
abbrev pub soonest : ℕ → ℕ → ℕ → ℕ → Refusal
soonest l o s m = sooner (refusal BadLetter l) (sooner (refusal BadOperand o) (sooner (refusal BadStructure s) (refusal PastMost m)))

unfoldable pub refusal_of : Way → List Item → Refusal
refusal_of w is =
    soonest (leftmost (letter_places is)) (leftmost (operand_places is)) (leftmost (fault_places [] (items_placed is)))
    (leftmost (places_past (most_carried w) (items_placed is)))

-- ---- what is written

-- the commands as the other drive has them
unfoldable pub carried_commands : List Item → List Command
carried_commands [] = []
carried_commands (carries p c ∷ is) = c ∷ carried_commands is
carried_commands (lacks p ∷ is) = carried_commands is
carried_commands (unfit p c ∷ is) = carried_commands is

-- plainly: "without leading zeros", `G` with its number, `H` and `S` as two digits
abbrev pub text_for : Way → List ℕ → List ℕ
text_for w t = commands_text (carried_commands (items_from w t 0))

-- "the answer says that a ramp was slowed"
unfoldable pub any_ramp : List Command → Bool
any_ramp [] = false
any_ramp (c ∷ cs) = sets_ramp c || any_ramp cs

-- whether a ramp was slowed, where nothing is refused; a place 0 is none
abbrev pub judged_as : Refusal → Bool → Result Bool Refusal
judged_as f slowed = cond (eqb f.place 0) (Ok slowed) (Err f)

-- how a whole text is judged
abbrev pub judged_for : Way → List Item → Result Bool Refusal
judged_for w is = judged_as (refusal_of w is) (any_ramp (carried_commands is))

-- ---- the answer

-- so many bytes, and whether a ramp was slowed
abbrev pub translated : ℕ → Bool → Translated
translated n slowed = record { length = n; slowed = slowed }

-- the text, where nothing is refused and the buffer has room for it
abbrev pub translated_as : Result Bool Refusal → ℕ → List ℕ → Result Translated NotTranslated
translated_as (Ok slowed) n buffer = cond (fits_at buffer 0 n) (Ok (translated n slowed)) (Err NoRoom)
translated_as (Err f) n buffer = Err (Refused f)

unfoldable pub translated_of : Way → List ℕ → List ℕ → Result Translated NotTranslated
translated_of w t buffer = translated_as (judged_for w (items_from w t 0)) (length (text_for w t)) buffer

-- what each answer leaves: the text at the front, bytes past it unchanged; refused, the buffer as it was
abbrev pub left_for : Result Translated NotTranslated → List ℕ → List ℕ → List ℕ
left_for (Ok t) text buffer = put buffer 0 text
left_for (Err e) text buffer = buffer

-- the answer and the buffer after a text was to be read or written back
pub record TranslatedIs (w : Way) (t buffer : List ℕ) (answer : Result Translated NotTranslated) (after : List ℕ) : Type 0 where
  pub answers : answer ≡ translated_of w t buffer
  pub leaves : after ≡ left_for (translated_of w t buffer) (text_for w t) buffer

-- "by name"
abbrev pub why_name : Why → String
why_name BadLetter = "letter"
why_name BadOperand = "operand"
why_name BadStructure = "structure"
why_name PastMost = "commands"
