-- Texts and what is answered of them: 02's example, and edges around its sentences. 02, E12. Assumes nothing.
use Rattle.std.specs.Prelude.{ℕ, List, [], ◌∷◌, Bool, true, false, Result, Ok, Err}
use Prim.Native.String as Text
use Rattle.parts.specs.Letters.{bytes}
use Rattle.older.specs.declared.Way.{Way}
use Rattle.older.specs.declared.Way.TheVariants.{Inward, Outward}
use Rattle.older.specs.declared.Why.{Why}
use Rattle.older.specs.declared.Why.TheVariants.{BadLetter, BadOperand, BadStructure, PastMost}
use Rattle.older.specs.declared.Refusal.{Refusal}
use Rattle.older.specs.Items.{refusal, items_from, judged_for, text_for}

-- a text on the other drive, and whether a ramp was slowed; or why it is refused
pub data Crossed : Type 0 where
  gives : List ℕ → Bool → Crossed
  refuses : Refusal → Crossed

abbrev pub outcome_as : Result Bool Refusal → List ℕ → Crossed
outcome_as (Ok slowed) t = gives t slowed
outcome_as (Err f) t = refuses f

unfoldable pub outcome : Way → List ℕ → Crossed
outcome w t = outcome_as (judged_for w (items_from w t 0)) (text_for w t)

pub record OlderExample : Type 0 where
  pub way : Way
  pub text : List ℕ
  pub told : Crossed

-- a text that goes over as another, and one that is refused
abbrev pub goes_as : Way → Text.String → Text.String → Bool → OlderExample
goes_as w t r s = record { way = w; text = bytes t; told = gives (bytes r) s }

abbrev pub stays_out : Way → Text.String → Why → ℕ → OlderExample
stays_out w t why p = record { way = w; text = bytes t; told = refuses (refusal why p) }

unfoldable pub older_examples : List OlderExample
older_examples =
    -- "so 20 becomes 24"; 1 to 20 alone
    goes_as Inward "L20" "L24" true
    ∷ goes_as Inward "L1" "L1" true
    ∷ goes_as Inward "L10" "L12" true
    ∷ stays_out Inward "L21" BadOperand 1
    ∷ stays_out Inward "L0" BadOperand 1
    -- "writing back takes the greatest x"; "y = 1 has no x"; 26 and more have none up to 20
    ∷ stays_out Outward "L1" BadOperand 1
    ∷ goes_as Outward "L2" "L1" true
    ∷ goes_as Outward "L24" "L19" true
    ∷ goes_as Outward "L25" "L20" true
    ∷ stays_out Outward "L26" BadOperand 1
    ∷ stays_out Outward "L65000" BadOperand 1
    -- every letter that both have, at its ends
    ∷ goes_as Inward "A2147483647P0D1z2Z3V50f1m100h50j2J3M30000e15H14" "A2147483647P0D1z2Z3V50f1m100h50j2J3M30000e15H14" false
    ∷ goes_as Outward "V10000j256" "V10000j256" false
    -- "outside either range"
    ∷ stays_out Inward "V49" BadOperand 1
    ∷ stays_out Outward "V10001" BadOperand 1
    ∷ stays_out Outward "j1" BadOperand 1
    ∷ stays_out Inward "j3" BadOperand 1
    ∷ stays_out Inward "o100" BadOperand 1
    ∷ stays_out Outward "o1500" BadOperand 1
    ∷ stays_out Inward "A2147483648" BadOperand 1
    ∷ stays_out Inward "M30001" BadOperand 1
    -- "missing"
    ∷ stays_out Inward "P1A" BadOperand 3
    -- "a letter that the other side lacks": ours lacks `v`, the older drive `F` and `b`, whatever their operand is; no command at all
    ∷ stays_out Inward "v500" BadLetter 1
    ∷ stays_out Outward "F1" BadLetter 1
    ∷ stays_out Inward "F9" BadLetter 1
    ∷ stays_out Outward "P1b9600" BadLetter 3
    ∷ stays_out Inward "x" BadLetter 1
    ∷ stays_out Inward "A5R" BadLetter 3
    ∷ stays_out Inward "g5G2" BadLetter 2
    -- "leftmost first": a fault further to the right is not told
    ∷ stays_out Inward "gP1" BadStructure 1
    ∷ stays_out Inward "gx" BadStructure 1
    ∷ stays_out Inward "gxG2" BadLetter 2
    ∷ stays_out Inward "A1xL99G1" BadLetter 3
    ∷ stays_out Inward "A1L99xG1" BadOperand 3
    ∷ stays_out Inward "S01xG1" BadLetter 4
    ∷ stays_out Inward "S01g" BadStructure 1
    -- a `G` or an `S` with a bad operand is still one
    ∷ stays_out Inward "gG99999" BadOperand 2
    ∷ stays_out Inward "S01G99999" BadStructure 1
    ∷ stays_out Inward "gS99G1" BadOperand 2
    -- "at one place in this order": an operand before a structure fault, that before a command past the most
    ∷ stays_out Inward "G1" BadStructure 1
    ∷ stays_out Inward "G99999" BadOperand 1
    ∷ stays_out Inward "P1P1P1P1P1P1P1P1P1P1P1P1P1P1x" BadLetter 29
    ∷ stays_out Inward "P1P1P1P1P1P1P1P1P1P1P1P1P1P1A" BadOperand 29
    ∷ stays_out Inward "P1P1P1P1P1P1P1P1P1P1P1P1P1P1G1" BadStructure 29
    -- "a command past 14 inward or 25 outward"
    ∷ goes_as Inward "P1P1P1P1P1P1P1P1P1P1P1P1P1P1" "P1P1P1P1P1P1P1P1P1P1P1P1P1P1" false
    ∷ stays_out Inward "P1P1P1P1P1P1P1P1P1P1P1P1P1P1P1" PastMost 29
    ∷ goes_as Outward "P1P1P1P1P1P1P1P1P1P1P1P1P1P1P1P1P1P1P1P1P1P1P1P1P1" "P1P1P1P1P1P1P1P1P1P1P1P1P1P1P1P1P1P1P1P1P1P1P1P1P1" false
    ∷ stays_out Outward "P1P1P1P1P1P1P1P1P1P1P1P1P1P1P1P1P1P1P1P1P1P1P1P1P1P1" PastMost 51
    -- written plainly: bare `G` and `H`, leading zeros; eleven digits are too many (E9)
    ∷ goes_as Inward "gHGS01H02" "gH02G0S01H02" false
    ∷ goes_as Inward "A0000000005L020" "A5L24" true
    ∷ stays_out Inward "A00000000005" BadOperand 1
    -- nothing
    ∷ goes_as Inward "" "" false
    ∷ []

unfoldable pub outcomes : List OlderExample → List Crossed
outcomes [] = []
outcomes (e ∷ es) = outcome e.way e.text ∷ outcomes es

unfoldable pub expected : List OlderExample → List Crossed
expected [] = []
expected (e ∷ es) = e.told ∷ expected es
