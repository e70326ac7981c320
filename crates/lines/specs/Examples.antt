-- Bodies, the codes that an idle unit gives them, 0 where it takes them, and the places of their faults, 0 where there is none:
-- K5 to K8 and K11 of 01, and edges around them.
-- Assumes nothing.
use Rattle.std.specs.Prelude.{ℕ, zero, suc, List, [], ◌∷◌, ◌++◌, Bool, true, false, ◌&&◌, not, replicate, eqb}
use Prim.Native.String as Text
use Rattle.parts.specs.Letters.{byte, bytes}
use Rattle.commands.specs.Reading.{out_of_range}
use Rattle.lines.specs.Texts.{text_good, older_good}
use Rattle.lines.specs.Bodies.{line_fault, line_code_lem}

-- so many times the same bytes
unfoldable pub many : ℕ → List ℕ → List ℕ
many zero b = []
many (suc k) b = b ++ many k b

pub record Example : Type 0 where
  pub body : List ℕ
  pub gives : ℕ
  pub place : ℕ

abbrev pub example : List ℕ → ℕ → ℕ → Example
example b c p = record { body = b; gives = c; place = p }

unfoldable pub examples : List Example
examples =
    -- K5
    example (bytes "A2147483647R") 0 0
    ∷ example (bytes "A2147483648R") 3 1
    -- "Reading digits into 32 bits and testing after: 4294967297 becomes 1"
    ∷ example (bytes "A4294967297R") 3 1
    -- K6, K7: "at most four open", "each `G` closes the nearest open `g`"; 02, E6: "a fifth `g` (it still opens)"
    ∷ example (bytes "ggggP1G2G2G2G2R") 0 0
    ∷ example (bytes "gggggP1G2G2G2G2G2R") 2 5
    ∷ example (bytes "gggggP1G1G1G1G1G1G1R") 2 5
    ∷ example (bytes "G1R") 2 1
    ∷ example (bytes "gP1R") 2 1
    -- K8: "`S` is neither last nor directly before `g` or `G`"
    ∷ example (bytes "gS03G2R") 2 2
    ∷ example (bytes "gA0S03e0G0R") 0 0
    ∷ example (bytes "S03R") 2 1
    -- K11
    ∷ example (bytes "j3R") 3 1
    ∷ example (bytes "L0R") 3 1
    ∷ example (bytes "V0R") 3 1
    -- "`H013` gives 3 and `g5` gives 2"
    ∷ example (bytes "H013R") 3 1
    ∷ example (bytes "g5R") 2 2
    -- "then optionally one `R`"; "an `R`, `X` or `s` anywhere else is itself the misplaced letter"
    ∷ example (bytes "A5") 0 0
    ∷ example (bytes "RR") 2 1
    ∷ example (bytes "A5RA6") 2 3
    ∷ example (bytes "A5s3R") 2 3
    ∷ example (bytes "XX") 2 1
    -- "`s` and a slot 0 to 15", "0 to 14 commands and a required `R`"
    ∷ example (bytes "s3R") 0 0
    ∷ example (bytes "s16R") 3 1
    ∷ example (bytes "s3A5") 2 5
    ∷ example (bytes "s0z0z0z0z0z0z0z0z0z0z0z0z0z0z0R") 0 0
    ∷ example (bytes "s0z0z0z0z0z0z0z0z0z0z0z0z0z0z0z0R") 2 31
    ∷ example (bytes "s0z0z0z0z0z0z0z0z0z0z0z0z0z0z0z0") 2 31
    -- "Immediate bodies"; "`R` alone", "`X` alone"; "an empty body acts as `Q`"
    ∷ example (bytes "T5") 2 1
    ∷ example (bytes "TR") 0 0
    ∷ example (bytes "?1") 2 1
    ∷ example (bytes "?5") 0 0
    ∷ example (bytes "R") 0 0
    ∷ example (bytes "X") 0 0
    ∷ example [] 0 0
    -- "the body has 0 to 256 bytes"
    ∷ example (many 127 (bytes "z0") ++ bytes "gG") 0 0
    ∷ example (byte "A" ∷ (replicate 255 (byte "0") ++ bytes "R")) 2 0
    -- 02, E9: ten digits are taken, eleven refused, before their range and whatever they are; the slot's too; in a text to be stored
    ∷ example (bytes "A0000000005R") 0 0
    ∷ example (bytes "A00000000005R") 3 1
    ∷ example (byte "A" ∷ (replicate 254 (byte "0") ++ bytes "R")) 3 1
    ∷ example (bytes "A1V00000000001R") 3 3
    ∷ example (bytes "s0000000003R") 0 0
    ∷ example (bytes "s00000000003R") 3 1
    ∷ example (bytes "s3A00000000005R") 3 3
    ∷ example (bytes "G00000000005R") 3 1
    ∷ example (bytes "H00000000002R") 3 1
    ∷ example (bytes "S00000000002A0R") 3 1
    ∷ example (bytes "A00000000005x") 3 1
    ∷ example (bytes "xA00000000005") 2 1
    ∷ []

-- which fault is told, and its place
unfoldable pub leftmosts : List Example
leftmosts =
    -- "the first fault from the left", "then structure"
    example (bytes "G1A2147483648R") 3 3
    ∷ example (bytes "xA2147483648R") 2 1
    -- 02, E6: "the leftmost of"; "for a missing `R`, body length plus 1", here of the longest store; a bad slot is told at the `s`
    ∷ example (bytes "A1gA2") 2 3
    ∷ example (bytes "gP1G2G3R") 2 6
    ∷ example (bytes "A1gggggR") 2 3
    ∷ example (bytes "gG1A1gP1S03R") 2 6
    ∷ example (bytes "A1S03gP1G2G2R") 2 3
    ∷ example (bytes "s12gA5") 2 4
    ∷ example (bytes "s12G1x1") 2 6
    ∷ example (bytes "sA5R") 3 1
    ∷ example (byte "s" ∷ (replicate 10 (byte "0") ++ many 14 (byte "z" ∷ replicate 10 (byte "0")))) 2 166
    ∷ example (bytes "A1L0R") 3 3
    ∷ example (bytes "A1G1R") 2 3
    ∷ example (bytes "G1gP1R") 2 1
    ∷ example (bytes "A1S03R") 2 3
    ∷ example (bytes "gggggGGGGR") 2 1
    ∷ example (bytes "ggA1S02G1R") 2 1
    ∷ example (bytes "A1gL0R") 3 4
    ∷ []

-- ---- stored texts

-- 02, E9: a text, whether it passes the check for stored text, and whether it did before
pub record Older : Type 0 where
  pub text : List ℕ
  pub now : Bool
  pub earlier : Bool

abbrev pub older : List ℕ → Bool → Bool → Older
older t n e = record { text = t; now = n; earlier = e }

unfoldable pub olders : List Older
olders =
    older (bytes "A0000000005") true true
    ∷ older (bytes "A00000000005") false true
    ∷ older (byte "A" ∷ replicate 255 (byte "0")) false true
    ∷ older (byte "A" ∷ replicate 256 (byte "0")) false false
    ∷ older (bytes "gA5G00000000002") false true
    ∷ older (bytes "A42949672970") false false
    ∷ older (bytes "H00000000002") false false
    ∷ older (bytes "G00000000002") false false
    ∷ []

abbrev pub alike : Bool → Bool → Bool
alike true b = b
alike false b = not b

unfoldable pub each_older : List Older → Bool
each_older [] = true
each_older (o ∷ os) = alike (text_good o.text) o.now && alike (older_good o.text) o.earlier && each_older os

-- ---- the table of commands, at its edges

-- operands of a letter: what stands before them and behind them in a line, those that are taken and those that are out of range
pub record Operands : Type 0 where
  pub before : Text.String
  pub behind : Text.String
  pub good : List Text.String
  pub bad : List Text.String

abbrev pub of : Text.String → Text.String → List Text.String → List Text.String → Operands
of l r good bad = record { before = l; behind = r; good = good; bad = bad }

-- "Other operands are required": an empty one is among the bad ones
unfoldable pub operands : List Operands
operands =
    of "A" "R" ("0" ∷ "2147483647" ∷ "0000000005" ∷ []) ("" ∷ "2147483648" ∷ "00000000005" ∷ "002147483647" ∷ [])
    ∷ of "P" "R" ("0" ∷ "2147483647" ∷ []) ("" ∷ "2147483648" ∷ [])
    ∷ of "D" "R" ("0" ∷ "2147483647" ∷ []) ("" ∷ "2147483648" ∷ [])
    ∷ of "z" "R" ("0" ∷ "2147483647" ∷ []) ("" ∷ "2147483648" ∷ [])
    ∷ of "Z" "R" ("0" ∷ "2147483647" ∷ []) ("" ∷ "2147483648" ∷ [])
    ∷ of "V" "R" ("1" ∷ "16777216" ∷ []) ("" ∷ "0" ∷ "16777217" ∷ [])
    ∷ of "L" "R" ("1" ∷ "65000" ∷ []) ("" ∷ "0" ∷ "65001" ∷ [])
    ∷ of "f" "R" ("0" ∷ "1" ∷ []) ("" ∷ "2" ∷ [])
    ∷ of "F" "R" ("0" ∷ "1" ∷ []) ("" ∷ "2" ∷ [])
    ∷ of "m" "R" ("0" ∷ "100" ∷ []) ("" ∷ "101" ∷ [])
    ∷ of "h" "R" ("0" ∷ "50" ∷ []) ("" ∷ "51" ∷ [])
    ∷ of "j" "R" ("1" ∷ "2" ∷ "4" ∷ "8" ∷ "16" ∷ "32" ∷ "64" ∷ "128" ∷ "256" ∷ []) ("" ∷ "0" ∷ "3" ∷ "255" ∷ "257" ∷ "512" ∷ [])
    ∷ of "o" "R" ("1400" ∷ "1650" ∷ []) ("" ∷ "1399" ∷ "1651" ∷ [])
    ∷ of "J" "R" ("0" ∷ "3" ∷ []) ("" ∷ "4" ∷ [])
    ∷ of "b" "R" ("9600" ∷ "19200" ∷ "38400" ∷ []) ("" ∷ "0" ∷ "9599" ∷ "9601" ∷ "38401" ∷ "57600" ∷ [])
    ∷ of "M" "R" ("0" ∷ "30000" ∷ []) ("" ∷ "30001" ∷ [])
    -- "none means 0"; "none means 02"
    ∷ of "gA0G" "R" ("" ∷ "0" ∷ "30000" ∷ "0000030000" ∷ []) ("30001" ∷ "00000030000" ∷ [])
    ∷ of "H" "R" ("" ∷ "01" ∷ "11" ∷ "02" ∷ "12" ∷ "03" ∷ "13" ∷ "04" ∷ "14" ∷ []) ("0" ∷ "1" ∷ "00" ∷ "10" ∷ "05" ∷ "15" ∷ "21" ∷ "011" ∷ "00000000002" ∷ [])
    ∷ of "S" "A0R" ("01" ∷ "11" ∷ "02" ∷ "12" ∷ "03" ∷ "13" ∷ "04" ∷ "14" ∷ []) ("" ∷ "0" ∷ "1" ∷ "00" ∷ "10" ∷ "05" ∷ "15" ∷ "21" ∷ "011" ∷ "00000000002" ∷ [])
    ∷ of "e" "R" ("0" ∷ "15" ∷ []) ("" ∷ "16" ∷ [])
    ∷ of "s" "R" ("0" ∷ "15" ∷ "015" ∷ "0000000003" ∷ []) ("" ∷ "16" ∷ "00000000003" ∷ [])
    ∷ []

-- each operand, where it stands, gives this code
unfoldable pub each_code : ℕ → Text.String → Text.String → List Text.String → Bool
each_code c l r [] = true
each_code c l r (x ∷ xs) = eqb (line_code_lem (bytes l ++ (bytes x ++ bytes r))) c && each_code c l r xs

-- "operand missing or out of range (3)"
unfoldable pub each_operand : List Operands → Bool
each_operand [] = true
each_operand (o ∷ os) = each_code 0 o.before o.behind o.good && each_code out_of_range o.before o.behind o.bad && each_operand os

-- each body gets its code and its place
unfoldable pub each : List Example → Bool
each [] = true
each (e ∷ es) = eqb (line_fault e.body).code e.gives && (eqb (line_fault e.body).place e.place && each es)
