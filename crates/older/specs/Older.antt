-- What the older drive has, and what a command of one drive becomes on the other. 02, E12: "Customers hold texts for 004's HR drives".
-- Assumes nothing.
use Rattle.std.specs.Prelude.{ℕ, ◌*◌, ◌/◌, List, [], ◌∷◌, Bool, true, false, cond, ◌&&◌, eqb}
use Prim.Native.String as Text
use Rattle.parts.specs.Letters.{byte, bytes}
use Rattle.commands.specs.declared.Command.{Command}
use Rattle.commands.specs.declared.Asks.{Asks}
use Rattle.commands.specs.declared.Asks.TheVariants.{Unknown, Nothing, Required, OrElse}
use Rattle.commands.specs.declared.Range.TheVariants.{From, Input}
use Rattle.commands.specs.declared.Spelling.{Spelling}
use Rattle.commands.specs.declared.Spelling.TheVariants.{Alone, WithNumber, WithTwoDigits}
use Rattle.commands.specs.Table.{from, one_of, asks_of}
use Rattle.commands.specs.Fitting.{numbered_as}
use Rattle.commands.specs.Writing.{spelling_of, permits}
use Rattle.older.specs.declared.Way.{Way}
use Rattle.older.specs.declared.Way.TheVariants.{Inward, Outward}

-- letters that ask the same
pub record OlderRow : Type 0 where
  pub letters : List ℕ
  pub operand : Asks

abbrev pub older_row : Text.String → Asks → OlderRow
older_row ls a = record { letters = bytes ls; operand = a }

-- 004, "Command Set", as its HR drives have it, for the letters that ours has; `M` stands in 004's examples alone, so its range is ours
unfoldable pub older_table : List OlderRow
older_table =
    older_row "APDzZ" (from 0 4294967296)
    ∷ older_row "V" (from 50 10000)
    ∷ older_row "L" (from 1 20)
    ∷ older_row "f" (from 0 1)
    ∷ older_row "m" (from 0 100)
    ∷ older_row "h" (from 0 50)
    -- "2, 4, 8, 16, 32, 64, 128, 256": the powers of two are ours too
    ∷ older_row "j" (from 2 256)
    ∷ older_row "o" (from 0 250)
    ∷ older_row "J" (from 0 3)
    ∷ older_row "M" (from 0 30000)
    ∷ older_row "g" Nothing
    ∷ older_row "G" (OrElse (From 0 30000) 0)
    ∷ older_row "H" (OrElse Input 2)
    ∷ older_row "S" (Required Input)
    ∷ older_row "e" (from 0 15)
    ∷ []

unfoldable pub older_in : List OlderRow → ℕ → Asks
older_in [] l = Unknown
older_in (r ∷ rs) l = cond (one_of r.letters l) r.operand (older_in rs l)

unfoldable pub older_asks : ℕ → Asks
older_asks l = older_in older_table l

abbrev pub has_row : Asks → Bool
has_row Unknown = false
has_row Nothing = true
has_row (Required r) = true
has_row (OrElse r m) = true

-- "a letter that the other side lacks": of whichever side
unfoldable pub both_have : ℕ → Bool
both_have l = has_row (older_asks l) && has_row (asks_of l)

-- the letter and the number of a spelling
abbrev pub letter_of : Spelling → ℕ
letter_of (Alone l) = l
letter_of (WithNumber l n) = l
letter_of (WithTwoDigits l n) = l

abbrev pub number_of : Spelling → ℕ
number_of (Alone l) = 0
number_of (WithNumber l n) = n
number_of (WithTwoDigits l n) = n

-- whether a command's operand is in the range of the older drive's row
unfoldable pub older_in_range : Command → Bool
older_in_range c = permits (older_asks (letter_of (spelling_of c))) (number_of (spelling_of c))

-- ---- "its `L` x (1 to 20, units of 7500)"

-- `L`
unfoldable pub sets_ramp : Command → Bool
sets_ramp c = eqb (letter_of (spelling_of c)) (byte "L")

-- "becomes the greatest y with 12207y ≤ 15000x, so 20 becomes 24"; "writing back takes the greatest x with 15000x ≤ 12207y"
abbrev pub slower : Way → ℕ → ℕ
slower Inward x = 15000 * x / 12207
slower Outward y = 12207 * y / 15000

-- a command of the one drive on the other
unfoldable pub becomes : Way → Command → Command
becomes w c = cond (sets_ramp c) (numbered_as (slower w (number_of (spelling_of c))) c) c

-- the older drive's side of it
abbrev pub older_side : Way → Command → Command
older_side Inward c = c
older_side Outward c = becomes Outward c

-- "outside either range (y = 1 has no x)": the older drive's range; our own is tested when the command is read
abbrev pub older_takes : Way → Command → Bool
older_takes w c = older_in_range (older_side w c)
