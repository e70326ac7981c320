-- Operands: "an operand is the longest run of digits", "decimal, leading zeros allowed". 01, "Lines"; 02, E9.
-- The value is a number of any size: nothing wraps. Assumes nothing.
use Rattle.std.specs.Prelude.{ℕ, ◌+◌, ◌-◌, ◌*◌, List, [], ◌∷◌, Bool, true, cond, ◌&&◌, length, drop, leb}
use Rattle.parts.specs.Letters.{byte}
use Rattle.digits.specs.declared.Operand.{Operand}
use Rattle.digits.specs.declared.Operand.TheVariants.{Missing, Number, Above}

-- a digit is a byte `0` to `9`
abbrev pub is_digit : ℕ → Bool
is_digit b = leb (byte "0") b && leb b (byte "9")

-- "the longest run of digits" at the head of a list, each as its number
unfoldable pub digit_run : List ℕ → List ℕ
digit_run [] = []
digit_run (b ∷ bs) = cond (is_digit b) ((b - byte "0") ∷ digit_run bs) []

-- the number that digits stand for in decimal, behind a number that stands before them
unfoldable pub value_after : ℕ → List ℕ → ℕ
value_after v [] = v
value_after v (d ∷ ds) = value_after (v * 10 + d) ds

-- the greatest number that 32 bits hold; every range of 01 ends below it
abbrev pub widest : ℕ
widest = 4294967295

-- a number of any size as an answer: itself, or that it is above all ranges
abbrev pub number_to : ℕ → ℕ → Operand
number_to n next = cond (leb n widest) (Number n next) (Above next)

-- what a run of digits that ends at `next` gives: nothing, or its value
unfoldable pub operand_of : List ℕ → ℕ → Operand
operand_of [] next = Missing
operand_of (d ∷ ds) next = number_to (value_after 0 (d ∷ ds)) next

-- the operand that stands at a place of s, with the place past it
unfoldable pub operand_at : List ℕ → ℕ → Operand
operand_at s at = operand_of (digit_run (drop at s)) (at + length (digit_run (drop at s)))

-- 02, E9: "an operand of more than ten digits is refused"
abbrev pub operand_most : ℕ
operand_most = 10

-- the operand at a place where so many digits are the most: a longer run is above all ranges, whatever it stands for
unfoldable pub operand_up_to : ℕ → List ℕ → ℕ → Operand
operand_up_to most s at =
    cond (leb (length (digit_run (drop at s))) most) (operand_at s at) (Above (at + length (digit_run (drop at s))))

-- whether no run of digits is longer
unfoldable pub few_digits : ℕ → List ℕ → Bool
few_digits most [] = true
few_digits most (b ∷ bs) = leb (length (digit_run (b ∷ bs))) most && few_digits most bs
