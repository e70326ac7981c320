-- What is claimed of operands and decimals together: what is written is read back, and what reads as a number spells it.
-- 01: "decimal, leading zeros allowed", "without leading zeros", "4294967297 becomes 1" (it does not). Assumes nothing.
use Rattle.std.specs.Prelude.{ℕ, ◌+◌, ◌^◌, ◌<◌, List, [], ◌++◌, ◌≡◌, cond, leb, length, drop, replicate}
use Rattle.parts.specs.Letters.{byte, bytes}
use Rattle.digits.specs.Operand.{digit_run, value_after, number_to, operand_at, operand_most, operand_up_to}
use Rattle.digits.specs.Decimal.{decimal}
use Rattle.digits.specs.declared.Operand.TheVariants.{Number, Above}

-- z zeros and then n in decimal, the leading zeros that 01 allows
abbrev pub spelling : ℕ → ℕ → List ℕ
spelling z n = replicate z (byte "0") ++ decimal n

-- n is spelled in s from a place up to `next`, where no digit follows
pub record SpelledAt (s : List ℕ) (at n next : ℕ) : Type 0 where
  pub zeros : ℕ
  pub bytes : drop at s ≡ spelling zeros n ++ drop next s
  pub ends : next ≡ at + (zeros + length (decimal n))
  pub no_more : digit_run (drop next s) ≡ []

pub record DigitClaims : Type 0 where
  -- a spelling of n reads as n, whatever follows that begins with no digit: for every n, however long
  pub reads_back : (s rest : List ℕ) (at z n : ℕ) → drop at s ≡ spelling z n ++ rest → digit_run rest ≡ []
      → operand_at s at ≡ number_to n (at + (z + length (decimal n)))
  -- what reads as n is a spelling of n
  pub spelled : (s : List ℕ) (at n next : ℕ) → operand_at s at ≡ Number n next → SpelledAt s at n next
  -- 02, E9: where the digits are limited, a spelling of n reads as n exactly while it has so many at most, leading zeros counted:
  -- for every limit and every n
  pub reads_limited : (most : ℕ) (s rest : List ℕ) (at z n : ℕ) → drop at s ≡ spelling z n ++ rest → digit_run rest ≡ []
      → operand_up_to most s at
      ≡ cond (leb (z + length (decimal n)) most) (number_to n (at + (z + length (decimal n)))) (Above (at + (z + length (decimal n))))
  -- no two numbers are written alike
  pub written_apart : (m n : ℕ) → decimal m ≡ decimal n → m ≡ n
  -- a run of digits stands for less than ten to its length
  pub value_below : (s : List ℕ) → value_after 0 (digit_run s) < 10 ^ length (digit_run s)
  -- 4294967297 does not become 1, and no longer run wraps
  pub no_wrap : operand_at (bytes "4294967297") 0 ≡ Above 10
  pub nines : operand_at (replicate 256 (byte "9")) 0 ≡ Above 256
  -- ten digits are read, eleven are not, zeros or not
  pub ten : operand_up_to operand_most (spelling 9 5) 0 ≡ Number 5 10
  pub eleven : operand_up_to operand_most (spelling 10 5) 0 ≡ Above 11
  pub eleven-zeros : operand_up_to operand_most (replicate 11 (byte "0")) 0 ≡ Above 11
