-- What the C port of the count answers, as a number. 02, E14.
-- Assumes nothing.
use Rattle.std.specs.Prelude.{ℕ, ◌+◌, List, Ok, Err}
use Rattle.forecast.specs.declared.Uncounted.TheVariants.{Refused, Letter, TooMany}
use Rattle.forecast.specs.Count.{Counted, count_of}

-- 2^63: no count is so great, so the numbers from here on are refusals
abbrev pub uncounted : ℕ
uncounted = 9223372036854775808

-- a count, or 2^63 and: the line check's code, 4 for a letter, 5 for a count over the bound
abbrev pub count_number : Counted → ℕ
count_number (Ok k) = k
count_number (Err (Refused f)) = uncounted + f.code
count_number (Err Letter) = uncounted + 4
count_number (Err TooMany) = uncounted + 5

unfoldable pub counted_number : List ℕ → ℕ
counted_number body = count_number (count_of body)
