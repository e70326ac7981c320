-- A number "in decimal without leading zeros". 01, "What comes back" and "The host's list". Assumes nothing.
use Rattle.std.specs.Prelude.{ℕ, zero, suc, ◌+◌, ◌/◌, ◌%◌, List, [], ◌∷◌, ◌++◌, map, cond, ◌≡◌, length, ltb, Option, Some, None}
use Rattle.parts.specs.Parts.{fits_at, put_in}
use Rattle.parts.specs.Letters.{byte}

-- the digits of n, highest first, where k places hold them
unfoldable pub digits_in : ℕ → ℕ → List ℕ
digits_in zero n = []
digits_in (suc k) n = let high = digits_in k (n / 10) in cond (ltb n 10) (n ∷ []) (high ++ (n % 10 ∷ []))

-- n + 1 places hold the digits of n
unfoldable pub digits_of : ℕ → List ℕ
digits_of n = digits_in (suc n) n

-- digits as bytes `0` to `9`
unfoldable pub ascii : List ℕ → List ℕ
ascii ds = map (λ (d : ℕ). byte "0" + d) ds

-- "in decimal without leading zeros"
unfoldable pub decimal : ℕ → List ℕ
decimal n = ascii (digits_of n)

-- what writing text at a place answers: the place past it, or that there is no room
abbrev pub written_at : List ℕ → ℕ → List ℕ → Option ℕ
written_at buffer at text = cond (fits_at buffer at (length text)) (Some (at + length text)) None

-- the answer and the buffer after text was written at a place; without room nothing changes
pub record WrittenIs (buffer : List ℕ) (at : ℕ) (text : List ℕ) (answer : Option ℕ) (after : List ℕ) : Type 0 where
  pub answers : answer ≡ written_at buffer at text
  pub leaves : after ≡ put_in buffer at text
