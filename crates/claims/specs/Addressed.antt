-- Whom an address byte calls, in the bytes of 01, "Frames".
-- Assumes nothing.
use Rattle.std.specs.Prelude.{ℕ, ◌+◌, ◌-◌, ◌/◌, ◌≡◌, false, [], ◌∷◌, get_or}
use Rattle.parts.specs.Letters.{bytes}
use Rattle.commands.specs.Table.{one_of}
use Rattle.frames.specs.declared.Frame.{Frame}
use Rattle.frames.specs.Addresses.{called_of}

-- "Pairs are `A C E G I K M O` (units 1,2 up to 15,16), fours are `Q U Y ]`": those of unit u
abbrev pub pair_byte : ℕ → ℕ
pair_byte u = get_or (bytes "ACEGIKMO") ((u - 1) / 2) 0

abbrev pub four_byte : ℕ → ℕ
four_byte u = get_or (bytes "QUY]") ((u - 1) / 4) 0

-- of a unit from 1 to 16
pub record Addressed (u : ℕ) : Type 0 where
  -- "Units 1 to 16 are bytes 31 to 40 hex"
  pub own : called_of u (0x30 + u) ≡ Frame.Alone
  pub pair : called_of u (pair_byte u) ≡ Frame.Group
  pub four : called_of u (four_byte u) ≡ Frame.Group
  -- "all is `_`"
  pub all : called_of u 0x5F ≡ Frame.Group
  -- "Other bytes, `0` included, address nobody"
  pub others : (b : ℕ) → one_of ((0x30 + u) ∷ pair_byte u ∷ four_byte u ∷ 0x5F ∷ []) b ≡ false → called_of u b ≡ Frame.Nothing
