-- The bytes of 01's letters and texts, and those that no letter stands for. 01, "Frames" and "What comes back"; 02, E1.
-- Assumes nothing.
use Rattle.std.specs.Prelude.{ℕ, List, [], ◌∷◌}
use Prim.Native.Char.{Char, code}
use Prim.Native.String as Text

-- the byte of a letter
abbrev pub byte : Char → ℕ
byte c = code c

-- the bytes of a text
abbrev pub bytes : Text.String → List ℕ
bytes Text.[] = []
bytes (Text.◌∷◌ c s) = code c ∷ bytes s

-- "A frame is `/`, an address byte, a body, CR"
abbrev pub slash : ℕ
slash = byte "/"

abbrev pub cr : ℕ
cr = 0x0D

-- "03, CR, LF"
abbrev pub lf : ℕ
lf = 0x0A

-- 02, E1: "02, address, sequence byte, body, 03"
abbrev pub stx : ℕ
stx = 0x02

abbrev pub etx : ℕ
etx = 0x03
