-- OEM frames: their numbers, and which body a repeat obeys. 02, E1.
-- Assumes nothing.
use Rattle.std.specs.Prelude.{ℕ, ◌%◌, List, [], ◌∷◌, Bool, false, cond, ◌&&◌, ◌||◌, leb, eqb, Option, Some, None}
use Rattle.parts.specs.Letters.{bytes}
use Rattle.commands.specs.Reading.{malformed, out_of_range}
use Rattle.lines.specs.Bodies.{one_of_bodies}
use Rattle.frames.specs.declared.Frame.{Frame}
use Rattle.frames.specs.declared.Framing.{Framing}
use Rattle.obeying.specs.Obeying.{busy}

-- "a number in its low three bits, with bit 3 for a repeat"
abbrev pub sequence_number : ℕ → ℕ
sequence_number q = q % 8

abbrev pub repeats : ℕ → Bool
repeats q = leb 8 (q % 16)

-- "A repeat with the number of the last OEM frame .. (at start there is none)"
abbrev pub is_repeat : Option ℕ → Framing → Bool
is_repeat last Framing.Plain = false
is_repeat None (Framing.Oem q) = false
is_repeat (Some n) (Framing.Oem q) = repeats q && eqb (sequence_number q) n

-- "a query other than `?9`": `Q`, `$`, `?0 ?2 ?4 ?6 ?7`, and with E3 `?5`
abbrev pub queries : List (List ℕ)
queries = bytes "Q" ∷ bytes "$" ∷ bytes "?0" ∷ bytes "?2" ∷ bytes "?4" ∷ bytes "?5" ∷ bytes "?6" ∷ bytes "?7" ∷ []

unfoldable pub is_query : List ℕ → Bool
is_query = one_of_bodies queries

-- "is answered as an empty body, or, if a query other than `?9`, by that query afresh; it is not obeyed"
unfoldable pub chosen : Option ℕ → Framing → List ℕ → List ℕ
chosen last g body = cond (is_repeat last g) (cond (is_query body) body []) body

-- "refused" with 2, 3 or 15
abbrev pub is_refusal : ℕ → Bool
is_refusal code = eqb code malformed || eqb code out_of_range || eqb code busy

-- "the last OEM frame for this unit or its groups not refused": its number; a plain one leaves it
abbrev pub numbered_by : Framing → ℕ → Option ℕ → Option ℕ
numbered_by Framing.Plain code last = last
numbered_by (Framing.Oem q) code last = cond (is_refusal code) last (Some (sequence_number q))

abbrev pub last_after : Frame → Framing → ℕ → Option ℕ → Option ℕ
last_after Frame.Nothing g code last = last
last_after Frame.Alone g code last = numbered_by g code last
last_after Frame.Group g code last = numbered_by g code last
