-- What the C port answers, as numbers: "plain numbers and byte slices, for the line check, the image check and the ramp figures". 01.
-- Assumes nothing.
use Rattle.std.specs.Prelude.{ℕ, List, Bool, true, false, cond, not, eqb, Option, Some, None, Result}
use Rattle.lines.specs.Texts.{text_good}
use Rattle.image.specs.Calls.{checked_of, checked_number}
use Rattle.ramp.specs.declared.Figures.{Figures}
use Rattle.ramp.specs.declared.Refused.{Refused}
use Rattle.ramp.specs.Ramp.{figures_of, figures_told, verdict_number}

-- a stored text: 0 good, 1 bad
abbrev pub good_number : Bool → ℕ
good_number true = 0
good_number false = 1

unfoldable pub text_number : List ℕ → ℕ
text_number text = good_number (text_good text)

-- an image: 0 good, 1 wrong length, 2 bad
unfoldable pub image_number : List ℕ → ℕ
image_number image = checked_number (checked_of image)

-- "finite, with N .., or endless": any number but 0 is endless
abbrev pub says_endless : ℕ → Bool
says_endless endless = not (eqb endless 0)

abbrev pub steps_of : ℕ → ℕ → Option ℕ
steps_of endless n = cond (says_endless endless) None (Some n)

-- the figures of a ramp, or why they are refused
abbrev pub ramp_of : ℕ → ℕ → ℕ → ℕ → Result Figures Refused
ramp_of v l endless n = figures_of v l (steps_of endless n)

-- the figures that are told
abbrev pub figures : ℕ → ℕ → ℕ → ℕ → Figures
figures v l endless n = figures_told (ramp_of v l endless n)

-- 0 taken; 1, 2, 3 where V, L, N is refused
unfoldable pub ramp_number : ℕ → ℕ → ℕ → ℕ → ℕ
ramp_number v l endless n = verdict_number (ramp_of v l endless n)
