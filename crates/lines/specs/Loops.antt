-- The loops that enclose a place of a text. 01, "Structure", "G n", and demand 3.
-- Assumes nothing.
use Rattle.std.specs.Prelude.{ℕ, zero, suc, ◌<◌, List, [], ◌∷◌, cond, ◌≡◌, eqb, Ok}
use Rattle.commands.specs.declared.Command.{Command}
use Rattle.commands.specs.declared.Command.TheVariants.{LoopBegin, LoopEnd, Skip, Jump, Plain}
use Rattle.commands.specs.declared.Read.{Read}
use Rattle.commands.specs.declared.Read.TheVariants.{At, Bad, End}
use Rattle.commands.specs.Reading.{read_at}
use Rattle.lines.specs.Texts.{line_judged, most_open, rest}

-- the starts of the open loops, innermost first, behind a command whose next place is n: "each `G` closes the nearest open `g`"
abbrev pub open_after : Command → ℕ → List ℕ → List ℕ
open_after LoopBegin n starts = n ∷ starts
open_after (LoopEnd m) n starts = rest starts
open_after (Skip m) n starts = starts
open_after (Jump m) n starts = starts
open_after (Plain a) n starts = starts

-- `Enclosed t at starts`: a command (or the end) of t stands at `at`, and the loops open before it begin at `starts`
pub data Enclosed (t : List ℕ) : ℕ → List ℕ → Type 0 where
  start : Enclosed t 0 []
  next : {at : ℕ} {starts : List ℕ} (c : Command) (n : ℕ) → Enclosed t at starts → read_at t at ≡ At c n → Enclosed t n (open_after c n starts)

-- the same as a function: the text read from its start up to the place `to`
abbrev pub scan_read : Read → (ℕ → List ℕ → List ℕ) → List ℕ → List ℕ
scan_read (At c n) go starts = go n (open_after c n starts)
scan_read (Bad k p) go starts = starts
scan_read End go starts = starts

unfoldable pub scan_to : ℕ → List ℕ → ℕ → ℕ → List ℕ → List ℕ
scan_to zero t to at starts = starts
scan_to (suc k) t to at starts = cond (eqb at to) starts (scan_read (read_at t at) (λ n s. scan_to k t to n s) starts)

unfoldable pub enclosing : List ℕ → ℕ → List ℕ
enclosing t to = scan_to to t to 0 []

-- a text that passed the check of lines; stored text passes it too
abbrev pub Checked : List ℕ → Type 0
Checked t = line_judged t ≡ Ok tt

-- "`S` is neither last nor directly before `g` or `G`": what may stand behind a skip
abbrev pub Skippable : Read → Type 0
Skippable (At LoopBegin n) = ⊥
Skippable (At (LoopEnd m) n) = ⊥
Skippable (At (Skip m) n) = Unit
Skippable (At (Jump m) n) = Unit
Skippable (At (Plain a) n) = Unit
Skippable (Bad k p) = ⊥
Skippable End = ⊥

-- what a checked text has at a place with so many loops open: no fault, a fifth loop never begins, a loop end has its loop, all closed at the end
abbrev pub Lawful : List ℕ → ℕ → Read → Type 0
Lawful t depth (At LoopBegin n) = depth < most_open
Lawful t depth (At (LoopEnd m) n) = 0 < depth
Lawful t depth (At (Skip m) n) = Skippable (read_at t n)
Lawful t depth (At (Jump m) n) = Unit
Lawful t depth (At (Plain a) n) = Unit
Lawful t depth (Bad k p) = ⊥
Lawful t depth End = depth ≡ 0
