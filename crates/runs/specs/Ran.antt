-- A run as its calls: the commands that its turns take, in their order. 01, "A turn"; 02, E14.
-- Assumes nothing.
use Rattle.std.specs.Prelude.{ℕ, ◌≡◌, List, [], ◌∷◌, ◌++◌, true}
use Rattle.commands.specs.declared.Command.{Command}
use Rattle.commands.specs.declared.Read.TheVariants.{At}
use Rattle.turns.specs.Ends.{Reads}
use Rattle.drive.specs.Unit.{Drive}
use Rattle.courses.specs.Meaning.{Step, step}
use Rattle.runs.specs.Reach.{Call, turn, after, text_of}
use Rattle.runs.specs.Causes.{Made}

-- the call is a turn of u that takes the command d, with this sample: it is not refused, nothing is waited for, and the command stands at the place
pub data TakesCommand (u : Drive) (d : Command) : ℕ → Call → Type 0 where
  takes : {sample ms steps : ℕ} {image : List ℕ} (next : ℕ) → Made u sample steps image → Reads (text_of u) u.core (At d next)
      → TakesCommand u d sample (turn sample ms steps image)

-- a run of u begins: its first command is next, and no loop is open
pub record Begins (u : Drive) : Type 0 where
  pub running : u.core.running ≡ true
  pub first : u.core.flow.at ≡ 0
  pub none_open : u.core.flow.depth ≡ 0

-- `Ran u xs v`: any calls in any order lead from u to v while the run goes on, and their turns take xs
pub data Ran (u : Drive) : List Step → Drive → Type 0 where
  none : Ran u [] u
  taking : {v : Drive} {xs : List Step} {d : Command} {s : ℕ} {c : Call} → Ran u xs v → v.core.running ≡ true → TakesCommand v d s c
      → Ran u (xs ++ (step d s ∷ [])) (after c v)
  other : {v : Drive} {xs : List Step} (c : Call) → Ran u xs v → v.core.running ≡ true → ((d : Command) (s : ℕ) → TakesCommand v d s c → ⊥)
      → Ran u xs (after c v)
