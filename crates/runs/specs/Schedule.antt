-- What is claimed of runs: they take the commands of their course. 01, "A turn"; 02, E14.
-- Assumes nothing.
use Rattle.std.specs.Prelude.{ℕ, ◌+◌, ◌≤◌, ◌≡◌, List, [], ◌∷◌, ◌++◌, true, false, length}
use Rattle.commands.specs.declared.Command.{Command}
use Rattle.commands.specs.declared.Command.TheVariants.{LoopBegin, LoopEnd, Skip, Jump, Plain}
use Rattle.commands.specs.declared.Act.{Act}
use Rattle.commands.specs.declared.Read.TheVariants.{At, End}
use Rattle.image.specs.Image.{slot_text}
use Rattle.turns.specs.Ends.{Reads}
use Rattle.drive.specs.Unit.{Drive}
use Rattle.drive.specs.Calls.{start_of}
use Rattle.runs.specs.Reach.{Call, turn, after, Reached, text_of}
use Rattle.runs.specs.Causes.{Made}
use Rattle.courses.specs.Meaning.{Step, step, Runs, commands_of, Steady, unrolled, course_in, commands_in}
use Rattle.runs.specs.Ran.{TakesCommand, Begins, Ran}

-- no `e` among the commands: all are of one text
abbrev pub NoJump : Command → Type 0
NoJump LoopBegin = Unit
NoJump (LoopEnd n) = Unit
NoJump (Skip n) = Unit
NoJump (Jump n) = ⊥
NoJump (Plain a) = Unit

abbrev pub InText : List Command → Type 0
InText [] = Unit
InText (d ∷ ds) = NoJump d × InText ds

-- u has taken a plain command, behind which `next` stands, and is v: that is next in the same text, and the open loops and how often each has run are as they were
pub record GoesOn (u : Drive) (next : ℕ) (v : Drive) : Type 0 where
  pub text_same : text_of v ≡ text_of u
  pub place : v.core.flow.at ≡ next
  pub depth_same : v.core.flow.depth ≡ u.core.flow.depth
  pub starts-same : v.core.flow.starts ≡ u.core.flow.starts
  pub rounds_same : v.core.flow.dones ≡ u.core.flow.dones

-- a text that is run from its beginning, unless the run has stopped
pub record Entered (t : List ℕ) (v : Drive) : Type 0 where
  pub begins : v.core.running ≡ true → Begins v
  pub text : v.core.running ≡ true → text_of v ≡ t

-- of a run that has taken xs in the text t up to v
pub record RunsAs (t : List ℕ) (xs : List Step) (v : Drive) : Type 0 where
  -- the text is the current one still
  pub text_same : text_of v ≡ t
  -- it has taken xs in its course, as 01 says
  pub in-course : Runs (course_in t) false xs
  -- where it stands at the end of its text it has gone through its course
  pub whole : Reads t v.core End → Runs (course_in t) true xs
  -- `e` is taken in its course too
  pub leaves : {i s : ℕ} {k : Call} → v.core.running ≡ true → TakesCommand v (Jump i) s k → Runs (course_in t) false (xs ++ (step (Jump i) s ∷ []))
  -- and "makes the slot's text the current text .. and begins it", where it does not stop the run
  pub enters : {i sample ms steps : ℕ} {image : List ℕ} → v.core.running ≡ true → TakesCommand v (Jump i) sample (turn sample ms steps image)
      → Entered (slot_text image i) (after (turn sample ms steps image) v)

-- the same in a text without `S`, `e` and `G0`
pub record RunsCounted (t : List ℕ) (xs : List Step) (v : Drive) : Type 0 where
  pub left : List Command
  pub in_order : unrolled (course_in t) ≡ commands_of xs ++ left
  pub whole : Reads t v.core End → commands_of xs ≡ unrolled (course_in t)
  -- what is left falls by one with each command that is taken
  pub adds_up : length xs + length left ≡ commands_in t
  -- "every run of such a text no more", "a run that reaches its end took exactly that many"
  pub no_more : length xs ≤ commands_in t
  pub exactly : Reads t v.core End → length xs ≡ commands_in t

pub record ScheduleClaims : Type 0 where
  -- every run begins at the first command of its text
  pub starts : (number : ℕ) (image body text : List ℕ) → (start_of number image body text).unit.core.running ≡ true
      → Begins (start_of number image body text).unit
  pub begins : (u : Drive) (c : Call) → u.core.running ≡ false → (after c u).core.running ≡ true → Begins (after c u)
  -- and goes as its course says
  pub runs_as : {u v : Drive} {xs : List Step} → Reached u → Begins u → Ran u xs v → InText (commands_of xs) → RunsAs (text_of u) xs v
  pub counted : {u v : Drive} {xs : List Step} → Reached u → Begins u → Steady (course_in (text_of u)) → Ran u xs v → RunsCounted (text_of u) xs v
  -- a plain command keeps the flow, also where it stops the run: the one statement that knows each of them, so one command more is one case more of its proof
  pub plain-goes-on : (u : Drive) (a : Act) (next sample ms steps : ℕ) (image : List ℕ) → u.core.running ≡ true → Made u sample steps image
      → Reads (text_of u) u.core (At (Plain a) next) → GoesOn u next (after (turn sample ms steps image) u)
