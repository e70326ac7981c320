-- What is claimed of bodies and turns, each said apart from the definition that it speaks of. 01, "Lines", "What comes back" and "A turn".
-- Assumes nothing.
use Rattle.std.specs.Prelude.{ℕ, ◌≡◌, List, true, false}
use Rattle.image.specs.Image.{slot_good, slot_text}
use Rattle.motor.specs.declared.Wait.{Wait}
use Rattle.turns.specs.declared.Core.{Core}
use Rattle.drive.specs.Unit.{Drive}
use Rattle.drive.specs.StartAnswer
use Rattle.drive.specs.StartAnswer.{StartAnswer}
use Rattle.drive.specs.Calls.{start_of, turn_of}
use Rattle.runs.specs.Reach.{feed, turn, after}
use Rattle.runs.specs.Causes.{Made}
use Rattle.claims.specs.Bodies.{EachBody}
use Rattle.claims.specs.Speed.{SpeedClaims}
use Rattle.claims.specs.Turns.{Defaults, HeldAtStart, StartsWith, Levels, SameRun, Idles, a_turn, here, EachCommand, EachWait, Answers}

pub record EffectClaims : Type 0 where
  pub defaults : (number : ℕ) (image body text : List ℕ) → (start_of number image body text).answer ≡ StartAnswer.start_ok
      → Defaults (start_of number image body text).unit
  -- program 0 runs; 02, E9: but where it counts as bad: "idle, the current text empty, holding 1"
  pub starts-good : (number : ℕ) (image body text : List ℕ) → (start_of number image body text).answer ≡ StartAnswer.start_ok → slot_good image 0 ≡ true
      → StartsWith (slot_text image 0) (start_of number image body text).unit
  pub starts-held : (number : ℕ) (image body text : List ℕ) → (start_of number image body text).answer ≡ StartAnswer.start_ok → slot_good image 0 ≡ false
      → HeldAtStart (start_of number image body text).unit
  pub bodies : (c : Core) (text image : List ℕ) → EachBody c text image
  -- "They are obeyed while running": no feed call moves a run
  pub feeds : (u : Drive) (bytes image buffer : List ℕ) → u.core.running ≡ true → SameRun u (after (feed bytes image buffer) u)
  -- "A turn either serves that wait or takes exactly one command": one that serves takes none, an idle one neither
  pub serves : (u : Drive) (sample ms steps : ℕ) (image : List ℕ) → (u.core.motor.wait ≡ Wait.Nothing → ⊥)
      → SameRun u (after (turn sample ms steps image) u)
  pub idles : (u : Drive) (sample ms steps : ℕ) (image : List ℕ) → u.core.running ≡ false → SameRun u (after (turn sample ms steps image) u)
  pub idle : (u : Drive) (sample ms steps : ℕ) (image : List ℕ) → u.core.running ≡ false → Made u sample steps image
      → Idles u (after (turn sample ms steps image) u) sample (here (a_turn u sample ms steps image))
  pub waits : (u : Drive) (sample ms steps : ℕ) (image : List ℕ) → u.core.running ≡ true → Made u sample steps image
      → EachWait (a_turn u sample ms steps image)
  pub commands : (u : Drive) (sample ms steps : ℕ) (image : List ℕ) → u.core.running ≡ true → Made u sample steps image
      → EachCommand (a_turn u sample ms steps image)
  pub answers : (u : Drive) (sample ms steps : ℕ) (image : List ℕ) → Made u sample steps image
      → Answers (turn_of u sample ms steps image)
  pub levels : (sample : ℕ) → Levels sample
  -- 02, E3: what sets the endless speed
  pub speed : SpeedClaims
