-- The causes for which a turn ends a run, each with its code. 01, "A turn": "A run ends for six causes only".
-- Assumes nothing.
use Rattle.std.specs.Prelude.{ℕ, ◌≤◌, ◌<◌, ◌≡◌, List, Bool, true, false, None}
use Rattle.commands.specs.declared.Command.TheVariants.{LoopBegin, LoopEnd, Skip, Jump, Plain}
use Rattle.commands.specs.declared.Act.{Act}
use Rattle.commands.specs.declared.Act.TheVariants.{MoveTo, MoveUp, MoveDown}
use Rattle.commands.specs.declared.Read.{Read}
use Rattle.commands.specs.declared.Read.TheVariants.{At, Bad, End}
use Rattle.commands.specs.Table.{top}
use Rattle.commands.specs.Reading.{read_at}
use Rattle.image.specs.Image.{slot_good}
use Rattle.flow.specs.Flow.{loop_begun, loop_ended}
use Rattle.motor.specs.declared.Wait.{Wait}
use Rattle.motor.specs.Inputs.{level_there, falls, cut, clear}
use Rattle.motor.specs.Motion.{room, reported, flag_not_found, position_unknown, range_left}
use Rattle.turns.specs.declared.Core.{Core}
use Rattle.turns.specs.Turns.{slot_broken}

-- `A`, `P` and `D`
pub data Moving : Act → Type 0 where
  move_to : (n : ℕ) → Moving (MoveTo n)
  move_up : (n : ℕ) → Moving (MoveUp n)
  move_down : (n : ℕ) → Moving (MoveDown n)

-- "a finite move that would leave 0 to 2147483647", from the position p; of `A` no checked text has one
pub data Leaving (p : ℕ) : Act → Type 0 where
  beyond : (n : ℕ) → p < n → top < n → Leaving p (MoveTo n)
  above : (n : ℕ) → room true p < n → Leaving p (MoveUp n)
  below : (n : ℕ) → room false p < n → Leaving p (MoveDown n)

-- the read that a command comes from: nothing is waited for, and it stands at the place of the flow in the text t
pub record Reads (t : List ℕ) (c : Core) (r : Read) : Type 0 where
  pub free : c.motor.wait ≡ Wait.Nothing
  pub stands : read_at t c.flow.at ≡ r

-- where the position stands once the steps reported are counted
abbrev pub position_then : ℕ → ℕ → Core → ℕ
position_then sample steps c = (reported sample steps c.motor).position

-- what no checked text comes to: a bad read, a fifth loop, an end of no loop, a skip past the text
pub data Strays (sample : ℕ) (t : List ℕ) (c : Core) : Type 0 where
  bad_read : (k p : ℕ) → Reads t c (Bad k p) → Strays sample t c
  too_deep : (next : ℕ) → Reads t c (At LoopBegin next) → loop_begun next c.flow ≡ None → Strays sample t c
  none_open : (n next : ℕ) → Reads t c (At (LoopEnd n) next) → loop_ended n next c.flow ≡ None → Strays sample t c
  skips-bad : (digits next k p : ℕ) → Reads t c (At (Skip digits) next) → level_there digits sample ≡ true
      → read_at t next ≡ Bad k p → Strays sample t c
  skips-end : (digits next : ℕ) → Reads t c (At (Skip digits) next) → level_there digits sample ≡ true
      → read_at t next ≡ End → Strays sample t c

-- the turn ends the run of c over the text t for a cause, with its code; "`T`" alone comes between turns
pub data TurnEnds (sample steps : ℕ) (t image : List ℕ) (c : Core) : ℕ → Type 0 where
  -- "end of text"
  text-ends : Reads t c End → TurnEnds sample steps t image c c.code
  -- "flag not found within a leg (1)": not clear within the leg away, or not cut within the leg toward zero
  not-clear : (left n : ℕ) → c.motor.wait ≡ Wait.LegAway left n → clear c.settings.flag sample ≡ false → left ≤ steps
      → TurnEnds sample steps t image c flag_not_found
  not-cut : (left : ℕ) → c.motor.wait ≡ Wait.LegToward left → cut c.settings.flag sample ≡ false → left ≤ steps
      → TurnEnds sample steps t image c flag_not_found
  -- "`e` to a slot whose entry or body, unused bytes included, breaks the image's rules (1)"
  bad-slot : (slot next : ℕ) → Reads t c (At (Jump slot) next) → slot_good image slot ≡ false
      → TurnEnds sample steps t image c slot_broken
  -- "`A P D` with position unknown (7)"
  unknown : (a : Act) (next : ℕ) → Reads t c (At (Plain a) next) → Moving a → c.motor.known ≡ false
      → TurnEnds sample steps t image c position_unknown
  -- "a finite move that would leave 0 to 2147483647 .. (11)"; "7 comes before 11"
  leaves_range : (a : Act) (next : ℕ) → Reads t c (At (Plain a) next) → c.motor.known ≡ true
      → Leaving (position_then sample steps c) a
      → TurnEnds sample steps t image c range_left
  -- "or an endless one at its end (11)": "steps count first, then the edge, then the end of the range"
  range_ends : (up : Bool) (left : ℕ) → c.motor.wait ≡ Wait.Move up true left → falls c.motor.sample sample ≡ false
      → room up (position_then sample steps c) ≡ 0
      → TurnEnds sample steps t image c range_left
