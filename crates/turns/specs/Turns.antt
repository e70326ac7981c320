-- A turn: one wait served, or one command taken. 01, "A turn".
-- Assumes nothing.
use Rattle.std.specs.Prelude.{ℕ, List, Bool, true, false, cond, length, take, eqb, Option, Some, None, Ok, Err}
use Prim.Native.String.{String}
use Rattle.parts.specs.Parts.{padded_text}
use Rattle.commands.specs.declared.Command.{Command}
use Rattle.commands.specs.declared.Command.TheVariants.{LoopBegin, LoopEnd, Skip, Jump, Plain}
use Rattle.commands.specs.declared.Act.{Act}
use Rattle.commands.specs.declared.Act.TheVariants.{MoveTo, MoveUp, MoveDown, SetPosition, Home, Set, Delay, WaitInput}
use Rattle.commands.specs.declared.Read.{Read}
use Rattle.commands.specs.declared.Read.TheVariants.{At, Bad, End}
use Rattle.commands.specs.Reading.{read_at}
use Rattle.image.specs.Image.{slot_good, slot_text}
use Rattle.flow.specs.declared.Flow.{Flow}
use Rattle.flow.specs.Flow.{begun, gone, loop_begun, loop_ended}
use Rattle.motor.specs.declared.Wait.{Wait}
use Rattle.motor.specs.declared.Last.{Last}
use Rattle.motor.specs.declared.Motor.{Motor}
use Rattle.motor.specs.Inputs.{level_there}
use Rattle.motor.specs.Motion.{stop_code, Moved, waiting, placed_at, reported, is_free, answered, relative, absolute, if_known, homed, delayed, held, served, stopped, fresh_motor}
use Rattle.turns.specs.declared.setting.Settings.{Settings}
use Rattle.turns.specs.declared.Core.{Core}
use Rattle.turns.specs.declared.Stepped.{Stepped}
use Rattle.turns.specs.declared.Direction.{Direction}
use Rattle.turns.specs.declared.Direction.TheVariants.{Up, Down, Still}
use Rattle.turns.specs.declared.Action.{Action}
use Rattle.turns.specs.Settings.{defaults, with_setting}

-- ---- the core of a unit's record: all but its number, its receiver and its text

abbrev pub core : Flow → Motor → Settings → Bool → Bool → ℕ → ℕ → Core
core f m s running loaded code endless = record { flow = f; motor = m; settings = s; running = running; loaded = loaded; code = code; endless = endless }

abbrev pub with_flow : Flow → Core → Core
with_flow f c = core f c.motor c.settings c.running c.loaded c.code c.endless

abbrev pub with_motor : Motor → Core → Core
with_motor m c = core c.flow m c.settings c.running c.loaded c.code c.endless

abbrev pub with_settings : Settings → Core → Core
with_settings s c = core c.flow c.motor s c.running c.loaded c.code c.endless

-- 02, E3: "only the endless speed, new in the unit's record"
abbrev pub with_endless : ℕ → Core → Core
with_endless speed c = core c.flow c.motor c.settings c.running c.loaded c.code speed

-- a fresh unit: idle, its text empty; the endless speed is "0 before the first endless move"
unfoldable pub fresh_core : Core
fresh_core = core (begun 0) fresh_motor defaults false false 0 0

-- a run starts on a text of so many bytes; the held code is "set to 0 when a run starts"
unfoldable pub started : ℕ → Core → Core
started n c = core (begun n) c.motor c.settings true false 0 c.endless

-- a run ends, the held code is "set by a fault stop"
unfoldable pub ended : ℕ → Core → Core
ended code c = core c.flow (stopped c.motor) c.settings false c.loaded code c.endless

-- what only a text that was never checked could come to: the run ends, the held code stays
unfoldable pub astray : Core → Core
astray c = ended c.code c

-- ---- one command taken

abbrev pub moved : Moved → Core → Core
moved (Ok m) c = with_motor m c
moved (Err why) c = ended (stop_code why) c

-- 02, E3: "a new `P0` or `D0` starts it from `V`", where it is taken and does not stop the run
abbrev pub speed_after : ℕ → Moved → Core → ℕ
speed_after n (Ok m) c = cond (eqb n 0) c.settings.speed c.endless
speed_after n (Err why) c = c.endless

-- `P n` and `D n`
abbrev pub relative_moved : ℕ → Moved → Core → Core
relative_moved n r c = with_endless (speed_after n r c) (moved r c)

-- a plain command, behind which the flow stands already
unfoldable pub acted : Act → Core → Core
acted (MoveTo n) c = moved (if_known c.motor (absolute n c.motor)) c
acted (MoveUp n) c = relative_moved n (if_known c.motor (relative true n c.motor)) c
acted (MoveDown n) c = relative_moved n (if_known c.motor (relative false n c.motor)) c
acted (SetPosition n) c = with_motor (placed_at n c.motor) c
acted (Home n) c = with_motor (homed c.settings.flag n c.motor) c
acted (Set which n) c = with_settings (with_setting which n c.settings) c
acted (Delay n) c = with_motor (delayed n c.motor) c
acted (WaitInput n) c = with_motor (held n c.motor) c

-- a loop's begin or end
abbrev pub flowed : Option Flow → Core → Core
flowed (Some f) c = with_flow f c
flowed None c = astray c

-- the command that is skipped
abbrev pub skipped : Read → Core → Core
skipped (At d next) c = with_flow (gone next c.flow) c
skipped (Bad code place) c = astray c
skipped End c = astray c

-- the core, and the slot whose text becomes the current one, if any
abbrev pub stays : Core → Stepped
stays c = record { core = c; enter = None }

abbrev pub enters : ℕ → Core → Stepped
enters slot c = record { core = c; enter = Some slot }

-- "`e` to a slot whose entry or body .. breaks the image's rules (1)"
abbrev pub slot_broken : ℕ
slot_broken = 1

-- "`e` makes the slot's text the current text (not where it stops the run with 1), closes all loops and begins it"
unfoldable pub jumped : ℕ → List ℕ → Core → Stepped
jumped slot image c =
    cond (slot_good image slot) (enters slot (with_flow (begun (length (slot_text image slot))) c)) (stays (ended slot_broken c))

-- "`S` tests one": the next command is skipped where the input has the level
unfoldable pub skip_taken : ℕ → List ℕ → ℕ → Core → Core
skip_taken digits t next c = cond (level_there digits c.motor.sample) (skipped (read_at t next) c) (with_flow (gone next c.flow) c)

-- a command of the text t, behind which `next` stands
unfoldable pub command_taken : Command → ℕ → List ℕ → List ℕ → Core → Stepped
command_taken LoopBegin next t image c = stays (flowed (loop_begun next c.flow) c)
command_taken (LoopEnd n) next t image c = stays (flowed (loop_ended n next c.flow) c)
command_taken (Skip digits) next t image c = stays (skip_taken digits t next c)
command_taken (Jump slot) next t image c = jumped slot image c
command_taken (Plain a) next t image c = stays (acted a (with_flow (gone next c.flow) c))

-- "The first turn with no wait and no command left ends the run."
unfoldable pub read_taken : Read → List ℕ → List ℕ → Core → Stepped
read_taken (At d next) t image c = command_taken d next t image c
read_taken (Bad code place) t image c = stays (astray c)
read_taken End t image c = stays (ended c.code c)

-- ---- a turn

-- "A turn either serves that wait or takes exactly one command"; the report is counted already
unfoldable pub running : ℕ → ℕ → ℕ → List ℕ → List ℕ → Core → Stepped
running before ms steps t image c =
    cond (is_free c.motor.wait) (read_taken (read_at t c.flow.at) t image c)
    (stays (moved (served c.motor.wait before c.settings.flag ms steps c.motor) c))

-- an idle unit waits for nothing
abbrev pub idle : Core → Stepped
idle c = stays (with_motor (waiting Wait.Nothing c.motor) c)

-- the report counted first, then the wait or the command
unfoldable pub step_of : ℕ → ℕ → ℕ → List ℕ → List ℕ → Core → Stepped
step_of sample ms steps t image c =
    cond c.running
    (running c.motor.sample ms steps t image (with_motor (reported sample steps c.motor) c))
    (idle (with_motor (reported sample steps c.motor) c))

-- "and answers the next motor action", kept as the last one
abbrev pub settled : Stepped → Stepped
settled s = record { core = with_motor (answered s.core.motor) s.core; enter = s.enter }

-- a whole turn of the core, over the current text and the image lent now
unfoldable pub turn_core : ℕ → ℕ → ℕ → List ℕ → List ℕ → Core → Stepped
turn_core sample ms steps text image c = settled (step_of sample ms steps (take c.flow.length text) image c)

-- "makes the slot's text the current text"
abbrev pub text_after : Option ℕ → List ℕ → List ℕ → List ℕ
text_after None text image = text
text_after (Some slot) text image = padded_text (slot_text image slot)

-- "direction and greatest number of microsteps. A number of 0 has no direction."; "`F1` turns the direction of every action"
abbrev pub direction_of : Bool → ℕ → Direction
direction_of true f = cond (eqb f 0) Up Down
direction_of false f = cond (eqb f 0) Down Up

abbrev pub direction_name : Direction → String
direction_name Up = "up"
direction_name Down = "down"
direction_name Still = "no direction"

unfoldable pub action_answered : ℕ → Last → Action
action_answered f l =
    cond (eqb l.number 0) (record { direction = Still; number = 0 }) (record { direction = direction_of l.up f; number = l.number })
