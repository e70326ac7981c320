-- What a body makes of a unit, what is answered, and what is to be written to the image. 01, "Lines" and "What comes back".
-- Assumes nothing.
use Rattle.std.specs.Prelude.{ℕ, zero, suc, ◌^◌, min, List, [], Bool, true, false, cond, ◌&&◌, take, eqb, Result, Ok, Err}
use Rattle.parts.specs.Parts.{part, padded_text}
use Rattle.digits.specs.Decimal.{decimal}
use Rattle.commands.specs.declared.Fault.{Fault}
use Rattle.commands.specs.Reading.{fault}
use Rattle.lines.specs.declared.Immediate.{Immediate}
use Rattle.lines.specs.declared.Immediate.TheVariants.{Terminate, Status, CurrentText, Position, Speed, Sample, EndlessSpeed, StepSize, Correction, Clear}
use Rattle.lines.specs.declared.Body.{Body}
use Rattle.lines.specs.declared.Taken.{Taken}
use Rattle.lines.specs.Bodies.{body_of, line_of, line_fault}
use Rattle.image.specs.Calls.{after_store, after_clear}
use Rattle.flow.specs.Flow.{begun}
use Rattle.motor.specs.declared.Wait.{Wait}
use Rattle.motor.specs.Motion.{waiting, waits_input, is_endless}
use Rattle.turns.specs.declared.Core.{Core}
use Rattle.turns.specs.Turns.{core, with_motor, with_endless, started, ended}
use Rattle.obeying.specs.declared.Tell.{Tell}
use Rattle.obeying.specs.declared.Write.{Write}
use Rattle.obeying.specs.declared.Obeyed.{Obeyed}
use Rattle.obeying.specs.Speed.{speed_line, speed_in}

-- ---- data

-- "`?6` .. `j`": 2 to the kept exponent, which is 0 to 8
unfoldable pub step_size : ℕ → ℕ
step_size exponent = 2 ^ min exponent 8

-- "in decimal without leading zeros"; "`$` gives the current text"
abbrev pub data_of : Tell → ℕ → List ℕ → List ℕ
data_of Tell.Nothing n text = []
data_of (Tell.Number k) n text = decimal k
data_of Tell.Text n text = take n text

-- ---- what is obeyed

abbrev pub obeyed : Core → ℕ → Tell → Write → Obeyed
obeyed c code tell write = record { core = c; code = code; tell = tell; write = write }

-- 02, E6: "answers the place of the fault as decimal data"; where there is none, no data
abbrev pub place_told : ℕ → Tell
place_told zero = Tell.Nothing
place_told (suc p) = Tell.Number (suc p)

-- "A refused frame carries its own code" and, by 02, E6, the place; "record beyond the receiver, and image, unchanged"
abbrev pub refused_at : Fault → Core → Obeyed
refused_at f c = obeyed c f.code (place_told f.place) Write.Nothing

-- a code without a place: "and no data"
abbrev pub refused : ℕ → Core → Obeyed
refused code c = refused_at (fault code 0) c

-- "all others carry the held code": with data, with none, or with something to be written
abbrev pub telling : Tell → Core → Obeyed
telling tell c = obeyed c c.code tell Write.Nothing

abbrev pub silent : Core → Obeyed
silent c = telling Tell.Nothing c

abbrev pub writing : Write → Core → Obeyed
writing write c = obeyed c c.code Tell.Nothing write

-- where no frame was completed nothing is obeyed
abbrev pub nothing_obeyed : Core → Obeyed
nothing_obeyed c = silent c

-- "`T` when idle does nothing"; it leaves the held code
abbrev pub terminated : Core → Core
terminated c = cond c.running (ended c.code c) c

-- "Immediate bodies .. are obeyed while running"
abbrev pub immediate_obeyed : Immediate → Core → Obeyed
immediate_obeyed Terminate c = silent (terminated c)
immediate_obeyed Status c = silent c
immediate_obeyed CurrentText c = telling Tell.Text c
immediate_obeyed Position c = telling (Tell.Number c.motor.position) c
immediate_obeyed Speed c = telling (Tell.Number c.settings.speed) c
immediate_obeyed Sample c = telling (Tell.Number c.motor.sample) c
immediate_obeyed EndlessSpeed c = telling (Tell.Number c.endless) c
immediate_obeyed StepSize c = telling (Tell.Number (step_size c.settings.exponent)) c
immediate_obeyed Correction c = telling (Tell.Number c.settings.correction) c
immediate_obeyed Clear c = writing Write.Clear c

-- "running, and not immediate nor a resuming `R` (15)"
abbrev pub busy : ℕ
busy = 15

-- "`R` alone ends a wait at `H`"
abbrev pub resumed : Core → Obeyed
resumed c =
    cond (waits_input c.motor.wait) (silent (with_motor (waiting Wait.Nothing c.motor) c)) (refused busy c)

-- "when idle it runs a loaded line not yet run, else does nothing"
abbrev pub run_obeyed : Core → Obeyed
run_obeyed c = cond c.running (resumed c) (silent (cond c.loaded (started c.flow.length c) c))

-- "`X` alone, when idle, runs the current text again"
abbrev pub again_obeyed : Core → Obeyed
again_obeyed c = cond c.running (refused busy c) (silent (started c.flow.length c))

-- "without, it is loaded and held": the text is at its beginning, and has not been run
unfoldable pub loaded_as : ℕ → Core → Core
loaded_as n c = core (begun n) c.motor c.settings false true c.code c.endless

-- "With `R` it runs"
abbrev pub loaded_for : Bool → ℕ → Core → Core
loaded_for run n c = cond run (started n c) (loaded_as n c)

-- "either way its commands .. become the current text"; a store "starts no run and leaves the current text"
abbrev pub line_obeyed : Result Taken Fault → Core → Obeyed
line_obeyed (Err f) c = refused_at f c
line_obeyed (Ok (Taken.Line n run)) c = writing (Write.Text n) (loaded_for run n c)
line_obeyed (Ok (Taken.Store slot at n)) c = writing (Write.Store slot at n) c

-- 02, E3: "It sets only the endless speed"; "such a line with a missing or bad operand gives 3", as an idle unit does, with the place
abbrev pub speed_obeyed : List ℕ → Core → Obeyed
speed_obeyed body c = cond (eqb (line_fault body).code 0) (silent (with_endless (speed_in body) c)) (refused_at (line_fault body) c)

-- 02, E3: "is obeyed while an endless move is on", "tested before 15; at all other times 15 stands"
abbrev pub speed_or_busy : List ℕ → Core → Obeyed
speed_or_busy body c = cond (is_endless c.motor.wait && speed_line body) (speed_obeyed body c) (refused busy c)

-- "running, and not immediate nor a resuming `R`" comes before the reading
abbrev pub line_or_busy : List ℕ → Core → Obeyed
line_or_busy body c = cond c.running (speed_or_busy body c) (line_obeyed (line_of body) c)

abbrev pub kind_obeyed : Result Body Fault → List ℕ → Core → Obeyed
kind_obeyed (Err f) body c = refused_at f c
kind_obeyed (Ok Body.Empty) body c = silent c
kind_obeyed (Ok (Body.Immediate i)) body c = immediate_obeyed i c
kind_obeyed (Ok Body.Run) body c = run_obeyed c
kind_obeyed (Ok Body.Again) body c = again_obeyed c
kind_obeyed (Ok Body.Line) body c = line_or_busy body c

unfoldable pub body_obeyed : List ℕ → Core → Obeyed
body_obeyed body c = kind_obeyed (body_of body) body c

-- ---- what is written

-- "its commands, one or more, become the current text", zeros behind it
abbrev pub text_written : Write → List ℕ → List ℕ → List ℕ
text_written Write.Nothing body text = text
text_written (Write.Text n) body text = padded_text (take n body)
text_written (Write.Store slot at n) body text = text
text_written Write.Clear body text = text

-- "the text between slot and `R` is stored"; "`?9` writes the good image with all slots empty"
abbrev pub image_written : Write → List ℕ → List ℕ → List ℕ
image_written Write.Nothing body image = image
image_written (Write.Text n) body image = image
image_written (Write.Store slot at n) body image = after_store image slot (part body at n)
image_written Write.Clear body image = after_clear image
