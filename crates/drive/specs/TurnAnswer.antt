-- How a turn is answered: it is taken, or why it is refused.
-- Assumes nothing.
use Rattle.std.specs.Prelude.{Result, Ok, Err, ⊤}
use Rattle.drive.specs.declared.TurnRefused.{TurnRefused}

abbrev pub TurnAnswer : Type 0
TurnAnswer = Result ⊤ TurnRefused

abbrev pub turn_ok : TurnAnswer
turn_ok = Ok tt

-- the refusals in the order of their tests
abbrev pub turn_image_length : TurnAnswer
turn_image_length = Err TurnRefused.ImageLength

abbrev pub turn_sample : TurnAnswer
turn_sample = Err TurnRefused.Sample

abbrev pub turn_steps : TurnAnswer
turn_steps = Err TurnRefused.Steps
