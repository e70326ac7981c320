-- How a start is answered: the unit is handed out, or why it is refused.
-- Assumes nothing.
use Rattle.std.specs.Prelude.{Result, Ok, Err, ⊤}
use Rattle.drive.specs.declared.StartRefused.{StartRefused}

abbrev pub StartAnswer : Type 0
StartAnswer = Result ⊤ StartRefused

abbrev pub start_ok : StartAnswer
start_ok = Ok tt

-- the refusals in the order of their tests
abbrev pub start_unit_number : StartAnswer
start_unit_number = Err StartRefused.UnitNumber

abbrev pub start_image_length : StartAnswer
start_image_length = Err StartRefused.ImageLength

abbrev pub start_image_bad : StartAnswer
start_image_bad = Err StartRefused.ImageBad
