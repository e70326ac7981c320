-- What each answer of the host's reading is called: 01's table of outcomes, "slice not exactly one packet".
-- Assumes nothing.
use Prim.Native.String.{String}
use Rattle.std.specs.Prelude.{Option, Some, None}
use Rattle.answers.specs.declared.Packet.{Packet}

abbrev pub found_name : Option Packet → String
found_name (Some p) = "exactly one packet"
found_name None = "not exactly one packet"
