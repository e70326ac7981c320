-- `firmware::dt_line_place` meets its contract: no place is past 257. Assumes nothing.
use mathlib.Core.Path.{ap}
use native.Mathlib.Omega.{arith}
use Rattle.commands.specs.declared.Fault.{Fault}
use Rattle.lines.proofs.FaultLaws.{place-most}
use Rattle.firmware.proofs.dt_line_place.Goals as goal

pub overflow_cast-result : goal.overflow_cast-result
overflow_cast-result c = omega (arith, place-most c.args.body.now, ap (λ (f : Fault). f.place) c.fault_of.ensures)
