-- `ramp::finite_peak` meets its contract: 12207·L·N fits 64 bits, and the peak, at most V, fits 32. Assumes nothing.
use native.Mathlib.Nat.{mul-le-mul, mul-le-mul_left}
use native.Mathlib.Omega.{arith}
use mir.Facts.{Fits-le, Fits-lit}
use Prim.Native.Nat.{◌*◌}
use Rattle.ramp.specs.Peak.{double_unit}
use Rattle.ramp.proofs.Peak.{greatest_is}
use Rattle.ramp.proofs.finite_peak.Goals as goal

pub overflow_cast-result : goal.overflow_cast-result
overflow_cast-result c =
    omega (arith, c.greatest_under.ensures, (greatest_is c.from-3.result (double_unit * c.from.result * c.from-2.result)).under)

pub overflow_mul-room-2 : goal.overflow_mul-room-2
overflow_mul-room-2 c = rw (c.from.ensures, c.from-2.ensures) (Fits-le (mul-le-mul (mul-le-mul_left double_unit c.requires.1.1) c.requires.2.1) (Fits-lit tt))

pub returns : goal.returns
returns c = simp (c.greatest_under.ensures, c.from.ensures, c.from-2.ensures, c.from-3.ensures)
