-- `ramp::taken` meets its contract: it computes what the definition says, and the square of a peak fits 64 bits. Assumes nothing.
use lib.Ieee.{of_bits}
use mir.Facts.{Fits-le, Fits-lit}
use native.Mathlib.Omega.{arith}
use Rattle.ramp.specs.Ramp.{peak_figures, speed_of, acceleration_of, time_of, distance_of}
use Rattle.ramp.proofs.Peak.{square_le}
use Rattle.ramp.proofs.taken.Goals as goal

pub overflow_mul-result : goal.overflow_mul-result
overflow_mul-result c = Fits-le (square_le (omega arith)) (Fits-lit tt)

pub returns : goal.returns
unfolding of_bits peak_figures speed_of acceleration_of time_of distance_of
returns c = simp (c.from-wide.ensures, c.from.ensures)
