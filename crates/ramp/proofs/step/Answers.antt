-- `ramp::step` meets its contract: the sum fits 64 bits, as a quotient is at most what is divided. Assumes nothing.
use native.Mathlib.Nat.{div-le_self}
use native.Mathlib.Omega.{arith}
use Rattle.ramp.proofs.step.Goals as goal

pub overflow_add-result : goal.overflow_add-result
overflow_add-result c = omega (arith, div-le_self c.args.square c.args.x)
