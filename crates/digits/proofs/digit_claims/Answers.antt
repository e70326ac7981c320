-- `digits::digit_claims`: every claim is a law of `ReadBack`, and the examples compute.
-- Assumes nothing.
use mathlib.Core.Path.{refl}
use Rattle.digits.specs.Operand.{digit_run, value_after, operand_of, operand_at, operand_up_to}
use Rattle.digits.specs.Decimal.{digits_in, digits_of, ascii, decimal}
use Rattle.digits.proofs.ReadBack.{read_back, read_limited, spelled, written_apart, run-below}
use Rattle.digits.proofs.digit_claims.Goals as goal

pub returns : goal.returns
unfolding operand_up_to operand_at operand_of digit_run value_after digits_in digits_of ascii decimal
returns c = record {
  reads_back = read_back;
  spelled = spelled;
  reads_limited = read_limited;
  written_apart = written_apart;
  value_below = run-below;
  no_wrap = refl;
  nines = refl;
  ten = refl;
  eleven = refl;
  eleven-zeros = refl;
}
