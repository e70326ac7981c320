-- `digits::digit_at` meets its contract: past the end there is no run, and within it the byte decides how the run begins.
-- Assumes nothing.
use mathlib.Core.Path.{◌≡◌, sym}
use mathlib.Core.Bool.{true}
use native.Mathlib.Omega.{arith}
use lib.ListN.{get_or}
use Rattle.digits.specs.Operand.{is_digit}
use Rattle.digits.proofs.Reading.{digit_past, digit_none, digit_some}
use Rattle.digits.proofs.digit_at.Goals as goal

pub returns-then-s-at : goal.returns-then-s-at
returns-then-s-at c = digit_past _ _ c.if-s-at.true

pub returns-then-is_ascii_digit : goal.returns-then-is_ascii_digit
returns-then-is_ascii_digit c =
    let digit : is_digit (get_or c.args.s.now c.args.at 0) ≡ true = sym c.if-is_ascii_digit.ensures.value in
    let below = c.if-is_ascii_digit.ensures.cases in
    (rw c.from.ensures (digit_some _ _ c.if-s-at.false digit), rw c.from.ensures (omega arith))

pub returns-else-is_ascii_digit : goal.returns-else-is_ascii_digit
returns-else-is_ascii_digit c = digit_none _ _ c.if-s-at.false (sym c.if-is_ascii_digit.ensures.value)
