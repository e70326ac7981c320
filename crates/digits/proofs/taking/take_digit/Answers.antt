-- `taking::take_digit` meets its contract: 4, 2, 2 and 1 times the power leave less than 6, 4, 2 and 1 times. Assumes nothing.
use Prim.Native.Nat.{◌+◌}
use native.Mathlib.Omega.{arith}
use Rattle.digits.proofs.Powers.{Within, taken}
use Rattle.digits.proofs.taking.take_digit.Goals as goal
use Rattle.digits.proofs.taking.take_digit.Goals.{After-take_part-below_four, After-take_part-below_six, After-take_part-below_two}

below-six : (c : After-take_part-below_six)
    → Within c.args.n c.args.power 6 c.take_part-below_six.result.digit c.take_part-below_six.result.rest
below-six c =
    let n = c.args.n in
    let p = c.args.power in
    let whole : Within n p 10 0 n = record { whole = omega arith; below = c.requires.0; digit = omega arith } in
    taken n p 4 6 ((p + p) + (p + p)) 0 n _ _ whole (omega arith) (omega arith) c.take_part-below_six.ensures.0 c.take_part-below_six.ensures.1

below-four : (c : After-take_part-below_four)
    → Within c.args.n c.args.power 4 c.take_part-below_four.result.digit c.take_part-below_four.result.rest
below-four c =
    let p = c.args.power in
    taken _ p 2 4 (p + p) _ _ _ _ (below-six c.before) (omega arith) (omega arith) c.take_part-below_four.ensures.0 c.take_part-below_four.ensures.1

below_two : (c : After-take_part-below_two)
    → Within c.args.n c.args.power 2 c.take_part-below_two.result.digit c.take_part-below_two.result.rest
below_two c =
    let p = c.args.power in
    taken _ p 2 2 (p + p) _ _ _ _ (below-four c.before) (omega arith) (omega arith) c.take_part-below_two.ensures.0 c.take_part-below_two.ensures.1

pub returns : goal.returns
returns c =
    let n = c.args.n in
    let p = c.args.power in
    let w : Within n p 1 c.take_part.result.digit c.take_part.result.rest =
    taken _ p 1 1 p _ _ _ _ (below_two (goal.at.returns c).After-take_part-below_two) (omega arith) (omega arith) c.take_part.ensures.0 c.take_part.ensures.1 in
    (w.whole, omega (arith, w.below), omega (arith, w.digit))

pub take_part-below_four-requires : goal.take_part-below_four-requires
take_part-below_four-requires c = omega (arith, (below-six c).digit)

pub take_part-below_two-requires : goal.take_part-below_two-requires
take_part-below_two-requires c = omega (arith, (below-four c).digit)

pub take_part-requires : goal.take_part-requires
take_part-requires c = omega (arith, (below_two c).digit)
