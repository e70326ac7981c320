-- `older::older_claims`: each claim is a law, and the examples compute. Assumes nothing.
use mathlib.Core.Path.{◌≡◌, refl}
use Rattle.digits.specs.Operand.{digit_run, value_after, operand_of, operand_at, operand_up_to}
use Rattle.digits.specs.Decimal.{digits_in, digits_of, ascii, decimal}
use Rattle.commands.specs.Table.{table, find, asks_of, command_of, one_of, power_in, exponent_of, within}
use Rattle.commands.specs.Reading.{read_by}
use Rattle.commands.specs.Writing.{two_digits_lem, spelled}
use Rattle.lines.specs.Texts.{unplaced, fault_places, leftmost}
use Rattle.lines.specs.Lists.{commands_text}
use Rattle.older.specs.Older.{older_table, older_in, older_asks, both_have, older_in_range, sets_ramp, becomes}
use Rattle.older.specs.Items.{stands_at, items_in, items_from, letter_places, operand_places, items_placed, places_past, refusal_of, carried_commands, any_ramp}
use Rattle.older.specs.Examples.{outcome, older_examples, outcomes, expected}
use Rattle.older.proofs.RampLaws.{slowed_in, slowed_out}
use Rattle.older.proofs.PassedLaws.{passes, both_ways, stored}
use Rattle.older.proofs.BackLaws.{passes_back, goes_back}
use Rattle.older.proofs.older_claims.Goals as goal

edges : outcomes older_examples ≡ expected older_examples
unfolding older_examples outcomes expected outcome any_ramp carried_commands refusal_of places_past items_placed operand_places letter_places items_from items_in stands_at becomes sets_ramp older_in_range both_have older_asks older_in older_table commands_text leftmost fault_places unplaced spelled two_digits_lem read_by table find asks_of command_of one_of power_in exponent_of within digits_in digits_of ascii decimal operand_at operand_up_to operand_of digit_run value_after
edges = refl

pub returns : goal.returns
returns c = record { slowed_in = slowed_in; slowed_out = slowed_out; passes = passes; passes_back = passes_back; goes_back = goes_back; both_ways = both_ways; stored = stored; edges = edges }
