-- Both tables pass their test: every script is played from the real start, by computation.
-- Assumes nothing.
use mathlib.Core.Path.{◌≡◌, refl}
use mathlib.Core.List.{List}
use mathlib.Core.Bool.{Bool, true}
use Rattle.parts.specs.Parts as parts-parts
use Rattle.digits.specs.Decimal as digits_decimal
use Rattle.digits.specs.Operand as digits-operand
use Rattle.commands.specs.Reading as commands-reading
use Rattle.commands.specs.Table as commands-table
use Rattle.lines.specs.Bodies as lines-bodies
use Rattle.lines.specs.Examples as lines-examples
use Rattle.lines.specs.Texts as lines-texts
use Rattle.image.specs.Calls as image-calls
use Rattle.image.specs.Image as image-image
use Rattle.ramp.specs.Ramp as ramp-ramp
use Rattle.ramp.specs.Ranges as ramp-ranges
use Rattle.frames.specs.Addresses as frames-addresses
use Rattle.frames.specs.Receive as frames-receive
use Rattle.answers.specs.Packet as answers-packet
use Rattle.flow.specs.Flow as flow-flow
use Rattle.motor.specs.Inputs as motor-inputs
use Rattle.motor.specs.Motion as motor-motion
use Rattle.turns.specs.Settings as turns-settings
use Rattle.turns.specs.Turns as turns-turns
use Rattle.obeying.specs.Obeying as obeying-obeying
use Rattle.obeying.specs.Speed as obeying-speed
use Rattle.drive.specs.Calls as drive-calls
use Rattle.drive.specs.Repeats as drive-repeats
use Rattle.checksum.specs.Checksum as checksum-checksum
use Rattle.answers.specs.Oem as answers-oem
use Rattle.claims.specs.KTable.{Case, cases, fresh, plays, after_turns}
use Rattle.claims.specs.Edges.{edges}
use Rattle.claims.proofs.KTableLaws.{tests}

-- with all that a table computes by: to unfold this is to unfold each of them
unfoldable computed : List Case → Bool
unfolding fresh plays after_turns parts-parts.part parts-parts.put parts-parts.put_in parts-parts.padded parts-parts.same digits_decimal.digits_in digits_decimal.digits_of digits_decimal.ascii digits_decimal.decimal digits-operand.digit_run digits-operand.value_after digits-operand.operand_of digits-operand.operand_at commands-table.table commands-table.find commands-table.asks_of commands-table.command_of commands-table.one_of commands-table.power_in commands-table.exponent_of commands-table.within lines-bodies.immediates lines-bodies.immediate_in lines-bodies.body_of lines-bodies.ends_with_r lines-bodies.text_end lines-bodies.taken_of lines-bodies.line_of lines-bodies.line_code_lem lines-examples.examples lines-examples.each lines-texts.reading_in lines-texts.structured lines-texts.line_judged image-calls.stored_of image-calls.after_store image-calls.after_clear image-image.word_at image-image.word image-image.entry_of image-image.slot_body image-image.all_zeros image-image.good_at image-image.slot_text image-image.entry_for image-image.with_entry image-image.with_body image-image.with_text image-image.empty_entries image-image.empty_image ramp-ramp.speed_of ramp-ramp.acceleration_of ramp-ramp.time_of ramp-ramp.distance_of ramp-ramp.peak_figures ramp-ramp.figures_of ramp-ranges.outside frames-addresses.pairs frames-addresses.fours frames-addresses.pair_of frames-addresses.four_of frames-addresses.called_of frames-receive.stored frames-receive.heard frames-receive.byte_received frames-receive.receive_of answers-packet.packet answers-packet.status_of answers-packet.number_data answers-oem.oem_sum answers-oem.oem_tail answers-oem.oem_packet checksum-checksum.xor checksum-checksum.sum_from checksum-checksum.checksum_of drive-repeats.is_query drive-repeats.chosen flow-flow.begun flow-flow.again flow-flow.loop_begun flow-flow.loop_ended motor-inputs.high motor-inputs.level_there motor-inputs.falls motor-inputs.cut motor-motion.fresh_motor motor-motion.room motor-motion.counted motor-motion.reported motor-motion.finite motor-motion.relative motor-motion.absolute motor-motion.homed motor-motion.delayed motor-motion.held motor-motion.moved_on motor-motion.endless_on motor-motion.away_on motor-motion.toward_on motor-motion.delay_on motor-motion.stopped motor-motion.served turns-settings.defaults turns-turns.fresh_core turns-turns.started turns-turns.ended turns-turns.astray turns-turns.acted turns-turns.jumped turns-turns.skip_taken turns-turns.command_taken turns-turns.read_taken turns-turns.running turns-turns.step_of turns-turns.turn_core turns-turns.action_answered obeying-obeying.step_size obeying-obeying.loaded_as obeying-obeying.body_obeyed drive-calls.fresh_unit drive-calls.no_unit drive-calls.start_of drive-calls.answer_to drive-calls.feed_of drive-calls.turn_of lines-bodies.line_fault lines-texts.unplaced lines-texts.fault_places lines-texts.fifteenth lines-texts.stored_places lines-texts.leftmost obeying-speed.speed_line digits-operand.operand_up_to commands-reading.read_by lines-texts.reading_by lines-texts.stored_by lines-texts.text_good_by image-calls.checked_by image-image.slot_by image-image.slots_by
computed = tests

pub cases_pass : tests cases ≡ true
unfolding computed cases
cases_pass = refl

pub edges_pass : tests edges ≡ true
unfolding computed edges
edges_pass = refl
