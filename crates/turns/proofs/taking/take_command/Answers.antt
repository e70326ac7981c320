-- `turns::take_command` meets its contract: each arm knows its command. Assumes nothing.
use Rattle.turns.specs.Turns.{command_taken}
use Rattle.turns.proofs.taking.take_command.Goals as goal

pub returns-in-LoopBegin : goal.returns-in-LoopBegin
unfolding command_taken
returns-in-LoopBegin c = simp (
  c.stay.ensures,
  c.flow_on.ensures,
  c.begin_loop.ensures,
  c.in-LoopBegin.is,
)

pub returns-in-LoopEnd : goal.returns-in-LoopEnd
unfolding command_taken
returns-in-LoopEnd c = simp (
  c.stay-in-LoopEnd.ensures,
  c.flow_on-in-LoopEnd.ensures,
  c.end_loop.ensures,
  c.in-LoopEnd.is,
)

pub returns-in-Skip : goal.returns-in-Skip
unfolding command_taken
returns-in-Skip c = simp (c.stay-in-Skip.ensures, c.skip.ensures, c.in-Skip.is)

pub returns-in-Jump : goal.returns-in-Jump
unfolding command_taken
returns-in-Jump c = simp (c.jump.ensures, c.in-Jump.is)

pub returns-in-Plain : goal.returns-in-Plain
unfolding command_taken
returns-in-Plain c = simp (c.stay-in-Plain.ensures, c.act.ensures, c.go_to.ensures, c.in-Plain.is)
