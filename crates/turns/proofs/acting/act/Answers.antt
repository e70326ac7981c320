-- `turns::act` meets its contract: each arm knows its command. Assumes nothing.
-- `A`
use Rattle.turns.specs.Turns.{acted}
use Rattle.turns.proofs.acting.act.Goals as goal

pub returns-in-MoveTo : goal.returns-in-MoveTo
unfolding acted
returns-in-MoveTo c = simp (c.move_on.ensures, c.move_to.ensures, c.in-MoveTo.is)

pub returns-in-MoveUp : goal.returns-in-MoveUp
unfolding acted
returns-in-MoveUp c = simp (c.move_on_by.ensures, c.move_by.ensures, c.in-MoveUp.is)

pub returns-in-MoveDown : goal.returns-in-MoveDown
unfolding acted
returns-in-MoveDown c = simp (c.move_on_by-in-MoveDown.ensures, c.move_by-in-MoveDown.ensures, c.in-MoveDown.is)

pub returns-in-SetPosition : goal.returns-in-SetPosition
unfolding acted
returns-in-SetPosition c = simp (c.set_motor.ensures, c.place_at.ensures, c.in-SetPosition.is)

pub returns-in-Home : goal.returns-in-Home
unfolding acted
returns-in-Home c = simp (
  c.set_motor-in-Home.ensures,
  c.home.ensures,
  c.in-Home.is,
)

pub returns-in-Set : goal.returns-in-Set
unfolding acted
returns-in-Set c = simp (c.set_settings.ensures, c.set.ensures, c.in-Set.is)

pub returns-in-Delay : goal.returns-in-Delay
unfolding acted
returns-in-Delay c = simp (c.set_motor-in-Delay.ensures, c.delay.ensures, c.in-Delay.is)

pub returns-in-WaitInput : goal.returns-in-WaitInput
unfolding acted
returns-in-WaitInput c = simp (c.set_motor-in-WaitInput.ensures, c.hold.ensures, c.in-WaitInput.is)
