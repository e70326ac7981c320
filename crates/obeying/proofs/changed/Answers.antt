-- `obeying::changed` meets its contract: each change has its arm, and its arm stores what the definition's clause changes.
-- Assumes nothing.
use Rattle.turns.specs.Turns.{started, ended}
use Rattle.obeying.specs.Obeying.{loaded_as}
use Rattle.obeying.proofs.changed.Goals as goal

pub returns-in-Stop : goal.returns-in-Stop
unfolding ended
returns-in-Stop c = simp (c.stop-c.ensures, c.in-Stop.is)

pub returns-in-Start : goal.returns-in-Start
unfolding started
returns-in-Start c = simp (c.begin-c.ensures, c.in-Start.is)

pub returns-in-Load : goal.returns-in-Load
unfolding loaded_as
returns-in-Load c = simp (c.begin-c-in-Load.ensures, c.in-Load.is)
