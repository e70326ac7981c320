-- `answers::read_packet` meets its contract: a framed slice has the room that is asked for (`roomy`); the rest the check finds. Assumes nothing.
use Rattle.answers.proofs.Framing.{plain, roomy}
use Rattle.answers.proofs.read_packet.Goals as goal

pub look_inside-requires : goal.look_inside-requires
look_inside-requires c = roomy plain _ c.framed.ensures
