-- `answers::read_oem_packet` meets its contract: a framed slice has the room that is asked for (`roomy`); the rest the check finds. Assumes nothing.
use Rattle.answers.proofs.Framing.{oem, roomy}
use Rattle.answers.proofs.read_oem_packet.Goals as goal

pub look_inside-requires : goal.look_inside-requires
look_inside-requires c = roomy oem _ c.oem_framed.ensures
