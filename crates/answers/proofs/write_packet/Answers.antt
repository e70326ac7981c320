-- `answers::write_packet` meets its contract: the frame around `/` and 03, CR, LF is the packet. Assumes nothing.
use mathlib.Core.Path.{refl}
use Rattle.answers.specs.Packet.{packet}
use Rattle.answers.proofs.Writing.{packet_as_lem}
use Rattle.answers.proofs.write_packet.Goals as goal

pub returns : goal.returns
unfolding packet
returns c = packet_as_lem {make = packet} refl c.write_framed.ensures
