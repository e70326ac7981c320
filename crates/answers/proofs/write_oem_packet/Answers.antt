-- `answers::write_oem_packet` meets its contract: the frame around 02 and 03 with the checksum is the packet. Assumes nothing.
use Rattle.answers.specs.Oem.{oem_packet, oem_tail}
use Rattle.answers.proofs.Writing.{packet_as_lem}
use Rattle.answers.proofs.write_oem_packet.Goals as goal

pub returns : goal.returns
unfolding oem_packet oem_tail
returns c =
    packet_as_lem {make = oem_packet} (rw c.oem_sum.ensures) c.write_framed.ensures
