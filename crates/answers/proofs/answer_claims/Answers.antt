-- `answers::answer_claims`: every claim is a law of `ReadBack` or `Writing`, and the two packets of K1 and K2 compute.
-- Assumes nothing.
use mathlib.Core.Path.{refl}
use lib.Dec.{lit≤}
use Rattle.digits.specs.Decimal.{digits_in, digits_of, ascii, decimal}
use Rattle.checksum.specs.Checksum.{xor, sum_from, checksum_of}
use Rattle.answers.specs.Packet.{packet, status_of, around_data}
use Rattle.answers.specs.Reading.{framed}
use Rattle.answers.specs.Oem.{oem_sum, oem_tail, oem_packet, around_oem, oem_framed}
use Rattle.answers.proofs.Writing.{packet_once}
use Rattle.answers.proofs.ReadBack.{which, reads_back, nothing_else, refused-bare, status_bits, status-only, status-apart, packet-apart, number-there, number-good, fits}
use Rattle.answers.proofs.Framing.{plain, oem}
use Rattle.answers.proofs.OemLaws.{framings_apart}
use Rattle.answers.proofs.answer_claims.Goals as goal

pub returns : goal.returns
unfolding packet status_of decimal ascii digits_of digits_in oem_packet oem_tail oem_sum checksum_of sum_from xor
returns c = record {
  which = λ s. which (framed s) around_data s;
  reads_back = reads_back plain;
  nothing_else = nothing_else plain;
  refused-bare = λ s. refused-bare (framed s) around_data s;
  status_bits = status_bits;
  status-only = status-only;
  status-apart = status-apart;
  packet-apart = packet-apart plain;
  number-there = number-there;
  number-good = number-good;
  longest = refl;
  fits = fits plain (lit≤ tt);
  one_answer = packet_once;
  k1_packet = refl;
  k2_packet = refl;
  which-oem = λ s. which (oem_framed s) around_oem s;
  reads_back_oem = reads_back oem;
  nothing_else_oem = nothing_else oem;
  refused-bare-oem = λ s. refused-bare (oem_framed s) around_oem s;
  oem-packet-apart = packet-apart oem;
  framings_apart = framings_apart;
  fits-oem = fits oem (lit≤ tt);
  one-oem-answer = packet_once;
  oem-example = refl;
}
