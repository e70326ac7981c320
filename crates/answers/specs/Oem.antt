-- The answer in the OEM framing, as it is written and as the host reads it; the rule of status and data is that of the plain one.
-- 02, E1. Assumes nothing.
use Rattle.std.specs.Prelude.{ℕ, List, [], ◌∷◌, ◌++◌, Bool, Option}
use Rattle.parts.specs.Letters.{stx, etx}
use Rattle.checksum.specs.Checksum.{checksum_of}
use Rattle.answers.specs.Packet.{host_address, packet_around, PacketAs}
use Rattle.answers.specs.Reading.{framed_by, one_by, inside_by, told_of}
use Rattle.answers.specs.declared.Packet.{Packet}

-- "the exclusive-or of all bytes from 02 to 03"
unfoldable pub oem_sum : ℕ → List ℕ → ℕ
oem_sum status bytes = checksum_of (stx ∷ host_address ∷ status ∷ (bytes ++ (etx ∷ [])))

-- "03 and its checksum"
unfoldable pub oem_tail : ℕ → List ℕ → List ℕ
oem_tail status bytes = etx ∷ oem_sum status bytes ∷ []

-- "The answer is 02, `0`, status, data, 03 and its checksum"
unfoldable pub oem_packet : ℕ → List ℕ → List ℕ
oem_packet status bytes = packet_around stx (oem_tail status bytes) status bytes

-- three bytes stand before the data, two behind it
abbrev pub around_oem : ℕ
around_oem = 5

abbrev pub OemPacketIs : List ℕ → ℕ → List ℕ → Option ℕ → List ℕ → Type 0
OemPacketIs buffer status bytes answer after = PacketAs oem_packet buffer status bytes answer after

-- the packet of its own status and data, and no byte more or less
abbrev pub oem_framed : List ℕ → Bool
oem_framed s = framed_by oem_packet around_oem s

-- exactly one packet of this framing, by the one rule of status and data
abbrev pub is_oem_packet : List ℕ → Bool
is_oem_packet s = one_by (oem_framed s) around_oem s

-- what the host is told
abbrev pub read_oem_of : List ℕ → Option Packet
read_oem_of s = told_of (inside_by (oem_framed s) around_oem s)
