-- A packet that the host reads. 01, the row "slice not exactly one packet (status bit 6 set, bits 7 and 4 clear,
-- data 0 to 256 bytes of 20 to 7E hex) | named refusal". Assumes nothing.
use Rattle.std.specs.Prelude.{ℕ, ◌-◌, ◌/◌, ◌%◌, ◌^◌, List, [], ◌∷◌, Bool, true, cond, not, ◌&&◌, length, get_or, leb, eqb, Option, Some, None}
use Rattle.parts.specs.Parts.{part, same}
use Rattle.answers.specs.Packet.{packet, data_at, around_data, most_data, low_four}
use Rattle.answers.specs.declared.Packet.{Packet}

-- status and data, where they stand in a packet
abbrev pub status_in : List ℕ → ℕ
status_in s = get_or s 2 0

unfoldable pub data_in : ℕ → List ℕ → List ℕ
data_in around s = part s data_at (length s - around)

-- the packet of its own status and data, as a framing makes it, and no byte more or less
unfoldable pub framed_by : (ℕ → List ℕ → List ℕ) → ℕ → List ℕ → Bool
framed_by make around s = same s (make (status_in s) (data_in around s))

-- "`/`, `0`, status, data, 03, CR, LF"
abbrev pub framed : List ℕ → Bool
framed s = framed_by packet around_data s

-- bit k of a byte
abbrev pub bit : ℕ → ℕ → Bool
bit k n = eqb (n / 2 ^ k % 2) 1

-- "status bit 6 set, bits 7 and 4 clear"
unfoldable pub good_status : ℕ → Bool
good_status status = bit 6 status && (not (bit 7 status) && not (bit 4 status))

-- "of 20 to 7E hex"
abbrev pub printable : ℕ → Bool
printable b = leb 0x20 b && leb b 0x7E

unfoldable pub all_printable : List ℕ → Bool
all_printable [] = true
all_printable (b ∷ bs) = printable b && all_printable bs

-- "data 0 to 256 bytes of 20 to 7E hex"
unfoldable pub good_data : List ℕ → Bool
good_data bytes = leb (length bytes) most_data && all_printable bytes

-- "exactly one packet": framed, with good status and data
unfoldable pub one_by : Bool → ℕ → List ℕ → Bool
one_by isFramed around s = isFramed && (good_status (status_in s) && good_data (data_in around s))

abbrev pub is_packet : List ℕ → Bool
is_packet s = one_by (framed s) around_data s

-- status and number of data bytes; "named refusal" of every slice that is not exactly one packet
unfoldable pub inside_by : Bool → ℕ → List ℕ → Option (ℕ × ℕ)
inside_by isFramed around s = cond (one_by isFramed around s) (Some (status_in s, length (data_in around s))) None

-- what the host is told: "bit 5 set when idle", "low four bits the code", and where the data lies
abbrev pub packet_told : ℕ → ℕ → Packet
packet_told status n = record { status = status; idle = bit 5 status; code = low_four status; at = data_at; length = n }

-- a refusal has nothing beside it
unfoldable pub told_of : Option (ℕ × ℕ) → Option Packet
told_of (Some inside) = Some (packet_told inside.0 inside.1)
told_of None = None

abbrev pub read_of : List ℕ → Option Packet
read_of s = told_of (inside_by (framed s) around_data s)
