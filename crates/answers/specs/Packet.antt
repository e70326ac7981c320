-- What comes back: status and packet, as they are written. 01, "What comes back". Assumes nothing.
use Rattle.std.specs.Prelude.{ℕ, ◌+◌, ◌%◌, ◌^◌, List, [], ◌∷◌, ◌++◌, Bool, cond, ◌≡◌, length, leb, Option, None}
use Rattle.parts.specs.Parts.{padded, put_in}
use Rattle.parts.specs.Letters.{byte, slash, cr, lf, etx}
use Rattle.digits.specs.Decimal.{decimal, written_at}
use Rattle.answers.specs.declared.Data.{Data}

-- "Packet: `/`, `0`, .."
abbrev pub host_address : ℕ
host_address = byte "0"

-- a packet of either framing: its first byte and its tail stand around "`0`, status, data"
abbrev pub packet_around : ℕ → List ℕ → ℕ → List ℕ → List ℕ
packet_around start back status bytes = start ∷ host_address ∷ status ∷ (bytes ++ back)

-- 03, CR, LF
abbrev pub tail : List ℕ
tail = etx ∷ cr ∷ lf ∷ []

-- "`/`, `0`, status, data, 03, CR, LF"
unfoldable pub packet : ℕ → List ℕ → List ℕ
packet status bytes = packet_around slash tail status bytes

-- three bytes stand before the data, three behind it
abbrev pub data_at : ℕ
data_at = 3

abbrev pub around_data : ℕ
around_data = 6

-- "data 0 to 256 bytes"
abbrev pub most_data : ℕ
most_data = 256

-- "262 bytes", the longest packet
abbrev pub packet_bytes : ℕ
packet_bytes = around_data + most_data

-- "low four bits"
abbrev pub low_four : ℕ → ℕ
low_four n = n % 2 ^ 4

-- "bit 6 set, bit 5 set when idle after the frame, low four bits the code"
unfoldable pub status_of : Bool → ℕ → ℕ
status_of idle code = 2 ^ 6 + cond idle (2 ^ 5) 0 + low_four code

-- what is answered and what the buffer holds after a packet, made of status and data, was to be written at its front: "answer
-- bytes past the packet are unchanged"; without room, and for more data than a packet has, all are
pub record PacketAs (make : ℕ → List ℕ → List ℕ) (buffer : List ℕ) (status : ℕ) (bytes : List ℕ) (answer : Option ℕ) (after : List ℕ) : Type 0 where
  pub answers : answer ≡ cond (leb (length bytes) most_data) (written_at buffer 0 (make status bytes)) None
  pub leaves : after ≡ cond (leb (length bytes) most_data) (put_in buffer 0 (make status bytes)) buffer

abbrev pub PacketIs : List ℕ → ℕ → List ℕ → Option ℕ → List ℕ → Type 0
PacketIs buffer status bytes answer after = PacketAs packet buffer status bytes answer after

-- 4294967295, the greatest number that is answered, has ten digits
abbrev pub most_digits : ℕ
most_digits = 10

-- "in decimal without leading zeros", as data: the digits, with zeros behind them, and how many digits
unfoldable pub number_data : ℕ → Data
number_data n = record { bytes = padded most_digits (decimal n); length = length (decimal n) }
