-- What is claimed of status and packets together: what is written is read back, and nothing else is read.
-- 01, "What comes back"; 02, E1. Assumes nothing.
use Rattle.std.specs.Prelude.{ℕ, ◌+◌, ◌≤◌, ◌<◌, List, [], ◌∷◌, ◌++◌, Bool, true, false, ◌≡◌, length, take, drop, Option, Some, None, is_some, IsSomeAnd}
use Rattle.parts.specs.Parts.{part}
use Rattle.digits.specs.Operand.{widest}
use Rattle.digits.specs.Decimal.{decimal}
use Rattle.answers.specs.Packet.{packet, low_four, status_of, around_data, most_data, packet_bytes, number_data, PacketIs}
use Rattle.answers.specs.Reading.{bit, good_status, good_data, is_packet, read_of}
use Rattle.answers.specs.Oem.{oem_packet, around_oem, OemPacketIs, is_oem_packet, read_oem_of}
use Rattle.answers.specs.declared.Packet.{Packet}

-- the data of a slice that is read: the part where it is told to lie
abbrev pub carried : Packet → List ℕ → List ℕ
carried p s = part s p.at p.length

-- what is told of a slice is the packet of an idle or running unit, a code and data
pub record ToldAs (p : Packet) (s : List ℕ) (idle : Bool) (code : ℕ) (bytes : List ℕ) : Type 0 where
  pub as_status : p.status ≡ status_of idle code
  pub as_idle : p.idle ≡ idle
  pub as_code : p.code ≡ low_four code
  pub as_data : carried p s ≡ bytes

-- in the plain framing, and in the OEM one
abbrev pub ReadsAs : List ℕ → Bool → ℕ → List ℕ → Type 0
ReadsAs s idle code bytes = IsSomeAnd (read_of s) (λ p. ToldAs p s idle code bytes)

abbrev pub ReadsAsOem : List ℕ → Bool → ℕ → List ℕ → Type 0
ReadsAsOem s idle code bytes = IsSomeAnd (read_oem_of s) (λ p. ToldAs p s idle code bytes)

-- a slice is the packet of what was told of it
pub record GenuineAs (make : ℕ → List ℕ → List ℕ) (p : Packet) (s : List ℕ) : Type 0 where
  pub whole : s ≡ make p.status (carried p s)
  pub status-good : good_status p.status ≡ true
  pub data_good : good_data (carried p s) ≡ true

abbrev pub Genuine : Packet → List ℕ → Type 0
Genuine p s = GenuineAs packet p s

-- "bit 6 set, bit 5 set when idle after the frame, low four bits the code"; bits 7 and 4 clear
pub record StatusBits (status : ℕ) (idle : Bool) (code : ℕ) : Type 0 where
  pub bit_7 : bit 7 status ≡ false
  pub bit_6 : bit 6 status ≡ true
  pub bit_5 : bit 5 status ≡ idle
  pub bit_4 : bit 4 status ≡ false
  pub low-four : low_four status ≡ low_four code
  pub a_byte : status < 256

pub record AnswerClaims : Type 0 where
  -- a slice is read where it is exactly one packet, and nowhere else
  pub which : (s : List ℕ) → is_some (read_of s) ≡ is_packet s
  -- every packet of a status and of data that a packet may have is read back
  pub reads_back : (idle : Bool) (code : ℕ) (bytes : List ℕ) → good_data bytes ≡ true
      → ReadsAs (packet (status_of idle code) bytes) idle code bytes
  -- whatever is read as a packet is the packet of the status and the data that are told: nothing else is taken
  pub nothing_else : (s : List ℕ) (p : Packet) → read_of s ≡ Some p → Genuine p s
  -- whatever is refused is told with nothing beside it
  pub refused-bare : (s : List ℕ) → is_packet s ≡ false → read_of s ≡ None
  -- a status has the bits that 01 names, and no other byte is a status
  pub status_bits : (idle : Bool) (code : ℕ) → StatusBits (status_of idle code) idle code
  pub status-only : (n : ℕ) → n < 256 → good_status n ≡ true → n ≡ status_of (bit 5 n) (low_four n)
  -- idle or not and the code are told apart
  pub status-apart : (i j : Bool) (c d : ℕ) → c < 16 → d < 16 → status_of i c ≡ status_of j d → (i ≡ j) × (c ≡ d)
  -- no two packets are alike: one that never varies is shut out
  pub packet-apart : (s t : ℕ) (x y : List ℕ) → packet s x ≡ packet t y → (s ≡ t) × (x ≡ y)
  -- a number as data is in decimal, and a packet may have it
  pub number-there : (n : ℕ) → take (number_data n).length (number_data n).bytes ≡ decimal n
  pub number-good : (n : ℕ) → n ≤ widest → good_data (decimal n) ≡ true
  -- "262 bytes": the longest packet; such a buffer has room for every packet, and "answer bytes past the packet are unchanged"
  pub longest : packet_bytes ≡ 262
  pub fits : {buffer : List ℕ} {status : ℕ} {bytes : List ℕ} {r : Option ℕ} {after : List ℕ}
      → packet_bytes ≤ length buffer → length bytes ≤ most_data → PacketIs buffer status bytes r after
      → (r ≡ Some (around_data + length bytes))
      × (after ≡ packet status bytes ++ drop (around_data + length bytes) buffer)
  -- no second answer and no second buffer meet the promise
  pub one_answer : {buffer : List ℕ} {status : ℕ} {bytes : List ℕ} {r s : Option ℕ} {x y : List ℕ}
      → PacketIs buffer status bytes r x → PacketIs buffer status bytes s y → (r ≡ s) × (x ≡ y)
  -- the packets of K1 and K2: running and no data; idle and the number 0
  pub k1_packet : packet (status_of false 0) [] ≡ 0x2F ∷ 0x30 ∷ 0x40 ∷ 0x03 ∷ 0x0D ∷ 0x0A ∷ []
  pub k2_packet : packet (status_of true 0) (decimal 0) ≡ 0x2F ∷ 0x30 ∷ 0x60 ∷ 0x30 ∷ 0x03 ∷ 0x0D ∷ 0x0A ∷ []
  -- THE OEM FRAMING (02, E1): the same of its packets
  pub which-oem : (s : List ℕ) → is_some (read_oem_of s) ≡ is_oem_packet s
  pub reads_back_oem : (idle : Bool) (code : ℕ) (bytes : List ℕ) → good_data bytes ≡ true
      → ReadsAsOem (oem_packet (status_of idle code) bytes) idle code bytes
  pub nothing_else_oem : (s : List ℕ) (p : Packet) → read_oem_of s ≡ Some p → GenuineAs oem_packet p s
  pub refused-bare-oem : (s : List ℕ) → is_oem_packet s ≡ false → read_oem_of s ≡ None
  pub oem-packet-apart : (s t : ℕ) (x y : List ℕ) → oem_packet s x ≡ oem_packet t y → (s ≡ t) × (x ≡ y)
  -- no slice is a packet of both framings
  pub framings_apart : (s t : ℕ) (x y : List ℕ) → packet s x ≡ oem_packet t y → ⊥
  -- 261 bytes at most: a buffer of 262 has room for every packet
  pub fits-oem : {buffer : List ℕ} {status : ℕ} {bytes : List ℕ} {r : Option ℕ} {after : List ℕ}
      → packet_bytes ≤ length buffer → length bytes ≤ most_data → OemPacketIs buffer status bytes r after
      → (r ≡ Some (around_oem + length bytes))
      × (after ≡ oem_packet status bytes ++ drop (around_oem + length bytes) buffer)
  pub one-oem-answer : {buffer : List ℕ} {status : ℕ} {bytes : List ℕ} {r s : Option ℕ} {x y : List ℕ}
      → OemPacketIs buffer status bytes r x → OemPacketIs buffer status bytes s y → (r ≡ s) × (x ≡ y)
  -- a running unit that tells nothing
  pub oem-example : oem_packet (status_of false 0) [] ≡ 0x02 ∷ 0x30 ∷ 0x40 ∷ 0x03 ∷ 0x71 ∷ []
