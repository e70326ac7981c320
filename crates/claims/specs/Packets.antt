-- What the host reads, in the bytes of 01, "What comes back", and of 02, E1.
-- Assumes nothing.
use Rattle.std.specs.Prelude.{ℕ, ◌+◌, ◌≤◌, ◌<◌, ◌≡◌, List, [], ◌∷◌, ◌++◌, Bool, cond, length, get_or, Option, None, IsSomeAnd}
use Rattle.checksum.specs.Checksum.{checksum_of}
use Rattle.answers.specs.declared.Packet.{Packet}
use Rattle.answers.specs.Names.{found_name}
use Rattle.answers.specs.Reading.{read_of}
use Rattle.answers.specs.Oem.{read_oem_of}
use Rattle.answers.specs.AnswerClaims.{carried}

-- "bit 6 set, bit 5 set when idle .., low four bits the code"; so "bits 7 and 4 clear"
abbrev pub status_byte : Bool → ℕ → ℕ
status_byte idle code = 0x40 + cond idle 0x20 0 + code

-- "data 0 to 256 bytes of 20 to 7E hex"
pub record Data (d : List ℕ) : Type 0 where
  pub most : length d ≤ 256
  pub each : (i : ℕ) → i < length d → (0x20 ≤ get_or d i 0) × (get_or d i 0 ≤ 0x7E)

-- "`/`, `0`, status, data, 03, CR, LF"
abbrev pub plain : ℕ → List ℕ → List ℕ
plain status d = 0x2F ∷ 0x30 ∷ status ∷ (d ++ (0x03 ∷ 0x0D ∷ 0x0A ∷ []))

-- "02, `0`, status, data, 03 and its checksum"
abbrev pub to_sum : ℕ → List ℕ → List ℕ
to_sum status d = 0x02 ∷ 0x30 ∷ status ∷ (d ++ (0x03 ∷ []))

abbrev pub oem_summed : ℕ → List ℕ → List ℕ
oem_summed status d = to_sum status d ++ (checksum_of (to_sum status d) ∷ [])

-- "exactly one packet"
pub data One (make : ℕ → List ℕ → List ℕ) : List ℕ → Type 0 where
  one : (idle : Bool) (code : ℕ) (d : List ℕ) → code < 16 → Data d → One make (make (status_byte idle code) d)

-- what is told of it
pub record PacketTold (s : List ℕ) (idle : Bool) (code : ℕ) (d : List ℕ) (p : Packet) : Type 0 where
  pub as_idle : p.idle ≡ idle
  pub as_code : p.code ≡ code
  pub as_data : carried p s ≡ d

-- "host: slice not exactly one packet (..) | named refusal"; of a slice of bytes
pub record ReadsPackets (make : ℕ → List ℕ → List ℕ) (read : List ℕ → Option Packet) : Type 0 where
  pub named : (idle : Bool) (code : ℕ) (d : List ℕ) → code < 16 → Data d → found_name (read (make (status_byte idle code) d)) ≡ "exactly one packet"
  pub tells : (idle : Bool) (code : ℕ) (d : List ℕ) → code < 16 → Data d
      → IsSomeAnd (read (make (status_byte idle code) d)) (λ p. PacketTold (make (status_byte idle code) d) idle code d p)
  pub refuses : (s : List ℕ) → get_or s 2 0 < 256 → (One make s → ⊥) → (found_name (read s) ≡ "not exactly one packet") × (read s ≡ None)

-- in both framings
pub record PacketRow : Type 0 where
  pub in-plain : ReadsPackets plain read_of
  pub in-oem : ReadsPackets oem_summed read_oem_of
