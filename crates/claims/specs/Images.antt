-- What makes an image good, byte by byte, with the numbers of 01, "Image of the programs"; 02, E9.
-- Assumes nothing.
use Rattle.std.specs.Prelude.{ℕ, ◌+◌, ◌*◌, ◌≤◌, ◌<◌, ◌≡◌, List, Bool, true, false, ◌↔◌, length, get_or}
use Rattle.parts.specs.Parts.{part}
use Rattle.lines.specs.Texts.{text_good}
use Rattle.image.specs.Image.{slot_good, slot_text}
use Rattle.image.specs.Calls.{checked_name, checked_of, stored_name, stored_of}

-- "16 bits, low byte first"
abbrev pub bits_at : List ℕ → ℕ → ℕ
bits_at image at = get_or image at 0 + 256 * get_or image (at + 1) 0

-- "16 entries (start, length ..)": of slot k the bytes from 4k on
abbrev pub start_bits : List ℕ → ℕ → ℕ
start_bits image k = bits_at image (4 * k)

abbrev pub length_bits : List ℕ → ℕ → ℕ
length_bits image k = bits_at image (4 * k + 2)

-- "every start is that, every length at most 256, every body passes the check for stored text, and unused bytes are 0": of slot k, by a check of texts
pub record SlotSo (check : List ℕ → Bool) (image : List ℕ) (k : ℕ) : Type 0 where
  pub start : start_bits image k ≡ 64 + 256 * k
  pub fits : length_bits image k ≤ 256
  pub passes : check (part image (64 + 256 * k) (length_bits image k)) ≡ true
  pub unused : (i : ℕ) → length_bits image k ≤ i → i < 256 → get_or image (64 + 256 * k + i) 0 ≡ 0

abbrev pub EverySlot : (List ℕ → Bool) → List ℕ → Type 0
EverySlot check image = (k : ℕ) → k < 16 → SlotSo check image k

-- "The image is good when ..": good, of the wrong length or bad, and each only then
pub record ImageRow (image : List ℕ) : Type 0 where
  pub wrong-length : (length image ≡ 4160 → ⊥) → checked_name (checked_of image) ≡ "image not 4,160 bytes"
  pub bad : length image ≡ 4160 → (EverySlot text_good image → ⊥) → checked_name (checked_of image) ≡ "bad image"
  pub good : length image ≡ 4160 → EverySlot text_good image → checked_name (checked_of image) ≡ "good"
  -- a slot that `e` and start find good, and its text
  pub slot : (k : ℕ) → length image ≡ 4160 → k < 16 → (slot_good image k ≡ true) ↔ SlotSo text_good image k
  pub no_slot : (k : ℕ) → 16 ≤ k → slot_good image k ≡ false
  pub text : (k : ℕ) → slot_good image k ≡ true → slot_text image k ≡ part image (64 + 256 * k) (length_bits image k)

-- a store, by name: "image not 4,160 bytes", "a slot 0 to 15", "bodies of 256 bytes"
pub record StoreRow (image : List ℕ) (k : ℕ) (text : List ℕ) : Type 0 where
  pub wrong-length : (length image ≡ 4160 → ⊥) → stored_name (stored_of image k text) ≡ "image not 4,160 bytes"
  pub no_slot : length image ≡ 4160 → 15 < k → stored_name (stored_of image k text) ≡ "slot not 0 to 15"
  pub too_long : length image ≡ 4160 → k ≤ 15 → 256 < length text → stored_name (stored_of image k text) ≡ "text over 256 bytes"
  pub stored : length image ≡ 4160 → k ≤ 15 → length text ≤ 256 → stored_name (stored_of image k text) ≡ "stored"
