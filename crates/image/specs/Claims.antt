-- What is claimed of images: which are good, and what a store and a clear do to every slot.
-- 01, "Image of the programs". Assumes nothing.
use Rattle.std.specs.Prelude.{ℕ, ◌*◌, ◌≤◌, ◌<◌, ◌≡◌, List, [], Bool, true, ◌&&◌, length, get_or, take, Ok}
use Rattle.parts.specs.Parts.{padded, most_bytes}
use Rattle.digits.specs.Operand.{operand_most, few_digits}
use Rattle.lines.specs.Texts.{text_good}
use Rattle.image.specs.Image.{image_bytes, right_length, slots, entry_bytes, body_bytes, contents_bytes, byte_values, length_in, slot_start}
use Rattle.image.specs.Image.{entry_of, slot_body, slot_by, slot_good, slot_text, entry_for}
use Rattle.image.specs.Calls.{checked_of, older_of, stored_of, after_store, after_clear}

-- slot k is as it was
pub record SlotKept (k : ℕ) (before after : List ℕ) : Type 0 where
  pub entry : entry_of after k ≡ entry_of before k
  pub body : slot_body after k ≡ slot_body before k
  pub good : slot_good after k ≡ slot_good before k
  pub text : slot_text after k ≡ slot_text before k

-- slot k has a text's entry and body; it is good exactly when the text passes, and then that text is read there
pub record SlotHolds (image : List ℕ) (k : ℕ) (held : List ℕ) : Type 0 where
  pub entry : entry_of image k ≡ entry_for (slot_start k) (length held)
  pub body : slot_body image k ≡ padded body_bytes held
  pub good : slot_good image k ≡ text_good held
  pub text : text_good held ≡ true → slot_text image k ≡ held

abbrev pub EverySlotGood : List ℕ → Type 0
EverySlotGood image = (k : ℕ) → k < slots → slot_good image k ≡ true

-- the bytes that slot k's entry says are its text, good or not; whether it is good but for operands of more than ten digits
abbrev pub entry_text : List ℕ → ℕ → List ℕ
entry_text image k = take (length_in (entry_of image k)) (slot_body image k)

abbrev pub slot_older : List ℕ → ℕ → Bool
slot_older image k = slot_by most_bytes image k

abbrev pub EverySlotOlder : List ℕ → Type 0
EverySlotOlder image = (k : ℕ) → k < slots → slot_older image k ≡ true

-- a list of bytes, and two images with the same texts
abbrev pub Bytes : List ℕ → Type 0
Bytes xs = (i : ℕ) → get_or xs i 0 < byte_values

abbrev pub SameTexts : List ℕ → List ℕ → Type 0
SameTexts a b = (k : ℕ) → k < slots → slot_text a k ≡ slot_text b k

-- a store, of whatever image, slot and text
pub record StoreClaims (image : List ℕ) (k : ℕ) (text : List ℕ) : Type 0 where
  pub same_length : length (after_store image k text) ≡ length image
  -- a text that passes is stored wherever there is a slot
  pub done : right_length image ≡ true → k < slots → text_good text ≡ true → stored_of image k text ≡ Ok tt
  -- what was stored is there
  pub holds : stored_of image k text ≡ Ok tt → SlotHolds (after_store image k text) k text
  -- "`s` rewrites one entry and one body": every other slot is as it was, good or not
  pub elsewhere : (j : ℕ) → j < slots → (j ≡ k → ⊥) → SlotKept j image (after_store image k text)
  -- a text that passes leaves a good image good
  pub stays-good : checked_of image ≡ Ok tt → text_good text ≡ true → checked_of (after_store image k text) ≡ Ok tt

-- "`?9` writes the good image with all slots empty"
pub record ClearClaims (image : List ℕ) : Type 0 where
  pub same_length : length (after_clear image) ≡ length image
  pub good : right_length image ≡ true → checked_of (after_clear image) ≡ Ok tt
  pub empty : (k : ℕ) → right_length image ≡ true → slot_text (after_clear image) k ≡ []

pub record ImageClaims : Type 0 where
  -- "16 entries .. then 16 bodies of 256 bytes": 64 bytes, and 4,160 in all
  pub contents : entry_bytes * slots ≡ contents_bytes
  pub whole : slot_start slots ≡ image_bytes
  -- "the image is good when every ..": its length is right and all 16 slots are good, and then only
  pub good-means : (image : List ℕ) → checked_of image ≡ Ok tt → (length image ≡ image_bytes) × EverySlotGood image
  pub good-when : (image : List ℕ) → length image ≡ image_bytes → EverySlotGood image → checked_of image ≡ Ok tt
  -- 02, E9: a slot is good when it was so before and its text has no run of more than ten digits; a good image was good before
  pub slot-now : (image : List ℕ) (k : ℕ) → slot_good image k ≡ slot_older image k && few_digits operand_most (entry_text image k)
  pub good-before : (image : List ℕ) → checked_of image ≡ Ok tt → older_of image ≡ Ok tt
  pub older-means : (image : List ℕ) → older_of image ≡ Ok tt → (length image ≡ image_bytes) × EverySlotOlder image
  -- every text that is read from an image passes the check for stored text, and fits a body
  pub texts_pass : (image : List ℕ) (k : ℕ) → text_good (slot_text image k) ≡ true
  pub texts_fit : (image : List ℕ) (k : ℕ) → length (slot_text image k) ≤ body_bytes
  -- "the good image": its texts leave no byte of it open
  pub told_by_texts : (a b : List ℕ) → Bytes a → Bytes b → checked_of a ≡ Ok tt → checked_of b ≡ Ok tt
      → SameTexts a b → a ≡ b
  pub stores : (image : List ℕ) (k : ℕ) (text : List ℕ) → StoreClaims image k text
  -- "an empty one clears the slot"
  pub store-empty : (image : List ℕ) (k : ℕ) → right_length image ≡ true → k < slots
      → (slot_good (after_store image k []) k ≡ true) × (slot_text (after_store image k []) k ≡ [])
  pub clears : (image : List ℕ) → ClearClaims image
