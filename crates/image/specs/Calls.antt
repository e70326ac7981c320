-- What the public calls answer and leave. 01, "Image of the programs" and "What comes back". Assumes nothing.
use Rattle.std.specs.Prelude.{ℕ, ◌≡◌, List, Bool, cond, length, ltb, leb, Result, Ok, Err, ⊤}
use Rattle.image.specs.declared.BadImage.{BadImage}
use Rattle.image.specs.declared.NotStored.{NotStored}
use Prim.Native.String.{String}
use Rattle.digits.specs.Operand.{operand_most}
use Rattle.parts.specs.Parts.{most_bytes}
use Rattle.image.specs.Image.{right_length, slots, body_bytes, slots_by, with_text, empty_image}

-- what a check and a store answer: nothing more, or why not
abbrev pub ImageChecked : Type 0
ImageChecked = Result ⊤ BadImage

abbrev pub Stored : Type 0
Stored = Result ⊤ NotStored

-- "image not 4,160 bytes, then bad image", with operands of so many digits at most
unfoldable pub checked_by : ℕ → List ℕ → ImageChecked
checked_by most image = cond (right_length image) (cond (slots_by most image slots) (Ok tt) (Err BadImage.Bad)) (Err BadImage.WrongLength)

abbrev pub checked_of : List ℕ → ImageChecked
checked_of image = checked_by operand_most image

-- 02, E9: the same for start alone, of programs stored earlier
abbrev pub older_of : List ℕ → ImageChecked
older_of image = checked_by most_bytes image

-- the number of each answer, for the firmware
abbrev pub checked_number : ImageChecked → ℕ
checked_number (Ok u) = 0
checked_number (Err BadImage.WrongLength) = 1
checked_number (Err BadImage.Bad) = 2

-- and its name: "image not 4,160 bytes, then bad image"
abbrev pub checked_name : ImageChecked → String
checked_name (Ok u) = "good"
checked_name (Err BadImage.WrongLength) = "image not 4,160 bytes"
checked_name (Err BadImage.Bad) = "bad image"

-- what a store answers: "image not 4,160 bytes", a slot not "0 to 15", a text too long for its body, or done
unfoldable pub stored_of : List ℕ → ℕ → List ℕ → Stored
stored_of image slot text =
    cond
    (right_length image)
    (cond (ltb slot slots) (cond (leb (length text) body_bytes) (Ok tt) (Err NotStored.TooLong)) (Err NotStored.NoSlot))
    (Err NotStored.WrongLength)

-- what each answer leaves: "`s` rewrites one entry and one body", a refusal nothing
abbrev pub store_leaves : Stored → List ℕ → ℕ → List ℕ → List ℕ
store_leaves (Ok u) image slot text = with_text image slot text
store_leaves (Err e) image slot text = image

-- and its name
abbrev pub stored_name : Stored → String
stored_name (Ok u) = "stored"
stored_name (Err NotStored.WrongLength) = "image not 4,160 bytes"
stored_name (Err NotStored.NoSlot) = "slot not 0 to 15"
stored_name (Err NotStored.TooLong) = "text over 256 bytes"

unfoldable pub after_store : List ℕ → ℕ → List ℕ → List ℕ
after_store image slot text = store_leaves (stored_of image slot text) image slot text

-- the answer and the image after a store
pub record StoredIs (image : List ℕ) (slot : ℕ) (text : List ℕ) (answer : Stored) (after : List ℕ) : Type 0 where
  pub answers : answer ≡ stored_of image slot text
  pub leaves : after ≡ after_store image slot text

-- "`?9` writes the good image with all slots empty"; an image of the wrong length stays as it is
unfoldable pub after_clear : List ℕ → List ℕ
after_clear image = cond (right_length image) empty_image image

-- the answer and the image after `?9`: whether the length was right
pub record ClearedIs (image : List ℕ) (answer : Bool) (after : List ℕ) : Type 0 where
  pub answers : answer ≡ right_length image
  pub leaves : after ≡ after_clear image
