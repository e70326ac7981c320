-- What an image of the programs is: its contents, its bodies, and when it is good. 01, "Image of the programs"; 02, E9.
-- Assumes nothing.
use Rattle.std.specs.Prelude.{ℕ, zero, suc, ◌+◌, ◌*◌, ◌/◌, ◌%◌, List, [], ◌∷◌, ◌++◌, Bool, true, cond, ◌&&◌, length, get_or, take, drop, ltb, leb, eqb}
use Rattle.parts.specs.Parts.{part, put, padded, most_bytes}
use Rattle.digits.specs.Operand.{operand_most}
use Rattle.lines.specs.Texts.{text_good_by}

-- "4,160 bytes"
abbrev pub image_bytes : ℕ
image_bytes = 4160

-- which length is right
abbrev pub right_length : List ℕ → Bool
right_length image = eqb (length image) image_bytes

-- "contents first: 16 entries .. then 16 bodies"
abbrev pub slots : ℕ
slots = 16

-- an entry is "start, length; 16 bits", each of 2 bytes
abbrev pub word_bytes : ℕ
word_bytes = 2

abbrev pub entry_bytes : ℕ
entry_bytes = word_bytes + word_bytes

-- "low byte first": the number in the two bytes from a place, and the two bytes of a number
abbrev pub byte_values : ℕ
byte_values = 256

unfoldable pub word_at : List ℕ → ℕ → ℕ
word_at bytes at = get_or bytes at 0 + byte_values * get_or bytes (at + 1) 0

unfoldable pub word : ℕ → List ℕ
word n = n % byte_values ∷ n / byte_values ∷ []

-- the entry of slot k
unfoldable pub entry_of : List ℕ → ℕ → List ℕ
entry_of image k = part image (entry_bytes * k) entry_bytes

-- what an entry says
abbrev pub start_in : List ℕ → ℕ
start_in entry = word_at entry 0

abbrev pub length_in : List ℕ → ℕ
length_in entry = word_at entry word_bytes

-- "bodies of 256 bytes"
abbrev pub body_bytes : ℕ
body_bytes = 256

-- "start of slot k is 64 + 256k"
abbrev pub contents_bytes : ℕ
contents_bytes = 64

abbrev pub slot_start : ℕ → ℕ
slot_start k = contents_bytes + body_bytes * k

-- the body of slot k
unfoldable pub slot_body : List ℕ → ℕ → List ℕ
slot_body image k = part image (slot_start k) body_bytes

-- "unused bytes are 0"
unfoldable pub all_zeros : List ℕ → Bool
all_zeros [] = true
all_zeros (b ∷ bs) = eqb b 0 && all_zeros bs

-- "good when every start is that, every length at most 256, every body passes the check for stored text, and
-- unused bytes are 0": for the entry and the body of one slot, which is to start so, with operands of so many digits at most
unfoldable pub good_at : ℕ → ℕ → List ℕ → List ℕ → Bool
good_at most start entry body =
    eqb (start_in entry) start
    && leb (length_in entry) body_bytes
    && text_good_by most (take (length_in entry) body)
    && all_zeros (drop (length_in entry) body)

-- whether the image has a slot k
abbrev pub has_slot : List ℕ → ℕ → Bool
has_slot image k = right_length image && ltb k slots

-- the same of slot k, its entry and body, and no other
unfoldable pub slot_by : ℕ → List ℕ → ℕ → Bool
slot_by most image k = has_slot image k && good_at most (slot_start k) (entry_of image k) (slot_body image k)

-- 02, E9: "a program stored earlier with such an operand counts as bad"
abbrev pub slot_good : List ℕ → ℕ → Bool
slot_good image k = slot_by operand_most image k

-- "every": slots 0 to n - 1 are good
unfoldable pub slots_by : ℕ → List ℕ → ℕ → Bool
slots_by most image zero = true
slots_by most image (suc k) = slots_by most image k && slot_by most image k

-- for start alone: slots 0 to n - 1 are good but for such operands
abbrev pub slots_older : List ℕ → ℕ → Bool
slots_older image n = slots_by most_bytes image n

-- the text of slot k; none where the slot is not good
unfoldable pub slot_text : List ℕ → ℕ → List ℕ
slot_text image k = cond (slot_good image k) (take (length_in (entry_of image k)) (slot_body image k)) []

-- an entry of a start and a length
unfoldable pub entry_for : ℕ → ℕ → List ℕ
entry_for start n = word start ++ word n

-- "`s` rewrites one entry and one body"
unfoldable pub with_entry : List ℕ → ℕ → ℕ → List ℕ
with_entry image k n = put image (entry_bytes * k) (entry_for (slot_start k) n)

unfoldable pub with_body : List ℕ → ℕ → List ℕ → List ℕ
with_body image k text = put image (slot_start k) (padded body_bytes text)

unfoldable pub with_text : List ℕ → ℕ → List ℕ → List ℕ
with_text image k text = with_body (with_entry image k (length text)) k text

-- the entries of slots 0 to k - 1, all empty: each start is that, "also when empty"
unfoldable pub empty_entries : ℕ → List ℕ
empty_entries zero = []
empty_entries (suc k) = empty_entries k ++ entry_for (slot_start k) 0

-- "the good image with all slots empty"
unfoldable pub empty_image : List ℕ
empty_image = padded image_bytes (empty_entries slots)
