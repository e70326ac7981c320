-- Laws of an image written: an entry, a body, and all entries in turn. Assumes nothing.
use Prim.Native.Nat.{ℕ, zero, suc, ◌+◌, ◌*◌, ◌-◌, ◌/◌, ◌%◌, ◌≤◌, ◌<◌, zero-le}
use mathlib.Core.Path.{◌≡◌, refl, ap, ◌∙◌}
use mathlib.Core.List.{List, [], ◌∷◌, ◌++◌, append-nil}
use native.Mathlib.Numerals.{add-one}
use native.Mathlib.Omega.{arith}
use lib.ListN.{length, replicate, length-append, length-replicate}
use lib.Seq.{drop-length}
use Rattle.parts.specs.Parts.{put, put_in, padded}
use Rattle.parts.proofs.Laws.{length-put, put-more, put_front, put_in_room}
use Rattle.image.specs.Image.{image_bytes, slots, entry_bytes, body_bytes, byte_values, contents_bytes, word, slot_start, entry_for, with_entry, with_body, empty_entries, empty_image}

module _ (image : List ℕ) (k : ℕ) (long : length image ≡ image_bytes) (slot : k < slots) where
  -- an entry of four bytes, low bytes first
  pub entry-put : (n : ℕ)
      → put_in image (entry_bytes * k) (slot_start k % byte_values ∷ slot_start k / byte_values ∷ n % byte_values ∷ n / byte_values ∷ []) ≡ with_entry image k n
  unfolding with_entry entry_for word
  entry-put n = put_in_room image (entry_bytes * k) _ (omega arith)

  -- a body: the text, then the zeros
  pub body-put : (text : List ℕ) → length text ≤ body_bytes
      → put_in (put_in image (slot_start k) text) (slot_start k + length text) (replicate (body_bytes - length text) 0) ≡ with_body image k text
  unfolding with_body padded
  body-put text fits =
      let rest = replicate {A = ℕ} (body_bytes - length text) 0 in
      ap (λ (l : List ℕ). put_in l (slot_start k + length text) rest) (put_in_room image (slot_start k) text (omega arith))
      ∙ put_in_room
      (put image (slot_start k) text)
      (slot_start k + length text)
      rest
      (omega (arith, length-put image (slot_start k) text (omega arith), length-replicate {A = ℕ} (body_bytes - length text) 0))
      ∙ put-more image (slot_start k) text (omega arith) (slot_start k + length text) rest refl

pub length_entries : (k : ℕ) → length (empty_entries k) ≡ entry_bytes * k
unfolding empty_entries entry_for word
length_entries zero = refl
length_entries (suc k) = simp length-append (omega (arith, length_entries k))

-- one entry more
pub entry_more : (image : List ℕ) (k : ℕ) → with_entry (put image 0 (empty_entries k)) k 0 ≡ put image 0 (empty_entries (k + 1))
unfolding with_entry empty_entries
entry_more image k = put-more image 0 (empty_entries k) zero-le (entry_bytes * k) _ (omega (arith, length_entries k)) ∙ rw add-one

-- zeros behind what stands at the front (over n: at a numeral, `replicate` would compute to its elements)
padded_by : (image front : List ℕ) (a n : ℕ) → length front ≡ a → length image ≡ a + n
    → put_in (put image 0 front) a (replicate n 0) ≡ padded (a + n) front
unfolding padded
padded_by image front a n e h =
    let whole : length (front ++ replicate n 0) ≡ length image = length-append front (replicate n 0) ∙ omega (arith, length-replicate {A = ℕ} n 0) in
    let left : a + n - length front ≡ n = omega arith in
    put_in_room (put image 0 front) a (replicate n 0) (omega (arith, length-put image 0 front (omega arith), length-replicate {A = ℕ} n 0))
    ∙ put-more image 0 front zero-le a (replicate n 0) (omega arith)
    ∙ put_front image (front ++ replicate n 0)
    ∙ rw (whole, drop-length image, append-nil, left)

-- all entries, then zeros
pub emptied : (image : List ℕ) → length image ≡ image_bytes
    → put_in (put image 0 (empty_entries slots)) contents_bytes (replicate (image_bytes - contents_bytes) 0) ≡ empty_image
unfolding empty_image
emptied image h = padded_by image (empty_entries slots) contents_bytes (image_bytes - contents_bytes) (length_entries slots) h
