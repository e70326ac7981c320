-- What a clear leaves: every slot holds the empty text. Assumes nothing.
use Rattle.std.specs.Prelude.{Ok}
use Prim.Native.Nat.{ℕ, zero, suc, ◌+◌, ◌*◌, ◌-◌, ◌≤◌, ◌<◌}
use mathlib.Core.Path.{◌≡◌, refl, sym, ap, ◌∙◌}
use mathlib.Core.List.{List, [], ◌++◌, append_assoc}
use mathlib.Core.Bool.{true}
use mathlib.Core.Logic.{⊎_elim}
use native.Mathlib.Nat.{sub-zero, not-suc-le-zero, eq-or-lt_of_le, le_of_suc-le-suc}
use native.Mathlib.Omega.{arith}
use native.Mathlib.Decide.{dec_lt}
use lib.ListN.{length, take, drop, replicate, length-replicate, replicate-append-replicate}
use lib.Seq.{take_at, drop_at, drop-drop}
use borrow.Author.Tests.{eqb-true}
use Rattle.parts.specs.Parts.{part, padded}
use Rattle.parts.proofs.Laws.{cases, length-padded}
use Rattle.digits.specs.Operand.{operand_most}
use Rattle.image.specs.Image.{image_bytes, right_length, slots, entry_bytes, entry_of, body_bytes, slot_start, word, slot_body, slot_text, entry_for, empty_entries, empty_image}
use Rattle.image.specs.Calls.{checked_of, after_clear}
use Rattle.image.specs.Claims.{SlotHolds, ClearClaims}
use Rattle.image.proofs.SlotLaws.{no_slot}
use Rattle.image.proofs.WriteLaws.{length_entries}
use Rattle.image.proofs.HeldLaws.{empty-good, no_text, holds}
use Rattle.image.proofs.CallLaws.{good-when}

-- a part right behind what stands at the front
part-behind : (front ys rest : List ℕ) (a n : ℕ) → length front ≡ a → length ys ≡ n → part (front ++ (ys ++ rest)) a n ≡ ys
unfolding part
part-behind front ys rest a n e f = rw (drop_at front (ys ++ rest) a e) (take_at ys rest n f)

-- the entry of each empty slot, whatever follows the entries
entry_at : (n k : ℕ) (rest : List ℕ) → k < n → part (empty_entries n ++ rest) (entry_bytes * k) entry_bytes ≡ entry_for (slot_start k) 0
unfolding empty_entries entry_for word
entry_at zero k rest h = absurd (not-suc-le-zero h)
entry_at (suc n) k rest h =
    rw
    (append_assoc (empty_entries n) (entry_for (slot_start n) 0) rest)
    (⊎_elim
    (λ (e : k ≡ n). rw e (part-behind (empty_entries n) (entry_for (slot_start n) 0) rest _ _ (length_entries n) refl))
    (λ (l : k < n). entry_at n k (entry_for (slot_start n) 0 ++ rest) l)
    (eq-or-lt_of_le (le_of_suc-le-suc h)))

-- a part of zeros
part-zeros : (m a n : ℕ) → a + n ≤ m → part (replicate m 0) a n ≡ replicate n 0
part-zeros m a n h =
    let e : a + (n + (m - (a + n))) ≡ m = omega arith in
    let f : replicate {A = ℕ} m 0 ≡ replicate a 0 ++ (replicate n 0 ++ replicate (m - (a + n)) 0) =
    rw (replicate-append-replicate {A = ℕ} n (m - (a + n)) 0, replicate-append-replicate {A = ℕ} a (n + (m - (a + n))) 0, e) in
    rw f (part-behind (replicate a 0) (replicate n 0) (replicate (m - (a + n)) 0) a n (length-replicate a 0) (length-replicate n 0))

-- a part of the zeros behind a text: the empty text with zeros behind it
part-padded : (m : ℕ) (text : List ℕ) (a b n : ℕ) → length text + a ≡ b → b + n ≤ m → part (padded m text) b n ≡ padded n []
unfolding padded part
part-padded m text a b n e h =
    let zs = replicate {A = ℕ} (m - length text) 0 in
    let f : drop b (text ++ zs) ≡ drop a zs =
    rw (← e, ← drop-drop a (length text) (text ++ zs), drop_at text zs (length text) refl) in
    ap (λ (l : List ℕ). take n l) f ∙ part-zeros (m - length text) a n (omega arith) ∙ rw sub-zero

length-empty : length empty_image ≡ image_bytes
unfolding empty_image
length-empty = length-padded image_bytes (empty_entries slots) (omega (arith, length_entries slots))

entry-empty : (k : ℕ) → k < slots → entry_of empty_image k ≡ entry_for (slot_start k) 0
unfolding entry_of empty_image padded
entry-empty k l = entry_at slots k (replicate (image_bytes - length (empty_entries slots)) 0) l

body-empty : (k : ℕ) → k < slots → slot_body empty_image k ≡ padded body_bytes []
unfolding slot_body empty_image
body-empty k l = part-padded image_bytes (empty_entries slots) (body_bytes * k) (slot_start k) body_bytes (omega (arith, length_entries slots)) (omega arith)

pub holds-empty : (k : ℕ) → k < slots → SlotHolds empty_image k []
holds-empty k l = holds empty_image k [] length-empty l (omega arith) (entry-empty k l) (body-empty k l)

good-empty : checked_of empty_image ≡ Ok tt
good-empty = good-when empty_image length-empty (λ k l. (holds-empty k l).good ∙ empty-good)

text-empty : (k : ℕ) → slot_text empty_image k ≡ []
text-empty k = go (dec_lt k slots)
  where
    go : Dec (k < slots) → slot_text empty_image k ≡ []
    go (yes l) = (holds-empty k l).text empty-good
    go (no m) = no_text empty_image k (sym (no_slot operand_most empty_image k (omega arith)))

-- ---- of every image of the right length

module _ (image : List ℕ) where
  pub clear-length : length (after_clear image) ≡ length image
  unfolding after_clear
  clear-length =
      cases (λ (x : List ℕ). length x ≡ length image) (right_length image) (λ long. length-empty ∙ sym (eqb-true (length image) image_bytes long)) (λ f. refl)

  cleared_is : right_length image ≡ true → after_clear image ≡ empty_image
  unfolding after_clear
  cleared_is long = rw long

  pub clear-good : right_length image ≡ true → checked_of (after_clear image) ≡ Ok tt
  clear-good long = rw (cleared_is long) good-empty

  pub clear-empty : (k : ℕ) → right_length image ≡ true → slot_text (after_clear image) k ≡ []
  clear-empty k long = rw (cleared_is long) (text-empty k)

  pub clears : ClearClaims image
  clears = record { same_length = clear-length; good = clear-good; empty = clear-empty }
