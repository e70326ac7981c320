-- A slot that has the entry and the body of a text: it is as good as the text, and the text is read there. Assumes nothing.
use Prim.Native.Nat.{ℕ, zero, suc, ◌-◌, ◌≤◌, ◌<◌}
use mathlib.Core.Path.{◌≡◌, refl, ap, ◌∙◌}
use mathlib.Core.List.{List, []}
use mathlib.Core.Bool.{Bool, true, false, and-true}
use native.Mathlib.Omega.{arith}
use lib.Dec.{leb}
use lib.ListN.{length, drop, replicate}
use lib.Seq.{drop_at}
use borrow.Author.Tests.{leb-true}
use Rattle.parts.specs.Parts.{padded, most_bytes}
use Rattle.parts.proofs.Laws.{cases, take-padded}
use Rattle.digits.specs.Operand.{operand_most}
use Rattle.commands.specs.Reading.{read_by}
use Rattle.lines.specs.Texts.{reading_in, reading_by, fault_places, fifteenth, stored_places, stored_by, stored_judged, passed, text_good_by, text_good}
use Rattle.image.specs.Image.{image_bytes, slots, entry_of, body_bytes, start_in, length_in, slot_start, word, word_at, slot_body, all_zeros, slot_good, slot_text, entry_for}
use Rattle.image.specs.Claims.{SlotHolds}
use Rattle.image.proofs.SlotLaws.{and_left, good-rest, slot-judged, sound}

-- ---- texts

pub empty-good : text_good [] ≡ true
unfolding text_good_by stored_by reading_by reading_in read_by fault_places fifteenth stored_places
empty-good = refl

-- a text that passes fits a body
pub good-fits : (text : List ℕ) → text_good text ≡ true → length text ≤ body_bytes
unfolding text_good_by
good-fits text h = leb-true (length text) most_bytes (and_left (leb (length text) most_bytes) (passed (stored_judged true text)) h)

-- what is read from a slot passes, and fits
pub text-passes : (image : List ℕ) (k : ℕ) → text_good (slot_text image k) ≡ true
unfolding slot_text
text-passes image k = cases (λ (t : List ℕ). text_good t ≡ true) (slot_good image k) (λ h. (sound image k h).passes) (λ h. empty-good)

pub text-fits : (image : List ℕ) (k : ℕ) → length (slot_text image k) ≤ body_bytes
text-fits image k = good-fits (slot_text image k) (text-passes image k)

-- a slot that is not good has no text
pub no_text : (image : List ℕ) (k : ℕ) → slot_good image k ≡ false → slot_text image k ≡ []
unfolding slot_text
no_text image k h = rw h

-- a slot with a text is good
pub text-there : (image : List ℕ) (k : ℕ) → 0 < length (slot_text image k) → slot_good image k ≡ true
text-there image k h = go (slot_good image k) refl
  where
    go : (b : Bool) → slot_good image k ≡ b → slot_good image k ≡ true
    go true e = e
    go false e = let none : length (slot_text image k) ≡ 0 = ap length (no_text image k e) in absurd (omega arith)

-- ---- entries

-- an entry says what it was made of
start_read : (start n : ℕ) → start_in (entry_for start n) ≡ start
unfolding entry_for word word_at
start_read start n = omega arith

length_read : (start n : ℕ) → length_in (entry_for start n) ≡ n
unfolding entry_for word word_at
length_read start n = omega arith

-- ---- bodies

pub zeros-zeros : (n : ℕ) → all_zeros (replicate n 0) ≡ true
unfolding all_zeros
zeros-zeros zero = refl
zeros-zeros (suc n) = zeros-zeros n

unused-zero : (n : ℕ) (text : List ℕ) → all_zeros (drop (length text) (padded n text)) ≡ true
unfolding padded
unused-zero n text = rw (drop_at text (replicate (n - length text) 0) (length text) refl) (zeros-zeros (n - length text))

-- ---- slots

pub holds : (image : List ℕ) (k : ℕ) (text : List ℕ) → length image ≡ image_bytes → k < slots → length text ≤ body_bytes
    → entry_of image k ≡ entry_for (slot_start k) (length text) → slot_body image k ≡ padded body_bytes text → SlotHolds image k text
unfolding slot_text
holds image k text long slot fits e b =
    let n = length_read (slot_start k) (length text) in
    let rest = good-rest operand_most (slot_start k) (entry_for (slot_start k) (length text)) (padded body_bytes text) (start_read (slot_start k) (length text)) (omega arith) in
    let good : slot_good image k ≡ text_good text =
    rw (slot-judged operand_most image k long slot, e, b, rest, n, take-padded body_bytes text, unused-zero body_bytes text) (and-true (text_good text)) in
    record { entry = e; body = b; good = good; text = λ t. rw (good ∙ t, e, b, n) (take-padded body_bytes text) }
