-- Laws of a slot judged: its parts, its unused bytes, and each way to break its rules. Assumes nothing.
use Prim.Native.Nat.{ℕ, zero, suc, ◌+◌, ◌-◌, ◌≤◌, ◌<◌}
use mathlib.Core.Path.{◌≡◌, refl, sym, ◌∙◌}
use mathlib.Core.List.{List}
use mathlib.Core.Bool.{Bool, true, false, ◌&&◌, and-true, and-false, and_assoc, false≢true}
use mathlib.Core.Logic.{⊎_elim}
use native.Mathlib.Nat.{add-sub_cancel_left, not-suc-le-zero, eq-or-lt_of_le, le_of_suc-le-suc}
use native.Mathlib.Numerals.{add-one}
use native.Mathlib.Omega.{arith}
use lib.Dec.{ltb, leb, eqb}
use lib.ListN.{length, get_or, take, drop, length-take, length-drop, drop_of_length-le}
use lib.Seq.{drop-cons}
use borrow.Author.Tests.{eq-eqb, ne_eqb, le-leb, lt-leb, lt-ltb, le-ltb, leb-true, eqb-true, ltb-true}
use Rattle.parts.specs.Parts.{part}
use Rattle.digits.specs.Operand.{operand_most}
use Rattle.lines.specs.Texts.{text_good_by, text_good}
use Rattle.image.specs.Image.{image_bytes, slots, entry_bytes, body_bytes, start_in, length_in, slot_start, entry_of, slot_body, all_zeros, good_at, right_length, has_slot, slot_by, slot_good, slots_by}

pub and_left : (a b : Bool) → a && b ≡ true → a ≡ true
and_left true b h = refl
and_left false b h = h

pub and_right : (a b : Bool) → a && b ≡ true → b ≡ true
and_right true b h = h
and_right false b h = absurd (false≢true h)

-- `&xs[a..a + n]` as the code has it
pub cut : (xs : List ℕ) (a n : ℕ) → take (a + n - a) (drop a xs) ≡ part xs a n
unfolding part
cut xs a n = rw add-sub_cancel_left

length_part : (xs : List ℕ) (a n : ℕ) → a + n ≤ length xs → length (part xs a n) ≡ n
unfolding part
length_part xs a n h = simp (length-take, length-drop) (omega arith)

pub length-entry : (image : List ℕ) (k : ℕ) → length image ≡ image_bytes → k < slots → length (entry_of image k) ≡ entry_bytes
unfolding entry_of
length-entry image k h l = length_part image _ _ (omega arith)

pub length-body : (image : List ℕ) (k : ℕ) → length image ≡ image_bytes → k < slots → length (slot_body image k) ≡ body_bytes
unfolding slot_body
length-body image k h l = length_part image _ _ (omega arith)

-- ---- "unused bytes are 0", in a loop that goes up

module _ (s : List ℕ) (i : ℕ) (clean : Bool) (e : all_zeros s ≡ clean && all_zeros (drop i s)) where
  pub zeros-more : i < length s → all_zeros s ≡ clean && eqb (get_or s i 0) 0 && all_zeros (drop (i + 1) s)
  unfolding all_zeros
  zeros-more h = e ∙ rw (add-one, drop-cons s i 0) (sym (and_assoc clean (eqb (get_or s i 0) 0) (all_zeros (drop (suc i) s))))

  pub zeros-end : length s ≤ i → clean ≡ all_zeros s
  unfolding all_zeros
  zeros-end h = sym (e ∙ rw (drop_of_length-le s h) (and-true clean))

-- ---- an entry and a body

module _ (most start : ℕ) (entry body : List ℕ) where
  pub bad-start : (start_in entry ≡ start → ⊥) → false ≡ good_at most start entry body
  unfolding good_at
  bad-start h = rw (ne_eqb (start_in entry) start h)

  pub bad-length : body_bytes < length_in entry → start_in entry ≡ start → false ≡ good_at most start entry body
  unfolding good_at
  bad-length h e = rw (eq-eqb (start_in entry) start e, lt-leb (length_in entry) body_bytes h)

  -- with start and length right, what is left are the text and the unused bytes
  pub good-rest : start_in entry ≡ start → length_in entry ≤ body_bytes
      → good_at most start entry body ≡ text_good_by most (take (length_in entry) body) && all_zeros (drop (length_in entry) body)
  unfolding good_at
  good-rest e h = rw (eq-eqb (start_in entry) start e, le-leb (length_in entry) body_bytes h)

-- ---- a slot of an image

module _ (most : ℕ) (image : List ℕ) (k : ℕ) where
  pub wrong-length : (length image ≡ image_bytes → ⊥) → false ≡ slot_by most image k
  unfolding slot_by
  wrong-length h = rw (ne_eqb (length image) image_bytes h)

  pub no_slot : slots ≤ k → false ≡ slot_by most image k
  unfolding slot_by
  no_slot h = rw (le-ltb k slots h, and-false (right_length image))

  pub slot-judged : length image ≡ image_bytes → k < slots → slot_by most image k ≡ good_at most (slot_start k) (entry_of image k) (slot_body image k)
  unfolding slot_by
  slot-judged h l = rw (eq-eqb (length image) image_bytes h, lt-ltb k slots l)

-- what a good slot has
pub record Sound (image : List ℕ) (k : ℕ) : Type 0 where
  pub long : length image ≡ image_bytes
  pub slot : k < slots
  pub start : start_in (entry_of image k) ≡ slot_start k
  pub fits : length_in (entry_of image k) ≤ body_bytes
  pub passes : text_good (take (length_in (entry_of image k)) (slot_body image k)) ≡ true
  pub unused : all_zeros (drop (length_in (entry_of image k)) (slot_body image k)) ≡ true

all-four : (a b c d : Bool) → a && b && c && d ≡ true → (a ≡ true) × (b ≡ true) × (c ≡ true) × (d ≡ true)
all-four a b c d h =
    let three = and_left (a && b && c) d h in
    let two = and_left (a && b) c three in
    (and_left a b two, and_right a b two, and_right (a && b) c three, and_right (a && b && c) d h)

pub sound : (image : List ℕ) (k : ℕ) → slot_good image k ≡ true → Sound image k
unfolding slot_by good_at
sound image k h =
    let entry = entry_of image k in
    let body = slot_body image k in
    let n = length_in entry in
    let has = and_left (has_slot image k) (good_at operand_most (slot_start k) entry body) h in
    let good = all-four
    (eqb (start_in entry) (slot_start k))
    (leb n body_bytes)
    (text_good (take n body))
    (all_zeros (drop n body))
    (and_right (has_slot image k) (good_at operand_most (slot_start k) entry body) h) in
    record {
      long = eqb-true _ _ (and_left (right_length image) (ltb k slots) has);
      slot = ltb-true k slots (and_right (right_length image) (ltb k slots) has);
      start = eqb-true _ _ good.0;
      fits = leb-true _ _ good.1;
      passes = good.2;
      unused = good.3;
    }

-- ---- every slot

-- one bad slot is enough
pub slots-bad : (most : ℕ) (image : List ℕ) (k n : ℕ) → k < n → slot_by most image k ≡ false → slots_by most image n ≡ false
unfolding slots_by
slots-bad most image k zero h e = absurd (not-suc-le-zero h)
slots-bad most image k (suc n) h e =
    ⊎_elim
    (λ q. let f : slot_by most image n ≡ false = cc in rw (f, and-false))
    (λ l. rw (slots-bad most image k n l e))
    (eq-or-lt_of_le (le_of_suc-le-suc h))

-- all are good exactly when each is
pub slots-each : (most : ℕ) (image : List ℕ) (k n : ℕ) → k < n → slots_by most image n ≡ true → slot_by most image k ≡ true
unfolding slots_by
slots-each most image k zero h e = absurd (not-suc-le-zero h)
slots-each most image k (suc n) h e =
    ⊎_elim
    (λ q. let f : slot_by most image n ≡ true = and_right (slots_by most image n) (slot_by most image n) e in cc)
    (λ l. slots-each most image k n l (and_left (slots_by most image n) (slot_by most image n) e))
    (eq-or-lt_of_le (le_of_suc-le-suc h))

pub slots-all : (most : ℕ) (image : List ℕ) (n : ℕ) → ((k : ℕ) → k < n → slot_by most image k ≡ true) → slots_by most image n ≡ true
unfolding slots_by
slots-all most image zero each = refl
slots-all most image (suc n) each = rw (slots-all most image n (λ k l. each k (omega arith)), each n (omega arith))
