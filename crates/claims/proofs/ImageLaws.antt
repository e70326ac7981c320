-- An image judged by its bytes: what an entry and a body are, byte by byte, and that the four tests of a slot are those of 01.
-- Assumes nothing.
use Prim.Native.Nat.{ℕ, zero, suc, ◌+◌, ◌-◌, ◌*◌, ◌≤◌, ◌<◌}
use mathlib.Core.Path.{◌≡◌, refl, sym, ap, ◌∙◌}
use mathlib.Core.List.{List, [], ◌∷◌}
use mathlib.Core.Bool.{Bool, true, false, and-eq-true_iff}
use native.Mathlib.Omega.{arith}
use lib.ListN.{length, get_or, take, drop, length-take, length-drop}
use lib.Seq.{get_or-drop, take-take}
use lib.Dec.{leb, eqb}
use borrow.Author.Tests.{lt-ltb, le-ltb, le-leb, lt-leb, leb-true, eq-eqb, ne_eqb, eqb-true}
use Rattle.parts.specs.Parts.{part}
use Rattle.parts.proofs.Laws.{get_d_part}
use Rattle.digits.specs.Operand.{operand_most}
use Rattle.lines.specs.Texts.{text_good_by}
use Rattle.image.specs.Image.{slots, word_at, start_in, length_in, entry_of, slot_body, all_zeros, good_at, slot_by, slots_by, slot_text}
use Rattle.image.specs.Calls.{checked_by, stored_of}
use Rattle.image.proofs.SlotLaws.{sound, slot-judged, no_slot, slots-each, slots-all}
use Rattle.claims.specs.Images.{start_bits, length_bits, SlotSo, EverySlot, ImageRow, StoreRow}

-- ---- the bytes of a slot

module _ (image : List ℕ) (k : ℕ) where
  abbrev entry : List ℕ
  entry = entry_of image k

  start_is : start_in entry ≡ start_bits image k
  unfolding word_at entry_of
  start_is =
      let z : 4 * k + 0 ≡ 4 * k = omega arith in
      rw (get_d_part image (4 * k) 4 0 (omega arith), get_d_part image (4 * k) 4 1 (omega arith), z)

  length_is : length_in entry ≡ length_bits image k
  unfolding word_at entry_of
  length_is =
      let z : 4 * k + 2 + 1 ≡ 4 * k + 3 = omega arith in
      rw (get_d_part image (4 * k) 4 2 (omega arith), get_d_part image (4 * k) 4 3 (omega arith), z)

  text_is : length_bits image k ≤ 256 → take (length_in entry) (slot_body image k) ≡ part image (64 + 256 * k) (length_bits image k)
  unfolding slot_body part
  text_is l = rw length_is (take-take (length_bits image k) 256 (drop (64 + 256 * k) image) l)

-- ---- "unused bytes are 0"

zeros-each : (s : List ℕ) → all_zeros s ≡ true → (i : ℕ) → get_or s i 0 ≡ 0
unfolding all_zeros
zeros-each [] h i = refl
zeros-each (b ∷ bs) h zero = eqb-true b 0 ((and-eq-true_iff (eqb b 0) (all_zeros bs)).0 h).0
zeros-each (b ∷ bs) h (suc i) = zeros-each bs ((and-eq-true_iff (eqb b 0) (all_zeros bs)).0 h).1 i

zeros-all : (s : List ℕ) → ((i : ℕ) → i < length s → get_or s i 0 ≡ 0) → all_zeros s ≡ true
unfolding all_zeros
zeros-all [] h = refl
zeros-all (b ∷ bs) h = rw (eq-eqb b 0 (h 0 (omega arith)), zeros-all bs (λ i l. h (suc i) (omega arith)))

module _ (image : List ℕ) (k : ℕ) (long : length image ≡ 4160) (slot : k < 16) where
  abbrev at : ℕ
  at = length_bits image k

  abbrev body : List ℕ
  body = slot_body image k

  body-long : length body ≡ 256
  unfolding slot_body part
  body-long = simp (length-take, length-drop) (omega arith)

  -- a byte of the body, where it stands in the image
  there : (i : ℕ) → i < 256 → get_or body i 0 ≡ get_or image (64 + 256 * k + i) 0
  unfolding slot_body
  there i l = get_d_part image (64 + 256 * k) 256 i l

  unused-each : all_zeros (drop at body) ≡ true → (i : ℕ) → at ≤ i → i < 256 → get_or image (64 + 256 * k + i) 0 ≡ 0
  unused-each h i l g =
      let e : at + (i - at) ≡ i = omega arith in
      sym (there i g) ∙ sym (ap (λ (j : ℕ). get_or body j 0) e) ∙ sym (get_or-drop at body (i - at) 0) ∙ zeros-each (drop at body) h (i - at)

  unused-all : ((i : ℕ) → at ≤ i → i < 256 → get_or image (64 + 256 * k + i) 0 ≡ 0) → all_zeros (drop at body) ≡ true
  unused-all h = zeros-all (drop at body) (λ i l.
      let g : at + i < 256 = omega (arith, body-long, length-drop at body) in
      get_or-drop at body i 0 ∙ there (at + i) g ∙ h (at + i) (omega arith) g)

  module _ (most : ℕ) where
    -- the four tests
    slot_so : slot_by most image k ≡ true → SlotSo (text_good_by most) image k
    unfolding good_at
    slot_so h =
        let g = sym (slot-judged most image k long slot) ∙ h in
        let three = (and-eq-true_iff _ (all_zeros (drop (length_in (entry_of image k)) body))).0 g in
        let two = (and-eq-true_iff _ (text_good_by most (take (length_in (entry_of image k)) body))).0 three.0 in
        let one = (and-eq-true_iff (eqb (start_in (entry_of image k)) (64 + 256 * k)) (leb (length_in (entry_of image k)) 256)).0 two.0 in
        let fits : at ≤ 256 = rw (length_is image k) at (leb-true (length_in (entry_of image k)) 256 one.1) in
        record {
          start = sym (start_is image k) ∙ eqb-true _ _ one.0;
          fits = fits;
          passes = rw (text_is image k fits) at two.1;
          unused = unused-each (rw (length_is image k) at three.1);
        }

    so_slot : SlotSo (text_good_by most) image k → slot_by most image k ≡ true
    unfolding good_at
    so_slot h =
        slot-judged most image k long slot
        ∙ rw (start_is image k, eq-eqb _ _ h.start, text_is image k h.fits, h.passes, length_is image k, le-leb at 256 h.fits, unused-all h.unused)

-- ---- the rows

module _ (most : ℕ) (image : List ℕ) (long : length image ≡ 4160) where
  pub every_so : slots_by most image slots ≡ true → EverySlot (text_good_by most) image
  every_so h k l = slot_so image k long l most (slots-each most image k slots l h)

  pub so_every : EverySlot (text_good_by most) image → slots_by most image slots ≡ true
  so_every h = slots-all most image slots (λ k l. so_slot image k long l most (h k l))

  -- where not every slot is so
  pub not_every : (EverySlot (text_good_by most) image → ⊥) → slots_by most image slots ≡ false
  not_every n = go (slots_by most image slots) refl
    where
      go : (b : Bool) → slots_by most image slots ≡ b → b ≡ false
      go true e = absurd (n (every_so e))
      go false e = refl

pub image-row : (image : List ℕ) → ImageRow image
unfolding checked_by slot_text
image-row image = record {
  wrong-length = λ n. rw (ne_eqb (length image) 4160 n);
  bad = λ l n. rw (eq-eqb (length image) 4160 l, not_every operand_most image l n);
  good = λ l h. rw (eq-eqb (length image) 4160 l, so_every operand_most image l h);
  slot = λ k l h. (slot_so image k l h operand_most, so_slot image k l h operand_most);
  no_slot = λ k h. sym (no_slot operand_most image k h);
  text = λ k h. rw h (text_is image k (rw (length_is image k) at (sound image k h).fits));
}

pub store-row : (image : List ℕ) (k : ℕ) (text : List ℕ) → StoreRow image k text
unfolding stored_of
store-row image k text = record {
  wrong-length = λ n. rw (ne_eqb (length image) 4160 n);
  no_slot = λ l h. rw (eq-eqb (length image) 4160 l, le-ltb k 16 (omega arith));
  too_long = λ l h g. rw (eq-eqb (length image) 4160 l, lt-ltb k 16 (omega arith), lt-leb (length text) 256 g);
  stored = λ l h g. rw (eq-eqb (length image) 4160 l, lt-ltb k 16 (omega arith), le-leb (length text) 256 g);
}
