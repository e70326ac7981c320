-- What a store does: to its own slot, to every other, and to a good image. Assumes nothing.
use Rattle.std.specs.Prelude.{Ok}
use Prim.Native.Nat.{ℕ, ◌+◌, ◌≤◌, ◌<◌}
use mathlib.Core.Path.{◌≡◌, refl, sym, ◌∙◌}
use mathlib.Core.List.{List, []}
use mathlib.Core.Bool.{true}
use mathlib.Core.Logic.{◌⊎◌, inl, inr, ⊎_elim}
use native.Mathlib.Omega.{arith}
use native.Mathlib.Decide.{dec_lt, ℕ_discrete}
use lib.ListN.{length}
use borrow.Author.Tests.{eq-eqb, eqb-true}
use Rattle.parts.specs.Parts.{part, put, padded}
use Rattle.parts.proofs.Laws.{length-put, part-put, part-put-below, part-put-above, length-padded}
use Rattle.lines.specs.Texts.{text_good}
use Rattle.image.specs.Image.{image_bytes, right_length, slots, entry_bytes, entry_of, body_bytes, slot_start, word, slot_body, slot_by, slot_good, slot_text, entry_for, with_entry, with_body, with_text}
use Rattle.image.specs.Calls.{checked_of, stored_of, after_store}
use Rattle.image.specs.Claims.{SlotKept, SlotHolds, StoreClaims}
use Rattle.image.proofs.HeldLaws.{empty-good, good-fits, holds}
use Rattle.image.proofs.CallLaws.{good-means, good-when, store-cases, done-when, done-means, after-done}

length-entry_for : (start n : ℕ) → length (entry_for start n) ≡ entry_bytes
unfolding entry_for word
length-entry_for start n = refl

-- of two numbers that differ one is less
apart : (j k : ℕ) → (j ≡ k → ⊥) → (j < k) ⊎ (k < j)
apart j k ne = go (dec_lt j k)
  where
    go : Dec (j < k) → (j < k) ⊎ (k < j)
    go (yes l) = inl l
    go (no m) = inr (omega arith)

-- what lies before or behind what is written is as it was
part_apart : (xs : List ℕ) (a : ℕ) (ys : List ℕ) (b n : ℕ) → a ≤ length xs → (b + n ≤ a) ⊎ (a + length ys ≤ b) → part (put xs a ys) b n ≡ part xs b n
part_apart xs a ys b n h side = ⊎_elim (part-put-below xs a ys h b n) (part-put-above xs a ys h b n) side

module _ (image : List ℕ) (k : ℕ) (text : List ℕ) (long : length image ≡ image_bytes) (slot : k < slots) (fits : length text ≤ body_bytes) where
  length_mid : length (with_entry image k (length text)) ≡ image_bytes
  unfolding with_entry
  length_mid = length-put image _ _ (omega (arith, length-entry_for (slot_start k) (length text))) ∙ long

  length_with : length (with_text image k text) ≡ image_bytes
  unfolding with_text with_body
  length_with = length-put _ _ _ (omega (arith, length-padded body_bytes text fits, length_mid)) ∙ length_mid

  entry_with : entry_of (with_text image k text) k ≡ entry_for (slot_start k) (length text)
  unfolding with_text with_body with_entry entry_of
  entry_with =
      part-put-below _ _ _ (omega (arith, length_mid)) _ _ (omega arith)
      ∙ part-put image _ _ (omega arith) _ (length-entry_for (slot_start k) (length text))

  body_with : slot_body (with_text image k text) k ≡ padded body_bytes text
  unfolding with_text with_body slot_body
  body_with = part-put _ _ _ (omega (arith, length_mid)) _ (length-padded body_bytes text fits)

  pub holds_with : SlotHolds (with_text image k text) k text
  holds_with = holds (with_text image k text) k text length_with slot fits entry_with body_with

  -- another slot lies elsewhere
  module _ (j : ℕ) (other : j < slots) (ne : j ≡ k → ⊥) where
    entry_kept : entry_of (with_text image k text) j ≡ entry_of image j
    unfolding with_text with_body with_entry entry_of
    entry_kept =
        let n = length-entry_for (slot_start k) (length text) in
        part_apart _ _ _ _ _ (omega (arith, length_mid)) (inl (omega arith))
        ∙ part_apart image _ _ _ _ (omega arith) (⊎_elim (λ (l : j < k). inl (omega arith)) (λ (l : k < j). inr (omega arith)) (apart j k ne))

    body_kept : slot_body (with_text image k text) j ≡ slot_body image j
    unfolding with_text with_body with_entry slot_body
    body_kept =
        let n = length-padded body_bytes text fits in
        part_apart _ _ _ _ _ (omega (arith, length_mid)) (⊎_elim (λ (l : j < k). inl (omega arith)) (λ (l : k < j). inr (omega arith)) (apart j k ne))
        ∙ part_apart image _ _ _ _ (omega arith) (inr (omega (arith, length-entry_for (slot_start k) (length text))))

    good_kept : slot_good (with_text image k text) j ≡ slot_good image j
    unfolding slot_by
    good_kept = rw (length_with, long, entry_kept, body_kept)

    pub kept_with : SlotKept j image (with_text image k text)
    unfolding slot_text
    kept_with = record { entry = entry_kept; body = body_kept; good = good_kept; text = rw (good_kept, entry_kept, body_kept) }

-- ---- of every image, slot and text

module _ (image : List ℕ) (k : ℕ) (text : List ℕ) where
  pub store_length : length (after_store image k text) ≡ length image
  store_length =
      store-cases (λ (x : List ℕ). length x ≡ length image) image k text refl (λ long slot fits. length_with image k text long slot fits ∙ sym long)

  pub store-holds : stored_of image k text ≡ Ok tt → SlotHolds (after_store image k text) k text
  store-holds e =
      let f = done-means image k text e in
      rw (after-done image k text e) (holds_with image k text f.long f.slot f.fits)

  pub store-elsewhere : (j : ℕ) → j < slots → (j ≡ k → ⊥) → SlotKept j image (after_store image k text)
  store-elsewhere j other ne =
      store-cases
      (λ (x : List ℕ). SlotKept j image x)
      image
      k
      text
      (record { entry = refl; body = refl; good = refl; text = refl })
      (λ long slot fits. kept_with image k text long slot fits j other ne)

  pub store-done : right_length image ≡ true → k < slots → text_good text ≡ true → stored_of image k text ≡ Ok tt
  store-done long slot t = done-when image k text (eqb-true _ _ long) slot (good-fits text t)

  -- each slot is the one stored to, or as it was
  pub store-good : checked_of image ≡ Ok tt → text_good text ≡ true → checked_of (after_store image k text) ≡ Ok tt
  store-good g t = good-when (after_store image k text) (store_length ∙ (good-means image g).0) (λ j l. each j l (ℕ_discrete j k))
    where
      each : (j : ℕ) → j < slots → Dec (j ≡ k) → slot_good (after_store image k text) j ≡ true
      each j l (no ne) = (store-elsewhere j l ne).good ∙ (good-means image g).1 j l
      each j l (yes e) =
          let slot : k < slots = omega arith in
          let h = store-holds (store-done (eq-eqb _ _ (good-means image g).0) slot t) in
          rw e (h.good ∙ t)

pub stores : (image : List ℕ) (k : ℕ) (text : List ℕ) → StoreClaims image k text
stores image k text = record {
  same_length = store_length image k text;
  done = store-done image k text;
  holds = store-holds image k text;
  elsewhere = store-elsewhere image k text;
  stays-good = store-good image k text;
}

pub store-empty : (image : List ℕ) (k : ℕ) → right_length image ≡ true → k < slots
    → (slot_good (after_store image k []) k ≡ true) × (slot_text (after_store image k []) k ≡ [])
store-empty image k long slot =
    let h = store-holds image k [] (store-done image k [] long slot empty-good) in
    (h.good ∙ empty-good, h.text empty-good)
