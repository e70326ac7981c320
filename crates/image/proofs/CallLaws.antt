-- Laws of the public calls: how each promise is met, and that no second answer meets it. Assumes nothing.
use Rattle.std.specs.Prelude.{Ok}
use Rattle.image.specs.Calls.{ImageChecked}
use Rattle.image.specs.Calls.{Stored}
use Prim.Native.Nat.{ℕ, ◌≤◌, ◌<◌}
use mathlib.Core.Path.{◌≡◌, refl, sym, ◌∙◌}
use mathlib.Core.List.{List}
use mathlib.Core.Bool.{Bool, true, false, ◌&&◌}
use native.Mathlib.Omega.{arith}
use lib.Dec.{ltb, leb, eqb}
use lib.ListN.{length, drop}
use borrow.Author.Tests.{eq-eqb, ne_eqb, lt-ltb, le-leb, eqb-true, ltb-true, leb-true}
use Rattle.parts.proofs.Laws.{cases}
use Rattle.parts.specs.Parts.{most_bytes}
use Rattle.digits.specs.Operand.{operand_most, few_digits}
use Rattle.lines.specs.Texts.{older_good}
use Rattle.lines.proofs.FewLaws.{good-now}
use Rattle.image.specs.Image.{image_bytes, right_length, slots, body_bytes, start_in, length_in, slot_start, entry_of, slot_body, all_zeros, good_at, has_slot, slot_by, slot_good, slots_by, with_text, empty_image}
use Rattle.image.specs.Calls.{checked_by, checked_of, older_of, stored_of, store_leaves, after_store, StoredIs, after_clear, ClearedIs}
use Rattle.image.specs.Claims.{EverySlotGood, entry_text, slot_older, EverySlotOlder}
use Rattle.image.proofs.SlotLaws.{and_left, slots-each, slots-all}

-- ---- the image checked

means_by : (most : ℕ) (image : List ℕ) → checked_by most image ≡ Ok tt
    → (length image ≡ image_bytes) × ((k : ℕ) → k < slots → slot_by most image k ≡ true)
unfolding checked_by
means_by most image =
    cases
    (λ (r : ImageChecked). r ≡ Ok tt → (length image ≡ image_bytes) × ((k : ℕ) → k < slots → slot_by most image k ≡ true))
    (right_length image)
    (λ long. cases
    (λ (r : ImageChecked). r ≡ Ok tt → (length image ≡ image_bytes) × ((k : ℕ) → k < slots → slot_by most image k ≡ true))
    (slots_by most image slots)
    (λ all q. (eqb-true (length image) image_bytes long, λ k l. slots-each most image k slots l all))
    (λ some q. let z : ◌≡◌ {A = ℕ} 0 1 = cc in absurd (omega arith)))
    (λ short q. let z : ◌≡◌ {A = ℕ} 0 1 = cc in absurd (omega arith))

when_by : (most : ℕ) (image : List ℕ) → length image ≡ image_bytes → ((k : ℕ) → k < slots → slot_by most image k ≡ true) → checked_by most image ≡ Ok tt
unfolding checked_by
when_by most image long each = rw (eq-eqb (length image) image_bytes long, slots-all most image slots each)

pub good-means : (image : List ℕ) → checked_of image ≡ Ok tt → (length image ≡ image_bytes) × EverySlotGood image
good-means image e = means_by operand_most image e

pub good-when : (image : List ℕ) → length image ≡ image_bytes → EverySlotGood image → checked_of image ≡ Ok tt
good-when image long each = when_by operand_most image long each

pub older-means : (image : List ℕ) → older_of image ≡ Ok tt → (length image ≡ image_bytes) × EverySlotOlder image
older-means image e = means_by most_bytes image e

-- ---- programs stored earlier

-- the test of digits may stand last
tested-last : (h a b o f z : Bool) → (h && (a && b && (o && f) && z)) ≡ ((h && (a && b && o && z)) && f)
tested-last false a b o f z = refl
tested-last true false b o f z = refl
tested-last true true false o f z = refl
tested-last true true true false f z = refl
tested-last true true true true true true = refl
tested-last true true true true true false = refl
tested-last true true true true false true = refl
tested-last true true true true false false = refl

pub slot-now : (image : List ℕ) (k : ℕ) → slot_good image k ≡ slot_older image k && few_digits operand_most (entry_text image k)
unfolding slot_by good_at
slot-now image k =
    rw (good-now (entry_text image k))
    (tested-last (has_slot image k) (eqb (start_in (entry_of image k)) (slot_start k)) (leb (length_in (entry_of image k)) body_bytes) (older_good (entry_text image k))
    (few_digits operand_most (entry_text image k)) (all_zeros (drop (length_in (entry_of image k)) (slot_body image k))))

pub good-before : (image : List ℕ) → checked_of image ≡ Ok tt → older_of image ≡ Ok tt
good-before image e =
    let k = good-means image e in
    when_by most_bytes image k.0 (λ j l. and_left (slot_older image j) (few_digits operand_most (entry_text image j)) (sym (slot-now image j) ∙ k.1 j l))

-- ---- a store

-- what holds of the image as it was, and of the image with a text that fits, holds after every store
pub store-cases : (P : List ℕ → Type 0) (image : List ℕ) (k : ℕ) (text : List ℕ) → P image
    → (length image ≡ image_bytes → k < slots → length text ≤ body_bytes → P (with_text image k text)) → P (after_store image k text)
unfolding after_store stored_of
store-cases P image k text same done =
    let Q : Stored → Type 0 = λ r. P (store_leaves r image k text) in
    cases
    Q
    (right_length image)
    (λ long. cases
    Q
    (ltb k slots)
    (λ slot. cases
    Q
    (leb (length text) body_bytes)
    (λ fits. done (eqb-true (length image) image_bytes long) (ltb-true k slots slot) (leb-true (length text) body_bytes fits))
    (λ f. same))
    (λ f. same))
    (λ f. same)

pub done-when : (image : List ℕ) (k : ℕ) (text : List ℕ) → length image ≡ image_bytes → k < slots → length text ≤ body_bytes
    → stored_of image k text ≡ Ok tt
unfolding stored_of
done-when image k text long slot fits =
    rw (eq-eqb (length image) image_bytes long, lt-ltb k slots slot, le-leb (length text) body_bytes fits)

-- what Done says
pub record Fits (image : List ℕ) (k : ℕ) (text : List ℕ) : Type 0 where
  pub long : length image ≡ image_bytes
  pub slot : k < slots
  pub fits : length text ≤ body_bytes

pub done-means : (image : List ℕ) (k : ℕ) (text : List ℕ) → stored_of image k text ≡ Ok tt → Fits image k text
unfolding stored_of
done-means image k text =
    let Q : Stored → Type 0 = λ r. r ≡ Ok tt → Fits image k text in
    cases
    Q
    (right_length image)
    (λ a. cases
    Q
    (ltb k slots)
    (λ b. cases
    Q
    (leb (length text) body_bytes)
    (λ e q. record { long = eqb-true (length image) image_bytes a; slot = ltb-true k slots b; fits = leb-true (length text) body_bytes e })
    (λ f q. let z : ◌≡◌ {A = ℕ} 0 1 = cc in absurd (omega arith)))
    (λ f q. let z : ◌≡◌ {A = ℕ} 0 1 = cc in absurd (omega arith)))
    (λ f q. let z : ◌≡◌ {A = ℕ} 0 1 = cc in absurd (omega arith))

pub after-done : (image : List ℕ) (k : ℕ) (text : List ℕ) → stored_of image k text ≡ Ok tt → after_store image k text ≡ with_text image k text
unfolding after_store
after-done image k text e = rw e

-- ---- promises

-- a store that answers so leaves what its answer says
pub stored_as : (image : List ℕ) (slot : ℕ) (text : List ℕ) (answer : Stored) → stored_of image slot text ≡ answer
    → StoredIs image slot text answer (store_leaves answer image slot text)
unfolding after_store
stored_as image slot text answer e = record { answers = sym e; leaves = rw e }

pub stored_once : {image : List ℕ} {slot : ℕ} {text : List ℕ} {r s : Stored} {x y : List ℕ} → StoredIs image slot text r x → StoredIs image slot text s y
    → (r ≡ s) × (x ≡ y)
stored_once p q = (p.answers ∙ sym q.answers, p.leaves ∙ sym q.leaves)

pub cleared : (image after : List ℕ) → length image ≡ image_bytes → after ≡ empty_image → ClearedIs image true after
unfolding after_clear
cleared image after h e = record { answers = rw (eq-eqb (length image) image_bytes h); leaves = rw (eq-eqb (length image) image_bytes h) e }

pub not-cleared : (image : List ℕ) → (length image ≡ image_bytes → ⊥) → ClearedIs image false image
unfolding after_clear
not-cleared image h = record { answers = rw (ne_eqb (length image) image_bytes h); leaves = rw (ne_eqb (length image) image_bytes h) }

pub cleared_once : {image : List ℕ} {r s : Bool} {x y : List ℕ} → ClearedIs image r x → ClearedIs image s y → (r ≡ s) × (x ≡ y)
cleared_once p q = (p.answers ∙ sym q.answers, p.leaves ∙ sym q.leaves)
