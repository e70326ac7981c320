-- A good image is told by its texts: each entry and each body is that of its text, and there is nothing else. Assumes nothing.
use Rattle.std.specs.Prelude.{Ok}
use Prim.Native.Nat.{ℕ, zero, suc, ◌+◌, ◌*◌, ◌-◌, ◌/◌, ◌%◌, ◌<◌}
use mathlib.Core.Path.{◌≡◌, refl, sym, ap, ◌∙◌}
use mathlib.Core.List.{List, [], ◌∷◌, ◌++◌}
use mathlib.Core.Bool.{true}
use native.Mathlib.Omega.{arith}
use native.Mathlib.Decide.{dec_lt}
use lib.Dec.{eqb}
use lib.ListN.{length, get_or, take, drop, replicate, length-take, length-drop, take-append-drop}
use lib.Seq.{ext_get_or}
use borrow.Author.Tests.{eqb-true}
use Rattle.parts.specs.Parts.{part, padded}
use Rattle.parts.proofs.Laws.{get_d_part}
use Rattle.image.specs.Image.{image_bytes, slots, entry_bytes, entry_of, body_bytes, byte_values, contents_bytes, start_in, length_in, slot_start, word, word_at, slot_body, all_zeros, slot_good, slot_text, entry_for}
use Rattle.image.specs.Calls.{checked_of}
use Rattle.image.specs.Claims.{Bytes, SameTexts}
use Rattle.image.proofs.SlotLaws.{and_left, and_right, length-entry, length-body, sound}
use Rattle.image.proofs.CallLaws.{good-means}

zeros_are : (s : List ℕ) → all_zeros s ≡ true → s ≡ replicate (length s) 0
unfolding all_zeros
zeros_are [] h = refl
zeros_are (b ∷ bs) h =
    let e : b ≡ 0 = eqb-true b 0 (and_left (eqb b 0) (all_zeros bs) h) in
    rw (e, ← zeros_are bs (and_right (eqb b 0) (all_zeros bs) h))

-- four bytes that say a start and a length are their entry
entry-told : (e : List ℕ) (start n : ℕ) → length e ≡ entry_bytes → ((i : ℕ) → i < entry_bytes → get_or e i 0 < byte_values)
    → start_in e ≡ start → length_in e ≡ n → e ≡ entry_for start n
unfolding word_at entry_for word
entry-told e start n long small s l = ext_get_or 0 e (entry_for start n) long go
  where
    go : (i : ℕ) → i < length e → get_or e i 0 ≡ get_or (entry_for start n) i 0
    go zero h = omega (arith, small 0 (omega arith), small 1 (omega arith))
    go (suc zero) h = omega (arith, small 0 (omega arith), small 1 (omega arith))
    go (suc (suc zero)) h = omega (arith, small 2 (omega arith), small 3 (omega arith))
    go (suc (suc (suc zero))) h = omega (arith, small 2 (omega arith), small 3 (omega arith))
    go (suc (suc (suc (suc i)))) h = absurd (omega arith)

-- a good slot of an image of bytes
module _ (image : List ℕ) (k : ℕ) (small : Bytes image) (good : slot_good image k ≡ true) where
  text_is : slot_text image k ≡ take (length_in (entry_of image k)) (slot_body image k)
  unfolding slot_text
  text_is = rw good

  length_is : length_in (entry_of image k) ≡ length (slot_text image k)
  length_is =
      let g = sound image k good in
      rw text_is (simp length-take (omega (arith, length-body image k g.long g.slot, g.fits)))

  entry_is : entry_of image k ≡ entry_for (slot_start k) (length (slot_text image k))
  unfolding entry_of
  entry_is =
      let g = sound image k good in
      entry-told
      (entry_of image k)
      (slot_start k)
      (length (slot_text image k))
      (length-entry image k g.long g.slot)
      (λ i h. rw (get_d_part image (entry_bytes * k) entry_bytes i h) (small (entry_bytes * k + i)))
      g.start
      length_is

  body_is : slot_body image k ≡ padded body_bytes (slot_text image k)
  unfolding padded
  body_is =
      let g = sound image k good in
      let n = length_in (entry_of image k) in
      let body = slot_body image k in
      let left : length (drop n body) ≡ body_bytes - length (slot_text image k) =
      simp length-drop (omega (arith, length-body image k g.long g.slot, length_is)) in
      sym (take-append-drop n body)
      ∙ ap (λ (l : List ℕ). take n body ++ l) (zeros_are (drop n body) g.unused ∙ ap (λ (m : ℕ). replicate m 0) left)
      ∙ ap (λ (l : List ℕ). l ++ replicate (body_bytes - length (slot_text image k)) 0) (sym text_is)

-- entries and bodies are all there is
all_there : (a b : List ℕ) → length a ≡ image_bytes → length b ≡ image_bytes
    → ((k : ℕ) → k < slots → entry_of a k ≡ entry_of b k) → ((k : ℕ) → k < slots → slot_body a k ≡ slot_body b k) → a ≡ b
unfolding entry_of slot_body
all_there a b la lb entries bodies = ext_get_or 0 a b (la ∙ sym lb) (λ i h. go i (omega arith) (dec_lt i contents_bytes))
  where
    at : (s n i j : ℕ) → j < n → s + j ≡ i → part a s n ≡ part b s n → get_or a i 0 ≡ get_or b i 0
    at s n i j h q e =
        rw (← q) (sym (get_d_part a s n j h) ∙ ap (λ (l : List ℕ). get_or l j 0) e ∙ get_d_part b s n j h)

    go : (i : ℕ) → i < image_bytes → Dec (i < contents_bytes) → get_or a i 0 ≡ get_or b i 0
    go i h (yes l) =
        let k = i / entry_bytes in
        at (entry_bytes * k) entry_bytes i (i % entry_bytes) (omega arith) (omega arith) (entries k (omega arith))
    go i h (no m) =
        let k = (i - contents_bytes) / body_bytes in
        at (slot_start k) body_bytes i ((i - contents_bytes) % body_bytes) (omega arith) (omega arith) (bodies k (omega arith))

pub told_by_texts : (a b : List ℕ) → Bytes a → Bytes b → checked_of a ≡ Ok tt → checked_of b ≡ Ok tt → SameTexts a b → a ≡ b
told_by_texts a b sa sb ga gb same =
    let ea = (good-means a ga).1 in
    let eb = (good-means b gb).1 in
    all_there
    a
    b
    (good-means a ga).0
    (good-means b gb).0
    (λ k l. entry_is a k sa (ea k l) ∙ rw (same k l) (sym (entry_is b k sb (eb k l))))
    (λ k l. body_is a k sa (ea k l) ∙ rw (same k l) (sym (body_is b k sb (eb k l))))
