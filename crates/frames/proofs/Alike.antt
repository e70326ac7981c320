-- Two receivers at one place, with the same bytes of a body that counts, go on alike: what earlier frames left is never told.
-- Assumes nothing.
use Prim.Native.Nat.{ℕ, ◌+◌, ◌<◌}
use native.Mathlib.Numerals.{add-one}
use native.Mathlib.Omega.{arith}
use mathlib.Core.Path.{◌≡◌, refl, ap, sym, subst, ◌∙◌}
use mathlib.Core.Bool.{Bool, true, false, cond, true≢false}
use mathlib.Core.Logic.{inl, inr}
use mathlib.Core.List.{List, [], ◌∷◌, ◌++◌}
use lib.ListN.{length, take, set}
use lib.Seq.{take-suc-set}
use lib.Dec.{eqb, ltb}
use borrow.Author.Tests.{ltb-true}
use Rattle.checksum.specs.Checksum.{xor}
use Rattle.frames.specs.declared.Place.{Place}
use Rattle.frames.specs.declared.Frame.{Frame}
use Rattle.frames.specs.declared.Framing.{Framing}
use Rattle.frames.specs.Addresses.{called_of}
use Rattle.parts.specs.Letters.{slash, cr, stx, etx}
use Rattle.frames.specs.Receive.{Receiver, Received, most_kept, ours, placed, Stepped, quiet, finished}
use Rattle.frames.specs.Receive.{begun_plain, stored, heard, begun_oem, stored_for, other_byte, begins, byte_received}
use Rattle.frames.specs.Receive.{past, onward, receive_of}
use Rattle.frames.specs.Claims.{free, oem_of, sum_of, Sound, in_body, SameBody, Alike, Same}
use Rattle.frames.proofs.Bools.{bool}
use Rattle.frames.proofs.Steps.{sound-placed, sound-step}
use Rattle.frames.proofs.Stream.{cut, sound}
use Rattle.frames.proofs.Bodies.{stored-place, wrong-sum}

-- two steps that tell the same, and go on alike
record SameStep (s t : Stepped) : Type 0 where
  alike : Alike s.receiver t.receiver
  frame : s.frame ≡ t.frame
  framing : s.framing ≡ t.framing
  body : ours s.frame ≡ true → SameBody s.receiver t.receiver

both_ways : {A : Type 0} {x y x' y' : A} (P : A → A → Type 0) (t t' : Bool) → t ≡ t' → P x x' → P y y'
    → P (cond t x y) (cond t' x' y')
both_ways P true true e f g = f
both_ways P true false e f g = absurd (true≢false e)
both_ways P false true e f g = absurd (true≢false (sym e))
both_ways P false false e f g = g

-- ---- receivers

-- at a place where no body counts
only-place : (p : Place) (r t : Receiver) → in_body p ≡ false → Alike (placed p r) (placed p t)
only-place p r t n = record { place = refl; body = λ o. absurd (true≢false (sym o ∙ n)) }

same-placed : (p : Place) (r t : Receiver) → SameBody r t → SameBody (placed p r) (placed p t)
same-placed p r t s = record { long = s.long; bytes = s.bytes }

-- one byte more, in bodies that have room
more_same : (xs ys : List ℕ) (n b : ℕ) → n < length xs → n < length ys → take n xs ≡ take n ys
    → take (n + 1) (set xs n b) ≡ take (n + 1) (set ys n b)
more_same xs ys n b h k e = rw (add-one, take-suc-set xs n b h, take-suc-set ys n b k) (ap (λ (l : List ℕ). l ++ (b ∷ [])) e)

stored_same : (b : ℕ) (r t : Receiver) → Sound r → Sound t → SameBody r t → SameBody (stored b r) (stored b t)
unfolding stored
stored_same b r t s s' m =
    elim (bool (ltb r.length most_kept)) [
      | inl e ↦
          let l : r.length < most_kept = ltb-true r.length most_kept e in
          rw (← m.long)
          (simp e
          (record { long = refl; bytes = more_same r.body t.body r.length b (omega arith) (omega arith) m.bytes }))
      | inr e ↦ rw (← m.long) (simp e (record { long = refl; bytes = m.bytes }))
    ]

stored-alike : (b : ℕ) (r t : Receiver) → r.place ≡ t.place → Sound r → Sound t → SameBody r t
    → Alike (stored b r) (stored b t)
stored-alike b r t e s s' m =
    record { place = stored-place b r ∙ e ∙ sym (stored-place b t); body = λ o. stored_same b r t s s' m }

begun-alike : (c : Frame) (r t : Receiver) → Alike (begun_plain c r) (begun_plain c t)
begun-alike Frame.Nothing r t = only-place Place.Outside r t refl
begun-alike Frame.Alone r t = record { place = refl; body = λ o. record { long = refl; bytes = refl } }
begun-alike Frame.Group r t = record { place = refl; body = λ o. record { long = refl; bytes = refl } }

begun-oem-alike : (w : Frame) (q x : ℕ) (r t : Receiver) → Alike (begun_oem w q x r) (begun_oem w q x t)
begun-oem-alike Frame.Nothing q x r t = only-place (Place.OemBody Frame.Nothing q x) r t refl
begun-oem-alike Frame.Alone q x r t = record { place = refl; body = λ o. record { long = refl; bytes = refl } }
begun-oem-alike Frame.Group q x r t = record { place = refl; body = λ o. record { long = refl; bytes = refl } }

-- a byte of an OEM body
module _ (q x b : ℕ) (r t : Receiver) (s : Sound r) (s' : Sound t) where
  stored-oem-alike : (w : Frame) → SameBody r t
      → Alike (stored b (placed (Place.OemBody w q x) r)) (stored b (placed (Place.OemBody w q x) t))
  stored-oem-alike w m =
      let p = Place.OemBody w q x in
      stored-alike b (placed p r) (placed p t) refl (sound-placed p r s) (sound-placed p t s') (same-placed p r t m)

  stored_for_alike : (w : Frame) → (ours w ≡ true → SameBody r t)
      → Alike (stored_for w b (placed (Place.OemBody w q x) r)) (stored_for w b (placed (Place.OemBody w q x) t))
  stored_for_alike Frame.Nothing h = only-place (Place.OemBody Frame.Nothing q x) r t refl
  stored_for_alike Frame.Alone h = stored-oem-alike Frame.Alone (h refl)
  stored_for_alike Frame.Group h = stored-oem-alike Frame.Group (h refl)

-- ---- steps

-- nothing completed
calm : {r t : Receiver} → Alike r t → SameStep (quiet r) (quiet t)
calm a = record { alike = a; frame = refl; framing = refl; body = λ o. absurd (true≢false (sym o)) }

finished-same : (w : Frame) (g : Framing) (r t : Receiver) → (ours w ≡ true → SameBody r t)
    → SameStep (finished w g (placed Place.Outside r)) (finished w g (placed Place.Outside t))
finished-same Frame.Nothing g r t h = calm (only-place Place.Outside r t refl)
finished-same Frame.Alone g r t h =
    record {
      alike = only-place Place.Outside r t refl;
      frame = refl;
      framing = refl;
      body = λ o. same-placed Place.Outside r t (h refl);
    }
finished-same Frame.Group g r t h =
    record {
      alike = only-place Place.Outside r t refl;
      frame = refl;
      framing = refl;
      body = λ o. same-placed Place.Outside r t (h refl);
    }

module _ (u b : ℕ) (r t : Receiver) (s : Sound r) (s' : Sound t) (a : Alike r t) where
  left : SameStep (quiet (placed Place.Outside r)) (quiet (placed Place.Outside t))
  left = calm (only-place Place.Outside r t refl)

  taken-same : (p : Place) → (in_body p ≡ true → SameBody r t) → SameStep (other_byte p u b r) (other_byte p u b t)
  taken-same Place.Outside h = calm a
  taken-same Place.Address h = both_ways SameStep (eqb b cr) (eqb b cr) refl left (calm (begun-alike (called_of u b) r t))
  taken-same Place.Alone h =
      both_ways SameStep (eqb b cr) (eqb b cr) refl (finished-same Frame.Alone Framing.Plain r t h)
      (calm (stored-alike b r t a.place s s' (h refl)))
  taken-same Place.Group h =
      both_ways SameStep (eqb b cr) (eqb b cr) refl (finished-same Frame.Group Framing.Plain r t h)
      (calm (stored-alike b r t a.place s s' (h refl)))
  taken-same Place.OemAddress h =
      calm
      (both_ways Alike (eqb b etx) (eqb b etx) refl (only-place Place.Outside r t refl)
      (only-place (Place.OemSequence (called_of u b) (xor stx b)) r t refl))
  taken-same (Place.OemSequence w x) h =
      calm
      (both_ways Alike (eqb b etx) (eqb b etx) refl (only-place Place.Outside r t refl)
      (begun-oem-alike (heard w b) b (xor x b) r t))
  taken-same (Place.OemBody w q x) h =
      calm
      (both_ways Alike (eqb b etx) (eqb b etx) refl
      (record { place = refl; body = λ o. same-placed (Place.OemSum w q (xor x b)) r t (h o) })
      (stored_for_alike q (xor x b) b r t s s' w h))
  taken-same (Place.OemSum w q x) h = both_ways SameStep (eqb b x) (eqb b x) refl (finished-same w (Framing.Oem q) r t h) left

  step_same : SameStep (byte_received r u b) (byte_received t u b)
  unfolding byte_received
  step_same =
      both_ways SameStep (begins slash r.place b) (begins slash t.place b) (ap (λ (p : Place). begins slash p b) a.place) (calm (only-place Place.Address r t refl))
      (both_ways SameStep (begins stx r.place b) (begins stx t.place b) (ap (λ (p : Place). begins stx p b) a.place) (calm (only-place Place.OemAddress r t refl))
      (subst (λ (p : Place). SameStep (other_byte r.place u b r) (other_byte p u b t)) a.place (taken-same r.place a.body)))

-- ---- calls

past_same : (k : ℕ) (f g : Received) → Same f g → Same (past k f) (past k g)
past_same k f g m =
    record { alike = m.alike; count = ap (λ (n : ℕ). k + n) m.count; frame = m.frame; framing = m.framing; body = m.body }

onward-same : (x y : Stepped) (f g : Received) → SameStep x y → Same f g → Same (onward x f) (onward y g)
onward-same x y f g m n =
    both_ways Same (ours x.frame) (ours y.frame) (ap ours m.frame)
    (record { alike = m.alike; count = refl; frame = m.frame; framing = m.framing; body = m.body })
    (past_same 1 f g n)

pub stale : (r : Receiver) (u : ℕ) (t : Receiver) (xs : List ℕ) → Sound r → Sound t → Alike r t
    → Same (receive_of r u xs) (receive_of t u xs)
unfolding receive_of
stale r u t [] s s' a =
    record { alike = a; count = refl; frame = refl; framing = refl; body = λ o. absurd (true≢false (sym o)) }
stale r u t (b ∷ bs) s s' a =
    let m = step_same u b r t s s' a in
    onward-same (byte_received r u b) (byte_received t u b) _ _ m
    (stale (byte_received r u b).receiver u (byte_received t u b).receiver bs (sound-step r u b s) (sound-step t u b s') m.alike)

pub as_if_not_come : (r : Receiver) (u a q : ℕ) (body : List ℕ) (c : ℕ) (ys : List ℕ) → Sound r
    → r.place ≡ Place.Outside → free etx (a ∷ q ∷ body) ≡ true → (c ≡ sum_of a q body → ⊥)
    → Same (receive_of r u (oem_of a q body c ++ ys)) (past (length (oem_of a q body c)) (receive_of r u ys))
as_if_not_come r u a q body c ys s o f n =
    let xs = oem_of a q body c in
    let k = wrong-sum r u a q body c (rw o) f n in
    let l = (receive_of r u xs).receiver in
    rw (cut r u xs ys k.nothing)
    (past_same (length xs) (receive_of l u ys) (receive_of r u ys)
    (stale l u r ys (sound r u xs s) s
    (record { place = k.leaves ∙ sym o; body = λ h. absurd (true≢false (sym h ∙ ap in_body k.leaves)) })))
