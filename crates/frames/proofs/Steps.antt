-- One byte, by where it comes: a byte that begins a frame, then place by place.
-- Assumes nothing.
use Prim.Native.Nat.{ℕ, ◌<◌}
use native.Mathlib.Omega.{arith}
use mathlib.Core.Path.{◌≡◌, refl, ap, sym, ◌∙◌}
use mathlib.Core.Bool.{true, false, cond, and-true, and-false, true≢false}
use mathlib.Core.Logic.{inl, inr}
use mathlib.Core.List.{List, ◌∷◌}
use lib.ListN.{length-set}
use lib.Dec.{eqb, ltb}
use borrow.Author.Tests.{ne_eqb, ltb-true, eqb-true}
use Rattle.checksum.specs.Checksum.{xor}
use Rattle.frames.specs.declared.Place.{Place}
use Rattle.frames.specs.declared.Frame.{Frame}
use Rattle.frames.specs.declared.Framing.{Framing}
use Rattle.frames.specs.Addresses.{called_of}
use Rattle.parts.specs.Letters.{slash, cr, stx, etx}
use Rattle.frames.specs.Receive.{Receiver, most_kept, ours, placed, Stepped, quiet, finished, begun_plain, stored}
use Rattle.frames.specs.Receive.{closed_by_cr, heard, begun_oem, stored_for, other_byte, elsewhere, begins, byte_received}
use Rattle.frames.specs.Pieces.{completed, in_plain}
use Rattle.frames.specs.Claims.{free, Sound, Ends}
use Rattle.parts.proofs.Laws.{cases}
use Rattle.frames.proofs.Bools.{bool, none_of}

-- in a plain body
pub taken-inside : (p : Place) (u b : ℕ) (r : Receiver) → ours (completed p) ≡ true
    → other_byte p u b r ≡ closed_by_cr (completed p) b r (quiet (stored b r))
taken-inside Place.Outside u b r i = absurd (true≢false (sym i))
taken-inside Place.Address u b r i = absurd (true≢false (sym i))
taken-inside Place.Alone u b r i = refl
taken-inside Place.Group u b r i = refl
taken-inside Place.OemAddress u b r i = absurd (true≢false (sym i))
taken-inside (Place.OemSequence w s) u b r i = absurd (true≢false (sym i))
taken-inside (Place.OemBody w q s) u b r i = absurd (true≢false (sym i))
taken-inside (Place.OemSum w q s) u b r i = absurd (true≢false (sym i))

pub free-cons : (end b : ℕ) (bs : List ℕ) → free end (b ∷ bs) ≡ true
    → (eqb b slash ≡ false) × (eqb b stx ≡ false) × (eqb b end ≡ false) × (free end bs ≡ true)
free-cons end b bs h = none_of (eqb b slash) (eqb b stx) (eqb b end) (free end bs) h

-- A BYTE THAT BEGINS A FRAME, AND ONE THAT DOES NOT
pub begins-plain : (r : Receiver) (u : ℕ) → elsewhere r.place ≡ true → byte_received r u slash ≡ quiet (placed Place.Address r)
unfolding byte_received
begins-plain r u e = simp e

pub begins-oem : (r : Receiver) (u : ℕ) → elsewhere r.place ≡ true → byte_received r u stx ≡ quiet (placed Place.OemAddress r)
unfolding byte_received
begins-oem r u e = simp e

pub step_other : (r : Receiver) (u b : ℕ) → eqb b slash ≡ false → eqb b stx ≡ false → byte_received r u b ≡ other_byte r.place u b r
unfolding byte_received
step_other r u b s t = simp (s, t)

-- what holds of each way holds of the step
pub step-cases : (P : Stepped → Type 0) (r : Receiver) (u b : ℕ) → P (quiet (placed Place.Address r))
    → P (quiet (placed Place.OemAddress r)) → P (other_byte r.place u b r)
    → P (byte_received r u b)
unfolding byte_received
step-cases P r u b plain oem other =
    cases P (begins slash r.place b) (λ e. plain) (λ e. cases P (begins stx r.place b) (λ f. oem) (λ f. other))

-- PLACE BY PLACE
-- a plain body is no checksum place
inside-elsewhere : (p : Place) → ours (completed p) ≡ true → elsewhere p ≡ true
inside-elsewhere Place.Outside i = refl
inside-elsewhere Place.Address i = refl
inside-elsewhere Place.Alone i = refl
inside-elsewhere Place.Group i = refl
inside-elsewhere Place.OemAddress i = refl
inside-elsewhere (Place.OemSequence w s) i = refl
inside-elsewhere (Place.OemBody w q s) i = refl
inside-elsewhere (Place.OemSum w q s) i = absurd (true≢false (sym i))

pub step-plain : (r : Receiver) (u b : ℕ) → ours (completed r.place) ≡ true
    → byte_received r u b ≡ in_plain (completed r.place) b r
unfolding byte_received
step-plain r u b i = rw (inside-elsewhere r.place i, and-true (eqb b slash), and-true (eqb b stx), taken-inside r.place u b r i)

pub step-outside : (r : Receiver) (u b : ℕ) → r.place ≡ Place.Outside → eqb b slash ≡ false → eqb b stx ≡ false
    → byte_received r u b ≡ quiet r
step-outside r u b o s t = step_other r u b s t ∙ rw o

pub skipped : (r : Receiver) (u b : ℕ) → r.place ≡ Place.Outside → (b ≡ slash → ⊥) → (b ≡ stx → ⊥) → byte_received r u b ≡ quiet r
skipped r u b o n m = step-outside r u b o (ne_eqb b slash n) (ne_eqb b stx m)

pub step_address : (r : Receiver) (u a : ℕ) → eqb a slash ≡ false → eqb a stx ≡ false → eqb a cr ≡ false
    → byte_received (placed Place.Address r) u a ≡ quiet (begun_plain (called_of u a) (placed Place.Address r))
step_address r u a s t c = step_other (placed Place.Address r) u a s t ∙ rw c

pub step-inside : (r : Receiver) (u b : ℕ) → ours (completed r.place) ≡ true → eqb b slash ≡ false
    → eqb b stx ≡ false → eqb b cr ≡ false
    → byte_received r u b ≡ quiet (stored b r)
step-inside r u b i s t c = step_other r u b s t ∙ taken-inside r.place u b r i ∙ rw c

pub step-oem_address : (r : Receiver) (u a : ℕ) → eqb a slash ≡ false → eqb a stx ≡ false → eqb a etx ≡ false
    → byte_received (placed Place.OemAddress r) u a ≡ quiet (placed (Place.OemSequence (called_of u a) (xor stx a)) r)
step-oem_address r u a s t e = step_other (placed Place.OemAddress r) u a s t ∙ rw e

pub step-oem_sequence : (r : Receiver) (u : ℕ) (w : Frame) (s q : ℕ) → eqb q slash ≡ false → eqb q stx ≡ false
    → eqb q etx ≡ false
    → byte_received (placed (Place.OemSequence w s) r) u q ≡ quiet (begun_oem (heard w q) q (xor s q) r)
step-oem_sequence r u w s q a t e = step_other (placed (Place.OemSequence w s) r) u q a t ∙ rw e

-- the place does not matter to what is stored
pub stored-placed : (p : Place) (b : ℕ) (r : Receiver) → stored b (placed p r) ≡ placed p (stored b r)
unfolding stored
stored-placed p b r = elim (bool (ltb r.length most_kept)) [ inl e ↦ simp e | inr e ↦ simp e ]

stored_for-placed : (w : Frame) (p : Place) (b : ℕ) (r : Receiver) → stored_for w b (placed p r) ≡ placed p (stored_for w b r)
stored_for-placed Frame.Nothing p b r = refl
stored_for-placed Frame.Alone p b r = stored-placed p b r
stored_for-placed Frame.Group p b r = stored-placed p b r

pub step-oem-body : (r : Receiver) (u : ℕ) (w : Frame) (q s b : ℕ) → eqb b slash ≡ false → eqb b stx ≡ false
    → eqb b etx ≡ false
    → byte_received (placed (Place.OemBody w q s) r) u b ≡ quiet (placed (Place.OemBody w q (xor s b)) (stored_for w b r))
step-oem-body r u w q s b a t e =
    step_other (placed (Place.OemBody w q s) r) u b a t ∙ rw e (ap quiet (stored_for-placed w (Place.OemBody w q (xor s b)) b r))

pub step-oem-end : (r : Receiver) (u : ℕ) (w : Frame) (q s : ℕ)
    → byte_received (placed (Place.OemBody w q s) r) u etx ≡ quiet (placed (Place.OemSum w q (xor s etx)) r)
unfolding byte_received
step-oem-end r u w q s = refl

-- in the checksum place no byte begins a frame
pub step-oem-sum : (r : Receiver) (u : ℕ) (w : Frame) (q s c : ℕ)
    → byte_received (placed (Place.OemSum w q s) r) u c
    ≡ cond (eqb c s) (finished w (Framing.Oem q) (placed Place.Outside r)) (quiet (placed Place.Outside r))
unfolding byte_received
step-oem-sum r u w q s c = simp and-false

-- WHAT A BYTE COMPLETES
abbrev Completing : Place → ℕ → Stepped → Type 0
Completing p b t = ours t.frame ≡ true → Ends p b t.frame t.framing × (t.receiver.place ≡ Place.Outside)

nothing-done : (p : Place) (b : ℕ) (r : Receiver) → Completing p b (quiet r)
nothing-done p b r o = absurd (true≢false (sym o))

finished-oem : (w : Frame) (q s b : ℕ) (r : Receiver) → b ≡ s
    → Completing (Place.OemSum w q s) b (finished w (Framing.Oem q) (placed Place.Outside r))
finished-oem Frame.Nothing q s b r e o = absurd (true≢false (sym o))
finished-oem Frame.Alone q s b r e o = (rw e (Ends.oem Frame.Alone q s o), refl)
finished-oem Frame.Group q s b r e o = (rw e (Ends.oem Frame.Group q s o), refl)

taken-ends : (p : Place) (u b : ℕ) (r : Receiver) → Completing p b (other_byte p u b r)
taken-ends Place.Outside u b r = nothing-done Place.Outside b r
taken-ends Place.Address u b r =
    cases (Completing Place.Address b) (eqb b cr) (λ e. nothing-done Place.Address b (placed Place.Outside r))
    (λ e. nothing-done Place.Address b (begun_plain (called_of u b) r))
taken-ends Place.Alone u b r =
    cases (Completing Place.Alone b) (eqb b cr) (λ e o. (rw (eqb-true b cr e) Ends.plain-alone, refl))
    (λ e. nothing-done Place.Alone b (stored b r))
taken-ends Place.Group u b r =
    cases (Completing Place.Group b) (eqb b cr) (λ e o. (rw (eqb-true b cr e) Ends.plain-group, refl))
    (λ e. nothing-done Place.Group b (stored b r))
taken-ends Place.OemAddress u b r = λ o. absurd (true≢false (sym o))
taken-ends (Place.OemSequence w s) u b r = λ o. absurd (true≢false (sym o))
taken-ends (Place.OemBody w q s) u b r = λ o. absurd (true≢false (sym o))
taken-ends (Place.OemSum w q s) u b r =
    cases (Completing (Place.OemSum w q s) b) (eqb b s) (λ e. finished-oem w q s b r (eqb-true b s e))
    (λ e. nothing-done (Place.OemSum w q s) b (placed Place.Outside r))

-- a byte that completes a frame ends the one in which the receiver stands, and takes it outside
pub ends_at : (r : Receiver) (u b : ℕ) → ours (byte_received r u b).frame ≡ true
    → Ends r.place b (byte_received r u b).frame (byte_received r u b).framing × ((byte_received r u b).receiver.place ≡ Place.Outside)
ends_at r u b =
    step-cases (Completing r.place b) r u b (nothing-done r.place b (placed Place.Address r))
    (nothing-done r.place b (placed Place.OemAddress r))
    (taken-ends r.place u b r)

-- THE RECORD STAYS SOUND
pub sound-placed : (p : Place) (r : Receiver) → Sound r → Sound (placed p r)
sound-placed p r s = record { full = s.full; within = s.within }

sound-stored : (b : ℕ) (r : Receiver) → Sound r → Sound (stored b r)
unfolding stored
sound-stored b r s =
    elim (bool (ltb r.length most_kept)) [
      | inl e ↦
          let l : r.length < most_kept = ltb-true r.length most_kept e in
          simp e (record { full = length-set r.body r.length b ∙ s.full; within = omega arith })
      | inr e ↦ simp e s
    ]

sound-begun : (c : Frame) (r : Receiver) → Sound r → Sound (begun_plain c r)
sound-begun Frame.Nothing r s = record { full = s.full; within = s.within }
sound-begun Frame.Alone r s = record { full = s.full; within = omega arith }
sound-begun Frame.Group r s = record { full = s.full; within = omega arith }

sound-begun-oem : (w : Frame) (q t : ℕ) (r : Receiver) → Sound r → Sound (begun_oem w q t r)
sound-begun-oem Frame.Nothing q t r s = record { full = s.full; within = s.within }
sound-begun-oem Frame.Alone q t r s = record { full = s.full; within = omega arith }
sound-begun-oem Frame.Group q t r s = record { full = s.full; within = omega arith }

sound-stored_for : (w : Frame) (b : ℕ) (r : Receiver) → Sound r → Sound (stored_for w b r)
sound-stored_for Frame.Nothing b r s = s
sound-stored_for Frame.Alone b r s = sound-stored b r s
sound-stored_for Frame.Group b r s = sound-stored b r s

sound-finished : (w : Frame) (g : Framing) (r : Receiver) → Sound r → Sound (finished w g r).receiver
sound-finished Frame.Nothing g r s = s
sound-finished Frame.Alone g r s = s
sound-finished Frame.Group g r s = s

abbrev SoundAfter : Stepped → Type 0
SoundAfter t = Sound t.receiver

sound-taken : (p : Place) (u b : ℕ) (r : Receiver) → Sound r → Sound (other_byte p u b r).receiver
sound-taken Place.Outside u b r s = s
sound-taken Place.Address u b r s =
    cases SoundAfter (eqb b cr) (λ e. sound-placed Place.Outside r s) (λ e. sound-begun (called_of u b) r s)
sound-taken Place.Alone u b r s =
    cases SoundAfter (eqb b cr) (λ e. sound-placed Place.Outside r s) (λ e. sound-stored b r s)
sound-taken Place.Group u b r s =
    cases SoundAfter (eqb b cr) (λ e. sound-placed Place.Outside r s) (λ e. sound-stored b r s)
sound-taken Place.OemAddress u b r s =
    cases Sound (eqb b etx) (λ e. sound-placed Place.Outside r s) (λ e. sound-placed _ r s)
sound-taken (Place.OemSequence w t) u b r s =
    cases Sound (eqb b etx) (λ e. sound-placed Place.Outside r s) (λ e. sound-begun-oem (heard w b) b (xor t b) r s)
sound-taken (Place.OemBody w q t) u b r s =
    cases Sound (eqb b etx) (λ e. sound-placed _ r s) (λ e. sound-stored_for w b _ (sound-placed _ r s))
sound-taken (Place.OemSum w q t) u b r s =
    cases SoundAfter (eqb b t) (λ e. sound-finished w (Framing.Oem q) _ (sound-placed Place.Outside r s))
    (λ e. sound-placed Place.Outside r s)

pub sound-step : (r : Receiver) (u b : ℕ) → Sound r → Sound (byte_received r u b).receiver
sound-step r u b s =
    step-cases SoundAfter r u b (sound-placed Place.Address r s) (sound-placed Place.OemAddress r s)
    (sound-taken r.place u b r s)
