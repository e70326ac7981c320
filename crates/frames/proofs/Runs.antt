-- Bytes of a plain body taken one after the other: those that stay in it, and the one that leaves it.
-- Assumes nothing.
use Prim.Native.Nat.{ℕ, ◌+◌, ◌<◌, ◌≤◌}
use mathlib.Core.Path.{◌≡◌, refl, sym, ◌∙◌}
use mathlib.Core.Bool.{Bool, true, false, ◌||◌, true≢false}
use mathlib.Core.List.{List}
use lib.ListN.{set}
use lib.Dec.{eqb}
use borrow.Author.Tests.{lt-ltb, le-ltb}
use Rattle.frames.specs.declared.Place.{Place}
use Rattle.frames.specs.declared.Frame.{Frame}
use Rattle.parts.specs.Letters.{slash, cr, stx}
use Rattle.frames.specs.Receive.{Stepped, receiver_at, most_kept, ours, quiet, stored, byte_received}
use Rattle.frames.specs.Pieces.{completed, leaves_body, in_plain, is_outside}
use Rattle.frames.proofs.Steps.{step-plain, step-inside}

none_of : (a b c : Bool) → a || (b || c) ≡ false → (a ≡ false) × (b ≡ false) × (c ≡ false)
none_of true b c h = absurd (true≢false h)
none_of false true c h = absurd (true≢false h)
none_of false false c h = (refl, refl, h)

first_of : (a b c : Bool) → b ≡ false → c ≡ false → a || (b || c) ≡ true → a ≡ true
first_of true b c y z h = refl
first_of false b c y z h = absurd (true≢false (sym h ∙ rw (y, z)))

-- a byte that leaves a body and begins no frame is the CR
pub leaves-cr : (b : ℕ) → eqb b slash ≡ false → eqb b stx ≡ false → leaves_body b ≡ true → eqb b cr ≡ true
leaves-cr b s t h = first_of (eqb b cr) (eqb b stx) (eqb b slash) t s h

stays : (p : Place) (n : ℕ) (body : List ℕ) (u b : ℕ) → ours (completed p) ≡ true → leaves_body b ≡ false
    → byte_received (receiver_at p n body) u b ≡ quiet (stored b (receiver_at p n body))
stays p n body u b i h =
    let e = none_of (eqb b cr) (eqb b stx) (eqb b slash) h in
    step-inside (receiver_at p n body) u b i e.2 e.1 e.0

-- one that stays is stored where there is room
pub stays_kept : (p : Place) (n : ℕ) (body : List ℕ) (u b : ℕ) → ours (completed p) ≡ true → leaves_body b ≡ false
    → n < most_kept
    → quiet (receiver_at p (n + 1) (set body n b)) ≡ byte_received (receiver_at p n body) u b
unfolding stored
stays_kept p n body u b i h k = sym (stays p n body u b i h ∙ rw (lt-ltb n most_kept k))

pub stays-full : (p : Place) (n : ℕ) (body : List ℕ) (u b : ℕ) → ours (completed p) ≡ true → leaves_body b ≡ false
    → most_kept ≤ n
    → quiet (receiver_at p n body) ≡ byte_received (receiver_at p n body) u b
unfolding stored
stays-full p n body u b i h k = sym (stays p n body u b i h ∙ rw (le-ltb n most_kept k))

-- one that leaves it
pub leaves_by : {s : Stepped} {w : Frame} (p : Place) (n : ℕ) (body : List ℕ) (u b : ℕ) → ours (completed p) ≡ true
    → w ≡ completed p → s ≡ in_plain w b (receiver_at p n body)
    → s ≡ byte_received (receiver_at p n body) u b
leaves_by p n body u b i c e = e ∙ rw c (sym (step-plain (receiver_at p n body) u b i))

pub only-outside : (p : Place) → is_outside p ≡ true → p ≡ Place.Outside
only-outside Place.Outside e = refl
only-outside Place.Address e = absurd (true≢false (sym e))
only-outside Place.Alone e = absurd (true≢false (sym e))
only-outside Place.Group e = absurd (true≢false (sym e))
only-outside Place.OemAddress e = absurd (true≢false (sym e))
only-outside (Place.OemSequence w s) e = absurd (true≢false (sym e))
only-outside (Place.OemBody w q s) e = absurd (true≢false (sym e))
only-outside (Place.OemSum w q s) e = absurd (true≢false (sym e))
