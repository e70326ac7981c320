-- A whole frame that the unit does not hear, from a receiver outside a frame. Plain: the address byte takes the receiver back
-- outside, and there all is skipped. OEM: nothing but the place is kept on the way, and any checksum takes it back outside.
-- Assumes nothing.
use Prim.Native.Nat.{ℕ, ◌+◌}
use native.Mathlib.Omega.{arith}
use mathlib.Core.Path.{◌≡◌, refl, ap, sym, ◌∙◌}
use mathlib.Core.Bool.{true, false}
use mathlib.Core.List.{List, [], ◌∷◌, ◌++◌}
use lib.ListN.{length, length-append}
use lib.Dec.{eqb}
use Rattle.checksum.specs.Checksum.{xor}
use Rattle.frames.specs.declared.Place.{Place}
use Rattle.frames.specs.declared.Frame.{Frame}
use Rattle.frames.specs.declared.Framing.{Framing}
use Rattle.frames.specs.Addresses.{called_of}
use Rattle.parts.specs.Letters.{slash, cr, stx, etx}
use Rattle.frames.specs.Receive.{Receiver, Received, placed, Stepped, quiet, heard, elsewhere, byte_received}
use Rattle.frames.specs.Receive.{past, ended_here, receive_of}
use Rattle.frames.specs.Claims.{free, sum_of, Foreign, unmoved}
use Rattle.parts.proofs.Laws.{cases}
use Rattle.frames.proofs.Steps.{free-cons, begins-plain, begins-oem, step_address, step-outside, step-oem_address}
use Rattle.frames.proofs.Stream.{past-zero, past_more, receive_quiet, cut}
use Rattle.frames.proofs.Oem.{stored_all_for, before-sum, oem_is, sum-ends, length-oem}

-- outside a frame is no checksum place
outside-elsewhere : (r : Receiver) → r.place ≡ Place.Outside → elsewhere r.place ≡ true
outside-elsewhere r o = rw o

-- back outside, the receiver is what it was
back : (r : Receiver) → r.place ≡ Place.Outside → placed Place.Outside r ≡ r
back r o = ap (λ (q : Place). placed q r) (sym o)

skip : (r : Receiver) (u : ℕ) (xs ys : List ℕ) → r.place ≡ Place.Outside → free cr xs ≡ true
    → receive_of r u (xs ++ ys) ≡ past (length xs) (receive_of r u ys)
skip r u [] ys o f = sym (past-zero _)
skip r u (b ∷ xs) ys o f =
    let (s, t, c, g) = free-cons cr b xs f in
    receive_quiet r u b (xs ++ ys) (step-outside r u b o s t) ∙ rw (skip r u xs ys o g) (past_more (length xs) _)

-- after `/`, an address byte for others, or a CR, takes the receiver back outside
leaves : (r : Receiver) (u a : ℕ) → r.place ≡ Place.Outside → called_of u a ≡ Frame.Nothing → eqb a slash ≡ false
    → eqb a stx ≡ false → eqb a cr ≡ false
    → byte_received (placed Place.Address r) u a ≡ quiet r
leaves r u a o n s t c = step_address r u a s t c ∙ rw n (ap quiet (back r o))

returns : (r : Receiver) (u : ℕ) → r.place ≡ Place.Outside → byte_received (placed Place.Address r) u cr ≡ quiet r
unfolding byte_received
returns r u o = ap quiet (back r o)

-- after 02, or 02 and an address, so does 03
drops : (r : Receiver) (u : ℕ) → r.place ≡ Place.Outside → byte_received (placed Place.OemAddress r) u etx ≡ quiet r
unfolding byte_received
drops r u o = ap quiet (back r o)

drops_next : (r : Receiver) (u : ℕ) (w : Frame) (s : ℕ) → r.place ≡ Place.Outside
    → byte_received (placed (Place.OemSequence w s) r) u etx ≡ quiet r
unfolding byte_received
drops_next r u w s o = ap quiet (back r o)

-- of a body for others nothing is kept
none-stored : (bs : List ℕ) (r : Receiver) → stored_all_for Frame.Nothing bs r ≡ r
none-stored [] r = refl
none-stored (b ∷ bs) r = none-stored bs r

unheard : (r : Receiver) (u a q : ℕ) (body : List ℕ) → heard (called_of u a) q ≡ Frame.Nothing
    → before-sum r u a q body ≡ placed (Place.OemSum Frame.Nothing q (sum_of a q body)) r
unheard r u a q body n = rw (n, none-stored)

-- whatever the checksum, it takes the receiver outside
unsummed : (r : Receiver) (u q s c : ℕ) → r.place ≡ Place.Outside
    → receive_of (placed (Place.OemSum Frame.Nothing q s) r) u (c ∷ []) ≡ ended_here (quiet r)
unsummed r u q s c o =
    sum-ends r u Frame.Nothing q s c ∙ cases (λ (t : Stepped). ended_here t ≡ ended_here (quiet r)) (eqb c s) (λ e. rw (back r o)) (λ e. rw (back r o))

pub foreign : (r : Receiver) (u : ℕ) (xs : List ℕ) → r.place ≡ Place.Outside → Foreign u xs
    → receive_of r u xs ≡ unmoved r xs
unfolding receive_of
foreign r u xs o (Foreign.others a body n f) =
    let (s, t, c, g) = free-cons cr a body f in
    receive_quiet r u slash (a ∷ (body ++ (cr ∷ []))) (begins-plain r u (outside-elsewhere r o))
    ∙ ap (past 1) (receive_quiet (placed Place.Address r) u a (body ++ (cr ∷ [])) (leaves r u a o n s t c))
    ∙ ap (λ (y : Received). past 1 (past 1 y)) (skip r u body (cr ∷ []) o g)
    ∙ ap (λ (y : Received). past 1 (past 1 (past (length body) y))) (receive_quiet r u cr [] (step-outside r u cr o refl refl))
    ∙ ap (λ (k : ℕ). record { receiver = r; consumed = k; frame = Frame.Nothing; framing = Framing.Plain })
    (omega (arith, length-append body (cr ∷ [])))
foreign r u xs o Foreign.nobody =
    receive_quiet r u slash (cr ∷ []) (begins-plain r u (outside-elsewhere r o))
    ∙ ap (past 1) (receive_quiet (placed Place.Address r) u cr [] (returns r u o))
foreign r u xs o (Foreign.oem-others a q body c n f) =
    oem_is r u a q body c (outside-elsewhere r o) f
    ∙ ap (λ (t : Receiver). past (length body + 4) (receive_of t u (c ∷ []))) (unheard r u a q body n)
    ∙ ap (past (length body + 4)) (unsummed r u q (sum_of a q body) c o)
    ∙ ap (λ (k : ℕ). record { receiver = r; consumed = k; frame = Frame.Nothing; framing = Framing.Plain })
    (sym (length-oem a q body c))
foreign r u xs o Foreign.oem-nobody =
    receive_quiet r u stx (etx ∷ []) (begins-oem r u (outside-elsewhere r o))
    ∙ ap (past 1) (receive_quiet (placed Place.OemAddress r) u etx [] (drops r u o))
foreign r u xs o (Foreign.oem-dropped a f) =
    let (s, t, c, g) = free-cons etx a [] f in
    receive_quiet r u stx (a ∷ etx ∷ []) (begins-oem r u (outside-elsewhere r o))
    ∙ ap (past 1) (receive_quiet (placed Place.OemAddress r) u a (etx ∷ []) (step-oem_address r u a s t c))
    ∙ ap (λ (y : Received). past 1 (past 1 y))
    (receive_quiet (placed (Place.OemSequence (called_of u a) (xor stx a)) r) u etx []
    (drops_next r u (called_of u a) (xor stx a) o))

pub between : (r : Receiver) (u : ℕ) (xs ys : List ℕ) → r.place ≡ Place.Outside → Foreign u xs
    → receive_of r u (xs ++ ys) ≡ past (length xs) (receive_of r u ys)
between r u xs ys o f =
    let e : receive_of r u xs ≡ unmoved r xs = foreign r u xs o f in
    cut r u xs ys (ap (λ (t : Received). t.frame) e)
    ∙ ap (λ (t : Received). past (length xs) (receive_of t.receiver u ys)) e
