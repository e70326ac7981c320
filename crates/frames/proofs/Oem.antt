-- An OEM frame, from any receiver that is not in a checksum place: 02, address and sequence byte open it, the body goes on top of
-- the sum, and the byte in the checksum place decides.
-- Assumes nothing.
use Prim.Native.Nat.{ℕ, ◌+◌}
use native.Mathlib.Omega.{arith}
use mathlib.Core.Path.{◌≡◌, refl, ap, sym, ◌∙◌}
use mathlib.Core.Bool.{true, cond}
use mathlib.Core.List.{List, [], ◌∷◌, ◌++◌}
use lib.ListN.{length, length-append}
use lib.Dec.{eqb}
use Rattle.checksum.specs.Checksum.{xor, sum_from, checksum_of}
use Rattle.checksum.proofs.Sums.{sum-append}
use Rattle.frames.specs.declared.Place.{Place}
use Rattle.frames.specs.declared.Frame.{Frame}
use Rattle.frames.specs.declared.Framing.{Framing}
use Rattle.frames.specs.Addresses.{called_of}
use Rattle.parts.specs.Letters.{stx, etx}
use Rattle.frames.specs.Receive.{Receiver, Received, placed, quiet, finished, stored_for, heard}
use Rattle.frames.specs.Receive.{begun_oem, elsewhere, past, ended_here, onward, Stepped, receive_of}
use Rattle.frames.specs.Claims.{free, oem_of, sum_of}
use Rattle.parts.proofs.Laws.{cases}
use Rattle.frames.proofs.Steps.{free-cons, begins-oem, step-oem_address, step-oem_sequence, step-oem-body, step-oem-end}
use Rattle.frames.proofs.Steps.{step-oem-sum}
use Rattle.frames.proofs.Stream.{past-zero, past-past, past_more, receive_quiet}

-- body bytes one after the other, of a frame for w
abbrev pub stored_all_for : Frame → List ℕ → Receiver → Receiver
stored_all_for w [] r = r
stored_all_for w (b ∷ bs) r = stored_all_for w bs (stored_for w b r)

-- 02, the address, the sequence byte
opened : (r : Receiver) (u a q : ℕ) (ys : List ℕ) → elsewhere r.place ≡ true → free etx (a ∷ q ∷ []) ≡ true
    → receive_of r u (stx ∷ a ∷ q ∷ ys)
    ≡ past 3 (receive_of (begun_oem (heard (called_of u a) q) q (xor (xor stx a) q) r) u ys)
opened r u a q ys e f =
    let (s, t, x, g) = free-cons etx a (q ∷ []) f in
    let (s₁, t₁, x₁, h) = free-cons etx q [] g in
    receive_quiet r u stx (a ∷ q ∷ ys) (begins-oem r u e)
    ∙ ap (past 1) (receive_quiet (placed Place.OemAddress r) u a (q ∷ ys) (step-oem_address r u a s t x))
    ∙ ap (λ (y : Received). past 1 (past 1 y))
    (receive_quiet (placed (Place.OemSequence (called_of u a) (xor stx a)) r) u q ys
    (step-oem_sequence r u (called_of u a) (xor stx a) q s₁ t₁ x₁))
    ∙ ap (past 1) (past-past 1 1 _)
    ∙ past-past 1 2 _

-- the body
body-goes : (r : Receiver) (u : ℕ) (w : Frame) (q s : ℕ) (bs ys : List ℕ) → free etx bs ≡ true
    → receive_of (placed (Place.OemBody w q s) r) u (bs ++ ys)
    ≡ past (length bs) (receive_of (placed (Place.OemBody w q (sum_from s bs)) (stored_all_for w bs r)) u ys)
unfolding sum_from
body-goes r u w q s [] ys f = sym (past-zero _)
body-goes r u w q s (b ∷ bs) ys f =
    let (a, t, x, g) = free-cons etx b bs f in
    receive_quiet (placed (Place.OemBody w q s) r) u b (bs ++ ys) (step-oem-body r u w q s b a t x)
    ∙ rw (body-goes (stored_for w b r) u w q (xor s b) bs ys g) (past_more (length bs) _)

-- the sum over 02 to 03 is the one that has gone along
sum_is : (a q : ℕ) (body : List ℕ) → sum_of a q body ≡ xor (sum_from (xor (xor stx a) q) body) etx
unfolding checksum_of sum_from xor
sum_is a q body = sum-append (xor (xor stx a) q) body (etx ∷ [])

-- the receiver in front of the checksum
abbrev pub before-sum : Receiver → ℕ → ℕ → ℕ → List ℕ → Receiver
before-sum r u a q body =
    placed (Place.OemSum (heard (called_of u a) q) q (sum_of a q body))
    (stored_all_for (heard (called_of u a) q) body (begun_oem (heard (called_of u a) q) q (xor (xor stx a) q) r))

free-front : (a q : ℕ) (body : List ℕ) → free etx (a ∷ q ∷ body) ≡ true
    → (free etx (a ∷ q ∷ []) ≡ true) × (free etx body ≡ true)
free-front a q body f =
    let (s, t, x, g) = free-cons etx a (q ∷ body) f in
    let (s₁, t₁, x₁, h) = free-cons etx q body g in
    (simp (s, t, x, s₁, t₁, x₁), h)

pub oem_is : (r : Receiver) (u a q : ℕ) (body : List ℕ) (c : ℕ) → elsewhere r.place ≡ true
    → free etx (a ∷ q ∷ body) ≡ true
    → receive_of r u (oem_of a q body c) ≡ past (length body + 4) (receive_of (before-sum r u a q body) u (c ∷ []))
oem_is r u a q body c e f =
    let w = heard (called_of u a) q in
    let s = xor (xor stx a) q in
    let t = stored_all_for w body (begun_oem w q s r) in
    let k : 3 + (length body + 1) ≡ length body + 4 = omega arith in
    opened r u a q (body ++ (etx ∷ c ∷ [])) e (free-front a q body f).0
    ∙ ap (past 3) (body-goes (begun_oem w q s r) u w q s body (etx ∷ c ∷ []) (free-front a q body f).1)
    ∙ ap (λ (y : Received). past 3 (past (length body) y))
    (receive_quiet (placed (Place.OemBody w q (sum_from s body)) t) u etx (c ∷ []) (step-oem-end t u w q (sum_from s body)))
    ∙ ap (past 3) (past-past (length body) 1 _)
    ∙ past-past 3 (length body + 1) _
    ∙ rw (sum_is a q body, k)

-- the checksum, the last byte of a call
abbrev Last : Stepped → Type 0
Last t = onward t (record { receiver = t.receiver; consumed = 0; frame = Frame.Nothing; framing = Framing.Plain }) ≡ ended_here t

last-finished : (w : Frame) (g : Framing) (r : Receiver) → Last (finished w g r)
last-finished Frame.Nothing g r = refl
last-finished Frame.Alone g r = refl
last-finished Frame.Group g r = refl

pub sum-ends : (r : Receiver) (u : ℕ) (w : Frame) (q s c : ℕ)
    → receive_of (placed (Place.OemSum w q s) r) u (c ∷ [])
    ≡ ended_here (cond (eqb c s) (finished w (Framing.Oem q) (placed Place.Outside r)) (quiet (placed Place.Outside r)))
unfolding receive_of
sum-ends r u w q s c =
    rw (step-oem-sum r u w q s c)
    (cases Last (eqb c s) (λ e. last-finished w (Framing.Oem q) (placed Place.Outside r)) (λ e. refl))

pub length-oem : (a q : ℕ) (body : List ℕ) (c : ℕ) → length (oem_of a q body c) ≡ length body + 4 + 1
length-oem a q body c = omega (arith, length-append body (etx ∷ c ∷ []))
