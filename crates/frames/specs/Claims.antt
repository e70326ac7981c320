-- 01, "Frames", and 02, E1, as statements about every receiver, unit number and list of bytes: `frame_claims` promises them.
-- Assumes nothing.
use Rattle.std.specs.Prelude.{ℕ, ◌+◌, ◌-◌, ◌≤◌, List, [], ◌∷◌, ◌++◌, map, Bool, true, false, cond, not, ◌&&◌, ◌≡◌, length, take, drop, replicate, eqb}
use Rattle.checksum.specs.Checksum.{checksum_of, example₁, example₂}
use Rattle.frames.specs.declared.Place.{Place}
use Rattle.frames.specs.declared.Frame.{Frame}
use Rattle.frames.specs.declared.Framing.{Framing}
use Rattle.frames.specs.declared.Heard.{Heard}
use Rattle.frames.specs.declared.Progress.{Progress}
use Rattle.frames.specs.Addresses.{is_unit, unit_byte, pairs, fours, all, is_in, called_of}
use Rattle.parts.specs.Letters.{slash, cr, stx, etx}
use Rattle.frames.specs.Receive.{most_kept, Receiver, Received, receiver_of, heard_with, body_in}
use Rattle.frames.specs.Receive.{fresh_progress, ours, placed, quiet, good, heard, elsewhere, byte_received, past, receive_of}

-- the units 1 to 16, in twos and in fours
abbrev pub units : List ℕ
units = 1 ∷ 2 ∷ 3 ∷ 4 ∷ 5 ∷ 6 ∷ 7 ∷ 8 ∷ 9 ∷ 10 ∷ 11 ∷ 12 ∷ 13 ∷ 14 ∷ 15 ∷ 16 ∷ []

abbrev pub in_twos : List (List ℕ)
in_twos =
    (1 ∷ 2 ∷ []) ∷ (3 ∷ 4 ∷ []) ∷ (5 ∷ 6 ∷ []) ∷ (7 ∷ 8 ∷ [])
    ∷ (9 ∷ 10 ∷ []) ∷ (11 ∷ 12 ∷ []) ∷ (13 ∷ 14 ∷ []) ∷ (15 ∷ 16 ∷ []) ∷ []

abbrev pub in_fours : List (List ℕ)
in_fours = (1 ∷ 2 ∷ 3 ∷ 4 ∷ []) ∷ (5 ∷ 6 ∷ 7 ∷ 8 ∷ []) ∷ (9 ∷ 10 ∷ 11 ∷ 12 ∷ []) ∷ (13 ∷ 14 ∷ 15 ∷ 16 ∷ []) ∷ []

-- all address bytes
unfoldable pub address_bytes : List ℕ
address_bytes = map unit_byte units ++ pairs ++ fours ++ (all ∷ [])

-- the units that a byte calls, alone or as a group
abbrev pub among : (ℕ → Bool) → List ℕ → List ℕ
among test [] = []
among test (u ∷ us) = cond (test u) (u ∷ among test us) (among test us)

unfoldable pub units_called : ℕ → List ℕ
units_called b = among (λ u. ours (called_of u b)) units

pub record AddressClaims : Type 0 where
  -- "Units 1 to 16 are bytes 31 to 40 hex"
  pub own : (u : ℕ) → is_unit u ≡ true → called_of u (unit_byte u) ≡ Frame.Alone
  pub alone : (u b : ℕ) → called_of u b ≡ Frame.Alone → (is_unit u ≡ true) × (b ≡ unit_byte u)
  -- "Pairs are .. (units 1,2 up to 15,16), fours are .., all is `_`"
  pub in_pairs : map units_called pairs ≡ in_twos
  pub in-fours : map units_called fours ≡ in_fours
  pub in_all : units_called all ≡ units
  -- "Other bytes, `0` included, address nobody"
  pub others : (u b : ℕ) → is_in b address_bytes ≡ false → called_of u b ≡ Frame.Nothing
  pub zero-byte : (u : ℕ) → called_of u (unit_byte 0) ≡ Frame.Nothing
  -- nothing calls a record whose number is not 1 to 16
  pub no_unit_lem : (u b : ℕ) → is_unit u ≡ false → called_of u b ≡ Frame.Nothing

-- what stands in a frame before the byte that ends its body: neither `/` nor 02 nor that byte
abbrev pub free : ℕ → List ℕ → Bool
free end [] = true
free end (b ∷ bs) = not (eqb b slash) && not (eqb b stx) && not (eqb b end) && free end bs

-- "A frame is `/`, an address byte, a body, CR"
abbrev pub frame_of : ℕ → List ℕ → List ℕ
frame_of a body = slash ∷ a ∷ (body ++ (cr ∷ []))

-- "02, address, sequence byte, body, 03", and a checksum c behind it, right or wrong
abbrev pub summed_of : ℕ → ℕ → List ℕ → List ℕ
summed_of a q body = stx ∷ a ∷ q ∷ (body ++ (etx ∷ []))

abbrev pub oem_of : ℕ → ℕ → List ℕ → ℕ → List ℕ
oem_of a q body c = stx ∷ a ∷ q ∷ (body ++ (etx ∷ c ∷ []))

-- "then the exclusive-or of all bytes from 02 to 03"
abbrev pub sum_of : ℕ → ℕ → List ℕ → ℕ
sum_of a q body = checksum_of (summed_of a q body)

-- a whole frame that unit u does not hear. Plain: it calls neither the unit nor its groups, or its address place holds CR.
-- OEM, with any checksum: it calls neither, or its sequence byte is outside 30 to 3F; or 03 stands for one of the two bytes
pub data Foreign (u : ℕ) : List ℕ → Type 0 where
  others : (a : ℕ) (body : List ℕ) → called_of u a ≡ Frame.Nothing → free cr (a ∷ body) ≡ true → Foreign u (frame_of a body)
  nobody : Foreign u (slash ∷ cr ∷ [])
  oem-others : (a q : ℕ) (body : List ℕ) (c : ℕ) → heard (called_of u a) q ≡ Frame.Nothing → free etx (a ∷ q ∷ body) ≡ true
      → Foreign u (oem_of a q body c)
  oem-nobody : Foreign u (stx ∷ etx ∷ [])
  oem-dropped : (a : ℕ) → free etx (a ∷ []) ≡ true → Foreign u (stx ∷ a ∷ etx ∷ [])

-- all bytes consumed, nothing completed, the receiver as it was
abbrev pub unmoved : Receiver → List ℕ → Received
unmoved r xs = record { receiver = r; consumed = length xs; frame = Frame.Nothing; framing = Framing.Plain }

-- the body lies in 257 bytes, and no more of them are kept
pub record Sound (r : Receiver) : Type 0 where
  pub full : length r.body ≡ most_kept
  pub within : r.length ≤ most_kept

-- a whole frame received: what it completes, and the body that it leaves
pub record Whole (kind : Frame) (framing : Framing) (bytes body : List ℕ) (f : Received) : Type 0 where
  pub completes : f.frame ≡ kind
  pub framed : f.framing ≡ framing
  pub consumes : f.consumed ≡ length bytes
  pub leaves : f.receiver.place ≡ Place.Outside
  pub keeps : body_in f.receiver ≡ take most_kept body

-- a frame skipped: nothing is completed, the receiver stands behind it and outside a frame
pub record Skipped (bytes : List ℕ) (f : Received) : Type 0 where
  pub nothing : f.frame ≡ Frame.Nothing
  pub consumes : f.consumed ≡ length bytes
  pub leaves : f.receiver.place ≡ Place.Outside

-- WHAT IS LEFT OF EARLIER FRAMES: in the body of a frame for this unit or its groups, or behind it, the bytes of the body count
abbrev pub in_body : Place → Bool
in_body Place.Outside = false
in_body Place.Address = false
in_body Place.Alone = true
in_body Place.Group = true
in_body Place.OemAddress = false
in_body (Place.OemSequence w s) = false
in_body (Place.OemBody w q s) = ours w
in_body (Place.OemSum w q s) = ours w

pub record SameBody (r t : Receiver) : Type 0 where
  pub long : r.length ≡ t.length
  pub bytes : take r.length r.body ≡ take r.length t.body

-- elsewhere the place alone does: two such receivers go on alike
pub record Alike (r t : Receiver) : Type 0 where
  pub place : r.place ≡ t.place
  pub body : in_body r.place ≡ true → SameBody r t

-- two calls that tell the same, and go on alike
pub record Same (f g : Received) : Type 0 where
  pub alike : Alike f.receiver g.receiver
  pub count : f.consumed ≡ g.consumed
  pub frame : f.frame ≡ g.frame
  pub framing : f.framing ≡ g.framing
  pub body : ours f.frame ≡ true → SameBody f.receiver g.receiver

-- the byte that completes a frame: the CR of a plain body, or the right checksum
pub data Ends : Place → ℕ → Frame → Framing → Type 0 where
  plain-alone : Ends Place.Alone cr Frame.Alone Framing.Plain
  plain-group : Ends Place.Group cr Frame.Group Framing.Plain
  oem : (w : Frame) (q s : ℕ) → ours w ≡ true → Ends (Place.OemSum w q s) s w (Framing.Oem q)

-- the byte at which a feed call ended: the bytes before it complete nothing, and it ends the frame that they have begun
pub record FirstEnd (r : Receiver) (u : ℕ) (xs : List ℕ) (f : Received) : Type 0 where
  pub before : List ℕ
  pub last : ℕ
  pub after : List ℕ
  pub split : xs ≡ before ++ (last ∷ after)
  pub nothing : (receive_of r u before).frame ≡ Frame.Nothing
  pub ends : Ends (receive_of r u before).receiver.place last f.frame f.framing
  pub count : f.consumed ≡ length before + 1

-- what holds of every receiver r and unit number u
pub record ReceiveClaims (r : Receiver) (u : ℕ) : Type 0 where
  -- "Bytes outside a frame, LF included, are skipped"
  pub skipped : (b : ℕ) → r.place ≡ Place.Outside → (b ≡ slash → ⊥) → (b ≡ stx → ⊥) → byte_received r u b ≡ quiet r
  -- "02 or `/` begins a new frame everywhere but in the checksum place"
  pub begins-plain : elsewhere r.place ≡ true → byte_received r u slash ≡ quiet (placed Place.Address r)
  pub begins-oem : elsewhere r.place ≡ true → byte_received r u stx ≡ quiet (placed Place.OemAddress r)
  -- there, and wherever else r stands, just this frame is received
  pub whole : (a : ℕ) (body : List ℕ) → Sound r → elsewhere r.place ≡ true → ours (called_of u a) ≡ true
      → free cr body ≡ true
      → Whole (called_of u a) Framing.Plain (frame_of a body) body (receive_of r u (frame_of a body))
  pub whole-oem : (a q : ℕ) (body : List ℕ) → Sound r → elsewhere r.place ≡ true → ours (called_of u a) ≡ true
      → good q ≡ true → free etx body ≡ true
      → Whole (called_of u a) (Framing.Oem q) (oem_of a q body (sum_of a q body)) body
      (receive_of r u (oem_of a q body (sum_of a q body)))
  -- "a wrong checksum .. makes the feed skip the frame", whomever it calls
  pub wrong-sum : (a q : ℕ) (body : List ℕ) (c : ℕ) → elsewhere r.place ≡ true → free etx (a ∷ q ∷ body) ≡ true
      → (c ≡ sum_of a q body → ⊥)
      → Skipped (oem_of a q body c) (receive_of r u (oem_of a q body c))
  -- so that, between two frames, it is as if it had not come: what it left in the body is never told
  pub as_if_not_come : (a q : ℕ) (body : List ℕ) (c : ℕ) (ys : List ℕ) → Sound r → r.place ≡ Place.Outside
      → free etx (a ∷ q ∷ body) ≡ true → (c ≡ sum_of a q body → ⊥)
      → Same (receive_of r u (oem_of a q body c ++ ys)) (past (length (oem_of a q body c)) (receive_of r u ys))
  pub stale : (t : Receiver) (xs : List ℕ) → Sound r → Sound t → Alike r t → Same (receive_of r u xs) (receive_of t u xs)
  -- a whole frame that it does not hear, between two frames, is as if it had not come
  pub foreign : (xs : List ℕ) → r.place ≡ Place.Outside → Foreign u xs → receive_of r u xs ≡ unmoved r xs
  pub between : (xs ys : List ℕ) → r.place ≡ Place.Outside → Foreign u xs
      → receive_of r u (xs ++ ys) ≡ past (length xs) (receive_of r u ys)
  -- cutting: bytes that complete nothing may come in a call of their own
  pub cut : (xs ys : List ℕ) → (receive_of r u xs).frame ≡ Frame.Nothing
      → receive_of r u (xs ++ ys) ≡ past (length xs) (receive_of (receive_of r u xs).receiver u ys)
  -- "consumes up to and with the CR", or the checksum, "of the first frame for this unit or its groups": the rest is not looked at
  pub rest : (xs ys : List ℕ) → ours (receive_of r u xs).frame ≡ true → receive_of r u (xs ++ ys) ≡ receive_of r u xs
  pub first : (xs : List ℕ) → ours (receive_of r u xs).frame ≡ true → FirstEnd r u xs (receive_of r u xs)
  -- after it the receiver stands outside a frame
  pub outside : (xs : List ℕ) → ours (receive_of r u xs).frame ≡ true → (receive_of r u xs).receiver.place ≡ Place.Outside
  -- where nothing was completed no framing is told
  pub untold : (xs : List ℕ) → (receive_of r u xs).frame ≡ Frame.Nothing → (receive_of r u xs).framing ≡ Framing.Plain
  -- "else all it was given"
  pub all-given : (xs : List ℕ) → (receive_of r u xs).frame ≡ Frame.Nothing → (receive_of r u xs).consumed ≡ length xs
  pub at_most : (xs : List ℕ) → (receive_of r u xs).consumed ≤ length xs
  -- a sound record stays sound
  pub sound : (xs : List ℕ) → Sound r → Sound (receive_of r u xs).receiver

-- 004's two examples, with their checksums, as unit 1 receives them from a fresh receiver
abbrev pub zeros : ℕ → List ℕ
zeros n = replicate n 0

abbrev pub received₁ : List ℕ → Received
received₁ bytes = receive_of (receiver_of fresh_progress (zeros most_kept)) 1 bytes

-- the body stands between the three bytes before it and the 03
abbrev pub between03 : List ℕ → List ℕ
between03 bytes = take (length bytes - 4) (drop 3 bytes)

pub record OemExample (bytes : List ℕ) (f : Received) : Type 0 where
  pub alone : f.frame ≡ Frame.Alone
  pub framed : f.framing ≡ Framing.Oem 0x31
  pub count : f.consumed ≡ length bytes + 1
  pub body_is : body_in f.receiver ≡ between03 bytes

-- all of it
pub record FrameClaims : Type 0 where
  pub addresses : AddressClaims
  pub receiving : (r : Receiver) (u : ℕ) → ReceiveClaims r u
  pub sound-fresh : (body : List ℕ) → length body ≡ most_kept → Sound (receiver_of fresh_progress body)
  -- the promise of `receive` admits one answer
  pub one_answer : (p : Progress) (body : List ℕ) (u : ℕ) (bytes : List ℕ) {h g : Heard} {x y : List ℕ}
      → heard_with h x ≡ receive_of (receiver_of p body) u bytes → heard_with g y ≡ receive_of (receiver_of p body) u bytes
      → (h ≡ g) × (x ≡ y)
  pub first-example : OemExample example₁ (received₁ (example₁ ++ (0x23 ∷ [])))
  pub second-example : OemExample example₂ (received₁ (example₂ ++ (0x43 ∷ [])))
