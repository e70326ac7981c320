-- Laws of a packet of either framing that is written: how long it is, that head, data and tail in turn make it, and the promise met each way.
-- Assumes nothing.
use Rattle.std.proofs.Common.{Option, Some, None, unwrap_or}
use Prim.Native.Nat.{ℕ, ◌+◌, ◌≤◌, ◌<◌, zero-le}
use mathlib.Core.Path.{◌≡◌, refl, sym, ap, ◌∙◌}
use mathlib.Core.List.{List, [], ◌∷◌}
use mathlib.Core.Bool.{Bool, true, false}
use native.Mathlib.Omega.{arith}
use lib.ListN.{length, replicate, length-append}
use lib.Dec.{leb, ltb}
use borrow.Author.Tests.{le-leb, lt-leb, ltb-true, ltb-false}
use Rattle.parts.specs.Parts.{put, PutIs}
use Rattle.parts.proofs.Laws.{put-more, put_in_room, length-put_in, put-zeros}
use Rattle.digits.specs.Operand.{widest}
use Rattle.digits.specs.Decimal.{decimal, WrittenIs}
use Rattle.digits.proofs.Writing.{length_most, is_written, is_refused}
use Rattle.answers.specs.Packet.{host_address, packet_around, data_at, most_data, most_digits, number_data, PacketAs}
use Rattle.answers.specs.declared.Data.{Data}

pub length-frame : (start : ℕ) (back : List ℕ) (status : ℕ) (bytes : List ℕ)
    → length (packet_around start back status bytes) ≡ data_at + length bytes + length back
length-frame start back status bytes = simp length-append (omega arith)

-- the test of the data's length
pub many : {r : Bool} {n : ℕ} → r ≡ ltb most_data n → r ≡ true → most_data < n
many e h = ltb-true _ _ (sym e ∙ h)

pub few : {r : Bool} {n : ℕ} → r ≡ ltb most_data n → r ≡ false → n ≤ most_data
few e h = ltb-false _ _ (sym e ∙ h)

-- ---- the promise, met each way

-- where the data is not too long, it is a writer's promise
pub is_packet_lem : {make : ℕ → List ℕ → List ℕ} {buffer : List ℕ} {status : ℕ} {bytes : List ℕ} {answer : Option ℕ} {after : List ℕ} → length bytes ≤ most_data
    → WrittenIs buffer 0 (make status bytes) answer after → PacketAs make buffer status bytes answer after
is_packet_lem {bytes = bytes} h w =
    let e : leb (length bytes) most_data ≡ true = le-leb (length bytes) most_data h in
    record { answers = w.answers ∙ rw e; leaves = w.leaves ∙ rw e }

pub too_long : (make : ℕ → List ℕ → List ℕ) (buffer : List ℕ) (status : ℕ) (bytes : List ℕ) → most_data < length bytes
    → PacketAs make buffer status bytes None buffer
too_long make buffer status bytes h =
    let e : leb (length bytes) most_data ≡ false = lt-leb (length bytes) most_data h in
    record { answers = rw e; leaves = rw e }

-- the same packet, said in another way
pub packet_as_lem : {make other : ℕ → List ℕ → List ℕ} {buffer : List ℕ} {status : ℕ} {bytes : List ℕ} {answer : Option ℕ} {after : List ℕ}
    → other status bytes ≡ make status bytes → PacketAs other buffer status bytes answer after → PacketAs make buffer status bytes answer after
packet_as_lem e p = record { answers = p.answers ∙ rw e; leaves = p.leaves ∙ rw e }

-- head, data and tail, written in turn, are the whole
put_whole : (xs : List ℕ) (start status : ℕ) (bytes back : List ℕ)
    → put (put (put xs 0 (start ∷ host_address ∷ status ∷ [])) 3 bytes) (3 + length bytes) back ≡ put xs 0 (packet_around start back status bytes)
put_whole xs start status bytes back =
    ap (λ (l : List ℕ). put l (3 + length bytes) back) (put-more xs 0 (start ∷ host_address ∷ status ∷ []) zero-le 3 bytes refl)
    ∙ put-more xs 0 (start ∷ host_address ∷ status ∷ bytes) zero-le (3 + length bytes) back (omega arith)

module _ {start : ℕ} {back : List ℕ} {buffer : List ℕ} {status : ℕ} {bytes : List ℕ} (h : length bytes ≤ most_data) where
  pub no_room : length buffer < data_at + length bytes + length back → PacketAs (packet_around start back) buffer status bytes None buffer
  no_room g =
      let long = length-frame start back status bytes in
      is_packet_lem {make = packet_around start back} h (is_refused buffer 0 (packet_around start back status bytes) (omega arith))

  -- the same, told by `put_at`
  pub written : {x y z : List ℕ} {p q r : Bool} → data_at + length bytes + length back ≤ length buffer
      → PutIs buffer 0 (start ∷ host_address ∷ status ∷ []) p x → PutIs x 3 bytes q y → PutIs y (3 + length bytes) back r z
      → PacketAs (packet_around start back) buffer status bytes (Some (data_at + length bytes + length back)) z
  written {x} {y} {z} room a b c =
      let head : List ℕ = start ∷ host_address ∷ status ∷ [] in
      let long = length-frame start back status bytes in
      let x_long : length x ≡ length buffer = ap length a.leaves ∙ length-put_in buffer 0 head in
      let y_long : length y ≡ length buffer = ap length b.leaves ∙ length-put_in x 3 bytes ∙ x_long in
      let x_is : x ≡ put buffer 0 head = a.leaves ∙ put_in_room buffer 0 head (omega arith) in
      let y_is : y ≡ put x 3 bytes = b.leaves ∙ put_in_room x 3 bytes (omega arith) in
      let z_is : z ≡ put y (3 + length bytes) back = c.leaves ∙ put_in_room y (3 + length bytes) back (omega arith) in
      let whole : z ≡ put buffer 0 (packet_around start back status bytes) = z_is ∙ rw (y_is, x_is) (put_whole buffer start status bytes back) in
      is_packet_lem {make = packet_around start back} h (is_written buffer 0 (packet_around start back status bytes) (omega arith) (omega arith) whole)

-- no second answer meets the promise
pub packet_once : {make : ℕ → List ℕ → List ℕ} {buffer : List ℕ} {status : ℕ} {bytes : List ℕ} {r s : Option ℕ} {x y : List ℕ}
    → PacketAs make buffer status bytes r x → PacketAs make buffer status bytes s y → (r ≡ s) × (x ≡ y)
packet_once p q = (p.answers ∙ sym q.answers, p.leaves ∙ sym q.leaves)

-- ---- a number as data

pub number-most : (n : ℕ) → n ≤ widest → length (decimal n) ≤ most_digits
number-most n h = length_most most_digits n (omega arith) (omega arith)

-- ten zeros with a number written at their front
module _ (n : ℕ) (h : n ≤ widest) {answer : Option ℕ} {after : List ℕ} (w : WrittenIs (replicate most_digits 0) 0 (decimal n) answer after) where
  number-told : answer ≡ Some (length (decimal n))
  number-told =
      let most = number-most n h in
      let zero : 0 + length (decimal n) ≡ length (decimal n) = omega arith in
      let e : leb (0 + length (decimal n)) most_digits ≡ true = le-leb (0 + length (decimal n)) most_digits (omega arith) in
      w.answers ∙ rw (e, zero)

  -- so what is told has the room
  pub number_is : {m : ℕ} → m ≡ unwrap_or answer 0 → ◌≡◌ {A = Data} (record { bytes = after; length = m }) (number_data n)
  unfolding number_data
  number_is {m} e =
      let long : m ≡ length (decimal n) = e ∙ rw number-told in
      rw (long, w.leaves, put-zeros most_digits (decimal n) (number-most n h))
