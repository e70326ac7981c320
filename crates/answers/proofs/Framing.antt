-- Laws of a packet of either framing that is read: what its frame, its status and its data are, from the tests of single bytes and to them.
-- Assumes nothing.
use Prim.Native.Nat.{ℕ, suc, ◌+◌, ◌-◌, ◌≤◌, ◌<◌}
use mathlib.Core.Path.{◌≡◌, refl, sym, ap, ◌∙◌}
use mathlib.Core.List.{List, [], ◌∷◌, ◌++◌}
use mathlib.Core.Bool.{Bool, true, false, ◌&&◌, and-false}
use native.Mathlib.Omega.{arith}
use native.Mathlib.Numerals.{add-one}
use lib.ListN.{length, get_or, take, drop, length-take, length-drop, take-append-drop, drop_of_length-le}
use lib.Seq.{drop-cons, drop-drop, drop-length, get_or-append-add}
use borrow.Author.Tests.{le-leb, lt-leb}
use Rattle.parts.specs.Letters.{stx, etx, cr, lf, slash}
use Rattle.parts.specs.Parts.{part, same}
use Rattle.parts.proofs.Laws.{same_is, same_self}
use Rattle.answers.specs.Packet.{host_address, packet_around, tail, packet, data_at, around_data, most_data}
use Rattle.answers.specs.Reading.{status_in, data_in, framed_by, framed, one_by, inside_by}
use Rattle.answers.specs.Room.{Roomy}
use Rattle.answers.specs.Reading.{printable, all_printable, good_data, good_status}
use Rattle.answers.specs.Oem.{oem_tail, oem_packet, around_oem}
use Rattle.std.proofs.Common.{Some, None}
use Rattle.answers.proofs.Writing.{length-frame}

-- a test that cannot be met fails
pub fails : (b : Bool) → (b ≡ true → ⊥) → false ≡ b
fails true f = absurd (f refl)
fails false f = refl

-- ---- the frame

-- three bytes from a place on
three : (s : List ℕ) (k : ℕ) → k + 3 ≤ length s → drop k s ≡ get_or s k 0 ∷ get_or s (k + 1) 0 ∷ get_or s (k + 2) 0 ∷ drop (k + 3) s
three s k h =
    let one : suc k ≡ k + 1 = omega arith in
    let two : suc (k + 1) ≡ k + 2 = omega arith in
    let more : suc (k + 2) ≡ k + 3 = omega arith in
    rw (drop-cons s k 0 (omega arith), one, drop-cons s (k + 1) 0 (omega arith), two, drop-cons s (k + 2) 0 (omega arith), more)

-- a list of three bytes and k more at its end is its first three, what lies between, and its last k
pub split : (k : ℕ) (s : List ℕ) → 3 + k ≤ length s
    → s ≡ get_or s 0 0 ∷ get_or s 1 0 ∷ get_or s 2 0 ∷ (part s data_at (length s - (3 + k)) ++ drop (length s - k) s)
unfolding part
split k s h =
    let n : ℕ = length s - (3 + k) in
    let end : data_at + n ≡ length s - k = omega arith in
    let rest : drop data_at s ≡ take n (drop data_at s) ++ drop (length s - k) s =
    sym (take-append-drop n (drop data_at s)) ∙ ap (λ (l : List ℕ). take n (drop data_at s) ++ l) (drop-drop n data_at s ∙ ap (λ (m : ℕ). drop m s) end) in
    three s 0 (omega arith) ∙ ap (λ (l : List ℕ). get_or s 0 0 ∷ get_or s 1 0 ∷ get_or s 2 0 ∷ l) rest

-- a framing: what it makes of status and data is a frame, with so many bytes around the data
pub record Framing (make : ℕ → List ℕ → List ℕ) (around start : ℕ) (back : ℕ → List ℕ → List ℕ) : Type 0 where
  pub made : (status : ℕ) (bytes : List ℕ) → make status bytes ≡ packet_around start (back status bytes) status bytes
  pub long : (status : ℕ) (bytes : List ℕ) → data_at + length (back status bytes) ≡ around

pub plain : Framing packet around_data slash (λ _ _. tail)
unfolding packet
plain = record { made = λ s b. refl; long = λ s b. refl }

pub oem : Framing oem_packet around_oem stx oem_tail
unfolding oem_packet oem_tail
oem = record { made = λ s b. refl; long = λ s b. refl }

module _ {make : ℕ → List ℕ → List ℕ} {around start : ℕ} {back : ℕ → List ℕ → List ℕ} (g : Framing make around start back) where
  pub length_made : (status : ℕ) (bytes : List ℕ) → length (make status bytes) ≡ around + length bytes
  length_made status bytes =
      ap length (g.made status bytes) ∙ length-frame start (back status bytes) status bytes ∙ omega (arith, g.long status bytes)

  module _ (s : List ℕ) (f : framed_by make around s ≡ true) where
    -- a framed list is the packet of its status and data
    pub framed_is : s ≡ make (status_in s) (data_in around s)
    unfolding framed_by
    framed_is = same_is s (make (status_in s) (data_in around s)) f

    pub framed-long : around + length (data_in around s) ≡ length s
    framed-long = sym (ap length framed_is ∙ length_made (status_in s) (data_in around s))

    framed_as : s ≡ packet_around start (back (status_in s) (data_in around s)) (status_in s) (data_in around s)
    framed_as = framed_is ∙ g.made (status_in s) (data_in around s)

    pub framed-first : get_or s 0 0 ≡ start
    framed-first = ap (λ (l : List ℕ). get_or l 0 0) framed_as

    pub framed-second : get_or s 1 0 ≡ host_address
    framed-second = ap (λ (l : List ℕ). get_or l 1 0) framed_as

    pub framed-last : (i k : ℕ) → i ≡ length s - (around - data_at) + k
        → get_or s i 0 ≡ get_or (back (status_in s) (data_in around s)) k 0
    framed-last i k e =
        let front : List ℕ = start ∷ host_address ∷ status_in s ∷ data_in around s in
        let at : i ≡ length front + k = omega (arith, framed-long, g.long (status_in s) (data_in around s)) in
        ap (λ (i : ℕ). get_or s i 0) at
        ∙ ap (λ (l : List ℕ). get_or l (length front + k) 0) framed_as
        ∙ get_or-append-add front (back (status_in s) (data_in around s)) k 0

  -- so it has room for what stands around the data
  pub roomy : (s : List ℕ) {a : Bool} → a ≡ framed_by make around s → Roomy a around s
  roomy s e = record { head = omega (arith, g.long 0 []); whole = λ f. omega (arith, framed-long s (sym e ∙ f)) }

-- the bytes of the plain frame
pub is_framed : (s : List ℕ) → around_data ≤ length s → get_or s 0 0 ≡ slash → get_or s 1 0 ≡ host_address → get_or s (length s - 3) 0 ≡ etx
    → get_or s (length s - 2) 0 ≡ cr → get_or s (length s - 1) 0 ≡ lf → true ≡ framed s
unfolding framed_by packet data_in
is_framed s h a b x y z =
    let second : length s - 3 + 1 ≡ length s - 2 = omega arith in
    let third : length s - 3 + 2 ≡ length s - 1 = omega arith in
    let end : length s - 3 + 3 ≡ length s = omega arith in
    let last : drop (length s - 3) s ≡ tail = three s (length s - 3) (omega arith) ∙ rw (second, third, x, y, z, end, drop-length s) in
    let whole : s ≡ packet (status_in s) (data_in around_data s) = split 3 s h ∙ rw (a, b, last) in
    sym (ap (λ (l : List ℕ). same s l) (sym whole) ∙ same_self s)

-- a slice whose bytes are not those is none
pub not_framed : (s : List ℕ) → (around_data ≤ length s → get_or s 0 0 ≡ slash → get_or s 1 0 ≡ host_address → get_or s (length s - 3) 0 ≡ etx
    → get_or s (length s - 2) 0 ≡ cr → get_or s (length s - 1) 0 ≡ lf → ⊥) → false ≡ framed s
not_framed s h = fails (framed s) (λ f.
    let long = framed-long plain s f in
    h (omega arith) (framed-first plain s f) (framed-second plain s f) (framed-last plain s f (length s - 3) 0 (omega arith))
    (framed-last plain s f (length s - 2) 1 (omega arith)) (framed-last plain s f (length s - 1) 2 (omega arith)))

-- ---- the data

printable_off : (s : List ℕ) (i : ℕ) → i < length s → all_printable (drop i s) ≡ printable (get_or s i 0) && all_printable (drop (i + 1) s)
unfolding all_printable
printable_off s i h = rw (add-one, drop-cons s i 0)

-- where there are few bytes, they tell
module _ (s : List ℕ) (i : ℕ) (e : all_printable s ≡ all_printable (drop i s)) where
  -- one byte more
  pub data_more : i < length s → printable (get_or s i 0) ≡ true → all_printable s ≡ all_printable (drop (i + 1) s)
  data_more h l = e ∙ printable_off s i h ∙ rw l

  -- a byte that data may not have
  pub data_other : length s ≤ most_data → i < length s → printable (get_or s i 0) ≡ false → false ≡ good_data s
  unfolding good_data
  data_other short h l = sym (rw (le-leb _ _ short) (e ∙ printable_off s i h ∙ rw l))

  -- no byte left
  pub data_good : length s ≤ most_data → length s ≤ i → true ≡ good_data s
  unfolding good_data all_printable
  data_good short h = sym (rw (le-leb _ _ short) (e ∙ rw (drop_of_length-le s h)))

pub data_long : (s : List ℕ) → most_data < length s → false ≡ good_data s
unfolding good_data
data_long s h = rw (lt-leb _ _ h)

-- ---- the whole

module _ (s : List ℕ) (around : ℕ) where
  abbrev lent : List ℕ
  lent = take (data_at + (length s - around) - data_at) (drop data_at s)

  -- the part that is lent to be judged is the data
  data_lent : lent ≡ data_in around s
  unfolding data_in part
  data_lent = let e : data_at + (length s - around) - data_at ≡ length s - around = omega arith in rw e

  data_length : data_at ≤ around → around ≤ length s → length s - around ≡ length (data_in around s)
  unfolding data_in part
  data_length h g = simp (length-take, length-drop) (omega arith)

  pub inside_is : {a b c : Bool} → Roomy a around s → a ≡ true → b ≡ good_status (status_in s) → b ≡ true → c ≡ good_data lent → c ≡ true
      → Some (status_in s, length s - around) ≡ inside_by a around s
  unfolding inside_by one_by
  inside_is r f g h x y =
      let status_so : good_status (status_in s) ≡ true = sym g ∙ h in
      let data_so : good_data (data_in around s) ≡ true = rw data_lent at (sym x ∙ y) in
      rw (f, status_so, data_so, data_length r.head (r.whole f))

  -- each test that fails
  pub no_frame : {a : Bool} → a ≡ false → None ≡ inside_by a around s
  unfolding inside_by one_by
  no_frame f = rw f

  pub no_status : (a : Bool) {b : Bool} → b ≡ good_status (status_in s) → b ≡ false → None ≡ inside_by a around s
  unfolding inside_by one_by
  no_status a e f = rw (← e, f, and-false)

  pub no_data : (a : Bool) {c : Bool} → c ≡ good_data lent → c ≡ false → None ≡ inside_by a around s
  unfolding inside_by one_by
  no_data a e f = let data_so : good_data (data_in around s) ≡ false = rw data_lent at (sym e ∙ f) in rw (data_so, and-false, and-false)
