-- What is written is read back, and what is read is what was written: status, data and whole packets. Assumes nothing.
use Rattle.std.proofs.Common.{Option, Some, None, is_some, IsSomeAnd}
use Prim.Native.Nat.{ℕ, ◌+◌, ◌-◌, ◌*◌, ◌/◌, ◌%◌, ◌≤◌, ◌<◌}
use mathlib.Core.Path.{◌≡◌, refl, sym, ap, ◌∙◌}
use mathlib.Core.List.{List, ◌∷◌, ◌++◌}
use mathlib.Core.Bool.{Bool, true, false, not, cond, ◌&&◌, and-eq-true_iff}
use native.Mathlib.Omega.{arith}
use native.Mathlib.Decide.{dec_lt}
use lib.ListN.{length, take, drop}
use lib.Seq.{take-append_seam}
use lib.Dec.{leb, eqb}
use borrow.Author.Tests.{le-leb, eq-eqb, ne_eqb, eqb-true, eqb-false, not-true}
use Rattle.parts.specs.Parts.{part}
use Rattle.parts.proofs.Laws.{put_front, put_in_room, take-padded, same_self}
use Rattle.digits.specs.Operand.{widest}
use Rattle.digits.specs.Decimal.{ascii, decimal}
use Rattle.digits.proofs.ReadBack.{Digits, none, one, digits_digits}
use Rattle.answers.specs.Packet.{low_four, status_of, data_at, around_data, most_data, packet_bytes, number_data, PacketAs}
use Rattle.answers.specs.Reading.{status_in, data_in, framed_by, one_by, inside_by, told_of, packet_told}
use Rattle.answers.specs.Reading.{bit, good_status, all_printable, good_data}
use Rattle.answers.specs.AnswerClaims.{ToldAs, GenuineAs, StatusBits}
use Rattle.answers.specs.declared.Packet.{Packet}
use Rattle.answers.proofs.Writing.{number-most}
use Rattle.answers.proofs.Framing.{Framing, length_made, framed_is, framed-long}

-- ---- the status

pub status_bits : (idle : Bool) (code : ℕ) → StatusBits (status_of idle code) idle code
unfolding status_of
status_bits true code = record {
  bit_7 = ne_eqb ((64 + 32 + code % 16) / 128 % 2) 1 (λ e. omega arith);
  bit_6 = eq-eqb ((64 + 32 + code % 16) / 64 % 2) 1 (omega arith);
  bit_5 = eq-eqb ((64 + 32 + code % 16) / 32 % 2) 1 (omega arith);
  bit_4 = ne_eqb ((64 + 32 + code % 16) / 16 % 2) 1 (λ e. omega arith);
  low-four = omega arith;
  a_byte = omega arith;
}
status_bits false code = record {
  bit_7 = ne_eqb ((64 + 0 + code % 16) / 128 % 2) 1 (λ e. omega arith);
  bit_6 = eq-eqb ((64 + 0 + code % 16) / 64 % 2) 1 (omega arith);
  bit_5 = ne_eqb ((64 + 0 + code % 16) / 32 % 2) 1 (λ e. omega arith);
  bit_4 = ne_eqb ((64 + 0 + code % 16) / 16 % 2) 1 (λ e. omega arith);
  low-four = omega arith;
  a_byte = omega arith;
}

pub status-good : (idle : Bool) (code : ℕ) → good_status (status_of idle code) ≡ true
unfolding good_status
status-good idle code = let b = status_bits idle code in rw (b.bit_6, b.bit_7, b.bit_4)

-- a bit that is not set is clear
clear : (m : ℕ) → eqb (m % 2) 1 ≡ false → m % 2 ≡ 0
clear m e = go (dec_lt (m % 2) 1)
  where
    go : Dec (m % 2 < 1) → m % 2 ≡ 0
    go (yes l) = omega arith
    go (no g) = absurd (eqb-false (m % 2) 1 e (omega arith))

-- a number between 2k and 2k + 2, by its last bit
even : (m k : ℕ) → k * 2 ≤ m → m < k * 2 + 2 → m % 2 ≡ 0 → m ≡ k * 2
even m k h g e = omega arith

odd : (m k : ℕ) → k * 2 ≤ m → m < k * 2 + 2 → m % 2 ≡ 1 → m ≡ k * 2 + 1
odd m k h g e = omega arith

-- the bits of a good status, as numbers
status_parts : (n : ℕ) → good_status n ≡ true → (n / 64 % 2 ≡ 1) × (n / 128 % 2 ≡ 0) × (n / 16 % 2 ≡ 0)
unfolding good_status
status_parts n g =
    let a = (and-eq-true_iff (bit 6 n) (not (bit 7 n) && not (bit 4 n))).0 g in
    let b = (and-eq-true_iff (not (bit 7 n)) (not (bit 4 n))).0 a.1 in
    (eqb-true (n / 64 % 2) 1 a.0, clear (n / 128) (not-true _ b.0), clear (n / 16) (not-true _ b.1))

pub status-only : (n : ℕ) → n < 256 → good_status n ≡ true → n ≡ status_of (bit 5 n) (low_four n)
unfolding status_of
status-only n h g = go (bit 5 n) refl (status_parts n g)
  where
    go : (idle : Bool) → bit 5 n ≡ idle → (n / 64 % 2 ≡ 1) × (n / 128 % 2 ≡ 0) × (n / 16 % 2 ≡ 0) → n ≡ 64 + cond idle 32 0 + n % 16 % 16
    go true e (six, seven, four) =
        let high : n / 128 ≡ 0 * 2 = even (n / 128) 0 (omega arith) (omega arith) seven in
        let next : n / 64 ≡ 0 * 2 + 1 = odd (n / 64) 0 (omega arith) (omega arith) six in
        let five : n / 32 ≡ 1 * 2 + 1 = odd (n / 32) 1 (omega arith) (omega arith) (eqb-true (n / 32 % 2) 1 e) in
        let last : n / 16 ≡ 3 * 2 = even (n / 16) 3 (omega arith) (omega arith) four in
        omega arith
    go false e (six, seven, four) =
        let high : n / 128 ≡ 0 * 2 = even (n / 128) 0 (omega arith) (omega arith) seven in
        let next : n / 64 ≡ 0 * 2 + 1 = odd (n / 64) 0 (omega arith) (omega arith) six in
        let five : n / 32 ≡ 1 * 2 = even (n / 32) 1 (omega arith) (omega arith) (clear (n / 32) e) in
        let last : n / 16 ≡ 2 * 2 = even (n / 16) 2 (omega arith) (omega arith) four in
        omega arith

pub status-apart : (i j : Bool) (c d : ℕ) → c < 16 → d < 16 → status_of i c ≡ status_of j d → (i ≡ j) × (c ≡ d)
status-apart i j c d h g e =
    let a = status_bits i c in
    let b = status_bits j d in
    let low : status_of i c % 16 ≡ status_of j d % 16 = ap (λ (n : ℕ). n % 16) e in
    (sym a.bit_5 ∙ ap (λ (n : ℕ). bit 5 n) e ∙ b.bit_5, omega (arith, a.low-four, b.low-four))

-- ---- a packet of either framing, read back

module _ {make : ℕ → List ℕ → List ℕ} {around start : ℕ} {back : ℕ → List ℕ → List ℕ} (g : Framing make around start back) where
  module _ (status : ℕ) (bytes : List ℕ) where
    status_back : status_in (make status bytes) ≡ status
    status_back = ap status_in (g.made status bytes)

    part_back : part (make status bytes) data_at (length bytes) ≡ bytes
    unfolding part
    part_back = rw (g.made status bytes) (take-append_seam bytes (back status bytes))

    data_back : data_in around (make status bytes) ≡ bytes
    unfolding data_in
    data_back =
        let n : length (make status bytes) - around ≡ length bytes = omega (arith, length_made g status bytes) in
        rw n part_back

    framed_back : framed_by make around (make status bytes) ≡ true
    unfolding framed_by
    framed_back = rw (status_back, data_back) (same_self (make status bytes))

    inside_back : good_status status ≡ true → good_data bytes ≡ true
        → inside_by (framed_by make around (make status bytes)) around (make status bytes) ≡ Some (status, length bytes)
    unfolding inside_by one_by
    inside_back h d = rw (framed_back, status_back, data_back, h, d)

  -- what the host is told of a slice
  abbrev told : List ℕ → Option Packet
  told s = told_of (inside_by (framed_by make around s) around s)

  pub reads_back : (idle : Bool) (code : ℕ) (bytes : List ℕ) → good_data bytes ≡ true
      → IsSomeAnd (told (make (status_of idle code) bytes)) (λ p. ToldAs p (make (status_of idle code) bytes) idle code bytes)
  unfolding told_of
  reads_back idle code bytes h =
      let e = inside_back (status_of idle code) bytes (status-good idle code) h in
      let b = status_bits idle code in
      rw e (record {
        as_status = refl;
        as_idle = b.bit_5;
        as_code = b.low-four;
        as_data = part_back (status_of idle code) bytes;
      })

  -- no two packets are alike
  pub packet-apart : (s t : ℕ) (x y : List ℕ) → make s x ≡ make t y → (s ≡ t) × (x ≡ y)
  packet-apart s t x y e = (
    sym (status_back s x) ∙ ap status_in e ∙ status_back t y,
    sym (data_back s x) ∙ ap (data_in around) e ∙ data_back t y,
  )

  -- a buffer of 262 bytes
  pub fits : {buffer : List ℕ} {status : ℕ} {bytes : List ℕ} {r : Option ℕ} {after : List ℕ} → around ≤ around_data → packet_bytes ≤ length buffer
      → length bytes ≤ most_data → PacketAs make buffer status bytes r after
      → (r ≡ Some (around + length bytes)) × (after ≡ make status bytes ++ drop (around + length bytes) buffer)
  fits {buffer} {status} {bytes} few b d p =
      let long : length (make status bytes) ≡ around + length bytes = length_made g status bytes in
      let short : leb (length bytes) most_data ≡ true = le-leb (length bytes) most_data d in
      let room : leb (0 + length (make status bytes)) (length buffer) ≡ true =
      le-leb (0 + length (make status bytes)) (length buffer) (omega arith) in
      let from : 0 + length (make status bytes) ≡ around + length bytes = omega arith in (
        p.answers ∙ rw (short, room, from),
        p.leaves ∙ rw (short, put_in_room buffer 0 (make status bytes) (omega arith), put_front buffer (make status bytes), long),
      )

-- ---- what is read is a packet

-- what is told, by whether the slice is one packet
module _ (isFramed : Bool) (around : ℕ) (s : List ℕ) where
  pub which : is_some (told_of (inside_by isFramed around s)) ≡ one_by isFramed around s
  unfolding inside_by told_of
  which = go (one_by isFramed around s)
    where
      go : (t : Bool) → is_some (told_of (cond t (Some (status_in s, length (data_in around s))) None)) ≡ t
      go true = refl
      go false = refl

  pub refused-bare : one_by isFramed around s ≡ false → told_of (inside_by isFramed around s) ≡ None
  unfolding inside_by told_of
  refused-bare e = rw e

  -- so what is told is of one packet
  told-one : {p : Packet} → told_of (inside_by isFramed around s) ≡ Some p
      → (one_by isFramed around s ≡ true) × (p ≡ packet_told (status_in s) (length (data_in around s)))
  unfolding inside_by told_of
  told-one {p} = go (one_by isFramed around s)
    where
      go : (t : Bool) → told_of (cond t (Some (status_in s, length (data_in around s))) None) ≡ Some p
          → (t ≡ true) × (p ≡ packet_told (status_in s) (length (data_in around s)))
      go true e = (refl, cc)
      go false e = absurd cc

pub nothing_else : {make : ℕ → List ℕ → List ℕ} {around start : ℕ} {back : ℕ → List ℕ → List ℕ} (g : Framing make around start back) (s : List ℕ)
    (p : Packet) → told g s ≡ Some p → GenuineAs make p s
unfolding data_in one_by
nothing_else {make} {around} g s p found =
    let t = told-one (framed_by make around s) around s found in
    let a = (and-eq-true_iff (framed_by make around s) (good_status (status_in s) && good_data (data_in around s))).0 t.0 in
    let b = (and-eq-true_iff (good_status (status_in s)) (good_data (data_in around s))).0 a.1 in
    let n : length (data_in around s) ≡ length s - around = omega (arith, framed-long g s a.0) in
    rw (t.1, n) (record { whole = framed_is g s a.0; status-good = b.0; data_good = b.1 })

-- ---- numbers

digits_printable : {ds : List ℕ} → Digits ds → all_printable (ascii ds) ≡ true
unfolding all_printable ascii
digits_printable none = refl
digits_printable {ds = d ∷ ds} (one h r) = rw (le-leb 32 (48 + d) (omega arith), le-leb (48 + d) 126 (omega arith)) (digits_printable r)

pub number-good : (n : ℕ) → n ≤ widest → good_data (decimal n) ≡ true
unfolding good_data decimal
number-good n h = rw (le-leb (length (decimal n)) most_data (omega (arith, number-most n h))) (digits_printable (digits_digits n))

pub number-there : (n : ℕ) → take (number_data n).length (number_data n).bytes ≡ decimal n
unfolding number_data
number-there n = take-padded _ (decimal n)
