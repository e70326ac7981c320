-- A packet in 01's bytes: the status and the data that the reading takes are those, and no slice else is read (`AnswerClaims`).
-- Assumes nothing.
use Prim.Native.Nat.{ℕ, zero, suc, ◌%◌, ◌≤◌, ◌<◌}
use mathlib.Core.Path.{◌≡◌, refl, sym, ap, subst, ◌∙◌}
use mathlib.Core.List.{List, [], ◌∷◌, append_assoc}
use mathlib.Core.Bool.{Bool, true, false, and-eq-true_iff}
use native.Mathlib.Omega.{arith}
use lib.ListN.{length, get_or}
use lib.Dec.{leb}
use borrow.Author.Tests.{le-leb, leb-true}
use Rattle.answers.specs.Packet.{packet, status_of}
use Rattle.answers.specs.Reading.{bit, printable, all_printable, good_data, read_of}
use Rattle.answers.specs.Names.{found_name}
use Rattle.answers.specs.Oem.{oem_sum, oem_tail, oem_packet, read_oem_of}
use Rattle.answers.specs.declared.Packet.{Packet}
use Rattle.std.specs.Prelude.{Option, Some, None, IsSomeAnd}
use Rattle.answers.specs.AnswerClaims.{carried, ToldAs, GenuineAs, AnswerClaims}
use Rattle.claims.specs.Packets.{status_byte, Data, plain, oem_summed, One, one, PacketTold, ReadsPackets, PacketRow}

-- ---- status and data

status_so : (idle : Bool) (code : ℕ) → code < 16 → status_of idle code ≡ status_byte idle code
unfolding status_of
status_so true code h = omega arith
status_so false code h = omega arith

printable-all : (d : List ℕ) → ((i : ℕ) → i < length d → (0x20 ≤ get_or d i 0) × (get_or d i 0 ≤ 0x7E)) → all_printable d ≡ true
unfolding all_printable
printable-all [] h = refl
printable-all (b ∷ bs) h =
    rw (le-leb 0x20 b (h 0 (omega arith)).0, le-leb b 0x7E (h 0 (omega arith)).1) (printable-all bs (λ i l. h (suc i) (omega arith)))

printable-each : (d : List ℕ) → all_printable d ≡ true → (i : ℕ) → i < length d → (0x20 ≤ get_or d i 0) × (get_or d i 0 ≤ 0x7E)
unfolding all_printable
printable-each [] h i l = absurd (omega arith)
printable-each (b ∷ bs) h zero l =
    let p = (and-eq-true_iff (leb 0x20 b) (leb b 0x7E)).0 ((and-eq-true_iff (printable b) (all_printable bs)).0 h).0 in
    (leb-true _ _ p.0, leb-true _ _ p.1)
printable-each (b ∷ bs) h (suc i) l = printable-each bs ((and-eq-true_iff (printable b) (all_printable bs)).0 h).1 i (omega arith)

data_good : (d : List ℕ) → Data d → good_data d ≡ true
unfolding good_data
data_good d h = rw (le-leb (length d) 256 h.most) (printable-all d h.each)

good_data_lem : (d : List ℕ) → good_data d ≡ true → Data d
unfolding good_data
good_data_lem d h =
    let p = (and-eq-true_iff (leb (length d) 256) (all_printable d)).0 h in
    record { most = leb-true _ _ p.0; each = printable-each d p.1 }

-- ---- the two framings

plain_so : (status : ℕ) (d : List ℕ) → packet status d ≡ plain status d
unfolding packet
plain_so status d = refl

summed_so : (status : ℕ) (d : List ℕ) → oem_packet status d ≡ oem_summed status d
unfolding oem_packet oem_tail oem_sum
summed_so status d = ap (λ (l : List ℕ). 0x02 ∷ 0x30 ∷ status ∷ l) (sym (append_assoc d (0x03 ∷ []) _))

-- of either: what is made, as it is defined and as 01 says it, and its status
module _ (defined make : ℕ → List ℕ → List ℕ) (read : List ℕ → Option Packet) (so : (status : ℕ) (d : List ℕ) → defined status d ≡ make status d)
    (third : (status : ℕ) (d : List ℕ) → get_or (make status d) 2 0 ≡ status)
    (answers : AnswerClaims)
    (back : (idle : Bool) (code : ℕ) (d : List ℕ) → good_data d ≡ true
    → IsSomeAnd (read (defined (status_of idle code) d)) (λ p. ToldAs p (defined (status_of idle code) d) idle code d))
    (genuine : (s : List ℕ) (p : Packet) → read s ≡ Some p → GenuineAs defined p s) where
  -- what is told of one packet, and its name
  abbrev Told : List ℕ → Bool → ℕ → List ℕ → Option Packet → Type 0
  Told s idle code d r = (found_name r ≡ "exactly one packet") × IsSomeAnd r (λ p. PacketTold s idle code d p)

  told : (s : List ℕ) (idle : Bool) (code : ℕ) (d : List ℕ) → code < 16 → (r : Option Packet) → IsSomeAnd r (λ p. ToldAs p s idle code d) → Told s idle code d r
  told s idle code d h (Some p) k =
      let low : code % 16 ≡ code = omega arith in
      (refl, record { as_idle = k.as_idle; as_code = k.as_code ∙ low; as_data = k.as_data })
  told s idle code d h None k = elim k [ ]

  both : (idle : Bool) (code : ℕ) (d : List ℕ) → code < 16 → Data d
      → Told (make (status_byte idle code) d) idle code d (read (make (status_byte idle code) d))
  both idle code d h g =
      let e : defined (status_of idle code) d ≡ make (status_byte idle code) d = so _ d ∙ ap (λ (s : ℕ). make s d) (status_so idle code h) in
      subst (λ (s : List ℕ). Told s idle code d (read s)) e (told _ idle code d h _ (back idle code d (data_good d g)))

  is_one : (s : List ℕ) → get_or s 2 0 < 256 → (p : Packet) → read s ≡ Some p → One make s
  is_one s h p f =
      let g = genuine s p f in
      let n : ℕ = p.status in
      let d : List ℕ = carried p s in
      let whole : s ≡ make n d = g.whole ∙ so n d in
      let small : n < 256 = subst (λ (m : ℕ). m < 256) (ap (λ (l : List ℕ). get_or l 2 0) whole ∙ third n d) h in
      let made : n ≡ status_byte (bit 5 n) (n % 16) = answers.status-only n small g.status-good ∙ status_so (bit 5 n) (n % 16) (omega arith) in
      subst (One make) (sym (whole ∙ ap (λ (m : ℕ). make m d) made)) (one (bit 5 n) (n % 16) d (omega arith) (good_data_lem d g.data_good))

  refuses : (s : List ℕ) → get_or s 2 0 < 256 → (One make s → ⊥) → (found_name (read s) ≡ "not exactly one packet") × (read s ≡ None)
  refuses s h n = go (read s) refl
    where
      go : (r : Option Packet) → read s ≡ r → (found_name (read s) ≡ "not exactly one packet") × (read s ≡ None)
      go (Some p) e = absurd (n (is_one s h p e))
      go None e = (ap found_name e, e)

  reads : ReadsPackets make read
  reads = record { named = λ i c d h g. (both i c d h g).0; tells = λ i c d h g. (both i c d h g).1; refuses = refuses }

pub packet-row : AnswerClaims → PacketRow
packet-row a = record {
  in-plain = reads packet plain read_of plain_so (λ s d. refl) a a.reads_back a.nothing_else;
  in-oem = reads oem_packet oem_summed read_oem_of summed_so (λ s d. refl) a a.reads_back_oem a.nothing_else_oem;
}
