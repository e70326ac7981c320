-- Laws of the checksum of an OEM packet: as it is made, and that it tells whether a slice is framed. Assumes nothing.
use Prim.Native.Nat.{ℕ, suc, ◌+◌, ◌-◌, ◌≤◌}
use mathlib.Core.Path.{◌≡◌, refl, sym, ap, ◌∙◌}
use mathlib.Core.List.{List, [], ◌∷◌, ◌++◌, append_assoc}
use mathlib.Core.Bool.{Bool, true, false}
use native.Mathlib.Omega.{arith}
use lib.ListN.{length, get_or, take, drop, length-append}
use lib.Seq.{drop-cons, drop-length, take-append_seam}
use lib.Dec.{eqb}
use borrow.Author.Tests.{eqb-true, eqb-false}
use Rattle.parts.specs.Letters.{stx, etx}
use Rattle.parts.specs.Parts.{same}
use Rattle.parts.proofs.Laws.{same_self}
use Rattle.checksum.specs.Checksum.{xor, sum_from, checksum_of}
use Rattle.checksum.proofs.Sums.{sum-append}
use Rattle.answers.specs.Packet.{host_address, packet}
use Rattle.answers.specs.Oem.{oem_sum, oem_tail, oem_packet, around_oem, oem_framed}
use Rattle.answers.specs.Reading.{status_in, data_in, framed_by}
use Rattle.answers.proofs.Framing.{fails, split, oem, framed-long, framed-first, framed-second, framed-last}

-- the bytes from 02 to 03
abbrev summed : ℕ → List ℕ → List ℕ
summed status bytes = stx ∷ host_address ∷ status ∷ (bytes ++ (etx ∷ []))

-- the sum, as it is made of the head, the data and the 03
pub sum_made : (status : ℕ) (bytes : List ℕ)
    → xor (sum_from (xor (xor stx host_address) status) bytes) etx ≡ oem_sum status bytes
unfolding oem_sum checksum_of sum_from xor
sum_made status bytes = sym (sum-append (xor (xor stx host_address) status) bytes (etx ∷ []))

-- the packet is the bytes from 02 to 03, and their sum
packet-summed : (status : ℕ) (bytes : List ℕ) → oem_packet status bytes ≡ summed status bytes ++ (oem_sum status bytes ∷ [])
unfolding oem_packet oem_tail
packet-summed status bytes = ap (λ (l : List ℕ). stx ∷ host_address ∷ status ∷ l) (sym (append_assoc bytes (etx ∷ []) _))

-- ---- the frame

-- two bytes at the end
two : (s : List ℕ) → 2 ≤ length s → drop (length s - 2) s ≡ get_or s (length s - 2) 0 ∷ get_or s (length s - 1) 0 ∷ []
two s h =
    let one : suc (length s - 2) ≡ length s - 1 = omega arith in
    let end : suc (length s - 1) ≡ length s = omega arith in
    rw (drop-cons s (length s - 2) 0 (omega arith), one, drop-cons s (length s - 1) 0 (omega arith), end, drop-length s)

module _ (s : List ℕ) (h : around_oem ≤ length s) (a : get_or s 0 0 ≡ stx) (b : get_or s 1 0 ≡ host_address)
    (x : get_or s (length s - 2) 0 ≡ etx) where
  -- all bytes but the last are those from 02 to 03
  front_is : s ≡ summed (status_in s) (data_in around_oem s) ++ (get_or s (length s - 1) 0 ∷ [])
  unfolding data_in
  front_is =
      split 2 s h
      ∙ rw (two s (omega arith), a, b, x)
      (ap (λ (l : List ℕ). stx ∷ host_address ∷ status_in s ∷ l)
      (sym (append_assoc (data_in around_oem s) (etx ∷ []) (get_or s (length s - 1) 0 ∷ []))))

  front-taken : take (length s - 1) s ≡ summed (status_in s) (data_in around_oem s)
  front-taken =
      let front : List ℕ = summed (status_in s) (data_in around_oem s) in
      let long : length s ≡ length front + 1 = ap length front_is ∙ length-append front _ in
      let at : length s - 1 ≡ length front = omega arith in
      rw at (ap (take (length front)) front_is ∙ take-append_seam front _)

-- where all bytes of the frame but the last are right, the last tells
pub by_sum : (s : List ℕ) {c : ℕ} → around_oem ≤ length s → get_or s 0 0 ≡ stx → get_or s 1 0 ≡ host_address
    → get_or s (length s - 2) 0 ≡ etx → c ≡ checksum_of (take (length s - 1) s)
    → eqb (get_or s (length s - 1) 0) c ≡ oem_framed s
unfolding framed_by oem_sum oem_tail
by_sum s {c} h a b x e = go (eqb (get_or s (length s - 1) 0) c) refl
  where
    right : c ≡ oem_sum (status_in s) (data_in around_oem s)
    right = e ∙ ap checksum_of (front-taken s h a b x)

    go : (t : Bool) → eqb (get_or s (length s - 1) 0) c ≡ t → t ≡ oem_framed s
    go true f =
        let whole : s ≡ oem_packet (status_in s) (data_in around_oem s) =
        front_is s h a b x ∙ rw (eqb-true (get_or s (length s - 1) 0) c f, right) (sym (packet-summed (status_in s) (data_in around_oem s))) in
        sym (ap (λ (l : List ℕ). same s l) (sym whole) ∙ same_self s)
    go false f = fails (oem_framed s) (λ t. eqb-false _ _ f (framed-last oem s t (length s - 1) 1 (omega (arith, framed-long oem s t)) ∙ sym right))

-- a slice whose other bytes are not those is none
pub not_oem_framed : (s : List ℕ)
    → (around_oem ≤ length s → get_or s 0 0 ≡ stx → get_or s 1 0 ≡ host_address → get_or s (length s - 2) 0 ≡ etx → ⊥) → false ≡ oem_framed s
unfolding oem_tail
not_oem_framed s h = fails (oem_framed s) (λ f.
    let long = framed-long oem s f in
    h (omega arith) (framed-first oem s f) (framed-second oem s f) (framed-last oem s f (length s - 2) 0 (omega arith)))

pub framings_apart : (s t : ℕ) (x y : List ℕ) → packet s x ≡ oem_packet t y → ⊥
unfolding packet oem_packet
framings_apart s t x y e = let z : ◌≡◌ {A = ℕ} 47 2 = ap (λ (l : List ℕ). get_or l 0 0) e in omega arith
