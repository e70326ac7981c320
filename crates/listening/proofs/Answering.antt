-- A whole packet, heard byte by byte: the data of either framing in one induction (`data-heard`), then what ends it.
-- Assumes nothing.
use Prim.Native.Nat.{ℕ, suc, ◌+◌, ◌-◌, ◌≤◌, ◌<◌}
use native.Mathlib.Omega.{arith}
use native.Mathlib.Nat.{add-zero}
use mathlib.Core.Path.{◌≡◌, refl, sym, ◌∙◌, ap, subst}
use mathlib.Core.Bool.{true, false, and-false, and-eq-true_iff, true≢false}
use mathlib.Mathlib.Data.Bool.Basic.{or-eq-false-eq-eq-false-and-eq-false as neither}
use mathlib.Core.List.{List, [], ◌∷◌, ◌++◌}
use lib.Dec.{eqb, leb, ltb}
use lib.ListN.{length}
use borrow.Author.Tests.{leb-true, lt-ltb, eq-eqb, ne_eqb, eqb-false}
use Rattle.parts.specs.Letters.{slash, cr, lf, stx, etx}
use Rattle.checksum.specs.Checksum.{xor, sum_from}
use Rattle.frames.specs.Addresses.{is_unit, is_in}
use Rattle.frames.proofs.Addresses.{unit_is}
use Rattle.answers.specs.Packet.{host_address, most_data, packet}
use Rattle.answers.specs.Reading.{good_status, good_data, printable, all_printable}
use Rattle.answers.specs.Oem.{oem_sum, oem_tail, oem_packet}
use Rattle.answers.proofs.OemLaws.{sum_made}
use Rattle.listening.specs.declared.UnitRecord.{UnitRecord}
use Rattle.listening.specs.declared.Finish.{Finish}
use Rattle.listening.specs.declared.Spot.{Spot}
use Rattle.listening.specs.declared.Ear.{Ear}
use Rattle.listening.specs.declared.Hearing.{Hearing}
use Rattle.listening.specs.declared.Listener.{Listener}
use Rattle.listening.specs.Table.{greatest_count, with_answer, noted}
use Rattle.listening.specs.Listen.{may_follow, standing, not_sum, hear_of, listen_of}
use Rattle.listening.specs.Claims.{of_unit, AnswerHeard, AnswersHeard}
use Rattle.listening.proofs.Growing.{noted-own, noted-others}

-- BYTES
-- a good status is no byte that is none
not-status : (status x : ℕ) → good_status x ≡ false → good_status status ≡ true → eqb status x ≡ false
not-status status x bad fine = ne_eqb status x (λ q. true≢false (sym fine ∙ ap good_status q ∙ bad))

low-not : (b x : ℕ) → x < 0x20 → printable b ≡ true → eqb b x ≡ false
low-not b x low p =
    let h = leb-true 0x20 b ((and-eq-true_iff (leb 0x20 b) (leb b 0x7E)).0 p).0 in
    ne_eqb b x (λ q. let z : 0x20 ≤ x = subst (λ (k : ℕ). 0x20 ≤ k) q h in omega (arith, low, z))

may : (n b : ℕ) → n < most_data → printable b ≡ true → may_follow n b ≡ true
unfolding may_follow
may n b h p = rw (lt-ltb n most_data h) p

pub is_printable : (n b : ℕ) → may_follow n b ≡ true → printable b ≡ true
unfolding may_follow
is_printable n b m = ((and-eq-true_iff (ltb n most_data) (printable b)).0 m).1

-- the parts of good data
first-printable : (x : ℕ) (xs : List ℕ) → all_printable (x ∷ xs) ≡ true → (printable x ≡ true) × (all_printable xs ≡ true)
unfolding all_printable
first-printable x xs p = (and-eq-true_iff (printable x) (all_printable xs)).0 p

good_parts : (xs : List ℕ) → good_data xs ≡ true → (0 + length xs ≤ most_data) × (all_printable xs ≡ true)
unfolding good_data
good_parts xs g = let (l, p) = (and-eq-true_iff (leb (length xs) most_data) (all_printable xs)).0 g in
    let fits = leb-true (length xs) most_data l in (omega (arith, fits), p)

module _ (status unit : ℕ) (t : List UnitRecord) where
  abbrev ear : Spot → Ear
  ear spot = record { spot = spot; unit = unit }

  abbrev at : Spot → Listener
  at spot = record { ear = ear spot; table = t }

  -- a byte that finishes nothing
  on : (spot next : Spot) (b : ℕ) (bs : List ℕ) → hear_of (ear spot) b ≡ standing next unit → listen_of (at spot) (b ∷ bs) ≡ listen_of (at next) bs
  unfolding listen_of
  on spot next b bs e = ap (λ (h : Hearing). listen_of (record { ear = h.ear; table = noted t h.finish }) bs) e

  -- the data, in a framing whose places are F
  data_heard : (F : ℕ → ℕ → Spot)
      → ((n s b : ℕ) → eqb b slash ≡ false → may_follow n b ≡ true → hear_of (ear (F n s)) b ≡ standing (F (n + 1) (xor s b)) unit)
      → (xs : List ℕ) (n s : ℕ) → all_printable xs ≡ true → is_in slash xs ≡ false → n + length xs ≤ most_data → (ys : List ℕ)
      → listen_of (at (F n s)) (xs ++ ys) ≡ listen_of (at (F (n + length xs) (sum_from s xs))) ys
  unfolding sum_from
  data_heard F step [] n s p i l ys = ap (λ (k : ℕ). listen_of (at (F k s)) ys) (sym (add-zero n))
  data_heard F step (x ∷ xs) n s p i l ys =
      let (now, later) = first-printable x xs p in
      let (apart, none) = (neither (eqb slash x) (is_in slash xs)).0 i in
      let not-slash = ne_eqb x slash (λ q. eqb-false slash x apart (sym q)) in
      let long : n + suc (length xs) ≤ most_data = l in
      let here : n < most_data = omega (arith, long) in
      let next : n + 1 + length xs ≤ most_data = omega (arith, long) in
      let sums : n + 1 + length xs ≡ n + suc (length xs) = omega arith in
      on (F n s) (F (n + 1) (xor s x)) x (xs ++ ys) (step n s x not-slash (may n x here now))
      ∙ data_heard F step xs (n + 1) (xor s x) later none next ys
      ∙ ap (λ (k : ℕ). listen_of (at (F k (sum_from (xor s x) xs))) ys) sums

  plain_step : (n s b : ℕ) → eqb b slash ≡ false → may_follow n b ≡ true → hear_of (ear (Spot.AnswerData status n)) b ≡ standing (Spot.AnswerData status (n + 1)) unit
  unfolding hear_of
  plain_step n s b a m = let p = is_printable n b m in simp (a, low-not b stx (omega arith) p, low-not b etx (omega arith) p, m)

  oem-step : (n s b : ℕ) → eqb b slash ≡ false → may_follow n b ≡ true → hear_of (ear (Spot.OemData status n s)) b ≡ standing (Spot.OemData status (n + 1) (xor s b)) unit
  unfolding hear_of
  oem-step n s b a m = let p = is_printable n b m in simp (a, low-not b stx (omega arith) p, low-not b etx (omega arith) p, m)

  -- what a whole answer makes of the listener
  abbrev answered : Listener
  answered = record { ear = ear Spot.Outside; table = noted t (Finish.AnswerOf unit status) }

  module _ (spot : Spot) (begins : not_sum spot ≡ true) (fine : good_status status ≡ true) where
    head : (ys : List ℕ) → listen_of (at spot) (slash ∷ host_address ∷ status ∷ ys) ≡ listen_of (at (Spot.AnswerData status 0)) ys
    unfolding hear_of good_status
    head ys =
        on spot Spot.Address slash _ (simp begins)
        ∙ on Spot.Address Spot.AnswerStatus host_address _ refl
        ∙ on Spot.AnswerStatus (Spot.AnswerData status 0) status ys (simp (not-status status slash refl fine, not-status status stx refl fine, fine))

    oem-head : (ys : List ℕ) → listen_of (at spot) (stx ∷ host_address ∷ status ∷ ys) ≡ listen_of (at (Spot.OemData status 0 (xor (xor stx host_address) status))) ys
    unfolding hear_of good_status
    oem-head ys =
        on spot Spot.OemAddress stx _ (simp begins)
        ∙ on Spot.OemAddress (Spot.OemStatus (xor stx host_address)) host_address _ refl
        ∙ on (Spot.OemStatus (xor stx host_address)) (Spot.OemData status 0 (xor (xor stx host_address) status)) status ys
        (simp (not-status status slash refl fine, not-status status stx refl fine, not-status status etx refl fine, fine))

    module _ (xs : List ℕ) (g : good_data xs ≡ true) (i : is_in slash xs ≡ false) where
      through : (ys : List ℕ) → listen_of (at spot) (slash ∷ host_address ∷ status ∷ (xs ++ (etx ∷ ys))) ≡ listen_of (at (Spot.AnswerEnd status)) ys
      unfolding hear_of
      through ys =
          let (l, p) = good_parts xs g in
          head (xs ++ (etx ∷ ys)) ∙ data_heard (λ n s. Spot.AnswerData status n) plain_step xs 0 0 p i l (etx ∷ ys)
          ∙ on (Spot.AnswerData status (0 + length xs)) (Spot.AnswerEnd status) etx ys refl

      plain : (ys : List ℕ) → listen_of (at spot) (slash ∷ host_address ∷ status ∷ (xs ++ (etx ∷ cr ∷ ys))) ≡ listen_of answered ys
      unfolding hear_of listen_of
      plain ys = through (cr ∷ ys)

      oem : listen_of (at spot) (oem_packet status xs) ≡ answered
      unfolding hear_of listen_of oem_packet oem_tail
      oem =
          let (l, p) = good_parts xs g in
          let s = sum_from (xor (xor stx host_address) status) xs in
          oem-head (xs ++ (etx ∷ oem_sum status xs ∷ []))
          ∙ data_heard (λ n s. Spot.OemData status n s) oem-step xs 0 (xor (xor stx host_address) status) p i l (etx ∷ oem_sum status xs ∷ [])
          ∙ on (Spot.OemData status (0 + length xs) s) (Spot.OemSum (Finish.AnswerOf unit status) (xor s etx)) etx (oem_sum status xs ∷ []) refl
          ∙ simp (and-false, eq-eqb (oem_sum status xs) (xor s etx) (sym (sum_made status xs)))

-- THE RECORD
heard-answer : (u status : ℕ) (t : List UnitRecord) → is_unit u ≡ true → length t ≡ 16 → AnswerHeard u status t (noted t (Finish.AnswerOf u status))
heard-answer u status t is long =
    let (least, most) = unit_is u is in
    let within : u - 1 < length t = subst (λ (n : ℕ). u - 1 < n) (sym long) (omega (arith, least, most)) in
    let some : eqb u 0 ≡ false = ne_eqb u 0 (λ q. omega (arith, q, least)) in
    let own : of_unit u (noted t (Finish.AnswerOf u status)) ≡ with_answer status (of_unit u t)
    = noted-own t (Finish.AnswerOf u status) within ∙ rw some in
    record {
      answers = λ below. ap (λ (r : UnitRecord). r.answers) own ∙ rw (lt-ltb (of_unit u t).answers greatest_count below);
      last = ap (λ (r : UnitRecord). r.last) own;
      frames = ap (λ (r : UnitRecord). r.frames) own;
      others = noted-others t (Finish.AnswerOf u status);
    }

pub answers-heard : (l : Listener) (status : ℕ) (xs : List ℕ) → not_sum l.ear.spot ≡ true → good_status status ≡ true → good_data xs ≡ true
    → is_in slash xs ≡ false → AnswersHeard l status xs
unfolding listen_of hear_of packet
answers-heard l status xs n s g i =
    let u = l.ear.unit in
    let whole = plain status u l.table l.ear.spot n s xs g i [] in
    record {
      not_at_03 = ap (λ (m : Listener). m.table) (through status u l.table l.ear.spot n s xs g i []);
      at_cr = λ is long. subst (λ (m : Listener). AnswerHeard u status l.table m.table) (sym whole) (heard-answer u status l.table is long);
      none = λ e. ap (λ (m : Listener). m.table) whole ∙ ap (λ (v : ℕ). noted l.table (Finish.AnswerOf v status)) e;
      ready = ap (λ (m : Listener). m.ear) whole;
      line-feed = plain status u l.table l.ear.spot n s xs g i (lf ∷ []) ∙ sym whole;
      oem = oem status u l.table l.ear.spot n s xs g i ∙ sym whole;
    }
