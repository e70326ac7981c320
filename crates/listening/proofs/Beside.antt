-- The listener beside the receiver of unit u, byte by byte: wherever the two stand (`Beside`), one byte completes a frame for the
-- unit alone in both or in neither, and they stand so again (`step`). So they count the same frames.
-- Assumes nothing.
use Prim.Native.Nat.{ℕ, ◌+◌, ◌-◌, ◌<◌}
use native.Mathlib.Omega.{arith}
use native.Mathlib.Nat.{add-zero, zero-add, add_assoc}
use mathlib.Core.Path.{◌≡◌, refl, sym, ◌∙◌, ap, subst}
use mathlib.Core.Bool.{Bool, true, false, cond, ◌&&◌}
use mathlib.Core.Logic.{inl, inr}
use mathlib.Core.List.{List, [], ◌∷◌, ◌++◌}
use lib.Dec.{eqb, ltb}
use lib.ListN.{length, get_or, get_or-replicate}
use borrow.Author.Tests.{le-ltb, ltb-true, ltb-false, eq-eqb, ne_eqb, eqb-true, eqb-false}
use Rattle.parts.specs.Letters.{slash, cr, stx, etx}
use Rattle.parts.proofs.Laws.{cases}
use Rattle.checksum.specs.Checksum.{xor}
use Rattle.frames.specs.declared.Place.{Place}
use Rattle.frames.specs.declared.Frame.{Frame}
use Rattle.frames.specs.declared.Framing.{Framing}
use Rattle.frames.specs.Addresses.{is_unit, unit_byte, called_of}
use Rattle.frames.specs.Receive.{Receiver, Stepped, receiver_at, receiver_of, fresh_progress, ours, begun_plain, stored, stored_for, good, heard}
use Rattle.frames.specs.Receive.{quiet, finished, begun_oem, other_byte, elsewhere, byte_received}
use Rattle.frames.proofs.Addresses.{unit_is, own, alone, low}
use Rattle.frames.proofs.Bools.{bool}
use Rattle.answers.specs.Packet.{host_address}
use Rattle.answers.specs.Reading.{good_status}
use Rattle.listening.specs.declared.UnitRecord.{UnitRecord}
use Rattle.listening.specs.declared.Finish.{Finish}
use Rattle.listening.specs.declared.Spot.{Spot}
use Rattle.listening.specs.declared.Hearing.{Hearing}
use Rattle.listening.specs.declared.Listener.{Listener}
use Rattle.listening.specs.Table.{blank_record, greatest_count, once_more, with_frame, noted}
use Rattle.listening.specs.Listen.{alone_of, after_address, may_follow, standing, other_heard, not_sum, hear_of, heard_byte, fresh_listener, listen_of}
use Rattle.listening.specs.Claims.{of_unit, table_after, up_to, is_alone, frames_alone}
use Rattle.listening.proofs.Growing.{noted-long, noted-own, noted-others}

-- whether a frame to unit u alone is finished
abbrev pub to_unit : ℕ → Finish → Bool
to_unit u Finish.Nothing = false
to_unit u (Finish.FrameTo v) = eqb v u
to_unit u (Finish.AnswerOf v s) = false

-- where the listener stands while the receiver of unit u stands there
data Beside (u : ℕ) : Spot → Place → Type 0 where
  outside : Beside u Spot.Outside Place.Outside
  address : Beside u Spot.Address Place.Address
  in-alone : (f : Finish) → to_unit u f ≡ true → Beside u (Spot.Body f) Place.Alone
  in_group : (f : Finish) → to_unit u f ≡ false → Beside u (Spot.Body f) Place.Group
  in-other : (f : Finish) → to_unit u f ≡ false → Beside u (Spot.Body f) Place.Outside
  status : Beside u Spot.AnswerStatus Place.Outside
  in-data : (s n : ℕ) → Beside u (Spot.AnswerData s n) Place.Outside
  at_end : (s : ℕ) → Beside u (Spot.AnswerEnd s) Place.Outside
  oem_address : Beside u Spot.OemAddress Place.OemAddress
  oem_sequence : (f : Finish) (w : Frame) (s : ℕ) → to_unit u f ≡ is_alone w → Beside u (Spot.OemSequence f s) (Place.OemSequence w s)
  oem-body : (f : Finish) (w : Frame) (q s : ℕ) → to_unit u f ≡ is_alone w → Beside u (Spot.OemBody f s) (Place.OemBody w q s)
  oem-status : (w : Frame) (s : ℕ) → false ≡ is_alone w → Beside u (Spot.OemStatus s) (Place.OemSequence w s)
  oem_data : (w : Frame) (q s t n : ℕ) → false ≡ is_alone w → Beside u (Spot.OemData t n s) (Place.OemBody w q s)
  oem-sum : (f : Finish) (w : Frame) (q s : ℕ) → to_unit u f ≡ is_alone w → Beside u (Spot.OemSum f s) (Place.OemSum w q s)

record Together (u : ℕ) (h : Hearing) (s : Stepped) : Type 0 where
  same : to_unit u h.finish ≡ is_alone s.frame
  on : Beside u h.ear.spot s.receiver.place

-- one test on both sides, and one on the left alone
both : {A B : Type 0} (P : A → B → Type 0) (t : Bool) {x y : A} {v w : B} → (t ≡ true → P x v) → (t ≡ false → P y w) → P (cond t x y) (cond t v w)
both P true p q = p refl
both P false p q = q refl

-- WHOM AN ADDRESS CALLS
not-alone : (u b : ℕ) → (b ≡ unit_byte u → ⊥) → (w : Frame) → called_of u b ≡ w → is_alone w ≡ false
not-alone u b other Frame.Nothing e = refl
not-alone u b other Frame.Alone e = absurd (other (alone u b e).1)
not-alone u b other Frame.Group e = refl

not_to : (u b : ℕ) → (b ≡ unit_byte u → ⊥) → to_unit u (alone_of b) ≡ false
unfolding alone_of
not_to u b other =
    cases (λ (f : Finish). to_unit u f ≡ false) (is_unit (b - 48))
    (λ e. let l = (unit_is (b - 48) e).0 in ne_eqb (b - 48) u (λ q. other (omega (arith, l, q)))) (λ e. refl)

to_own : (u : ℕ) → is_unit u ≡ true → to_unit u (alone_of (unit_byte u)) ≡ true
unfolding alone_of
to_own u is =
    let back : unit_byte u - 48 ≡ u = omega arith in
    rw (back, is) (eq-eqb u u refl)

called : (u b : ℕ) → is_unit u ≡ true → to_unit u (alone_of b) ≡ is_alone (called_of u b)
called u b is =
    elim (bool (eqb b (unit_byte u))) [
      | inl e ↦ let q = eqb-true b (unit_byte u) e in rw q (to_own u is ∙ sym (ap is_alone (own u is)))
      | inr e ↦ let other = eqb-false b (unit_byte u) e in not_to u b other ∙ sym (not-alone u b other (called_of u b) refl)
    ]

-- what is stored changes no place
stored-place : (b : ℕ) (r : Receiver) → (stored b r).place ≡ r.place
unfolding stored
stored-place b r = cases (λ (t : Receiver). t.place ≡ r.place) (ltb r.length 257) (λ e. refl) (λ e. refl)

stored_for-place : (w : Frame) (b : ℕ) (r : Receiver) → (stored_for w b r).place ≡ r.place
stored_for-place w b r = cases (λ (t : Receiver). t.place ≡ r.place) (ours w) (λ e. stored-place b r) (λ e. refl)

-- THE STEP
module _ (u : ℕ) (is : is_unit u ≡ true) (unit b : ℕ) (n : ℕ) (body : List ℕ) where
  -- nothing is finished on either side
  quietly : {spot : Spot} {r : Receiver} → Beside u spot r.place → Together u (standing spot unit) (quiet r)
  quietly s = record { same = refl; on = s }

  begun : (w : Frame) (f : Finish) (r : Receiver) → to_unit u f ≡ is_alone w → Beside u (Spot.Body f) (begun_plain w r).place
  begun Frame.Nothing f r e = in-other f e
  begun Frame.Alone f r e = in-alone f e
  begun Frame.Group f r e = in_group f e

  in-address : Together u (standing (after_address b) unit) (other_byte Place.Address u b (receiver_at Place.Address n body))
  in-address =
      cases (Together u (standing (after_address b) unit)) (eqb b cr)
      (λ e. quietly (cases (λ (s : Spot). Beside u s Place.Outside) (eqb b host_address) (λ h. status)
      (λ h. in-other (alone_of b) (called u b is ∙ ap is_alone (low u b (let q = eqb-true b cr e in omega (arith, q)))))))
      (λ e. quietly (cases (λ (s : Spot). Beside u s (begun_plain (called_of u b) (receiver_at Place.Address n body)).place) (eqb b host_address)
      (λ h. subst (λ (w : Frame). Beside u Spot.AnswerStatus (begun_plain w (receiver_at Place.Address n body)).place) (sym (low u b (let q = eqb-true b host_address h in omega (arith, q)))) status)
      (λ h. begun (called_of u b) (alone_of b) (receiver_at Place.Address n body) (called u b is))))

  -- a frame is complete on both sides
  closed : (w : Frame) (f : Finish) (g : Framing) (m : ℕ) → to_unit u f ≡ is_alone w
      → Together u (record { ear = record { spot = Spot.Outside; unit = m }; finish = f }) (finished w g (receiver_at Place.Outside n body))
  closed Frame.Nothing f g m e = record { same = e; on = outside }
  closed Frame.Alone f g m e = record { same = e; on = outside }
  closed Frame.Group f g m e = record { same = e; on = outside }

  in-stored : (f : Finish) (p : Place) → Beside u (Spot.Body f) p → Together u (standing (Spot.Body f) unit) (quiet (stored b (receiver_at p n body)))
  in-stored f p s = quietly (subst (Beside u (Spot.Body f)) (sym (stored-place b (receiver_at p n body))) s)

  heard_as : (f : Finish) (w : Frame) → to_unit u f ≡ is_alone w → to_unit u (cond (good b) f Finish.Nothing) ≡ is_alone (heard w b)
  unfolding heard
  heard_as f w e = both (λ (x : Finish) (y : Frame). to_unit u x ≡ is_alone y) (good b) (λ _. e) (λ _. refl)

  heard-none : (w : Frame) → false ≡ is_alone w → false ≡ is_alone (heard w b)
  unfolding heard
  heard-none w e = cases (λ (y : Frame). false ≡ is_alone y) (good b) (λ _. e) (λ _. refl)

  kept : (spot : Spot) (w : Frame) (q s : ℕ) → Beside u spot (Place.OemBody w q s) → Together u (standing spot unit) (quiet (stored_for w b (receiver_at (Place.OemBody w q s) n body)))
  kept spot w q s x = quietly (subst (Beside u spot) (sym (stored_for-place w b (receiver_at (Place.OemBody w q s) n body))) x)

  other : (spot : Spot) (p : Place) → Beside u spot p → Together u (other_heard spot unit b) (other_byte p u b (receiver_at p n body))
  other _ _ outside = quietly outside
  other _ _ address = in-address
  other _ _ (in-alone f e) = both (Together u) (eqb b cr) (λ _. closed Frame.Alone f Framing.Plain _ e) (λ _. in-stored f Place.Alone (in-alone f e))
  other _ _ (in_group f e) = both (Together u) (eqb b cr) (λ _. closed Frame.Group f Framing.Plain _ e) (λ _. in-stored f Place.Group (in_group f e))
  other _ _ (in-other f e) =
      cases (λ (h : Hearing). Together u h (quiet (receiver_at Place.Outside n body))) (eqb b cr) (λ _. record { same = e; on = outside }) (λ _. quietly (in-other f e))
  other _ _ status = quietly (cases (λ (s : Spot). Beside u s Place.Outside) (good_status b) (λ _. in-data b 0) (λ _. outside))
  other _ _ (in-data s m) =
      quietly (cases (λ (x : Spot). Beside u x Place.Outside) (eqb b etx) (λ _. at_end s)
      (λ _. cases (λ (x : Spot). Beside u x Place.Outside) (may_follow m b) (λ _. in-data s (m + 1)) (λ _. outside)))
  other _ _ (at_end s) =
      cases (λ (h : Hearing). Together u h (quiet (receiver_at Place.Outside n body))) (eqb b cr) (λ _. record { same = refl; on = outside }) (λ _. quietly outside)
  other _ _ oem_address =
      both (λ (s : Spot) (r : Receiver). Together u (standing s unit) (quiet r)) (eqb b etx) (λ _. quietly outside)
      (λ _. cases (λ (s : Spot). Together u (standing s unit) (quiet (receiver_at (Place.OemSequence (called_of u b) (xor stx b)) n body))) (eqb b host_address)
      (λ h. quietly (oem-status (called_of u b) (xor stx b) (sym (ap is_alone (low u b (let q = eqb-true b host_address h in omega (arith, q)))))))
      (λ h. quietly (oem_sequence (alone_of b) (called_of u b) (xor stx b) (called u b is))))
  other _ _ (oem_sequence f w s e) =
      both (λ (x : Spot) (r : Receiver). Together u (standing x unit) (quiet r)) (eqb b etx) (λ _. quietly outside)
      (λ _. quietly (oem-body (cond (good b) f Finish.Nothing) (heard w b) b (xor s b) (heard_as f w e)))
  other _ _ (oem-status w s e) =
      both (λ (x : Spot) (r : Receiver). Together u (standing x unit) (quiet r)) (eqb b etx) (λ _. quietly outside)
      (λ _. cases (λ (x : Spot). Together u (standing x unit) (quiet (begun_oem (heard w b) b (xor s b) (receiver_at (Place.OemSequence w s) n body)))) (good_status b)
      (λ _. quietly (oem_data (heard w b) b (xor s b) b 0 (heard-none w e)))
      (λ _. quietly (oem-body Finish.Nothing (heard w b) b (xor s b) (heard-none w e))))
  other _ _ (oem-body f w q s e) =
      both (λ (x : Spot) (r : Receiver). Together u (standing x unit) (quiet r)) (eqb b etx)
      (λ _. quietly (oem-sum f w q (xor s b) e)) (λ _. kept (Spot.OemBody f (xor s b)) w q (xor s b) (oem-body f w q (xor s b) e))
  other _ _ (oem_data w q s t m e) =
      both (λ (x : Spot) (r : Receiver). Together u (standing x unit) (quiet r)) (eqb b etx)
      (λ _. quietly (oem-sum (Finish.AnswerOf unit t) w q (xor s b) e))
      (λ _. cases (λ (x : Spot). Together u (standing x unit) (quiet (stored_for w b (receiver_at (Place.OemBody w q (xor s b)) n body)))) (may_follow m b)
      (λ _. kept (Spot.OemData t (m + 1) (xor s b)) w q (xor s b) (oem_data w q (xor s b) t (m + 1) e))
      (λ _. kept (Spot.OemBody Finish.Nothing (xor s b)) w q (xor s b) (oem-body Finish.Nothing w q (xor s b) e)))
  other _ _ (oem-sum f w q s e) =
      both (Together u) (eqb b s) (λ _. closed w f (Framing.Oem q) _ e) (λ _. quietly outside)

  sums : (spot : Spot) (p : Place) → Beside u spot p → not_sum spot ≡ elsewhere p
  sums _ _ outside = refl
  sums _ _ address = refl
  sums _ _ (in-alone f e) = refl
  sums _ _ (in_group f e) = refl
  sums _ _ (in-other f e) = refl
  sums _ _ status = refl
  sums _ _ (in-data s m) = refl
  sums _ _ (at_end s) = refl
  sums _ _ oem_address = refl
  sums _ _ (oem_sequence f w s e) = refl
  sums _ _ (oem-body f w q s e) = refl
  sums _ _ (oem-status w s e) = refl
  sums _ _ (oem_data w q s t m e) = refl
  sums _ _ (oem-sum f w q s e) = refl

  step : (spot : Spot) (p : Place) → Beside u spot p → Together u (hear_of (record { spot = spot; unit = unit }) b) (byte_received (receiver_at p n body) u b)
  unfolding hear_of byte_received
  step spot p s =
      rw (sums spot p s)
      (both (Together u) (eqb b slash && elsewhere p) (λ _. quietly address)
      (λ _. both (Together u) (eqb b stx && elsewhere p) (λ _. quietly oem_address) (λ _. other spot p s)))

-- THE COUNT
counted-on : (n : ℕ) → once_more (up_to n) ≡ up_to (n + 1)
counted-on n =
    elim (bool (ltb n greatest_count)) [
      | inl e ↦ elim (bool (ltb (n + 1) greatest_count)) [
        | inl f ↦ simp (e, f)
        | inr f ↦
            let l = ltb-true n greatest_count e in
            let m = ltb-false (n + 1) greatest_count f in
            let q : n + 1 ≡ greatest_count = omega (arith, l, m) in simp (e, f) q
      ]
      | inr e ↦ let m = ltb-false n greatest_count e in simp (e, le-ltb (n + 1) greatest_count (omega (arith, m)))
    ]

-- the frames of unit u's record behind what was finished
noted-frames : (u : ℕ) → is_unit u ≡ true → (t : List UnitRecord) → length t ≡ 16 → (f : Finish)
    → (of_unit u (noted t f)).frames ≡ cond (to_unit u f) (once_more (of_unit u t).frames) (of_unit u t).frames
noted-frames u is t long Finish.Nothing = refl
noted-frames u is t long (Finish.FrameTo v) =
    let (least, most) = unit_is u is in
    let within : u - 1 < length t = subst (λ (n : ℕ). u - 1 < n) (sym long) (omega (arith, least, most)) in
    let some : eqb u 0 ≡ false = ne_eqb u 0 (λ q. omega (arith, q, least)) in
    elim (bool (eqb v u)) [
      | inl e ↦
          let own_record : of_unit u (noted t (Finish.FrameTo u)) ≡ with_frame (of_unit u t) = noted-own t (Finish.FrameTo u) within ∙ rw some in
          rw e (ap (λ (k : ℕ). (of_unit u (noted t (Finish.FrameTo k))).frames) (eqb-true v u e) ∙ ap (λ (r : UnitRecord). r.frames) own_record)
      | inr e ↦ rw e (elim (bool (eqb v 0)) [
        | inl z ↦ ap (λ (k : ℕ). (of_unit u (noted t (Finish.FrameTo k))).frames) (eqb-true v 0 z)
        | inr z ↦
            let away = eqb-false v 0 z in
            ap (λ (r : UnitRecord). r.frames) (noted-others t (Finish.FrameTo v) (u - 1) (λ q. eqb-false v u e (omega (arith, q, least, away))))
      ])
    ]
noted-frames u is t long (Finish.AnswerOf v s) =
    elim (bool (eqb (u - 1) (v - 1))) [
      | inl e ↦
          let (least, most) = unit_is u is in
          let q = eqb-true (u - 1) (v - 1) e in
          let within : v - 1 < length t = subst (λ (n : ℕ). v - 1 < n) (sym long) (omega (arith, least, most, q)) in
          rw q (ap (λ (r : UnitRecord). r.frames) (noted-own t (Finish.AnswerOf v s) within)
          ∙ cases (λ (r : UnitRecord). r.frames ≡ (get_or t (v - 1) blank_record).frames) (eqb v 0) (λ _. refl) (λ _. refl))
      | inr e ↦ ap (λ (r : UnitRecord). r.frames) (noted-others t (Finish.AnswerOf v s) (u - 1) (eqb-false (u - 1) (v - 1) e))
    ]

more : (t : Bool) (m k : ℕ) → m ≡ up_to k → cond t (once_more m) m ≡ up_to (k + cond t 1 0)
more true m k e = ap once_more e ∙ counted-on k
more false m k e = e ∙ ap up_to (sym (add-zero k))

both_count : (u : ℕ) → is_unit u ≡ true → (xs : List ℕ) (l : Listener) (r : Receiver) (k : ℕ) → Beside u l.ear.spot r.place → length l.table ≡ 16
    → (of_unit u l.table).frames ≡ up_to k → (of_unit u (listen_of l xs).table).frames ≡ up_to (k + frames_alone u r xs)
unfolding listen_of frames_alone
both_count u is [] l r k s long e = e ∙ ap up_to (sym (add-zero k))
both_count u is (x ∷ xs) l r k s long e =
    let h = hear_of l.ear x in
    let next = byte_received r u x in
    let here = step u is l.ear.unit x r.length r.body l.ear.spot r.place s in
    let c : ℕ = cond (is_alone next.frame) 1 0 in
    let now : (of_unit u (noted l.table h.finish)).frames ≡ up_to (k + c)
    = noted-frames u is l.table long h.finish ∙ rw here.same (more (is_alone next.frame) (of_unit u l.table).frames k e) in
    both_count u is xs (heard_byte l x) next.receiver (k + c) here.on (noted-long l.table h.finish ∙ long) now
    ∙ ap up_to (add_assoc k c (frames_alone u next.receiver xs))

pub frames-counted : (u : ℕ) → is_unit u ≡ true → (body xs : List ℕ) → (of_unit u (table_after xs)).frames ≡ up_to (frames_alone u (receiver_of fresh_progress body) xs)
frames-counted u is body xs =
    let most = (unit_is u is).1 in
    let sum = frames_alone u (receiver_of fresh_progress body) xs in
    both_count u is xs fresh_listener (receiver_of fresh_progress body) 0 outside refl (ap (λ (r : UnitRecord). r.frames) (get_or-replicate 16 (u - 1) blank_record blank_record (omega (arith, most))))
    ∙ ap up_to (zero-add sum)

-- one byte behind others: the receiver completes a frame for its unit alone where the listener finishes one to it
byte-on : (u : ℕ) → is_unit u ≡ true → (xs : List ℕ) (b : ℕ) (l : Listener) (r : Receiver) → Beside u l.ear.spot r.place
    → frames_alone u r (xs ++ (b ∷ [])) ≡ frames_alone u r xs + cond (to_unit u (hear_of (listen_of l xs).ear b).finish) 1 0
unfolding listen_of frames_alone
byte-on u is [] b l r s =
    let here = step u is l.ear.unit b r.length r.body l.ear.spot r.place s in
    add-zero _ ∙ sym (ap (λ (t : Bool). cond t 1 0) here.same) ∙ sym (zero-add _)
byte-on u is (x ∷ xs) b l r s =
    let here = step u is l.ear.unit x r.length r.body l.ear.spot r.place s in
    let c : ℕ = cond (is_alone (byte_received r u x).frame) 1 0 in
    ap (λ (n : ℕ). c + n) (byte-on u is xs b (heard_byte l x) (byte_received r u x).receiver here.on) ∙ sym (add_assoc c _ _)

pub counted-byte : (u : ℕ) → is_unit u ≡ true → (body xs : List ℕ) (b : ℕ)
    → frames_alone u (receiver_of fresh_progress body) (xs ++ (b ∷ []))
    ≡ frames_alone u (receiver_of fresh_progress body) xs + cond (to_unit u (hear_of (listen_of fresh_listener xs).ear b).finish) 1 0
counted-byte u is body xs b = byte-on u is xs b fresh_listener (receiver_of fresh_progress body) outside
