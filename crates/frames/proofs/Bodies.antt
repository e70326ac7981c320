-- The body of a frame: its bytes are stored one after the other, up to the most that is kept.
-- Assumes nothing.
use Prim.Native.Nat.{ℕ, suc, ◌+◌, ◌-◌, ◌≤◌, ◌<◌}
use native.Mathlib.Nat.{add-zero, zero-add, add-suc, suc-add}
use native.Mathlib.Numerals.{add-one}
use native.Mathlib.Omega.{arith}
use mathlib.Core.Path.{◌≡◌, refl, ap, sym, ◌∙◌}
use mathlib.Core.Bool.{true, false, and-eq-true_iff, true≢false}
use mathlib.Core.Logic.{inl, inr}
use mathlib.Core.List.{List, [], ◌∷◌, ◌++◌}
use lib.ListN.{length, take, drop, set, length-append, length-take, length-drop, take-append-drop}
use lib.Seq.{sets, sets-eq, take-append_seam}
use lib.Dec.{eqb, leb, ltb}
use borrow.Author.Tests.{lt-ltb, le-ltb, leb-true, eq-eqb, ne_eqb}
use Rattle.checksum.specs.Checksum.{xor}
use Rattle.frames.specs.declared.Place.{Place}
use Rattle.frames.specs.declared.Frame.{Frame}
use Rattle.frames.specs.declared.Framing.{Framing}
use Rattle.frames.specs.Addresses.{unit_byte, called_of}
use Rattle.parts.specs.Letters.{slash, cr, stx, etx}
use Rattle.frames.specs.Receive.{Receiver, Received, most_kept, body_in, ours, receiver_at, placed, quiet, finished}
use Rattle.frames.specs.Receive.{begun_plain, stored, good, heard, begun_oem, elsewhere, byte_received, past, ended_here, receive_of}
use Rattle.frames.specs.Pieces.{completed}
use Rattle.frames.specs.Claims.{free, frame_of, oem_of, sum_of, Sound, Whole, Skipped}
use Rattle.frames.proofs.Bools.{bool}
use Rattle.frames.proofs.Steps.{free-cons, begins-plain, step_address, step-inside}
use Rattle.frames.proofs.Addresses.{low}
use Rattle.frames.proofs.Stream.{past-zero, past_more, receive_quiet, something}
use Rattle.frames.proofs.Oem.{stored_all_for, before-sum, oem_is, sum-ends, length-oem}

-- body bytes one after the other
abbrev stored_all : List ℕ → Receiver → Receiver
stored_all [] r = r
stored_all (b ∷ bs) r = stored_all bs (stored b r)

pub stored-place : (b : ℕ) (r : Receiver) → (stored b r).place ≡ r.place
unfolding stored
stored-place b r = elim (bool (ltb r.length most_kept)) [ inl e ↦ simp e | inr e ↦ simp e ]

stored_all_place : (bs : List ℕ) (r : Receiver) → (stored_all bs r).place ≡ r.place
stored_all_place [] r = refl
stored_all_place (b ∷ bs) r = stored_all_place bs (stored b r) ∙ stored-place b r

-- where the body fits, it stands at its place
fits : (p : Place) (n : ℕ) (xs bs : List ℕ) → n + length bs ≤ most_kept
    → stored_all bs (receiver_at p n xs) ≡ receiver_at p (n + length bs) (sets xs n bs)
unfolding stored
fits p n xs [] h = rw add-zero
fits p n xs (b ∷ bs) h =
    rw (lt-ltb n most_kept (omega arith), add-one) (fits p (suc n) (set xs n b) bs (omega arith) ∙ rw (suc-add, add-suc))

-- from there on no byte is kept
over : (p : Place) (n : ℕ) (xs bs : List ℕ) → (0 < length bs → most_kept ≤ n) → stored_all bs (receiver_at p n xs) ≡ receiver_at p n xs
unfolding stored
over p n xs [] h = refl
over p n xs (b ∷ bs) h = let l : most_kept ≤ n = h (omega arith) in rw (le-ltb n most_kept l) (over p n xs bs (λ _. l))

stored_all_append : (bs cs : List ℕ) (r : Receiver) → stored_all (bs ++ cs) r ≡ stored_all cs (stored_all bs r)
stored_all_append [] cs r = refl
stored_all_append (b ∷ bs) cs r = stored_all_append bs cs (stored b r)

-- a body that begins in 257 bytes
kept : (p : Place) (xs bs : List ℕ) → length xs ≡ most_kept → body_in (stored_all bs (receiver_at p 0 xs)) ≡ take most_kept bs
kept p xs bs f =
    let head = take most_kept bs in
    let tail = drop most_kept bs in
    let n : length head ≤ most_kept = rw (length-take most_kept bs) (omega arith) in
    let full : 0 < length tail → most_kept ≤ length head =
    λ h. let l : 0 < length bs - most_kept = rw (← length-drop most_kept bs) h in rw (length-take most_kept bs) (omega arith) in
    let laid : sets xs 0 head ≡ head ++ drop (0 + length head) xs = sets-eq head xs 0 (omega arith) in
    let stays : stored_all bs (receiver_at p 0 xs) ≡ receiver_at p (0 + length head) (sets xs 0 head) =
    ap (λ (l : List ℕ). stored_all l (receiver_at p 0 xs)) (sym (take-append-drop most_kept bs))
    ∙ stored_all_append head tail (receiver_at p 0 xs)
    ∙ ap (stored_all tail) (fits p 0 xs head (omega arith))
    ∙ over p (0 + length head) (sets xs 0 head) tail (λ h. rw zero-add (full h)) in
    rw (stays, zero-add, laid) (take-append_seam head _)

-- what is kept of a whole body, in a receiver that has begun it at p
module _ (p : Place) (xs body : List ℕ) (f : length xs ≡ most_kept) where
  pub whole-body : (kind : Frame) (g : Framing) (bytes : List ℕ)
      → Whole kind g bytes body
      (record {
        receiver = placed Place.Outside (stored_all body (receiver_at p 0 xs));
        consumed = length bytes;
        frame = kind;
        framing = g;
      })
  whole-body kind g bytes =
      record { completes = refl; framed = refl; consumes = refl; leaves = refl; keeps = kept p xs body f }

-- an address byte that calls is none of the bytes below 31 hex: those call nobody
calls : (u a b : ℕ) → b ≤ unit_byte 0 → ours (called_of u a) ≡ true → eqb a b ≡ false
calls u a b h o = ne_eqb a b (λ e. something o (low u a (omega arith)))

-- THE PLAIN FRAME
-- the bytes of a body, from a receiver in it
body-goes : (r : Receiver) (u : ℕ) (bs ys : List ℕ) → ours (completed r.place) ≡ true → free cr bs ≡ true
    → receive_of r u (bs ++ ys) ≡ past (length bs) (receive_of (stored_all bs r) u ys)
body-goes r u [] ys i f = sym (past-zero _)
body-goes r u (b ∷ bs) ys i f =
    let (s, t, c, g) = free-cons cr b bs f in
    receive_quiet r u b (bs ++ ys) (step-inside r u b i s t c)
    ∙ rw (body-goes (stored b r) u bs ys (rw (stored-place b r) i) g) (past_more (length bs) _)

-- its CR
body-ends : (p : Place) (r : Receiver) (u : ℕ) → ours (completed p) ≡ true
    → receive_of (placed p r) u (cr ∷ [])
    ≡ record { receiver = placed Place.Outside r; consumed = 1; frame = completed p; framing = Framing.Plain }
unfolding byte_received receive_of
body-ends Place.Outside r u i = absurd (true≢false (sym i))
body-ends Place.Address r u i = absurd (true≢false (sym i))
body-ends Place.Alone r u i = refl
body-ends Place.Group r u i = refl
body-ends Place.OemAddress r u i = absurd (true≢false (sym i))
body-ends (Place.OemSequence w s) r u i = absurd (true≢false (sym i))
body-ends (Place.OemBody w q s) r u i = absurd (true≢false (sym i))
body-ends (Place.OemSum w q s) r u i = absurd (true≢false (sym i))

-- a whole frame, once its address byte has begun a body at p
whole_is : (p : Place) (r : Receiver) (u a : ℕ) (body : List ℕ) → elsewhere r.place ≡ true
    → ours (completed p) ≡ true → free cr body ≡ true
    → byte_received (placed Place.Address r) u a ≡ quiet (receiver_at p 0 r.body)
    → receive_of r u (frame_of a body)
    ≡ record {
      receiver = placed Place.Outside (stored_all body (receiver_at p 0 r.body));
      consumed = length (frame_of a body);
      frame = completed p;
      framing = Framing.Plain;
    }
whole_is p r u a body l i q e =
    let s = stored_all body (receiver_at p 0 r.body) in
    let h : s.place ≡ p = stored_all_place body (receiver_at p 0 r.body) in
    let at : placed p s ≡ s = ap (λ (t : Place). placed t s) (sym h) in
    receive_quiet r u slash (a ∷ (body ++ (cr ∷ []))) (begins-plain r u l)
    ∙ ap (past 1) (receive_quiet (placed Place.Address r) u a (body ++ (cr ∷ [])) e)
    ∙ ap (λ (f : Received). past 1 (past 1 f)) (body-goes (receiver_at p 0 r.body) u body (cr ∷ []) i q)
    ∙ ap (λ (t : Receiver). past 1 (past 1 (past (length body) (receive_of t u (cr ∷ []))))) (sym at)
    ∙ ap (λ (f : Received). past 1 (past 1 (past (length body) f))) (body-ends p s u i)
    ∙ ap (λ (k : ℕ). record { receiver = placed Place.Outside s; consumed = k; frame = completed p; framing = Framing.Plain })
    (omega (arith, length-append body (cr ∷ [])))

whole_at : (p : Place) (r : Receiver) (u a : ℕ) (body : List ℕ) → Sound r → elsewhere r.place ≡ true
    → ours (completed p) ≡ true → free cr body ≡ true
    → byte_received (placed Place.Address r) u a ≡ quiet (receiver_at p 0 r.body)
    → Whole (completed p) Framing.Plain (frame_of a body) body (receive_of r u (frame_of a body))
whole_at p r u a body s l i q e =
    rw (whole_is p r u a body l i q e)
    (whole-body p r.body body s.full (completed p) Framing.Plain (frame_of a body))

called_at : (c : Frame) (r : Receiver) (u a : ℕ) (body : List ℕ) → Sound r → elsewhere r.place ≡ true
    → free cr body ≡ true
    → byte_received (placed Place.Address r) u a ≡ quiet (begun_plain c (placed Place.Address r)) → ours c ≡ true
    → Whole c Framing.Plain (frame_of a body) body (receive_of r u (frame_of a body))
called_at Frame.Nothing r u a body s l q e o = absurd (true≢false (sym o))
called_at Frame.Alone r u a body s l q e o = whole_at Place.Alone r u a body s l refl q e
called_at Frame.Group r u a body s l q e o = whole_at Place.Group r u a body s l refl q e

pub whole : (r : Receiver) (u a : ℕ) (body : List ℕ) → Sound r → elsewhere r.place ≡ true
    → ours (called_of u a) ≡ true → free cr body ≡ true
    → Whole (called_of u a) Framing.Plain (frame_of a body) body (receive_of r u (frame_of a body))
whole r u a body s l o q =
    called_at (called_of u a) r u a body s l q
    (step_address r u a (calls u a slash (omega arith) o) (calls u a stx (omega arith) o) (calls u a cr (omega arith) o))
    o

-- THE OEM FRAME
-- what is stored for this unit or its groups
all-stored : (w : Frame) (q s : ℕ) (bs : List ℕ) (r : Receiver) → ours w ≡ true
    → stored_all_for w bs (begun_oem w q s r) ≡ stored_all bs (receiver_at (Place.OemBody w q s) 0 r.body)
all-stored w q s bs r o = rw o (go bs (receiver_at (Place.OemBody w q s) 0 r.body))
  where
    go : (bs : List ℕ) (t : Receiver) → stored_all_for w bs t ≡ stored_all bs t
    go [] t = refl
    go (b ∷ bs) t = rw o (go bs (stored b t))

-- a frame for this unit or its groups is free of 2F, 02 and 03 up to its body: a good sequence byte is none of them
heard-free : (u a q : ℕ) (body : List ℕ) → ours (called_of u a) ≡ true → good q ≡ true → free etx body ≡ true
    → free etx (a ∷ q ∷ body) ≡ true
heard-free u a q body o g f =
    let l : 0x30 ≤ q = leb-true 0x30 q ((and-eq-true_iff (leb 0x30 q) (leb q 0x3F)).0 g).0 in
    simp (
      calls u a slash (omega arith) o,
      calls u a stx (omega arith) o,
      calls u a etx (omega arith) o,
      ne_eqb q slash (λ e. omega arith),
      ne_eqb q stx (λ e. omega arith),
      ne_eqb q etx (λ e. omega arith),
      f,
    )

heard-good : (w : Frame) (q : ℕ) → good q ≡ true → heard w q ≡ w
unfolding heard
heard-good w q g = rw g

finished_is : (w : Frame) (g : Framing) (r : Receiver) → ours w ≡ true
    → finished w g r ≡ record { receiver = r; frame = w; framing = g }
finished_is Frame.Nothing g r o = absurd (true≢false (sym o))
finished_is Frame.Alone g r o = refl
finished_is Frame.Group g r o = refl

whole-oem_is : (w : Frame) (r : Receiver) (u a q : ℕ) (body : List ℕ) → elsewhere r.place ≡ true → ours w ≡ true
    → heard (called_of u a) q ≡ w → free etx (a ∷ q ∷ body) ≡ true
    → receive_of r u (oem_of a q body (sum_of a q body))
    ≡ record {
      receiver = placed Place.Outside (stored_all body (receiver_at (Place.OemBody w q (xor (xor stx a) q)) 0 r.body));
      consumed = length (oem_of a q body (sum_of a q body));
      frame = w;
      framing = Framing.Oem q;
    }
whole-oem_is w r u a q body l o h f =
    let c = sum_of a q body in
    let s = xor (xor stx a) q in
    let t = stored_all body (receiver_at (Place.OemBody w q s) 0 r.body) in
    let at : before-sum r u a q body ≡ placed (Place.OemSum w q c) t =
    rw h (ap (placed (Place.OemSum w q c)) (all-stored w q s body r o)) in
    oem_is r u a q body c l f
    ∙ ap (λ (y : Receiver). past (length body + 4) (receive_of y u (c ∷ []))) at
    ∙ ap (past (length body + 4))
    (sum-ends t u w q c c ∙ rw (eq-eqb c c refl) (ap ended_here (finished_is w (Framing.Oem q) (placed Place.Outside t) o)))
    ∙ ap (λ (k : ℕ). record { receiver = placed Place.Outside t; consumed = k; frame = w; framing = Framing.Oem q })
    (sym (length-oem a q body c))

pub whole-oem : (r : Receiver) (u a q : ℕ) (body : List ℕ) → Sound r → elsewhere r.place ≡ true
    → ours (called_of u a) ≡ true → good q ≡ true → free etx body ≡ true
    → Whole (called_of u a) (Framing.Oem q) (oem_of a q body (sum_of a q body)) body
    (receive_of r u (oem_of a q body (sum_of a q body)))
whole-oem r u a q body s l o g f =
    rw (whole-oem_is (called_of u a) r u a q body l o (heard-good (called_of u a) q g) (heard-free u a q body o g f))
    (whole-body (Place.OemBody (called_of u a) q (xor (xor stx a) q)) r.body body s.full (called_of u a) (Framing.Oem q)
    (oem_of a q body (sum_of a q body)))

-- a wrong checksum
pub wrong-sum : (r : Receiver) (u a q : ℕ) (body : List ℕ) (c : ℕ) → elsewhere r.place ≡ true
    → free etx (a ∷ q ∷ body) ≡ true → (c ≡ sum_of a q body → ⊥)
    → Skipped (oem_of a q body c) (receive_of r u (oem_of a q body c))
wrong-sum r u a q body c l f n =
    let w = heard (called_of u a) q in
    let t = stored_all_for w body (begun_oem w q (xor (xor stx a) q) r) in
    let e : receive_of r u (oem_of a q body c) ≡ past (length body + 4) (ended_here (quiet (placed Place.Outside t))) =
    oem_is r u a q body c l f
    ∙ ap (past (length body + 4)) (sum-ends t u w q (sum_of a q body) c ∙ rw (ne_eqb c (sum_of a q body) n)) in
    rw e (record { nothing = refl; consumes = sym (length-oem a q body c); leaves = refl })
