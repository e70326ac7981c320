-- Every reached unit has a sound receiver, a number of 1 to 16 and numbers that fit, and a frame typed to it obeys its body. Assumes nothing.
use Prim.Native.Nat.{ℕ, ◌≤◌}
use mathlib.Core.Path.{◌≡◌, refl, ap, ◌∙◌}
use mathlib.Core.List.{List, []}
use mathlib.Core.Bool.{true, cond}
use native.Mathlib.Omega.{arith}
use lib.Dec.{ltb}
use lib.ListN.{length}
use lib.Seq.{take_all}
use borrow.Author.Tests.{le-ltb}
use Rattle.parts.proofs.Laws.{cases}
use Rattle.parts.specs.Letters.{cr, etx}
use Rattle.lines.proofs.TakenLaws.{no}
use Rattle.image.specs.Image.{right_length}
use Rattle.answers.specs.Packet.{packet_bytes}
use Rattle.frames.specs.declared.Frame.{Frame}
use Rattle.frames.specs.declared.Framing.{Framing}
use Rattle.frames.specs.Addresses.{is_unit, unit_byte, called_of}
use Rattle.frames.specs.Receive.{most_kept, body_in, ours, good}
use Rattle.frames.specs.Claims.{Sound, Whole, free, frame_of, oem_of, sum_of, FrameClaims}
use Rattle.obeying.specs.declared.Obeyed.{Obeyed}
use Rattle.obeying.specs.Obeying.{body_obeyed}
use Rattle.drive.specs.StartAnswer
use Rattle.drive.specs.StartAnswer.{StartAnswer}
use Rattle.drive.specs.Unit.{Drive}
use Rattle.drive.specs.Calls.{Starting, fresh_unit, start_of, received_by, body_by, frame_obeyed, obeyed_by, answer_to, Feeding, feed_taken, feed_of, Turning}
use Rattle.drive.specs.Repeats.{is_query, chosen}
use Rattle.drive.proofs.StartLaws.{started-unit}
use Rattle.stream.proofs.FitLaws.{fits_kept}
use Rattle.stream.proofs.OemLaws.{chosen_is, chosen-not}
use Rattle.keeping.proofs.CallLaws.{calls_keep}
use Rattle.runs.specs.Reach.{Call, feed, turn, after, Reached, fresh, called}
use Rattle.runs.proofs.CallLaws.{turn-cases}
use Rattle.runs.proofs.ReachLaws.{reached-keeps, reached-sound, reached_fit}
use Rattle.runs.proofs.PacketLaws.{answer_is}
use Rattle.claims.specs.Joined.{Typed, Typing, Joined}
use Rattle.claims.proofs.HeldLaws.{held-code, sets-number}

-- ---- the receiver and the number

-- a start that is not refused has a number of 1 to 16
started-number : (number : ℕ) (image body text : List ℕ) → (start_of number image body text).answer ≡ StartAnswer.start_ok → is_unit number ≡ true
unfolding start_of
started-number number image body text =
    cases (λ (s : Starting). s.answer ≡ StartAnswer.start_ok → is_unit number ≡ true) (is_unit number) (λ a e. a) (λ a e. no (cc))

module _ (frames : FrameClaims) where
  -- what is kept of a unit beside its core and text
  abbrev Ready : Drive → Type 0
  Ready u = Sound u.receiver × (is_unit u.number ≡ true)

  call_ready : (u : Drive) (c : Call) → Ready u → Ready (after c u)
  unfolding feed_of
  call_ready u (feed bytes image buffer) h =
      cases P (ltb (length buffer) packet_bytes) (λ b. h)
      (λ b. cases P (right_length image) (λ i. ((frames.receiving u.receiver u.number).sound bytes h.0, h.1)) (λ i. h))
    where
      P : Feeding → Type 0
      P r = Ready r.unit
  call_ready u (turn sample ms steps image) h = turn-cases u sample ms steps image (λ (r : Turning). Ready r.unit) (λ a. h) (λ m. h)

  reached-ready : {u : Drive} → Reached u → Ready u
  unfolding fresh_unit
  reached-ready (fresh number image body text l e) =
      rw (started-unit number image body text e) (frames.sound-fresh body l, started-number number image body text e)
  reached-ready (called {u} c r) = call_ready u c (reached-ready r)

  -- ---- a frame typed

  -- bytes that a reached unit receives as a frame for it alone, with the body b to be obeyed
  module _ {u : Drive} (r : Reached u) (framing : Framing) (b bytes image buffer : List ℕ) (room : packet_bytes ≤ length buffer) (right : right_length image ≡ true)
      (alone : (received_by u bytes).frame ≡ Frame.Alone) (framed : (received_by u bytes).framing ≡ framing)
      (counts : (received_by u bytes).consumed ≡ length bytes) (chooses : body_by u bytes ≡ b) where
    obeys : obeyed_by u bytes ≡ body_obeyed b u.core
    obeys = ap (λ (f : Frame). frame_obeyed f (body_by u bytes) u.core) alone ∙ ap (λ (x : List ℕ). body_obeyed x u.core) chooses

    fed : feed_of u bytes image buffer ≡ feed_taken (received_by u bytes) (body_by u bytes) (obeyed_by u bytes) u image buffer
    unfolding feed_of
    fed = rw (le-ltb (length buffer) packet_bytes room, right)

    heard : Typed u framing b bytes image buffer (feed_of u bytes image buffer)
    unfolding answer_to
    heard = record {
      consumed = ap (λ (f : Feeding). f.consumed) fed ∙ counts;
      core-left = ap (λ (f : Feeding). f.unit.core) fed ∙ ap (λ (o : Obeyed). o.core) obeys;
      text-left = ap (λ (f : Feeding). f.unit.text) fed ∙ rw (obeys, chooses);
      image-left = ap (λ (f : Feeding). f.image) fed ∙ rw (obeys, chooses);
      answer =
          answer_is u bytes image buffer (record { buffer_right = room; image_right = right; frame-alone = alone }) (reached-sound r) (reached_fit r)
          ∙ rw (obeys, chooses, framed);
    }

  module _ {u : Drive} (r : Reached u) where
    own : called_of u.number (unit_byte u.number) ≡ Frame.Alone
    own = frames.addresses.own u.number (reached-ready r).1

    -- a frame received whole, and what the framing chooses of its body
    whole-heard : (framing : Framing) (b body bytes image buffer : List ℕ) → Typing u body image buffer
        → Whole (called_of u.number (unit_byte u.number)) framing bytes body (received_by u bytes) → chosen u.last framing body ≡ b
        → Typed u framing b bytes image buffer (feed_of u bytes image buffer)
    whole-heard framing b body bytes image buffer t w e =
        let kept : body_in (received_by u bytes).receiver ≡ body = w.keeps ∙ take_all most_kept body (omega (arith, t.short)) in
        heard r framing b bytes image buffer t.buffer_right t.image_right (w.completes ∙ own) w.framed w.consumes
        (ap (λ (g : Framing). chosen u.last g (body_in (received_by u bytes).receiver)) w.framed ∙ ap (λ (x : List ℕ). chosen u.last framing x) kept ∙ e)

    typed : (body image buffer : List ℕ) → Typing u body image buffer → free cr body ≡ true
        → let bytes = frame_of (unit_byte u.number) body in
        Typed u Framing.Plain body bytes image buffer (feed_of u bytes image buffer)
    typed body image buffer t f =
        whole-heard Framing.Plain body body (frame_of (unit_byte u.number) body) image buffer t
        ((frames.receiving u.receiver u.number).whole (unit_byte u.number) body (reached-ready r).0 t.elsewhere_than_sum (ap ours own) f)
        (chosen-not u.last Framing.Plain body refl)

    -- an OEM frame, whatever is chosen of its body
    oem-heard : (q : ℕ) (b body image buffer : List ℕ) → Typing u body image buffer → good q ≡ true → free etx body ≡ true
        → chosen u.last (Framing.Oem q) body ≡ b
        → let bytes = oem_of (unit_byte u.number) q body (sum_of (unit_byte u.number) q body) in
        Typed u (Framing.Oem q) b bytes image buffer (feed_of u bytes image buffer)
    oem-heard q b body image buffer t g f e =
        whole-heard (Framing.Oem q) b body (oem_of (unit_byte u.number) q body (sum_of (unit_byte u.number) q body)) image buffer t
        ((frames.receiving u.receiver u.number).whole-oem (unit_byte u.number) q body (reached-ready r).0 t.elsewhere_than_sum (ap ours own) g f) e

  pub joined : {u : Drive} → Reached u → Joined u
  joined {u} r = record {
    fits = reached-keeps (calls_keep fits_kept) r;
    sound = (reached-ready r).0;
    numbered = (reached-ready r).1;
    held-code = held-code r;
    sets-number = sets-number r;
    typed = typed r;
    typed-oem = λ q body image buffer t g f e. oem-heard r q body body image buffer t g f (chosen-not u.last (Framing.Oem q) body e);
    repeated = λ q body image buffer t g f e. oem-heard r q (cond (is_query body) body []) body image buffer t g f (chosen_is u.last (Framing.Oem q) body e);
  }
