-- A feed call from its steps: how it is answered, what is heard, what a frame makes of it.
-- Assumes nothing.
use Prim.Native.Nat.{ℕ, ◌≤◌}
use mathlib.Core.Path.{◌≡◌, refl, ap, ◌∙◌}
use mathlib.Core.List.{List, []}
use mathlib.Core.Bool.{Bool, true, false, not}
use native.Mathlib.Omega.{arith}
use lib.ListN.{length}
use lib.Dec.{ltb}
use borrow.Author.Tests.{ltb-false}
use Rattle.parts.specs.Parts.{put_in}
use Rattle.parts.proofs.Laws.{put_in_room, put_front}
use Rattle.image.specs.Image.{right_length}
use Rattle.answers.specs.Packet.{packet_bytes, status_of}
use Rattle.frames.specs.declared.Frame.{Frame}
use Rattle.frames.specs.declared.Framing.{Framing}
use Rattle.frames.specs.declared.Heard.{Heard}
use Rattle.frames.specs.Receive.{Received, receiver_of, heard_with, receive_of}
use Rattle.turns.specs.declared.Core.{Core}
use Rattle.obeying.specs.declared.Obeyed.{Obeyed}
use Rattle.obeying.specs.Obeying.{data_of, body_obeyed}
use Rattle.obeying.specs.Deeds.{Obeys, tells, nothing-told}
use Rattle.obeying.proofs.DeedLaws.{body-does}
use Rattle.std.specs.Prelude.{Option, Ok, Err}
use Rattle.drive.specs.declared.Record.{Record}
use Rattle.drive.specs.declared.FeedRefused.{FeedRefused}
use Rattle.drive.specs.FeedAnswer
use Rattle.drive.specs.FeedAnswer.{FeedAnswer}
use Rattle.drive.specs.Unit.{Drive, unit_of}
use Rattle.drive.specs.Calls.{Feeding, feed_refused, received_by, frame_obeyed, body_for, body_by, received_obeyed, obeyed_by, packet_as, answer_to, answer_for, feed_taken, feed_of}
use Rattle.drive.specs.Repeats.{last_after}
use Rattle.drive.specs.Promises.{fed_taken}
use Rattle.drive.specs.Steps.{feed_answer, WriteDone, PacketOf, sent_to, AnsweredIs}

-- ---- a frame obeyed

pub frame-does : (f : Frame) (body : List ℕ) (c : Core) → Obeys body c (frame_obeyed f body c)
frame-does Frame.Nothing body c = tells _ nothing-told
frame-does Frame.Alone body c = body-does body c
frame-does Frame.Group body c = body-does body c

-- a frame was completed
completed : (f : Frame) (body : List ℕ) (c : Core) → (f ≡ Frame.Nothing → ⊥) → body_obeyed body c ≡ frame_obeyed f body c
completed Frame.Nothing body c k = absurd (k refl)
completed Frame.Alone body c k = refl
completed Frame.Group body c k = refl

-- ---- what answers

-- nothing written changes nothing
pub put-nothing : (xs : List ℕ) → put_in xs 0 [] ≡ xs
put-nothing xs = put_in_room xs 0 [] (omega arith) ∙ put_front xs []

pub answers-none : {f : Frame} {p buffer : List ℕ} → sent_to f p ≡ [] → AnsweredIs f p buffer 0 buffer
answers-none {buffer = buffer} e = record { answers = rw e; leaves = rw (e, put-nothing buffer) }

pub answers-alone : {f : Frame} {g : Framing} {status : ℕ} {bytes buffer after : List ℕ} {n : ℕ} → f ≡ Frame.Alone
    → PacketOf g status bytes buffer n after
    → AnsweredIs f (packet_as g status bytes) buffer n after
answers-alone e p = record { answers = rw e p.answers; leaves = rw e p.leaves }

sent_answer : (f : Frame) (g : Framing) (o : Obeyed) (text : List ℕ) → sent_to f (answer_to g o text) ≡ answer_for f g o text
sent_answer Frame.Nothing g o text = refl
sent_answer Frame.Alone g o text = refl
sent_answer Frame.Group g o text = refl

-- the packet of what was obeyed, from its parts
pub answer_parts : {f : Frame} (g : Framing) (o : Obeyed) (text : List ℕ) {status : ℕ} {buffer after : List ℕ} {n : ℕ}
    → status ≡ status_of (not o.core.running) o.code
    → AnsweredIs f (packet_as g status (data_of o.tell o.core.flow.length text)) buffer n after
    → AnsweredIs f (answer_to g o text) buffer n after
unfolding answer_to
answer_parts g o text e a = rw (← e) a

-- ---- the call

module _ (u : Drive) (bytes image buffer : List ℕ) where
  abbrev taken : Feeding
  taken = feed_taken (received_by u bytes) (body_by u bytes) (obeyed_by u bytes) u image buffer

  abbrev by_answer : FeedAnswer → Feeding
  by_answer (Ok done) = taken
  by_answer (Err why) = feed_refused (Err why) u image buffer

  answered_by_lem : by_answer (feed_answer image buffer) ≡ feed_of u bytes image buffer
  unfolding feed_of
  answered_by_lem = short (ltb (length buffer) packet_bytes) refl
    where
      wrong : ltb (length buffer) packet_bytes ≡ false → (w : Bool) → right_length image ≡ w → by_answer (feed_answer image buffer) ≡ feed_of u bytes image buffer
      wrong t true w = rw (t, w)
      wrong t false w = rw (t, w)

      short : (b : Bool) → ltb (length buffer) packet_bytes ≡ b → by_answer (feed_answer image buffer) ≡ feed_of u bytes image buffer
      short true t = rw t
      short false t = wrong t (right_length image) refl

  pub fed-refused : (why : FeedRefused) → Err why ≡ feed_answer image buffer → feed_refused (Err why) u image buffer ≡ feed_of u bytes image buffer
  fed-refused why e = rw (← e) at answered_by_lem

  pub fed-taken : FeedAnswer.feed_ok ≡ feed_answer image buffer → taken ≡ feed_of u bytes image buffer
  fed-taken e = rw (← e) at answered_by_lem

-- a call that is taken has room for the longest packet
pub room-there : (image buffer : List ℕ) → FeedAnswer.feed_ok ≡ feed_answer image buffer → packet_bytes ≤ length buffer
room-there image buffer e = go (ltb (length buffer) packet_bytes) refl
  where
    go : (b : Bool) → ltb (length buffer) packet_bytes ≡ b → packet_bytes ≤ length buffer
    go false t = ltb-false (length buffer) packet_bytes t
    go true t = let same : FeedAnswer.feed_ok ≡ FeedAnswer.feed_buffer_short = rw t at e in let z : ◌≡◌ {A = ℕ} 0 1 = cc in omega arith

module _ (u : Record) (h : Heard) (body text image buffer : List ℕ) where
  -- a completed frame from its steps
  pub frame-fed : {kept text' image' buffer' : List ℕ} {o : Obeyed} {n : ℕ} {last : Option ℕ} → kept ≡ body_for u.last (heard_with h body)
      → o ≡ body_obeyed kept u.core
      → WriteDone o.write kept text image text' image' → AnsweredIs h.frame (answer_to h.framing o text') buffer n buffer'
      → last ≡ last_after h.frame h.framing o.code u.last
      → fed_taken
      (record {
        unit = record { core = o.core; progress = h.progress; number = u.number; last = last };
        consumed = h.consumed;
        answered = n;
      })
      body text' image' buffer'
      ≡ feed_taken (heard_with h body) (body_for u.last (heard_with h body)) (body_obeyed (body_for u.last (heard_with h body)) u.core) (unit_of u body text)
      image buffer
  frame-fed {text' = text'} {o = o} k e w a l = rw (l, a.answers, a.leaves, sent_answer h.frame h.framing o text', w.to_text, w.to_image, e, k)

  -- none completed: nothing but the receiver changes
  pub nothing-fed : h.frame ≡ Frame.Nothing
      → fed_taken
      (record {
        unit = record { core = u.core; progress = h.progress; number = u.number; last = u.last };
        consumed = h.consumed;
        answered = 0;
      })
      body text image buffer
      ≡ feed_taken (heard_with h body) (body_for u.last (heard_with h body)) (received_obeyed u.last (heard_with h body) u.core) (unit_of u body text) image
      buffer
  nothing-fed f = rw (f, put-nothing buffer)

module _ (u : Record) (body text bytes image buffer : List ℕ) {after : List ℕ} {h : Heard} where
  -- what was heard is what the definition receives
  pub fed-heard : FeedAnswer.feed_ok ≡ feed_answer image buffer → heard_with h after ≡ receive_of (receiver_of u.progress body) u.number bytes
      → feed_taken (heard_with h after) (body_for u.last (heard_with h after)) (received_obeyed u.last (heard_with h after) u.core) (unit_of u after text)
      image buffer
      ≡ feed_of (unit_of u body text) bytes image buffer
  fed-heard a w =
      ap (λ (r : Received). feed_taken r (body_for u.last r) (received_obeyed u.last r u.core) (unit_of u body text) image buffer) w
      ∙ fed-taken (unit_of u body text) bytes image buffer a

  pub fed-frame : FeedAnswer.feed_ok ≡ feed_answer image buffer → heard_with h after ≡ receive_of (receiver_of u.progress body) u.number bytes
      → (h.frame ≡ Frame.Nothing → ⊥)
      → feed_taken (heard_with h after) (body_for u.last (heard_with h after)) (body_obeyed (body_for u.last (heard_with h after)) u.core)
      (unit_of u after text) image buffer
      ≡ feed_of (unit_of u body text) bytes image buffer
  fed-frame a w k = rw (completed h.frame (body_for u.last (heard_with h after)) u.core k) (fed-heard a w)
