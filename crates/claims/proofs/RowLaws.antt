-- The outcomes of start, feed and turn: the definitions make their tests in the order of 01's table.
-- Assumes nothing.
use Rattle.std.specs.Prelude.{Option, Some, None, Result, Ok, Err, IsOk, is_err}
use Prim.Native.Nat.{ℕ, zero, suc, ◌≤◌}
use Prim.Native.String.{String}
use mathlib.Core.Path.{◌≡◌, refl, sym, ap, ◌∙◌}
use mathlib.Core.List.{List, [], ◌∷◌, ◌++◌}
use mathlib.Core.Bool.{Bool, true, false, ◌||◌, and-eq-true_iff, false≢true}
use native.Mathlib.Omega.{arith}
use lib.ListN.{length, drop}
use lib.Dec.{eqb}
use borrow.Author.Tests.{lt-ltb, le-ltb, le-leb, eq-eqb, ne_eqb}
use Rattle.parts.specs.Parts.{put_in, most_bytes}
use Rattle.parts.proofs.Laws.{put_front, put_in_room}
use Rattle.digits.specs.Operand.{operand_most, few_digits}
use Rattle.commands.specs.Table as table
use Rattle.commands.proofs.TableLaws.{each, each-one}
use Rattle.lines.specs.Texts.{text_good, older_good}
use Rattle.lines.proofs.FewLaws.{good-now}
use Rattle.frames.specs.declared.Frame.{Frame}
use Rattle.frames.specs.declared.Framing.{Framing}
use Rattle.frames.specs.Addresses.{is_unit}
use Rattle.frames.proofs.Addresses.{unit_is}
use Rattle.answers.specs.Packet.{packet_bytes}
use Rattle.ramp.specs.declared.Figures.{Figures}
use Rattle.ramp.specs.declared.Refused.{Refused}
use Rattle.ramp.specs.declared.Refused.TheVariants.{V, L, N}
use Rattle.ramp.specs.Ranges.{NWithin}
use Rattle.ramp.specs.Ramp.{figures_of, verdict_name}
use Rattle.ramp.specs.Claims.{When, Verdicts}
use Rattle.obeying.specs.Obeying.{place_told, data_of}
use Rattle.turns.specs.Turns.{fresh_core}
use Rattle.drive.specs.Unit.{Drive}
use Rattle.drive.specs.Repeats.{is_refusal, numbered_by}
use Rattle.drive.specs.StartAnswer
use Rattle.drive.specs.StartAnswer.{StartAnswer}
use Rattle.drive.specs.FeedAnswer
use Rattle.drive.specs.FeedAnswer.{FeedAnswer}
use Rattle.drive.specs.TurnAnswer
use Rattle.drive.specs.TurnAnswer.{TurnAnswer}
use Rattle.drive.specs.Names.{start_name, feed_name, turn_name}
use Rattle.drive.specs.Calls.{no_unit, fresh_unit, starting, start_of, received_by, body_by, packet_as, answer_to, feed_refused, feed_of, turn_refused, turn_of}
use Rattle.drive.proofs.AnswerLaws.{packet-fits}
use Rattle.drive.proofs.FeedLaws.{put-nothing}
use Rattle.claims.specs.Images.{EverySlot}
use Rattle.claims.specs.Demand1.{From, StartRefused, StartRow, FrameRefused, frame_fault, frame_code, place_data, refusal_packet, FeedRefused, FeedRow, OrderRow, TurnRefused, TurnRow, RampRefused, RampRow}
use Rattle.claims.proofs.ImageLaws.{so_every, not_every}
use Rattle.claims.proofs.OrderLaws.{order_row}

-- ---- start

pub from-unit : (number : ℕ) → From 1 16 number → is_unit number ≡ true
from-unit number h = rw (le-leb 1 number h.0, le-leb number 16 h.1)

from_no_unit : (number : ℕ) → (From 1 16 number → ⊥) → is_unit number ≡ false
from_no_unit number n = go (is_unit number) refl
  where
    go : (b : Bool) → is_unit number ≡ b → b ≡ false
    go true e = absurd (n (unit_is number e))
    go false e = refl

-- what the check of texts finds good, it found good before
before : (t : List ℕ) → text_good t ≡ true → older_good t ≡ true
before t h = ((and-eq-true_iff (older_good t) (few_digits operand_most t)).0 (sym (good-now t) ∙ h)).0

slots-before : (image : List ℕ) → EverySlot text_good image → EverySlot older_good image
slots-before image h k l =
    let g = h k l in
    record { start = g.start; fits = g.fits; passes = before _ g.passes; unused = g.unused }

module _ (name : String) (a : StartAnswer) (body text : List ℕ) where
  refused-start : start_name a ≡ name → StartRefused name body text (starting a (no_unit body text))
  unfolding no_unit fresh_core
  refused-start e = record { named = e; number_0 = refl; idle = refl; body_same = refl; text_same = refl }

pub start-row : (number : ℕ) (image body text : List ℕ) → StartRow number image body text
unfolding start_of fresh_unit
start-row number image body text = record {
  unit-number = λ n. rw (from_no_unit number n) (refused-start _ StartAnswer.start_unit_number body text refl);
  image-length = λ n l. rw (from-unit number n, ne_eqb (length image) 4160 l) (refused-start _ StartAnswer.start_image_length body text refl);
  image-bad = λ n l g. rw (from-unit number n, eq-eqb (length image) 4160 l, not_every most_bytes image l g) (refused-start _ StartAnswer.start_image_bad body text refl);
  started = λ n l g. rw (from-unit number n, eq-eqb (length image) 4160 l, so_every most_bytes image l g) (refl, refl);
  good-starts = λ n l g. rw (from-unit number n, eq-eqb (length image) 4160 l, so_every most_bytes image l (slots-before image g));
}

-- ---- turn

refused-turn : (name : String) (a : TurnAnswer) (u : Drive) → turn_name a ≡ name → TurnRefused name u (turn_refused a u)
refused-turn name a u e = record { named = e; unit-same = refl; no_direction = refl; number_0 = refl }

pub turn-row : (u : Drive) (sample ms steps : ℕ) (image : List ℕ) → TurnRow u sample ms steps image
unfolding turn_of
turn-row u sample ms steps image =
    let last : ℕ = u.core.motor.last.number in
    record {
      image-length = λ l. rw (ne_eqb (length image) 4160 l) (refused-turn _ TurnAnswer.turn_image_length u refl);
      sample-high = λ l s. rw (eq-eqb (length image) 4160 l, lt-ltb 15 sample s) (refused-turn _ TurnAnswer.turn_sample u refl);
      steps-many = λ l s m. rw (eq-eqb (length image) 4160 l, le-ltb 15 sample s, lt-ltb last steps m) (refused-turn _ TurnAnswer.turn_steps u refl);
      taken = λ l s m. rw (eq-eqb (length image) 4160 l, le-ltb 15 sample s, le-ltb last steps m);
    }

-- ---- ramp

n_within : (steps : Option ℕ) → ((n : ℕ) → steps ≡ Some n → From 1 2147483647 n) → NWithin steps
n_within None h = tt
n_within (Some n) h = h n refl

taken_name : (r : Result Figures Refused) → IsOk r → verdict_name r ≡ "taken"
taken_name (Ok f) h = refl
taken_name (Err why) h = absurd (false≢true h)

pub ramp-row : ((v l : ℕ) (steps : Option ℕ) → Verdicts v l steps (figures_of v l steps)) → (v l : ℕ) (steps : Option ℕ) → RampRow v l steps
ramp-row outcome v l steps = record {
  v_outside = λ a. no V _ refl a;
  l_outside = λ a b. no L _ refl (a, b);
  n_outside = λ n a b e d. no N _ refl (a, b, rw e d);
  taken = λ a b d. taken_name _ ((outcome v l steps).taken.1 (record { within_v = a; within_l = b; within_n = n_within steps d }));
}
  where
    no : (why : Refused) (name : String) → verdict_name (Err why) ≡ name → When why v l steps → RampRefused name (figures_of v l steps)
    no why name e w =
        let q = ((outcome v l steps).exactly-when why).1 w in
        record { named = ap verdict_name q ∙ e; zeros = ((outcome v l steps).refused (ap is_err q)).zero }

-- ---- feed

refused-feed : (name : String) (a : FeedAnswer) (u : Drive) (image buffer : List ℕ) → feed_name a ≡ name → FeedRefused name u image buffer (feed_refused a u image buffer)
refused-feed name a u image buffer e =
    record { named = e; none-consumed = refl; none-answered = refl; unit-same = refl; image-same = refl; buffer-same = refl }

-- a packet of at most three digits at the front of a buffer of 262 bytes
front : (g : Framing) (status : ℕ) (bytes buffer : List ℕ) → length bytes ≤ 3 → packet_bytes ≤ length buffer
    → put_in buffer 0 (packet_as g status bytes) ≡ packet_as g status bytes ++ drop (length (packet_as g status bytes)) buffer
front g status bytes buffer h l =
    put_in_room buffer 0 (packet_as g status bytes) (omega (arith, (packet-fits g status bytes (omega arith)).1)) ∙ put_front buffer (packet_as g status bytes)

-- a place as it is told
told-place : (p n : ℕ) (text : List ℕ) → data_of (place_told p) n text ≡ place_data p
told-place zero n text = refl
told-place (suc p) n text = rw (ne_eqb (suc p) 0 (λ e. omega arith))

-- a refused frame leaves the number
refusal : (k : ℕ) → table.one_of (0 ∷ 2 ∷ 3 ∷ 15 ∷ []) k ≡ true → (k ≡ 0 → ⊥) → is_refusal k ≡ true
unfolding table.one_of each
refusal k e n =
    let h : eqb k 0 || is_refusal k ≡ true = each-one (λ m. eqb m 0 || is_refusal m) (0 ∷ 2 ∷ 3 ∷ 15 ∷ []) k refl e in
    rw (ne_eqb k 0 n) at h

refused-last : (g : Framing) (k : ℕ) (last : Option ℕ) → is_refusal k ≡ true → numbered_by g k last ≡ last
refused-last Framing.Plain k last e = refl
refused-last (Framing.Oem q) k last e = rw e

module _ (u : Drive) (bytes image buffer : List ℕ) where
  module _ (l : 262 ≤ length buffer) (w : length image ≡ 4160) where
    group-silent : (received_by u bytes).frame ≡ Frame.Group → ((feed_of u bytes image buffer).answered ≡ 0) × ((feed_of u bytes image buffer).buffer ≡ buffer)
    unfolding feed_of
    group-silent f = rw (le-ltb (length buffer) 262 l, eq-eqb (length image) 4160 w, f) (refl, put-nothing buffer)

    module _ (h : OrderRow (body_by u bytes) u.core) where
      frame_refused : (received_by u bytes).frame ≡ Frame.Alone → (frame_code u bytes ≡ 0 → ⊥)
          → FrameRefused u bytes image buffer (refusal_packet u (received_by u bytes).framing (frame_fault u bytes))
      unfolding feed_of answer_to
      frame_refused f n =
          let g = (received_by u bytes).framing in
          let same = refused-last g (frame_code u bytes) u.last (refusal (frame_code u bytes) h.codes n) in
          rw (le-ltb (length buffer) 262 l, eq-eqb (length image) 4160 w, f, h.refused n, told-place _ _ _, front g _ _ buffer h.three_digits l, same)

      group-refused : (received_by u bytes).frame ≡ Frame.Group → (frame_code u bytes ≡ 0 → ⊥) → FrameRefused u bytes image buffer []
      unfolding feed_of
      group-refused f n =
          let g = (received_by u bytes).framing in
          let same = refused-last g (frame_code u bytes) u.last (refusal (frame_code u bytes) h.codes n) in
          rw (le-ltb (length buffer) 262 l, eq-eqb (length image) 4160 w, f, h.refused n, put-nothing buffer, same)

  pub feed_row : FeedRow u bytes image buffer
  unfolding feed_of
  feed_row = record {
    buffer-short = λ l. rw (lt-ltb (length buffer) 262 l) (refused-feed _ FeedAnswer.feed_buffer_short u image buffer refl);
    image-length = λ l w. rw (le-ltb (length buffer) 262 l, ne_eqb (length image) 4160 w) (refused-feed _ FeedAnswer.feed_image_length u image buffer refl);
    taken = λ l w. rw (le-ltb (length buffer) 262 l, eq-eqb (length image) 4160 w);
    group-silent = group-silent;
    frame_refused = λ l w. frame_refused l w (order_row (body_by u bytes) u.core);
    group-refused = λ l w. group-refused l w (order_row (body_by u bytes) u.core);
  }
