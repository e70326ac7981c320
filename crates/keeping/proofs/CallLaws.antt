-- What no deed takes away, no call takes away: a call is refused and changes nothing, or does one deed. Assumes nothing.
use Prim.Native.Nat.{ℕ, ◌≤◌}
use mathlib.Core.Path.{◌≡◌, refl}
use mathlib.Core.List.{List}
use mathlib.Core.Bool.{Bool, true, false}
use native.Mathlib.Omega.{arith}
use lib.Dec.{ltb}
use lib.ListN.{length, take}
use lib.Seq.{take-length}
use borrow.Author.Tests.{ltb-false}
use Rattle.parts.specs.Parts.{padded_text, most_bytes}
use Rattle.parts.proofs.Laws.{cases}
use Rattle.answers.specs.Packet.{packet_bytes}
use Rattle.lines.specs.Loops.{Checked}
use Rattle.lines.proofs.BodyLaws.{no_bytes}
use Rattle.lines.proofs.TakenLaws.{text-checked}
use Rattle.image.specs.Image.{right_length, slot_good, slot_text}
use Rattle.image.proofs.HeldLaws.{text-passes, text-fits, no_text}
use Rattle.turns.specs.declared.Core.{Core}
use Rattle.turns.specs.Turns.{fresh_core, turn_core}
use Rattle.drive.specs.Unit.{Drive}
use Rattle.drive.specs.Calls.{begun_with, begun_on, fresh_unit, received_by, body_by, Feeding, feed_of, most_sample, Turning, turn_of}
use Rattle.obeying.specs.Deeds.{loads}
use Rattle.drive.proofs.FeedLaws.{frame-does}
use Rattle.keeping.proofs.Kept.{Kept, HoldsOf, CallsKeep}
use Rattle.keeping.proofs.TurnLaws.{step-does}

idle : fresh_core.running ≡ false
unfolding fresh_core
idle = refl

module _ {P : List ℕ → Core → Type 0} (k : Kept P) where
  -- a program runs where it has bytes
  begun-keeps : (t : List ℕ) → Checked t → length t ≤ most_bytes → P (padded_text t) (begun_with (length t))
  begun-keeps t h l =
      cases (P (padded_text t)) (ltb 0 (length t))
      (λ q. rw (take-length t) at (k.obeys {body = t} k.fresh (loads true (length t) idle (record { inside = omega arith; short = l; checked = rw (take-length t) h }))))
      (λ q. rw (no_bytes t (omega (arith, ltb-false 0 (length t) q))) k.fresh)

  starts : (number : ℕ) (image body : List ℕ) → HoldsOf P (fresh_unit number image body)
  unfolding fresh_unit
  starts number image body = go (slot_good image 0) refl
    where
      go : (b : Bool) → slot_good image 0 ≡ b → P (padded_text (slot_text image 0)) (begun_on b (length (slot_text image 0)))
      go true e = begun-keeps (slot_text image 0) (text-checked (slot_text image 0) (text-passes image 0)) (text-fits image 0)
      go false e = rw (no_text image 0 e) k.held

  feeds : (u : Drive) (bytes image buffer : List ℕ) → HoldsOf P u → HoldsOf P (feed_of u bytes image buffer).unit
  unfolding feed_of
  feeds u bytes image buffer h =
      let g = received_by u bytes in
      cases Q (ltb (length buffer) packet_bytes) (λ b. h)
      (λ b. cases Q (right_length image) (λ i. k.obeys h (frame-does g.frame (body_by u bytes) u.core)) (λ i. h))
    where
      Q : Feeding → Type 0
      Q r = HoldsOf P r.unit

  turns : (u : Drive) (sample ms steps : ℕ) (image : List ℕ) → HoldsOf P u → HoldsOf P (turn_of u sample ms steps image).unit
  unfolding turn_of turn_core
  turns u sample ms steps image h =
      cases Q (right_length image)
      (λ i. cases Q (ltb most_sample sample) (λ s. h)
      (λ s. cases Q (ltb u.core.motor.last.number steps) (λ r. h)
      (λ r. k.turns h (ltb-false most_sample sample s) (ltb-false u.core.motor.last.number steps r)
      (step-does sample ms steps (take u.core.flow.length u.text) image u.core))))
      (λ i. h)
    where
      Q : Turning → Type 0
      Q r = HoldsOf P r.unit

  pub calls_keep : CallsKeep P
  calls_keep = record { starts = starts; feeds = feeds; turns = turns }
