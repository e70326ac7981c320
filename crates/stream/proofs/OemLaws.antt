-- What 02 says of OEM frames: a skipped one completes nothing; of a repeat only a query or an empty body is obeyed, and neither changes the
-- unit; and what is obeyed is read off the body alone. Assumes nothing.
use Rattle.std.specs.Prelude.{Option, Some, None}
use Prim.Native.Nat.{ℕ, ◌+◌}
use mathlib.Core.Path.{◌≡◌, refl, sym, ap, subst, ◌∙◌}
use mathlib.Core.List.{List, [], ◌∷◌, ◌++◌}
use mathlib.Core.Bool.{Bool, true, false, cond, not, ◌||◌, and-eq-true_iff, true≢false}
use lib.ListN.{length, take}
use lib.Dec.{ltb, eqb}
use borrow.Author.Tests.{le-ltb, eqb-true}
use Rattle.parts.specs.Parts.{same, put_in}
use Rattle.parts.proofs.Laws.{cases, same_is}
use Rattle.parts.specs.Letters.{cr, etx}
use Rattle.answers.specs.Packet.{packet_bytes, status_of}
use Rattle.commands.specs.Table as table
use Rattle.lines.specs.Bodies.{immediates, one_of_bodies, immediate_in, body_of}
use Rattle.image.specs.Image.{right_length, slots, slots_older}
use Rattle.frames.specs.declared.Frame.{Frame}
use Rattle.frames.specs.declared.Framing.{Framing}
use Rattle.frames.specs.Addresses.{is_unit, called_of}
use Rattle.frames.specs.declared.Place.{Place}
use Rattle.frames.specs.Receive.{Receiver, Received, body_in, most_kept, ours, good, elsewhere, past}
use Rattle.frames.specs.Claims.{Sound, SameBody, Same, free, frame_of, oem_of, sum_of}
use Rattle.frames.proofs.Bodies.{whole, whole-oem, wrong-sum}
use Rattle.frames.proofs.Alike.{as_if_not_come}
use Rattle.turns.specs.declared.Core.{Core}
use Rattle.obeying.specs.declared.Tell.{Tell}
use Rattle.obeying.specs.declared.Obeyed.{Obeyed}
use Rattle.obeying.specs.Obeying.{telling, body_obeyed, data_of, text_written, image_written}
use Rattle.drive.specs.FeedAnswer
use Rattle.drive.specs.FeedAnswer.{FeedAnswer}
use Rattle.drive.specs.Unit.{Drive}
use Rattle.drive.specs.Repeats.{sequence_number, repeats, is_repeat, queries, is_query, chosen, is_refusal, numbered_by, last_after}
use Rattle.drive.specs.Calls.{Starting, fresh_unit, no_unit, start_of, most_sample, Turning, turn_of, received_by, frame_obeyed, body_by, obeyed_by, text_then, answer_to, answer_for, Feeding, feed_taken, feed_of}
use Rattle.drive.proofs.FeedLaws.{put-nothing}
use Rattle.stream.specs.Oem.{moved_to, Heeded, SkippedBy, PassesOver, RepeatedBy, SameAnswer, SameDeed}

-- ---- a call that is not refused

feed_is : (u : Drive) (bytes image buffer : List ℕ) → Heeded image buffer
    → feed_of u bytes image buffer ≡ feed_taken (received_by u bytes) (body_by u bytes) (obeyed_by u bytes) u image buffer
unfolding feed_of
feed_is u bytes image buffer h = rw (le-ltb (length buffer) packet_bytes h.buffer_right, h.image_right)

-- ---- a skipped frame

taken-nothing : (r : Received) (body : List ℕ) (u : Drive) (image buffer : List ℕ) (n : ℕ) → r.frame ≡ Frame.Nothing → r.consumed ≡ n
    → feed_taken r body (frame_obeyed r.frame body u.core) u image buffer
    ≡ record { answer = FeedAnswer.feed_ok; unit = moved_to r.receiver u; consumed = n; answered = 0; image = image; buffer = buffer }
taken-nothing r body u image buffer n f e = rw (f, e, put-nothing buffer)

pub skips : (u : Drive) (a q : ℕ) (body : List ℕ) (c : ℕ) (image buffer : List ℕ) → Heeded image buffer → elsewhere u.receiver.place ≡ true
    → free etx (a ∷ q ∷ body) ≡ true → (c ≡ sum_of a q body → ⊥) → SkippedBy u (oem_of a q body c) image buffer
skips u a q body c image buffer h l f n =
    let bytes = oem_of a q body c in
    let s = wrong-sum u.receiver u.number a q body c l f n in
    record {
      receiver = (received_by u bytes).receiver;
      outside = s.leaves;
      feeds = feed_is u bytes image buffer h ∙ taken-nothing (received_by u bytes) (body_by u bytes) u image buffer (length bytes) s.nothing s.consumes;
    }

-- what a call makes is read off the frame, the framing and the body; the receiver and the count are beside it
abbrev made : Drive → List ℕ → List ℕ → Receiver → ℕ → Frame → Framing → List ℕ → Feeding
made u image buffer r n f g b =
    feed_taken (record { receiver = r; consumed = n; frame = f; framing = g }) (chosen u.last g b) (frame_obeyed f (chosen u.last g b) u.core) u image buffer

made_alike : (u : Drive) (image buffer : List ℕ) (r : Receiver) (n : ℕ) (f : Frame) (g : Framing) (b b' : List ℕ) → (ours f ≡ true → b ≡ b')
    → made u image buffer r n f g b ≡ made u image buffer r n f g b'
made_alike u image buffer r n Frame.Nothing g b b' e = refl
made_alike u image buffer r n Frame.Alone g b b' e = ap (λ (x : List ℕ). made u image buffer r n Frame.Alone g x) (e refl)
made_alike u image buffer r n Frame.Group g b b' e = ap (λ (x : List ℕ). made u image buffer r n Frame.Group g x) (e refl)

body_same : {r t : Receiver} → SameBody r t → body_in r ≡ body_in t
body_same {t = t} s = s.bytes ∙ ap (λ (n : ℕ). take n t.body) s.long

pub goes_on : (u : Drive) (a q : ℕ) (body : List ℕ) (c : ℕ) (ys image buffer : List ℕ) → Heeded image buffer → Sound u.receiver
    → u.receiver.place ≡ Place.Outside → free etx (a ∷ q ∷ body) ≡ true → (c ≡ sum_of a q body → ⊥)
    → PassesOver u (length (oem_of a q body c)) (oem_of a q body c ++ ys) ys image buffer
goes_on u a q body c ys image buffer h s o f n =
    let xs = oem_of a q body c ++ ys in
    let x : Received = received_by u xs in
    let y : Received = received_by u ys in
    let n' : ℕ = length (oem_of a q body c) + y.consumed in
    let k : Same x (past (length (oem_of a q body c)) y) = as_if_not_come u.receiver u.number a q body c ys s o f n in
    record {
      receiver = x.receiver;
      alike = rw (feed_is u ys image buffer h) k.alike;
      feeds =
          feed_is u xs image buffer h
          ∙ ap (λ (m : ℕ). made u image buffer x.receiver m x.frame x.framing (body_in x.receiver)) k.count
          ∙ made_alike u image buffer x.receiver n' x.frame x.framing (body_in x.receiver) (body_in y.receiver) (λ e. body_same (k.body e))
          ∙ ap (λ (w : Frame). made u image buffer x.receiver n' w x.framing (body_in y.receiver)) k.frame
          ∙ ap (λ (g : Framing). made u image buffer x.receiver n' y.frame g (body_in y.receiver)) k.framing
          ∙ sym (ap (λ (z : Feeding). passing x.receiver (length (oem_of a q body c)) z) (feed_is u ys image buffer h));
    }
  where
    passing : Receiver → ℕ → Feeding → Feeding
    passing r m z = record { answer = z.answer; unit = moved_to r z.unit; consumed = m + z.consumed; answered = z.answered; image = z.image; buffer = z.buffer }

-- ---- a repeat

-- what is obeyed tells something and does no more
record Tellings (c : Core) (o : Obeyed) : Type 0 where
  told : Tell
  tells : o ≡ telling told c

says : {c : Core} {o : Obeyed} (t : Tell) → o ≡ telling t c → Tellings c o
says t e = record { told = t; tells = e }

-- what holds of each body of a list holds of every one of them
abbrev Every : (List ℕ → Type 0) → List (List ℕ) → Type 0
Every P [] = Unit {0}
Every P (x ∷ xs) = P x × Every P xs

every_one : (P : List ℕ → Type 0) (xs : List (List ℕ)) (b : List ℕ) → Every P xs → one_of_bodies xs b ≡ true → P b
every_one P [] b h e = absurd (true≢false (sym e))
every_one P (x ∷ xs) b h e = go (same b x) refl e (every_one P xs b h.1)
  where
    go : (t : Bool) → same b x ≡ t → (t || one_of_bodies xs b) ≡ true → (one_of_bodies xs b ≡ true → P b) → P b
    go true s f rest = subst P (sym (same_is b x s)) h.0
    go false s f rest = rest f

query_tells : (b : List ℕ) (c : Core) → is_query b ≡ true → Tellings c (body_obeyed b c)
unfolding is_query body_obeyed body_of immediate_in immediates table.one_of same
query_tells b c e =
    every_one (λ (x : List ℕ). Tellings c (body_obeyed x c)) queries b
    (says Tell.Nothing refl, (says Tell.Text refl, (says (Tell.Number _) refl, (says (Tell.Number _) refl, (says (Tell.Number _) refl, (says (Tell.Number _) refl, (says (Tell.Number _) refl, (says (Tell.Number _) refl, tt))))))))
    e

-- "An empty body acts as `Q`"
empty-tells : (c : Core) → Tellings c (body_obeyed [] c)
unfolding body_obeyed body_of table.one_of same
empty-tells c = record { told = Tell.Nothing; tells = refl }

pub chosen_is : (last : Option ℕ) (g : Framing) (body : List ℕ) → is_repeat last g ≡ true → chosen last g body ≡ cond (is_query body) body []
unfolding chosen
chosen_is last g body e = rw e

chosen-tells : (b : List ℕ) (c : Core) → Tellings c (body_obeyed (cond (is_query b) b []) c)
chosen-tells b c = cases (λ (x : List ℕ). Tellings c (body_obeyed x c)) (is_query b) (λ e. query_tells b c e) (λ e. empty-tells c)

frame-tells : (f : Frame) (b : List ℕ) (c : Core) → Tellings c (body_obeyed b c) → Tellings c (frame_obeyed f b c)
frame-tells Frame.Nothing b c t = record { told = Tell.Nothing; tells = refl }
frame-tells Frame.Alone b c t = t
frame-tells Frame.Group b c t = t

-- its number is the last already
number_same : (g : Framing) (code : ℕ) (last : Option ℕ) → is_repeat last g ≡ true → numbered_by g code last ≡ last
number_same Framing.Plain code last e = refl
number_same (Framing.Oem q) code None e = absurd (true≢false (sym e))
number_same (Framing.Oem q) code (Some n) e =
    let k = eqb-true (sequence_number q) n ((and-eq-true_iff (repeats q) (eqb (sequence_number q) n)).0 e).1 in
    cases (λ (l : Option ℕ). l ≡ Some n) (is_refusal code) (λ r. refl) (λ r. ap (λ (m : ℕ). Some m) k)

last-same : (f : Frame) (g : Framing) (code : ℕ) (last : Option ℕ) → is_repeat last g ≡ true → last_after f g code last ≡ last
last-same Frame.Nothing g code last e = refl
last-same Frame.Alone g code last e = number_same g code last e
last-same Frame.Group g code last e = number_same g code last e

module _ (r : Received) (body : List ℕ) (o : Obeyed) (u : Drive) (image buffer : List ℕ) (t : Tell) (e : o ≡ telling t u.core) where
  told-unit : is_repeat u.last r.framing ≡ true → (feed_taken r body o u image buffer).unit ≡ moved_to r.receiver u
  told-unit l = rw (e, last-same r.frame r.framing u.core.code u.last l)

  told-image : (feed_taken r body o u image buffer).image ≡ image
  told-image = rw e

pub repeats_tell : (u : Drive) (bytes image buffer : List ℕ) → Heeded image buffer
    → is_repeat u.last (received_by u bytes).framing ≡ true → RepeatedBy u bytes image buffer
repeats_tell u bytes image buffer h e =
    let r = received_by u bytes in
    let b = body_in r.receiver in
    let afresh : obeyed_by u bytes ≡ frame_obeyed r.frame (cond (is_query b) b []) u.core =
    ap (λ (x : List ℕ). frame_obeyed r.frame x u.core) (chosen_is u.last r.framing b e) in
    let t = frame-tells r.frame (cond (is_query b) b []) u.core (chosen-tells b u.core) in
    let tells : obeyed_by u bytes ≡ telling t.told u.core = afresh ∙ t.tells in
    let f = feed_is u bytes image buffer h in
    record {
      unit-same = ap (λ (x : Feeding). x.unit) f ∙ told-unit r (body_by u bytes) (obeyed_by u bytes) u image buffer t.told tells e;
      image-same = ap (λ (x : Feeding). x.image) f ∙ told-image r (body_by u bytes) (obeyed_by u bytes) u image buffer t.told tells;
      answers_as = afresh;
      told = t.told;
      tells = tells;
    }

-- ---- either framing

pub chosen-not : (last : Option ℕ) (g : Framing) (body : List ℕ) → is_repeat last g ≡ false → chosen last g body ≡ body
unfolding chosen
chosen-not last g body e = rw e

-- what was received of a body in a framing that makes it no repeat is that body
body_is : (u : Drive) (bytes : List ℕ) (g : Framing) (body : List ℕ) → (received_by u bytes).framing ≡ g → body_in (received_by u bytes).receiver ≡ body
    → is_repeat u.last g ≡ false → body_by u bytes ≡ body
body_is u bytes g body f k e = chosen-not u.last (received_by u bytes).framing (body_in (received_by u bytes).receiver) (rw f e) ∙ k

obeyed_is : (u : Drive) (bytes : List ℕ) (kind : Frame) (body : List ℕ) → (received_by u bytes).frame ≡ kind → body_by u bytes ≡ body
    → obeyed_by u bytes ≡ frame_obeyed kind body u.core
obeyed_is u bytes kind body f b =
    ap (λ (k : Frame). frame_obeyed k (body_by u bytes) u.core) f ∙ ap (λ (x : List ℕ). frame_obeyed kind x u.core) b

module _ (u : Drive) (q : ℕ) (xs ys image buffer : List ℕ) (h : Heeded image buffer) (kinds : (received_by u xs).frame ≡ (received_by u ys).frame)
    (plain : (received_by u xs).framing ≡ Framing.Plain) (oem : (received_by u ys).framing ≡ Framing.Oem q) (b : body_by u xs ≡ body_by u ys)
    (o : obeyed_by u xs ≡ obeyed_by u ys) where
  -- the text that the plain frame leaves, and what each is answered with
  abbrev left : List ℕ
  left = text_then (body_by u xs) (obeyed_by u xs) u.text

  abbrev answer_by : List ℕ → List ℕ
  answer_by bytes =
      answer_for (received_by u bytes).frame (received_by u bytes).framing (obeyed_by u bytes) (text_then (body_by u bytes) (obeyed_by u bytes) u.text)

  plain_is : (received_by u xs).frame ≡ Frame.Alone → answer_by xs ≡ answer_to Framing.Plain (obeyed_by u xs) left
  plain_is e =
      ap (λ (f : Frame). answer_for f (received_by u xs).framing (obeyed_by u xs) left) e ∙ ap (λ (g : Framing). answer_to g (obeyed_by u xs) left) plain

  oem_is : (received_by u xs).frame ≡ Frame.Alone → answer_by ys ≡ answer_to (Framing.Oem q) (obeyed_by u xs) left
  oem_is e =
      ap (λ (f : Frame). answer_for f (received_by u ys).framing (obeyed_by u ys) (text_then (body_by u ys) (obeyed_by u ys) u.text)) (sym kinds ∙ e)
      ∙ ap (λ (g : Framing). answer_to g (obeyed_by u ys) (text_then (body_by u ys) (obeyed_by u ys) u.text)) oem
      ∙ ap (λ (x : Obeyed). answer_to (Framing.Oem q) x (text_then (body_by u ys) x u.text)) (sym o)
      ∙ ap (λ (x : List ℕ). answer_to (Framing.Oem q) (obeyed_by u xs) (text_then x (obeyed_by u xs) u.text)) (sym b)

  answers-alike : (received_by u xs).frame ≡ Frame.Alone → SameAnswer u xs ys image buffer
  unfolding answer_to
  answers-alike e = record {
    status = status_of (not (obeyed_by u xs).core.running) (obeyed_by u xs).code;
    told = data_of (obeyed_by u xs).tell (obeyed_by u xs).core.flow.length left;
    plain-length = ap (λ (x : Feeding). x.answered) (feed_is u xs image buffer h) ∙ ap length (plain_is e);
    plain-packet = ap (λ (x : Feeding). x.buffer) (feed_is u xs image buffer h) ∙ ap (put_in buffer 0) (plain_is e);
    oem-length = ap (λ (x : Feeding). x.answered) (feed_is u ys image buffer h) ∙ ap length (oem_is e);
    oem-packet = ap (λ (x : Feeding). x.buffer) (feed_is u ys image buffer h) ∙ ap (put_in buffer 0) (oem_is e);
  }

  alike : SameDeed u xs ys image buffer
  alike =
      let f = feed_is u xs image buffer h in
      let g = feed_is u ys image buffer h in
      record {
        core-same = ap (λ (x : Feeding). x.unit.core) f ∙ ap (λ (x : Obeyed). x.core) o ∙ sym (ap (λ (x : Feeding). x.unit.core) g);
        text_same =
            ap (λ (x : Feeding). x.unit.text) f
            ∙ ap (λ (x : Obeyed). text_written x.write (body_by u xs) u.text) o
            ∙ ap (λ (x : List ℕ). text_written (obeyed_by u ys).write x u.text) b
            ∙ sym (ap (λ (x : Feeding). x.unit.text) g);
        image-same =
            ap (λ (x : Feeding). x.image) f
            ∙ ap (λ (x : Obeyed). image_written x.write (body_by u xs) image) o
            ∙ ap (λ (x : List ℕ). image_written (obeyed_by u ys).write x image) b
            ∙ sym (ap (λ (x : Feeding). x.image) g);
        obeyed-same = o;
        answered-same = answers-alike;
      }

pub same_deed : (u : Drive) (a q : ℕ) (body image buffer : List ℕ) → Heeded image buffer → Sound u.receiver → elsewhere u.receiver.place ≡ true
    → ours (called_of u.number a) ≡ true → good q ≡ true → free cr body ≡ true → free etx body ≡ true
    → is_repeat u.last (Framing.Oem q) ≡ false
    → SameDeed u (frame_of a body) (oem_of a q body (sum_of a q body)) image buffer
same_deed u a q body image buffer h s l k g f e n =
    let xs = frame_of a body in
    let ys = oem_of a q body (sum_of a q body) in
    let p = whole u.receiver u.number a body s l k f in
    let m = whole-oem u.receiver u.number a q body s l k g e in
    let kept = take most_kept body in
    let bx : body_by u xs ≡ kept = body_is u xs Framing.Plain kept p.framed p.keeps refl in
    let by : body_by u ys ≡ kept = body_is u ys (Framing.Oem q) kept m.framed m.keeps n in
    let kind = called_of u.number a in
    alike u q xs ys image buffer h (p.completes ∙ sym m.completes) p.framed m.framed (bx ∙ sym by) (obeyed_is u xs kind kept p.completes bx ∙ sym (obeyed_is u ys kind kept m.completes by))

-- ---- the number

number_kept_lem : (f : Frame) (g : Framing) (q code : ℕ) (last : Option ℕ) → ours f ≡ true → g ≡ Framing.Oem q
    → last_after f g code last ≡ cond (is_refusal code) last (Some (sequence_number q))
number_kept_lem Frame.Nothing g q code last o e = absurd (true≢false (sym o))
number_kept_lem Frame.Alone g q code last o e = rw e
number_kept_lem Frame.Group g q code last o e = rw e

pub numbers : (u : Drive) (bytes image buffer : List ℕ) (q : ℕ) → Heeded image buffer → ours (received_by u bytes).frame ≡ true
    → (received_by u bytes).framing ≡ Framing.Oem q
    → (feed_of u bytes image buffer).unit.last ≡ cond (is_refusal (obeyed_by u bytes).code) u.last (Some (sequence_number q))
numbers u bytes image buffer q h o e =
    ap (λ (x : Feeding). x.unit.last) (feed_is u bytes image buffer h)
    ∙ number_kept_lem (received_by u bytes).frame (received_by u bytes).framing q (obeyed_by u bytes).code u.last o e

plain-same : (f : Frame) (g : Framing) (code : ℕ) (last : Option ℕ) → g ≡ Framing.Plain → last_after f g code last ≡ last
plain-same Frame.Nothing g code last e = refl
plain-same Frame.Alone g code last e = rw e
plain-same Frame.Group g code last e = rw e

pub plain-leaves : (u : Drive) (bytes image buffer : List ℕ) → (received_by u bytes).framing ≡ Framing.Plain
    → (feed_of u bytes image buffer).unit.last ≡ u.last
unfolding feed_of
plain-leaves u bytes image buffer e =
    cases Q (ltb (length buffer) packet_bytes) (λ b. refl)
    (λ b. cases Q (right_length image)
    (λ i. plain-same (received_by u bytes).frame (received_by u bytes).framing (obeyed_by u bytes).code u.last e) (λ i. refl))
  where
    Q : Feeding → Type 0
    Q x = x.unit.last ≡ u.last

-- a start that is refused leaves no unit, and no number
pub none_at_start : (number : ℕ) (image body text : List ℕ) → (start_of number image body text).unit.last ≡ None
unfolding start_of fresh_unit no_unit
none_at_start number image body text =
    cases Q (is_unit number) (λ n. cases Q (right_length image) (λ l. cases Q (slots_older image slots) (λ g. refl) (λ g. refl)) (λ l. refl)) (λ n. refl)
  where
    Q : Starting → Type 0
    Q s = s.unit.last ≡ None

pub turn-leaves : (u : Drive) (sample ms steps : ℕ) (image : List ℕ) → (turn_of u sample ms steps image).unit.last ≡ u.last
unfolding turn_of
turn-leaves u sample ms steps image =
    cases Q (right_length image) (λ i. cases Q (ltb most_sample sample) (λ s. refl) (λ s. cases Q (ltb u.core.motor.last.number steps) (λ k. refl) (λ k. refl))) (λ i. refl)
  where
    Q : Turning → Type 0
    Q t = t.unit.last ≡ u.last
