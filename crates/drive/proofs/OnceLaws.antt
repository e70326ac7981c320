-- The result of a call, and the texts, the image and the buffer that it leaves, are read off the whole: no second answer meets
-- the promise. Assumes nothing.
use Prim.Native.Nat.{ℕ}
use mathlib.Core.Path.{◌≡◌, refl, ap, sym, ◌∙◌}
use mathlib.Core.List.{List, []}
use Rattle.std.specs.Prelude.{Result, Ok, Err, ⊤}
use Rattle.drive.specs.declared.Record.{Record}
use Rattle.drive.specs.declared.StartRefused.{StartRefused}
use Rattle.drive.specs.declared.Fed.{Fed}
use Rattle.drive.specs.declared.FeedRefused.{FeedRefused}
use Rattle.drive.specs.declared.Turned.{Turned}
use Rattle.drive.specs.declared.TurnRefused.{TurnRefused}
use Rattle.drive.specs.Unit.{Drive}
use Rattle.drive.specs.Calls.{no_unit, Starting, Feeding, Turning}
use Rattle.drive.specs.Promises.{started_with, fed_with, turned_with, TurnedIs}

record_in : Drive → Record
record_in u = record { core = u.core; progress = record { place = u.receiver.place; length = u.receiver.length }; number = u.number; last = u.last }

-- a result, from how a call is answered and what it gives where it is taken
result_in : {A E : Type 0} → Result ⊤ E → A → Result A E
result_in (Ok done) x = Ok x
result_in (Err why) x = Err why

started_in : Starting → Result Record StartRefused
started_in s = result_in s.answer (record_in s.unit)

fed_in : Feeding → Result Fed FeedRefused
fed_in f = result_in f.answer (record { unit = record_in f.unit; consumed = f.consumed; answered = f.answered })

turned_in : Turning → Result Turned TurnRefused
turned_in t = result_in t.answer (record { unit = record_in t.unit; action = t.action })

-- each result is read off, and the texts, the image and the buffer beside it
started_back : (r : Result Record StartRefused) (b t : List ℕ)
    → (started_in (started_with r b t) ≡ r) × ((started_with r b t).unit.receiver.body ≡ b) × ((started_with r b t).unit.text ≡ t)
unfolding started_in record_in result_in no_unit
started_back (Ok u) b t = (refl, refl, refl)
started_back (Err why) b t = (refl, refl, refl)

fed_back : (u : Record) (r : Result Fed FeedRefused) (b t x k : List ℕ)
    → (fed_in (fed_with u r b t x k) ≡ r) × ((fed_with u r b t x k).unit.receiver.body ≡ b) × ((fed_with u r b t x k).unit.text ≡ t)
    × ((fed_with u r b t x k).image ≡ x) × ((fed_with u r b t x k).buffer ≡ k)
unfolding fed_in record_in result_in
fed_back u (Ok f) b t x k = (refl, refl, refl, refl, refl)
fed_back u (Err why) b t x k = (refl, refl, refl, refl, refl)

turned_back : (u : Record) (r : Result Turned TurnRefused) (b t : List ℕ)
    → (turned_in (turned_with u r b t) ≡ r) × ((turned_with u r b t).unit.text ≡ t)
unfolding turned_in record_in result_in
turned_back u (Ok s) b t = (refl, refl)
turned_back u (Err why) b t = (refl, refl)

pub started_once : {s : Starting} {r q : Result Record StartRefused} {b c t v : List ℕ} → started_with r b t ≡ s → started_with q c v ≡ s
    → (r ≡ q) × (b ≡ c) × (t ≡ v)
started_once {r = r} {q = q} {b = b} {c = c} {t = t} {v = v} d e =
    let f = d ∙ sym e in
    let x = started_back r b t in
    let y = started_back q c v in (
      sym x.0 ∙ ap started_in f ∙ y.0,
      sym x.1 ∙ ap (λ (s : Starting). s.unit.receiver.body) f ∙ y.1,
      sym x.2 ∙ ap (λ (s : Starting). s.unit.text) f ∙ y.2,
    )

pub fed_once : (u : Record) {f : Feeding} {r q : Result Fed FeedRefused} {b c t v x y k l : List ℕ} → fed_with u r b t x k ≡ f → fed_with u q c v y l ≡ f
    → (r ≡ q) × (b ≡ c) × (t ≡ v) × (x ≡ y) × (k ≡ l)
fed_once u {r = r} {q = q} {b = b} {c = c} {t = t} {v = v} {x = x} {y = y} {k = k} {l = l} d e =
    let f = d ∙ sym e in
    let m = fed_back u r b t x k in
    let n = fed_back u q c v y l in (
      sym m.0 ∙ ap fed_in f ∙ n.0,
      sym m.1 ∙ ap (λ (g : Feeding). g.unit.receiver.body) f ∙ n.1,
      sym m.2 ∙ ap (λ (g : Feeding). g.unit.text) f ∙ n.2,
      sym m.3 ∙ ap (λ (g : Feeding). g.image) f ∙ n.3,
      sym m.4 ∙ ap (λ (g : Feeding). g.buffer) f ∙ n.4,
    )

pub turned_once : (u : Record) (text : List ℕ) (sample ms steps : ℕ) (image : List ℕ) {r q : Result Turned TurnRefused} {t v : List ℕ}
    → TurnedIs u text sample ms steps image r t → TurnedIs u text sample ms steps image q v → (r ≡ q) × (t ≡ v)
turned_once u text sample ms steps image {r = r} {q = q} {t = t} {v = v} d e =
    let f = d [] ∙ sym (e []) in
    let x = turned_back u r [] t in
    let y = turned_back u q [] v in
    (sym x.0 ∙ ap turned_in f ∙ y.0, sym x.1 ∙ ap (λ (g : Turning). g.unit.text) f ∙ y.1)
