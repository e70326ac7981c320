-- What a byte may change of a table: one record, whose counts do not fall.
-- Assumes nothing.
use Prim.Native.Nat.{ℕ, zero, suc, ◌-◌, ◌≤◌, ◌<◌}
use native.Mathlib.Omega.{arith}
use mathlib.Core.Path.{◌≡◌, ◌∙◌, ap}
use mathlib.Core.List.{List, [], ◌∷◌}
use lib.Dec.{eqb, ltb}
use lib.ListN.{length, get_or, length-set}
use lib.Seq.{get_or-set_same, get_or-set_other}
use Rattle.parts.proofs.Laws.{cases}
use Rattle.listening.specs.declared.UnitRecord.{UnitRecord}
use Rattle.listening.specs.declared.Finish.{Finish}
use Rattle.listening.specs.declared.Listener.{Listener}
use Rattle.listening.specs.Table.{blank_record, greatest_count, once_more, with_frame, with_answer, changed_at, changed_of, noted}
use Rattle.listening.specs.Pieces.{record_place, with_finish}
use Rattle.listening.specs.Listen.{hear_of, heard_byte, listen_of}
use Rattle.listening.specs.Claims.{OneAtMost, NeverFalls}
use Rattle.listening.proofs.Noting.{noted_is}

pub noted-long : (t : List UnitRecord) (f : Finish) → length (noted t f) ≡ length t
noted-long t f = ap length (noted_is t f blank_record) ∙ length-set t (record_place f) _

pub noted-own : (t : List UnitRecord) (f : Finish) → record_place f < length t
    → get_or (noted t f) (record_place f) blank_record ≡ with_finish (get_or t (record_place f) blank_record) f
noted-own t f within =
    ap (λ (l : List UnitRecord). get_or l (record_place f) blank_record) (noted_is t f blank_record) ∙ get_or-set_same t (record_place f) _ blank_record within

pub noted-others : (t : List UnitRecord) (f : Finish) (k : ℕ) → (k ≡ record_place f → ⊥) → get_or (noted t f) k blank_record ≡ get_or t k blank_record
noted-others t f k other =
    ap (λ (l : List UnitRecord). get_or l k blank_record) (noted_is t f blank_record) ∙ get_or-set_other t (record_place f) k _ blank_record other

pub one_record : (l : Listener) (b : ℕ) → OneAtMost l.table (listen_of l (b ∷ [])).table
unfolding listen_of
one_record l b =
    let f = (hear_of l.ear b).finish in
    record { long = noted-long l.table f; place = record_place f; others = noted-others l.table f }

-- A COUNT
no_less : (n : ℕ) → n ≤ once_more n
no_less n = cases (λ (m : ℕ). n ≤ m) (ltb n greatest_count) (λ e. omega arith) (λ e. omega arith)

stays : (n : ℕ) → n ≡ 4294967295 → once_more n ≡ 4294967295
stays n e = ap once_more e

-- A RECORD
same : (r : UnitRecord) → NeverFalls r r
same r = record { frames = omega arith; answers = omega arith; frames_stay = λ e. e; answers_stay = λ e. e }

then : {r s t : UnitRecord} → NeverFalls r s → NeverFalls s t → NeverFalls r t
then {r = r} {s = s} {t = t} x y =
    let a = x.frames in
    let b = y.frames in
    let c = x.answers in
    let d = y.answers in
    record {
      frames = omega (arith, a, b);
      answers = omega (arith, c, d);
      frames_stay = λ e. y.frames_stay (x.frames_stay e);
      answers_stay = λ e. y.answers_stay (x.answers_stay e);
    }

frame-more : (r : UnitRecord) → NeverFalls r (with_frame r)
frame-more r = record { frames = no_less r.frames; answers = omega arith; frames_stay = stays r.frames; answers_stay = λ e. e }

answer-more : (s : ℕ) (r : UnitRecord) → NeverFalls r (with_answer s r)
answer-more s r = record { frames = omega arith; answers = no_less r.answers; frames_stay = λ e. e; answers_stay = stays r.answers }

-- THE TABLE
changed_more : (k j : ℕ) (change : UnitRecord → UnitRecord) → ((r : UnitRecord) → NeverFalls r (change r)) → (t : List UnitRecord)
    → NeverFalls (get_or t j blank_record) (get_or (changed_at k change t) j blank_record)
changed_more k j change h [] = same blank_record
changed_more zero zero change h (r ∷ t) = h r
changed_more zero (suc j) change h (r ∷ t) = same (get_or t j blank_record)
changed_more (suc k) zero change h (r ∷ t) = same r
changed_more (suc k) (suc j) change h (r ∷ t) = changed_more k j change h t

changed_of_lem : (u j : ℕ) (change : UnitRecord → UnitRecord) → ((r : UnitRecord) → NeverFalls r (change r)) → (t : List UnitRecord)
    → NeverFalls (get_or t j blank_record) (get_or (changed_of u change t) j blank_record)
changed_of_lem u j change h t =
    cases (λ (x : List UnitRecord). NeverFalls (get_or t j blank_record) (get_or x j blank_record)) (eqb u 0) (λ e. same _) (λ e. changed_more (u - 1) j change h t)

noted_more : (t : List UnitRecord) (f : Finish) (j : ℕ) → NeverFalls (get_or t j blank_record) (get_or (noted t f) j blank_record)
noted_more t Finish.Nothing j = same _
noted_more t (Finish.FrameTo u) j = changed_of_lem u j with_frame frame-more t
noted_more t (Finish.AnswerOf u s) j = changed_of_lem u j (with_answer s) (answer-more s) t

pub never_falls : (l : Listener) (xs : List ℕ) (k : ℕ) → NeverFalls (get_or l.table k blank_record) (get_or (listen_of l xs).table k blank_record)
unfolding listen_of
never_falls l [] k = same _
never_falls l (x ∷ xs) k = then (noted_more l.table (hear_of l.ear x).finish k) (never_falls (heard_byte l x) xs k)
