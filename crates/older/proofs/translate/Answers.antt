-- `older::translate` meets its contract: what is judged is judged as the definition says, what was made is the text, and `write_bytes` writes it
-- or refuses. Assumes nothing.
use mathlib.Core.Path.{◌≡◌, refl, sym, ap, ◌∙◌}
use mathlib.Core.Bool.{Bool}
use Prim.Native.Nat.{ℕ}
use Rattle.std.specs.Prelude.{Option, None, Result, Ok, Err, MatchResult, IsErrAnd}
use Rattle.std.specs.Option.{ok_or}
use Rattle.std.proofs.lemmas.Result.{err_from_is_err_and}
use Rattle.older.specs.declared.Refusal.{Refusal}
use Rattle.older.specs.declared.NotTranslated.{NotTranslated}
use Rattle.older.specs.declared.NotTranslated.TheVariants.{Refused, NoRoom}
use Rattle.older.proofs.TranslateLaws.{refused, too_short, put, no_room}
use Rattle.older.proofs.translate.Goals as goal

-- what `map_err` answers of a judgement
abbrev MapsTo : Result Bool Refusal → Result Bool NotTranslated → Type 0
MapsTo j r = MatchResult j (λ x. r ≡ Ok x) (λ f. IsErrAnd r (λ y. y ≡ Refused f))

told : (j : Result Bool Refusal) (e : NotTranslated) → MapsTo j (Err e) → (f : Refusal) × (j ≡ Err f) × (e ≡ Refused f)
told (Ok x) e m = cc
told (Err f) e m = (f, refl, m)

passed : (j : Result Bool Refusal) (slowed : Bool) → MapsTo j (Ok slowed) → j ≡ Ok slowed
passed (Ok x) slowed m = let same : slowed ≡ x = cc in rw same
passed (Err f) slowed m = absurd m

-- what `ok_or` answers of a place that is none
short : {o : Option ℕ} (e : NotTranslated) → ◌≡◌ {A = Result ℕ NotTranslated} (Err e) (ok_or o NoRoom) → o ≡ None → e ≡ NoRoom
short e v n = let w : ◌≡◌ {A = Result ℕ NotTranslated} (Err e) (Err NoRoom) = v ∙ ap (λ (x : Option ℕ). ok_or x NoRoom) n in cc

pub returns-in_err-slowed : goal.returns-in_err-slowed
returns-in_err-slowed c =
    let p = err_from_is_err_and c.from_residual.result c.from_residual.ensures.1 in
    let k = told c.judge.result c.in_err-slowed.field-0.0 c.in_err-slowed.ensures.cases in
    rw (p.1, p.2, k.2) (refused c.args.way c.args.text.now c.args.buffer.now (sym c.judge.ensures ∙ k.1))

pub returns-in_err-n : goal.returns-in_err-n
returns-in_err-n c =
    let p = err_from_is_err_and c.from_residual-in_err-n.result c.from_residual-in_err-n.ensures.1 in
    let h = c.in_err-n.ensures in
    let j = sym c.judge.ensures ∙ passed c.judge.result c.in_ok-slowed.slowed c.in_ok-slowed.ensures.cases in
    rw (p.1, p.2, short c.in_err-n.field-0.0 h.value h.ok_part) (too_short c.args.way c.args.text.now c.args.buffer.now j (rw h.ok_part at c.write_text.ensures))

pub returns-in_err-length : goal.returns-in_err-length
returns-in_err-length c =
    let p = err_from_is_err_and c.from_residual-in_err-length.result c.from_residual-in_err-length.ensures.1 in
    let h = c.in_err-length.ensures in
    let j = sym c.judge.ensures ∙ passed c.judge.result c.in_ok-slowed.slowed c.in_ok-slowed.ensures.cases in
    rw (p.1, p.2, short c.in_err-length.field-0.0 h.value h.ok_part)
    (no_room c.args.way c.args.text.now c.args.buffer.now j (rw c.in_ok-n.ensures.ok_part at c.write_text.ensures) (rw h.ok_part at c.write_bytes.ensures))

pub returns : goal.returns
returns c =
    let j = sym c.judge.ensures ∙ passed c.judge.result c.in_ok-slowed.slowed c.in_ok-slowed.ensures.cases in
    put c.args.way c.args.text.now c.args.buffer.now j (rw c.in_ok-n.ensures.ok_part at c.write_text.ensures)
    (rw c.in_ok-length.ensures.ok_part at c.write_bytes.ensures)
