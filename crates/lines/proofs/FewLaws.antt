-- What is taken, and what passes a check, has no run of too many digits; where there is none, every limit judges alike.
-- Assumes nothing.
use Rattle.std.specs.Prelude.{Option, Ok}
use Prim.Native.Nat.{ℕ, ◌≤◌, ◌<◌}
use mathlib.Core.Path.{◌≡◌, refl, sym, ap, ◌∙◌}
use mathlib.Core.List.{List, [], ◌++◌, append-nil, append_assoc}
use mathlib.Core.Bool.{Bool, true, false, ◌&&◌, and-true, and-false}
use native.Mathlib.Omega.{arith}
use native.Mathlib.Decide.{dec_lt}
use lib.ListN.{length, drop, length-drop}
use lib.Dec.{leb}
use borrow.Author.Tests.{lt-leb}
use Rattle.digits.specs.Operand.{digit_run, operand_most, few_digits}
use Rattle.digits.specs.ReadBack.{spelling}
use Rattle.digits.proofs.Reading.{run-within}
use Rattle.digits.proofs.FewLaws.{few-when, few_no_digit, few_digits_lem}
use Rattle.commands.specs.declared.Command.{Command}
use Rattle.commands.proofs.WritingLaws.{letter-first, spelling_no_digit, spelling-few, spelling-most}
use Rattle.lines.specs.declared.Body.{Body}
use Rattle.parts.specs.Parts.{most_bytes}
use Rattle.lines.specs.Texts.{Reading, stored_places, judged, passed, stored_by, text_good_by, text_good, older_good}
use Rattle.lines.specs.Bodies.{body_of, line_of, taken_code}
use Rattle.lines.specs.Lists.{HostList, run_text, SpellsCommands, none, more, SpellsSlot, without, into, Spells, spells}
use Rattle.lines.specs.Loops.{Checked}
use Rattle.lines.proofs.TextLaws.{reading_few}
use Rattle.lines.proofs.LoopLaws.{line-passes}
use Rattle.lines.proofs.TakenLaws.{text-checked}
use Rattle.lines.proofs.ListLaws.{spelling_digit}
use Rattle.lines.proofs.SpellLaws.{reading_spells, taken-spelled}

-- ---- what spells commands

-- begins with no digit, and has no run of too many
abbrev Few : List ℕ → Type 0
Few s = (digit_run s ≡ []) × (few_digits operand_most s ≡ true)

commands-few : {cs : List Command} {t : List ℕ} (rest : List ℕ) → SpellsCommands cs t → Few rest → Few (t ++ rest)
commands-few rest none h = h
commands-few rest (more {c = c} {b = b} {bs = bs} w ws) h =
    let k = letter-first c b w in
    let f = commands-few rest ws h in
    rw (append_assoc b bs rest) (spelling_no_digit b k (bs ++ rest), spelling-few b k (spelling-most c b w) (bs ++ rest) f.0 f.1)

run-few : (run : Bool) → Few (run_text run)
unfolding digit_run few_digits
run-few true = (refl, refl)
run-few false = (refl, refl)

spells-few : {l : HostList} {b : List ℕ} → Spells l b → few_digits operand_most b ≡ true
spells-few (spells {a = a} {b = t} run s w) = slot (t ++ run_text run) s (commands-few (run_text run) w (run-few run))
  where
    slot : {x : Option ℕ} {head : List ℕ} (rest : List ℕ) → SpellsSlot x head → Few rest → few_digits operand_most (head ++ rest) ≡ true
    slot rest without h = h.1
    slot rest (into n z m) h =
        few_no_digit operand_most 115 (spelling z n ++ rest) refl ((few_digits_lem operand_most (spelling z n) rest (spelling_digit z n) h.0).1 m h.1)

pub taken-few : (b : List ℕ) → body_of b ≡ Ok Body.Line → taken_code (line_of b) ≡ 0 → few_digits operand_most b ≡ true
taken-few b l e = spells-few (taken-spelled b l e).spelled.spells

pub checked-few : (t : List ℕ) → Checked t → few_digits operand_most t ≡ true
unfolding digit_run few_digits
checked-few t e =
    let p = line-passes t e in
    let f = commands-few [] (reading_spells p.0 t 0 p.1).0 (refl, refl) in
    rw (← append-nil t) f.1

-- ---- the check of stored text

-- two limits judge alike where the less of them is kept
same_check : (least most : ℕ) (t : List ℕ) → least ≤ most → few_digits least t ≡ true → text_good_by most t ≡ text_good_by least t
unfolding text_good_by stored_by
same_check least most t l h =
    ap (λ (r : Reading). leb (length t) most_bytes && passed (judged (stored_places true (length t)) r)) (reading_few least most t 0 l h)

pub good-now : (t : List ℕ) → text_good t ≡ older_good t && few_digits operand_most t
good-now t = go (few_digits operand_most t) refl (text_good t) refl
  where
    go : (f : Bool) → few_digits operand_most t ≡ f → (g : Bool) → text_good t ≡ g → text_good t ≡ older_good t && few_digits operand_most t
    go true q g e = rw (q, and-true (older_good t)) (sym (same_check operand_most most_bytes t (omega arith) q))
    go false q true e = let h = checked-few t (text-checked t e) in let z : ◌≡◌ {A = ℕ} 0 1 = cc in absurd (omega arith)
    go false q false e = rw (q, and-false (older_good t)) e

-- a text has no more digits than bytes
all-few : (most : ℕ) (t : List ℕ) → length t ≤ most → few_digits most t ≡ true
all-few most t h = few-when most t (λ at. omega (arith, run-within (drop at t), length-drop at t))

too_long : (most : ℕ) (t : List ℕ) → most_bytes < length t → text_good_by most t ≡ false
unfolding text_good_by
too_long most t l = rw (lt-leb (length t) most_bytes l)

pub older-most : (most : ℕ) (t : List ℕ) → most_bytes ≤ most → text_good_by most t ≡ older_good t
older-most most t h = go (dec_lt most_bytes (length t))
  where
    go : Dec (most_bytes < length t) → text_good_by most t ≡ older_good t
    go (yes l) = too_long most t l ∙ sym (too_long most_bytes t l)
    go (no m) = same_check most_bytes most t h (all-few most_bytes t (omega arith))
