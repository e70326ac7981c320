-- What is taken as a line or a store, and what reads as a list, spells that list with nothing wrong in it:
-- each command that reads is a spelling, one behind the other. Assumes nothing.
use Rattle.std.specs.Prelude.{Some, None, Result, Ok, Err}
use Rattle.commands.specs.declared.Fault.{Fault}
use Prim.Native.Nat.{ℕ, ◌+◌, ◌-◌, ◌≤◌}
use mathlib.Core.Path.{◌≡◌, refl, sym, ap, subst, ◌∙◌}
use mathlib.Core.List.{List, [], ◌∷◌, ◌++◌}
use mathlib.Core.Bool.{Bool, true, false, cond}
use native.Mathlib.Omega.{arith}
use lib.ListN.{length, get_or, drop, take-append-drop, drop_of_length-le}
use lib.Seq.{drop-drop}
use lib.Dec.{ltb}
use borrow.Author.Tests.{ltb-false, eqb-true}
use Rattle.parts.specs.Parts.{part, same, most_bytes}
use Rattle.parts.proofs.Laws.{cases, same_is}
use Rattle.digits.specs.declared.Operand.TheVariants.{Number}
use Rattle.digits.specs.Operand.{operand_most, operand_up_to}
use Rattle.digits.specs.ReadBack.{spelling}
use Rattle.digits.proofs.ReadBack.{spelled, number_past, up_to_number, read_length}
use Rattle.commands.specs.declared.Command.{Command}
use Rattle.commands.specs.declared.Read.{Read}
use Rattle.commands.specs.declared.Read.TheVariants.{At, Bad, End}
use Rattle.commands.specs.Table.{one_of}
use Rattle.commands.specs.Reading.{fault, read_at}
use Rattle.commands.proofs.ReadingLaws.{read_step}
use Rattle.commands.proofs.SpelledLaws.{spells_as}
use Rattle.lines.specs.declared.Body.{Body}
use Rattle.lines.specs.declared.Taken.{Taken}
use Rattle.lines.specs.Texts.{commands, Placed, placed, unplaced, goes_on_lem, reading_from, structured}
use Rattle.lines.specs.Bodies.{ImmediateRow, body_of, begins_immediate, immediates, immediate_in, other_of, ends_with_r, line_of, taken_code}
use Rattle.lines.specs.Lists.{HostList, run_text, all_in_range, list_fault, SpellsCommands, none, more, without, into, Spells, spells, list, list_of, taken_list, body_list}
use Rattle.lines.specs.Claims.{Spelled, SpelledAs}
use Rattle.lines.proofs.TextLaws.{reading_law}
use Rattle.lines.proofs.LoopLaws.{line-passes, stored-passes, before_is}
use Rattle.lines.proofs.CodeLaws.{Sound, read_sound, TakenCode, taken-code}
use Rattle.lines.proofs.ListLaws.{spelling-long, spelled-taken}
use Rattle.lines.proofs.TakenLaws.{no, text_of, text-run, line-tested, store-tested, store_bytes}

-- ---- a text that reads

abbrev SpelledFrom : List Command → List ℕ → ℕ → Type 0
SpelledFrom cs s at = SpellsCommands cs (drop at s) × (all_in_range cs ≡ true)

-- one command, and the rest behind it
spelled-more : (s : List ℕ) (at : ℕ) (c : Command) (n : ℕ) (cs : List Command) → read_at s at ≡ At c n → SpelledFrom cs s n → SpelledFrom (c ∷ cs) s at
unfolding all_in_range part
spelled-more s at c n cs e w =
    let k = spells_as s at c n e in
    let p = read_step s at e in
    let place : at + (n - at) ≡ n = omega arith in
    let bytes : part s at (n - at) ++ drop n s ≡ drop at s =
    ap (λ (m : ℕ). part s at (n - at) ++ drop m s) (sym place)
    ∙ ap (λ (x : List ℕ). part s at (n - at) ++ x) (sym (drop-drop (n - at) at s))
    ∙ take-append-drop (n - at) (drop at s) in
    (subst (λ (x : List ℕ). SpellsCommands (c ∷ cs) x) bytes (more k.spells w.0), rw k.in-range w.1)

spelled_none : (s : List ℕ) (at : ℕ) → read_at s at ≡ End → SpelledFrom [] s at
unfolding all_in_range
spelled_none s at e =
    let h : length s ≤ at = subst (λ (r : Read). Sound s at r) e (read_sound s at) in
    (rw (drop_of_length-le s h) none, refl)

pub reading_spells : (cs : List Placed) (s : List ℕ) (at : ℕ) → reading_from s at ≡ commands cs → SpelledFrom (unplaced cs) s at
unfolding unplaced
reading_spells [] s at e = go (read_at s at) refl (sym (reading_law s at) ∙ e)
  where
    go : (r : Read) → read_at s at ≡ r → goes_on_lem at r (λ n. reading_from s n) ≡ commands [] → SpelledFrom [] s at
    go (At c n) q k = let w = before_is (placed (at + 1) c) (reading_from s n) [] k in let z : ◌≡◌ {A = ℕ} 0 1 = cc w.2 in no z
    go (Bad x p) q k = no (cc)
    go End q k = spelled_none s at q
reading_spells (placed p c ∷ cs) s at e = go (read_at s at) refl (sym (reading_law s at) ∙ e) (λ n w. reading_spells cs s n w)
  where
    go : (r : Read) → read_at s at ≡ r → goes_on_lem at r (λ n. reading_from s n) ≡ commands (placed p c ∷ cs) → ((n : ℕ) → reading_from s n ≡ commands cs → SpelledFrom (unplaced cs) s n)
        → SpelledFrom (c ∷ unplaced cs) s at
    go (At d n) q k rest =
        let w = before_is (placed (at + 1) d) (reading_from s n) (placed p c ∷ cs) k in
        let same : placed p c ∷ cs ≡ placed (at + 1) d ∷ w.0 = w.2 in
        let x : c ≡ d = cc in
        let y : cs ≡ w.0 = cc in
        let reads : reading_from s n ≡ commands cs = rw y w.1 in
        spelled-more s at c n (unplaced cs) (rw x q) (rest n reads)
    go (Bad x p) q k rest = no (cc)
    go End q k rest = no (cc)

-- ---- a line, a store

-- the digits of a slot that was read
pub slot-few : (t : List ℕ) (slot at : ℕ) (e : operand_up_to operand_most t 1 ≡ Number slot at)
    → length (spelling (spelled t 1 slot at (up_to_number operand_most t 1 slot at e).0).zeros slot) ≤ operand_most
slot-few t slot at e =
    let k = up_to_number operand_most t 1 slot at e in
    let w = spelled t 1 slot at k.0 in
    omega (arith, k.1, read_length t (drop at t) 1 w.zeros slot w.bytes w.no_more, spelling-long w.zeros slot)

-- a body that is read as a line is not over-long
pub line-short : (b : List ℕ) → body_of b ≡ Ok Body.Line → length b ≤ most_bytes
unfolding body_of
line-short b e = go (ltb most_bytes (length b)) refl e
  where
    go : (o : Bool) → ltb most_bytes (length b) ≡ o → cond o (Err (fault 2 0)) (cond (begins_immediate b) (immediate_in immediates b) (other_of b)) ≡ Ok Body.Line
        → length b ≤ most_bytes
    go true q k = no (cc)
    go false q k = ltb-false most_bytes (length b) q

spelled_as : (b : List ℕ) (l : HostList) → length b ≤ most_bytes → Spells l b → list_fault l ≡ 0 → Spelled b
spelled_as b l m w e = record { means = l; spelled = record { short = m; spells = w; no_fault_lem = e }; reads = (spelled-taken m w e).1 }

line-spelled : (b : List ℕ) (n : ℕ) (r : Bool) → length b ≤ most_bytes → line_of b ≡ Ok (Taken.Line n r) → Spelled b
unfolding line_of list_fault
line-spelled b n r m e =
    let t : List ℕ = text_of b in
    let run : Bool = ends_with_r b in
    let k = line-tested t run n r e in
    let p = line-passes t k.passes in
    let w = reading_spells p.0 t 0 p.1 in
    let bytes : t ++ run_text run ≡ b = sym (text-run b) in
    let l : HostList = record { slot = None; listed = unplaced p.0; run = run } in
    spelled_as b l m (subst (λ (x : List ℕ). Spells l x) bytes (spells run without w.0)) (rw (w.1, p.2))

store-spelled : (b : List ℕ) (slot at n : ℕ) → length b ≤ most_bytes → line_of b ≡ Ok (Taken.Store slot at n) → Spelled b
unfolding line_of list_fault
store-spelled b slot at n m e =
    let t : List ℕ = text_of b in
    let run : Bool = ends_with_r b in
    let k = store-tested t run slot at n e in
    let number = (up_to_number operand_most t 1 slot at k.number).0 in
    let past = number_past t 1 slot at number in
    let num = spelled t 1 slot at number in
    let p = stored-passes run (drop at t) k.passes in
    let w = reading_spells p.0 (drop at t) 0 p.1 in
    let first : get_or t 0 0 ≡ 115 = eqb-true (get_or t 0 0) 115 k.store in
    let bytes = store_bytes b (spelling num.zeros slot) (drop at t) t (run_text run) first (omega arith) num.bytes (text-run b) in
    let l : HostList = record { slot = Some slot; listed = unplaced p.0; run = run } in
    spelled_as b l m
    (subst (λ (x : List ℕ). Spells l x) bytes (spells run (into slot num.zeros (slot-few t slot at k.number)) w.0))
    (rw (k.in-range, w.1, p.2))

-- a fault has a code, so what has none was taken
pub taken-spelled : (b : List ℕ) → body_of b ≡ Ok Body.Line → taken_code (line_of b) ≡ 0 → Spelled b
unfolding line_of one_of
taken-spelled b f e = go (line_of b) refl (taken-code (text_of b) (ends_with_r b)) e
  where
    go : (x : Result Taken Fault) → line_of b ≡ x → TakenCode x → taken_code x ≡ 0 → Spelled b
    go (Err x) q h k = let y = rw k at h in no (cc)
    go (Ok (Taken.Line n r)) q h k = line-spelled b n r (line-short b f) q
    go (Ok (Taken.Store slot at n)) q h k = store-spelled b slot at n (line-short b f) q

-- ---- what reads as a list spells it

-- bytes that are the same are one list
-- the bytes of a body that is nothing, or `R` alone
abbrev Alone : List ℕ → Result Body Fault → Type 0
Alone b (Err f) = Unit
Alone b (Ok Body.Empty) = b ≡ []
Alone b (Ok (Body.Immediate i)) = Unit
Alone b (Ok Body.Run) = b ≡ 82 ∷ []
Alone b (Ok Body.Again) = Unit
Alone b (Ok Body.Line) = Unit

immediate-alone : (b : List ℕ) (rs : List ImmediateRow) → Alone b (immediate_in rs b)
unfolding immediate_in
immediate-alone b [] = tt
immediate-alone b (r ∷ rs) = cases (Alone b) (same b r.bytes) (λ e. tt) (λ e. immediate-alone b rs)

alone : (b : List ℕ) → Alone b (body_of b)
unfolding body_of
alone b =
    cases (Alone b) (ltb most_bytes (length b)) (λ e. tt)
    (λ e. cases (Alone b) (begins_immediate b) (λ e. immediate-alone b immediates)
    (λ e. cases (Alone b) (same b []) (λ e. same_is b [] e)
    (λ e. cases (Alone b) (same b (82 ∷ [])) (λ e. same_is b (82 ∷ []) e)
    (λ e. cases (Alone b) (same b (88 ∷ [])) (λ e. tt) (λ e. tt)))))

pub reads-spelled : (b : List ℕ) (l : HostList) → list_of b ≡ list l → SpelledAs l b
unfolding list_of list_fault structured all_in_range
reads-spelled b l e = go (body_of b) refl (alone b) e
  where
    -- nothing, or `R` alone
    empty : (run : Bool) → b ≡ run_text run → list (record { slot = None; listed = []; run = run }) ≡ list l → SpelledAs l b
    empty run q k =
        let m : HostList = record { slot = None; listed = []; run = run } in
        let same : m ≡ l = cc in
        rw (← same, q) (record { short = small run; spells = spells run without none; no_fault_lem = refl })
      where
        small : (r : Bool) → length (run_text r) ≤ most_bytes
        small true = omega arith
        small false = omega arith

    as_means : list_of b ≡ list l → Spelled b → SpelledAs l b
    as_means k w =
        let q = w.reads in
        let same : w.means ≡ l = cc in
        rw (← same) w.spelled

    line : (x : Result Taken Fault) → line_of b ≡ x → body_of b ≡ Ok Body.Line → taken_list x b ≡ list l → SpelledAs l b
    line (Err f) q h k = no (cc)
    line (Ok (Taken.Line n r)) q h k = as_means e (line-spelled b n r (line-short b h) q)
    line (Ok (Taken.Store slot at n)) q h k = as_means e (store-spelled b slot at n (line-short b h) q)

    go : (x : Result Body Fault) → body_of b ≡ x → Alone b x → body_list x b ≡ list l → SpelledAs l b
    go (Err f) q a k = no (cc)
    go (Ok Body.Empty) q a k = empty false a k
    go (Ok (Body.Immediate i)) q a k = no (cc)
    go (Ok Body.Run) q a k = empty true a k
    go (Ok Body.Again) q a k = no (cc)
    go (Ok Body.Line) q a k = line (line_of b) refl q k
