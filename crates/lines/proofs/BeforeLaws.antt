-- Why a line is refused: the reading goes from the left, so what stands before a bad command reads as commands, and read alone it reads
-- the same. Assumes nothing.
use Rattle.std.specs.Prelude.{Result, Option, Some, None, Ok, Err}
use Rattle.lines.specs.Texts.{Judged}
use Prim.Native.Nat.{ℕ, zero, suc, ◌+◌, ◌-◌, ◌≤◌, ◌<◌}
use mathlib.Core.Path.{◌≡◌, refl, sym, ap, subst, ◌∙◌}
use mathlib.Core.List.{List, [], ◌∷◌, ◌++◌, append_assoc}
use mathlib.Core.Bool.{Bool, true, false, cond, ◌&&◌}
use native.Mathlib.Omega.{arith}
use lib.ListN.{length, get_or, take, drop, length-append, length-drop, take-append-drop}
use lib.Seq.{drop-drop, take_at, drop-cons}
use lib.Dec.{leb, eqb}
use borrow.Author.Tests.{eqb-true, le-ltb}
use Rattle.parts.specs.Parts.{part, most_bytes}
use Rattle.digits.specs.declared.Operand.{Operand}
use Rattle.digits.specs.declared.Operand.TheVariants.{Missing, Number, Above}
use Rattle.digits.specs.Operand.{operand_most, operand_up_to}
use Rattle.digits.specs.ReadBack.{spelling}
use Rattle.digits.proofs.ReadBack.{spelled, number_past, up_to_number}
use Rattle.commands.specs.declared.Command.{Command}
use Rattle.commands.specs.declared.Fault.{Fault}
use Rattle.commands.specs.declared.Read.{Read}
use Rattle.commands.specs.declared.Read.TheVariants.{At, Bad, End}
use Rattle.commands.specs.Reading.{fault, bad_operand, read_at}
use Rattle.commands.proofs.ReadingLaws.{read_step, read_place, read_on, bad-inside, on_read}
use Rattle.commands.proofs.SpelledLaws.{spells_as}
use Rattle.lines.specs.declared.Body.{Body}
use Rattle.lines.specs.declared.Taken.{Taken}
use Rattle.lines.specs.Texts.{Reading, commands, faulty, Placed, placed, unplaced, before, goes_on_lem, reading_from, structured, storable, fault_places, stored_places, judged_places, leftmost, judged, line_judged, stored_by, stored_judged}
use Rattle.lines.specs.Bodies.{body_of, ends_with_r, taken, behind, most_slot, store_of, stored_at, taken_of, line_of, line_code_lem}
use Rattle.lines.specs.Lists.{HostList, run_text, all_in_range, slot_in_range, list_fault, SpellsCommands, none, more, SpellsSlot, without, into, Spells, spells}
use Rattle.lines.specs.Claims.{cut_at, ReadsBefore, Because, by_structure, by_command, by_slot}
use Rattle.lines.proofs.PlaceLaws.{nowhere, places-none, stored-none}
use Rattle.lines.proofs.TextLaws.{reading_law}
use Rattle.lines.proofs.TakenLaws.{no, text_of, text-run, text-length}
use Rattle.lines.proofs.PieceLaws.{spelled_pieces}
use Rattle.lines.proofs.ListLaws.{spelled-head, told}
use Rattle.lines.proofs.SpellLaws.{reading_spells, slot-few, line-short}

-- ---- what stands before a bad command

-- from `at` the commands cs stand in `front`, and behind them a bad one
record Before (t : List ℕ) (at : ℕ) (f : Fault) : Type 0 where
  cs : List Command
  front : List ℕ
  spelt : SpellsCommands cs front
  ranges : all_in_range cs ≡ true
  whole : drop at t ≡ front ++ drop (f.place - 1) t
  counted : at + length front + 1 ≡ f.place
  there : read_at t (f.place - 1) ≡ Bad f.code f.place

before-faulty : (c : Placed) (r : Reading) (f : Fault) → before c r ≡ faulty f → r ≡ faulty f
before-faulty c (commands cs) f e = no (cc)
before-faulty c (faulty g) f e = let q : g ≡ f = cc in ap faulty q

-- one command more in front
before_more : (t : List ℕ) (at : ℕ) (c : Command) (n : ℕ) (f : Fault) → read_at t at ≡ At c n → Before t n f → Before t at f
unfolding all_in_range part
before_more t at c n f e w =
    let k = spells_as t at c n e in
    let p = read_step t at e in
    let place : at + (n - at) ≡ n = omega arith in
    let here : List ℕ = part t at (n - at) in
    let bytes : drop at t ≡ here ++ drop n t =
    sym (take-append-drop (n - at) (drop at t))
    ∙ ap (λ (x : List ℕ). here ++ x) (drop-drop (n - at) at t)
    ∙ ap (λ (m : ℕ). here ++ drop m t) place in
    let long : length here + length (drop n t) ≡ length (drop at t) = sym (length-append here (drop n t)) ∙ ap length (sym bytes) in
    record {
      cs = c ∷ w.cs;
      front = here ++ w.front;
      spelt = more k.spells w.spelt;
      ranges = rw k.in-range w.ranges;
      whole = bytes ∙ ap (λ (x : List ℕ). here ++ x) w.whole ∙ sym (append_assoc here w.front (drop (f.place - 1) t));
      counted = omega (arith, length-append here w.front, w.counted, long, length-drop n t, length-drop at t);
      there = w.there;
    }

-- what stands at `at`, and the rest behind it
before_here : (t : List ℕ) (at : ℕ) (f : Fault) (r : Read) → read_at t at ≡ r → goes_on_lem at r (λ n. reading_from t n) ≡ faulty f
    → ((c : Command) (n : ℕ) → read_at t at ≡ At c n → reading_from t n ≡ faulty f → Before t n f) → Before t at f
unfolding all_in_range
before_here t at f (At c n) q w rest = before_more t at c n f q (rest c n q (before-faulty (placed (at + 1) c) (reading_from t n) f w))
before_here t at f (Bad code place) q w rest =
    let same : fault code place ≡ f = cc in
    let p : place ≡ at + 1 = rw q at (read_place t at) in
    let here : f.place - 1 ≡ at = omega (arith, ap (λ (x : Fault). x.place) same) in
    record {
      cs = [];
      front = [];
      spelt = none;
      ranges = refl;
      whole = ap (λ (m : ℕ). drop m t) (sym here);
      counted = omega (arith, ap (λ (x : Fault). x.place) same);
      there = ap (λ (m : ℕ). read_at t m) here ∙ q ∙ ap (λ (x : Fault). Bad x.code x.place) same;
    }
before_here t at f End q w rest = no (cc)

before_in : (k : ℕ) (t : List ℕ) (at : ℕ) (f : Fault) → length t ≤ at + k → reading_from t at ≡ faulty f → Before t at f
before_in zero t at f m e =
    before_here t at f (read_at t at) refl (sym (reading_law t at) ∙ e) (λ c n q w. let h = read_step t at q in absurd (omega arith))
before_in (suc k) t at f m e =
    before_here t at f (read_at t at) refl (sym (reading_law t at) ∙ e) (λ c n q w. let h = read_step t at q in before_in k t n f (omega arith) w)

before-bad : (t : List ℕ) (f : Fault) → reading_from t 0 ≡ faulty f → Before t 0 f
before-bad t f e = before_in (length t) t 0 f (omega arith) e

-- ---- a body cut there

cut_is : (b head front tail : List ℕ) (p : ℕ) → b ≡ head ++ (front ++ tail) → length head + length front + 1 ≡ p → cut_at p b ≡ head ++ (front ++ (82 ∷ []))
cut_is b head front tail p e n =
    let whole : b ≡ (head ++ front) ++ tail = e ∙ sym (append_assoc head front tail) in
    let long : length (head ++ front) ≡ p - 1 = omega (arith, length-append head front) in
    ap (λ (x : List ℕ). x ++ (82 ∷ [])) (ap (λ (x : List ℕ). take (p - 1) x) whole ∙ take_at (head ++ front) tail (p - 1) long)
    ∙ append_assoc head front (82 ∷ [])

reads_before : {s : Option ℕ} {head : List ℕ} {cs : List Command} {front : List ℕ} (b tail : List ℕ) (p : ℕ) → SpellsSlot s head → SpellsCommands cs front
    → slot_in_range s ≡ true → all_in_range cs ≡ true → b ≡ head ++ (front ++ tail) → length head + length front + 1 ≡ p → p ≤ most_bytes → ReadsBefore b p
unfolding list_fault
reads_before {s} {head} {cs} {front} b tail p a w h k e n m =
    let l : HostList = record { slot = s; listed = cs; run = true } in
    let bytes : List ℕ = head ++ (front ++ (82 ∷ [])) in
    let same : cut_at p b ≡ bytes = cut_is b head front tail p e n in
    let short : length bytes ≤ most_bytes = omega (arith, length-append head (front ++ (82 ∷ [])), length-append front (82 ∷ [])) in
    let t = told true (spelled-head a) (spelled_pieces w k) in
    record {
      means = l;
      spells = subst (λ (x : List ℕ). Spells l x) (sym same) (spells true a w);
      in-range = rw (h, k);
      taken = ap line_code_lem same ∙ t.code ∙ rw (le-ltb most_bytes (length bytes) short, h, k);
    }

-- ---- why a text is refused

data Why (places : List Placed → List ℕ) (r : Reading) (f : Fault) : Type 0 where
  shape : (cs : List Placed) → r ≡ commands cs → nowhere (places cs) ≡ false → f.code ≡ 2 → Why places r f
  read : r ≡ faulty f → Why places r f

why : (places : List Placed → List ℕ) (r : Reading) (f : Fault) → judged places r ≡ Err f → Why places r f
why places (commands cs) f e = go (places cs) refl e
  where
    go : (ps : List ℕ) → places cs ≡ ps → judged_places ps ≡ Err f → Why places (commands cs) f
    go [] q k = no (cc)
    go (p ∷ ps) q k =
        let w : fault 2 (leftmost (p ∷ ps)) ≡ f = cc in
        shape cs refl (rw q) (sym (ap (λ (x : Fault). x.code) w))
why places (faulty g) f e = let q : g ≡ f = cc in read (ap faulty q)

-- ---- a line, a store

module _ (b : List ℕ) (m : length b ≤ most_bytes) where
  t : List ℕ
  t = text_of b

  run : Bool
  run = ends_with_r b

  line-because : (f : Fault) → line_judged (text_of b) ≡ Err f → Because b f
  unfolding line_judged list_fault t run
  line-because f e = go (why (fault_places []) (reading_from t 0) f e)
    where
      go : Why (fault_places []) (reading_from t 0) f → Because b f
      go (shape cs q h k) =
          let w = reading_spells cs t 0 q in
          let l : HostList = record { slot = None; listed = unplaced cs; run = run } in
          let broken : structured 0 (unplaced cs) ≡ false = sym (places-none [] cs) ∙ h in
          by_structure l (subst (λ (x : List ℕ). Spells l x) (sym (text-run b)) (spells run without w.0)) (rw (w.1, broken)) k
      go (read q) =
          let w = before-bad t f q in
          let inside = bad-inside t (f.place - 1) w.there in
          let tail : List ℕ = drop (f.place - 1) t in
          let bytes : b ≡ w.front ++ (tail ++ run_text run) =
          text-run b ∙ ap (λ (x : List ℕ). x ++ run_text run) w.whole ∙ append_assoc w.front tail (run_text run) in
          by_command w.there (reads_before b (tail ++ run_text run) f.place without w.spelt refl w.ranges bytes w.counted (omega (arith, text-length b, w.counted)))

  store-because : (slot at : ℕ) (f : Fault) → get_or (text_of b) 0 0 ≡ 115 → operand_up_to operand_most (text_of b) 1 ≡ Number slot at → leb slot most_slot ≡ true
      → taken (behind at (stored_judged (ends_with_r b) (drop at (text_of b)))) (Taken.Store slot at (length (text_of b) - at)) ≡ Err f → Because b f
  unfolding stored_by list_fault t run
  store-because slot at f first number h e = judge (stored_judged run (drop at t)) refl e
    where
      s : List ℕ
      s = drop at t

      past : (1 < at) × (at ≤ length t)
      past = number_past t 1 slot at (up_to_number operand_most t 1 slot at number).0

      zeros : ℕ
      zeros = (spelled t 1 slot at (up_to_number operand_most t 1 slot at number).0).zeros

      head : List ℕ
      head = 115 ∷ spelling zeros slot

      text : t ≡ head ++ s
      text = drop-cons t 0 0 (omega (arith, past.0, past.1)) ∙ rw (first, (spelled t 1 slot at (up_to_number operand_most t 1 slot at number).0).bytes)

      few : length (spelling zeros slot) ≤ operand_most
      few = slot-few t slot at number

      long : length head ≡ at
      long = omega (arith, length-append head s, ap length text, length-drop at t, past.1)

      -- the body is the slot, and what the text is
      body : (front tail : List ℕ) → s ≡ front ++ tail → b ≡ head ++ (front ++ (tail ++ run_text run))
      body front tail q =
          text-run b ∙ ap (λ (x : List ℕ). x ++ run_text run) (text ∙ ap (λ (x : List ℕ). head ++ x) q)
          ∙ append_assoc head (front ++ tail) (run_text run)
          ∙ ap (λ (x : List ℕ). head ++ x) (append_assoc front tail (run_text run))

      go : (g : Fault) → fault g.code (at + g.place) ≡ f → Why (stored_places run (length s)) (reading_from s 0) g → Because b f
      go g same (shape cs q k two) =
          let w = reading_spells cs s 0 q in
          let l : HostList = record { slot = Some slot; listed = unplaced cs; run = run } in
          let broken : (storable (unplaced cs) && run) ≡ false = sym (stored-none run (length s) cs) ∙ k in
          let bytes : b ≡ head ++ (s ++ run_text run) = text-run b ∙ ap (λ (x : List ℕ). x ++ run_text run) text ∙ append_assoc head s (run_text run) in
          by_structure l (subst (λ (x : List ℕ). Spells l x) (sym bytes) (spells run (into slot zeros few) w.0)) (rw (h, w.1, broken)) (sym (ap (λ (x : Fault). x.code) same) ∙ two)
      go g same (read q) =
          let w = before-bad s g q in
          let inside = bad-inside s (g.place - 1) w.there in
          let place : at + g.place ≡ f.place = ap (λ (x : Fault). x.place) same in
          let there : read_at t (f.place - 1) ≡ Bad f.code f.place =
          ap (λ (x : ℕ). read_at t x) (let z : f.place - 1 ≡ length head + (g.place - 1) = omega (arith, w.counted, long) in z)
          ∙ ap (λ (x : List ℕ). read_at x (length head + (g.place - 1))) text
          ∙ read_on head s (g.place - 1)
          ∙ ap (on_read (length head)) w.there
          ∙ ap (λ (k : ℕ). Bad g.code (k + g.place)) long
          ∙ ap (λ (x : Fault). Bad x.code x.place) same in
          by_command there
          (reads_before b (drop (g.place - 1) s ++ run_text run) f.place (into slot zeros few) w.spelt h w.ranges (body w.front (drop (g.place - 1) s) w.whole)
          (omega (arith, w.counted, long))
          (omega (arith, w.counted, long, inside, length-drop at t, past.1, text-length b)))

      judge : (j : Judged) → stored_judged run s ≡ j → taken (behind at j) (Taken.Store slot at (length t - at)) ≡ Err f → Because b f
      judge (Ok u) q k = no (cc)
      judge (Err g) q k = let same : fault g.code (at + g.place) ≡ f = cc in go g same (why (stored_places run (length s)) (reading_from s 0) g q)

  -- the slot itself is at fault
  slot-because : (f : Fault) → get_or (text_of b) 0 0 ≡ 115 → ◌≡◌ {A = Result Taken Fault} (Err (bad_operand 1)) (Err f) → Because b f
  unfolding all_in_range
  slot-because f first e =
      let same : bad_operand 1 ≡ f = cc in
      let some : 1 ≤ length b = omega (arith, text-length b, text-some (text_of b) first) in
      by_slot (begins (text_of b) (run_text (ends_with_r b)) first (text-run b)) (sym same) (reads_before b b 1 without none refl refl refl (omega arith) (omega (arith, some)))
    where
      text-some : (x : List ℕ) → get_or x 0 0 ≡ 115 → 1 ≤ length x
      text-some [] q = absurd (omega arith)
      text-some (y ∷ ys) q = omega arith

      begins : (x r : List ℕ) → get_or x 0 0 ≡ 115 → b ≡ x ++ r → get_or b 0 0 ≡ 115
      begins [] r q w = absurd (omega arith)
      begins (y ∷ ys) r q w = rw w q

pub because : (b : List ℕ) (f : Fault) → body_of b ≡ Ok Body.Line → line_of b ≡ Err f → Because b f
unfolding line_of taken_of
because b f l e = go (eqb (get_or t 0 0) 115) refl e
  where
    t : List ℕ
    t = text_of b

    m : length b ≤ most_bytes
    m = line-short b l

    line : (j : Judged) → line_judged t ≡ j → taken j (Taken.Line (length t) (ends_with_r b)) ≡ Err f → Because b f
    line (Ok u) q k = no (cc)
    line (Err g) q k = let same : g ≡ f = cc in line-because b m f (q ∙ ap Err same)

    store : get_or t 0 0 ≡ 115 → (o : Operand) → operand_up_to operand_most t 1 ≡ o → store_of o t (ends_with_r b) ≡ Err f → Because b f
    store s Missing w k = slot-because b m f s k
    store s (Above at) w k = slot-because b m f s k
    store s (Number n at) w k = slots (leb n most_slot) refl k
      where
        slots : (x : Bool) → leb n most_slot ≡ x → cond x (stored_at n at t (ends_with_r b)) (Err (bad_operand 1)) ≡ Err f → Because b f
        slots true h q = store-because b m n at f s w h q
        slots false h q = slot-because b m f s q

    go : (x : Bool) → eqb (get_or t 0 0) 115 ≡ x → cond x (store_of (operand_up_to operand_most t 1) t (ends_with_r b)) (taken (line_judged t) (Taken.Line (length t) (ends_with_r b))) ≡ Err f
        → Because b f
    go true q k = store (eqb-true (get_or t 0 0) 115 q) (operand_up_to operand_most t 1) refl k
    go false q k = line (line_judged t) refl k
