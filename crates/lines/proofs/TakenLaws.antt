-- What is known of a line that is taken, and of a text that it stores: each test on the way was passed. Assumes nothing.
use Rattle.std.specs.Prelude.{Ok, Err}
use Rattle.lines.specs.Texts.{Judged}
use Prim.Native.Nat.{ℕ, zero, suc, ◌-◌, ◌≤◌, ◌<◌}
use mathlib.Core.Path.{◌≡◌, refl, sym, ap, ◌∙◌}
use mathlib.Core.List.{List, [], ◌∷◌, ◌++◌, append-nil, append_assoc}
use mathlib.Core.Bool.{Bool, true, false, cond, and-eq-true_iff}
use native.Mathlib.Omega.{arith}
use lib.ListN.{length, get_or, take, drop, length-append, length-drop, get_or-eq_default}
use lib.Seq.{take_at, take_all, take-suc, take-length, drop-append-le, drop-cons}
use lib.Dec.{leb, eqb}
use borrow.Author.Tests.{leb-true, le-leb, eqb-true}
use Rattle.parts.specs.Parts.{part, same, most_bytes}
use Rattle.digits.specs.declared.Operand.{Operand}
use Rattle.digits.specs.declared.Operand.TheVariants.{Missing, Number, Above}
use Rattle.digits.specs.Operand.{operand_most, operand_up_to}
use Rattle.digits.proofs.ReadBack.{number_past, spelled, up_to_number}
use Rattle.digits.specs.ReadBack.{spelling}
use Rattle.commands.specs.Table.{one_of}
use Rattle.commands.specs.Reading.{bad_operand}
use Rattle.lines.specs.declared.Body.{Body}
use Rattle.lines.specs.declared.Taken.{Taken}
use Rattle.lines.specs.Texts.{unplaced, storable, line_judged, stored_judged, passed, text_good_by, text_good}
use Rattle.lines.specs.Bodies.{body_of, ends_with_r, text_end, taken, behind, most_slot, stored_at, store_of, taken_of, line_of}
use Rattle.lines.specs.Lists.{run_text}
use Rattle.lines.specs.Loops.{Checked}
use Rattle.lines.specs.Claims.{StoredFrom, TakenFrom}
use Rattle.lines.proofs.LoopLaws.{stored-passes, stored-checked}

-- ---- a body is its text and `R` or none

-- what stands before the `R`
abbrev pub text_of : List ℕ → List ℕ
text_of b = take (text_end b) b

pub text-run : (b : List ℕ) → b ≡ text_of b ++ run_text (ends_with_r b)
unfolding text_end ends_with_r
text-run b = go (eqb (get_or b (length b - 1) 0) 82) refl
  where
    last : (n : ℕ) → length b ≡ n → get_or b (n - 1) 0 ≡ 82 → b ≡ take (n - 1) b ++ (82 ∷ [])
    last zero e h = let z = get_or-eq_default b 0 {n = 0} (omega arith) in absurd (omega arith)
    last (suc n) e h =
        let same : suc n - 1 ≡ n = omega arith in
        let lt : n < length b = omega arith in
        let f : b ≡ take n b ++ (get_or b n 0 ∷ []) = sym (take_all (suc n) b (omega arith)) ∙ take-suc b n 0 lt in
        let g : get_or b n 0 ≡ 82 = rw same at h in
        f ∙ rw (g, same)

    go : (r : Bool) → eqb (get_or b (length b - 1) 0) 82 ≡ r → b ≡ take (cond r (length b - 1) (length b)) b ++ run_text r
    go true e = last (length b) refl (eqb-true _ _ e)
    go false e = rw (take-length b, append-nil b)

-- ---- what was tested

pub record LineTaken (t : List ℕ) (run : Bool) (n : ℕ) (r : Bool) : Type 0 where
  pub no_store : eqb (get_or t 0 0) 115 ≡ false
  pub passes : line_judged t ≡ Ok tt
  pub all : n ≡ length t
  pub runs : r ≡ run

pub record StoreTaken (t : List ℕ) (run : Bool) (slot at n : ℕ) : Type 0 where
  pub store : eqb (get_or t 0 0) 115 ≡ true
  pub number : operand_up_to operand_most t 1 ≡ Number slot at
  pub in-range : leb slot most_slot ≡ true
  pub passes : stored_judged run (drop at t) ≡ Ok tt
  pub runs : run ≡ true
  pub all : n ≡ length t - at

-- two constructors are never equal
pub no : {A : Type 0} → ◌≡◌ {A = ℕ} 0 1 → A
no z = absurd (omega arith)

is_line : (j : Judged) (n m : ℕ) (r run : Bool) → taken j (Taken.Line m run) ≡ Ok (Taken.Line n r) → (j ≡ Ok tt) × (n ≡ m) × (r ≡ run)
is_line (Ok u) n m r run e = (refl, cc, cc)
is_line (Err f) n m r run e = no (cc)

not-store : (j : Judged) (m : ℕ) (run : Bool) (slot at n : ℕ) → taken j (Taken.Line m run) ≡ Ok (Taken.Store slot at n) → ◌≡◌ {A = ℕ} 0 1
not-store (Ok u) m run slot at n e = cc
not-store (Err f) m run slot at n e = cc

is_store : (k : ℕ) (j : Judged) (slot at n slot' at' n' : ℕ) → taken (behind k j) (Taken.Store slot' at' n') ≡ Ok (Taken.Store slot at n)
    → (j ≡ Ok tt) × (slot ≡ slot') × (at ≡ at') × (n ≡ n')
is_store k (Ok u) slot at n slot' at' n' e = (refl, cc, cc, cc)
is_store k (Err f) slot at n slot' at' n' e = no (cc)

-- what passes as a store has its `R`
runs : (run : Bool) (t : List ℕ) → stored_judged run t ≡ Ok tt → run ≡ true
runs run t e = let p = stored-passes run t e in ((and-eq-true_iff (storable (unplaced p.0)) run).0 p.2).1

not_line : (j : Judged) (slot at m n : ℕ) (r : Bool) → taken j (Taken.Store slot at m) ≡ Ok (Taken.Line n r) → ◌≡◌ {A = ℕ} 0 1
not_line (Ok u) slot at m n r e = cc
not_line (Err f) slot at m n r e = cc

pub line-tested : (t : List ℕ) (run : Bool) (n : ℕ) (r : Bool) → taken_of t run ≡ Ok (Taken.Line n r) → LineTaken t run n r
unfolding taken_of
line-tested t run n r e = go (eqb (get_or t 0 0) 115) refl e
  where
    store : (o : Operand) → store_of o t run ≡ Ok (Taken.Line n r) → ◌≡◌ {A = ℕ} 0 1
    store Missing k = cc
    store (Above next) k = cc
    store (Number slot at) k = slots (leb slot most_slot) k
      where
        slots : (b : Bool) → cond b (stored_at slot at t run) (Err (bad_operand 1)) ≡ Ok (Taken.Line n r) → ◌≡◌ {A = ℕ} 0 1
        slots true k = not_line (behind at (stored_judged run (drop at t))) slot at (length t - at) n r k
        slots false k = cc

    go : (b : Bool) → eqb (get_or t 0 0) 115 ≡ b → cond b (store_of (operand_up_to operand_most t 1) t run) (taken (line_judged t) (Taken.Line (length t) run)) ≡ Ok (Taken.Line n r)
        → LineTaken t run n r
    go true q k = no (store (operand_up_to operand_most t 1) k)
    go false q k = let w = is_line (line_judged t) n (length t) r run k in record { no_store = q; passes = w.0; all = w.1; runs = w.2 }

pub store-tested : (t : List ℕ) (run : Bool) (slot at n : ℕ) → taken_of t run ≡ Ok (Taken.Store slot at n) → StoreTaken t run slot at n
unfolding taken_of
store-tested t run slot at n e = go (eqb (get_or t 0 0) 115) refl e
  where
    store : eqb (get_or t 0 0) 115 ≡ true → (o : Operand) → operand_up_to operand_most t 1 ≡ o → store_of o t run ≡ Ok (Taken.Store slot at n) → StoreTaken t run slot at n
    store q Missing w k = no (cc)
    store q (Above next) w k = no (cc)
    store q (Number slot' at') w k = slots (leb slot' most_slot) refl k
      where
        slots : (b : Bool) → leb slot' most_slot ≡ b → cond b (stored_at slot' at' t run) (Err (bad_operand 1)) ≡ Ok (Taken.Store slot at n) → StoreTaken t run slot at n
        slots true h k =
            let x = is_store at' (stored_judged run (drop at' t)) slot at n slot' at' (length t - at') k in
            record {
              store = q;
              number = w ∙ rw (x.1, x.2);
              in-range = rw x.1 h;
              passes = rw x.2 x.0;
              runs = runs run (drop at' t) x.0;
              all = rw x.2 x.3;
            }
        slots false h k = no (cc)

    go : (b : Bool) → eqb (get_or t 0 0) 115 ≡ b → cond b (store_of (operand_up_to operand_most t 1) t run) (taken (line_judged t) (Taken.Line (length t) run)) ≡ Ok (Taken.Store slot at n)
        → StoreTaken t run slot at n
    go true q k = store q (operand_up_to operand_most t 1) refl k
    go false q k = no (not-store (line_judged t) (length t) run slot at n k)

-- ---- what a line that is taken has

pub text-length : (b : List ℕ) → length (text_of b) ≤ length b
text-length b = omega (arith, length-append (text_of b) (run_text (ends_with_r b)), ap length (text-run b))

-- the bytes behind the slot are a part of the body
stored-part : (b : List ℕ) (at n : ℕ) → at ≤ length (text_of b) → n ≡ length (text_of b) - at → part b at n ≡ drop at (text_of b)
unfolding part
stored-part b at n h e =
    let r : List ℕ = run_text (ends_with_r b) in
    let long : length (drop at (text_of b)) ≡ n = length-drop at (text_of b) ∙ sym e in
    ap (λ (x : List ℕ). take n (drop at x)) (text-run b)
    ∙ ap (λ (x : List ℕ). take n x) (drop-append-le at (text_of b) r h)
    ∙ take_at (drop at (text_of b)) r n long

-- the bytes of a store: `s`, the slot's digits, the text, and `R` or none
pub store_bytes : (b digits text t r : List ℕ) → get_or t 0 0 ≡ 115 → 1 ≤ length t → drop 1 t ≡ digits ++ text → b ≡ t ++ r → (115 ∷ digits) ++ (text ++ r) ≡ b
store_bytes b digits text t r first some bytes whole =
    let head : t ≡ 115 ∷ (digits ++ text) = drop-cons t 0 0 some ∙ rw (first, bytes) in
    sym (append_assoc (115 ∷ digits) text r) ∙ ap (λ (x : List ℕ). x ++ r) (sym head) ∙ sym whole

pub stored : (b : List ℕ) (slot at n : ℕ) → line_of b ≡ Ok (Taken.Store slot at n) → length b ≤ most_bytes → StoredFrom b slot at n
unfolding line_of text_good_by
stored b slot at n e m =
    let t : List ℕ = text_of b in
    let k = store-tested t (ends_with_r b) slot at n e in
    let p = number_past t 1 slot at (up_to_number operand_most t 1 slot at k.number).0 in
    let l : length t ≤ length b = text-length b in
    let z : n ≡ length t - at = k.all in
    let same : part b at n ≡ drop at t = stored-part b at n p.1 z in
    let short : length (drop at t) ≤ most_bytes = omega (arith, length-drop at t) in
    let w = spelled t 1 slot at (up_to_number operand_most t 1 slot at k.number).0 in
    let first : get_or t 0 0 ≡ 115 = eqb-true (get_or t 0 0) 115 k.store in
    let bytes = store_bytes b (spelling w.zeros slot) (drop at t) t (run_text (ends_with_r b)) first (omega arith) w.bytes (text-run b) in
    record {
      slot-most = leb-true slot most_slot k.in-range;
      inside = omega arith;
      good = rw (same, le-leb (length (drop at t)) most_bytes short, rw k.runs at k.passes);
      zeros = w.zeros;
      whole = sym bytes ∙ ap (λ (x : List ℕ). 115 ∷ (spelling w.zeros slot ++ (x ++ run_text (ends_with_r b)))) (sym same)
          ∙ ap (λ (r : Bool). 115 ∷ (spelling w.zeros slot ++ (part b at n ++ run_text r))) k.runs;
    }

pub text-checked : (t : List ℕ) → text_good t ≡ true → Checked t
unfolding text_good_by
text-checked t e = stored-checked true t (go (stored_judged true t) ((and-eq-true_iff (leb (length t) most_bytes) (passed (stored_judged true t))).0 e).1)
  where
    go : (j : Judged) → passed j ≡ true → j ≡ Ok tt
    go (Ok u) k = refl
    go (Err f) k = no (cc)

pub held : (b : List ℕ) (n : ℕ) (run : Bool) → line_of b ≡ Ok (Taken.Line n run) → TakenFrom b n run
unfolding line_of
held b n run e =
    let k = line-tested (text_of b) (ends_with_r b) n run e in
    let l : length (text_of b) ≤ length b = text-length b in
    let same : take n b ≡ text_of b = ap (λ (x : List ℕ). take n x) (text-run b) ∙ take_at (text_of b) (run_text (ends_with_r b)) n (sym k.all) in
    record {
      inside = omega (arith, k.all);
      checked = rw same k.passes;
      whole = text-run b ∙ ap (λ (x : List ℕ). x ++ run_text (ends_with_r b)) (sym same) ∙ ap (λ (r : Bool). take n b ++ run_text r) (sym k.runs);
    }

-- `R` alone and nothing are no lines
alone_no_line : (run : Bool) → body_of (run_text run) ≡ Ok Body.Line → ◌≡◌ {A = ℕ} 0 1
unfolding body_of one_of same
alone_no_line true e = cc
alone_no_line false e = cc

pub one-or-more : (b : List ℕ) (n : ℕ) (run : Bool) → body_of b ≡ Ok Body.Line → line_of b ≡ Ok (Taken.Line n run) → 1 ≤ n
unfolding line_of
one-or-more b n run f e = go (text_of b) refl (line-tested (text_of b) (ends_with_r b) n run e).all
  where
    go : (t : List ℕ) → text_of b ≡ t → n ≡ length (text_of b) → 1 ≤ n
    go [] q z = no (alone_no_line (ends_with_r b) (sym (ap body_of (text-run b ∙ ap (λ (x : List ℕ). x ++ run_text (ends_with_r b)) q)) ∙ f))
    go (x ∷ xs) q z = omega (arith, ap length q)
