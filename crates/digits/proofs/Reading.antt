-- Laws of the longest run of digits and of its value, capped above the widest number. Assumes nothing.
use Prim.Native.Nat.{ℕ, ◌+◌, ◌-◌, ◌*◌, ◌≤◌, ◌<◌, min}
use mathlib.Core.Path.{◌≡◌, refl, sym, ap, ◌∙◌}
use mathlib.Core.List.{List, [], ◌∷◌}
use mathlib.Core.Bool.{Bool, true, false, cond}
use native.Mathlib.Omega.{arith}
use native.Mathlib.Numerals.{add-one}
use lib.ListN.{length, get_or, drop, length-drop, drop_of_length-le}
use lib.Seq.{drop-cons}
use borrow.Author.Tests.{le-leb, lt-leb}
use Rattle.digits.specs.declared.Operand.TheVariants.{Missing, Number, Above}
use Rattle.digits.specs.Operand.{is_digit, digit_run, value_after, widest, operand_of}

-- ---- one digit

pub digit_past : (s : List ℕ) (i : ℕ) → length s ≤ i → digit_run (drop i s) ≡ []
unfolding digit_run
digit_past s i h = rw (drop_of_length-le s h)

module _ (s : List ℕ) (i : ℕ) (l : i < length s) where
  digit_here : digit_run (drop i s) ≡ cond (is_digit (get_or s i 0)) ((get_or s i 0 - 48) ∷ digit_run (drop (i + 1) s)) []
  unfolding digit_run
  digit_here = rw (add-one, drop-cons s i 0)

  pub digit_none : is_digit (get_or s i 0) ≡ false → digit_run (drop i s) ≡ []
  digit_none h = digit_here ∙ rw h

  pub digit_some : is_digit (get_or s i 0) ≡ true → digit_run (drop i s) ≡ (get_or s i 0 - 48) ∷ digit_run (drop (i + 1) s)
  digit_some h = digit_here ∙ rw h

pub run-within : (s : List ℕ) → length (digit_run s) ≤ length s
unfolding digit_run
run-within [] = omega arith
run-within (b ∷ s) = go (is_digit b) (run-within s)
  where
    go : (t : Bool) → length (digit_run s) ≤ length s → length (cond t ((b - 48) ∷ digit_run s) []) ≤ length (b ∷ s)
    go true h = omega arith
    go false h = omega arith

pub inside : (s : List ℕ) (i d : ℕ) {ds : List ℕ} → digit_run (drop i s) ≡ d ∷ ds → i < length s
inside s i d e = omega (arith, run-within (drop i s), length-drop i s, ap length e)

-- ---- the value, capped

abbrev pub cap : ℕ → ℕ
cap x = min x (widest + 1)

pub cap_after : (ds : List ℕ) (x : ℕ) → cap (value_after (cap x) ds) ≡ cap (value_after x ds)
unfolding value_after
cap_after [] x = omega arith
cap_after (d ∷ ds) x =
    sym (cap_after ds (cap x * 10 + d)) ∙ ap (λ (n : ℕ). cap (value_after n ds)) same ∙ cap_after ds (x * 10 + d)
  where
    same : cap (cap x * 10 + d) ≡ cap (x * 10 + d)
    same = omega arith

-- so numbers that are alike below the cap stay alike
cap_same : (ds : List ℕ) (x y : ℕ) → cap x ≡ cap y → cap (value_after x ds) ≡ cap (value_after y ds)
cap_same ds x y e = sym (cap_after ds x) ∙ ap (λ (n : ℕ). cap (value_after n ds)) e ∙ cap_after ds y

-- what holds at place i of the run from `at`, with v read so far
pub record Reading (s : List ℕ) (at i v : ℕ) : Type 0 where
  pub small : v ≤ widest * 10 + 9
  pub past : i + length (digit_run (drop i s)) ≡ at + length (digit_run (drop at s))
  pub same : cap (value_after v (digit_run (drop i s))) ≡ cap (value_after 0 (digit_run (drop at s)))

pub next : (s : List ℕ) (at i v d v' : ℕ) → Reading s at i v → digit_run (drop i s) ≡ d ∷ digit_run (drop (i + 1) s)
    → (cap v' ≡ cap (v * 10 + d)) × (v' ≤ widest * 10 + 9) → Reading s at (i + 1) v'
unfolding value_after
next s at i v d v' r step e = record {
  small = e.1;
  past = let p = rw step at r.past in omega arith;
  same = cap_same (digit_run (drop (i + 1) s)) v' (v * 10 + d) e.0 ∙ rw step at r.same;
}

-- past the run
pub past-run : (s : List ℕ) (at i v : ℕ) → Reading s at i v → digit_run (drop i s) ≡ []
    → (i ≡ at + length (digit_run (drop at s))) × (cap v ≡ cap (value_after 0 (digit_run (drop at s))))
unfolding value_after
past-run s at i v r stop = (let p = rw stop at r.past in omega arith, rw stop at r.same)

-- ---- what is returned, from the capped value and the place past the run

pub at_missing : (run : List ℕ) (at i : ℕ) → i ≡ at → i ≡ at + length run → Missing ≡ operand_of run (at + length run)
unfolding operand_of
at_missing [] at i e h = refl
at_missing (d ∷ ds) at i e h = absurd (omega arith)

pub at_number : (run : List ℕ) (at i v : ℕ) → (i ≡ at → ⊥) → i ≡ at + length run → cap v ≡ cap (value_after 0 run) → v ≤ widest
    → Number v i ≡ operand_of run (at + length run)
unfolding operand_of
at_number [] at i v n h e l = absurd (n (omega arith))
at_number (d ∷ ds) at i v n h e l =
    let same : value_after 0 (d ∷ ds) ≡ v = omega arith in
    rw (same, ← h) (simp (le-leb _ _ l))

pub at_above : (run : List ℕ) (at i v : ℕ) → (i ≡ at → ⊥) → i ≡ at + length run → cap v ≡ cap (value_after 0 run) → widest < v
    → Above i ≡ operand_of run (at + length run)
unfolding operand_of
at_above [] at i v n h e l = absurd (n (omega arith))
at_above (d ∷ ds) at i v n h e l =
    let more : widest < value_after 0 (d ∷ ds) = omega arith in
    rw (← h) (simp (lt-leb _ _ more))
