-- Laws of a body of exactly `V`, its operand and `R`: it gets 3 where the operand is missing or out of the range of `V`, and else it is taken.
-- Assumes nothing.
use Prim.Native.Nat.{ℕ, ◌-◌, ◌≤◌, ◌<◌}
use mathlib.Core.Path.{◌≡◌, refl, sym, ap, ◌∙◌}
use mathlib.Core.List.{List, [], ◌∷◌, ◌++◌}
use mathlib.Core.Bool.{Bool, true, false, cond, ◌&&◌, and-eq-true_iff, and-true, and-false}
use native.Mathlib.Omega.{arith}
use lib.ListN.{length, get_or, drop, length-append}
use lib.Seq.{drop-cons, drop-append_seam}
use lib.Dec.{eqb}
use borrow.Author.Tests.{lt-ltb, eqb-true, eq-eqb, ne_eqb}
use Rattle.std.specs.Prelude.{Ok, Err}
use Rattle.parts.proofs.Laws.{cases}
use Rattle.digits.specs.declared.Operand.{Operand}
use Rattle.digits.specs.declared.Operand.TheVariants.{Missing, Number, Above}
use Rattle.digits.specs.Operand.{digit_run, operand_at, operand_most, operand_up_to}
use Rattle.digits.specs.ReadBack.{spelling}
use Rattle.digits.proofs.ReadBack.{number_past, above-past, spelled, up_to_number}
use Rattle.commands.specs.declared.Command.TheVariants.{Plain}
use Rattle.commands.specs.declared.Act.TheVariants.{Set}
use Rattle.commands.specs.declared.Setting.TheVariants.{TopSpeed}
use Rattle.commands.specs.declared.Range.{Range}
use Rattle.commands.specs.declared.Read.TheVariants.{At, Bad}
use Rattle.commands.specs.Table.{table, find, asks_of, command_of, within}
use Rattle.commands.specs.Reading.{out_of_range, bad_operand, required, read_by, read_at}
use Rattle.commands.specs.Writing.{in_range}
use Rattle.commands.proofs.ReadingLaws.{read_append, read_end}
use Rattle.lines.specs.declared.Taken.{Taken}
use Rattle.lines.specs.Texts.{Judged, commands, reading_from, fault_places, line_judged}
use Rattle.lines.specs.Bodies.{ends_with_r, taken, taken_of, line_of, taken_code}
use Rattle.lines.proofs.TextLaws.{reading_law}
use Rattle.lines.proofs.TakenLaws.{text_of, text-run}
use Rattle.obeying.specs.Speed.{operand_end, speed_line}

-- `V n`, in the range of its row
abbrev pub fits : ℕ → Bool
fits n = in_range (Plain (Set TopSpeed n))

-- the code of such a line, by its operand
abbrev pub speed_code : Operand → ℕ
speed_code Missing = 3
speed_code (Number n next) = cond (fits n) 0 3
speed_code (Above next) = 3

-- between `V` and the last `R` the operand decides
pub by_operand : (b : List ℕ) {o : Operand} {at : ℕ} → get_or b 0 0 ≡ 86 → get_or b (length b - 1) 0 ≡ 82 → o ≡ operand_at b 1 → at ≡ operand_end o
    → eqb at (length b - 1) ≡ speed_line b
unfolding speed_line ends_with_r
by_operand b {at = at} f l r e =
    let z : at ≡ operand_end (operand_at b 1) = e ∙ ap operand_end r in
    rw (eq-eqb _ _ f, eq-eqb _ _ l, z) (sym (and-true _))

-- fewer bytes, another letter or another end are no such line
pub short-line : (b : List ℕ) → length b < 2 → false ≡ speed_line b
unfolding speed_line ends_with_r
short-line [] l = refl
short-line (x ∷ []) l = go (eqb x 86) refl
  where
    go : (q : Bool) → eqb x 86 ≡ q → false ≡ speed_line (x ∷ [])
    go true e = let z : x ≡ 86 = eqb-true x 86 e in rw z (sym (and-false _))
    go false e = rw e
short-line (x ∷ (y ∷ ys)) l = absurd (omega arith)

pub other_letter : (b : List ℕ) → (get_or b 0 0 ≡ 86 → ⊥) → false ≡ speed_line b
unfolding speed_line
other_letter b n = simp (ne_eqb _ _ n)

pub other_end : (b : List ℕ) → (get_or b (length b - 1) 0 ≡ 82 → ⊥) → false ≡ speed_line b
unfolding speed_line ends_with_r
other_end b n = simp (ne_eqb _ _ n, and-false)

-- what such a line is: `V`, what the operand has, and one `R` behind it
pub record SpeedBody (b t : List ℕ) : Type 0 where
  pub first : get_or b 0 0 ≡ 86
  pub end : operand_end (operand_at b 1) ≡ length t
  pub whole : b ≡ t ++ (82 ∷ [])
  pub some : 1 ≤ length t
  pub runs : ends_with_r b ≡ true

pub speed-body : (b : List ℕ) → speed_line b ≡ true → SpeedBody b (text_of b)
unfolding speed_line
speed-body b h =
    let p = (and-eq-true_iff (eqb (get_or b 0 0) 86) (eqb (operand_end (operand_at b 1)) (length b - 1) && ends_with_r b)).0 h in
    let q = (and-eq-true_iff (eqb (operand_end (operand_at b 1)) (length b - 1)) (ends_with_r b)).0 p.1 in
    let end : operand_end (operand_at b 1) ≡ length b - 1 = eqb-true _ _ q.0 in
    let w : b ≡ text_of b ++ (82 ∷ []) = rw q.1 at (text-run b) in
    let long = ap length w ∙ length-append (text_of b) (82 ∷ []) in
    let least = past (operand_at b 1) refl in
    record { first = eqb-true _ _ p.0; end = omega (arith, end, long); whole = w; some = omega (arith, end, long, least); runs = q.1 }
  where
    past : (o : Operand) → operand_at b 1 ≡ o → 1 ≤ operand_end (operand_at b 1)
    past Missing e = rw e (omega arith)
    past (Number n next) e = let l = number_past b 1 n next e in rw e (omega arith)
    past (Above next) e = let l = above-past b 1 next e in rw e (omega arith)

module _ {b t : List ℕ} (s : SpeedBody b t) where
  -- the one command of the text is read as in the body: the `R` behind it is no digit
  read_there : read_at t 0 ≡ required 86 (Range.From 1 16777216) (operand_up_to operand_most b 1) 1
  unfolding digit_run asks_of find table read_by
  read_there =
      let l : 0 < length b = omega (arith, ap length s.whole, length-append t (82 ∷ []), s.some) in
      sym (read_append t (82 ∷ []) 0 s.some refl) ∙ ap (λ (x : List ℕ). read_at x 0) (sym s.whole) ∙ rw (lt-ltb 0 (length b) l, s.first)

  -- no store
  first-there : get_or t 0 0 ≡ 86
  first-there = go t s.some s.whole
    where
      go : (x : List ℕ) → 1 ≤ length x → b ≡ x ++ (82 ∷ []) → get_or x 0 0 ≡ 86
      go [] l e = absurd (omega arith)
      go (y ∷ ys) l e = sym (ap (λ (z : List ℕ). get_or z 0 0) e) ∙ s.first

  judged-code : (j : Judged) → line_judged t ≡ j → (run : Bool) → taken_code (taken_of t run) ≡ taken_code (taken j (Taken.Line (length t) run))
  unfolding taken_of
  judged-code j e run = rw (first-there, e)

  bad-code : (run : Bool) → required 86 (Range.From 1 16777216) (operand_up_to operand_most b 1) 1 ≡ Bad out_of_range 1 → taken_code (taken_of t run) ≡ 3
  unfolding line_judged
  bad-code run e = judged-code (Err (bad_operand 1)) (rw (reading_law t 0, read_there, e)) run

  good-code : (n next : ℕ) (run : Bool) → operand_up_to operand_most b 1 ≡ Number n next → fits n ≡ true → taken_code (taken_of t run) ≡ 0
  unfolding line_judged fault_places in_range within command_of asks_of find table
  good-code n next run e f =
      let z : next ≡ length t = sym (ap operand_end (up_to_number operand_most b 1 n next e).0) ∙ s.end in
      let one : read_at t 0 ≡ At (Plain (Set TopSpeed n)) (length t) = read_there ∙ rw (e, f, z) in
      let none : reading_from t (length t) ≡ commands [] = reading_law t (length t) ∙ rw (read_end t (length t) (omega arith)) in
      judged-code (Ok tt) (rw (reading_law t 0, one, none)) run

  pub code_by : (o : Operand) → operand_up_to operand_most b 1 ≡ o → (run : Bool) → taken_code (taken_of t run) ≡ speed_code o
  unfolding in_range within asks_of find table
  code_by Missing e run = bad-code run (rw e)
  code_by (Above next) e run = bad-code run (rw e)
  code_by (Number n next) e run =
      cases (λ (k : ℕ). taken_code (taken_of t run) ≡ k) (fits n) (λ f. good-code n next run e f) (λ f. bad-code run (rw (e, f)))

  -- "`V`, its operand and `R`", where the operand is a number
  pub spelled-whole : (n next : ℕ) → operand_at b 1 ≡ Number n next → (z : ℕ) × (b ≡ 86 ∷ (spelling z n ++ (82 ∷ [])))
  spelled-whole n next e =
      let w = spelled b 1 n next e in
      let z : next ≡ length t = sym (ap operand_end e) ∙ s.end in
      let l : 1 ≤ length b = omega (arith, ap length s.whole, length-append t (82 ∷ []), s.some) in
      let rest : drop next b ≡ 82 ∷ [] = rw z (ap (drop (length t)) s.whole ∙ drop-append_seam t (82 ∷ [])) in
      (w.zeros, drop-cons b 0 0 l ∙ rw (s.first, w.bytes, rest))

-- the code that an idle unit gives it
pub speed-code : (b : List ℕ) → speed_line b ≡ true → taken_code (line_of b) ≡ speed_code (operand_up_to operand_most b 1)
unfolding line_of
speed-code b h = code_by (speed-body b h) (operand_up_to operand_most b 1) refl (ends_with_r b)
