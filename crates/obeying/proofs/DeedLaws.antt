-- What a body does: each kind of body is one of the deeds. Assumes nothing.
use Prim.Native.Nat.{ℕ, zero, suc, ◌+◌, ◌≤◌, ◌<◌}
use mathlib.Core.Path.{◌≡◌, refl, sym, ap, subst, ◌∙◌}
use mathlib.Core.List.{List, [], ◌∷◌}
use mathlib.Core.Bool.{Bool, true, false, cond, ◌&&◌, and-eq-true_iff}
use native.Mathlib.Omega.{arith}
use lib.Dec.{ltb, eqb}
use lib.ListN.{length, drop}
use borrow.Author.Tests.{ltb-true, lt-ltb, eqb-true}
use Rattle.std.specs.Prelude.{Result, Ok, Err}
use Rattle.parts.proofs.Laws.{cases}
use Rattle.parts.specs.Parts.{most_bytes}
use Rattle.digits.specs.declared.Operand.{Operand}
use Rattle.digits.specs.declared.Operand.TheVariants.{Missing, Number, Above}
use Rattle.digits.specs.Operand.{digit_run, operand_at, operand_most, operand_up_to}
use Rattle.digits.proofs.ReadBack.{up_to_number, read_length}
use Rattle.commands.specs.declared.Fault.{Fault}
use Rattle.commands.specs.Reading.{fault}
use Rattle.commands.proofs.TableLaws.{each, each-one}
use Rattle.lines.specs.declared.Immediate.{Immediate}
use Rattle.lines.specs.declared.Immediate.TheVariants.{Terminate, Status, CurrentText, Position, Speed, Sample, EndlessSpeed, StepSize, Correction, Clear}
use Rattle.lines.specs.declared.Body.{Body}
use Rattle.lines.specs.declared.Taken.{Taken}
use Rattle.lines.specs.Bodies.{body_of, line_of, body_fault, taken_code, body_code, line_fault, line_code_lem}
use Rattle.lines.proofs.CodeLaws.{codes}
use Rattle.lines.proofs.FaultLaws.{place-most}
use Rattle.lines.proofs.TakenLaws.{held, stored}
pub use Rattle.lines.proofs.SpellLaws.{line-short}
use Rattle.motor.specs.Motion.{waits_input, is_endless}
use Rattle.motor.specs.Deeds.{code_values}
use Rattle.turns.specs.declared.Core.{Core}
use Rattle.obeying.specs.declared.Tell.{Tell}
use Rattle.obeying.specs.declared.Obeyed.{Obeyed}
use Rattle.obeying.specs.Obeying as obeying
use Rattle.obeying.specs.Obeying.{busy, place_told, silent, immediate_obeyed, line_obeyed, speed_or_busy, kind_obeyed, body_obeyed}
use Rattle.obeying.specs.Speed.{speed_line, number_in, speed_in}
use Rattle.obeying.specs.Deeds.{nothing-told, text-told, position-told, speed-told, sample-told, endless-told, step_size_told, correction-told, Obeys, refuses, tells, stores, clears}
use Rattle.obeying.specs.Deeds.{stops, resumes, Speeds, speeds, again, loads}
use Rattle.obeying.proofs.SpeedLaws.{fits, speed_code, speed-body, spelled-whole, speed-code}

-- the codes of lines are 2 and 3
line_code : (b : List ℕ) → line_code_lem b < code_values
unfolding each
line_code b = ltb-true (line_code_lem b) code_values (each-one (λ (x : ℕ). ltb x code_values) (0 ∷ 2 ∷ 3 ∷ []) (line_code_lem b) refl (codes b))

-- an over-long body is refused
pub too_long : (b : List ℕ) → most_bytes < length b → body_of b ≡ Err (fault 2 0)
unfolding body_of
too_long b l = rw (lt-ltb _ _ l)

-- no fault is told past the 257th byte
pub refused-place : (b : List ℕ) {f : Fault} → body_of b ≡ Err f → f.place ≤ most_bytes + 1
unfolding line_fault
refused-place b {f} e = rw e at (place-most b)

pub line-place : (b : List ℕ) {f : Fault} → body_of b ≡ Ok Body.Line → line_of b ≡ Err f → f.place ≤ most_bytes + 1
unfolding line_fault
line-place b {f} l e = rw (l, e) at (place-most b)

pub place-told : (p : ℕ) → (p ≡ 0 → ⊥) → Tell.Number p ≡ place_told p
place-told zero n = absurd (n refl)
place-told (suc p) n = refl

module _ (body : List ℕ) (c : Core) where
  abbrev Deed : Obeyed → Type 0
  Deed o = Obeys body c o

  refusal : Deed (obeying.refused busy c)
  refusal = refuses (fault busy 0) (omega arith) (omega arith)

  quiet : Deed (silent c)
  quiet = tells Tell.Nothing nothing-told

  immediate-does : (i : Immediate) → body_of body ≡ Ok (Body.Immediate i) → Deed (immediate_obeyed i c)
  immediate-does Terminate e = cases (λ (d : Core). Deed (silent d)) c.running (λ r. stops e r) (λ r. quiet)
  immediate-does Status e = quiet
  immediate-does CurrentText e = tells Tell.Text text-told
  immediate-does Position e = tells _ position-told
  immediate-does Speed e = tells _ speed-told
  immediate-does Sample e = tells _ sample-told
  immediate-does EndlessSpeed e = tells _ endless-told
  immediate-does StepSize e = tells _ step_size_told
  immediate-does Correction e = tells _ correction-told
  immediate-does Clear e = clears

  -- "its commands, one or more, become the current text"
  line_does : body_of body ≡ Ok Body.Line → c.running ≡ false → (x : Result Taken Fault) → line_of body ≡ x → taken_code x < code_values → Deed (line_obeyed x c)
  line_does l r (Err f) e k = refuses f k (line-place body l e)
  line_does l r (Ok (Taken.Line n run)) e k =
      let t = held body n run e in
      loads run n r (record { inside = t.inside; short = line-short body l; checked = t.checked })
  line_does l r (Ok (Taken.Store slot at n)) e k = let m = line-short body l in stores slot at n (stored body slot at n e m).inside m

  -- 02, E3: such a line that gets no code has its number in range
  speed-does : c.running ≡ true → is_endless c.motor.wait ≡ true → speed_line body ≡ true → taken_code (line_of body) ≡ 0 → length body ≤ most_bytes → Speeds body c (speed_in body)
  unfolding digit_run
  speed-does r w s z short = go (operand_up_to operand_most body 1) refl (sym (speed-code body s) ∙ z)
    where
      go : (o : Operand) → operand_up_to operand_most body 1 ≡ o → speed_code (operand_up_to operand_most body 1) ≡ 0 → Speeds body c (number_in (operand_at body 1))
      go Missing e k = let q : ◌≡◌ {A = ℕ} 3 0 = rw e at k in absurd (omega arith)
      go (Above next) e k = let q : ◌≡◌ {A = ℕ} 3 0 = rw e at k in absurd (omega arith)
      go (Number n next) e k =
          let at = up_to_number operand_most body 1 n next e in
          let w' = spelled-whole (speed-body body s) n next at.0 in
          let long = read_length body (82 ∷ []) 1 w'.0 n (ap (drop 1) w'.1) refl in
          rw at.0
          (record {
            runs = r;
            endless = w;
            short = short;
            zeros = w'.0;
            few = omega (arith, at.1, long);
            whole = w'.1;
            in-range = ranged (fits n) refl (rw e at k);
          })
        where
          ranged : (f : Bool) → fits n ≡ f → ◌≡◌ {A = ℕ} (cond (fits n) 0 3) 0 → fits n ≡ true
          ranged true q z = q
          ranged false q z = let y : ◌≡◌ {A = ℕ} 3 0 = rw q at z in absurd (omega arith)

  by_line : body_of body ≡ Ok Body.Line → (line_fault body).code ≡ 0 → taken_code (line_of body) ≡ 0
  unfolding line_fault
  by_line e z = subst (λ (k : Result Body Fault). (body_fault k body).code ≡ 0) e z

  -- "tested before 15; at all other times 15 stands"
  speed-or-busy : body_of body ≡ Ok Body.Line → c.running ≡ true → Deed (speed_or_busy body c)
  unfolding line_code_lem
  speed-or-busy e r =
      cases Deed (is_endless c.motor.wait && speed_line body)
      (λ q. let p = (and-eq-true_iff (is_endless c.motor.wait) (speed_line body)).0 q in
      cases Deed (eqb (line_fault body).code 0)
      (λ z. speeds (speed_in body) (speed-does r p.0 p.1 (by_line e (eqb-true (line_fault body).code 0 z)) (line-short body e)))
      (λ z. refuses (line_fault body) (line_code body) (place-most body)))
      (λ q. refusal)

  kind_does : (b : Result Body Fault) → body_of body ≡ b → body_code b body < code_values → Deed (kind_obeyed b body c)
  kind_does (Err f) e k = refuses f k (refused-place body e)
  kind_does (Ok Body.Empty) e k = quiet
  kind_does (Ok (Body.Immediate i)) e k = immediate-does i e
  kind_does (Ok Body.Run) e k =
      cases Deed c.running (λ r. cases Deed (waits_input c.motor.wait) (λ w. resumes) (λ w. refusal))
      (λ r. cases (λ (d : Core). Deed (silent d)) c.loaded (λ q. again r) (λ q. quiet))
  kind_does (Ok Body.Again) e k = cases Deed c.running (λ r. refusal) (λ r. again r)
  kind_does (Ok Body.Line) e k = cases Deed c.running (λ r. speed-or-busy e r) (λ r. line_does e r (line_of body) refl k)

  pub body-does : Deed (body_obeyed body c)
  unfolding body_obeyed line_code_lem line_fault
  body-does = kind_does (body_of body) refl (line_code body)
