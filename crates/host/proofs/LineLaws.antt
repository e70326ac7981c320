-- Laws of the promise of `write_line`: what is made before it is checked, each answer, and that no second answer meets it.
-- Assumes nothing.
use Prim.Native.Nat.{ℕ, ◌+◌, ◌≤◌, ◌<◌}
use mathlib.Core.Path.{◌≡◌, refl, sym, ap, ◌∙◌}
use mathlib.Core.List.{List, [], ◌∷◌, ◌++◌}
use mathlib.Core.Bool.{Bool, true, false, cond}
use native.Mathlib.Omega.{arith}
use lib.ListN.{length, take, replicate, length-append, length-replicate}
use lib.Dec.{eqb, ltb}
use borrow.Author.Tests.{lt-ltb, ltb-true}
use Rattle.parts.specs.Parts.{fits_at, put, put_in, most_bytes}
use Rattle.parts.proofs.Laws.{cases, take_put}
use Rattle.std.specs.Prelude.{Some, None, Result, Ok, Err}
use Rattle.commands.specs.declared.Fault.{Fault}
use Rattle.commands.specs.Reading.{fault}
use Rattle.commands.specs.declared.Command.{Command}
use Rattle.commands.specs.Writing.{spelled}
use Rattle.commands.proofs.WritingLaws.{letter-written, spelling-some}
use Rattle.lines.specs.Bodies.{line_fault, line_code_lem}
use Rattle.lines.specs.Lists.{HostList, slot_spelled, commands_text, run_text, written_of, list_code_lem}
use Rattle.lines.proofs.ListLaws.{list_law}
use Rattle.lines.proofs.FaultLaws.{over-long}
use Rattle.host.specs.declared.NotWritten.{NotWritten}
use Rattle.host.specs.declared.NotWritten.TheVariants.{Refused, NoRoom}
use Rattle.host.specs.Host.{code_of, place_of, fault_of, fitted, answer_of, left_by_lem, LineIs}
use Rattle.host.specs.Adding.{AddedIs, CheckedIs}
use Rattle.host.proofs.AddLaws.{fits, too_long}

-- no second answer meets the promise
pub line_once : {l : HostList} {buffer : List ℕ} {r s : Result ℕ NotWritten} {x y : List ℕ}
    → LineIs l buffer r x → LineIs l buffer s y → (r ≡ s) × (x ≡ y)
line_once p q = (p.answers ∙ sym q.answers, p.leaves ∙ sym q.leaves)

line_is : (l : HostList) (buffer : List ℕ) {answer : Result ℕ NotWritten} {after : List ℕ}
    → answer ≡ answer_of l buffer → after ≡ left_by_lem answer l buffer → LineIs l buffer answer after
line_is l buffer e f = record { answers = e; leaves = f ∙ ap (λ (a : Result ℕ NotWritten). left_by_lem a l buffer) e }

pub code-long : (l : HostList) → most_bytes < length (written_of l) → list_code_lem l ≡ 2
unfolding list_code_lem
code-long l h = rw (lt-ltb most_bytes (length (written_of l)) h)

-- each command has a byte at least
commands-bytes : (cs : List Command) → length cs ≤ length (commands_text cs)
unfolding commands_text
commands-bytes [] = omega arith
commands-bytes (c ∷ cs) =
    omega (arith, commands-bytes cs, spelling-some (spelled c) (letter-written c), length-append (spelled c) (commands_text cs))

pub many-long : (l : HostList) → most_bytes < length l.listed → most_bytes < length (written_of l)
unfolding written_of
many-long l h =
    let t : List ℕ = commands_text l.listed ++ run_text l.run in
    omega (arith, commands-bytes l.listed, length-append (slot_spelled l.slot) t, length-append (commands_text l.listed) (run_text l.run))

-- the fault is the line check's, of the line as it is written
pub code_is : (l : HostList) → code_of l ≡ list_code_lem l
unfolding code_of
code_is l = cases (λ (k : ℕ). k ≡ list_code_lem l) (ltb most_bytes (length l.listed)) (λ e. sym (code-long l (many-long l (ltb-true _ _ e)))) (λ e. refl)

pub fault_is : (l : HostList) → fault_of l ≡ line_fault (written_of l)
unfolding place_of line_code_lem
fault_is l =
    ap (λ (c : ℕ). fault c (place_of l)) (code_is l ∙ sym (list_law l))
    ∙ cases (λ (k : ℕ). fault (line_fault (written_of l)).code k ≡ line_fault (written_of l)) (ltb most_bytes (length l.listed))
    (λ e. let h = over-long (written_of l) (many-long l (ltb-true _ _ e)) in rw h) (λ e. refl)

-- the line was to be made in 256 bytes
module _ (l : HostList) (buffer : List ℕ) where
  -- it passes them
  pub line-passes : {after : List ℕ} → AddedIs (replicate 256 0) 0 (written_of l) None after → LineIs l buffer (Err (Refused (fault 2 0))) buffer
  unfolding answer_of
  line-passes m =
      let long : most_bytes < length (written_of l) = omega (arith, too_long m, length-replicate {A = ℕ} 256 0) in
      let f : fault_of l ≡ fault 2 0 = fault_is l ∙ over-long (written_of l) long in
      let two : code_of l ≡ 2 = ap (λ (x : Fault). x.code) f in
      let no : false ≡ eqb (code_of l) 0 = sym (ap (λ (k : ℕ). eqb k 0) two) in
      line_is l buffer
      (ap (λ (x : Fault). Err (Refused x)) (sym f)
      ∙ ap (λ (b : Bool). cond b (fitted buffer (length (written_of l))) (Err (Refused (fault_of l)))) no)
      refl

  -- it was made, and written where the line check takes it and there is room
  pub line-written : {n : ℕ} {line after : List ℕ} {answer : Result ℕ NotWritten} → AddedIs (replicate 256 0) 0 (written_of l) (Some n) line
      → CheckedIs (take n line) buffer answer after → LineIs l buffer answer after
  unfolding answer_of put_in
  line-written {n} {line} m k =
      let f = fits m in
      let long : n ≡ 0 + length (written_of l) = omega (arith, f.past) in
      let made : take n line ≡ written_of l = rw (f.bytes, long) (take_put (replicate 256 0) 0 (written_of l) (omega arith)) in
      let c = rw made at k in
      let same = sym (fault_is l) in
      record {
        answers = c.answers ∙ ap (λ (f : Fault). cond (eqb f.code 0) (fitted buffer (length (written_of l))) (Err (Refused f))) same;
        leaves = c.leaves ∙ ap (λ (f : Fault). cond (eqb f.code 0) (put_in buffer 0 (written_of l)) buffer) same
            ∙ sym (left_by (eqb (code_of l) 0) (fits_at buffer 0 (length (written_of l))));
      }
    where
      left_by : (taken room : Bool) → left_by_lem (cond taken (cond room (Ok (length (written_of l))) (Err NoRoom)) (Err (Refused (fault_of l)))) l buffer
          ≡ cond taken (cond room (put buffer 0 (written_of l)) buffer) buffer
      left_by true true = refl
      left_by true false = refl
      left_by false room = refl
