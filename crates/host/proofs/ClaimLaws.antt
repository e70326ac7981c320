-- What is claimed of the host's lines, each by the three ways in which a list may be answered (`answered`). Assumes nothing.
use Prim.Native.Nat.{ℕ, zero, suc, ◌+◌, ◌/◌, ◌%◌, ◌≤◌, ◌<◌}
use mathlib.Core.Path.{◌≡◌, refl, sym, ap, ◌∙◌}
use mathlib.Core.List.{List, [], ◌∷◌, ◌++◌, append_assoc}
use mathlib.Core.Bool.{Bool, true, false, cond, ◌||◌}
use native.Mathlib.Omega.{arith}
use native.Mathlib.Nat.{zero-add}
use native.Mathlib.Decide.{dec_lt}
use lib.ListN.{length, get_or, take, get_or-append}
use lib.Dec.{ltb, eqb}
use borrow.Author.Tests.{lt-ltb, le-ltb, leb-true, leb-false, eqb-true, eqb-false, ne_eqb}
use Rattle.parts.specs.Parts.{fits_at, put, same, most_bytes}
use Rattle.parts.proofs.Laws.{take_put, drop-put, length-put, put_front}
use Rattle.parts.specs.Letters.{bytes}
use Rattle.digits.specs.Decimal.{digits_in, digits_of, ascii, decimal}
use Rattle.digits.proofs.Writing.{decimal-last, decimal-more, length_some}
use Rattle.commands.specs.declared.Command.{Command}
use Rattle.commands.specs.declared.Fault.{Fault}
use Rattle.commands.specs.Table.{one_of, table, find, command_of}
use Rattle.commands.specs.Writing.{two_digits_lem, spelled}
use Rattle.std.specs.Prelude.{Some, None, Result, Ok, Err}
use Rattle.lines.specs.Texts.{structured}
use Rattle.lines.specs.Bodies.{body_of, line_code_lem}
use Rattle.lines.specs.Lists.{HostList, commands_text, run_text, written_of, all_in_range, list_fault, list_code_lem, list, list_of}
use Rattle.lines.proofs.ListLaws.{list_law, list_back}
use Rattle.lines.proofs.CodeLaws.{codes}
use Rattle.lines.proofs.FaultLaws.{over-long}
use Rattle.host.specs.declared.NotWritten.{NotWritten}
use Rattle.host.specs.declared.NotWritten.TheVariants.{Refused, NoRoom}
use Rattle.host.specs.Host.{host_list, code_of, place_of, fault_of, fitted, answer_of, code_in, line_name, left_by_lem, LineIs}
use Rattle.host.specs.Claims.{empty_list, k8_list, slot_list, numbered, two_digited, Written, LineWrittenIs, LineRefusedIs, LineShortIs}
use Rattle.host.proofs.LineLaws.{code-long, many-long, code_is, fault_is}

-- ---- the three ways

module _ {l : HostList} {buffer after : List ℕ} {answer : Result ℕ NotWritten} (p : LineIs l buffer answer after) where
  pub answered : (P : Result ℕ NotWritten → List ℕ → Type 0)
      → (code_of l ≡ 0 → length (written_of l) ≤ length buffer → P (Ok (length (written_of l))) (put buffer 0 (written_of l)))
      → (code_of l ≡ 0 → length buffer < length (written_of l) → P (Err NoRoom) buffer)
      → ((code_of l ≡ 0 → ⊥) → P (Err (Refused (fault_of l))) buffer)
      → P answer after
  unfolding answer_of
  answered P w s r = rw (p.answers, p.leaves) (go (eqb (code_of l) 0) refl)
    where
      fit : (b : Bool) → fits_at buffer 0 (length (written_of l)) ≡ b → code_of l ≡ 0
          → P (cond b (Ok (length (written_of l))) (Err NoRoom)) (left_by_lem (cond b (Ok (length (written_of l))) (Err NoRoom)) l buffer)
      fit true e z = let h = leb-true (0 + length (written_of l)) (length buffer) e in w z (omega arith)
      fit false e z = let h = leb-false (0 + length (written_of l)) (length buffer) e in s z (omega arith)

      go : (b : Bool) → eqb (code_of l) 0 ≡ b
          → P (cond b (fitted buffer (length (written_of l))) (Err (Refused (fault_of l))))
          (left_by_lem (cond b (fitted buffer (length (written_of l))) (Err (Refused (fault_of l)))) l buffer)
      go true e = fit (fits_at buffer 0 (length (written_of l))) refl (eqb-true (code_of l) 0 e)
      go false e = r (eqb-false (code_of l) 0 e)

  pub refused_where : (code_of l ≡ 0 → ⊥) → (line_name answer ≡ "the line check's code") × (code_in answer ≡ code_of l)
  refused_where n = answered (λ a x. (line_name a ≡ "the line check's code") × (code_in a ≡ code_of l)) (λ z h. absurd (n z)) (λ z h. absurd (n z)) (λ z. (refl, refl))

  pub written_where : code_of l ≡ 0 → length (written_of l) ≤ length buffer → (line_name answer ≡ "written") × (answer ≡ Ok (length (written_of l)))
  written_where z h = answered (λ a x. (line_name a ≡ "written") × (a ≡ Ok (length (written_of l)))) (λ y g. (refl, refl)) (λ y g. absurd (omega arith)) (λ y. absurd (y z))

  pub short_where : code_of l ≡ 0 → length buffer < length (written_of l) → line_name answer ≡ "buffer too short"
  short_where z h = answered (λ a x. line_name a ≡ "buffer too short") (λ y g. absurd (omega arith)) (λ y g. refl) (λ y. absurd (y z))

-- ---- the code

pub line_check : (l : HostList) → code_of l ≡ line_code_lem (written_of l)
line_check l = code_is l ∙ sym (list_law l)

pub too_many : (l : HostList) → most_bytes < length l.listed → list_code_lem l ≡ 2
too_many l h = code-long l (many-long l h)

pub count-over : (l : HostList) → most_bytes < length l.listed → code_of l ≡ 2
count-over l h = code_is l ∙ too_many l h

pub no_place : (l : HostList) → most_bytes < length (written_of l) → place_of l ≡ 0
no_place l h = ap (λ (f : Fault). f.place) (fault_is l ∙ over-long (written_of l) h)

-- ---- what each answer says

list-taken : (l : HostList) → code_of l ≡ 0 → list_code_lem l ≡ 0
list-taken l e = sym (code_is l) ∙ e

-- a code is 2 or 3, where it is not 0
two_or_three : (c : ℕ) → one_of (0 ∷ 2 ∷ 3 ∷ []) c ≡ true → (c ≡ 0 → ⊥) → one_of (2 ∷ 3 ∷ []) c ≡ true
unfolding one_of
two_or_three c h z = rw (ne_eqb c 0 z) at h

fault-code : (l : HostList) → (code_of l ≡ 0 → ⊥) → one_of (2 ∷ 3 ∷ []) (code_of l) ≡ true
fault-code l z = two_or_three (code_of l) (rw (line_check l) (codes (written_of l))) z

module _ (l : HostList) (buffer : List ℕ) where
  put_reads : code_of l ≡ 0 → length (written_of l) ≤ length buffer → LineWrittenIs l (length (written_of l)) buffer (put buffer 0 (written_of l))
  put_reads z h =
      let t : List ℕ = written_of l in
      let front : take (length t) (put buffer 0 t) ≡ t = ap (λ (k : ℕ). take k (put buffer 0 t)) (sym (zero-add (length t))) ∙ take_put buffer 0 t (omega arith) in
      record {
        no_code = z;
        fits = h;
        bytes = front;
        reads_back = ap list_of front ∙ list_back l (list-taken l z);
        past-line = rw zero-add at (drop-put buffer 0 t (omega arith));
        as_long = length-put buffer 0 t (omega arith);
      }

  pub written : {n : ℕ} {after : List ℕ} → LineIs l buffer (Ok n) after → LineWrittenIs l n buffer after
  written {n} {after} p = answered p (λ a x. a ≡ Ok n → LineWrittenIs l n buffer x)
      (λ z h e. let same : length (written_of l) ≡ n = cc in rw (← same) (put_reads z h))
      (λ z h e. let y : ◌≡◌ {A = ℕ} 0 1 = cc in absurd (omega arith))
      (λ z e. let y : ◌≡◌ {A = ℕ} 0 1 = cc in absurd (omega arith))
      refl

  pub short : {after : List ℕ} → LineIs l buffer (Err NoRoom) after → LineShortIs l buffer after
  short p = answered p (λ a x. a ≡ (Err NoRoom) → LineShortIs l buffer x)
      (λ z h e. let y : ◌≡◌ {A = ℕ} 0 1 = cc in absurd (omega arith))
      (λ z h e. record { no_code = z; too_short = h; unchanged = refl })
      (λ z e. let y : ◌≡◌ {A = ℕ} 0 1 = cc in absurd (omega arith))
      refl

  pub refused : {f : Fault} {after : List ℕ} → LineIs l buffer (Err (Refused f)) after → LineRefusedIs l f buffer after
  refused {f} p = answered p (λ a x. a ≡ Err (Refused f) → LineRefusedIs l f buffer x)
      (λ z h e. let y : ◌≡◌ {A = ℕ} 0 1 = cc in absurd (omega arith))
      (λ z h e. let y : ◌≡◌ {A = ℕ} 0 1 = cc in absurd (omega arith))
      (λ z e. let same : fault_of l ≡ f = cc in rw (← same) (record { its_code = refl; its_place = refl; a_fault = fault-code l z; unchanged = refl }))
      refl

-- ---- the empty list

pub empty-written : written_of empty_list ≡ []
unfolding written_of commands_text
empty-written = refl

empty_code : code_of empty_list ≡ 0
unfolding code_of list_code_lem list_fault written_of commands_text all_in_range structured
empty_code = refl

pub empty-reads : list_of [] ≡ list empty_list
unfolding list_of body_of one_of same
empty-reads = refl

pub empty-answer : {buffer after : List ℕ} {answer : Result ℕ NotWritten} → LineIs empty_list buffer answer after → (answer ≡ Ok 0) × (after ≡ buffer)
unfolding written_of commands_text
empty-answer {buffer} p = answered p (λ a x. (a ≡ Ok 0) × (x ≡ buffer))
    (λ z h. (refl, put_front buffer []))
    (λ z h. absurd (omega arith))
    (λ z. absurd (z empty_code))

-- ---- how a list is written

slot-first : (n : ℕ) (cs : List Command) (run : Bool) → written_of (host_list (Some n) cs run) ≡ 115 ∷ (decimal n ++ written_of (host_list None cs run))
unfolding written_of
slot-first n cs run = refl

command-first : (c : Command) (cs : List Command) (run : Bool) → written_of (host_list None (c ∷ cs) run) ≡ spelled c ++ written_of (host_list None cs run)
unfolding written_of commands_text
command-first c cs run = append_assoc (spelled c) (commands_text cs) (run_text run)

run-last : (run : Bool) → written_of (host_list None [] run) ≡ cond run (bytes "R") []
unfolding written_of commands_text
run-last true = refl
run-last false = refl

-- what holds of each letter of a list
abbrev Every : (ℕ → Type 0) → List ℕ → Type 0
Every P [] = Unit
Every P (x ∷ xs) = P x × Every P xs

one-letter : (P : ℕ → Type 0) (xs : List ℕ) (l : ℕ) → Every P xs → one_of xs l ≡ true → P l
unfolding one_of
one-letter P [] l h e = let z : ◌≡◌ {A = ℕ} 0 1 = cc in absurd (omega arith)
one-letter P (x ∷ xs) l h e = go (eqb l x) refl e (one-letter P xs l h.1)
  where
    go : (b : Bool) → eqb l x ≡ b → (b || one_of xs l) ≡ true → (one_of xs l ≡ true → P l) → P l
    go true f g rest = rw (eqb-true l x f) h.0
    go false f g rest = rest g

begins-alone : (n : ℕ) → spelled (command_of 103 n) ≡ bytes "g"
unfolding spelled command_of table find
begins-alone n = refl

with_number : (l n : ℕ) → one_of numbered l ≡ true → spelled (command_of l n) ≡ l ∷ decimal n
unfolding spelled command_of table find
with_number l n e =
    one-letter (λ (m : ℕ). spelled (command_of m n) ≡ m ∷ decimal n) numbered l
    (refl, (refl, (refl, (refl, (refl, (refl, (refl, (refl, (refl, (refl, (refl, (refl, (refl, (refl, (refl, (refl, (refl, (refl, tt)))))))))))))))))) e

two_so : (n : ℕ) → n < 100 → two_digits_lem n ≡ (48 + n / 10) ∷ (48 + n % 10) ∷ []
unfolding two_digits_lem
two_so n h = go (dec_lt n 10)
  where
    go : Dec (n < 10) → cond (ltb n 10) (48 ∷ decimal n) (decimal n) ≡ (48 + n / 10) ∷ (48 + n % 10) ∷ []
    go (yes l) =
        let a : n / 10 ≡ 0 = omega arith in
        let b : n % 10 ≡ n = omega arith in
        rw (lt-ltb n 10 l, decimal-last n l, a, b)
    go (no m) =
        let g : 10 ≤ n = omega arith in
        rw (le-ltb n 10 g, decimal-more n g, decimal-last (n / 10) (omega arith))

with_two_digits : (l n : ℕ) → one_of two_digited l ≡ true → n < 100 → spelled (command_of l n) ≡ l ∷ (48 + n / 10) ∷ (48 + n % 10) ∷ []
unfolding spelled command_of table find
with_two_digits l n e h =
    let two : (m : ℕ) → m ∷ two_digits_lem n ≡ m ∷ (48 + n / 10) ∷ (48 + n % 10) ∷ [] = λ m. ap (λ (t : List ℕ). m ∷ t) (two_so n h) in
    one-letter (λ (m : ℕ). spelled (command_of m n) ≡ m ∷ (48 + n / 10) ∷ (48 + n % 10) ∷ []) two_digited l (two 72, (two 83, tt)) e

-- ---- lists and their bodies

pub k8_written : written_of k8_list ≡ bytes "gA0S03e0G0R"
unfolding written_of commands_text spelled two_digits_lem decimal ascii digits_of digits_in
k8_written = refl

pub slot-written : written_of slot_list ≡ bytes "s15H02R"
unfolding written_of commands_text spelled two_digits_lem decimal ascii digits_of digits_in
slot-written = refl

-- ---- no leading zero

first_digit : (k n : ℕ) → n ≤ k → 1 ≤ n → get_or (decimal n) 0 0 ≡ 48 → ⊥
first_digit zero n h g e = absurd (omega arith)
first_digit (suc k) n h g e = go (λ a b f. first_digit k (n / 10) a b f) (dec_lt n 10)
  where
    go : (n / 10 ≤ k → 1 ≤ n / 10 → get_or (decimal (n / 10)) 0 0 ≡ 48 → ⊥) → Dec (n < 10) → ⊥
    go rest (yes l) = let q : 48 + n ≡ 48 = rw (decimal-last n l) at e in omega arith
    go rest (no m) =
        let l : 10 ≤ n = omega arith in
        let q : get_or (decimal (n / 10)) 0 0 ≡ 48 =
        sym (ap (λ (t : List ℕ). get_or t 0 0) (decimal-more n l) ∙ get_or-append (decimal (n / 10)) _ 0 0 (length_some (n / 10))) ∙ e
        in
        rest (omega arith) (omega arith) q

no_leading_zero : (n : ℕ) → 1 ≤ n → get_or (decimal n) 0 0 ≡ 48 → ⊥
no_leading_zero n h e = first_digit n n (omega arith) h e

pub how-written : Written
how-written = record {
  slot = slot-first;
  more = command-first;
  end = run-last;
  loop-begin = begins-alone;
  number = with_number;
  two_digits = with_two_digits;
  no_leading_zero = no_leading_zero;
}

-- ---- no two lists are written alike

pub written_apart : (l m : HostList) → list_code_lem l ≡ 0 → list_code_lem m ≡ 0 → written_of l ≡ written_of m → l ≡ m
written_apart l m e f g = let h : list l ≡ list m = sym (list_back l e) ∙ ap list_of g ∙ list_back m f in cc
