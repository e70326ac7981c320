-- Laws of the bytes of a spelling: a letter of the table, then digits. Assumes nothing.
use Prim.Native.Nat.{ℕ, zero, suc, ◌+◌, ◌≤◌, ◌<◌}
use mathlib.Core.Path.{◌≡◌, refl, ap}
use mathlib.Core.List.{List, [], ◌∷◌, ◌++◌}
use mathlib.Core.Bool.{Bool, true, false, not, and-eq-true_iff}
use native.Mathlib.Omega.{arith}
use lib.ListN.{length, get_or}
use lib.Dec.{leb}
use borrow.Author.Tests.{leb-true, not-true}
use Rattle.digits.specs.Operand.{is_digit, digit_run, operand_most, few_digits}
use Rattle.digits.specs.ReadBack.{spelling}
use Rattle.digits.proofs.ReadBack.{no_digit, decimal_digit}
use Rattle.digits.proofs.FewLaws.{few_no_digit, few_digits_lem}
use Rattle.commands.specs.declared.Command.{Command}
use Rattle.commands.specs.declared.Asks.{Asks}
use Rattle.commands.specs.declared.Asks.TheVariants.{Unknown, Nothing, Required, OrElse}
use Rattle.commands.specs.declared.Range.{Range}
use Rattle.commands.specs.declared.Range.TheVariants.{Input}
use Rattle.commands.specs.declared.Spelling.{Spelling}
use Rattle.commands.specs.Table.{Row, table, asks_of, one_of}
use Rattle.commands.specs.Writing.{spelling_of, spelled as spelledOf, zeroed, SpellsCommand, full, bare-G, bare-H}
use Rattle.commands.specs.Claims.{apart}
use Rattle.commands.proofs.TableLaws.{each, each-one, letters, unknown}
use Rattle.commands.proofs.RangeLaws.{two_digits}
use Rattle.commands.proofs.SpellingLaws.{AsksFor, RowOf, alone, number, two, row_of, zeroed-none}

-- a letter of the table, then digits
pub record LetterFirst (b : List ℕ) : Type 0 where
  pub letter : ℕ
  pub digits : List ℕ
  pub bytes : b ≡ letter ∷ digits
  pub known : one_of (letters table) letter ≡ true
  pub all : (i : ℕ) → i < length digits → is_digit (get_or digits i 0) ≡ true

-- a letter that asks anything is one of the table's
known-letter : (l : ℕ) → (asks_of l ≡ Unknown → ⊥) → one_of (letters table) l ≡ true
unfolding asks_of
known-letter l h = go (one_of (letters table) l) refl
  where
    go : (b : Bool) → one_of (letters table) l ≡ b → b ≡ true
    go true e = refl
    go false e = absurd (h (ap (λ (r : Row). r.asks) (unknown table l e)))

asks-known : (k : Asks) (r : Range) → AsksFor k r → k ≡ Unknown → ⊥
asks-known Unknown r a e = a
asks-known Nothing r a e = a
asks-known (Required q) r a e = let z : ◌≡◌ {A = ℕ} 0 1 = cc in omega arith
asks-known (OrElse q m) r a e = let z : ◌≡◌ {A = ℕ} 0 1 = cc in omega arith

spelling_digit : (z n i : ℕ) → i < length (spelling z n) → is_digit (get_or (spelling z n) i 0) ≡ true
spelling_digit zero n i h = decimal_digit n i h
spelling_digit (suc z) n zero h = refl
spelling_digit (suc z) n (suc i) h = spelling_digit z n i (omega arith)

row-letter : {sp : Spelling} {c : Command} → RowOf sp c → (z : ℕ) → LetterFirst (zeroed sp z)
row-letter (alone l a b) z = record {
  letter = l;
  digits = [];
  bytes = refl;
  known = known-letter l (λ e. let y : ◌≡◌ {A = ℕ} 0 1 = cc in omega arith);
  all = λ i h. absurd (omega arith);
}
row-letter (number l n r a u b) z = record {
  letter = l;
  digits = spelling z n;
  bytes = refl;
  known = known-letter l (asks-known (asks_of l) r a);
  all = spelling_digit z n;
}
row-letter (two l n a b) z = let k = two_digits n in record {
  letter = l;
  digits = spelling k.0 n;
  bytes = ap (λ (t : List ℕ). l ∷ t) k.1;
  known = known-letter l (asks-known (asks_of l) Input a);
  all = spelling_digit k.0 n;
}

pub letter-first : (c : Command) (b : List ℕ) → SpellsCommand c b → LetterFirst b
unfolding letters table one_of
letter-first c b (full d z w) = row-letter (row_of d) z
letter-first c b bare-G = record { letter = 71; digits = []; bytes = refl; known = refl; all = λ i h. absurd (omega arith) }
letter-first c b bare-H = record { letter = 72; digits = []; bytes = refl; known = refl; all = λ i h. absurd (omega arith) }

pub letter-written : (c : Command) → LetterFirst (spelledOf c)
unfolding spelledOf
letter-written c = rw (← zeroed-none (spelling_of c)) (row-letter (row_of c) 0)

-- every letter of the table: no digit, none of those that have a meaning of their own, and printable
module _ (l : ℕ) (h : one_of (letters table) l ≡ true) where
  pub letter_no_digit : is_digit l ≡ false
  unfolding letters table each
  letter_no_digit = not-true (is_digit l) (each-one (λ (x : ℕ). not (is_digit x)) (letters table) l refl h)

  pub letter-apart : one_of apart l ≡ false
  unfolding letters table each one_of
  letter-apart = not-true (one_of apart l) (each-one (λ (x : ℕ). not (one_of apart x)) (letters table) l refl h)

  pub letter-printable : (32 ≤ l) × (l ≤ 126)
  unfolding letters table each
  letter-printable =
      (leb-true 32 l (each-one (λ (x : ℕ). leb 32 x) (letters table) l refl h), leb-true l 126 (each-one (λ (x : ℕ). leb x 126) (letters table) l refl h))

module _ (b : List ℕ) (k : LetterFirst b) where
  pub spelling-some : 1 ≤ length b
  spelling-some = omega (arith, ap length k.bytes)

  pub spelling_no_digit : (rest : List ℕ) → digit_run (b ++ rest) ≡ []
  spelling_no_digit rest = rw k.bytes (no_digit k.letter (k.digits ++ rest) (letter_no_digit k.letter k.known))

  pub spelling-apart : one_of apart (get_or b 0 0) ≡ false
  spelling-apart = rw k.bytes (letter-apart k.letter k.known)

  -- before what has no run of too many digits and begins with none
  pub spelling-few : length b ≤ 1 + operand_most → (rest : List ℕ) → digit_run rest ≡ [] → few_digits operand_most rest ≡ true → few_digits operand_most (b ++ rest) ≡ true
  spelling-few h rest t f =
      let few = (few_digits_lem operand_most k.digits rest k.all t).1 (omega (arith, ap length k.bytes)) f in
      rw k.bytes (few_no_digit operand_most k.letter (k.digits ++ rest) (letter_no_digit k.letter k.known) few)

  pub spelling-printable : (i : ℕ) → i < length b → (32 ≤ get_or b i 0) × (get_or b i 0 ≤ 126)
  spelling-printable i h = rw k.bytes (go i (omega (arith, ap length k.bytes)))
    where
      go : (i : ℕ) → i < suc (length k.digits) → (32 ≤ get_or (k.letter ∷ k.digits) i 0) × (get_or (k.letter ∷ k.digits) i 0 ≤ 126)
      go zero q = letter-printable k.letter k.known
      go (suc i) q =
          let x : ℕ = get_or k.digits i 0 in
          let y = (and-eq-true_iff (leb 48 x) (leb x 57)).0 (k.all i (omega arith)) in
          (omega (arith, leb-true 48 x y.0), omega (arith, leb-true x 57 y.1))

-- a spelling's length
pub spelling-most : (c : Command) (b : List ℕ) → SpellsCommand c b → length b ≤ 1 + operand_most
spelling-most c b (full d z w) = w
spelling-most c b bare-G = omega arith
spelling-most c b bare-H = omega arith
