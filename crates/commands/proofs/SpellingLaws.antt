-- Laws of what a spelling of one command reads as: it reads by the row of its letter (`row_of`, a line a command). Assumes nothing.
use Prim.Native.Nat.{ℕ, ◌+◌, ◌-◌, ◌≤◌, ◌<◌}
use mathlib.Core.Path.{◌≡◌, refl, sym, ap, ◌∙◌}
use mathlib.Core.List.{List, [], ◌∷◌, ◌++◌}
use mathlib.Core.Bool.{Bool, true, false, cond}
use native.Mathlib.Omega.{arith}
use lib.ListN.{length, get_or, drop, replicate, length-append, length-drop, length-replicate}
use lib.Dec.{leb}
use lib.Seq.{drop-drop, get_or-drop}
use borrow.Author.Tests.{le-leb, lt-ltb}
use Rattle.digits.specs.declared.Operand.TheVariants.{Number, Above}
use Rattle.digits.specs.Operand.{widest, digit_run, number_to, operand_at, operand_of, operand_most, operand_up_to}
use Rattle.digits.specs.Decimal.{decimal}
use Rattle.digits.specs.ReadBack.{spelling}
use Rattle.digits.proofs.ReadBack.{read_limited}
use Rattle.digits.proofs.Writing.{length_most}
use Rattle.commands.specs.declared.Command.{Command}
use Rattle.commands.specs.declared.Command.TheVariants.{LoopBegin, LoopEnd, Skip, Jump, Plain}
use Rattle.commands.specs.declared.Act.TheVariants.{MoveTo, MoveUp, MoveDown, SetPosition, Home, Set, Delay, WaitInput}
use Rattle.commands.specs.declared.Setting.TheVariants.{TopSpeed, Acceleration, FlagLevel, Turned, MoveCurrent, HoldCurrent, StepSize, Correction, Outputs, Baud}
use Rattle.commands.specs.declared.Asks.{Asks}
use Rattle.commands.specs.declared.Asks.TheVariants.{Unknown, Nothing, Required, OrElse}
use Rattle.commands.specs.declared.Range.{Range}
use Rattle.commands.specs.declared.Range.TheVariants.{From, OneBit, Rate, Input}
use Rattle.commands.specs.declared.Read.TheVariants.{At, Bad}
use Rattle.commands.specs.declared.Spelling.{Spelling}
use Rattle.commands.specs.declared.Spelling.TheVariants.{Alone, WithNumber, WithTwoDigits}
use Rattle.commands.specs.Table.{top, table, find, asks_of, command_of, within}
use Rattle.commands.specs.Reading.{out_of_range, required, or_else, letter_at, read_by, read_at}
use Rattle.commands.specs.Writing.{spelling_of, bytes_of, spelled as spelledOf, permits, permitted, in_range, zeroed, SpellsCommand, full, bare-G, bare-H, follows}
use Rattle.commands.proofs.RangeLaws.{Uncounted, input-most, within-most, uncounted, two_digits, input_digits}

-- what a letter that asks so wants of an operand that is there
abbrev pub AsksFor : Asks → Range → Type 0
AsksFor Unknown r = ⊥
AsksFor Nothing r = ⊥
AsksFor (Required q) r = q ≡ r
AsksFor (OrElse q m) r = q ≡ r

pub permits_for : (k : Asks) (r : Range) (n : ℕ) → AsksFor k r → permits k n ≡ within r n 2
permits_for Unknown r n a = absurd a
permits_for Nothing r n a = absurd a
permits_for (Required q) r n a = ap (λ (p : Range). within p n 2) a
permits_for (OrElse q m) r n a = ap (λ (p : Range). within p n 2) a

-- a number that may be above all ranges: it is there, so none means nothing
letter-number : (k : Asks) (r : Range) (l : ℕ) (s : List ℕ) (at n next : ℕ) → AsksFor k r → operand_up_to operand_most s at ≡ number_to n next
    → letter_at operand_most k l s at ≡ required l r (number_to n next) at
letter-number Unknown r l s at n next a e = absurd a
letter-number Nothing r l s at n next a e = absurd a
letter-number (Required q) r l s at n next a e = rw (e, a)
letter-number (OrElse q m) r l s at n next a e = rw (e, a) (go (leb n widest))
  where
    go : (b : Bool) → or_else l r m (cond b (Number n next) (Above next)) at ≡ required l r (cond b (Number n next) (Above next)) at
    go true = refl
    go false = refl

-- within its range it is not above all ranges
number-within : (l : ℕ) (r : Range) (n next at : ℕ) → (within r n (next - at) ≡ true → n ≤ widest)
    → required l r (number_to n next) at ≡ cond (within r n (next - at)) (At (command_of l n) next) (Bad out_of_range at)
number-within l r n next at h = go (leb n widest) refl (within r n (next - at)) refl
  where
    go : (b : Bool) → leb n widest ≡ b → (d : Bool) → within r n (next - at) ≡ d
        → required l r (cond b (Number n next) (Above next)) at ≡ cond d (At (command_of l n) next) (Bad out_of_range at)
    go true q d e = rw e
    go false q true e = let f = le-leb n widest (h e) in let z : ◌≡◌ {A = ℕ} 0 1 = cc in absurd (omega arith)
    go false q false e = refl

-- more digits than may be: none of them is looked at
letter-many : (k : Asks) (r : Range) (l : ℕ) (s : List ℕ) (at next : ℕ) → AsksFor k r → operand_up_to operand_most s at ≡ Above next
    → letter_at operand_most k l s at ≡ Bad out_of_range at
letter-many Unknown r l s at next a e = absurd a
letter-many Nothing r l s at next a e = absurd a
letter-many (Required q) r l s at next a e = rw e
letter-many (OrElse q m) r l s at next a e = rw e

-- a byte that stands at a place
module _ (s : List ℕ) (at l : ℕ) (rest : List ℕ) (e : drop at s ≡ l ∷ rest) where
  stands : at < length s
  stands = omega (arith, length-drop at s, ap length e)

  stands-letter : get_or s at 0 ≡ l
  stands-letter = ap (λ (k : ℕ). get_or s k 0) (let z : at ≡ at + 0 = omega arith in z) ∙ sym (get_or-drop at s 0 0) ∙ ap (λ (t : List ℕ). get_or t 0 0) e

  stands-rest : drop (at + 1) s ≡ rest
  stands-rest = sym (drop-drop 1 at s) ∙ ap (λ (t : List ℕ). drop 1 t) e

  read_letter : read_at s at ≡ letter_at operand_most (asks_of l) l s (at + 1)
  unfolding read_by
  read_letter = rw (lt-ltb at (length s) stands, stands-letter)

-- a letter and a spelling of n
read_number : (s rest : List ℕ) (at l n z : ℕ) (r : Range) → AsksFor (asks_of l) r → drop at s ≡ l ∷ (spelling z n ++ rest) → digit_run rest ≡ []
    → within r n (z + length (decimal n)) ≡ within r n 2 → (within r n 2 ≡ true → (n ≤ widest) × (z + length (decimal n) ≤ operand_most))
    → read_at s at ≡ cond (within r n 2) (At (command_of l n) (at + length (l ∷ spelling z n))) (Bad out_of_range (at + 1))
read_number s rest at l n z r a e t w h = read_letter s at l (spelling z n ++ rest) e ∙ go (leb (z + length (decimal n)) operand_most) refl (within r n 2) refl
  where
    next : ℕ
    next = at + 1 + (z + length (decimal n))

    there : operand_up_to operand_most s (at + 1) ≡ cond (leb (z + length (decimal n)) operand_most) (number_to n next) (Above next)
    there = read_limited operand_most s rest (at + 1) z n (stands-rest s at l (spelling z n ++ rest) e) t

    go : (b : Bool) → leb (z + length (decimal n)) operand_most ≡ b → (d : Bool) → within r n 2 ≡ d
        → letter_at operand_most (asks_of l) l s (at + 1) ≡ cond (within r n 2) (At (command_of l n) (at + length (l ∷ spelling z n))) (Bad out_of_range (at + 1))
    go true q d j =
        let count : next - (at + 1) ≡ z + length (decimal n) = omega arith in
        let same : within r n (next - (at + 1)) ≡ within r n 2 = ap (λ (k : ℕ). within r n k) count ∙ w in
        let past : next ≡ at + length (l ∷ spelling z n) = omega (arith, length-append (replicate z 48) (decimal n), length-replicate {A = ℕ} z 48) in
        letter-number (asks_of l) r l s (at + 1) n next a (there ∙ rw q)
        ∙ number-within l r n next (at + 1) (λ k. (h (sym same ∙ k)).0)
        ∙ rw (same, past)
    go false q true j = let f = le-leb (z + length (decimal n)) operand_most (h j).1 in let y : ◌≡◌ {A = ℕ} 0 1 = cc in absurd (omega arith)
    go false q false j = letter-many (asks_of l) r l s (at + 1) next a (there ∙ rw q) ∙ rw j

-- the row of a command's letter, as its spelling wants it
pub data RowOf : Spelling → Command → Type 0 where
  alone : (l : ℕ) {c : Command} → asks_of l ≡ Nothing → command_of l 0 ≡ c → RowOf (Alone l) c
  number : (l n : ℕ) {c : Command} (r : Range) → AsksFor (asks_of l) r → Uncounted r → command_of l n ≡ c → RowOf (WithNumber l n) c
  two : (l n : ℕ) {c : Command} → AsksFor (asks_of l) Input → command_of l n ≡ c → RowOf (WithTwoDigits l n) c

pub row_of : (c : Command) → RowOf (spelling_of c) c
unfolding asks_of command_of find table
row_of LoopBegin = alone 103 refl refl
row_of (LoopEnd n) = number 71 n (From 0 30000) refl (omega arith) refl
row_of (Skip n) = two 83 n refl refl
row_of (Jump n) = number 101 n (From 0 15) refl (omega arith) refl
row_of (Plain (MoveTo n)) = number 65 n (From 0 top) refl (omega arith) refl
row_of (Plain (MoveUp n)) = number 80 n (From 0 top) refl (omega arith) refl
row_of (Plain (MoveDown n)) = number 68 n (From 0 top) refl (omega arith) refl
row_of (Plain (SetPosition n)) = number 122 n (From 0 top) refl (omega arith) refl
row_of (Plain (Home n)) = number 90 n (From 0 top) refl (omega arith) refl
row_of (Plain (Set TopSpeed n)) = number _ n (From 1 16777216) refl (omega arith) refl
row_of (Plain (Set Acceleration n)) = number _ n (From 1 65000) refl (omega arith) refl
row_of (Plain (Set FlagLevel n)) = number _ n (From 0 1) refl (omega arith) refl
row_of (Plain (Set Turned n)) = number _ n (From 0 1) refl (omega arith) refl
row_of (Plain (Set MoveCurrent n)) = number _ n (From 0 100) refl (omega arith) refl
row_of (Plain (Set HoldCurrent n)) = number _ n (From 0 50) refl (omega arith) refl
row_of (Plain (Set StepSize n)) = number _ n OneBit refl tt refl
row_of (Plain (Set Correction n)) = number _ n (From 1400 1650) refl (omega arith) refl
row_of (Plain (Set Outputs n)) = number _ n (From 0 3) refl (omega arith) refl
row_of (Plain (Set Baud n)) = number _ n Rate refl tt refl
row_of (Plain (Delay n)) = number 77 n (From 0 30000) refl (omega arith) refl
row_of (Plain (WaitInput n)) = two 72 n refl refl

-- with so many zeros it has too many digits only where it is out of range
abbrev Fits : Spelling → ℕ → Type 0
Fits sp z = permitted sp ≡ true → length (zeroed sp z) ≤ 1 + operand_most

read_row : {sp : Spelling} {c : Command} → RowOf sp c → (s rest : List ℕ) (at z : ℕ) → Fits sp z → drop at s ≡ zeroed sp z ++ rest → follows sp rest
    → read_at s at ≡ cond (permitted sp) (At c (at + length (zeroed sp z))) (Bad out_of_range (at + 1))
read_row (alone l a b) s rest at z f e t = read_letter s at l rest e ∙ rw (a, b)
read_row (number l n r a u b) s rest at z f e t =
    let few : within r n 2 ≡ true → z + length (decimal n) ≤ operand_most =
    λ k. omega (arith, f (permits_for (asks_of l) r n a ∙ k), length-append (replicate z 48) (decimal n), length-replicate {A = ℕ} z 48)
    in
    read_number s rest at l n z r a e t (uncounted r n (z + length (decimal n)) 2 u) (λ k. (within-most r n 2 u k, few k))
    ∙ rw (permits_for (asks_of l) r n a, b)
read_row (two l n a b) s rest at z w e t =
    let k = two_digits n in
    let most : within Input n 2 ≡ true → n ≤ 14 = λ q. (input-most n 2 q).1 in
    let f : drop at s ≡ l ∷ (spelling k.0 n ++ rest) = e ∙ ap (λ (t : List ℕ). l ∷ (t ++ rest)) k.1 in
    read_number s rest at l n k.0 Input a f t (input_digits n (k.0 + length (decimal n)) k.2)
    (λ q. (omega (arith, most q), omega (arith, k.2 (omega (arith, most q)))))
    ∙ rw (permits_for (asks_of l) Input n a, b, k.1)

-- a letter alone that means a number
read_bare : (s rest : List ℕ) (at l m : ℕ) (r : Range) → asks_of l ≡ OrElse r m → drop at s ≡ l ∷ rest → digit_run rest ≡ [] → read_at s at ≡ At (command_of l m) (at + 1)
unfolding operand_up_to operand_at operand_of
read_bare s rest at l m r a e t = read_letter s at l rest e ∙ rw (a, stands-rest s at l rest e, t)

-- every spelling of a command in range reads as it
pub reads_as : (s rest b : List ℕ) (at : ℕ) (c : Command) → SpellsCommand c b → in_range c ≡ true → drop at s ≡ b ++ rest → follows (spelling_of c) rest
    → read_at s at ≡ At c (at + length b)
unfolding in_range asks_of command_of find table
reads_as s rest b at c (full d z w) h e t = read_row (row_of d) s rest at z (λ q. w) e t ∙ rw h
reads_as s rest b at c bare-G h e t = read_bare s rest at 71 0 (From 0 30000) refl e t
reads_as s rest b at c bare-H h e t = read_bare s rest at 72 2 Input refl e t

-- no leading zeros are a spelling
pub zeroed-none : (sp : Spelling) → zeroed sp 0 ≡ bytes_of sp
zeroed-none (Alone l) = refl
zeroed-none (WithNumber l n) = refl
zeroed-none (WithTwoDigits l n) = refl

-- what is in range has ten digits at most
fits-row : {sp : Spelling} {c : Command} → RowOf sp c → Fits sp 0
fits-row (alone l a b) h = omega arith
fits-row (number l n r a u b) h =
    let most : n ≤ widest = within-most r n 2 u (sym (permits_for (asks_of l) r n a) ∙ h) in omega (arith, length_most 10 n (omega arith) (omega arith))
fits-row (two l n a b) h =
    let k = two_digits n in
    let most : n ≤ 14 = (input-most n 2 (sym (permits_for (asks_of l) Input n a) ∙ h)).1 in
    rw k.1 (omega (arith, k.2 (omega arith), length-append (replicate k.0 48) (decimal n), length-replicate {A = ℕ} k.0 48))

pub spells_itself : (c : Command) → in_range c ≡ true → SpellsCommand c (spelledOf c)
unfolding spelledOf in_range
spells_itself c h = rw (← zeroed-none (spelling_of c)) (full c 0 (fits-row (row_of c) h))

-- no digit may follow any command
pub follows_any : (sp : Spelling) (rest : List ℕ) → digit_run rest ≡ [] → follows sp rest
follows_any (Alone l) rest t = tt
follows_any (WithNumber l n) rest t = t
follows_any (WithTwoDigits l n) rest t = t

-- what the host writes reads back, or is refused
pub reads_back : (s rest : List ℕ) (at : ℕ) (c : Command) → drop at s ≡ spelledOf c ++ rest → digit_run rest ≡ []
    → read_at s at ≡ cond (in_range c) (At c (at + length (spelledOf c))) (Bad out_of_range (at + 1))
unfolding in_range spelledOf
reads_back s rest at c e t =
    let z = zeroed-none (spelling_of c) in
    read_row (row_of c) s rest at 0 (fits-row (row_of c)) (e ∙ ap (λ (b : List ℕ). b ++ rest) (sym z)) (follows_any (spelling_of c) rest t) ∙ rw z
