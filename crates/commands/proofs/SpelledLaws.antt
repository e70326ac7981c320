-- What reads as a command is a spelling of it: a letter spells by its row (`table-says`, in the rows' order). Assumes nothing.
use Prim.Native.Nat.{ℕ, ◌+◌, ◌-◌, ◌≤◌}
use mathlib.Core.Path.{◌≡◌, refl, sym, ap, subst, ◌∙◌}
use mathlib.Core.List.{List, [], ◌∷◌, ◌++◌}
use mathlib.Core.Bool.{Bool, true, false, cond}
use native.Mathlib.Omega.{arith}
use native.Mathlib.Numerals.{add-one}
use lib.ListN.{length, get_or, drop, replicate, length-append, length-replicate}
use lib.Dec.{eqb, ltb}
use lib.Seq.{take_at, drop-cons}
use borrow.Author.Tests.{eqb-true, ltb-true}
use Rattle.parts.specs.Parts.{part}
use Rattle.digits.specs.declared.Operand.{Operand}
use Rattle.digits.specs.declared.Operand.TheVariants.{Missing, Number, Above}
use Rattle.digits.specs.Operand.{operand_most, operand_up_to}
use Rattle.digits.specs.Decimal.{decimal}
use Rattle.digits.specs.ReadBack.{spelling}
use Rattle.digits.proofs.ReadBack.{read_length, spelled, up_to_number, up_to_missing}
use Rattle.commands.specs.declared.Command.{Command}
use Rattle.commands.specs.declared.Command.TheVariants.{LoopEnd, Plain}
use Rattle.commands.specs.declared.Act.TheVariants.{WaitInput}
use Rattle.commands.specs.declared.Asks.{Asks}
use Rattle.commands.specs.declared.Asks.TheVariants.{Unknown, Nothing, Required, OrElse}
use Rattle.commands.specs.declared.Range.{Range}
use Rattle.commands.specs.declared.Range.TheVariants.{From, OneBit, Rate, Input}
use Rattle.commands.specs.declared.Read.TheVariants.{At, Bad, End}
use Rattle.commands.specs.declared.Spelling.{Spelling}
use Rattle.commands.specs.declared.Spelling.TheVariants.{Alone, WithNumber, WithTwoDigits}
use Rattle.commands.specs.Table.{Row, table, find, asks_of, command_of, one_of, within}
use Rattle.commands.specs.Reading.{out_of_range, required, or_else, letter_at, read_by, read_at}
use Rattle.commands.specs.Writing.{spelling_of, permits, permitted, in_range, zeroed, SpellsCommand, full, bare-G, bare-H, follows, CommandAt}
use Rattle.commands.proofs.RangeLaws.{input-most, two_digits, within_two}
use Rattle.commands.proofs.SpellingLaws.{AsksFor, permits_for, follows_any}

-- how a number in a range is spelled behind a letter
abbrev spelling_in : Range → ℕ → ℕ → Spelling
spelling_in (From low high) l n = WithNumber l n
spelling_in OneBit l n = WithNumber l n
spelling_in Rate l n = WithNumber l n
spelling_in Input l n = WithTwoDigits l n

-- the letters that stand alone for a number
data Bare : ℕ → Command → Type 0 where
  alone_g : Bare 71 (LoopEnd 0)
  alone_h : Bare 72 (Plain (WaitInput 2))

bare-spells : {l : ℕ} {c : Command} → Bare l c → SpellsCommand c (l ∷ []) × (in_range c ≡ true)
unfolding in_range asks_of find table within one_of
bare-spells alone_g = (bare-G, refl)
bare-spells alone_h = (bare-H, refl)

data Named (c : Command) (sp : Spelling) (l : ℕ) (d : Command) : Type 0 where
  named : spelling_of c ≡ sp → Bare l d → Named c sp l d

named-spelling : {c : Command} {sp : Spelling} {l : ℕ} {d : Command} → Named c sp l d → spelling_of c ≡ sp
named-spelling (named e b) = e

-- a row's commands are spelled by its letter
abbrev Says : ℕ → ℕ → Asks → (ℕ → Command) → Type 0
Says n l Unknown f = Unit
Says n l Nothing f = spelling_of (f 0) ≡ Alone l
Says n l (Required r) f = spelling_of (f n) ≡ spelling_in r l n
Says n l (OrElse r m) f = Named (f n) (spelling_in r l n) l (f m)

-- and so for every row
infixr 67 ◌also◌
data AllSay (n : ℕ) : List Row → Type 0 where
  none : AllSay n []
  ◌also◌ : {r : Row} {rs : List Row} → Says n r.letter r.asks r.command → AllSay n rs → AllSay n (r ∷ rs)

find_says : (n : ℕ) (rs : List Row) → AllSay n rs → (l : ℕ) → Says n l (find rs l).asks (λ m. (find rs l).command m)
unfolding find
find_says n [] w l = tt
find_says n (r ∷ rs) (w also ws) l = go (eqb l r.letter) refl (find_says n rs ws l)
  where
    go : (b : Bool) → eqb l r.letter ≡ b → Says n l (find rs l).asks (λ m. (find rs l).command m)
        → Says n l (cond b r (find rs l)).asks (λ m. (cond b r (find rs l)).command m)
    go true q rest = rw (eqb-true l r.letter q) w
    go false q rest = rest

-- by the table's rows in their order
table_says : (n : ℕ) → AllSay n table
unfolding table
table_says n =
    refl also refl also refl also refl also refl also refl also refl also refl also refl also refl also refl also refl also refl
    also refl also refl also refl also refl also named refl alone_g also named refl alone_h also refl also refl also none

says : (n l : ℕ) → Says n l (asks_of l) (λ m. command_of l m)
unfolding asks_of command_of
says n l = find_says n table (table_says n) l

-- a number in its range, as its digits spell it, is a spelling that the range wants
spelled_in : (r : Range) (l m z d : ℕ) → z + length (decimal m) ≡ d → within r m d ≡ true → (y : ℕ) × (zeroed (spelling_in r l m) y ≡ l ∷ spelling z m)
spelled_in (From low high) l m z d e w = (z, refl)
spelled_in OneBit l m z d e w = (z, refl)
spelled_in Rate l m z d e w = (z, refl)
spelled_in Input l m z d e w =
    let k = input-most m d w in
    let t = two_digits m in
    let same : t.0 ≡ z = omega (arith, t.2 (omega arith)) in
    (0, ap (λ (b : List ℕ). l ∷ b) (t.1 ∙ ap (λ (y : ℕ). spelling y m) same))

permitted_in : (r : Range) (l n : ℕ) → permitted (spelling_in r l n) ≡ permits (asks_of l) n
permitted_in (From low high) l n = refl
permitted_in OneBit l n = refl
permitted_in Rate l n = refl
permitted_in Input l n = refl

-- the bytes of a place up to the next
command_at : (s b : List ℕ) (at next : ℕ) (c : Command) (sp : Spelling) → spelling_of c ≡ sp → SpellsCommand c b → drop at s ≡ b ++ drop next s
    → next ≡ at + length b → permitted sp ≡ true → follows sp (drop next s) → CommandAt s at c next
unfolding part in_range
command_at s b at next c sp q w e h p t = record {
  spells = rw (e, take_at b (drop next s) (next - at) (omega arith)) w;
  in-range = ap permitted q ∙ p;
  ends = subst (λ (x : Spelling). follows x (drop next s)) (sym q) t;
}

full_as : (c : Command) (z : ℕ) {sp : Spelling} → spelling_of c ≡ sp → length (zeroed sp z) ≤ 1 + operand_most → SpellsCommand c (zeroed sp z)
full_as c z e h = subst (λ (x : Spelling). SpellsCommand c (zeroed x z)) e (full c z (rw e h))

-- a letter at a place, and what it asks
module _ (s : List ℕ) (at l : ℕ) (here : drop at s ≡ l ∷ drop (at + 1) s) where
  moved : {c d : Command} {m n : ℕ} → At d m ≡ At c n → CommandAt s at d m → CommandAt s at c n
  moved {c} {d} {m} {n} e h = let x : c ≡ d = cc in let y : n ≡ m = cc in rw (x, y) h

  refused : {k p : ℕ} {c : Command} {n : ℕ} → Bad k p ≡ At c n → CommandAt s at c n
  refused e = let z : ◌≡◌ {A = ℕ} 0 1 = cc in absurd (omega arith)

  as_number : (r : Range) (m next : ℕ) → AsksFor (asks_of l) r → spelling_of (command_of l m) ≡ spelling_in r l m → operand_up_to operand_most s (at + 1) ≡ Number m next
      → within r m (next - (at + 1)) ≡ true → CommandAt s at (command_of l m) next
  as_number r m next a q w t =
      let there = up_to_number operand_most s (at + 1) m next w in
      let k = spelled s (at + 1) m next there.0 in
      let z : ℕ = k.zeros in
      let long : length (spelling z m) ≡ z + length (decimal m) = length-append (replicate z 48) (decimal m) ∙ omega (arith, length-replicate {A = ℕ} z 48) in
      let few : z + length (decimal m) ≤ operand_most = omega (arith, there.1, read_length s (drop next s) (at + 1) z m k.bytes k.no_more) in
      let count : z + length (decimal m) ≡ next - (at + 1) = omega (arith, k.ends) in
      let y = spelled_in r l m z (next - (at + 1)) count t in
      command_at s (l ∷ spelling z m) at next (command_of l m) (spelling_in r l m) q
      (rw (← y.1) (full_as (command_of l m) y.0 q (rw y.1 (omega (arith, long, few)))))
      (here ∙ ap (λ (b : List ℕ). l ∷ b) k.bytes)
      (omega (arith, k.ends, long))
      (permitted_in r l m ∙ permits_for (asks_of l) r m a ∙ within_two r m (next - (at + 1)) t)
      (follows_any (spelling_in r l m) (drop next s) k.no_more)

  as_required : (r : Range) → AsksFor (asks_of l) r → ((n : ℕ) → spelling_of (command_of l n) ≡ spelling_in r l n)
      → {c : Command} {n : ℕ} → required l r (operand_up_to operand_most s (at + 1)) (at + 1) ≡ At c n → CommandAt s at c n
  as_required r a q {c} {n} e = go (operand_up_to operand_most s (at + 1)) refl e
    where
      go : (o : Operand) → operand_up_to operand_most s (at + 1) ≡ o → required l r o (at + 1) ≡ At c n → CommandAt s at c n
      go Missing w k = refused k
      go (Above next) w k = refused k
      go (Number m next) w k = taken (within r m (next - (at + 1))) refl k
        where
          taken : (b : Bool) → within r m (next - (at + 1)) ≡ b → cond b (At (command_of l m) next) (Bad out_of_range (at + 1)) ≡ At c n → CommandAt s at c n
          taken true t j = moved j (as_number r m next a (q m) w t)
          taken false t j = refused j

  as_bare : (r : Range) (m : ℕ) → Says m l (OrElse r m) (λ n. command_of l n) → operand_up_to operand_most s (at + 1) ≡ Missing → CommandAt s at (command_of l m) (at + 1)
  unfolding in_range
  as_bare r m (named q w) e =
      let b = bare-spells w in
      command_at s (l ∷ []) at (at + 1) (command_of l m) (spelling_in r l m) q b.0 here (omega arith)
      (sym (ap permitted q) ∙ b.1)
      (follows_any (spelling_in r l m) (drop (at + 1) s) (up_to_missing operand_most s (at + 1) e))

  as_letter : (k : Asks) → asks_of l ≡ k → ((n : ℕ) → Says n l k (λ m. command_of l m)) → {c : Command} {n : ℕ} → letter_at operand_most k l s (at + 1) ≡ At c n → CommandAt s at c n
  as_letter Unknown a w e = refused e
  as_letter Nothing a w e = moved e (command_at s (l ∷ []) at (at + 1) (command_of l 0) (Alone l) (w 0) (full_as (command_of l 0) 0 (w 0) (omega arith)) here (omega arith) (rw a refl) tt)
  as_letter (Required r) a w e = as_required r (rw a refl) w e
  as_letter (OrElse r m) a w {c} {n} e = go (operand_up_to operand_most s (at + 1)) refl e
    where
      go : (o : Operand) → operand_up_to operand_most s (at + 1) ≡ o → or_else l r m o (at + 1) ≡ At c n → CommandAt s at c n
      go Missing q k = moved k (as_bare r m (w m) q)
      go (Above next) q k = refused k
      go (Number i next) q k = as_required r (rw a refl) (λ j. named-spelling (w j)) (rw q k)

pub spells_as : (s : List ℕ) (at : ℕ) (c : Command) (next : ℕ) → read_at s at ≡ At c next → CommandAt s at c next
unfolding read_by
spells_as s at c next e = go (ltb at (length s)) refl e
  where
    l : ℕ
    l = get_or s at 0

    go : (b : Bool) → ltb at (length s) ≡ b → cond b (letter_at operand_most (asks_of l) l s (at + 1)) End ≡ At c next → CommandAt s at c next
    go true q k =
        let here : drop at s ≡ l ∷ drop (at + 1) s = rw add-one (drop-cons s at 0 (ltb-true at (length s) q)) in
        as_letter s at l here (asks_of l) refl (λ n. says n l) k
    go false q k = let z : ◌≡◌ {A = ℕ} 0 1 = cc in absurd (omega arith)
