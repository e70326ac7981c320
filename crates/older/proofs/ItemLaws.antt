-- Laws of a text read past its faults: each item is a byte long at least, so that no bound on their number is in sight. Assumes nothing.
use Prim.Native.Nat.{ℕ, zero, suc, ◌+◌, ◌≤◌, ◌<◌}
use mathlib.Core.Path.{◌≡◌, refl, sym}
use mathlib.Core.List.{List, []}
use mathlib.Core.Bool.{Bool, true, false, cond}
use native.Mathlib.Omega.{arith}
use native.Mathlib.Decide.{dec_lt}
use lib.ListN.{length, get_or}
use borrow.Author.Tests.{lt-ltb, le-ltb}
use Rattle.digits.specs.declared.Operand.{Operand}
use Rattle.digits.specs.declared.Operand.TheVariants.{Missing, Number, Above}
use Rattle.digits.specs.Operand.{operand_at}
use Rattle.digits.proofs.ReadBack.{number_past, above-past}
use Rattle.commands.specs.declared.Command.{Command}
use Rattle.commands.specs.declared.Read.{Read}
use Rattle.commands.specs.declared.Read.TheVariants.{At, Bad, End}
use Rattle.commands.specs.Reading.{read_at}
use Rattle.commands.proofs.ReadingLaws.{read_step}
use Rattle.older.specs.declared.Way.{Way}
use Rattle.older.specs.declared.Stands.{Stands}
use Rattle.older.specs.declared.Stands.TheVariants.{Carries, Lacks, Unfit, Ends}
use Rattle.older.specs.Older.{both_have, older_takes, becomes}
use Rattle.older.specs.Items.{stand_in, past_operand, stands_read, stands_at, Item, items_on, items_in, items_from}

-- what stands at a place ends behind it, within n bytes
abbrev pub Goes : ℕ → ℕ → Stands → Type 0
Goes at n (Carries c next) = (at < next) × (next ≤ n)
Goes at n Lacks = at < n
Goes at n (Unfit c next) = (at < next) × (next ≤ n)
Goes at n Ends = Unit

past-goes : (t : List ℕ) (at : ℕ) (o : Operand) → at ≤ length t → operand_at t at ≡ o → (at ≤ past_operand at o) × (past_operand at o ≤ length t)
past-goes t at Missing l e = (omega arith, l)
past-goes t at (Number n next) l e = let h = number_past t at n next e in (omega arith, h.1)
past-goes t at (Above next) l e = let h = above-past t at next e in (omega arith, h.1)

goes_read : (w : Way) (t : List ℕ) (at : ℕ) (r : Read) → at < length t → read_at t at ≡ r → Goes at (length t) (stands_read w t at r)
goes_read w t at (At c next) l e = go (older_takes w c) (read_step t at e)
  where
    go : (b : Bool) → (at < next) × (next ≤ length t) → Goes at (length t) (cond b (Carries (becomes w c) next) (Unfit (stand_in (get_or t at 0)) next))
    go true h = h
    go false h = h
goes_read w t at (Bad code place) l e = let h = past-goes t (at + 1) (operand_at t (at + 1)) (omega arith) refl in (omega (arith, h.0), h.1)
goes_read w t at End l e = tt

pub goes : (w : Way) (t : List ℕ) (at : ℕ) → Goes at (length t) (stands_at w t at)
unfolding stands_at
goes w t at = go (dec_lt at (length t))
  where
    known : (b : Bool) → at < length t → Goes at (length t) (cond b (stands_read w t at (read_at t at)) Lacks)
    known true l = goes_read w t at (read_at t at) l refl
    known false l = l

    go : Dec (at < length t) → Goes at (length t) (stands_at w t at)
    go (yes l) = rw (lt-ltb at (length t) l) (known (both_have (get_or t at 0)) l)
    go (no m) = rw (le-ltb at (length t) (omega arith)) tt

module _ (w : Way) (t : List ℕ) (at : ℕ) where
  pub good-goes : {c : Command} {n : ℕ} → stands_at w t at ≡ Carries c n → (at < n) × (n ≤ length t)
  good-goes e = rw e at (goes w t at)

  pub letter-goes : stands_at w t at ≡ Lacks → at < length t
  letter-goes e = rw e at (goes w t at)

  pub unfit-goes : {c : Command} {n : ℕ} → stands_at w t at ≡ Unfit c n → (at < n) × (n ≤ length t)
  unfit-goes e = rw e at (goes w t at)

-- as many items as bytes are left are enough
enough : (j k : ℕ) (w : Way) (t : List ℕ) (at : ℕ) → length t ≤ at + j → length t ≤ at + k → items_in j w t at ≡ items_in k w t at
unfolding items_in
enough zero zero w t at p q = refl
enough zero (suc k) w t at p q = sym (none (stands_at w t at) (λ n. items_in k w t n) (goes w t at))
  where
    none : (s : Stands) (more : ℕ → List Item) → Goes at (length t) s → items_on at s more ≡ []
    none (Carries c next) more h = let l = h.0 in let m = h.1 in absurd (omega arith)
    none Lacks more h = absurd (omega arith)
    none (Unfit c next) more h = let l = h.0 in let m = h.1 in absurd (omega arith)
    none Ends more h = refl
enough (suc j) zero w t at p q = none (stands_at w t at) (λ n. items_in j w t n) (goes w t at)
  where
    none : (s : Stands) (more : ℕ → List Item) → Goes at (length t) s → items_on at s more ≡ []
    none (Carries c next) more h = let l = h.0 in let m = h.1 in absurd (omega arith)
    none Lacks more h = absurd (omega arith)
    none (Unfit c next) more h = let l = h.0 in let m = h.1 in absurd (omega arith)
    none Ends more h = refl
enough (suc j) (suc k) w t at p q = go (stands_at w t at) (goes w t at) (λ n a b. enough j k w t n a b)
  where
    go : (s : Stands) → Goes at (length t) s → ((n : ℕ) → length t ≤ n + j → length t ≤ n + k → items_in j w t n ≡ items_in k w t n)
        → items_on at s (λ n. items_in j w t n) ≡ items_on at s (λ n. items_in k w t n)
    go (Carries c next) h rest = let l = h.0 in rw (rest next (omega arith) (omega arith))
    go Lacks h rest = rw (rest (at + 1) (omega arith) (omega arith))
    go (Unfit c next) h rest = let l = h.0 in rw (rest next (omega arith) (omega arith))
    go Ends h rest = refl

-- a text read from a place: what stands there, and the text read from behind it
pub items_law : (w : Way) (t : List ℕ) (at : ℕ) → items_from w t at ≡ items_on at (stands_at w t at) (λ n. items_from w t n)
unfolding items_from items_in
items_law w t at = enough (length t) (suc (length t)) w t at (omega arith) (omega arith)
