-- What passes fits: each command that carries over is in our range, there are at most so many, and their text has room. Assumes nothing.
use Prim.Native.Nat.{ℕ, zero, suc, ◌+◌, ◌*◌, ◌≤◌}
use mathlib.Core.Path.{◌≡◌, refl, sym, ap, ◌∙◌}
use mathlib.Core.List.{List, [], ◌∷◌}
use mathlib.Core.Bool.{Bool, true, false, cond}
use native.Mathlib.Omega.{arith}
use lib.ListN.{length, get_or, length-append}
use lib.Dec.{ltb, leb, eqb}
use borrow.Author.Tests.{le-leb, leb-true, eqb-true, eqb-false}
use Rattle.parts.proofs.Laws.{cases}
use Rattle.commands.specs.declared.Command.{Command}
use Rattle.commands.specs.declared.Command.TheVariants.{LoopBegin, LoopEnd, Skip, Jump, Plain}
use Rattle.commands.specs.declared.Act.TheVariants.{MoveTo, MoveUp, MoveDown, SetPosition, Home, Set, Delay, WaitInput}
use Rattle.commands.specs.declared.Setting.TheVariants.{TopSpeed, Acceleration, FlagLevel, Turned, MoveCurrent, HoldCurrent, StepSize, Correction, Outputs, Baud}
use Rattle.commands.specs.declared.Read.{Read}
use Rattle.commands.specs.declared.Read.TheVariants.{At, Bad, End}
use Rattle.commands.specs.Table.{one_of, table, find, asks_of, within}
use Rattle.commands.specs.Reading.{read_at}
use Rattle.commands.specs.Writing.{spelled, in_range}
use Rattle.commands.proofs.SpellingLaws.{spells_itself}
use Rattle.commands.proofs.SpelledLaws.{spells_as}
use Rattle.commands.proofs.WritingLaws.{spelling-most}
use Rattle.lines.specs.Texts.{Placed, placed, fault_places, left_of, leftmost}
use Rattle.lines.specs.Lists.{commands_text, all_in_range}
use Rattle.lines.proofs.PlaceLaws.{left-zero, left-some, AllInside}
use Rattle.older.specs.declared.Way.{Way}
use Rattle.older.specs.declared.Way.TheVariants.{Inward, Outward}
use Rattle.older.specs.declared.Stands.{Stands}
use Rattle.older.specs.declared.Stands.TheVariants.{Carries, Lacks, Unfit, Ends}
use Rattle.older.specs.declared.Refusal.{Refusal}
use Rattle.older.specs.Older.{older_table, older_in, older_asks, both_have, older_in_range, sets_ramp, slower, becomes, older_takes}
use Rattle.older.specs.Items.{stand_in, stands_read, stands_at, Item, carries, lacks, unfit, items_on, items_in, items_from, letter_places, operand_places, items_placed, most_carried, places_past, sooner, soonest, refusal_of, carried_commands, text_for}
use Rattle.older.proofs.CarryLaws.{both, becomes-same}
use Rattle.older.proofs.ItemLaws.{good-goes, letter-goes, unfit-goes}

-- ---- an `L`

no : {A : Type 0} → true ≡ false → A
no e = let z : ◌≡◌ {A = ℕ} 0 1 = cc in absurd (omega arith)

-- what sets the acceleration is an `L`
pub ramp_is : (c : Command) → sets_ramp c ≡ true → (n : ℕ) × (c ≡ Plain (Set Acceleration n))
unfolding sets_ramp
ramp_is LoopBegin e = no (sym e)
ramp_is (LoopEnd n) e = no (sym e)
ramp_is (Skip n) e = no (sym e)
ramp_is (Jump n) e = no (sym e)
ramp_is (Plain (MoveTo n)) e = no (sym e)
ramp_is (Plain (MoveUp n)) e = no (sym e)
ramp_is (Plain (MoveDown n)) e = no (sym e)
ramp_is (Plain (SetPosition n)) e = no (sym e)
ramp_is (Plain (Home n)) e = no (sym e)
ramp_is (Plain (Set TopSpeed n)) e = no (sym e)
ramp_is (Plain (Set Acceleration n)) e = (n, refl)
ramp_is (Plain (Set FlagLevel n)) e = no (sym e)
ramp_is (Plain (Set Turned n)) e = no (sym e)
ramp_is (Plain (Set MoveCurrent n)) e = no (sym e)
ramp_is (Plain (Set HoldCurrent n)) e = no (sym e)
ramp_is (Plain (Set StepSize n)) e = no (sym e)
ramp_is (Plain (Set Correction n)) e = no (sym e)
ramp_is (Plain (Set Outputs n)) e = no (sym e)
ramp_is (Plain (Set Baud n)) e = no (sym e)
ramp_is (Plain (Delay n)) e = no (sym e)
ramp_is (Plain (WaitInput n)) e = no (sym e)

ramp_in_range : (n : ℕ) → 1 ≤ n → n ≤ 65000 → in_range (Plain (Set Acceleration n)) ≡ true
unfolding in_range asks_of find table within
ramp_in_range n h k = rw (le-leb 1 n h) (le-leb n 65000 k)

ramp-becomes : (w : Way) (n : ℕ) → older_takes w (Plain (Set Acceleration n)) ≡ true → in_range (becomes w (Plain (Set Acceleration n))) ≡ true
unfolding becomes sets_ramp older_in_range older_asks older_in older_table one_of within
ramp-becomes Inward n h =
    let k = both (leb 1 n) (leb n 20) h in
    let low = leb-true 1 n k.0 in
    let high = leb-true n 20 k.1 in
    ramp_in_range (slower Inward n) (omega arith) (omega arith)
ramp-becomes Outward n h =
    let x : ℕ = slower Outward n in
    let k = both (leb 1 x) (leb x 20) h in
    ramp_in_range x (leb-true 1 x k.0) (omega (arith, leb-true x 20 k.1))

-- what the older drive takes becomes a command in our range
pub becomes_in_range : (w : Way) (c : Command) → in_range c ≡ true → older_takes w c ≡ true → in_range (becomes w c) ≡ true
becomes_in_range w c h k = go (sets_ramp c) refl
  where
    go : (b : Bool) → sets_ramp c ≡ b → in_range (becomes w c) ≡ true
    go true e = let r = ramp_is c e in rw r.1 (ramp-becomes w r.0 (rw r.1 at k))
    go false e = rw (becomes-same w c e) h

-- ---- a command that carries over was read

pub record CarriedFrom (w : Way) (t : List ℕ) (at : ℕ) (d : Command) (n : ℕ) : Type 0 where
  pub command : Command
  pub reads : read_at t at ≡ At command n
  pub takes : older_takes w command ≡ true
  pub is : d ≡ becomes w command

pub carried_from : (w : Way) (t : List ℕ) (at : ℕ) {d : Command} {n : ℕ} → stands_at w t at ≡ Carries d n → CarriedFrom w t at d n
unfolding stands_at
carried_from w t at {d} {n} e = go (ltb at (length t)) (both_have (get_or t at 0)) (read_at t at) refl e
  where
    taken : (c : Command) (next : ℕ) (x : Bool) → read_at t at ≡ At c next → older_takes w c ≡ x
        → cond x (Carries (becomes w c) next) (Unfit (stand_in (get_or t at 0)) next) ≡ Carries d n → CarriedFrom w t at d n
    taken c next true r q h =
        let same : next ≡ n = cc in
        let is : becomes w c ≡ d = cc in
        record { command = c; reads = r ∙ ap (At c) same; takes = q; is = sym is }
    taken c next false r q h = let z : ◌≡◌ {A = ℕ} 0 1 = cc in absurd (omega arith)

    go : (a b : Bool) (r : Read) → read_at t at ≡ r → cond a (cond b (stands_read w t at r) Lacks) Ends ≡ Carries d n → CarriedFrom w t at d n
    go true true (At c next) q h = taken c next (older_takes w c) q refl h
    go true true (Bad k p) q h = let z : ◌≡◌ {A = ℕ} 0 1 = cc in absurd (omega arith)
    go true true End q h = let z : ◌≡◌ {A = ℕ} 0 1 = cc in absurd (omega arith)
    go true false r q h = let z : ◌≡◌ {A = ℕ} 0 1 = cc in absurd (omega arith)
    go false b r q h = let z : ◌≡◌ {A = ℕ} 0 1 = cc in absurd (omega arith)

pub carried_in_range : (w : Way) (t : List ℕ) (at : ℕ) {d : Command} {n : ℕ} → stands_at w t at ≡ Carries d n → in_range d ≡ true
carried_in_range w t at e =
    let k = carried_from w t at e in
    rw k.is (becomes_in_range w k.command (spells_as t at k.command _ k.reads).in-range k.takes)

-- ---- all items

all_in : (k : ℕ) (w : Way) (t : List ℕ) (at : ℕ) → all_in_range (carried_commands (items_in k w t at)) ≡ true
unfolding items_in carried_commands all_in_range
all_in zero w t at = refl
all_in (suc k) w t at = go (stands_at w t at) refl (λ n. all_in k w t n)
  where
    go : (s : Stands) → stands_at w t at ≡ s → ((n : ℕ) → all_in_range (carried_commands (items_in k w t n)) ≡ true)
        → all_in_range (carried_commands (items_on at s (λ n. items_in k w t n))) ≡ true
    go (Carries c n) e rest = rw (carried_in_range w t at e) (rest n)
    go Lacks e rest = rest (at + 1)
    go (Unfit c n) e rest = rest n
    go Ends e rest = refl

pub all_in_range_lem : (w : Way) (t : List ℕ) → all_in_range (carried_commands (items_from w t 0)) ≡ true
unfolding items_from
all_in_range_lem w t = all_in (length t) w t 0

inside_in : (k : ℕ) (w : Way) (t : List ℕ) (at : ℕ) → AllInside (length t) (items_placed (items_in k w t at))
unfolding items_in items_placed
inside_in zero w t at = tt
inside_in (suc k) w t at = go (stands_at w t at) refl (λ n. inside_in k w t n)
  where
    go : (s : Stands) → stands_at w t at ≡ s → ((n : ℕ) → AllInside (length t) (items_placed (items_in k w t n)))
        → AllInside (length t) (items_placed (items_on at s (λ n. items_in k w t n)))
    go (Carries c n) e rest = let h = good-goes w t at e in (omega arith, omega arith, rest n)
    go Lacks e rest = let h = letter-goes w t at e in (omega arith, omega arith, rest (at + 1))
    go (Unfit c n) e rest = let h = unfit-goes w t at e in (omega arith, omega arith, rest n)
    go Ends e rest = tt

pub items_inside : (w : Way) (t : List ℕ) → AllInside (length t) (items_placed (items_from w t 0))
unfolding items_from
items_inside w t = inside_in (length t) w t 0

-- ---- nothing is refused

pub sooner-none : (a b : Refusal) → (sooner a b).place ≡ 0 → (a.place ≡ 0) × (b.place ≡ 0)
sooner-none a b = cases (λ (r : Refusal). r.place ≡ 0 → (a.place ≡ 0) × (b.place ≡ 0)) (eqb a.place (left_of a.place b.place))
    (λ e h. (h, first e h))
    (λ e h. absurd (eqb-false a.place (left_of a.place b.place) e (rw h (sym (left-zero a.place)))))
  where
    first : eqb a.place (left_of a.place b.place) ≡ true → a.place ≡ 0 → b.place ≡ 0
    first e h = let q : left_of a.place b.place ≡ b.place = rw h in sym q ∙ sym (eqb-true a.place (left_of a.place b.place) e) ∙ h

pub soonest-none : (l o s m : ℕ) → (soonest l o s m).place ≡ 0 → (l ≡ 0) × (o ≡ 0) × (s ≡ 0) × (m ≡ 0)
soonest-none l o s m h =
    let a = sooner-none _ _ h in
    let b = sooner-none _ _ a.1 in
    let c = sooner-none _ _ b.1 in
    (a.0, b.0, c.0, c.1)

-- no command stands past the most
pub past-few : (n k : ℕ) (cs : List Placed) → AllInside n cs → leftmost (places_past k cs) ≡ 0 → length cs ≤ k
unfolding places_past leftmost
past-few n k [] h e = omega arith
past-few n zero (placed p c ∷ cs) h e = absurd (omega (arith, left-some p (leftmost (places_past 0 cs)) h.0))
past-few n (suc k) (placed p c ∷ cs) h e = omega (arith, past-few n k cs h.2 e)

pub fewer : (is : List Item) → length (carried_commands is) ≤ length (items_placed is)
unfolding carried_commands items_placed
fewer [] = omega arith
fewer (carries p c ∷ is) = omega (arith, fewer is)
fewer (lacks p ∷ is) = omega (arith, fewer is)
fewer (unfit p c ∷ is) = omega (arith, fewer is)

-- each command is written in a letter and ten digits at most
pub text-length : (cs : List Command) → all_in_range cs ≡ true → length (commands_text cs) ≤ 11 * length cs
unfolding commands_text all_in_range
text-length [] h = omega arith
text-length (c ∷ cs) h =
    let k = both (in_range c) (all_in_range cs) h in
    omega (arith, length-append (spelled c) (commands_text cs), spelling-most c (spelled c) (spells_itself c k.0), text-length cs k.1)

most-few : (w : Way) → most_carried w ≤ 25
most-few Inward = omega arith
most-few Outward = omega arith

pub text-most : (w : Way) (t : List ℕ) → (refusal_of w (items_from w t 0)).place ≡ 0 → length (text_for w t) ≤ 275
unfolding refusal_of
text-most w t h =
    let is : List Item = items_from w t 0 in
    let none = soonest-none (leftmost (letter_places is)) (leftmost (operand_places is)) (leftmost (fault_places [] (items_placed is))) (leftmost (places_past (most_carried w) (items_placed is))) h in
    let few = past-few (length t) (most_carried w) (items_placed is) (items_inside w t) none.3 in
    omega (arith, text-length (carried_commands is) (all_in_range_lem w t), fewer is, few, most-few w)
