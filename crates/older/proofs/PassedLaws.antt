-- What passes, said of commands and not of places: all of it reads, the older drive takes each command, the structure holds and they are few.
-- So what goes over without an `L` comes back as it went, and what came into ours may be stored. Assumes nothing.
use Prim.Native.Nat.{ℕ, zero, suc, ◌+◌, ◌-◌, ◌≤◌}
use mathlib.Core.Path.{◌≡◌, refl, sym, ap, ◌∙◌}
use mathlib.Core.List.{List, [], ◌∷◌, map}
use mathlib.Core.Bool.{Bool, true, false, cond, ◌||◌, or-true, true≢false}
use native.Mathlib.Omega.{arith}
use lib.ListN.{length, get_or, length-map}
use lib.Dec.{ltb, eqb}
use borrow.Author.Tests.{le-leb, ltb-false, eqb-true}
use Rattle.commands.specs.declared.Command.{Command}
use Rattle.commands.specs.declared.Command.TheVariants.{LoopBegin, LoopEnd, Skip, Jump, Plain}
use Rattle.commands.specs.declared.Act.{Act}
use Rattle.commands.specs.declared.Read.{Read}
use Rattle.commands.specs.declared.Read.TheVariants.{At, Bad, End}
use Rattle.commands.specs.Fitting.{act_numbered, numbered_as}
use Rattle.commands.specs.Reading.{read_at}
use Rattle.commands.specs.Writing.{spelling_of}
use Rattle.commands.proofs.ReadingLaws.{read_end}
use Rattle.lines.specs.Texts.{Reading, commands, faulty, Placed, unplaced, these, bare, bare_from, reading_from, skippable, structured, storable, fault_places, stored_places, leftmost, stored_by, text_good_by, text_good}
use Rattle.lines.specs.Lists.{commands_text, all_in_range}
use Rattle.lines.proofs.PlaceLaws.{Inside, AllInside, places-inside, leftmost-some, places-none, stored-none, none-nil, nil-none}
use Rattle.lines.proofs.TextLaws.{before_bare, bare-end, bare_at}
use Rattle.lines.proofs.PieceLaws.{written_pieces, pieces_read}
use Rattle.std.specs.Prelude.{Ok, Err}
use Rattle.older.specs.declared.Way.{Way}
use Rattle.older.specs.declared.Way.TheVariants.{Inward}
use Rattle.older.specs.declared.Stands.{Stands}
use Rattle.older.specs.declared.Stands.TheVariants.{Carries, Lacks, Unfit, Ends}
use Rattle.older.specs.Older.{both_have, older_takes, sets_ramp, number_of, slower, becomes}
use Rattle.older.specs.Items.{stand_in, stands_read, stands_at, Item, carries, lacks, unfit, items_on, items_in, items_from, letter_places, operand_places, items_placed, most_carried, places_past, refusal_of, carried_commands, any_ramp, text_for}
use Rattle.older.specs.Examples.{gives, outcome_as, outcome}
use Rattle.older.specs.Claims.{SomeRamp, here, later, all_taken, Passed, other}
use Rattle.older.proofs.CarryLaws.{becomes-same}
use Rattle.older.proofs.ItemLaws.{good-goes}
use Rattle.older.proofs.FitLaws.{ramp_is, carried_from, all_in_range_lem, items_inside, soonest-none, past-few, fewer, text-length}

-- ---- no place at fault

none_left : (n : ℕ) (ps : List ℕ) → Inside n ps → leftmost ps ≡ 0 → ps ≡ []
none_left n [] h e = refl
none_left n (p ∷ ps) h e = absurd (omega (arith, leftmost-some n p ps h))

letter-inside : (n : ℕ) (is : List Item) → AllInside n (items_placed is) → Inside n (letter_places is)
unfolding items_placed letter_places
letter-inside n [] h = tt
letter-inside n (carries p c ∷ is) h = letter-inside n is h.2
letter-inside n (lacks p ∷ is) h = (h.0, h.1, letter-inside n is h.2)
letter-inside n (unfit p c ∷ is) h = letter-inside n is h.2

operand-inside : (n : ℕ) (is : List Item) → AllInside n (items_placed is) → Inside n (operand_places is)
unfolding items_placed operand_places
operand-inside n [] h = tt
operand-inside n (carries p c ∷ is) h = operand-inside n is h.2
operand-inside n (lacks p ∷ is) h = operand-inside n is h.2
operand-inside n (unfit p c ∷ is) h = (h.0, h.1, operand-inside n is h.2)

-- so all of it carries over
pub all_carry : (is : List Item) → letter_places is ≡ [] → operand_places is ≡ [] → unplaced (items_placed is) ≡ carried_commands is
unfolding items_placed letter_places operand_places carried_commands unplaced
all_carry [] l o = refl
all_carry (carries p c ∷ is) l o = ap (λ (cs : List Command). c ∷ cs) (all_carry is l o)
all_carry (lacks p ∷ is) l o = let z : ◌≡◌ {A = ℕ} 0 1 = cc in absurd (omega arith)
all_carry (unfit p c ∷ is) l o = let z : ◌≡◌ {A = ℕ} 0 1 = cc in absurd (omega arith)

-- ---- and reads

pub ends_read : (w : Way) (t : List ℕ) (at : ℕ) → stands_at w t at ≡ Ends → read_at t at ≡ End
unfolding stands_at
ends_read w t at e = go (ltb at (length t)) (both_have (get_or t at 0)) (read_at t at) refl refl e
  where
    taken : (c : Command) (next : ℕ) (x : Bool) → cond x (Carries (becomes w c) next) (Unfit (stand_in (get_or t at 0)) next) ≡ Ends → At c next ≡ End
    taken c next true h = let z : ◌≡◌ {A = ℕ} 0 1 = cc in absurd (omega arith)
    taken c next false h = let z : ◌≡◌ {A = ℕ} 0 1 = cc in absurd (omega arith)

    go : (a b : Bool) (r : Read) → ltb at (length t) ≡ a → read_at t at ≡ r → cond a (cond b (stands_read w t at r) Lacks) Ends ≡ Ends → read_at t at ≡ End
    go true true (At c next) l q h = q ∙ taken c next (older_takes w c) h
    go true true (Bad k p) l q h = let z : ◌≡◌ {A = ℕ} 0 1 = cc in absurd (omega arith)
    go true true End l q h = q
    go true false r l q h = let z : ◌≡◌ {A = ℕ} 0 1 = cc in absurd (omega arith)
    go false b r l q h = read_end t at (ltb-false at (length t) l)

record AllRead (w : Way) (t : List ℕ) (at : ℕ) (ds : List Command) : Type 0 where
  pub commands : List Command
  pub reads : bare_from t at ≡ these commands
  pub taken : all_taken w commands ≡ true
  pub are : ds ≡ map (becomes w) commands

all_read : (k : ℕ) (w : Way) (t : List ℕ) (at : ℕ) → length t ≤ at + k → letter_places (items_in k w t at) ≡ [] → operand_places (items_in k w t at) ≡ []
    → AllRead w t at (carried_commands (items_in k w t at))
unfolding items_in letter_places operand_places carried_commands all_taken
all_read zero w t at m l o = record { commands = []; reads = bare-end t at (read_end t at (omega arith)); taken = refl; are = refl }
all_read (suc k) w t at m l o = go (stands_at w t at) refl l o (λ n p q r. all_read k w t n p q r)
  where
    go : (s : Stands) → stands_at w t at ≡ s → letter_places (items_on at s (λ n. items_in k w t n)) ≡ [] → operand_places (items_on at s (λ n. items_in k w t n)) ≡ []
        → ((n : ℕ) → length t ≤ n + k → letter_places (items_in k w t n) ≡ [] → operand_places (items_in k w t n) ≡ [] → AllRead w t n (carried_commands (items_in k w t n)))
        → AllRead w t at (carried_commands (items_on at s (λ n. items_in k w t n)))
    go (Carries d n) e p q rest =
        let g = good-goes w t at e in
        let x = carried_from w t at e in
        let y = rest n (omega arith) p q in
        record {
          commands = x.command ∷ y.commands;
          reads = bare_at t at x.reads ∙ ap (before_bare x.command) y.reads;
          taken = rw x.takes y.taken;
          are = ap (λ (ds : List Command). d ∷ ds) y.are ∙ ap (λ (c : Command). c ∷ map (becomes w) y.commands) x.is;
        }
    go Lacks e p q rest = let z : ◌≡◌ {A = ℕ} 0 1 = cc in absurd (omega arith)
    go (Unfit c n) e p q rest = let z : ◌≡◌ {A = ℕ} 0 1 = cc in absurd (omega arith)
    go Ends e p q rest = record { commands = []; reads = bare-end t at (ends_read w t at e); taken = refl; are = refl }

-- ---- what a command becomes is of its kind

kind : (w : Way) (a : Act) → (b : Act) × (becomes w (Plain a) ≡ Plain b)
unfolding becomes
kind w a = go (sets_ramp (Plain a)) (slower w (number_of (spelling_of (Plain a))))
  where
    go : (x : Bool) (n : ℕ) → (b : Act) × (cond x (numbered_as n (Plain a)) (Plain a) ≡ Plain b)
    go true n = (act_numbered n a, refl)
    go false n = (a, refl)

skips : (w : Way) (cs : List Command) → skippable (map (becomes w) cs) ≡ skippable cs
unfolding becomes sets_ramp
skips w [] = refl
skips w (LoopBegin ∷ cs) = refl
skips w (LoopEnd n ∷ cs) = refl
skips w (Skip n ∷ cs) = refl
skips w (Jump n ∷ cs) = refl
skips w (Plain a ∷ cs) = rw (kind w a).1

pub same_structure : (w : Way) (depth : ℕ) (cs : List Command) → structured depth (map (becomes w) cs) ≡ structured depth cs
unfolding structured becomes sets_ramp
same_structure w d [] = refl
same_structure w d (LoopBegin ∷ cs) = rw (same_structure w (d + 1) cs)
same_structure w d (LoopEnd n ∷ cs) = rw (same_structure w (d - 1) cs)
same_structure w d (Skip n ∷ cs) = rw (skips w cs, same_structure w d cs)
same_structure w d (Jump n ∷ cs) = same_structure w d cs
same_structure w d (Plain a ∷ cs) = rw (kind w a).1 (same_structure w d cs)

ramp-stays : (w : Way) (c : Command) → sets_ramp (becomes w c) ≡ sets_ramp c
unfolding sets_ramp becomes
ramp-stays w c = go (sets_ramp c) refl
  where
    go : (x : Bool) → sets_ramp c ≡ x → sets_ramp (becomes w c) ≡ sets_ramp c
    go true e = let r = ramp_is c e in rw r.1
    go false e = ap sets_ramp (becomes-same w c e)

pub any_stays : (w : Way) (cs : List Command) → any_ramp (map (becomes w) cs) ≡ any_ramp cs
unfolding any_ramp
any_stays w [] = refl
any_stays w (c ∷ cs) = rw (ramp-stays w c, any_stays w cs)

pub any_some : (cs : List Command) → any_ramp cs ≡ true → SomeRamp cs
unfolding any_ramp
any_some [] e = absurd (true≢false (sym e))
any_some (c ∷ cs) e = go (sets_ramp c) refl e (λ h. any_some cs h)
  where
    go : (x : Bool) → sets_ramp c ≡ x → (x || any_ramp cs) ≡ true → (any_ramp cs ≡ true → SomeRamp cs) → SomeRamp (c ∷ cs)
    go true q h rest = let r = ramp_is c q in rw r.1 (here r.0 cs)
    go false q h rest = later c (rest h)

pub some_any : {cs : List Command} → SomeRamp cs → any_ramp cs ≡ true
unfolding any_ramp sets_ramp
some_any (here n cs) = refl
some_any (later c {cs} s) = rw (some_any s) (or-true (sets_ramp c))

-- without an `L` nothing changes
pub no_ramp : (w : Way) (cs : List Command) → any_ramp cs ≡ false → map (becomes w) cs ≡ cs
unfolding any_ramp
no_ramp w [] e = refl
no_ramp w (c ∷ cs) e = go (sets_ramp c) refl e (λ h. no_ramp w cs h)
  where
    go : (x : Bool) → sets_ramp c ≡ x → (x || any_ramp cs) ≡ false → (any_ramp cs ≡ false → map (becomes w) cs ≡ cs) → becomes w c ∷ map (becomes w) cs ≡ c ∷ cs
    go true q h rest = absurd (true≢false h)
    go false q h rest = rw (becomes-same w c q, rest h)

-- ---- what passes

record Went (w : Way) (t r : List ℕ) (slowed : Bool) : Type 0 where
  pub nowhere : (refusal_of w (items_from w t 0)).place ≡ 0
  pub text : r ≡ text_for w t
  pub ramp : slowed ≡ any_ramp (carried_commands (items_from w t 0))

went : (w : Way) (t r : List ℕ) (slowed : Bool) → outcome w t ≡ gives r slowed → Went w t r slowed
unfolding outcome
went w t r slowed e = go (eqb (refusal_of w (items_from w t 0)).place 0) refl e
  where
    go : (b : Bool) → eqb (refusal_of w (items_from w t 0)).place 0 ≡ b
        → outcome_as (cond b (Ok (any_ramp (carried_commands (items_from w t 0)))) (Err (refusal_of w (items_from w t 0)))) (text_for w t) ≡ gives r slowed
        → Went w t r slowed
    go true q h =
        let a : text_for w t ≡ r = cc in
        let b : any_ramp (carried_commands (items_from w t 0)) ≡ slowed = cc in
        record { nowhere = eqb-true _ 0 q; text = sym a; ramp = sym b }
    go false q h = let z : ◌≡◌ {A = ℕ} 0 1 = cc in absurd (omega arith)

-- and is in our range
pub record Over (w : Way) (t r : List ℕ) (slowed : Bool) : Type 0 where
  pub main : Passed w t r slowed
  pub ranged : all_in_range (map (becomes w) main.commands) ≡ true

pub over : (w : Way) (t r : List ℕ) (slowed : Bool) → outcome w t ≡ gives r slowed → Over w t r slowed
unfolding refusal_of items_from
over w t r slowed e =
    let g = went w t r slowed e in
    let is : List Item = items_from w t 0 in
    let inside = items_inside w t in
    let none = soonest-none (leftmost (letter_places is)) (leftmost (operand_places is)) (leftmost (fault_places [] (items_placed is))) (leftmost (places_past (most_carried w) (items_placed is))) g.nowhere in
    let l = none_left (length t) (letter_places is) (letter-inside (length t) is inside) none.0 in
    let o = none_left (length t) (operand_places is) (operand-inside (length t) is inside) none.1 in
    let s = none_left (length t) (fault_places [] (items_placed is)) (places-inside (length t) [] (items_placed is) tt inside) none.2 in
    let k = past-few (length t) (most_carried w) (items_placed is) inside none.3 in
    let a = all_read (length t) w t 0 (omega arith) l o in
    let are : carried_commands is ≡ map (becomes w) a.commands = a.are in
    let same : any_ramp (carried_commands is) ≡ any_ramp a.commands = ap any_ramp are ∙ any_stays w a.commands in
    let holds : structured 0 (unplaced (items_placed is)) ≡ true = sym (places-none [] (items_placed is)) ∙ none-nil (fault_places [] (items_placed is)) s in
    let p : Passed w t r slowed = record {
      commands = a.commands;
      reads = a.reads;
      taken = a.taken;
      holds = sym (same_structure w 0 a.commands) ∙ ap (structured 0) (sym (all_carry is l o ∙ are)) ∙ holds;
      few = omega (arith, fewer is, k, ap length are, length-map a.commands (becomes w));
      text = g.text ∙ ap commands_text are;
      ramp = ((λ h. any_some a.commands (sym same ∙ sym g.ramp ∙ h)), (λ h. g.ramp ∙ same ∙ some_any h));
    } in
    record { main = p; ranged = ap all_in_range (sym are) ∙ all_in_range_lem w t }

pub passes : (w : Way) (t r : List ℕ) (slowed : Bool) → outcome w t ≡ gives r slowed → Passed w t r slowed
passes w t r slowed e = (over w t r slowed e).main

-- what is written reads back
reads_back : (cs : List Command) → all_in_range cs ≡ true → bare_from (commands_text cs) 0 ≡ these cs
reads_back cs h = pieces_read (written_pieces cs) (commands_text cs) 0 refl ∙ rw h

-- the text that goes over reads as the commands that it was made of
pub over_reads : {w : Way} {t r : List ℕ} {slowed : Bool} (o : Over w t r slowed) → bare_from r 0 ≡ these (map (becomes w) o.main.commands)
over_reads o = rw o.main.text (reads_back _ o.ranged)

pub these-same : (cs ds : List Command) → these cs ≡ these ds → cs ≡ ds
these-same cs ds e = cc

pub no_some : (cs : List Command) → (SomeRamp cs → ⊥) → any_ramp cs ≡ false
no_some cs h = go (any_ramp cs) refl
  where
    go : (b : Bool) → any_ramp cs ≡ b → any_ramp cs ≡ false
    go true e = absurd (h (any_some cs e))
    go false e = e

pub both_ways : (w : Way) (t r back : List ℕ) (slowed : Bool) → outcome w t ≡ gives r false → outcome (other w) r ≡ gives back slowed
    → (back ≡ r) × (slowed ≡ false) × (bare_from back 0 ≡ bare_from t 0)
both_ways w t r back slowed e f =
    let o = over w t r false e in
    let p = over (other w) r back slowed f in
    let cs : List Command = o.main.commands in
    let none : any_ramp cs ≡ false = no_some cs (λ s. true≢false (sym (o.main.ramp.1 s))) in
    let here : bare_from r 0 ≡ these cs = over_reads o ∙ ap these (no_ramp w cs none) in
    let same : p.main.commands ≡ cs = these-same _ _ (sym p.main.reads ∙ here) in
    let text : back ≡ r = p.main.text ∙ rw (same, no_ramp (other w) cs none) (sym (o.main.text ∙ rw (no_ramp w cs none))) in
    (text, unslowed slowed (λ h. no_some_any none (rw same at (p.main.ramp.0 h))), ap (λ (x : List ℕ). bare_from x 0) text ∙ here ∙ sym o.main.reads)
  where
    unslowed : (b : Bool) → (b ≡ true → ⊥) → b ≡ false
    unslowed true h = absurd (h refl)
    unslowed false h = refl

    no_some_any : {cs : List Command} → any_ramp cs ≡ false → SomeRamp cs → ⊥
    no_some_any n s = true≢false (sym (some_any s) ∙ n)

-- what reads as commands in a text
read_as : (r : Reading) (cs : List Command) → bare r ≡ these cs → (ps : List Placed) × (r ≡ commands ps) × (unplaced ps ≡ cs)
read_as (commands ps) cs e = let q : unplaced ps ≡ cs = cc in (ps, refl, q)
read_as (faulty f) cs e = let z : ◌≡◌ {A = ℕ} 0 1 = cc in absurd (omega arith)

pub stored : (t r : List ℕ) (slowed : Bool) → outcome Inward t ≡ gives r slowed → text_good r ≡ true
unfolding text_good_by stored_by
stored t r slowed e =
    let o = over Inward t r slowed e in
    let ds : List Command = map (becomes Inward) o.main.commands in
    let long : length ds ≤ 14 = omega (arith, length-map o.main.commands (becomes Inward), o.main.few) in
    let fits : length r ≤ 256 = omega (arith, ap length o.main.text, text-length ds o.ranged) in
    let p = read_as (reading_from r 0) ds (over_reads o) in
    let holds : structured 0 ds ≡ true = same_structure Inward 0 o.main.commands ∙ o.main.holds in
    let good : storable (unplaced p.0) ≡ true = rw (p.2, holds) (le-leb (length ds) 14 long) in
    let none : stored_places true (length r) p.0 ≡ [] = nil-none _ (stored-none true (length r) p.0 ∙ rw good) in
    rw (le-leb (length r) 256 fits, p.1, none)
