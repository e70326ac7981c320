-- What has no fault passes: the other direction of `PassedLaws`. So what came into ours without an `L` goes back as it is. Assumes nothing.
use Prim.Native.Nat.{ℕ, zero, suc, ◌+◌, ◌-◌, ◌≤◌, ◌<◌}
use mathlib.Core.Path.{◌≡◌, refl, sym, ap, subst, ◌∙◌}
use mathlib.Core.List.{List, [], ◌∷◌, map}
use mathlib.Core.Bool.{Bool, true, false, ◌||◌, true≢false}
use native.Mathlib.Omega.{arith}
use lib.ListN.{length, get_or, length-map}
use borrow.Author.Tests.{lt-ltb, le-ltb}
use Rattle.parts.proofs.Laws.{get_d_part}
use Rattle.commands.specs.declared.Command.{Command}
use Rattle.commands.specs.declared.Asks.{Asks}
use Rattle.commands.specs.declared.Asks.TheVariants.{Unknown, Nothing, Required, OrElse}
use Rattle.commands.specs.declared.Spelling.{Spelling}
use Rattle.commands.specs.declared.Spelling.TheVariants.{Alone, WithNumber, WithTwoDigits}
use Rattle.commands.specs.declared.Read.{Read}
use Rattle.commands.specs.declared.Read.TheVariants.{At, Bad, End}
use Rattle.commands.specs.Table.{asks_of}
use Rattle.commands.specs.Reading.{read_at}
use Rattle.commands.specs.Writing.{spelling_of, permits, permitted, in_range, zeroed, SpellsCommand, full, bare-G, bare-H}
use Rattle.commands.proofs.ReadingLaws.{read_step, read_end}
use Rattle.commands.proofs.SpelledLaws.{spells_as}
use Rattle.lines.specs.Texts.{Placed, placed, unplaced, these, amiss, bare, bare_from, structured, fault_places, leftmost}
use Rattle.lines.specs.Lists.{commands_text}
use Rattle.lines.proofs.PlaceLaws.{places-none, nil-none}
use Rattle.lines.proofs.TextLaws.{reading_law, bare-end, bare_at, bare_is}
use Rattle.lines.proofs.CodeLaws.{read_sound}
use Rattle.older.specs.declared.Way.{Way}
use Rattle.older.specs.declared.Way.TheVariants.{Inward, Outward}
use Rattle.older.specs.declared.Stands.TheVariants.{Carries, Ends}
use Rattle.older.specs.Older.{older_asks, has_row, both_have, letter_of, number_of, older_in_range, older_takes, sets_ramp, becomes}
use Rattle.older.specs.Items.{stands_at, Item, items_in, items_from, letter_places, operand_places, items_placed, most_carried, places_past, refusal_of, carried_commands, any_ramp, text_for}
use Rattle.older.specs.Examples.{gives, outcome}
use Rattle.older.specs.Claims.{all_taken, Passed}
use Rattle.older.proofs.CarryLaws.{both, becomes-same, takes_same}
use Rattle.older.proofs.FitLaws.{ramp_is}
use Rattle.older.proofs.PassedLaws.{all_carry, same_structure, any_stays, some_any, no_ramp, no_some, these-same, over, over_reads}

-- ---- a command that the older drive takes stands by a letter that both have

lead : (sp : Spelling) (z : ℕ) → get_or (zeroed sp z) 0 0 ≡ letter_of sp
lead (Alone l) z = refl
lead (WithNumber l n) z = refl
lead (WithTwoDigits l n) z = refl

first-letter : (c : Command) (b : List ℕ) → SpellsCommand c b → get_or b 0 0 ≡ letter_of (spelling_of c)
first-letter c b (full d z w) = lead (spelling_of d) z
first-letter c b bare-G = refl
first-letter c b bare-H = refl

read_letter : (t : List ℕ) (at : ℕ) (c : Command) (n : ℕ) → read_at t at ≡ At c n → get_or t at 0 ≡ letter_of (spelling_of c)
read_letter t at c n e =
    let s = read_step t at e in
    let z : at + 0 ≡ at = omega arith in
    ap (λ (i : ℕ). get_or t i 0) (sym z) ∙ sym (get_d_part t at (n - at) 0 (omega arith)) ∙ first-letter c _ (spells_as t at c n e).spells

has_row_lem : (a : Asks) (n : ℕ) → permits a n ≡ true → has_row a ≡ true
has_row_lem Unknown n h = h
has_row_lem Nothing n h = refl
has_row_lem (Required r) n h = refl
has_row_lem (OrElse r m) n h = refl

has_ours : (sp : Spelling) → permitted sp ≡ true → has_row (asks_of (letter_of sp)) ≡ true
has_ours (Alone l) h = has_row_lem (asks_of l) 0 h
has_ours (WithNumber l n) h = has_row_lem (asks_of l) n h
has_ours (WithTwoDigits l n) h = has_row_lem (asks_of l) n h

same-letter : (w : Way) (c : Command) → letter_of (spelling_of (becomes w c)) ≡ letter_of (spelling_of c)
unfolding becomes sets_ramp
same-letter w c = go (sets_ramp c) refl
  where
    go : (x : Bool) → sets_ramp c ≡ x → letter_of (spelling_of (becomes w c)) ≡ letter_of (spelling_of c)
    go true e = let r = ramp_is c e in rw r.1
    go false e = ap (λ (d : Command). letter_of (spelling_of d)) (becomes-same w c e)

older_has : (w : Way) (c : Command) → older_takes w c ≡ true → has_row (older_asks (letter_of (spelling_of c))) ≡ true
unfolding older_in_range
older_has Inward c h = has_row_lem (older_asks (letter_of (spelling_of c))) (number_of (spelling_of c)) h
older_has Outward c h = rw (← same-letter Outward c) (has_row_lem (older_asks (letter_of (spelling_of (becomes Outward c)))) (number_of (spelling_of (becomes Outward c))) h)

both_have_lem : (w : Way) (t : List ℕ) (at : ℕ) (c : Command) (n : ℕ) → read_at t at ≡ At c n → older_takes w c ≡ true → both_have (get_or t at 0) ≡ true
unfolding both_have in_range
both_have_lem w t at c n e h =
    let ours : has_row (asks_of (letter_of (spelling_of c))) ≡ true = has_ours (spelling_of c) (spells_as t at c n e).in-range in
    rw (read_letter t at c n e, older_has w c h) ours

stands-carries : (w : Way) (t : List ℕ) (at : ℕ) (c : Command) (n : ℕ) → read_at t at ≡ At c n → older_takes w c ≡ true → stands_at w t at ≡ Carries (becomes w c) n
unfolding stands_at
stands-carries w t at c n e h =
    let s = read_step t at e in
    let l : at < length t = omega arith in
    rw (lt-ltb at (length t) l, both_have_lem w t at c n e h, e, h)

stands-end : (w : Way) (t : List ℕ) (at : ℕ) → length t ≤ at → stands_at w t at ≡ Ends
unfolding stands_at
stands-end w t at l = rw (le-ltb at (length t) l)

-- ---- so all of a text carries over

record Clean (w : Way) (is : List Item) (cs : List Command) : Type 0 where
  pub letters : letter_places is ≡ []
  pub operands : operand_places is ≡ []
  pub are : carried_commands is ≡ map (becomes w) cs

no_commands : (w : Way) (cs : List Command) → cs ≡ [] → Clean w [] cs
unfolding letter_places operand_places carried_commands
no_commands w cs e = record { letters = refl; operands = refl; are = rw e }

clean_more : (k : ℕ) (w : Way) (t : List ℕ) (at : ℕ) (c : Command) (n : ℕ) (ds : List Command) → stands_at w t at ≡ Carries (becomes w c) n
    → Clean w (items_in k w t n) ds → Clean w (items_in (suc k) w t at) (c ∷ ds)
unfolding items_in letter_places operand_places carried_commands
clean_more k w t at c n ds s y = record { letters = rw s y.letters; operands = rw s y.operands; are = rw s (ap (λ (xs : List Command). becomes w c ∷ xs) y.are) }

clean_end : (k : ℕ) (w : Way) (t : List ℕ) (at : ℕ) (cs : List Command) → length t ≤ at → cs ≡ [] → Clean w (items_in (suc k) w t at) cs
unfolding items_in
clean_end k w t at cs l q = rw (stands-end w t at l) (no_commands w cs q)

clean : (k : ℕ) (w : Way) (t : List ℕ) (at : ℕ) (cs : List Command) → length t ≤ at + k → bare_from t at ≡ these cs → all_taken w cs ≡ true → Clean w (items_in k w t at) cs
unfolding items_in all_taken
clean zero w t at cs m e h = no_commands w cs (these-same cs [] (sym e ∙ bare-end t at (read_end t at (omega arith))))
clean (suc k) w t at cs m e h = go (read_at t at) refl (λ n ds a b c. clean k w t n ds a b c)
  where
    go : (r : Read) → read_at t at ≡ r → ((n : ℕ) (ds : List Command) → length t ≤ n + k → bare_from t n ≡ these ds → all_taken w ds ≡ true → Clean w (items_in k w t n) ds)
        → Clean w (items_in (suc k) w t at) cs
    go (At c n) q rest =
        let b = bare_is c (bare_from t n) cs (sym (bare_at t at q) ∙ e) in
        let all : all_taken w (c ∷ b.0) ≡ true = sym (ap (all_taken w) b.2) ∙ h in
        let x = both (older_takes w c) (all_taken w b.0) all in
        let s = read_step t at q in
        subst (λ (xs : List Command). Clean w (items_in (suc k) w t at) xs) (sym b.2)
        (clean_more k w t at c n b.0 (stands-carries w t at c n q x.0) (rest n b.0 (omega arith) b.1 x.1))
    go (Bad code p) q rest =
        let a : bare_from t at ≡ amiss code = ap bare (reading_law t at) ∙ rw q in
        let z : ◌≡◌ {A = ℕ} 0 1 = cc in
        absurd (omega arith)
    go End q rest =
        let l : length t ≤ at = rw q at (read_sound t at) in
        clean_end k w t at cs l (these-same cs [] (sym e ∙ bare-end t at q))

-- ---- and nothing is refused

past-none : (k : ℕ) (cs : List Placed) → length cs ≤ k → places_past k cs ≡ []
unfolding places_past
past-none k [] h = refl
past-none zero (placed p c ∷ cs) h = absurd (omega arith)
past-none (suc k) (placed p c ∷ cs) h = past-none k cs (omega arith)

unplaced-length : (cs : List Placed) → length (unplaced cs) ≡ length cs
unfolding unplaced
unplaced-length [] = refl
unplaced-length (placed p c ∷ cs) = omega (arith, unplaced-length cs)

told_so : (w : Way) (t r : List ℕ) (slowed : Bool) → letter_places (items_from w t 0) ≡ [] → operand_places (items_from w t 0) ≡ [] → fault_places [] (items_placed (items_from w t 0)) ≡ []
    → places_past (most_carried w) (items_placed (items_from w t 0)) ≡ [] → text_for w t ≡ r → any_ramp (carried_commands (items_from w t 0)) ≡ slowed → outcome w t ≡ gives r slowed
unfolding outcome refusal_of leftmost
told_so w t r slowed l o s m e f = rw (l, o, s, m, e, f)

pub passes_back : (w : Way) (t r : List ℕ) (slowed : Bool) → Passed w t r slowed → outcome w t ≡ gives r slowed
unfolding items_from
passes_back w t r slowed p =
    let is : List Item = items_from w t 0 in
    let cs : List Command = p.commands in
    let c = clean (length t) w t 0 cs (omega arith) p.reads p.taken in
    let same : unplaced (items_placed is) ≡ map (becomes w) cs = all_carry is c.letters c.operands ∙ c.are in
    let holds : structured 0 (unplaced (items_placed is)) ≡ true = ap (structured 0) same ∙ same_structure w 0 cs ∙ p.holds in
    let long : length (items_placed is) ≤ most_carried w = omega (arith, unplaced-length (items_placed is), ap length same, length-map cs (becomes w), p.few) in
    told_so w t r slowed c.letters c.operands (nil-none (fault_places [] (items_placed is)) (places-none [] (items_placed is) ∙ holds))
    (past-none (most_carried w) (items_placed is) long) (ap commands_text c.are ∙ sym p.text) (ap any_ramp c.are ∙ any_stays w cs ∙ ramp slowed refl)
  where
    ramp : (b : Bool) → slowed ≡ b → any_ramp p.commands ≡ slowed
    ramp true e = some_any (p.ramp.0 e) ∙ sym e
    ramp false e = no_some p.commands (λ s. true≢false (sym (p.ramp.1 s) ∙ e)) ∙ sym e

-- ---- without an `L`

all_same : (cs : List Command) → any_ramp cs ≡ false → all_taken Inward cs ≡ true → all_taken Outward cs ≡ true
unfolding all_taken any_ramp
all_same [] n h = refl
all_same (c ∷ cs) n h =
    let k = both (older_takes Inward c) (all_taken Inward cs) h in
    let m = neither (sets_ramp c) (any_ramp cs) n in
    rw (takes_same Outward c m.0 ∙ sym (takes_same Inward c m.0) ∙ k.0) (all_same cs m.1 k.1)
  where
    neither : (a b : Bool) → (a || b) ≡ false → (a ≡ false) × (b ≡ false)
    neither true b e = absurd (true≢false e)
    neither false b e = (refl, e)

pub goes_back : (t r : List ℕ) → outcome Inward t ≡ gives r false → outcome Outward r ≡ gives r false
goes_back t r e =
    let o = over Inward t r false e in
    let cs : List Command = o.main.commands in
    let none : any_ramp cs ≡ false = no_some cs (λ s. true≢false (sym (o.main.ramp.1 s))) in
    passes_back Outward r r false record {
      commands = cs;
      reads = over_reads o ∙ ap these (no_ramp Inward cs none);
      taken = all_same cs none o.main.taken;
      holds = o.main.holds;
      few = omega (arith, o.main.few);
      text = o.main.text ∙ ap commands_text (no_ramp Inward cs none ∙ sym (no_ramp Outward cs none));
      ramp = o.main.ramp;
    }
