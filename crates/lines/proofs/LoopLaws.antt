-- What a checked text has at each of its places, and the loops that enclose a place. Assumes nothing.
use Rattle.std.specs.Prelude.{Ok}
use Prim.Native.Nat.{ℕ, zero, suc, ◌+◌, ◌-◌, ◌≤◌, ◌<◌}
use mathlib.Core.Path.{◌≡◌, refl, sym, ◌∙◌}
use mathlib.Core.List.{List, [], ◌∷◌}
use mathlib.Core.Bool.{Bool, true, false, ◌&&◌, and-eq-true_iff}
use native.Mathlib.Omega.{arith}
use lib.ListN.{length}
use lib.Dec.{ltb}
use borrow.Author.Tests.{ltb-true, eqb-true, eq-eqb, ne_eqb}
use Rattle.commands.specs.declared.Command.{Command}
use Rattle.commands.specs.declared.Command.TheVariants.{LoopBegin, LoopEnd, Skip, Jump, Plain}
use Rattle.commands.specs.declared.Read.{Read}
use Rattle.commands.specs.declared.Read.TheVariants.{At, Bad, End}
use Rattle.commands.specs.Reading.{fault, read_at}
use Rattle.commands.proofs.ReadingLaws.{read_step}
use Rattle.lines.specs.Texts.{Reading, commands, faulty, Placed, placed, unplaced, before, goes_on_lem, reading_from, structured, skippable, rest, fault_places, stored_places, judged_places, judged, line_judged, storable, stored_by, stored_judged, most_open}
use Rattle.lines.specs.Loops.{open_after, Enclosed, start, next, scan_to, enclosing, Checked, Skippable, Lawful}
use Rattle.lines.proofs.PlaceLaws.{nowhere, nil-none, places-none, stored-none}
use Rattle.lines.proofs.TextLaws.{reading_law}

-- ---- what is left of a checked text at a place

-- the text reads from here to its end, and its structure holds with so many loops open
pub record Rest (t : List ℕ) (at depth : ℕ) : Type 0 where
  pub left : List Placed
  pub reads : reading_from t at ≡ commands left
  pub holds : structured depth (unplaced left) ≡ true

-- what passes has no faulty place
pub passes : (places : List Placed → List ℕ) (r : Reading) → judged places r ≡ Ok tt → (cs : List Placed) × (r ≡ commands cs) × (nowhere (places cs) ≡ true)
passes places (commands cs) e = (cs, refl, go (places cs) e)
  where
    go : (ps : List ℕ) → judged_places ps ≡ Ok tt → nowhere ps ≡ true
    go [] k = refl
    go (p ∷ ps) k = let z : ◌≡◌ {A = ℕ} 0 1 = cc in absurd (omega arith)
passes places (faulty f) e = let z : ◌≡◌ {A = ℕ} 0 1 = cc in absurd (omega arith)

-- a line's commands, a store's
pub line-passes : (t : List ℕ) → line_judged t ≡ Ok tt → (cs : List Placed) × (reading_from t 0 ≡ commands cs) × (structured 0 (unplaced cs) ≡ true)
unfolding line_judged
line-passes t e = let p = passes (fault_places []) (reading_from t 0) e in (p.0, p.1, sym (places-none [] p.0) ∙ p.2)

pub stored-passes : (run : Bool) (t : List ℕ) → stored_judged run t ≡ Ok tt → (cs : List Placed) × (reading_from t 0 ≡ commands cs) × ((storable (unplaced cs) && run) ≡ true)
unfolding stored_by
stored-passes run t e =
    let p = passes (stored_places run (length t)) (reading_from t 0) e in (p.0, p.1, sym (stored-none run (length t) p.0) ∙ p.2)

-- "the check for stored text" is stricter than a line's
pub stored-checked : (run : Bool) (t : List ℕ) → stored_judged run t ≡ Ok tt → Checked t
unfolding line_judged
stored-checked run t e =
    let p = stored-passes run t e in
    let h = ((and-eq-true_iff (storable (unplaced p.0)) run).0 p.2).0 in
    let k = (and-eq-true_iff (structured 0 (unplaced p.0)) _).0 h in
    rw (p.1, nil-none (fault_places [] p.0) (places-none [] p.0 ∙ k.0))

-- how many loops are open behind a command
abbrev deeper : Command → ℕ → ℕ
deeper LoopBegin d = d + 1
deeper (LoopEnd m) d = d - 1
deeper (Skip m) d = d
deeper (Jump m) d = d
deeper (Plain a) d = d

deeper_after : (c : Command) (n : ℕ) (st : List ℕ) → deeper c (length st) ≡ length (open_after c n st)
deeper_after LoopBegin n st = omega arith
deeper_after (LoopEnd m) n [] = refl
deeper_after (LoopEnd m) n (x ∷ xs) = omega arith
deeper_after (Skip m) n st = refl
deeper_after (Jump m) n st = refl
deeper_after (Plain a) n st = refl

-- what the structure asks of a command, and what it leaves
abbrev Allows : ℕ → Command → List Command → Type 0
Allows d LoopBegin cs = d < most_open
Allows d (LoopEnd m) cs = 0 < d
Allows d (Skip m) cs = skippable cs ≡ true
Allows d (Jump m) cs = Unit
Allows d (Plain a) cs = Unit

structure_next : (d : ℕ) (c : Command) (cs : List Command) → structured d (c ∷ cs) ≡ true → Allows d c cs × (structured (deeper c d) cs ≡ true)
unfolding structured
structure_next d LoopBegin cs e = let h = (and-eq-true_iff (ltb d most_open) _).0 e in (ltb-true _ _ h.0, h.1)
structure_next d (LoopEnd m) cs e = let h = (and-eq-true_iff (ltb 0 d) _).0 e in (ltb-true _ _ h.0, h.1)
structure_next d (Skip m) cs e = (and-eq-true_iff (skippable cs) _).0 e
structure_next d (Jump m) cs e = (tt, e)
structure_next d (Plain a) cs e = (tt, e)

-- one command taken from what is left
pub before_is : (c : Placed) (r : Reading) (cs : List Placed) → before c r ≡ commands cs → (ds : List Placed) × (r ≡ commands ds) × (cs ≡ c ∷ ds)
before_is c (commands ds) cs e = let q : c ∷ ds ≡ cs = cc in (ds, refl, sym q)
before_is c (faulty f) cs e = let z : ◌≡◌ {A = ℕ} 0 1 = cc in absurd (omega arith)

pub record Taken-from (t : List ℕ) (depth n : ℕ) (c : Command) : Type 0 where
  pub more : List Placed
  pub reads : reading_from t n ≡ commands more
  pub allows : Allows depth c (unplaced more)
  pub holds : structured (deeper c depth) (unplaced more) ≡ true

take-one : {t : List ℕ} {at depth : ℕ} {c : Command} {n : ℕ} → Rest t at depth → read_at t at ≡ At c n → Taken-from t depth n c
unfolding unplaced
take-one {t} {at} {depth} {c} {n} r e =
    let p = before_is (placed (at + 1) c) (reading_from t n) r.left (sym (reading_law t at ∙ rw e) ∙ r.reads) in
    let h = structure_next depth c (unplaced p.0) (rw p.2 at r.holds) in
    record { more = p.0; reads = p.1; allows = h.0; holds = h.1 }

pub rest_at : {t : List ℕ} {at : ℕ} {st : List ℕ} → Checked t → Enclosed t at st → Rest t at (length st)
rest_at {t} h start = let p = line-passes t h in record { left = p.0; reads = p.1; holds = p.2 }
rest_at {t} h (next {at = a} {starts = s} c n p e) =
    let q = take-one (rest_at h p) e in
    record { left = q.more; reads = q.reads; holds = rw (deeper_after c n s) at q.holds }

-- what may be skipped stands there
skip-lawful : (t : List ℕ) (n : ℕ) (cs : List Placed) → reading_from t n ≡ commands cs → skippable (unplaced cs) ≡ true → Skippable (read_at t n)
unfolding unplaced
skip-lawful t n cs e s = go (read_at t n) (sym (reading_law t n) ∙ e) s
  where
    no : {A : Type 0} → false ≡ true → A
    no q = let z : ◌≡◌ {A = ℕ} 0 1 = cc in absurd (omega arith)

    with_one : (c : Command) (m : ℕ) (ds : List Placed) → before (placed (n + 1) c) (reading_from t m) ≡ commands ds → skippable (unplaced ds) ≡ true → Skippable (At c m)
    with_one c m ds q k = let p = before_is (placed (n + 1) c) (reading_from t m) ds q in kind c (unplaced p.0) (rw p.2 at k)
      where
        kind : (d : Command) (more : List Command) → skippable (d ∷ more) ≡ true → Skippable (At d m)
        kind LoopBegin more k = no k
        kind (LoopEnd i) more k = no k
        kind (Skip i) more k = tt
        kind (Jump i) more k = tt
        kind (Plain a) more k = tt

    go : (r : Read) → goes_on_lem n r (λ m. reading_from t m) ≡ commands cs → skippable (unplaced cs) ≡ true → Skippable r
    go (At c m) q k = with_one c m cs q k
    go (Bad x p) q k = let z : ◌≡◌ {A = ℕ} 0 1 = cc in absurd (omega arith)
    go End q k = let w : cs ≡ [] = cc in no (rw w at k)

-- every place that is reached is a command's or the end, and what stands there is lawful
pub lawful : {t : List ℕ} {at : ℕ} {st : List ℕ} → Checked t → Enclosed t at st → Lawful t (length st) (read_at t at)
unfolding structured unplaced
lawful {t} {at} {st} h p = go (read_at t at) refl (rest_at h p)
  where
    kind : (c : Command) (n : ℕ) → Taken-from t (length st) n c → Lawful t (length st) (At c n)
    kind LoopBegin n q = q.allows
    kind (LoopEnd m) n q = q.allows
    kind (Skip m) n q = skip-lawful t n q.more q.reads q.allows
    kind (Jump m) n q = tt
    kind (Plain a) n q = tt

    ended : (cs : List Placed) → commands [] ≡ commands cs → structured (length st) (unplaced cs) ≡ true → length st ≡ 0
    ended [] e s = eqb-true (length st) 0 s
    ended (c ∷ cs) e s = let z : ◌≡◌ {A = ℕ} 0 1 = cc in absurd (omega arith)

    go : (r : Read) → read_at t at ≡ r → Rest t at (length st) → Lawful t (length st) r
    go (At c n) e q = kind c n (take-one q e)
    go (Bad x p) e q = let w : faulty (fault x p) ≡ commands q.left = sym (reading_law t at ∙ rw e) ∙ q.reads in let z : ◌≡◌ {A = ℕ} 0 1 = cc in absurd (omega arith)
    go End e q = ended q.left (sym (reading_law t at ∙ rw e) ∙ q.reads) q.holds

-- "at most four open"
pub at_most-four : {t : List ℕ} {at : ℕ} {st : List ℕ} → Checked t → Enclosed t at st → length st ≤ most_open
at_most-four h start = omega arith
at_most-four {t} h (next {at = a} {starts = s} c n p e) = go c (rw e at (lawful h p)) (at_most-four h p)
  where
    go : (c : Command) → Lawful t (length s) (At c n) → length s ≤ most_open → length (open_after c n s) ≤ most_open
    go LoopBegin q l = omega arith
    go (LoopEnd m) q l = let z = deeper_after (LoopEnd m) n s in omega arith
    go (Skip m) q l = l
    go (Jump m) q l = l
    go (Plain b) q l = l

-- the start of each open loop is a place where that loop and those around it are open
abbrev pub Backs : List ℕ → List ℕ → Type 0
Backs t [] = Unit
Backs t (s ∷ outer) = Enclosed t s (s ∷ outer) × Backs t outer

pub backs : {t : List ℕ} {at : ℕ} {st : List ℕ} → Enclosed t at st → Backs t st
backs start = tt
backs (next LoopBegin n p e) = (next LoopBegin n p e, backs p)
backs {t} (next {starts = s} (LoopEnd m) n p e) = outer s (backs p)
  where
    outer : (xs : List ℕ) → Backs t xs → Backs t (rest xs)
    outer [] y = tt
    outer (x ∷ xs) y = y.1
backs (next (Skip m) n p e) = backs p
backs (next (Jump m) n p e) = backs p
backs (next (Plain a) n p e) = backs p

-- ---- the relation is the function `enclosing`

scan_at : {t : List ℕ} {at : ℕ} {st : List ℕ} → Enclosed t at st → (to : ℕ) → at ≤ to → (k : ℕ) × (to ≤ at + k) × (enclosing t to ≡ scan_to k t to at st)
unfolding enclosing scan_to
scan_at start to l = (to, omega arith, refl)
scan_at {t} (next {at = a} {starts = s} c n p e) to l =
    let lt = read_step t a e in
    let q = scan_at p to (omega arith) in
    go q.0 q.1 q.2 lt.0
  where
    go : (k : ℕ) → to ≤ a + k → enclosing t to ≡ scan_to k t to a s → a < n → (j : ℕ) × (to ≤ n + j) × (enclosing t to ≡ scan_to j t to n (open_after c n s))
    go zero w r lt = absurd (omega arith)
    go (suc j) w r lt = (j, omega arith, r ∙ rw (ne_eqb a to (omega arith), e))

pub enclosed_by : {t : List ℕ} {at : ℕ} {st : List ℕ} → Enclosed t at st → st ≡ enclosing t at
unfolding scan_to
enclosed_by {t} {at} {st} p = let q = scan_at p at (omega arith) in sym (q.2 ∙ go q.0)
  where
    go : (k : ℕ) → scan_to k t at at st ≡ st
    go zero = refl
    go (suc k) = rw (eq-eqb at at refl)
