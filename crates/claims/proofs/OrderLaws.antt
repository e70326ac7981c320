-- "Order of checks for a frame": what is obeyed has its tests in this order, and each kind of body has its code.
-- Assumes nothing.
use Rattle.std.specs.Prelude.{Result, Ok, Err}
use Prim.Native.Nat.{ℕ, zero, suc, ◌+◌, ◌≤◌, ◌<◌}
use mathlib.Core.Path.{◌≡◌, refl, subst}
use mathlib.Core.List.{List, [], ◌∷◌}
use mathlib.Core.Bool.{Bool, true, false, cond, not, ◌&&◌, ◌||◌, and-false}
use native.Mathlib.Omega.{arith}
use native.Mathlib.Decide.{dec_lt}
use lib.ListN.{length}
use lib.Dec.{ltb, eqb}
use borrow.Author.Tests.{ltb-true, ltb-false, lt-ltb, le-ltb, eqb-true, eqb-false, ne_eqb, not-true}
use Rattle.parts.specs.Parts.{same, most_bytes}
use Rattle.parts.proofs.Laws.{cases}
use Rattle.digits.proofs.Writing.{length_most}
use Rattle.commands.specs.declared.Fault.{Fault}
use Rattle.commands.specs.Reading.{fault}
use Rattle.commands.specs.Table as table
use Rattle.commands.proofs.TableLaws.{each, each-one}
use Rattle.lines.specs.declared.Immediate.{Immediate}
use Rattle.lines.specs.declared.Immediate.TheVariants.{Terminate, Status, CurrentText, Position, Speed, Sample, EndlessSpeed, StepSize, Correction, Clear}
use Rattle.lines.specs.declared.Body.{Body}
use Rattle.lines.specs.declared.Taken.{Taken}
use Rattle.lines.specs.Bodies.{immediates, immediate_in, begins_immediate, other_of, body_of, line_of, no_fault, taken_fault, body_fault, line_fault, line_code_lem}
use Rattle.lines.specs.Claims.{PlacedIn}
use Rattle.lines.proofs.CodeLaws.{TakenCode, taken-code, codes}
use Rattle.lines.proofs.FaultLaws.{place-there, place_none, place-most}
use Rattle.motor.specs.Motion.{waits_input, is_endless}
use Rattle.turns.specs.declared.Core.{Core}
use Rattle.turns.specs.Turns.{with_endless}
use Rattle.obeying.specs.Speed.{speed_line, speed_in}
use Rattle.obeying.specs.declared.Tell.{Tell}
use Rattle.obeying.specs.declared.Write.{Write}
use Rattle.obeying.specs.declared.Obeyed.{Obeyed}
use Rattle.obeying.specs.Obeying as obeying
use Rattle.obeying.proofs.DeedLaws.{too_long}
use Rattle.claims.specs.Order.{immediate, resuming, on_the_way, fault_in_order}
use Rattle.claims.specs.Demand1.{place_data, OrderRow}
use Rattle.claims.proofs.ImmediateLaws.{by_immediate, only-empty}
use Rattle.claims.proofs.WayLaws.{speedy_is, no_way}

-- a row of the order, for any fault and obeying
record Right (c : Core) (f : Fault) (o : Obeyed) : Type 0 where
  codes : table.one_of (0 ∷ 2 ∷ 3 ∷ 15 ∷ []) f.code ≡ true
  refused : (f.code ≡ 0 → ⊥) → o ≡ obeying.refused_at f c
  held : f.code ≡ 0 → o.code ≡ o.core.code

-- the fault of a body that is no longer than 256 bytes: by what it begins with, whether it is immediate or resuming, and its kind
abbrev fault_for : (begins immediate running resuming : Bool) → Fault → Fault
fault_for begins immediate running resuming f =
    cond (begins && not immediate) (fault 2 1) (cond (running && not (immediate || resuming)) (fault 15 0) f)

module _ (c : Core) where
  -- a refusal with a code of 01: nothing is changed
  refuses : (f : Fault) → table.one_of (2 ∷ 3 ∷ 15 ∷ []) f.code ≡ true → Right c f (obeying.refused_at f c)
  unfolding table.one_of each
  refuses f e =
      let some : not (eqb f.code 0) ≡ true = each-one (λ n. not (eqb n 0)) (2 ∷ 3 ∷ 15 ∷ []) f.code refl e in
      record {
        codes = each-one (table.one_of (0 ∷ 2 ∷ 3 ∷ 15 ∷ [])) (2 ∷ 3 ∷ 15 ∷ []) f.code refl e;
        refused = λ n. refl;
        held = λ z. absurd (eqb-false f.code 0 (not-true _ some) z);
      }

  -- whatever carries the held code
  obeys : (tell : Tell) (write : Write) (d : Core) → Right c no_fault (obeying.obeyed d d.code tell write)
  unfolding table.one_of
  obeys tell write d = record {
    codes = refl;
    refused = λ n. absurd (n refl);
    held = λ z. refl;
  }

  -- "running .. (15)"
  busy : Right c (fault 15 0) (obeying.refused obeying.busy c)
  unfolding table.one_of
  busy = refuses (fault 15 0) refl

  -- each kind of body
  immediate_right : (i : Immediate) → Right c no_fault (obeying.immediate_obeyed i c)
  immediate_right Terminate = obeys Tell.Nothing Write.Nothing (obeying.terminated c)
  immediate_right Status = obeys Tell.Nothing Write.Nothing c
  immediate_right CurrentText = obeys Tell.Text Write.Nothing c
  immediate_right Position = obeys (Tell.Number _) Write.Nothing c
  immediate_right Speed = obeys (Tell.Number _) Write.Nothing c
  immediate_right Sample = obeys (Tell.Number _) Write.Nothing c
  immediate_right EndlessSpeed = obeys (Tell.Number _) Write.Nothing c
  immediate_right StepSize = obeys (Tell.Number _) Write.Nothing c
  immediate_right Correction = obeys (Tell.Number _) Write.Nothing c
  immediate_right Clear = obeys Tell.Nothing Write.Clear c

  line_right : (t : Result Taken Fault) → TakenCode t → Right c (taken_fault t) (obeying.line_obeyed t c)
  unfolding table.one_of each
  line_right (Err f) e = refuses f (each-one (table.one_of (2 ∷ 3 ∷ 15 ∷ [])) (2 ∷ 3 ∷ []) f.code refl e)
  line_right (Ok (Taken.Line n run)) e = obeys Tell.Nothing (Write.Text n) _
  line_right (Ok (Taken.Store slot at n)) e = obeys Tell.Nothing (Write.Store slot at n) c

  -- something obeyed, where a fault with the code 0 is told
  obeys_at : (f : Fault) → f.code ≡ 0 → (tell : Tell) (write : Write) (d : Core) → Right c f (obeying.obeyed d d.code tell write)
  unfolding table.one_of
  obeys_at f z tell write d = record { codes = rw z refl; refused = λ n. absurd (n z); held = λ k. refl }

  -- 02, E3: such a line on the way has the code that an idle unit gives it
  speed_right : (b : List ℕ) → Right c (line_fault b) (obeying.speed_obeyed b c)
  unfolding table.one_of each line_code_lem
  speed_right b =
      cases (λ (o : Obeyed). Right c (line_fault b) o) (eqb (line_fault b).code 0)
      (λ z. obeys_at (line_fault b) (eqb-true (line_fault b).code 0 z) Tell.Nothing Write.Nothing (with_endless (speed_in b) c))
      (λ z. refuses (line_fault b) (each-one (table.one_of (2 ∷ 3 ∷ 15 ∷ [])) (2 ∷ 3 ∷ []) (line_fault b).code refl (rw z at (codes b))))

  -- a line, then `R` and `X` alone: while running and when idle
  line-or-busy : (running way : Bool) {f : Fault} {o s : Obeyed} → Right c f o → Right c f s
      → Right c (fault_for false false running way f) (cond running (cond way s (obeying.refused obeying.busy c)) o)
  line-or-busy true true h k = k
  line-or-busy true false h k = busy
  line-or-busy false way h k = h

  run_right : (running waits : Bool) (d e : Core)
      → Right c (fault_for false false running (waits || false) no_fault)
      (cond running (cond waits (obeying.silent d) (obeying.refused obeying.busy c)) (obeying.silent e))
  run_right true true d e = obeys Tell.Nothing Write.Nothing d
  run_right true false d e = busy
  run_right false waits d e = obeys Tell.Nothing Write.Nothing e

  again_right : (running : Bool) (d : Core)
      → Right c (fault_for false false running false no_fault) (cond running (obeying.refused obeying.busy c) (obeying.silent d))
  again_right true d = busy
  again_right false d = obeys Tell.Nothing Write.Nothing d

  module _ (b : List ℕ) where
    -- a body of a kind, by what it begins with, whether it is immediate and whether it resumes
    abbrev AsKind : (begins immediate resuming : Bool) → Result Body Fault → Type 0
    AsKind begins immediate resuming k =
        Right c (fault_for begins immediate c.running resuming (body_fault k b)) (obeying.kind_obeyed k b c)

    -- a body that begins with `T Q $ ?`, and any other
    begins_right : begins_immediate b ≡ true → AsKind true (immediate b) (resuming c b || on_the_way c b) (immediate_in immediates b)
    unfolding table.one_of
    begins_right e =
        by_immediate (λ m k. AsKind true m (resuming c b || on_the_way c b) k) b e (λ i. rw (and-false c.running) (immediate_right i)) (refuses (fault 2 1) refl)

    other_right : length b ≤ most_bytes → begins_immediate b ≡ false
        → AsKind false (same b []) ((same b (82 ∷ []) && waits_input c.motor.wait) || on_the_way c b) (other_of b)
    unfolding line_of line_fault body_of on_the_way
    other_right h f = go (same b []) (same b (82 ∷ [])) (same b (88 ∷ [])) refl refl refl
      where
        go : (e r x : Bool) → same b [] ≡ e → same b (82 ∷ []) ≡ r → same b (88 ∷ []) ≡ x
            → AsKind false e ((r && waits_input c.motor.wait) || on_the_way c b) (cond e (Ok Body.Empty) (cond r (Ok Body.Run) (cond x (Ok Body.Again) (Ok Body.Line))))
        go true r x p q s = rw (and-false c.running) (obeys Tell.Nothing Write.Nothing c)
        go false true x p q s = rw (no_way c b 82 q refl) (run_right c.running (waits_input c.motor.wait) _ _)
        go false false true p q s = rw (no_way c b 88 s refl) (again_right c.running _)
        go false false false p q s =
            let same-fault : line_fault b ≡ taken_fault (line_of b) = rw (le-ltb most_bytes (length b) h, f, p, q, s) in
            rw (speedy_is b)
            (line-or-busy c.running (is_endless c.motor.wait && speed_line b) (line_right (line_of b) (taken-code _ _))
            (subst (λ (k : Fault). Right c k (obeying.speed_obeyed b c)) same-fault (speed_right b)))

    -- "body over 256 bytes" is told before the body is looked at, and of no other
    body_right : length b ≤ most_bytes → AsKind (begins_immediate b) (immediate b) (resuming c b || on_the_way c b) (body_of b)
    unfolding body_of resuming
    body_right h = rw (le-ltb most_bytes (length b) h) (go (begins_immediate b) refl)
      where
        go : (t : Bool) → begins_immediate b ≡ t → AsKind t (immediate b) (resuming c b || on_the_way c b) (cond t (immediate_in immediates b) (other_of b))
        go true e = begins_right e
        go false e = rw (only-empty b e) (other_right h e)

  -- where each body of at most 256 bytes has its code, every body has it
  any_right : (b : List ℕ) → (length b ≤ most_bytes → AsKind b (begins_immediate b) (immediate b) (resuming c b || on_the_way c b) (body_of b))
      → Right c (fault_in_order b c) (obeying.body_obeyed b c)
  unfolding fault_in_order obeying.body_obeyed line_fault table.one_of
  any_right b h = go (ltb most_bytes (length b)) refl
    where
      go : (t : Bool) → ltb most_bytes (length b) ≡ t
          → Right c (cond t (fault 2 0) (fault_for (begins_immediate b) (immediate b) c.running (resuming c b || on_the_way c b) (line_fault b))) (obeying.body_obeyed b c)
      go true e = rw (too_long b (ltb-true most_bytes (length b) e)) (refuses (fault 2 0) refl)
      go false e = h (ltb-false most_bytes (length b) e)

-- ---- the place

-- a fault that is told with 2 or 3 has a place of n bytes or the one behind them; any other has none
record Placed (n : ℕ) (f : Fault) : Type 0 where
  inside : table.one_of (2 ∷ 3 ∷ []) f.code ≡ true → PlacedIn n f
  nowhere : table.one_of (2 ∷ 3 ∷ []) f.code ≡ false → f.place ≡ 0

-- a body that is taken has no place, one that is refused has one
line-placed : (b : List ℕ) → length b ≤ most_bytes → Placed (length b) (line_fault b)
unfolding line_code_lem table.one_of each
line-placed b m = record {
  inside = λ e. place-there b m (λ z. some-code (line_code_lem b) e z);
  nowhere = λ e. place_none b (no_code (line_code_lem b) (codes b) e);
}
  where
    some-code : (k : ℕ) → table.one_of (2 ∷ 3 ∷ []) k ≡ true → k ≡ 0 → ⊥
    some-code k h e = let y = rw e at h in let w : ◌≡◌ {A = ℕ} 0 1 = cc in omega arith

    no_code : (k : ℕ) → table.one_of (0 ∷ 2 ∷ 3 ∷ []) k ≡ true → table.one_of (2 ∷ 3 ∷ []) k ≡ false → k ≡ 0
    no_code k h e = eqb-true k 0 (left (eqb k 0) (rw e at h))
      where
        left : (t : Bool) → (t || false) ≡ true → t ≡ true
        left true q = refl
        left false q = q

order-placed : (b : List ℕ) (c : Core) → length b ≤ most_bytes → Placed (length b) (fault_in_order b c)
unfolding fault_in_order table.one_of
order-placed b c m =
    rw (le-ltb most_bytes (length b) m)
    (cases (Placed (length b)) (begins_immediate b && not (immediate b))
    (λ e. record { inside = λ k. record { first = omega arith; last = omega arith }; nowhere = λ k. let w : ◌≡◌ {A = ℕ} 0 1 = cc in absurd (omega arith) })
    (λ e. cases (Placed (length b)) (c.running && not (immediate b || (resuming c b || on_the_way c b)))
    (λ q. record { inside = λ k. let w : ◌≡◌ {A = ℕ} 0 1 = cc in absurd (omega arith); nowhere = λ k. refl })
    (λ q. line-placed b m)))

-- an over-long body has none
order-long : (b : List ℕ) (c : Core) → most_bytes < length b → (fault_in_order b c).place ≡ 0
unfolding fault_in_order
order-long b c l = rw (lt-ltb most_bytes (length b) l)

order_nowhere : (b : List ℕ) (c : Core) → table.one_of (2 ∷ 3 ∷ []) (fault_in_order b c).code ≡ false → (fault_in_order b c).place ≡ 0
order_nowhere b c e = go (dec_lt most_bytes (length b))
  where
    go : Dec (most_bytes < length b) → (fault_in_order b c).place ≡ 0
    go (yes l) = order-long b c l
    go (no n) = (order-placed b c (omega arith)).nowhere e

-- 257 has three digits
place_digits : (p : ℕ) → p ≤ most_bytes + 1 → length (place_data p) ≤ 3
place_digits zero h = omega arith
place_digits (suc p) h = rw (ne_eqb (suc p) 0 (λ e. omega arith)) (length_most 3 (suc p) (omega arith) (omega arith))

order-most : (b : List ℕ) (c : Core) → (fault_in_order b c).place ≤ most_bytes + 1
unfolding fault_in_order
order-most b c =
    cases Most (ltb most_bytes (length b)) (λ e. omega arith)
    (λ e. cases Most (begins_immediate b && not (immediate b)) (λ q. omega arith)
    (λ q. cases Most (c.running && not (immediate b || (resuming c b || on_the_way c b))) (λ r. omega arith) (λ r. place-most b)))
  where
    Most : Fault → Type 0
    Most f = f.place ≤ most_bytes + 1

-- every body gets the code that the order names, and the place
pub order_row : (b : List ℕ) (c : Core) → OrderRow b c
order_row b c =
    let h = any_right c b (body_right c b) in
    record {
      codes = h.codes;
      refused = h.refused;
      placed = λ m e. (order-placed b c m).inside e;
      no_place = order_nowhere b c;
      three_digits = place_digits (fault_in_order b c).place (order-most b c);
      held = h.held;
    }
