-- The count by name: what is not counted is what the letters say, and the tests come in their order. Assumes nothing.
use Prim.Native.Nat.{ℕ}
use mathlib.Core.Path.{◌≡◌, refl, sym}
use mathlib.Core.List.{List, [], ◌∷◌}
use mathlib.Core.Bool.{Bool, true, false, ◌||◌, false≢true}
use lib.ListN.{length}
use borrow.Author.Tests.{le-leb, lt-leb, eq-eqb, ne_eqb, eqb-true}
use Rattle.commands.specs.declared.Command.{Command}
use Rattle.commands.specs.declared.Command.TheVariants.{LoopBegin, LoopEnd, Skip, Jump, Plain}
use Rattle.commands.specs.declared.Act.{Act}
use Rattle.commands.specs.declared.Act.TheVariants.{MoveTo, MoveUp, MoveDown, SetPosition, Home, Set, Delay, WaitInput}
use Rattle.commands.specs.Table.{table, find, command_of}
use Rattle.lines.specs.Bodies.{line_code_lem}
use Rattle.courses.specs.Meaning.{unrolled, cost, course_in, commands_in}
use Rattle.courses.proofs.SteadyLaws.{costs}
use Rattle.forecast.specs.Count.{barred_act, barred, any_barred, count_text, body_text, count_of}
use Rattle.claims.specs.Counts.{NotCounted, jump, skip, wait, loop-0, up_0, down_0, AnyNotCounted, first, later, CountRow}

-- ---- the letters

barred_so : {d : Command} → NotCounted d → barred d ≡ true
unfolding command_of table find
barred_so (jump n) = refl
barred_so (skip n) = refl
barred_so (wait n) = refl
barred_so loop-0 = refl
barred_so up_0 = refl
barred_so down_0 = refl

so_act : (a : Act) → barred_act a ≡ true → NotCounted (Plain a)
unfolding command_of table find
so_act (MoveTo n) e = absurd (false≢true e)
so_act (MoveUp n) e = rw (eqb-true n 0 e) up_0
so_act (MoveDown n) e = rw (eqb-true n 0 e) down_0
so_act (SetPosition n) e = absurd (false≢true e)
so_act (Home n) e = absurd (false≢true e)
so_act (Set s n) e = absurd (false≢true e)
so_act (Delay n) e = absurd (false≢true e)
so_act (WaitInput n) e = wait n

so_barred : (d : Command) → barred d ≡ true → NotCounted d
unfolding command_of table find
so_barred LoopBegin e = absurd (false≢true e)
so_barred (LoopEnd n) e = rw (eqb-true n 0 e) loop-0
so_barred (Skip n) e = skip n
so_barred (Jump n) e = jump n
so_barred (Plain a) e = so_act a e

some_so : {ds : List Command} → AnyNotCounted ds → any_barred ds ≡ true
unfolding any_barred
some_so (first u) = rw (barred_so u)
some_so {ds = d ∷ ds} (later s) = rw (some_so s) (or-true (barred d))
  where
    or-true : (b : Bool) → (b || true) ≡ true
    or-true true = refl
    or-true false = refl

so_some : (ds : List Command) → any_barred ds ≡ true → AnyNotCounted ds
unfolding any_barred
so_some [] e = absurd (false≢true e)
so_some (d ∷ ds) e = go (barred d) refl e (so_some ds)
  where
    go : (b : Bool) → barred d ≡ b → (b || any_barred ds) ≡ true → (any_barred ds ≡ true → AnyNotCounted ds) → AnyNotCounted (d ∷ ds)
    go true f g rest = first (so_barred d f)
    go false f g rest = later (rest g)

none_so : (ds : List Command) → (AnyNotCounted ds → ⊥) → any_barred ds ≡ false
none_so ds n = go (any_barred ds) refl
  where
    go : (b : Bool) → any_barred ds ≡ b → b ≡ false
    go true e = absurd (n (so_some ds e))
    go false e = refl

-- ---- the row

pub count-row : (b : List ℕ) → CountRow b
unfolding count_of count_text commands_in line_code_lem
count-row b =
    let k : ℕ = length (unrolled (course_in (body_text b))) in
    let long : cost (course_in (body_text b)) ≡ k = sym (costs (course_in (body_text b))) in
    record {
      refused = λ n. rw (ne_eqb (line_code_lem b) 0 n) (refl, refl);
      letter = λ ds z r s. rw (eq-eqb (line_code_lem b) 0 z, r, some_so s);
      too_many = λ ds z r n l. rw (eq-eqb (line_code_lem b) 0 z, r, none_so ds n, long, lt-leb k 9223372036854775807 l);
      counted = λ ds z r n l. rw (eq-eqb (line_code_lem b) 0 z, r, none_so ds n, long, le-leb k 9223372036854775807 l) (refl, refl);
    }
