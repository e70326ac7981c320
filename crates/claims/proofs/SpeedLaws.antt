-- The endless speed is set by such a line on the way and by a `P0` or `D0` that is taken, and by no other deed. Assumes nothing.
use Rattle.commands.specs.declared.Fault.{Fault}
use Rattle.motor.specs.declared.stops.Stop.{Stop}
use Rattle.std.specs.Prelude.{Result, Ok, Err, Option, Some, None}
use Prim.Native.Nat.{ℕ, ◌+◌, ◌-◌, ◌≤◌}
use mathlib.Core.Path.{◌≡◌, refl, sym, ap, subst, ◌∙◌}
use mathlib.Core.List.{List, [], ◌∷◌}
use mathlib.Core.Bool.{Bool, true, false, cond, and-eq-true_iff, false≢true}
use native.Mathlib.Omega.{arith}
use lib.ListN.{length, replicate, length-append, length-replicate}
use lib.Seq.{get_or_at}
use lib.Dec.{leb, eqb}
use borrow.Author.Tests.{leb-true, le-leb, le-ltb, eq-eqb, eqb-true}
use Rattle.parts.specs.Parts.{same, most_bytes}
use Rattle.parts.proofs.Laws.{cases}
use Rattle.parts.specs.Letters.{bytes}
use Rattle.digits.specs.declared.Operand.TheVariants.{Number}
use Rattle.digits.specs.Operand.{digit_run, widest, operand_at, operand_most, operand_up_to}
use Rattle.digits.specs.Decimal.{decimal}
use Rattle.digits.specs.ReadBack.{spelling}
use Rattle.digits.proofs.ReadBack.{read_back, read_limited}
use Rattle.commands.specs.declared.Command.{Command}
use Rattle.commands.specs.declared.Command.TheVariants.{LoopBegin, LoopEnd, Skip, Jump, Plain}
use Rattle.commands.specs.declared.Act.{Act}
use Rattle.commands.specs.declared.Act.TheVariants.{MoveTo, MoveUp, MoveDown, SetPosition, Home, Set, Delay, WaitInput}
use Rattle.commands.specs.declared.Setting.TheVariants.{TopSpeed}
use Rattle.commands.specs.declared.Read.{Read}
use Rattle.commands.specs.declared.Read.TheVariants.{At, Bad, End}
use Rattle.commands.specs.Table.{one_of, table, find, asks_of, command_of, within}
use Rattle.commands.specs.Reading.{read_at}
use Rattle.commands.specs.Writing.{in_range}
use Rattle.lines.specs.declared.Body.{Body}
use Rattle.lines.specs.Bodies.{body_of, ends_with_r, body_fault, line_fault}
use Rattle.image.specs.Image.{slot_good}
use Rattle.flow.specs.declared.Flow.{Flow}
use Rattle.flow.specs.Flow.{gone, loop_begun, loop_ended}
use Rattle.motor.specs.declared.Wait.{Wait}
use Rattle.motor.specs.declared.Motor.{Motor}
use Rattle.motor.specs.Inputs.{level_there}
use Rattle.motor.specs.Motion.{is_free, is_endless, reported, relative, absolute, if_known, served, Moved}
use Rattle.turns.specs.declared.Core.{Core}
use Rattle.turns.specs.declared.Stepped.{Stepped}
use Rattle.turns.specs.Turns.{with_flow, with_motor, with_endless, started, ended, astray, moved, speed_after, acted, flowed, skipped, jumped, skip_taken, command_taken, read_taken, step_of, turn_core}
use Rattle.turns.specs.Ends.{Reads}
use Rattle.turns.proofs.TurnLaws.{at_command, at_wait}
use Rattle.obeying.specs.declared.Obeyed.{Obeyed}
use Rattle.obeying.specs.Speed.{speed_line, operand_end}
use Rattle.obeying.specs.Obeying.{loaded_as, refused, silent, body_obeyed}
use Rattle.obeying.specs.Deeds.{Speeds, Obeys, refuses, tells, stores, clears, stops, resumes, speeds, again, loads}
use Rattle.obeying.proofs.SpeedLaws.{speed-code}
use Rattle.drive.specs.Unit.{Drive}
use Rattle.drive.specs.Calls.{received_by, body_by, Turning}
use Rattle.drive.proofs.FeedLaws.{frame-does}
use Rattle.keeping.proofs.TurnLaws.{free}
use Rattle.runs.specs.Reach.{Call, feed, turn, after, text_of}
use Rattle.runs.specs.Causes.{Made}
use Rattle.runs.proofs.CallLaws.{Completes, framed, feed-cases, feed-done, turn-cases}
use Rattle.runs.proofs.CommandLaws.{turned}
use Rattle.claims.specs.Bodies.{data_by, Turns-to}
use Rattle.claims.specs.Speed as speed
use Rattle.claims.specs.Speed.{speed_body, OnTheWay, Sped, Relative, SetBy, on_the_way_lem, from_v, Unset, none, more}
use Rattle.claims.proofs.BodyLaws.{turns_to, each-body}

-- ---- such a line on the way

-- an endless move is on
endless-wait : (w : Wait) → is_endless w ≡ true → (up : Bool) × (left : ℕ) × (w ≡ Wait.Move up true left)
endless-wait Wait.Nothing e = absurd (false≢true e)
endless-wait (Wait.Move up true left) e = (up, left, refl)
endless-wait (Wait.Move up false left) e = absurd (false≢true e)
endless-wait (Wait.LegAway left n) e = absurd (false≢true e)
endless-wait (Wait.LegToward left) e = absurd (false≢true e)
endless-wait (Wait.Delay left) e = absurd (false≢true e)
endless-wait (Wait.Input digits) e = absurd (false≢true e)

-- the range of `V`
in-range : (n : ℕ) → in_range (Plain (Set TopSpeed n)) ≡ true → (1 ≤ n) × (n ≤ 16777216)
unfolding in_range within asks_of find table
in-range n e = let p = (and-eq-true_iff (leb 1 n) (leb n 16777216)).0 e in (leb-true 1 n p.0, leb-true n 16777216 p.1)

ranged : (n : ℕ) → 1 ≤ n → n ≤ 16777216 → in_range (Plain (Set TopSpeed n)) ≡ true
unfolding in_range within asks_of find table
ranged n l h = rw (le-leb 1 n l, le-leb n 16777216 h)

way : {c : Core} {n : ℕ} {body : List ℕ} (s : Speeds body c n) → OnTheWay c s.zeros n
way {c} {n} s =
    let w = endless-wait c.motor.wait s.endless in
    let r = in-range n s.in-range in
    record { runs = s.runs; up = w.0; left = w.1; endless = w.2; least = r.0; most = r.1; few = s.few }

is_line : (zeros n : ℕ) → length (speed_body zeros n) ≤ most_bytes → body_of (speed_body zeros n) ≡ Ok Body.Line
unfolding body_of one_of same
is_line zeros n short = rw (le-ltb most_bytes (length (speed_body zeros n)) short)

module _ {c : Core} {zeros n : ℕ} (w : OnTheWay c zeros n) where
  abbrev b : List ℕ
  b = speed_body zeros n

  long : length b ≡ zeros + length (decimal n) + 2
  long = omega (arith, length-append (spelling zeros n) (82 ∷ []), length-append (replicate zeros 48) (decimal n), length-replicate {A = ℕ} zeros 48)

  line : body_of b ≡ Ok Body.Line
  line = is_line zeros n (omega (arith, long, w.few))

  operand : operand_at b 1 ≡ Number n (1 + (zeros + length (decimal n)))
  unfolding digit_run
  operand = read_back b (82 ∷ []) 1 zeros n refl refl ∙ rw (le-leb n widest (omega (arith, w.most)))

  limited : operand_up_to operand_most b 1 ≡ Number n (1 + (zeros + length (decimal n)))
  unfolding digit_run
  limited = read_limited operand_most b (82 ∷ []) 1 zeros n refl refl ∙ rw (le-leb (zeros + length (decimal n)) operand_most w.few, le-leb n widest (omega (arith, w.most)))

  exact : speed_line b ≡ true
  unfolding speed_line ends_with_r
  exact =
      let end : operand_end (operand_at b 1) ≡ length b - 1 = ap operand_end operand ∙ omega (arith, long) in
      let at : length (86 ∷ spelling zeros n) ≡ length b - 1 = omega (arith, length-append (spelling zeros n) (82 ∷ [])) in
      rw (eq-eqb (operand_end (operand_at b 1)) (length b - 1) end) (eq-eqb _ 82 (get_or_at (86 ∷ spelling zeros n) 82 [] 0 (length b - 1) at))

  taken : (line_fault b).code ≡ 0
  unfolding line_fault
  taken = subst (λ (k : Result Body Fault). (body_fault k b).code ≡ 0) (sym line) (speed-code b exact ∙ rw (limited, ranged n w.least w.most))

  pub line-obeyed : body_obeyed b c ≡ silent (with_endless n c)
  unfolding body_obeyed
  line-obeyed = rw (line, w.runs, w.endless, exact, taken, operand)

-- in no other state
pub busy : (c : Core) (zeros n : ℕ) → c.running ≡ true → ((up : Bool) (left : ℕ) → c.motor.wait ≡ Wait.Move up true left → ⊥)
    → length (speed_body zeros n) ≤ most_bytes → body_obeyed (speed_body zeros n) c ≡ refused 15 c
unfolding body_obeyed
busy c zeros n run never short = go (is_endless c.motor.wait) refl
  where
    go : (e : Bool) → is_endless c.motor.wait ≡ e → body_obeyed (speed_body zeros n) c ≡ refused 15 c
    go true e = let w = endless-wait c.motor.wait e in absurd (never w.0 w.1 w.2)
    go false e = rw (is_line zeros n short, run, e)

-- ---- a feed call

module _ (u : Drive) (bytes image buffer : List ℕ) (never : (n : ℕ) → SetBy u (feed bytes image buffer) n → ⊥) where
  obeys_stays : {o : Obeyed} → Completes u bytes image buffer → Obeys (body_by u bytes) u.core o → o.core.endless ≡ u.core.endless
  unfolding ended started loaded_as
  obeys_stays d (refuses f l p) = refl
  obeys_stays d (tells t l) = refl
  obeys_stays d (stores slot at n i l) = refl
  obeys_stays d clears = refl
  obeys_stays d (stops e r) = refl
  obeys_stays d resumes = refl
  obeys_stays d (speeds n s) =
      absurd (never n (on_the_way_lem s.zeros n
      (record { buffer_right = d.buffer_right; image_right = d.image_right; frame-ours = d.frame-ours; body_is = s.whole }) (way s)))
  obeys_stays d (again r) = refl
  obeys_stays d (loads run n r l) = cases (λ (c : Core). c.endless ≡ u.core.endless) run (λ q. refl) (λ q. refl)

  feed-stays : (after (feed bytes image buffer) u).core.endless ≡ u.core.endless
  feed-stays =
      feed-cases u bytes image buffer (λ (text : List ℕ) (c : Core). c.endless ≡ u.core.endless) refl
      (λ d. obeys_stays d (frame-does (received_by u bytes).frame (body_by u bytes) u.core))

-- ---- a turn

moved-endless : (r : Moved) (c : Core) → (moved r c).endless ≡ c.endless
unfolding ended
moved-endless (Ok m) c = refl
moved-endless (Err k) c = refl

-- `P n` or `D n` that sets nothing: n is not 0, or the run stops
after-stays : (n : ℕ) (r : Moved) (c : Core) → (n ≡ 0 → (m : Motor) → r ≡ Ok m → ⊥) → speed_after n r c ≡ c.endless
after-stays n (Ok m) c h = cases (λ (k : ℕ). k ≡ c.endless) (eqb n 0) (λ q. absurd (h (eqb-true n 0 q) m refl)) (λ q. refl)
after-stays n (Err k) c h = refl

known-goes : (m a : Motor) (r : Moved) → if_known m r ≡ Ok a → m.known ≡ true
known-goes m a r = go m.known refl
  where
    go : (k : Bool) → m.known ≡ k → cond m.known r (Err Stop.PositionUnknown) ≡ Ok a → m.known ≡ true
    go true q e = q
    go false q e = let z : Err Stop.PositionUnknown ≡ Ok a = rw q at e in let y : ◌≡◌ {A = ℕ} 0 1 = cc in absurd (omega arith)

module _ (u : Drive) (sample ms steps : ℕ) (image : List ℕ) (m : Made u sample steps image)
    (never : (n : ℕ) → SetBy u (turn sample ms steps image) n → ⊥) where
  abbrev t : List ℕ
  t = text_of u

  abbrev c : Core
  c = u.core

  abbrev then : Core
  then = with_motor (reported sample steps c.motor) c

  abbrev Stays : Core → Type 0
  Stays d = d.endless ≡ c.endless

  relative-stays : (l n next : ℕ) (r : Moved) → Relative l → c.running ≡ true → Reads t c (At (command_of l n) next)
      → speed_after n (if_known then.motor r) (with_flow (gone next c.flow) then) ≡ c.endless
  unfolding reported
  relative-stays l n next r p run e =
      after-stays n (if_known then.motor r) (with_flow (gone next c.flow) then)
      (λ z a g. never c.settings.speed (from_v m run p (next, subst (λ (k : ℕ). Reads t c (At (command_of l k) next)) z e) (known-goes then.motor a r g)))

  act_stays : (a : Act) (next : ℕ) → c.running ≡ true → Reads t c (At (Plain a) next) → Stays (acted a (with_flow (gone next c.flow) then))
  unfolding acted command_of find table
  act_stays (MoveTo n) next run e = moved-endless (if_known then.motor (absolute n then.motor)) (with_flow (gone next c.flow) then)
  act_stays (MoveUp n) next run e = relative-stays 80 n next (relative true n then.motor) speed.up run e
  act_stays (MoveDown n) next run e = relative-stays 68 n next (relative false n then.motor) speed.down run e
  act_stays (SetPosition n) next run e = refl
  act_stays (Home n) next run e = refl
  act_stays (Set which n) next run e = refl
  act_stays (Delay n) next run e = refl
  act_stays (WaitInput n) next run e = refl

  flow-stays : (f : Option Flow) → Stays (flowed f then)
  unfolding astray ended
  flow-stays (Some f) = refl
  flow-stays None = refl

  skip-stays : (digits next : ℕ) → Stays (skip_taken digits t next then)
  unfolding skip_taken astray ended
  skip-stays digits next = cases Stays (level_there digits then.motor.sample) (λ q. go (read_at t next)) (λ q. refl)
    where
      go : (r : Read) → Stays (skipped r then)
      go (At d past) = refl
      go (Bad k p) = refl
      go End = refl

  command-stays : (d : Command) (next : ℕ) → c.running ≡ true → Reads t c (At d next) → Stays (command_taken d next t image then).core
  unfolding command_taken jumped ended
  command-stays LoopBegin next run e = flow-stays (loop_begun next c.flow)
  command-stays (LoopEnd n) next run e = flow-stays (loop_ended n next c.flow)
  command-stays (Skip digits) next run e = skip-stays digits next
  command-stays (Jump slot) next run e = cases (λ (s : Stepped). Stays s.core) (slot_good image slot) (λ q. refl) (λ q. refl)
  command-stays (Plain a) next run e = act_stays a next run e

  read_stays : (r : Read) → c.running ≡ true → Reads t c r → Stays (read_taken r t image then).core
  unfolding read_taken astray ended
  read_stays (At d next) run e = command-stays d next run e
  read_stays (Bad k p) run e = refl
  read_stays End run e = refl

  abbrev After : Stepped → Type 0
  After s = Stays s.core

  step_stays : After (step_of sample ms steps t image c)
  unfolding step_of
  step_stays = go c.running refl (is_free c.motor.wait) refl
    where
      go : (r : Bool) → c.running ≡ r → (b : Bool) → is_free c.motor.wait ≡ b → After (step_of sample ms steps t image c)
      go false r b q = rw r refl
      go true r true q =
          let e : Reads t c (read_at t c.flow.at) = record { free = free c.motor.wait q; stands = refl } in
          subst After (sym (at_command sample ms steps t image c r (read_at t c.flow.at) e)) (read_stays (read_at t c.flow.at) r e)
      go true r false q =
          subst After (sym (at_wait sample ms steps t image c r c.motor.wait refl q))
          (moved-endless (served c.motor.wait c.motor.sample c.settings.flag ms steps then.motor) then)

-- ---- each call

pub stays : (u : Drive) (c : Call) → ((n : ℕ) → SetBy u c n → ⊥) → (after c u).core.endless ≡ u.core.endless
unfolding turn_core
stays u (feed bytes image buffer) never = feed-stays u bytes image buffer never
stays u (turn sample ms steps image) never =
    turn-cases u sample ms steps image (λ (r : Turning). r.unit.core.endless ≡ u.core.endless) (λ a. refl) (λ m. step_stays u sample ms steps image m never)

pub sets : (u : Drive) (c : Call) (n : ℕ) → SetBy u c n → (after c u).core.endless ≡ n
unfolding command_taken acted command_of find table relative reported
sets u c n (on_the_way_lem {bytes} {image} {buffer} zeros k h w) =
    let d = feed-done u bytes image buffer (record { buffer_right = h.buffer_right; image_right = h.image_right; frame-ours = h.frame-ours }) in
    let f = framed (received_by u bytes).frame (body_by u bytes) u.core h.frame-ours in
    ap (λ (x : Core). x.endless) d ∙ ap (λ (o : Obeyed). o.core.endless) (f ∙ ap (λ (x : List ℕ). body_obeyed x u.core) h.body_is ∙ line-obeyed w)
sets u c n (from_v {sample} {ms} {steps} {image = image} m run speed.up (next, r) k) =
    ap (λ (v : Drive). v.core.endless) (turned u run sample ms steps image m (command_of 80 0) next r) ∙ rw k
sets u c n (from_v {sample} {ms} {steps} {image = image} m run speed.down (next, r) k) =
    ap (λ (v : Drive). v.core.endless) (turned u run sample ms steps image m (command_of 68 0) next r) ∙ rw k

pub only : (c : Core) (text image : List ℕ) (zeros n : ℕ) → OnTheWay c zeros n → Turns-to (Sped n) (speed_body zeros n) c text image
only c text image zeros n w =
    turns_to c text image (speed_body zeros n) (with_endless n c) (line-obeyed w)
    (record { speed = refl; flow-same = refl; motor-same = refl; settings-same = refl; running-same = refl; loaded-same = refl; code_same = refl })

unset_same : {u v : Drive} → Unset u v → v.core.endless ≡ u.core.endless
unset_same none = refl
unset_same (more {v} c h never) = stays v c never ∙ unset_same h

pub told : {u v : Drive} (c : Call) (n : ℕ) → SetBy u c n → Unset (after c u) v → (text : List ℕ) → data_by (bytes "?5") v.core text ≡ decimal n
told {u} {v} c n s h text = (each-body v.core text []).endless.tells ∙ ap decimal (unset_same h ∙ sets u c n s)
