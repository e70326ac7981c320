-- A run goes as its course says: a command taken is the next of it, and every other call leaves it. Assumes nothing.
use Rattle.std.specs.Prelude.{Option}
use Prim.Native.Nat.{ℕ, zero, suc, ◌+◌}
use mathlib.Core.Path.{◌≡◌, refl, sym, ap, subst, ◌∙◌}
use mathlib.Core.List.{List, [], ◌∷◌, ◌++◌}
use mathlib.Core.Bool.{true, false}
use native.Mathlib.Omega.{arith}
use lib.ListN.{length, take, length-append}
use Rattle.commands.specs.declared.Command.{Command}
use Rattle.commands.specs.declared.Command.TheVariants.{LoopBegin, LoopEnd, Skip, Jump, Plain}
use Rattle.commands.specs.declared.Read.TheVariants.{At, End}
use Rattle.flow.specs.declared.Flow.{Flow}
use Rattle.flow.proofs.FlowLaws.{FlowOk}
use Rattle.motor.specs.Motion.{reported}
use Rattle.courses.specs.Meaning.{Course, ends, plain, skip, jump, loop, Step, step, commands_of, Runs, Steady, times, unrolled, cost, course_in, commands_in}
use Rattle.courses.proofs.CourseLaws.{text_course}
use Rattle.courses.proofs.SteadyLaws.{costs, commands-append, commands-length, one_way, in_order}
use Rattle.courses.proofs.StandLaws.{Open, Next, back, on, stands-now, stands-last, next-stands}
use Rattle.courses.proofs.FlowLaws.{loops_of, Taken, begun-taken}
use Rattle.turns.specs.Turns.{with_motor, text_after}
use Rattle.turns.specs.Ends.{Reads}
use Rattle.drive.specs.Unit.{Drive}
use Rattle.runs.specs.Reach.{Call, turn, after, Reached, text_of}
use Rattle.runs.specs.Causes.{Made}
use Rattle.runs.proofs.ReachLaws.{reached-sound}
use Rattle.runs.proofs.CommandLaws.{turned}
use Rattle.runs.specs.Ran.{TakesCommand, takes, Begins, Ran, none, taking, other}
use Rattle.runs.specs.Schedule.{NoJump, InText, RunsAs, RunsCounted}
use Rattle.runs.proofs.KeptLaws.{kept}
use Rattle.runs.proofs.TakenLaws.{command-goes}
use Rattle.runs.proofs.BeginLaws.{enters}

-- v is in the text t, and has taken xs of the course `whole`
pub record Still (t : List ℕ) (whole : Course) (xs : List Step) (v : Drive) : Type 0 where
  pub text : text_of v ≡ t
  pub ok : FlowOk t v.core.flow
  pub took : Taken t whole xs v.core.flow

still_other : {t : List ℕ} {whole : Course} {xs : List Step} (v : Drive) (c : Call) → v.core.running ≡ true → ((d : Command) (s : ℕ) → TakesCommand v d s c → ⊥)
    → Still t whole xs v → Still t whole xs (after c v)
still_other {t} {whole} {xs} v c h k s =
    let q = kept v c h k in
    record {
      text = ap (λ (l : List ℕ). take (after c v).core.flow.length l) q.0 ∙ ap (λ (f : Flow). take f.length v.text) q.1 ∙ s.text;
      ok = subst (FlowOk t) (sym q.1) s.ok;
      took = subst (Taken t whole xs) (sym q.1) s.took;
    }

-- ---- a command taken

turn_still_lem : {whole : Course} {xs : List Step} (v : Drive) (sample ms steps : ℕ) (image : List ℕ) (d : Command) (n : ℕ) → v.core.running ≡ true
    → Made v sample steps image → Reads (text_of v) v.core (At d n) → NoJump d → Still (text_of v) whole xs v
    → Still (text_of v) whole (xs ++ (step d sample ∷ [])) (after (turn sample ms steps image) v)
unfolding reported
turn_still_lem {whole} {xs} v sample ms steps image d n h m r j s =
    let t = text_of v in
    let w = after (turn sample ms steps image) v in
    let x = turned v h sample ms steps image m d n r in
    let q = next-stands t whole v.core.flow.at sample r.stands s.took in
    let g = command-goes image (with_motor (reported sample steps v.core.motor) v.core) d n s.ok r.stands j q in
    let f = sym (ap (λ (u : Drive). u.core.flow) x) in
    let ok : FlowOk t w.core.flow = subst (FlowOk t) f g.ok in
    let same : w.text ≡ v.text = ap (λ (u : Drive). u.text) x ∙ ap (λ (e : Option ℕ). text_after e v.text image) g.stays in
    record {
      text = ap (λ (l : List ℕ). take w.core.flow.length l) same ∙ ap (λ (k : ℕ). take k v.text) (ok.length ∙ sym s.ok.length);
      ok = ok;
      took = subst (Taken t whole (xs ++ (step d sample ∷ []))) f g.took;
    }

-- seen from the unit's own text
own : {t : List ℕ} {whole : Course} {xs : List Step} (v : Drive) → Still t whole xs v → Still (text_of v) whole xs v
own {t} {whole} {xs} v s = subst (λ (l : List ℕ). Still l whole xs v) (sym s.text) s

still_taking : {t : List ℕ} {whole : Course} {xs : List Step} (v : Drive) {d : Command} {s : ℕ} {c : Call} → v.core.running ≡ true → TakesCommand v d s c → NoJump d
    → Still t whole xs v → Still t whole (xs ++ (step d s ∷ [])) (after c v)
still_taking {t} {whole} {xs} v {d} {s} {c} h k j y = subst (λ (l : List ℕ). Still l whole (xs ++ (step d s ∷ [])) (after c v)) y.text (go s c k (own v y))
  where
    go : (s : ℕ) (b : Call) → TakesCommand v d s b → Still (text_of v) whole xs v → Still (text_of v) whole (xs ++ (step d s ∷ [])) (after b v)
    go s b (takes {sample} {ms} {steps} {image} n m r) y = turn_still_lem v sample ms steps image d n h m r j y

-- once it is taken it is of the run, `e` too
next-runs : (t : List ℕ) (whole : Course) (os : List Open) (xs : List Step) (s : ℕ) (d : Command) (n : ℕ) → Next t whole os xs s d n → Runs whole false xs
next-runs t whole os xs s LoopBegin n y = stands-now y
next-runs t whole os xs s (LoopEnd m) n (back o b y) = stands-now (y (suc o.done) (λ z. refl))
next-runs t whole os xs s (LoopEnd m) n (on o e z y) = stands-now y
next-runs t whole os xs s (Skip i) n y = y.runs
next-runs t whole os xs s (Jump i) n y = y
next-runs t whole os xs s (Plain a) n y = stands-now y

taken_runs : {t : List ℕ} {whole : Course} {xs : List Step} (v : Drive) {d : Command} {s : ℕ} {c : Call} → TakesCommand v d s c → Still t whole xs v
    → Runs whole false (xs ++ (step d s ∷ []))
taken_runs {t} {whole} {xs} v {d} {s} {c} k y = go s c k (own v y)
  where
    go : (s : ℕ) (b : Call) → TakesCommand v d s b → Still (text_of v) whole xs v → Runs whole false (xs ++ (step d s ∷ []))
    go s b (takes n m r) y =
        next-runs (text_of v) whole (loops_of v.core.flow) (xs ++ (step d s ∷ [])) s d n (next-stands (text_of v) whole v.core.flow.at s r.stands y.took)

-- ---- a run

text-split : (ds es : List Command) → InText (ds ++ es) → InText ds × InText es
text-split [] es h = (tt, h)
text-split (d ∷ ds) es h = let p = text-split ds es h.1 in ((h.0, p.0), p.1)

still_ran : {u v : Drive} {xs : List Step} → Reached u → Begins u → Ran u xs v → InText (commands_of xs) → Still (text_of u) (course_in (text_of u)) xs v
still_ran {u} r b none i =
    let ok = (reached-sound r).flow in
    record {
      text = refl;
      ok = ok;
      took = begun-taken u.core.flow (course_in (text_of u)) b.first b.none_open (text_course (text_of u) ok.checked);
    }
still_ran r b (taking {v = v} {xs = xs} {d = d} {s = s} y h k) i =
    let p = text-split (commands_of xs) (d ∷ []) (rw (commands-append xs (step d s ∷ [])) at i) in
    still_taking v h k p.1.0 (still_ran r b y p.0)
still_ran r b (other {v = v} c s h k) i = still_other v c h k (still_ran r b s i)

pub runs_as : {u v : Drive} {xs : List Step} → Reached u → Begins u → Ran u xs v → InText (commands_of xs) → RunsAs (text_of u) xs v
runs_as {u} {v} {xs} r b s i =
    let p = still_ran r b s i in
    record {
      text_same = p.text;
      in-course = stands-now p.took;
      whole = λ q. stands-last p.took q.stands;
      leaves = λ h t. taken_runs v t p;
      enters = λ h t. enters v h t;
    }

-- ---- a text without `S`, `e` and `G0`

text_join : (ds es : List Command) → InText ds → InText es → InText (ds ++ es)
text_join [] es h k = k
text_join (d ∷ ds) es h k = (h.0, text_join ds es h.1 k)

text-times : (n : ℕ) (ds : List Command) → InText ds → InText (times n ds)
unfolding times
text-times zero ds h = tt
text-times (suc n) ds h = text_join ds (times n ds) h (text-times n ds h)

steady-text : (c : Course) → Steady c → InText (unrolled c)
unfolding unrolled
steady-text ends s = tt
steady-text (skip i c) s = elim s [ ]
steady-text (jump i c) s = elim s [ ]
steady-text (plain a c) s = (tt, steady-text c s)
steady-text (loop body n c) s =
    let round = unrolled body ++ (LoopEnd n ∷ []) in
    (tt, text_join (times n round) (unrolled c) (text-times n round (text_join (unrolled body) (LoopEnd n ∷ []) (steady-text body s.1) (tt, tt))) (steady-text c s.2))

steady_ran : {u v : Drive} {xs : List Step} → Reached u → Begins u → Steady (course_in (text_of u)) → Ran u xs v → InText (commands_of xs)
steady_ran r b y none = tt
steady_ran {u} r b y (taking {v = v} {xs = xs} {d = d} {s = s} z h k) =
    let p = in_order y (taken_runs v k (still_ran r b z (steady_ran r b y z))) in
    (text-split (commands_of (xs ++ (step d s ∷ []))) p.0 (rw p.1 at (steady-text (course_in (text_of u)) y))).0
steady_ran r b y (other c s h k) = steady_ran r b y s

pub counted : {u v : Drive} {xs : List Step} → Reached u → Begins u → Steady (course_in (text_of u)) → Ran u xs v → RunsCounted (text_of u) xs v
unfolding commands_in
counted {u} {v} {xs} r b y s =
    let t = still_ran r b s (steady_ran r b y s) in
    let p = in_order y (stands-now t.took) in
    let whole : Reads (text_of u) v.core End → commands_of xs ≡ unrolled (course_in (text_of u)) = λ e. one_way y (stands-last t.took e.stands) in
    let long : length (commands_of xs) + length p.0 ≡ cost (course_in (text_of u)) =
    sym (length-append (commands_of xs) p.0) ∙ ap length (sym p.1) ∙ costs (course_in (text_of u)) in
    record {
      left = p.0;
      in_order = p.1;
      whole = whole;
      adds_up = omega (arith, commands-length xs);
      no_more = omega (arith, commands-length xs);
      exactly = λ e. sym (commands-length xs) ∙ ap length (whole e) ∙ costs (course_in (text_of u));
    }
