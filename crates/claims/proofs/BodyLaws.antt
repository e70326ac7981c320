-- Each body by itself: what kind of a body it is computes, and each kind is a few fields of its definition. Assumes nothing.
use Rattle.commands.specs.declared.Fault.{Fault}
use Rattle.std.specs.Prelude.{Result, Ok}
use Prim.Native.Nat.{ℕ, min}
use mathlib.Core.Path.{◌≡◌, refl, sym, ap, ◌∙◌}
use mathlib.Core.List.{List, []}
use mathlib.Core.Bool.{Bool, false, cond}
use native.Mathlib.Omega.{arith}
use Rattle.parts.specs.Parts.{same}
use Rattle.parts.specs.Letters.{bytes}
use Rattle.commands.specs.Table.{one_of}
use Rattle.lines.specs.declared.Body.{Body}
use Rattle.lines.specs.declared.Immediate.{Immediate}
use Rattle.lines.specs.Bodies.{immediates, immediate_in, body_of}
use Rattle.image.specs.Calls.{after_clear}
use Rattle.flow.specs.Flow.{begun}
use Rattle.motor.specs.declared.Wait.{Wait}
use Rattle.motor.specs.declared.Wait.TheVariants.{Nothing, Move, LegAway, LegToward, Delay, Input}
use Rattle.motor.specs.Motion.{waiting, is_leg, stopped}
use Rattle.turns.specs.declared.Core.{Core}
use Rattle.turns.specs.Turns.{with_motor, started, ended}
use Rattle.obeying.specs.declared.Tell.{Tell}
use Rattle.obeying.specs.declared.Obeyed.{Obeyed}
use Rattle.obeying.specs.Obeying.{body_obeyed, kind_obeyed, data_of, text_written, image_written, telling, silent, step_size}
use Rattle.claims.specs.Bodies.{core_by, Makes, homing, Stopped, Started, Turns-to, EachBody}

-- what is waited for is given up
given-up : (w : Wait) (k : Bool) → cond (is_leg w) false k ≡ cond (homing w) false k
given-up Nothing k = refl
given-up (Move up endless left) k = refl
given-up (LegAway left n) k = refl
given-up (LegToward left) k = refl
given-up (Delay left) k = refl
given-up (Input digits) k = refl

module _ (c : Core) (text image : List ℕ) where
  kind : (b : List ℕ) (k : Result Body Fault) → body_of b ≡ k → body_obeyed b c ≡ kind_obeyed k b c
  unfolding body_obeyed
  kind b k e = rw e

  -- what only tells, and what changes the core alone
  makes : (b : List ℕ) (d : Core) (t : Tell) → body_obeyed b c ≡ telling t d → Makes b c d text image (data_of t d.flow.length text)
  makes b d t e = record {
    core = ap (λ (o : Obeyed). o.core) e;
    text_same = ap (λ (o : Obeyed). text_written o.write b text) e;
    image-same = ap (λ (o : Obeyed). image_written o.write b image) e;
    held-code = ap (λ (o : Obeyed). o.code) e;
    tells = ap (λ (o : Obeyed). data_of o.tell o.core.flow.length (text_written o.write b text)) e;
  }

  pub turns_to : {How : Core → Core → Type 0} (b : List ℕ) (d : Core) → body_obeyed b c ≡ silent d → How c d → Turns-to How b c text image
  turns_to b d e h = let x : core_by b c ≡ d = ap (λ (o : Obeyed). o.core) e in record { how = rw x h; only = rw x (makes b d Tell.Nothing e) }

  is_stopped : Stopped c (ended c.code c)
  unfolding ended stopped
  is_stopped = record {
    stops = refl;
    flow-same = refl;
    settings-same = refl;
    loaded-same = refl;
    code_same = refl;
    free = refl;
    position-same = refl;
    sample-same = refl;
    last-same = refl;
    known = given-up c.motor.wait c.motor.known;
  }

  is_started : Started c (started c.flow.length c)
  unfolding started begun
  is_started = record { runs = refl; text-length-same = refl; first = refl; none_open = refl; not-loaded = refl; code_0 = refl; motor-same = refl; settings-same = refl }

  pub each-body : EachBody c text image
  unfolding body_of same one_of immediates immediate_in step_size after_clear
  each-body = record {
    empty = makes [] c Tell.Nothing (kind [] (Ok Body.Empty) refl);
    status = makes (bytes "Q") c Tell.Nothing (kind (bytes "Q") (Ok (Body.Immediate Immediate.Status)) refl);
    position = makes (bytes "?0") c _ (kind (bytes "?0") (Ok (Body.Immediate Immediate.Position)) refl);
    speed = makes (bytes "?2") c _ (kind (bytes "?2") (Ok (Body.Immediate Immediate.Speed)) refl);
    sample = makes (bytes "?4") c _ (kind (bytes "?4") (Ok (Body.Immediate Immediate.Sample)) refl);
    endless = makes (bytes "?5") c _ (kind (bytes "?5") (Ok (Body.Immediate Immediate.EndlessSpeed)) refl);
    step_size_lem = λ h. let z : min c.settings.exponent 8 ≡ c.settings.exponent = omega arith in
        rw z at (makes (bytes "?6") c _ (kind (bytes "?6") (Ok (Body.Immediate Immediate.StepSize)) refl));
    correction = makes (bytes "?7") c _ (kind (bytes "?7") (Ok (Body.Immediate Immediate.Correction)) refl);
    current = makes (bytes "$") c Tell.Text (kind (bytes "$") (Ok (Body.Immediate Immediate.CurrentText)) refl);
    clears = λ r. rw (kind (bytes "?9") (Ok (Body.Immediate Immediate.Clear)) refl, r);
    clears-only = let e = kind (bytes "?9") (Ok (Body.Immediate Immediate.Clear)) refl in (
      ap (λ (o : Obeyed). o.core) e,
      ap (λ (o : Obeyed). text_written o.write (bytes "?9") text) e,
      ap (λ (o : Obeyed). data_of o.tell o.core.flow.length (text_written o.write (bytes "?9") text)) e,
    );
    idle_t = λ h. makes (bytes "T") c Tell.Nothing (kind (bytes "T") (Ok (Body.Immediate Immediate.Terminate)) refl ∙ rw h);
    stops = λ h. turns_to (bytes "T") (ended c.code c) (kind (bytes "T") (Ok (Body.Immediate Immediate.Terminate)) refl ∙ rw h) is_stopped;
    tr_is_t = kind (bytes "TR") (Ok (Body.Immediate Immediate.Terminate)) refl ∙ sym (kind (bytes "T") (Ok (Body.Immediate Immediate.Terminate)) refl);
    resumes = λ digits h w. turns_to (bytes "R") (with_motor (waiting Nothing c.motor) c) (kind (bytes "R") (Ok Body.Run) refl ∙ rw (h, w)) (record {
      flow-same = refl;
      settings-same = refl;
      running-same = refl;
      loaded-same = refl;
      code_same = refl;
      free = refl;
      position-same = refl;
      known_same = refl;
      sample-same = refl;
      last-same = refl;
    });
    runs = λ h l. turns_to (bytes "R") (started c.flow.length c) (kind (bytes "R") (Ok Body.Run) refl ∙ rw (h, l)) is_started;
    nothing-loaded = λ h l. makes (bytes "R") c Tell.Nothing (kind (bytes "R") (Ok Body.Run) refl ∙ rw (h, l));
    again = λ h. turns_to (bytes "X") (started c.flow.length c) (kind (bytes "X") (Ok Body.Again) refl ∙ rw h) is_started;
  }
