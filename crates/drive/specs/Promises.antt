-- What the calls promise: their results, put together with the texts, the image and the buffer at exit, are what the definitions say.
-- Assumes nothing.
use Rattle.std.specs.Prelude.{ℕ, ◌≡◌, List, Result, Ok, Err}
use Rattle.drive.specs.declared.Record.{Record}
use Rattle.drive.specs.declared.StartRefused.{StartRefused}
use Rattle.drive.specs.declared.Fed.{Fed}
use Rattle.drive.specs.declared.FeedRefused.{FeedRefused}
use Rattle.drive.specs.declared.Turned.{Turned}
use Rattle.drive.specs.declared.TurnRefused.{TurnRefused}
use Rattle.drive.specs.StartAnswer
use Rattle.drive.specs.FeedAnswer
use Rattle.drive.specs.TurnAnswer
use Rattle.drive.specs.Unit.{unit_of}
use Rattle.drive.specs.Calls.{Starting, starting, no_unit, Feeding, feed_refused, Turning, turn_refused, turn_of}

-- a refused start hands out no unit
abbrev pub started_with : Result Record StartRefused → List ℕ → List ℕ → Starting
started_with (Ok u) body text = starting StartAnswer.start_ok (unit_of u body text)
started_with (Err why) body text = starting (Err why) (no_unit body text)

-- of a call that is taken
abbrev pub fed_taken : Fed → List ℕ → List ℕ → List ℕ → List ℕ → Feeding
fed_taken f body text image buffer =
    record {
      answer = FeedAnswer.feed_ok;
      unit = unit_of f.unit body text;
      consumed = f.consumed;
      answered = f.answered;
      image = image;
      buffer = buffer;
    }

-- a refused call leaves the record that was handed over, consumes nothing and answers nothing
abbrev pub fed_with : Record → Result Fed FeedRefused → List ℕ → List ℕ → List ℕ → List ℕ → Feeding
fed_with u (Ok f) body text image buffer = fed_taken f body text image buffer
fed_with u (Err why) body text image buffer = feed_refused (Err why) (unit_of u body text) image buffer

-- a refused turn leaves the record that was handed over, and answers no action
abbrev pub turned_with : Record → Result Turned TurnRefused → List ℕ → List ℕ → Turning
turned_with u (Ok t) body text = record { answer = TurnAnswer.turn_ok; unit = unit_of t.unit body text; action = t.action }
turned_with u (Err why) body text = turn_refused (Err why) (unit_of u body text)

-- a turn is not lent the body, and leaves it whatever it is
abbrev pub TurnedIs : Record → List ℕ → ℕ → ℕ → ℕ → List ℕ → Result Turned TurnRefused → List ℕ → Type 0
TurnedIs u text sample ms steps image r after =
    (body : List ℕ) → turned_with u r body after ≡ turn_of (unit_of u body text) sample ms steps image
