-- How many commands a run of a text takes when nothing stops it. 02, E14: "how many commands will it take?".
-- Assumes nothing.
use Rattle.forecast.specs.declared.Uncounted.{Uncounted}
use Rattle.forecast.specs.declared.Uncounted.TheVariants.{Refused, Letter, TooMany}
use Rattle.std.specs.Prelude.{ℕ, List, [], ◌∷◌, Bool, true, false, cond, ◌||◌, take, leb, eqb, Result, Ok, Err}
use Prim.Native.String.{String}
use Rattle.parts.specs.Parts.{part}
use Rattle.commands.specs.declared.Command.{Command}
use Rattle.commands.specs.declared.Command.TheVariants.{LoopBegin, LoopEnd, Skip, Jump, Plain}
use Rattle.commands.specs.declared.Act.{Act}
use Rattle.commands.specs.declared.Fault.{Fault}
use Rattle.commands.specs.declared.Act.TheVariants.{MoveTo, MoveUp, MoveDown, SetPosition, Home, Set, Delay, WaitInput}
use Rattle.lines.specs.declared.Body.{Body}
use Rattle.lines.specs.declared.Taken.{Taken}
use Rattle.lines.specs.Texts.{Bare, these, amiss, bare_from}
use Rattle.lines.specs.Bodies.{body_of, line_of, line_fault}
use Rattle.courses.specs.Meaning.{commands_in}

-- what is answered: so many commands, or why that is not said
abbrev pub Counted : Type 0
Counted = Result ℕ Uncounted

-- "2^63 − 1"
abbrev pub most_counted : ℕ
most_counted = 9223372036854775807

-- "`H` .. or a .. `P` or `D` of 0"
abbrev pub barred_act : Act → Bool
barred_act (MoveTo n) = false
barred_act (MoveUp n) = eqb n 0
barred_act (MoveDown n) = eqb n 0
barred_act (SetPosition n) = false
barred_act (Home n) = false
barred_act (Set s n) = false
barred_act (Delay n) = false
barred_act (WaitInput n) = true

-- "`e`, `S`, `H`, bare `G` or a `G`, `P` or `D` of 0"; a bare `G` reads as `G0`
abbrev pub barred : Command → Bool
barred LoopBegin = false
barred (LoopEnd n) = eqb n 0
barred (Skip i) = true
barred (Jump i) = true
barred (Plain a) = barred_act a

unfoldable pub any_barred : List Command → Bool
any_barred [] = false
any_barred (d ∷ ds) = barred d || any_barred ds

-- "then a letter from that list"
abbrev pub barred_read : Bare → Bool
barred_read (these ds) = any_barred ds
barred_read (amiss k) = false

-- "then a count over 2^63 − 1"
abbrev pub bounded : ℕ → Counted
bounded k = cond (leb k most_counted) (Ok k) (Err TooMany)

-- of a text: "a loop costs 1 + n × (body + 1)" is `commands_in`
unfoldable pub count_text : List ℕ → Counted
count_text t = cond (barred_read (bare_from t 0)) (Err Letter) (bounded (commands_in t))

-- the text of a body: a line's commands without its `R`, or the text that is stored; all other bodies have none
abbrev pub taken_text : Result Taken Fault → List ℕ → List ℕ
taken_text (Err f) b = []
taken_text (Ok (Taken.Line n run)) b = take n b
taken_text (Ok (Taken.Store slot at n)) b = part b at n

abbrev pub text_in : Result Body Fault → List ℕ → List ℕ
text_in (Err f) b = []
text_in (Ok Body.Empty) b = []
text_in (Ok (Body.Immediate i)) b = []
text_in (Ok Body.Run) b = []
text_in (Ok Body.Again) b = []
text_in (Ok Body.Line) b = taken_text (line_of b) b

unfoldable pub body_text : List ℕ → List ℕ
body_text b = text_in (body_of b) b

-- "Refusals: by name, the line check's code, then .."; with E6 its place too
abbrev pub unless_refused : Fault → Counted → Counted
unless_refused f c = cond (eqb f.code 0) c (Err (Refused f))

unfoldable pub count_of : List ℕ → Counted
count_of b = unless_refused (line_fault b) (count_text (body_text b))

-- the name of each answer
abbrev pub counted_name : Counted → String
counted_name (Ok k) = "so many commands"
counted_name (Err (Refused f)) = "the line check's code"
counted_name (Err Letter) = "a letter from that list"
counted_name (Err TooMany) = "a count over 2^63 − 1"
