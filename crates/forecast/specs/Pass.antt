-- For the code: the commands of a text counted in one pass. That it is the count is proved. Assumes nothing.
use Rattle.forecast.specs.declared.Uncounted.TheVariants.{Refused, Letter, TooMany}
use Rattle.commands.specs.declared.Fault.{Fault}
use Rattle.forecast.specs.Count.{Counted}
use Rattle.std.specs.Prelude.{ℕ, ◌+◌, ◌*◌, List, [], ◌∷◌, Bool, true, false, cond, take, ltb, leb, eqb, Result, Ok, Err}
use Rattle.parts.specs.Parts.{part}
use Rattle.commands.specs.declared.Command.{Command}
use Rattle.commands.specs.declared.Command.TheVariants.{LoopBegin, LoopEnd, Skip, Jump, Plain}
use Rattle.commands.specs.declared.Act.{Act}
use Rattle.lines.specs.declared.Taken.{Taken}
use Rattle.lines.specs.Texts.{Reading, commands, faulty, unplaced, reading_from}
use Rattle.lines.specs.Bodies.{line_of}
use Rattle.forecast.specs.declared.Tally.{Tally}
use Rattle.forecast.specs.Count.{most_counted, barred_act}

-- one builder, so that a field more changes one place
abbrev pub tally : ℕ → ℕ → ℕ → ℕ → ℕ → Bool → Bool → Tally
tally h a b c d l o = record { here = h; first = a; second = b; third = c; fourth = d; letter = l; over = o }

abbrev pub marked : Tally → Tally
marked t = tally t.here t.first t.second t.third t.fourth true t.over

abbrev pub exceeded : Tally → Tally
exceeded t = tally t.here t.first t.second t.third t.fourth t.letter true

abbrev pub raised : ℕ → Tally → Tally
raised h t = tally h t.first t.second t.third t.fourth t.letter t.over

abbrev pub tally_more : Tally → Tally
tally_more t = cond (ltb t.here most_counted) (raised (t.here + 1) t) (exceeded t)

-- `g`: the counts move up, and the innermost is 0
abbrev pub tally_opened : Tally → Tally
tally_opened t = tally 0 t.here t.first t.second t.third t.letter t.over

-- `G n`: they move down, and the innermost is what stood around the loop with the loop's cost
abbrev pub lowered : ℕ → Tally → Tally
lowered h t = tally h t.second t.third t.fourth 0 t.letter t.over

abbrev pub tally_closed : ℕ → Tally → Tally
tally_closed n t = cond (leb (t.first + n * (t.here + 1)) most_counted) (lowered (t.first + n * (t.here + 1)) t) (exceeded t)

abbrev pub loop_closed : Tally → ℕ → Tally
loop_closed t n = cond (eqb n 0) (marked t) (tally_closed n t)

abbrev pub plain_tallied : Tally → Act → Tally
plain_tallied t a = cond (barred_act a) (marked t) (tally_more t)

-- one command more
abbrev pub tallied : Tally → Command → Tally
tallied t LoopBegin = tally_opened (tally_more t)
tallied t (LoopEnd n) = loop_closed t n
tallied t (Skip i) = marked t
tallied t (Jump i) = marked t
tallied t (Plain a) = plain_tallied t a

unfoldable pub tally_on : Tally → List Command → Tally
tally_on t [] = t
tally_on t (d ∷ ds) = tally_on (tallied t d) ds

-- at the end
abbrev pub tally_told : Tally → Counted
tally_told t = cond t.letter (Err Letter) (cond t.over (Err TooMany) (Ok t.here))

abbrev pub told_on : Tally → Reading → Counted
told_on t (commands ds) = tally_told (tally_on t (unplaced ds))
told_on t (faulty f) = Err (Refused f)

unfoldable pub text_counted : List ℕ → Counted
text_counted t = told_on (tally 0 0 0 0 0 false false) (reading_from t 0)

-- of a line or a store
abbrev pub taken_counted : Result Taken Fault → List ℕ → Counted
taken_counted (Err f) b = Err (Refused f)
taken_counted (Ok (Taken.Line n run)) b = text_counted (take n b)
taken_counted (Ok (Taken.Store slot at n)) b = text_counted (part b at n)

unfoldable pub line_counted : List ℕ → Counted
line_counted b = taken_counted (line_of b) b
