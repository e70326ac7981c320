-- `forecast::count_line` meets its contract: each arm knows what the line is. Assumes nothing.
use mathlib.Core.Path.{sym, ap, ◌∙◌}
use Rattle.std.specs.Prelude.{Result, Err}
use Rattle.commands.specs.declared.Fault.{Fault}
use Rattle.lines.specs.declared.Taken.{Taken}
use Rattle.std.proofs.lemmas.Result.{err_from_is_err_and}
use Rattle.forecast.specs.Pass.{taken_counted, line_counted}
use Rattle.forecast.proofs.BodyLaws.{from_ok, from_err}
use Rattle.forecast.proofs.count_line.Goals as goal

pub returns-in_err-length : goal.returns-in_err-length
unfolding line_counted
returns-in_err-length c =
    let p = err_from_is_err_and c.from_residual.result c.from_residual.ensures.1 in
    let f = from_err _ _ c.map_err.ensures.cases _ (c.in_err-length.was {u = tt}) in
    p.1 ∙ ap Err (p.2 ∙ f.2) ∙ rw (← c.line_of.ensures) (sym (ap (λ (t : Result Taken Fault). taken_counted t c.args.body.now) f.1))

pub returns-in-Line : goal.returns-in-Line
unfolding line_counted
returns-in-Line c =
    let l = from_ok _ _ c.map_err.ensures.cases _ (c.in_ok-length.was {u = tt}) in
    rw (← c.line_of.ensures, l, c.in-Line.is, c.count_text.ensures, c.first.ensures)

pub returns-in-Store : goal.returns-in-Store
unfolding line_counted
returns-in-Store c =
    let l = from_ok _ _ c.map_err.ensures.cases _ (c.in_ok-length.was {u = tt}) in
    rw (← c.line_of.ensures, l, c.in-Store.is, c.count_text-in-Store.ensures, c.part.ensures)
