-- `forecast::count` meets its contract: each arm knows what the body is. Assumes nothing.
use mathlib.Core.Path.{sym, ap, ◌∙◌}
use Rattle.std.specs.Prelude.{Ok}
use Rattle.std.proofs.lemmas.Result.{err_from_is_err_and}
use Rattle.forecast.proofs.BodyLaws.{body_refused, body-other, body-line, from_ok, from_err}
use Rattle.forecast.proofs.count.Goals as goal

pub returns-in_err-map_err : goal.returns-in_err-map_err
returns-in_err-map_err c =
    let p = err_from_is_err_and c.from_residual.result c.from_residual.ensures.1 in
    let f = from_err _ _ c.map_err.ensures.cases _ (c.in_err-map_err.was {u = tt}) in
    rw (p.1, p.2, f.2) (body_refused _ f.0 (sym c.body_of.ensures ∙ f.1))

pub returns-in-Line : goal.returns-in-Line
returns-in-Line c =
    let k = from_ok _ _ c.map_err.ensures.cases _ (c.in_ok-map_err.was {u = tt}) in
    c.count_line.ensures ∙ body-line _ (sym c.body_of.ensures ∙ k ∙ ap Ok c.in-Line.is)

pub returns-in_default : goal.returns-in_default
returns-in_default c =
    let k = from_ok _ _ c.map_err.ensures.cases _ (c.in_ok-map_err.was {u = tt}) in
    body-other _ _ (sym c.body_of.ensures ∙ k) c.in_default.not-Line
