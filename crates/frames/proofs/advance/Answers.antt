-- `frames::advance` meets its contract: in a body and outside a frame by the runs of bytes there, else one byte is one step of the
-- definition (`turned`). Assumes nothing.
use native.Mathlib.Omega.{arith}
use mathlib.Core.Path.{refl, sym, ◌∙◌}
use Rattle.frames.proofs.Runs.{only-outside}
use Rattle.frames.proofs.Stream.{turned}
use Rattle.frames.proofs.advance.Goals as goal

pub keep-requires : goal.keep-requires
keep-requires c = (
  c.requires,
  sym c.inside.ensures ∙ c.if-inside.true,
)

pub returns-then-outside : goal.returns-then-outside
returns-then-outside c =
    let there = only-outside c.args.h.progress.place (sym c.outside.ensures ∙ c.if-outside.true) in
    rw there (c.look_out.ensures _ _)

pub returns : goal.returns
returns c =
    let inside = c.requires in
    (omega arith, omega (arith, inside), turned _ _ _ _ inside refl c.step.ensures refl)

pub returns-then-inside : goal.returns-then-inside
returns-then-inside c = c.keep.ensures _
