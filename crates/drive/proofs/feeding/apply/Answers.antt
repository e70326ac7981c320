-- `drive::apply` meets its contract: each thing to write has its arm. Assumes nothing.
use mathlib.Core.Path.{refl, ◌∙◌}
use Rattle.drive.proofs.feeding.apply.Goals as goal

pub returns-in-Text : goal.returns-in-Text
returns-in-Text c =
    rw c.in-Text.is
    (record { to_text = c.put_text.ensures ∙ rw c.first.ensures; to_image = refl })

pub returns-in-Store : goal.returns-in-Store
returns-in-Store c =
    rw c.in-Store.is
    (record { to_text = refl; to_image = c.store.ensures.leaves ∙ rw c.part.ensures })

pub returns-in-Clear : goal.returns-in-Clear
returns-in-Clear c =
    rw c.in-Clear.is
    (record { to_text = refl; to_image = c.clear.ensures.leaves })

pub returns-in-Nothing : goal.returns-in-Nothing
returns-in-Nothing c = rw c.in-Nothing.is (record { to_text = refl; to_image = refl })
