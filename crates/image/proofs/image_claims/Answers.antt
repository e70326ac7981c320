-- `image::image_claims`: each claim is a law of the slots, of a store or of a clear, and the two sums compute.
-- Assumes nothing.
use mathlib.Core.Path.{refl}
use Rattle.image.proofs.HeldLaws.{text-passes, text-fits}
use Rattle.image.proofs.CallLaws.{good-means, good-when, slot-now, good-before, older-means}
use Rattle.image.proofs.ToldLaws.{told_by_texts}
use Rattle.image.proofs.StoreLaws.{stores, store-empty}
use Rattle.image.proofs.ClearLaws.{clears}
use Rattle.image.proofs.image_claims.Goals as goal

pub returns : goal.returns
returns c = record {
  contents = refl;
  whole = refl;
  good-means = good-means;
  good-when = good-when;
  slot-now = slot-now;
  good-before = good-before;
  older-means = older-means;
  texts_pass = text-passes;
  texts_fit = text-fits;
  told_by_texts = told_by_texts;
  stores = stores;
  store-empty = store-empty;
  clears = clears;
}
