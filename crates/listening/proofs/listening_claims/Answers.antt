-- `listening::listening_claims` meets its contract: each claim by its law; the examples compute.
-- Assumes nothing.
use mathlib.Core.Path.{refl}
use Rattle.checksum.specs.Checksum.{xor}
use Rattle.digits.specs.Decimal.{digits_in, digits_of, ascii, decimal}
use Rattle.answers.specs.Reading.{good_status}
use Rattle.listening.specs.Listen.{alone_of, may_follow, hear_of, listen_of}
use Rattle.listening.specs.Lines.{hex_digit, unit_line}
use Rattle.listening.specs.Claims.{HeardExamples}
use Rattle.listening.proofs.Cuts.{cut_law}
use Rattle.listening.proofs.Growing.{one_record, never_falls}
use Rattle.listening.proofs.Beside.{frames-counted}
use Rattle.listening.proofs.Answering.{answers-heard}
use Rattle.listening.proofs.Story.{last_frame, only-answers}
use Rattle.listening.proofs.listening_claims.Goals as goal

heard-examples : HeardExamples
unfolding alone_of may_follow hear_of listen_of xor good_status digits_in digits_of ascii decimal hex_digit unit_line
heard-examples = record {
  first = refl;
  dropped = refl;
  group = refl;
  before-cr = refl;
  oem = refl;
  oem-wrong = refl;
  sum-place = refl;
  first-line = refl;
  other-lines = refl;
  longest-line = refl;
}

pub returns : goal.returns
returns c = record {
  cut = cut_law;
  one_record = one_record;
  never_falls = never_falls;
  frames = frames-counted;
  answers = answers-heard;
  last_frame = last_frame;
  only-answers = only-answers;
  examples = heard-examples;
}
