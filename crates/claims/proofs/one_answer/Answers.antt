-- Each promise names one answer and one content of what is lent: the law stands beside the promise.
-- Assumes nothing.
use Rattle.parts.proofs.Laws.{put_once}
use Rattle.digits.proofs.Writing.{written_once}
use Rattle.image.proofs.CallLaws.{stored_once, cleared_once}
use Rattle.answers.proofs.Writing.{packet_once}
use Rattle.host.proofs.LineLaws.{line_once}
use Rattle.older.proofs.TranslateLaws.{translated_once}
use Rattle.frames.proofs.Once.{heard_once}
use Rattle.drive.proofs.OnceLaws.{started_once, fed_once, turned_once}
use Rattle.claims.proofs.one_answer.Goals as goal

pub returns : goal.returns
returns c =
    record {
      put = λ buffer at bytes r s x y. put_once;
      written = λ buffer at text r s x y. written_once;
      stored = λ image slot text r s x y. stored_once;
      cleared = λ image r s x y. cleared_once;
      packet = λ buffer status bytes r s x y. packet_once;
      oem-packet = λ buffer status bytes r s x y. packet_once;
      line = λ l buffer r s x y. line_once;
      translated = λ w text buffer r s x y. translated_once;
      heard = λ p body unit bytes r s x y. heard_once;
      started = λ number image body text d e. started_once d e;
      fed = λ u body text bytes image buffer d e. fed_once u d e;
      turned = λ u text sample ms steps image r s x y. turned_once u text sample ms steps image;
    }
