-- `answers::framed` meets its contract: a slice with all bytes of the frame is the packet of its status and data (`is_framed`), and one that lacks one is none (`not_framed`).
-- Assumes nothing.
use Rattle.std.proofs.Common.{arith}
use Rattle.answers.proofs.Framing.{is_framed, not_framed}
use Rattle.answers.proofs.framed.Goals as goal

pub returns-in-47 : goal.returns-in-47
returns-in-47 c = is_framed _ (omega arith) (omega arith) (omega arith) (omega arith) (omega arith) (omega arith)

pub returns-in_default : goal.returns-in_default
returns-in_default c = not_framed _ (λ a b d e f g. omega arith)

pub returns-in_default-2 : goal.returns-in_default-2
returns-in_default-2 c = not_framed _ (λ a b d e f g. omega arith)

pub returns-in_default-3 : goal.returns-in_default-3
returns-in_default-3 c = not_framed _ (λ a b d e f g. omega arith)

pub returns-in_default-4 : goal.returns-in_default-4
returns-in_default-4 c = not_framed _ (λ a b d e f g. omega arith)

pub returns-in_default-5 : goal.returns-in_default-5
returns-in_default-5 c = not_framed _ (λ a b d e f g. omega arith)

pub returns-in_default-6 : goal.returns-in_default-6
returns-in_default-6 c = not_framed _ (λ a b d e f g. omega arith)
