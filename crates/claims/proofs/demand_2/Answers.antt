-- Demand 2 holds: the claims of each crate, what a line does when it is taken, and what a move does in each turn.
-- Assumes nothing.
use Rattle.claims.proofs.AddressLaws.{addressed}
use Rattle.claims.proofs.DoesLaws.{line_does}
use Rattle.claims.proofs.JoinedLaws.{joined}
use Rattle.claims.proofs.MoveLaws.{move-turns}
use Rattle.claims.proofs.demand_2.Goals as goal

pub returns : goal.returns
returns c =
    record {
      operands = c.digit_claims.ensures;
      commands = c.command_claims.ensures;
      lines = c.line_claims.ensures;
      does = line_does c.image_claims.ensures;
      effects = c.effect_claims.ensures;
      images = c.image_claims.ensures;
      moves = move-turns;
      answers = c.answer_claims.ensures;
      packets = c.packet_claims.ensures;
      joined = λ r. joined c.frame_claims.ensures r;
      ramps = c.ramp_claims.ensures;
      written = c.host_claims.ensures;
      frames = c.frame_claims.ensures;
      addressed = addressed;
      stream = c.stream_claims.ensures;
      oem = c.oem_claims.ensures;
    }
