-- `claims::effect_claims`: each claim is a law. Assumes nothing.
use Rattle.claims.proofs.BodyLaws.{each-body}
use Rattle.claims.proofs.TurnLaws.{start-defaults, starts-good, starts-held, feeds, serves, idles, idle, waits, commands, answers, levels}
use Rattle.claims.proofs.SpeedLaws as speed
use Rattle.claims.proofs.effect_claims.Goals as goal

pub returns : goal.returns
returns c = record {
  defaults = start-defaults;
  starts-good = starts-good;
  starts-held = starts-held;
  bodies = each-body;
  feeds = feeds;
  serves = serves;
  idles = idles;
  idle = idle;
  waits = waits;
  commands = commands;
  answers = answers;
  levels = levels;
  speed = record { sets = speed.sets; stays = speed.stays; only = speed.only; busy = speed.busy; told = speed.told };
}
