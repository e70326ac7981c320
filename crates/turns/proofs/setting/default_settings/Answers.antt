-- `turns::default_settings` meets its contract: each setting is 01's default. Assumes nothing.
use borrow.Author.Rules.{rules}
use Rattle.turns.specs.Settings.{defaults}
use Rattle.turns.proofs.setting.default_settings.Goals as goal

pub returns : goal.returns
unfolding defaults
returns c = search rules
