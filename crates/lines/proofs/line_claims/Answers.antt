-- `lines::line_claims`: every claim is a law of `proofs/`. Assumes nothing.
use mathlib.Core.Path.{sym, ◌∙◌}
use mathlib.Core.List.{[]}
use Rattle.commands.proofs.ReadingLaws.{read_step}
use Rattle.lines.proofs.PlaceLaws.{places-none, stored-none, none-nil, nil-none}
use Rattle.lines.proofs.TextLaws.{reading_law}
use Rattle.lines.proofs.LoopLaws.{lawful, at_most-four, enclosed_by}
use Rattle.lines.proofs.CodeLaws.{codes, checked_taken, checked_refused}
use Rattle.lines.proofs.ListLaws.{list_law, list_back, written-spells, spelled-taken}
use Rattle.lines.proofs.TakenLaws.{stored, text-checked, held, one-or-more}
use Rattle.lines.proofs.FaultLaws.{leftmost_is, place-there, place_none, place-most, over-long}
use Rattle.lines.proofs.BeforeLaws.{because}
use Rattle.lines.proofs.FewLaws.{taken-few, checked-few, good-now, older-most}
use Rattle.lines.proofs.SpellLaws.{taken-spelled, reads-spelled}
use Rattle.lines.proofs.ExampleLaws.{edges, first-told, older-edges, ranges}
use Rattle.lines.proofs.line_claims.Goals as goal

pub returns : goal.returns
returns c = record {
  list_code = list_law;
  reads_back = list_back;
  written-spells = written-spells;
  spelled-taken = λ w. spelled-taken w.short w.spells w.no_fault_lem;
  reads-spelled = reads-spelled;
  taken-spelled = taken-spelled;
  taken-few = taken-few;
  checked-few = checked-few;
  good-now = good-now;
  older-most = older-most;
  codes = codes;
  checked_taken = checked_taken;
  checked_refused = checked_refused;
  from_the_left = reading_law;
  no_place = λ cs. (λ e. sym (places-none [] cs) ∙ none-nil _ e, λ e. nil-none _ (places-none [] cs ∙ e));
  no_place-stored = λ run long cs. (λ e. sym (stored-none run long cs) ∙ none-nil _ e, λ e. nil-none _ (stored-none run long cs ∙ e));
  the_leftmost = leftmost_is;
  place-there = place-there;
  place_none = place_none;
  place-most = place-most;
  over-long = over-long;
  because = because;
  stored = stored;
  stored-checked = text-checked;
  held = held;
  one-or-more = one-or-more;
  lawful = lawful;
  at_most-four = at_most-four;
  enclosed_by = enclosed_by;
  next_place = λ t at c n e. read_step t at e;
  edges = edges;
  first-told = first-told;
  older-edges = older-edges;
  ranges = ranges;
}
