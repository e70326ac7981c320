-- What no deed takes away, every unit has that a fresh start leads to. Assumes nothing.
use mathlib.Core.List.{List}
use Prim.Native.Nat.{ℕ}
use Rattle.turns.specs.declared.Core.{Core}
use Rattle.drive.specs.Unit.{Drive}
use Rattle.keeping.proofs.Kept.{HoldsOf, CallsKeep}
use Rattle.drive.proofs.StartLaws.{started-unit}
use Rattle.keeping.proofs.CallLaws.{calls_keep}
use Rattle.runs.specs.Reach.{Call, feed, turn, after, Reached, fresh, called}
use Rattle.runs.proofs.SoundLaws.{SoundUnit, sound_kept}
use Rattle.runs.proofs.FitLaws.{FitUnit, fit_kept}

module _ {P : List ℕ → Core → Type 0} (k : CallsKeep P) where
  call_keeps : (u : Drive) (c : Call) → HoldsOf P u → HoldsOf P (after c u)
  call_keeps u (feed bytes image buffer) h = k.feeds u bytes image buffer h
  call_keeps u (turn sample ms steps image) h = k.turns u sample ms steps image h

  pub reached-keeps : {u : Drive} → Reached u → HoldsOf P u
  reached-keeps (fresh number image body text l e) = rw (started-unit number image body text e) (k.starts number image body)
  reached-keeps (called {u} c r) = call_keeps u c (reached-keeps r)

pub reached-sound : {u : Drive} → Reached u → SoundUnit u
reached-sound r = reached-keeps (calls_keep sound_kept) r

pub reached_fit : {u : Drive} → Reached u → FitUnit u
reached_fit r = reached-keeps (calls_keep fit_kept) r
