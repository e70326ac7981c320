-- What a feed call hears and the body that it leaves are read off the whole, so no second answer meets the promise.
-- Assumes nothing.
use mathlib.Core.Path.{◌≡◌, ap, sym, ◌∙◌}
use mathlib.Core.List.{List}
use Prim.Native.Nat.{ℕ}
use Rattle.frames.specs.declared.Heard.{Heard}
use Rattle.frames.specs.Receive.{Received, heard_with}

heard_in : Received → Heard
heard_in f = record { progress = record { place = f.receiver.place; length = f.receiver.length }; consumed = f.consumed; frame = f.frame; framing = f.framing }

pub heard_once : {f : Received} {h g : Heard} {x y : List ℕ} → heard_with h x ≡ f → heard_with g y ≡ f → (h ≡ g) × (x ≡ y)
unfolding heard_in
heard_once d e = (ap heard_in (d ∙ sym e), ap (λ (f : Received). f.receiver.body) (d ∙ sym e))
