-- `lines::begins_immediate` meets its contract: the byte is one of the four, or none of them. Assumes nothing.
use mathlib.Core.Logic.{inl, inr}
use borrow.Author.Tests.{ne_eqb}
use Rattle.commands.specs.Table.{one_of}
use Rattle.lines.proofs.kinds.begins_immediate.Goals as goal

pub returns-in-84 : goal.returns-in-84
unfolding one_of
returns-in-84 c = elim c.in-84.is [ inl e ↦ rw e | inr (inl e) ↦ rw e | inr (inr (inl e)) ↦ rw e | inr (inr (inr e)) ↦ rw e ]

pub returns-in_default : goal.returns-in_default
unfolding one_of
returns-in_default c =
    let n = c.in_default.in_default-own.rest.1 in
    rw (ne_eqb _ 84 (λ e. n (inr (inr (inr e)))), ne_eqb _ 81 (λ e. n (inr (inr (inl e)))), ne_eqb _ 36 (λ e. n (inl e)), ne_eqb _ 63 (λ e. n (inr (inl e))))
