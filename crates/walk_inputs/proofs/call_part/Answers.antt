-- Call number i, empty past the last. Assumes nothing.
use mathlib.Core.Path.{ap, ◌∙◌}
use Prim.Native.Nat.{ℕ, ◌+◌, ◌*◌, min}
use Rattle.walk_inputs.specs.Plan.{part_of}
use Rattle.walk_inputs.proofs.PartLaws.{call-as, call_none}
use borrow.Author.Rules.{rules}
use Rattle.walk_inputs.proofs.call_part.Goals as goal

pub returns-then-input-i : goal.returns-then-input-i
returns-then-input-i c =
    let a = c.args.input.now in
    c.part_of.ensures ∙ call_none a.bytes.now a.plan a.step c.args.i a.plan_value a.step_value (search rules) (search rules)

pub returns : goal.returns
returns c = let a = c.args.input.now in
    c.part_of-2.ensures
    ∙ ap (λ (n : ℕ). part_of a.bytes.now (a.plan.place + c.args.i * a.step) n) (c.min.ensures ∙ ap (λ (n : ℕ). min a.step n) c.saturating_sub-left.ensures)
    ∙ call-as a.bytes.now a.plan a.step c.args.i a.plan_value a.step_value
