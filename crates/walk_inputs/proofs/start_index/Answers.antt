-- The index that a run begins with. Assumes nothing.
use mathlib.Core.Path.{ap, ◌∙◌}
use Prim.Native.Nat.{ℕ, ◌+◌}
use Rattle.walk_inputs.specs.Plan.{part_of}
use Rattle.walk_inputs.proofs.RunLaws.{start-as}
use Rattle.walk_inputs.proofs.start_index.Goals as goal

pub returns : goal.returns
returns c =
    let a = c.args.input.now in
    let r = c.part_of-run in
    let l = c.min in
    c.fill_index.ensures
    ∙ start-as a.bytes.now a.plan a.plan_value _ _ (r.ensures ∙ ap (λ (n : ℕ). part_of a.bytes.now (a.plan.place + a.plan.calls) n) l.ensures) c.requires
