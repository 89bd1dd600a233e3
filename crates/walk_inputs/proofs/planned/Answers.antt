-- The fields of a plan. Assumes nothing.
use mathlib.Core.Path.{ap, ◌∙◌}
use mathlib.Core.Bool.{Bool}
use Rattle.std.specs.Bool.{then_some}
use Rattle.walk_inputs.proofs.PlanLaws.{planned-as}
use Rattle.walk_inputs.proofs.planned.Goals as goal

pub returns : goal.returns
returns c = let a = c.args in
    planned-as a.n a.k _ _ _ _ _ _ _ _ a.r a.g c.place_of.ensures c.place_of-2.ensures c.saturating_sub.ensures c.min-calls.ensures
    c.saturating_sub-2.ensures c.min-index.ensures c.min.ensures (c.then_some.ensures ∙ ap (λ (b : Bool). then_some b a.g.long) c.bit.ensures)
