-- The call records, cut every step of them. Assumes nothing.
use mathlib.Core.Path.{◌∙◌}
use Rattle.walk_inputs.proofs.RunLaws.{calls-as}
use Rattle.walk_inputs.proofs.count_calls.Goals as goal

pub returns : goal.returns
returns c = let r = c.read-run in c.div_ceil.ensures ∙ calls-as _ _ _ _ r.ensures r.result.plan_value r.result.step_value
