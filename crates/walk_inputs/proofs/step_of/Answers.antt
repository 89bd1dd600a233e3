-- The arity of the settings, or 1. Assumes nothing.
use mathlib.Core.Path.{◌∙◌}
use native.Mathlib.Omega.{arith}
use Rattle.inputs.proofs.LinesLaws.{settings-as}
use Rattle.walk_inputs.specs.Plan.{step_of}
use Rattle.walk_inputs.proofs.PlanLaws.{step-max}
use Rattle.walk_inputs.proofs.step_of.Goals as goal

pub returns : goal.returns
unfolding step_of
returns c =
    let s = c.args.input.now in
    let e = settings-as s _ c.first_record.ensures _ c.settings_in-settings.ensures in
    (rw (← e) (c.max.ensures ∙ step-max _), omega (arith, c.max.ensures), omega (arith, c.max.ensures, c.settings_in-settings.type_inv))
