-- The walk is handed the parts of an input. Assumes nothing.
use mathlib.Core.Path.{◌∙◌}
use Rattle.walk_inputs.proofs.PlanLaws.{plan-starts}
use Rattle.walk_inputs.proofs.RunLaws.{walk-as}
use Rattle.walk_inputs.proofs.walk_cut.Goals as goal

pub read_starts-requires : goal.read_starts-requires
read_starts-requires c = let a = c.args.input.now in
    c.requires ∙ plan-starts a.bytes.now a.plan a.plan_value

pub returns : goal.returns
returns c =
    let a = c.args in
    let g = c.settings_in-settings in
    let f = c.first_record in
    c.switch_on_term.ensures
    ∙ walk-as a.input.now.bytes.now f.result g.result _ _ f.ensures g.ensures c.code.ensures c.read_starts.ensures
    a.i _ a.index.now a.count a.out.now c.call_part.ensures
