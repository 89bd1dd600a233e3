-- Where the code begins. Assumes nothing.
use Rattle.walk_inputs.proofs.RunLaws.{code-as}
use Rattle.walk_inputs.proofs.code.Goals as goal

pub returns : goal.returns
returns c = let a = c.args.input.now in code-as a.bytes.now a.plan c.min-at.result a.plan_value c.min-at.ensures
