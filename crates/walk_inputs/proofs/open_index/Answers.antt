-- The beginning of the run of what is read, in the front of the buffers. Assumes nothing.
use Rattle.walk_inputs.proofs.RunLaws.{opened-run}
use Rattle.walk_inputs.proofs.open_index.Goals as goal

pub returns : goal.returns
returns c = let a = c.args in
    let r = c.read-input in
    let e = c.run_cut.ensures in
    opened-run c.run_cut.result a.input.now _ r.result.plan _ _ a.index.now a.out.now _ _ e.leaves_index e.leaves_out e.met r.result.plan_value r.ensures
