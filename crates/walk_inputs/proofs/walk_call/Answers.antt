-- The walk of what is read, in the front of the buffers. Assumes nothing.
use Rattle.walk_inputs.proofs.RunLaws.{walked-run}
use Rattle.walk_inputs.proofs.walk_call.Goals as goal

pub returns : goal.returns
returns c = let a = c.args in
    let r = c.read-input in
    let e = c.run_cut.ensures in
    walked-run c.run_cut.result _ r.result.bytes.now r.result.plan a.i a.count _ _ _ _ a.index.now a.out.now _ _ e.leaves_index e.leaves_out e.shows_index e.shows_out
    e.met r.result.plan_value r.ensures
