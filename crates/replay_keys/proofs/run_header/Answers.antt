-- The code is within the input. Assumes nothing.
use native.Mathlib.Omega.{arith}
use Rattle.records.proofs.Laws.{length-records_of}
use Rattle.replay_keys.proofs.run_header.Goals as goal

pub slice_bounds-show_case-end : goal.slice_bounds-show_case-end
slice_bounds-show_case-end c = omega (arith, length-records_of c.args.rest.now)
