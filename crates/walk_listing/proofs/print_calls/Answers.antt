-- Each call gets what the one before it left. Assumes nothing.
use Rattle.walk_inputs.specs.Run.{at_first, onward}
use Rattle.walk_listing.proofs.print_calls.Goals as goal

pub loop-i-init : goal.loop-i-init
loop-i-init c = at_first

pub loop-i-preserved : goal.loop-i-preserved
loop-i-preserved c = let w = c.walk_call-a in
    rw c.next_count-count.ensures (onward w.result _ _ c.loop-i.invariant w.ensures)
