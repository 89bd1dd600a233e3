use Rattle.walk_inputs.specs.Plan.{heard_of}
use Rattle.walk_inputs.specs.Run.{held, Handed}
use Rattle.walk_listing.proofs.print_calls.Given as goal

abbrev pub invariant-loop-i : goal.invariant-loop-i
invariant-loop-i l = Handed (heard_of l.input) (held l.initial.index l.first l.initial.out) l.i (held l.index l.count l.out)
