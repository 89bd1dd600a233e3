use mathlib.Core.Path.{◌≡◌}
use lib.ListN.{length, take}
use Rattle.well_formed.specs.Pass.{Marks}
use Rattle.well_formed.proofs.mark_starts.Given as goal

abbrev pub invariant-loop-start : goal.invariant-loop-start
invariant-loop-start l = (length l.marks ≡ length l.initial.marks) × Marks l.marks (take l.start-index l.starts)
