use mathlib.Core.Path.{◌≡◌}
use lib.ListN.{length}
use Rattle.records.specs.Records.{records_of}
use Rattle.records.proofs.Run.{Run}
use Rattle.records.proofs.put_run.Given as goal

abbrev pub invariant-loop-i : goal.invariant-loop-i
invariant-loop-i l = (l.n ≡ length (records_of l.run)) × Run l.initial.index l.at (records_of l.run) l.index l.i
