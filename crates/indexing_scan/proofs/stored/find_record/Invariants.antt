use Rattle.records.specs.declared.Rec.{Rec}
use mathlib.Core.Bool.{Bool}
use Rattle.records.specs.Records.{records_of}
use Rattle.indexing_scan.specs.Tests.{Computes}
use Rattle.indexing_scan.proofs.Turns.{Seeks}
use Rattle.indexing_scan.proofs.stored.find_record.Given as goal

abbrev pub invariant-loop-i : goal.invariant-loop-i
invariant-loop-i g l = (t : Rec → Bool) → Computes (goal.F-post g l.test) t → Seeks t (records_of l.run) l.i
