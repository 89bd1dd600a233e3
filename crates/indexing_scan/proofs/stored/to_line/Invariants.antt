use mathlib.Core.Path.{◌≡◌}
use Prim.Native.Nat.{◌+◌}
use lib.Seq.{slice}
use Rattle.records.specs.Records.{records_of}
use Rattle.indexing_scan.specs.Places.{through_line}
use Rattle.indexing_scan.proofs.stored.to_line.Given as goal

abbrev pub invariant-loop-i : goal.invariant-loop-i
invariant-loop-i l = let rs = records_of l.stored.index.now in
    l.p + through_line l.d (slice l.p l.stored.count rs) ≡ l.i + through_line l.left (slice l.i l.stored.count rs)
