use mathlib.Core.Path.{◌≡◌}
use Prim.Native.Nat.{◌+◌, ◌≤◌}
use lib.ListN.{length, drop}
use Rattle.records.specs.Records.{records_of}
use Rattle.indexing.specs.Reading.{parse}
use Rattle.well_formed.proofs.lines_in.Given as goal

abbrev pub invariant-loop-i : goal.invariant-loop-i
invariant-loop-i l = (l.i ≤ length (records_of l.index)) × (l.lines + l.i ≤ length (records_of l.index)) × (l.lines ≡ length (parse (drop l.i (records_of l.index))))
