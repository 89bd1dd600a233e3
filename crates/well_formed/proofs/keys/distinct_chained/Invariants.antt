use Prim.Native.Nat.{◌≤◌}
use lib.ListN.{length}
use Rattle.records.specs.Records.{records_of}
use Rattle.well_formed.proofs.ChainLaws.{ReadFrom}
use Rattle.well_formed.proofs.keys.distinct_chained.Given as goal

abbrev pub invariant-loop-i : goal.invariant-loop-i
invariant-loop-i g l = (l.i ≤ length (records_of l.entries)) × ReadFrom (records_of l.entries) g.row.BUCKETS l.chains.firsts l.chains.links l.i
