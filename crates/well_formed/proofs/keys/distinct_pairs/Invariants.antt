use mathlib.Core.Path.{◌≡◌}
use lib.ListN.{drop}
use Rattle.records.specs.Records.{records_of}
use Rattle.well_formed.specs.Pass.{distinct_keys}
use Rattle.well_formed.proofs.keys.distinct_pairs.Given as goal

abbrev pub invariant-loop-i : goal.invariant-loop-i
invariant-loop-i l = distinct_keys (drop l.i (records_of l.entries)) ≡ distinct_keys (records_of l.entries)
