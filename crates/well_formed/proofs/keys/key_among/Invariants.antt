use mathlib.Core.Path.{◌≡◌}
use lib.ListN.{drop}
use Rattle.records.specs.Records.{records_of}
use Rattle.well_formed.specs.Pass.{among}
use Rattle.well_formed.proofs.keys.key_among.Given as goal

abbrev pub invariant-loop-i : goal.invariant-loop-i
invariant-loop-i l = among l.r (drop l.i (records_of l.entries)) ≡ among l.r (records_of l.entries)
