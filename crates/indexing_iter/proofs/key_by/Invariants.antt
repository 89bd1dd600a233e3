use mathlib.Core.Path.{◌≡◌}
use lib.ListN.{drop}
use Rattle.records.specs.Records.{records_of}
use Rattle.indexing_iter.specs.Keys.{key_in}
use Rattle.indexing_iter.proofs.Table.{class_in}
use Rattle.indexing_iter.proofs.key_by.Given as goal

abbrev pub invariant-loop-i : goal.invariant-loop-i
invariant-loop-i l = let rs = records_of l.clause.code.now in
    key_in (class_in l.clause.table.now) (drop l.i rs) l.j ≡ key_in (class_in l.clause.table.now) rs l.j
