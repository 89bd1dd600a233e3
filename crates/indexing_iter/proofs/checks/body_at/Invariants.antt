use mathlib.Core.Path.{◌≡◌}
use lib.ListN.{drop}
use Rattle.records.specs.Records.{records_of}
use Rattle.indexing_iter.proofs.Table.{class_in}
use Rattle.indexing_iter.proofs.FaultLaws.{first_from, says_body}
use Rattle.indexing_iter.proofs.checks.body_at.Given as goal

abbrev pub invariant-loop-i : goal.invariant-loop-i
invariant-loop-i l = let rs = records_of l.clause.code.now in
    let cls = class_in l.clause.table.now in
    first_from (says_body cls) (drop l.i rs) l.i ≡ first_from (says_body cls) rs 0
