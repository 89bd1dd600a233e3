use mathlib.Core.Path.{◌≡◌}
use lib.ListN.{drop}
use Rattle.records.specs.Records.{records_of}
use Rattle.indexing_iter.proofs.Table.{class_in}
use Rattle.indexing_iter.proofs.FaultLaws.{through_from}
use Rattle.indexing_iter.proofs.checks.pass_through.Given as goal

abbrev pub invariant-loop-i : goal.invariant-loop-i
invariant-loop-i l = let rs = records_of l.clause.code.now in
    let cls = class_in l.clause.table.now in
    through_from cls l.arity (drop l.i rs) l.last l.i ≡ through_from cls l.arity rs 0 0
