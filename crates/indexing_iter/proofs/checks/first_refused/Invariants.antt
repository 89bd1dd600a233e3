use mathlib.Core.Path.{◌≡◌}
use lib.ListN.{drop}
use Rattle.records.specs.Records.{records_of}
use Rattle.indexing_iter.specs.Clauses.{clauses_of}
use Rattle.indexing_iter.proofs.Table.{class_in}
use Rattle.indexing_iter.proofs.FaultLaws.{refused_from}
use Rattle.indexing_iter.proofs.checks.first_refused.Given as goal

abbrev pub invariant-loop-k : goal.invariant-loop-k
invariant-loop-k l =
    let s = l.clauses in
    let rs = records_of s.reader.code.now in
    let cs = clauses_of rs s.starts.now in
    let cls = class_in s.reader.table.now in
    refused_from cls s.arity rs s.starts.now (drop l.k cs) l.k ≡ refused_from cls s.arity rs s.starts.now cs 0
