-- A clause starts before it ends, and ends within the code; its records are those between. Assumes nothing.
use Prim.Native.Nat.{◌+◌, ◌<◌}
use native.Mathlib.Omega.{arith}
use lib.ListN.{length, get_or, drop}
use Rattle.records.specs.Records.{records_of}
use Rattle.indexing_iter.proofs.CheckLaws.{start_below, end_below, rising-drop}
use Rattle.indexing_iter.proofs.FaultLaws.{clause-is}
use Rattle.indexing_iter.proofs.clauses.Clauses.clause.Goals as goal

pub part-requires : goal.part-requires
part-requires c =
    let s = c.args.self.now in
    let n = length (records_of s.reader.code.now) in
    let i = c.args.i in
    let e = rw c.capacity.ensures at c.clause_end-end.ensures in
    let low : get_or s.starts.now i 0 < c.clause_end-end.result = rw e (start_below n s.starts.now i s.rising c.requires) in
    (omega arith, rw e (end_below n (drop (i + 1) s.starts.now) (rising-drop n s.starts.now (i + 1) s.rising)))

pub returns-clause-records : goal.returns-clause-records
returns-clause-records c =
    let s = c.args.self.now in
    let rs = records_of s.reader.code.now in
    rw (clause-is rs s.starts.now _ c.args.i _ c.requires c.capacity.ensures c.clause_end-end.ensures) c.part.ensures
