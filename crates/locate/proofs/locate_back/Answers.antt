-- The first clause that is refused, or else the first that is open at j. Assumes nothing.
use Rattle.records.specs.Records.{records_of}
use Rattle.indexing_iter.proofs.Table.{class_in}
use Rattle.locate.proofs.LocateLaws.{back-refused}
use Rattle.locate.proofs.locate_back.Goals as goal

pub returns-in-Some : goal.returns-in-Some
returns-in-Some c = let a = c.args in let l = a.c.now in
    back-refused (class_in l.reader.table.now) l.arity a.j (records_of l.reader.code.now) l.starts.now c.in-Some.fault c.in-Some.ensures
