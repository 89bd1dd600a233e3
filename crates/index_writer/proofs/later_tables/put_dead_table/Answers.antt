-- `later_tables::put_dead_table` writes the dead table's record, and its clauses after it. Assumes nothing.
use native.Mathlib.Omega.{arith}
use mathlib.Core.Path.{refl}
use mathlib.Core.List.{◌∷◌}
use Prim.Native.Nat.{◌+◌}
use Rattle.records.specs.Records.{rec_of}
use Rattle.records.proofs.Laws.{length-records_of}
use Rattle.index_writer.proofs.Left.{Left, left-start, left-place, left_one, left-all}
use Rattle.index_writer.specs.Written.{dead_clauses_by}
use Rattle.index_writer.proofs.later_tables.put_dead_table.Goals.{After-put, Start}
use Rattle.index_writer.proofs.later_tables.put_dead_table.Goals as goal

-- all is left to write, and then the clauses
begin : (s : Start)
    → let a = s.args in
    let t = rec_of 4 0 a.b.number 0 0 ∷ dead_clauses_by a.tables.now a.i a.b.number in
    Left a.index.now a.p t a.p t a.index.now
begin s = left-start s.args.index.now s.args.p _ _ refl s.requires

after-record : (c : After-put)
    → let a = c.args in
    let clauses = dead_clauses_by a.tables.now a.i a.b.number in
    Left a.index.now a.p (rec_of 4 0 a.b.number 0 0 ∷ clauses) (a.p + 1) clauses c.put.new.index
after-record c =
    left_one c.put.new.index _ _ (left-start c.args.index.now c.args.p _ _ refl c.requires) c.put.auto.index (rw c.table-dead.ensures at c.put.ensures)

pub put-requires : goal.put-requires
put-requires c = left-place _ _ (begin (goal.at.put-requires c).Start)

pub overflow_add-p : goal.overflow_add-p
overflow_add-p c =
    omega (arith, left-place _ _ (begin (goal.at.overflow_add-p c).Start), length-records_of c.args.index.now)

pub put_dead_clauses-requires : goal.put_dead_clauses-requires
put_dead_clauses-requires c =
    (after-record (goal.at.put_dead_clauses-requires c).After-put).room

pub returns : goal.returns
returns c = let w = c.put_dead_clauses in
    left-all w.new.index w.result _ (after-record (goal.at.returns c).After-put) w.ensures.0 w.auto.index w.ensures.1
