-- `lines::put_seed` writes the line record, the on-demand record for the argument, and the rest of line 0 after them. Assumes nothing.
use mathlib.Core.Path.{ap}
use native.Mathlib.Omega.{arith}
use lib.ListN.{length}
use Rattle.records.specs.Records.{rec_of}
use Rattle.indexing.specs.Lines.{mode_of}
use Rattle.records.proofs.Grown.{grow-start, grow-one, grow-run, grow-end, grow-as}
use Rattle.index_writer.proofs.LineLaws.{rest_of, seed-parts}
use Rattle.index_writer.proofs.lines.put_seed.Goals as goal

pub put-requires : goal.put-requires
put-requires c =
    let a = c.args in
    omega (arith, ap length (seed-parts a.clauses.now.tables.opens.leaders.now a.clauses.now.tables.opens.opens.now a.clauses.now.tables.offs.now a.clauses.now.tags.now a.switched.settings a.switched.arg), c)

pub put-requires-2 : goal.put-requires-2
put-requires-2 c =
    let a = c.args in
    omega (arith, ap length (seed-parts a.clauses.now.tables.opens.leaders.now a.clauses.now.tables.opens.opens.now a.clauses.now.tables.offs.now a.clauses.now.tags.now a.switched.settings a.switched.arg), c, c.put)

pub put_rest-requires : goal.put_rest-requires
put_rest-requires c =
    let a = c.args in
    omega (arith, ap length (seed-parts a.clauses.now.tables.opens.leaders.now a.clauses.now.tables.opens.opens.now a.clauses.now.tables.offs.now a.clauses.now.tags.now a.switched.settings a.switched.arg), c, c.put-2, c.put)

pub returns : goal.returns
returns c =
    let a = c.args in
    let w = c.put in
    let u = c.put-2 in
    let v = c.put_rest in
    let rest = rest_of a.clauses.now.tables.opens.leaders.now a.clauses.now.tables.opens.opens.now a.clauses.now.tables.offs.now a.clauses.now.tags.now a.switched.settings a.switched.arg 0 in
    let e = seed-parts a.clauses.now.tables.opens.leaders.now a.clauses.now.tables.opens.opens.now a.clauses.now.tables.offs.now a.clauses.now.tags.now a.switched.settings a.switched.arg in
    let g0 = grow-start a.index.now 0 (omega (arith, c)) in
    let g1 = grow-one w.new.index (rec_of 1 (mode_of a.switched.settings.dynamic) 0 0 0) g0 (omega (arith, c, ap length e)) w.auto.index (rw c.line-line.ensures at w.ensures) in
    let g2 = grow-one u.new.index (rec_of 3 0 a.switched.arg 0 0) g1 (omega (arith, c, ap length e)) u.auto.index (rw c.table-on_demand.ensures at u.ensures) in
    let g3 = grow-run v.new.index v.result rest g2 v.ensures.0 (omega (arith, c, ap length e, v.ensures.0)) v.auto.index v.ensures.1 in
    record {
      value = omega (arith, (grow-as e g3).next);
      wrote = grow-end (grow-as e g3);
    }
