-- `lines::put_line` writes the line record, and the rest of the line after it. Assumes nothing.
use mathlib.Core.Path.{ap}
use mathlib.Core.List.{[]}
use native.Mathlib.Omega.{arith}
use lib.ListN.{length}
use Rattle.records.specs.Records.{rec_of}
use Rattle.indexing.specs.Lines.{mode_of}
use Rattle.records.proofs.Laws.{length-records_of}
use Rattle.records.proofs.Grown.{grow-start, grow-one, grow-run, grow-end, grow-as}
use Rattle.index_writer.proofs.LineLaws.{rest_of, line-parts}
use Rattle.index_writer.proofs.lines.put_line.Goals as goal

pub put-requires : goal.put-requires
put-requires c =
    let a = c.args in
    let e = line-parts a.clauses.now.tables.opens.leaders.now a.clauses.now.tables.opens.opens.now a.clauses.now.tables.offs.now a.clauses.now.tags.now a.switched.settings a.switched.arg a.i [] a.number in
    omega (arith, ap length e, c)

pub overflow_add-p : goal.overflow_add-p
overflow_add-p c =
    let a = c.args in
    let e = line-parts a.clauses.now.tables.opens.leaders.now a.clauses.now.tables.opens.opens.now a.clauses.now.tables.offs.now a.clauses.now.tags.now a.switched.settings a.switched.arg a.i [] a.number in
    omega (arith, ap length e, c, length-records_of a.index.now)

pub put_rest-requires : goal.put_rest-requires
put_rest-requires c =
    let a = c.args in
    let e = line-parts a.clauses.now.tables.opens.leaders.now a.clauses.now.tables.opens.opens.now a.clauses.now.tables.offs.now a.clauses.now.tags.now a.switched.settings a.switched.arg a.i [] a.number in
    omega (arith, ap length e, c, c.put)

pub returns : goal.returns
returns c =
    let a = c.args in
    let w = c.put in
    let v = c.put_rest in
    let rest = rest_of a.clauses.now.tables.opens.leaders.now a.clauses.now.tables.opens.opens.now a.clauses.now.tables.offs.now a.clauses.now.tags.now a.switched.settings a.switched.arg a.i in
    let e = line-parts a.clauses.now.tables.opens.leaders.now a.clauses.now.tables.opens.opens.now a.clauses.now.tables.offs.now a.clauses.now.tags.now a.switched.settings a.switched.arg a.i [] a.number in
    let g0 = grow-start a.index.now a.p (omega (arith, c)) in
    let g1 = grow-one w.new.index (rec_of 1 (mode_of a.switched.settings.dynamic) 0 a.number 0) g0 (omega (arith, c, ap length e)) w.auto.index (rw c.line-line.ensures at w.ensures) in
    let g2 = grow-run v.new.index v.result rest g1 v.ensures.0 (omega (arith, c, ap length e, v.ensures.0)) v.auto.index v.ensures.1 in
    ((grow-as e g2).next, grow-end (grow-as e g2))
