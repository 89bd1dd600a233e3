-- `lines::put_rest` writes the tables of a line, and its offsets after them. Assumes nothing.
use mathlib.Core.Path.{refl}
use Rattle.index_writer.proofs.Left.{Left, left-start, left-room, left-run, left-all}
use Rattle.index_writer.proofs.LineLaws.{tables_of, choices_of, rest_of}
use Rattle.index_writer.proofs.lines.put_rest.Goals.{After-put_tables-q, Start}
use Rattle.index_writer.proofs.lines.put_rest.Goals as goal

-- all is left to write, and then the offsets
begin : (s : Start)
    → let a = s.args in
    let rest = rest_of a.clauses.now.tables.opens.leaders.now a.clauses.now.tables.opens.opens.now a.clauses.now.tables.offs.now a.clauses.now.tags.now a.switched.settings a.switched.arg a.i in
    Left a.index.now a.p rest a.p rest a.index.now
begin s = left-start s.args.index.now s.args.p _ _ refl s.requires

after-tables : (c : After-put_tables-q)
    → let a = c.args in
    Left a.index.now a.p (rest_of a.clauses.now.tables.opens.leaders.now a.clauses.now.tables.opens.opens.now a.clauses.now.tables.offs.now a.clauses.now.tags.now a.switched.settings a.switched.arg a.i) c.put_tables-q.result
    (choices_of a.clauses.now.tables.opens.leaders.now a.clauses.now.tables.opens.opens.now a.clauses.now.tables.offs.now a.clauses.now.tags.now a.switched.settings a.switched.arg a.i) c.put_tables-q.new.index
after-tables c =
    let w = c.put_tables-q in
    left-run w.new.index w.result _ _ (left-start c.args.index.now c.args.p _ _ refl c.requires) w.ensures.0 w.auto.index w.ensures.1

pub put_tables-q-requires-clause-k_in_bounds : goal.put_tables-q-requires-clause-k_in_bounds
put_tables-q-requires-clause-k_in_bounds c =
    let a = c.args in
    let tables = tables_of a.clauses.now.tables.opens.leaders.now a.clauses.now.tables.opens.opens.now a.clauses.now.tables.offs.now a.clauses.now.tags.now a.switched.settings a.switched.arg a.i in
    let choices = choices_of a.clauses.now.tables.opens.leaders.now a.clauses.now.tables.opens.opens.now a.clauses.now.tables.offs.now a.clauses.now.tags.now a.switched.settings a.switched.arg a.i in
    left-room tables choices (begin (goal.at.put_tables-q-requires-clause-k_in_bounds c).Start)

pub put_choices-requires-clause-i_in_bounds : goal.put_choices-requires-clause-i_in_bounds
put_choices-requires-clause-i_in_bounds c = (after-tables (goal.at.put_choices-requires-clause-i_in_bounds c).After-put_tables-q).room

pub returns : goal.returns
returns c = let w = c.put_choices in
    left-all w.new.index w.result _ (after-tables (goal.at.returns c).After-put_tables-q) w.ensures.0 w.auto.index w.ensures.1
