use mathlib.Core.Path.{sym, ◌∙◌}
use native.Mathlib.Omega.{arith}
use lib.ListN.{length}
use Rattle.indexing_scan.proofs.CallLaws.{call-records}
use Rattle.indexing_walk.proofs.StandLaws.{ready-in}
use Rattle.indexing_walk.proofs.TurnLaws.{AtTable, table-in, turn-open}
use Rattle.indexing_walk.proofs.ReadyLaws.{small, table-range, to-pass}
use Rattle.indexing_walk.proofs.LineLaws.{place_in}
use Rattle.indexing_walk.proofs.NarrowLaws.{end-room, turn_end}
use Rattle.indexing_walk.proofs.turns.turn.Goals.{After-from-a}
use Rattle.indexing_walk.proofs.turns.turn.Goals as goal

-- the record at the walk's place is a table's
table : (c : After-from-a) → let a = c.args in AtTable a.query.now.program.code.now a.query.now.program.starts.now a.query.now.program.settings a.index.now a.w c.from-a.result
table c = let r = c.record_in-r in table-in c.args.query.now.program c.requires r.result r.ensures (sym c.is_table.ensures ∙ c.if-not-is_table.false) c.from-a.ensures

pub record_in-r-requires : goal.record_in-r-requires
record_in-r-requires c = (place_in (ready-in c.args.query.now.program c.requires)).1

pub end_line-requires : goal.end_line-requires
end_line-requires c =
    let r = ready-in c.args.query.now.program c.requires in
    let d = c.record_in-r in
    record {
      at_le_count = ((place_in r).0, (place_in r).1, (small r).0);
      at_in_bounds = end-room r d.result d.ensures (sym c.is_table.ensures ∙ c.if-not-is_table.true) (length c.args.list.now) (omega arith);
    }

pub returns-then-not-is_table : goal.returns-then-not-is_table
returns-then-not-is_table c =
    let d = c.record_in-r in
    let e = c.end_line in
    turn_end (ready-in c.args.query.now.program c.requires) d.result d.ensures (sym c.is_table.ensures ∙ c.if-not-is_table.true) c.args.query.now.call.now e.new.list c.args.list.now e.result
    e.ensures.value e.ensures.list_after

pub call_key-q-requires : goal.call_key-q-requires
call_key-q-requires c =
    let r = table-range (table (goal.at.call_key-q-requires c).After-from-a) in
    (r.0, omega (arith, r.1, call-records c.args.query.now.program.settings.arity c.args.query.now.call.now c.args.query.now.checked))

pub pass_table-requires : goal.pass_table-requires
pass_table-requires c = to-pass (table (goal.at.pass_table-requires c).After-from-a)

pub returns-then-is_open : goal.returns-then-is_open
returns-then-is_open c = let k = c.call_key-q in
    turn-open (table (goal.at.returns-then-is_open c).After-from-a) c.args.query.now.call.now k.result k.ensures (sym c.is_open.ensures ∙ c.if-is_open.true)
    c.pass_table.result c.pass_table.ensures
