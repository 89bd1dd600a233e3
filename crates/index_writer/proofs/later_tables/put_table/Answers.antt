-- `later_tables::put_table` writes the table for an argument by the definition's cases: none, dead, on demand. Assumes nothing.
use mathlib.Core.Path.{◌≡◌, sym, ◌∙◌}
use mathlib.Core.List.{◌∷◌, []}
use Prim.Native.Nat.{◌<◌}
use native.Mathlib.Omega.{arith}
use lib.ListN.{length}
use Rattle.records.specs.Records.{rec_of, records_of}
use Rattle.records.proofs.Laws.{length-records_of}
use Rattle.index_writer.proofs.Left.{one-room, room_as, puts_one, puts_none, puts-as}
use Rattle.index_writer.proofs.LineLaws.{table-masked, table-dead, table_none, table-demand}
use Rattle.index_writer.specs.Written.{dead_clauses_by, table_by}
use Rattle.index_writer.proofs.later_tables.put_table.Goals.{Then-not-any_open, Then-settings}
use Rattle.index_writer.proofs.later_tables.put_table.Goals as goal

-- the table is dead
dead : (t : Then-settings) → let a = t.args in table_by a.tables.now a.settings a.i a.b.number ≡ rec_of 4 0 a.b.number 0 0 ∷ dead_clauses_by a.tables.now a.i a.b.number
dead t = let a = t.args in
    table-dead a.tables.now.opens.leaders.now a.tables.now.opens.opens.now a.i a.b.number a.tables.now.offs.now a.settings.mask a.settings.extensible (sym t.masked.ensures ∙ t.if-masked.false) (sym t.any_open.ensures ∙ t.if-not-any_open.false) t.if-settings.true

-- it is on demand, and there is room for it
demand : (t : Then-not-any_open) → let a = t.args in table_by a.tables.now a.settings a.i a.b.number ≡ rec_of 3 0 a.b.number 0 0 ∷ []
demand t = let a = t.args in
    table-demand a.tables.now.opens.leaders.now a.tables.now.opens.opens.now a.i a.b.number a.tables.now.offs.now a.settings.mask a.settings.extensible (sym t.masked.ensures ∙ t.if-masked.false) (sym t.any_open.ensures ∙ t.if-not-any_open.true)

room : (t : Then-not-any_open) → let a = t.args in a.p < length (records_of a.index.now)
room t = one-room (demand t) t.requires

pub returns-then-masked : goal.returns-then-masked
returns-then-masked c = let a = c.args in
    puts_none a.index.now a.p (table-masked a.tables.now.opens.leaders.now a.tables.now.opens.opens.now a.i a.b.number a.tables.now.offs.now a.settings.mask a.settings.extensible (sym c.masked.ensures ∙ c.if-masked.true))

pub put_dead_table-requires : goal.put_dead_table-requires
put_dead_table-requires c =
    room_as c.args.p (dead (goal.at.put_dead_table-requires c).Then-settings) c.requires

pub returns-then-settings : goal.returns-then-settings
returns-then-settings c =
    let a = c.args in
    let w = c.put_dead_table in
    puts-as a.index.now w.new.index a.p w.result (dead (goal.at.returns-then-settings c).Then-settings) w.ensures

pub returns-else-settings : goal.returns-else-settings
returns-else-settings c = let a = c.args in
    puts_none a.index.now a.p
    (table_none a.tables.now.opens.leaders.now a.tables.now.opens.opens.now a.i a.b.number a.tables.now.offs.now a.settings.mask a.settings.extensible (sym c.masked.ensures ∙ c.if-masked.false) (sym c.any_open.ensures ∙ c.if-not-any_open.false) c.if-settings.false)

pub put-requires : goal.put-requires
put-requires c = room (goal.at.put-requires c).Then-not-any_open

pub overflow_add-result : goal.overflow_add-result
overflow_add-result c = omega (arith, room (goal.at.overflow_add-result c).Then-not-any_open, length-records_of c.args.index.now)

pub returns-then-not-any_open : goal.returns-then-not-any_open
returns-then-not-any_open c =
    let a = c.args in
    let w = c.put in
    puts_one a.index.now w.new.index a.p (demand (goal.at.returns-then-not-any_open c).Then-not-any_open) c.table-on_demand.ensures c.requires w.ensures
