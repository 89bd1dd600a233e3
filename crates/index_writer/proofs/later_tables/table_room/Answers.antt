-- `later_tables::table_room` counts the records of a table by the definition's cases. Assumes nothing.
use mathlib.Core.Path.{sym, ap, ◌∙◌}
use native.Mathlib.Omega.{arith}
use lib.ListN.{length}
use Rattle.index_writer.proofs.LineLaws.{table-masked, table-dead, table_none, table-demand, length-dead}
use Rattle.index_writer.proofs.later_tables.table_room.Goals as goal

pub returns-then-masked-clause-by_index : goal.returns-then-masked-clause-by_index
returns-then-masked-clause-by_index c = let a = c.args in
    λ offs. sym (ap length (table-masked a.opens.now.leaders.now a.opens.now.opens.now a.i a.b.number offs a.settings.mask a.settings.extensible (sym c.masked.ensures ∙ c.if-masked.true)))

pub returns-then-settings-clause-by_index : goal.returns-then-settings-clause-by_index
returns-then-settings-clause-by_index c = let a = c.args in
    let e = sym c.masked.ensures ∙ c.if-masked.false in
    let f = sym c.any_open.ensures ∙ c.if-not-any_open.false in λ offs. omega (arith, ap length (table-dead a.opens.now.leaders.now a.opens.now.opens.now a.i a.b.number offs a.settings.mask a.settings.extensible e f c.if-settings.true), length-dead a.opens.now.leaders.now a.opens.now.opens.now a.i a.b.number offs, c.count_open.ensures.value)

pub returns-else-settings-clause-by_index : goal.returns-else-settings-clause-by_index
returns-else-settings-clause-by_index c = let a = c.args in
    let e = sym c.masked.ensures ∙ c.if-masked.false in
    let f = sym c.any_open.ensures ∙ c.if-not-any_open.false in
    λ offs. sym (ap length (table_none a.opens.now.leaders.now a.opens.now.opens.now a.i a.b.number offs a.settings.mask a.settings.extensible e f c.if-settings.false))

pub returns-then-not-any_open-clause-by_index : goal.returns-then-not-any_open-clause-by_index
returns-then-not-any_open-clause-by_index c = let a = c.args in
    let e = sym c.masked.ensures ∙ c.if-masked.false in
    let f = sym c.any_open.ensures ∙ c.if-not-any_open.true in
    λ offs. sym (ap length (table-demand a.opens.now.leaders.now a.opens.now.opens.now a.i a.b.number offs a.settings.mask a.settings.extensible e f))
