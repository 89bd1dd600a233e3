-- `later_tables::tables_room` counts the records of a line's tables: after t turns those of t tables. Assumes nothing.
use mathlib.Core.Path.{◌≡◌, refl, ap, ◌∙◌}
use Prim.Native.Nat.{ℕ, ◌+◌}
use native.Mathlib.Omega.{arith}
use lib.ListN.{length}
use Rattle.indexing.specs.Upto.{list_to}
use Rattle.indexing.specs.Columns.{table_at, tables_at}
use Rattle.index_writer.proofs.LineLaws.{length_more}
use Rattle.index_writer.proofs.later_tables.tables_room.Goals as goal

pub loop-t-init : goal.loop-t-init
unfolding list_to
loop-t-init c = (omega arith, omega arith, λ offs. refl)

pub loop-t-preserved : goal.loop-t-preserved
loop-t-preserved c =
    let a = c.args in (
      omega arith,
      omega arith,
      λ offs. omega (
        arith,
        c.loop-t.invariant.2 offs,
        c.table_room-room.ensures.by_index offs,
        length_more (λ t. table_at a.opens.now.leaders.now a.opens.now.opens.now offs a.settings.mask a.settings.extensible a.i (a.b + t)) c.loop-t.t,
      ),
    )

pub returns-clause-by_index : goal.returns-clause-by_index
unfolding tables_at
returns-clause-by_index c =
    let a = c.args in
    let e : c.loop-t.t ≡ a.k = omega arith in λ offs. c.loop-t.invariant.2 offs ∙ ap (λ (x : ℕ). length (list_to (λ t. table_at a.opens.now.leaders.now a.opens.now.opens.now offs a.settings.mask a.settings.extensible a.i (a.b + t)) x)) e
