-- `columns::lead_columns` finds the leaders, and then counts what each leads. Assumes nothing.
use lib.ListN.{length}
use Rattle.index_writer.proofs.ColumnLaws.{leaders-below}
use Rattle.index_writer.proofs.columns.lead_columns.Goals as goal

pub count_sizes-requires-clause-numbers_below : goal.count_sizes-requires-clause-numbers_below
count_sizes-requires-clause-numbers_below c =
    let f = c.find_leaders in
    leaders-below c.args.keys.now.heads.now c.args.keys.now.bits.now f.new.leaders (length c.args.keys.now.heads.now) f.ensures
