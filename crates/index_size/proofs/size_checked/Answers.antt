-- `size_checked` fills the columns of all clauses and counts the index's records by them. Assumes nothing.
use Rattle.index_size.proofs.SizeLaws.{counted-by}
use Rattle.index_size.proofs.size_checked.Goals as goal

pub returns : goal.returns
returns c =
    let C = c.fill.result.1 in
    counted-by c.args.build.now.chosen c.fill.ensures c.index_room.result (c.index_room.ensures C.bits.now C.lines.offs.now C.lines.tags.now)
