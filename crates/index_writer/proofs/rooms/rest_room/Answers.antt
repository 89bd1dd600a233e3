-- `rooms::rest_room` counts the records of a line's tables and offsets. Assumes nothing.
use native.Mathlib.Omega.{arith}
use Rattle.index_writer.proofs.LineLaws.{length_rest}
use Rattle.index_writer.proofs.rooms.rest_room.Goals as goal

pub returns-clause-by_index : goal.returns-clause-by_index
returns-clause-by_index c = let a = c.args in λ offs tags. omega (arith, length_rest a.opens.now.leaders.now a.opens.now.opens.now offs tags a.switched.settings a.switched.arg a.i, c.tables_room.ensures.by_index offs, c.count_members.ensures.value)
