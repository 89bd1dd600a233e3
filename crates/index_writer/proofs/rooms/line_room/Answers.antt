-- `rooms::line_room` counts the line record and the rest of the line. Assumes nothing.
use mathlib.Core.Path.{ap}
use native.Mathlib.Omega.{arith}
use lib.ListN.{length}
use Rattle.index_writer.proofs.LineLaws.{line-parts}
use Rattle.index_writer.proofs.rooms.line_room.Goals as goal

pub returns-clause-by_index : goal.returns-clause-by_index
returns-clause-by_index c = let a = c.args in λ heads offs tags number. omega (arith, ap length (line-parts a.opens.now.leaders.now a.opens.now.opens.now offs tags a.switched.settings a.switched.arg a.i heads number), c.rest_room.ensures.by_index offs tags)
