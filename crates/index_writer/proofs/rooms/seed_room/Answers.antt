-- `rooms::seed_room` counts the two first records of line 0 and the rest of it. Assumes nothing.
use mathlib.Core.Path.{ap}
use native.Mathlib.Omega.{arith}
use lib.ListN.{length}
use Rattle.index_writer.proofs.LineLaws.{seed-parts}
use Rattle.index_writer.proofs.rooms.seed_room.Goals as goal

pub returns-clause-by_index : goal.returns-clause-by_index
returns-clause-by_index c = let a = c.args in λ offs tags. omega (arith, ap length (seed-parts a.opens.now.leaders.now a.opens.now.opens.now offs tags a.switched.settings a.switched.arg), c.rest_room.ensures.by_index offs tags)
