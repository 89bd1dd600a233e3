use mathlib.Core.Path.{◌≡◌}
use mathlib.Core.List.{List}
use Prim.Native.Nat.{ℕ}
use lib.ListN.{length}
use Rattle.indexing_scan.specs.Walk.{Result}
use Rattle.indexing_walk.specs.Walking.{Stands, Comes, rest_of, Kept, turns_left}
use Rattle.indexing_walk.proofs.walk_lines.Given as goal

abbrev pub invariant-loop-v : goal.invariant-loop-v
invariant-loop-v l = Stands l.query.program.settings l.query.program.starts.now l.index l.w
    × ((W : Result) → Comes W l.initial.w.tables (rest_of l.query.program.code.now l.query.program.starts.now l.query.program.settings l.query.call.now l.initial.index l.initial.w) → Comes W l.w.tables (rest_of l.query.program.code.now l.query.program.starts.now l.query.program.settings l.query.call.now l.index l.w))
    × ((b₀ : List ℕ) → Kept l.query.program.settings b₀ l.initial.index l.initial.w.count → Kept l.query.program.settings b₀ l.index l.w.count)
    × (length l.index ≡ length l.initial.index)

abbrev pub decreases-loop-v : goal.decreases-loop-v
decreases-loop-v l = turns_left l.query.program.settings l.index l.w
