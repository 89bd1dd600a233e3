use mathlib.Core.Path.{◌≡◌}
use mathlib.Core.Bool.{Bool}
use Prim.Native.Nat.{ℕ, ◌≤◌, ◌<◌}
use Rattle.indexing.specs.Upto.{count_to}
use Rattle.index_writer.proofs.counting.count_if.Given as goal

abbrev pub invariant-loop-i : goal.invariant-loop-i
invariant-loop-i g l = (l.i ≤ l.n) × (l.k ≤ l.i)
    × ((t : ℕ → Bool) → ((i : ℕ) (b : Bool) → i < l.n → goal.F-post g l.passes i b → b ≡ t i) → l.k ≡ count_to t l.i)
