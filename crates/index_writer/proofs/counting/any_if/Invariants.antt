use mathlib.Core.Path.{◌≡◌}
use mathlib.Core.Bool.{Bool, false}
use Prim.Native.Nat.{ℕ, ◌≤◌, ◌<◌}
use Rattle.indexing.specs.Upto.{any_to}
use Rattle.index_writer.proofs.counting.any_if.Given as goal

abbrev pub invariant-loop-i : goal.invariant-loop-i
invariant-loop-i g l = (l.i ≤ l.n)
    × ((t : ℕ → Bool) → ((i : ℕ) (b : Bool) → i < l.n → goal.F-post g l.passes i b → b ≡ t i) → any_to t l.i ≡ false)
