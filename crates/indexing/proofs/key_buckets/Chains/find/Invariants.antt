use mathlib.Core.Path.{◌≡◌}
use mathlib.Core.Bool.{Bool}
use Prim.Native.Nat.{ℕ, ◌<◌}
use Rattle.indexing.specs.Chains.{Chained}
use Rattle.indexing.proofs.Chains.{Reached, Failed}
use Rattle.indexing.proofs.key_buckets.Chains.find.Given as goal

abbrev pub invariant-loop : goal.invariant-loop
invariant-loop g l = ((holds : ℕ → ℕ → Bool) (n : ℕ) → Chained holds l.self.firsts l.self.links n → Reached holds l.bucket n l.counter l.number)
    × ((holds : ℕ → ℕ → Bool) (n : ℕ) (t : ℕ → Bool) → Chained holds l.self.firsts l.self.links n
    → ((i : ℕ) (b : Bool) → i < n → goal.F-post g l.test i b → b ≡ t i) → Failed holds l.bucket n t l.number)
