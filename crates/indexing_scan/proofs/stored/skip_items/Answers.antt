-- The place behind a table. Assumes nothing.
use mathlib.Core.Path.{ap}
use Prim.Native.Nat.{ℕ, ◌+◌}
use native.Mathlib.Omega.{arith}
use Rattle.std.proofs.Common.{tests}
use borrow.Author.Rules.{rules}
use Rattle.indexing_scan.specs.Places.{is_item, behind_table}
use Rattle.indexing_scan.proofs.stored.skip_items.Goals as goal

pub returns : goal.returns
unfolding behind_table
returns c =
    let r = c.run_length in
    (ap (λ (k : ℕ). c.args.p + 1 + k) (r.ensures.value is_item (λ r b e. search (rules, tests))), omega arith, omega (arith, r.ensures.within))
