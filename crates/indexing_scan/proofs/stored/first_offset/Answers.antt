-- The place behind all tables. Assumes nothing.
use mathlib.Core.Path.{ap}
use Prim.Native.Nat.{ℕ, ◌+◌}
use Rattle.std.proofs.Common.{tests}
use borrow.Author.Rules.{rules}
use Rattle.indexing_scan.specs.Places.{is_tables, first_offset}
use Rattle.indexing_scan.proofs.stored.first_offset.Goals as goal

pub returns : goal.returns
unfolding first_offset
returns c = (ap (λ (k : ℕ). c.args.p + k) (c.run_length.ensures.value is_tables (λ r b e. search (rules, tests))), c.run_length.ensures.within)
