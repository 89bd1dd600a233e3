-- The number of offsets. Assumes nothing.
use Rattle.std.proofs.Common.{tests}
use borrow.Author.Rules.{rules}
use Rattle.indexing_scan.specs.Places.{is_offset, offsets_at}
use Rattle.indexing_scan.proofs.stored.count_offsets.Goals as goal

pub returns : goal.returns
unfolding offsets_at
returns c = (c.run_length.ensures.value is_offset (λ r b e. search (rules, tests)), c.run_length.ensures.within)
