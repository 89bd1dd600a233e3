-- `Keys::same_at` compares the two numbers of the keys. Assumes nothing.
use Rattle.indexing.specs.Columns.{same_at}
use Rattle.index_writer.proofs.keys.Keys.same_at.Goals as goal

pub returns : goal.returns
unfolding same_at
returns c = c.same_bits.ensures
