-- Number 12 with small tables or with large ones. Assumes nothing.
use native.Mathlib.Omega.{arith}
use Rattle.well_formed.proofs.Marking.{rising-higher}
use Rattle.well_formed.proofs.well_formed.Goals as goal

pub formed_in-requires-clause-starts_value : goal.formed_in-requires-clause-starts_value
formed_in-requires-clause-starts_value c = rising-higher 2047 c.args.n c.args.starts.now (omega arith) c.requires.starts_value.0

pub formed_in-requires-else-n-le2047-clause-starts_value : goal.formed_in-requires-else-n-le2047-clause-starts_value
formed_in-requires-else-n-le2047-clause-starts_value c = rising-higher 32768 c.args.n c.args.starts.now c.requires.starts_value.1 c.requires.starts_value.0
