-- `expansion::count_new_lines` counts the lines of the three groups. Assumes nothing.
use Rattle.indexing.specs.Expanding.{lines_made}
use native.Mathlib.Omega.{arith}
use Rattle.indexing_builder.proofs.expansion.count_new_lines.Goals as goal

pub returns-clause-value : goal.returns-clause-value
unfolding lines_made
returns-clause-value c = omega (arith, rw c.from.ensures at c.count_lines-structures.ensures.value, rw c.from-2.ensures at c.count_lines-literals.ensures.value)
