-- The length of a run. Assumes nothing.
use borrow.Author.Rules.{rules}
use mathlib.Core.Path.{ap, ◌∙◌}
use Rattle.std.proofs.Common.{tests}
use Rattle.indexing_scan.specs.Places.{leaves, up_to}
use Rattle.indexing_scan.proofs.stored.run_length.Goals as goal

pub returns-clause-value : goal.returns-clause-value
unfolding leaves
returns-clause-value g c = λ t h. c.find_record.ensures.first (leaves t) (λ r b e. search (rules, tests, h)) ∙ ap (up_to (leaves t)) c.part-rest.ensures
