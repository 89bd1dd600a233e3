-- The class table gives document 01's classes: one test, computed over its 256 entries. Assumes nothing.
use mathlib.Core.Path.{refl}
use Rattle.indexing_iter.specs.Classes.{class_of}
use Rattle.indexing_iter.proofs.Table.{by-test}
use Rattle.indexing_iter.proofs.classes.Goals as goal

pub returns : goal.returns
unfolding class_of
returns c = by-test _ refl (λ k. refl)
