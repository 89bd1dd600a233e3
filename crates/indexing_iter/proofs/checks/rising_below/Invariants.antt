use mathlib.Core.Path.{◌≡◌}
use mathlib.Core.List.{◌∷◌}
use lib.ListN.{drop}
use Rattle.indexing_iter.specs.Checks.{rising_below}
use Rattle.indexing_iter.proofs.checks.rising_below.Given as goal

abbrev pub invariant-loop-start : goal.invariant-loop-start
invariant-loop-start l = rising_below l.n (l.last ∷ drop l.start-index l.start-items) ≡ rising_below l.n l.starts
