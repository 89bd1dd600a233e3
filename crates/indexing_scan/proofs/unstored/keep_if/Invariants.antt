use Prim.Native.Nat.{ℕ, ◌≤◌}
use mathlib.Core.Path.{◌≡◌}
use mathlib.Core.Bool.{Bool}
use lib.ListN.{length, get_or}
use Rattle.indexing_iter.specs.declared.OptArgIndexKey.{OptArgIndexKey as Key}
use Rattle.indexing_scan.specs.Tests.{Computes}
use Rattle.indexing_iter.specs.Readings.{keys_by}
use Rattle.indexing_scan.proofs.HeldLaws.{Kept}
use Rattle.indexing_scan.proofs.unstored.keep_if.Given as goal

abbrev pub invariant-loop-i : goal.invariant-loop-i
invariant-loop-i g l =
    let p = l.program in
    let K = keys_by p in
    (length l.clauses ≡ length l.initial.clauses) × (l.k ≤ l.i)
    × ((j : ℕ) → l.i ≤ j → get_or l.clauses j 0 ≡ get_or l.initial.clauses j 0)
    × ((t : Key → Bool) → Computes (goal.F-post g l.test) t → Kept (λ o. t (K o l.a)) l.initial.clauses l.i l.k l.clauses)
