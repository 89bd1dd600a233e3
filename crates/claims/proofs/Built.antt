-- The built index selects every clause that agrees: it is the expansion of line 0 as it is before its switch is made, so it answers as that does.
-- Assumes nothing.
use mathlib.Core.Path.{◌≡◌}
use mathlib.Core.List.{List, []}
use Prim.Native.Nat.{ℕ, ◌<◌}
use native.Mathlib.Omega.{arith}
use lib.ListN.{length}
use Rattle.indexing.proofs.Built.{seed-clauses, seed-demand, seed-length, seed-switch, seed-closed, built-is-expanded}
use Rattle.indexing.specs.Build.{Program, open_at, build}
use Rattle.indexing.specs.Seed.{seed}
use Rattle.indexing_scan.proofs.Same.{kept, same_from}
use Rattle.indexing_scan.specs.Agree.{Call, agree}
use Rattle.indexing_scan.specs.ByArgument.{answer}
use Rattle.indexing_scan.specs.Walk.{line}
use Rattle.claims.proofs.Selects.{Selects, selects-from, agree_at_lem}

-- every clause that agrees is selected, once and in order
pub built-selects : (P : Program) (c : ℕ) (os : List ℕ) → open_at P c os ≡ [] → (Q : Call) → Selects (agree P Q) os (answer P Q (build P c os)).offsets
built-selects P c os keyed Q =
    let one : 0 < length (seed P c os) = omega (arith, seed-length P c os) in
    rw (built-is-expanded P c os keyed, same_from P (seed P c os) 0 c c one (seed-demand P c os) (seed-closed P c os) Q P.arity 1 (omega arith) (kept {m = 0} one))
    (rw (seed-clauses P c os) at
    (selects-from P Q (agree P Q) (agree_at_lem P Q) P.arity 1 (omega arith) (omega arith) (seed P c os) (line 0) (λ b. seed-switch P c os 0 b)))
