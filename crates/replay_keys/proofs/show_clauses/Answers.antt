-- The offset of each clause of checked code is known, and small. Assumes nothing.
use Prim.Native.Nat.{ℕ, ◌+◌, ◌<◌, ◌≤◌}
use mathlib.Core.Path.{◌≡◌}
use mathlib.Core.Bool.{true}
use native.Mathlib.Omega.{arith}
use lib.ListN.{length, get_or}
use Rattle.indexing_iter.specs.declared.program.Program.{Program}
use Rattle.indexing_iter.specs.Classes.{class_of}
use Rattle.indexing_iter.specs.Clauses.{known}
use Rattle.replay_keys.proofs.Laws.{offset_at}
use Rattle.replay_keys.proofs.show_clauses.Goals as goal

offset : (p : Program) (i : ℕ) → i < length p.starts.now
    → (known p.starts.now (get_or p.starts.now i 0 + 1) ≡ true) × (get_or p.starts.now i 0 + 1 ≤ 32768)
offset p i h = offset_at class_of p.settings.arity p.code.now p.starts.now i p.checked h

pub overflow_add-start : goal.overflow_add-start
overflow_add-start c = omega (arith, (offset c.args.program.now c.loop-start.start-index c.loop-start-test.true).1)

pub show_clause-requires : goal.show_clause-requires
show_clause-requires c = (offset c.args.program.now c.loop-start.start-index c.loop-start-test.true).0
