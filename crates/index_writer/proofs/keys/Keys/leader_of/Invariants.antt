use mathlib.Core.Path.{◌≡◌}
use Prim.Native.Nat.{◌-◌}
use Rattle.indexing.specs.Columns.{first_same, leader_of}
use Rattle.index_writer.proofs.keys.Keys.leader_of.Given as goal

abbrev pub invariant-loop-i : goal.invariant-loop-i
invariant-loop-i l = first_same l.self.heads.now l.self.bits.now l.j l.i (l.j - l.i) ≡ leader_of l.self.heads.now l.self.bits.now l.j
