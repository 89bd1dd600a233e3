use mathlib.Core.Path.{◌≡◌}
use Prim.Native.Nat.{◌+◌}
use lib.ListN.{length, drop}
use Rattle.records.specs.Records.{records_of}
use Rattle.inputs.specs.Input.{starts_in}
use Rattle.inputs.proofs.count_starts.Given as goal

abbrev pub invariant-loop-i : goal.invariant-loop-i
invariant-loop-i l = l.i + length (starts_in (drop l.i (records_of l.input))) ≡ 1 + length (starts_in (drop 1 (records_of l.input)))
