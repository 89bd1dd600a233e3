-- The whole records of a buffer. Assumes nothing.
use mathlib.Core.Path.{◌≡◌}
use mathlib.Core.List.{List}
use Prim.Native.Nat.{ℕ, ◌/◌}
use lib.ListN.{length}
use Rattle.records.specs.Records.{records_of}
use Rattle.records.proofs.Laws.{length-records_of}

pub whole_records : (b : List ℕ) → length (records_of b) ≡ length b / 16
whole_records b = length-records_of b
