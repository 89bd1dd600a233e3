use mathlib.Core.Path.{◌≡◌}
use Prim.Native.Nat.{◌+◌, ◌*◌, ◌≤◌}
use mathlib.Core.List.{[]}
use lib.ListN.{length, drop}
use Rattle.records.specs.Records.{records_of}
use Rattle.listing.specs.Text.{lines_of}
use Rattle.listing.proofs.put_lines.Given as goal

abbrev pub invariant-loop-i : goal.invariant-loop-i
invariant-loop-i l = (l.i ≤ length (records_of l.part)) × (l.at ≤ 13440) × (13440 + 105 * l.i ≤ l.at + 105 * length (records_of l.part)) × (length l.text ≡ length l.initial.text)
    × (drop l.at l.text ≡ lines_of (drop l.i (records_of l.part)) [])
