use mathlib.Core.Path.{◌≡◌}
use Prim.Native.Nat.{◌-◌, ◌≤◌}
use lib.ListN.{length, drop}
use Rattle.listing.specs.Text.{digits, decimal}
use Rattle.listing.proofs.put_number.Given as goal

abbrev pub invariant-loop-i : goal.invariant-loop-i
invariant-loop-i l = (l.least ≤ l.i) × (l.i ≤ l.end) × (length l.text ≡ length l.initial.text) × (digits (l.i - l.least) l.rest (drop l.i l.text) ≡ decimal l.n (drop l.end l.initial.text))
