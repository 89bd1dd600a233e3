use mathlib.Core.Path.{◌≡◌}
use Prim.Native.Nat.{◌+◌, ◌*◌, ◌≤◌}
use mathlib.Core.List.{[]}
use lib.ListN.{length, drop}
use Rattle.walk_listing.specs.Text.{offsets_text}
use Rattle.walk_listing.proofs.put_offsets.Given as goal

abbrev pub invariant-loop-offset : goal.invariant-loop-offset
invariant-loop-offset l =
    (l.at ≤ 2688) × (2688 + 21 * length l.offset-iterator.iter.rest.now ≤ l.at + 21 * length l.out) × (length l.text ≡ length l.initial.text)
    × (offsets_text l.out [] ≡ offsets_text l.offset-iterator.iter.rest.now (drop l.at l.text))
