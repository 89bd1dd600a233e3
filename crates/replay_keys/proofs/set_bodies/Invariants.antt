use mathlib.Core.Path.{◌≡◌}
use lib.ListN.{length}
use Rattle.replay_keys.proofs.set_bodies.Given as goal

abbrev pub invariant-loop-i : goal.invariant-loop-i
invariant-loop-i l = length l.code ≡ length l.initial.code
