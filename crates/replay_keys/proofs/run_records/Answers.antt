-- The code has room for 32,769 records. Assumes nothing.
use Prim.Native.Nat.{ℕ, ◌≤◌, ◌*◌}
use mathlib.Core.Path.{◌≡◌}
use mathlib.Core.List.{List}
use native.Mathlib.Omega.{arith}
use lib.ListN.{length, take}
use Rattle.std.specs.Prelude.{replicate}
use Rattle.std.proofs.lemmas.List.{length-replicate}
use Rattle.replay_keys.proofs.Laws.{front}
use Rattle.replay_keys.proofs.run_records.Goals as goal

room : (xs : List ℕ) (n : ℕ) → length xs ≡ 524304 → n ≤ 32769 → 16 * n ≤ length xs
room xs n e h = omega arith

two : (xs : List ℕ) (n : ℕ) → length xs ≡ 524304 → (2 ≤ n) × (n ≤ 32769) → 32 ≤ length (take (16 * n) xs)
two xs n e h = omega (arith, front xs (16 * n) (room xs n e h.1))

pub slice_bounds-code-end : goal.slice_bounds-code-end
slice_bounds-code-end c = room (replicate {A = ℕ} 524304 0) c.args.n (length-replicate {0} {A = ℕ} 524304 0) c.requires.1

pub slice_bounds-show_records-end : goal.slice_bounds-show_records-end
slice_bounds-show_records-end c = front (replicate {A = ℕ} 524304 0) (16 * c.args.n) (room (replicate {A = ℕ} 524304 0) c.args.n (length-replicate {0} {A = ℕ} 524304 0) c.requires.1)

pub show_records-requires : goal.show_records-requires
show_records-requires c = two (replicate {A = ℕ} 524304 0) c.args.n (length-replicate {0} {A = ℕ} 524304 0) c.requires
