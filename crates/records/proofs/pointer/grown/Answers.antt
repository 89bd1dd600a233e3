-- `records::pointer::grown` meets its contract: the tag and the grown distance share no bit. Assumes nothing.
use mathlib.Core.Path.{◌≡◌, ap₂, ◌∙◌}
use Prim.Native.Nat.{ℕ, ◌+◌, ◌*◌, ◌/◌, ◌%◌}
use native.Mathlib.Omega.{arith}
use lib.Bits.{bit_and, bit_or, and_mask, and_high, or_shifted}
use Rattle.records.proofs.pointer.grown.Goals as goal

pub overflow_add-result : goal.overflow_add-result
overflow_add-result c = omega (arith, and_mask c.args.p 31)

pub returns : goal.returns
returns c = let p = c.args.p in
    let by = c.args.by in
    let high : bit_and p 2147483648 ≡ p / 2147483648 * 2147483648 = and_high p 1 31 ∙ omega (arith, c.ranges) in
    ap₂ (λ (x y : ℕ). bit_or x (y + by)) high (and_mask p 31) ∙ or_shifted (p / 2147483648) 31 (p % 2147483648 + by) c.requires ∙ omega arith
