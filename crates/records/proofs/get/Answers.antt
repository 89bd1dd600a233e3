-- `records::get` meets its contract: the sixteen bytes that are lent are those of the record at the place. Assumes nothing.
use mathlib.Core.Path.{◌≡◌, ap, sym, ◌∙◌}
use Prim.Native.Nat.{ℕ, ◌+◌, ◌-◌, ◌*◌}
use lib.ListN.{take, drop}
use Rattle.records.specs.Records.{decode}
use native.Mathlib.Omega.{arith}
use Rattle.records.proofs.Laws.{room, get_or-records_of}
use Rattle.records.proofs.get.Goals as goal

pub overflow_mul-start : goal.overflow_mul-start
overflow_mul-start c = omega (arith, room _ _ c.requires)

pub overflow_add-end : goal.overflow_add-end
overflow_add-end c = omega (arith, room _ _ c.requires)

pub slice_bounds-load-end : goal.slice_bounds-load-end
slice_bounds-load-end c = omega (arith, room _ _ c.requires)

pub returns : goal.returns
returns c =
    let e : 16 * c.args.at + 16 - 16 * c.args.at ≡ 16 = omega arith in
    c.load.ensures
    ∙ ap (λ (k : ℕ). decode (take k (drop (16 * c.args.at) c.args.index.now))) e
    ∙ sym (get_or-records_of c.args.index.now c.args.at c.requires)
