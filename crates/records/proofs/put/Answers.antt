-- `records::put` meets its contract: only the sixteen bytes that are lent change, and the record is read back from them. Assumes nothing.
use mathlib.Core.Path.{◌≡◌, ap, ◌∙◌}
use lib.ListN.{length}
use mathlib.Core.List.{List}
use Prim.Native.Nat.{ℕ, ◌+◌, ◌-◌, ◌*◌}
use borrow.Rule.Slice.PartMut.{put_mid, same_len_mid}
use Rattle.records.specs.Records.{records_of}
use native.Mathlib.Omega.{arith}
use Rattle.records.proofs.Laws.{room, length-encode_rec, put-records_of, odd-put, wrote}
use Rattle.records.proofs.put.Goals as goal

pub overflow_mul-from : goal.overflow_mul-from
overflow_mul-from c = omega (arith, room _ _ c.requires)

pub overflow_add-to : goal.overflow_add-to
overflow_add-to c = omega (arith, room _ _ c.requires)

pub slice_bounds-store-end : goal.slice_bounds-store-end
slice_bounds-store-end c = omega (arith, room _ _ c.requires)

pub returns : goal.returns
returns c =
    let b = c.args.index.now in
    let at = c.args.at in
    let k : ℕ = 16 * at + 16 - 16 * at in
    let q : k ≡ 16 = omega arith in
    let e = c.store.ensures in
    wrote b _ _ (same_len_mid _ _ b c.store.new.s c.store.auto.s)
    (ap (λ (y : List ℕ). records_of (put_mid (16 * at) k b y)) e
    ∙ put-records_of b at k c.args.r c.requires q (omega arith) (omega arith) (omega arith))
    (odd-put b c.store.new.s at k c.requires q (ap length e ∙ length-encode_rec c.args.r))
