-- `records::open_gap` meets its contract: what the mover did to the part after p, said of the whole. Assumes nothing.
use mathlib.Core.Path.{ap, ◌∙◌}
use mathlib.Core.List.{List, ◌++◌}
use Prim.Native.Nat.{ℕ, ◌+◌, ◌-◌, ◌*◌, ◌≤◌}
use native.Mathlib.Omega.{arith}
use lib.ListN.{length, take, length-take, length-drop}
use Rattle.records.specs.declared.Rec.{Rec}
use Rattle.records.specs.Records.{records_of}
use Rattle.records.specs.Moves.{moved}
use Rattle.records.proofs.Laws.{length-records_of, tail-in, tail-out, odd-tail, wrote}
use Rattle.records.proofs.MoveLaws.{moved-part}
use borrow.Rule.Slice.PartMut.{same_len_mid}
use Rattle.records.proofs.open_gap.Goals as goal

pub overflow_mul-o : goal.overflow_mul-o
overflow_mul-o c = omega (arith, length-records_of c.args.index.now)

pub slice_bounds-move_up-count : goal.slice_bounds-move_up-count
slice_bounds-move_up-count c = omega (arith, length-records_of c.args.index.now)

pub slice_bounds-move_up-start : goal.slice_bounds-move_up-start
slice_bounds-move_up-start c = omega (arith, length-records_of c.args.index.now)

pub move_up-requires : goal.move_up-requires
move_up-requires c = simp (length-records_of, length-take, length-drop) (omega (arith, length-records_of c.args.index.now))

pub returns : goal.returns
returns c =
    let a = c.args in
    let b = a.index.now in
    let q : ℕ = a.p + 1 in
    let h : 16 * q ≤ length b = omega (arith, length-records_of b) in
    let m = c.move_up in
    wrote b _ _ (same_len_mid _ _ b m.new.tail m.auto.tail)
    (tail-out b m.new.tail q h
    ∙ ap (λ (x : List Rec). take q (records_of b) ++ x) (m.ensures.records ∙ ap (λ (x : List Rec). moved x (a.n - q) a.k 0) (tail-in b q h))
    ∙ moved-part (records_of b) a.n a.k c.requires.1 q (omega arith))
    (odd-tail b m.new.tail q h m.ensures.odd)
