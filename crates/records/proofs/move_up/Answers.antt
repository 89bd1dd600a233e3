-- `records::move_up` meets its contract: the bytes of the first n records are copied 16 k bytes up. Assumes nothing.
use mathlib.Core.Path.{◌≡◌, refl, sym, ap, ap₂, ◌∙◌}
use mathlib.Core.List.{List, ◌++◌, append_assoc}
use Prim.Native.Nat.{ℕ, ◌+◌, ◌-◌, ◌*◌, ◌≤◌}
use native.Mathlib.Omega.{arith}
use native.Mathlib.Nat.{zero-add}
use lib.ListN.{length, take, drop}
use lib.Seq.{length-take-le, drop-drop}
use Rattle.records.specs.declared.Rec.{Rec}
use Rattle.records.specs.Records.{records_of, odd_of}
use Rattle.records.specs.Moves.{written}
use Rattle.records.proofs.Laws.{length-records_of, records_of-take, run-records_of, odd-run, wrote}
use Rattle.records.proofs.move_up.Goals as goal

pub overflow_mul-len : goal.overflow_mul-len
overflow_mul-len c = omega (arith, length-records_of c.args.tail.now)

pub overflow_mul-up : goal.overflow_mul-up
overflow_mul-up c = omega (arith, length-records_of c.args.tail.now)

pub copy_within-requires-clause-in_bounds : goal.copy_within-requires-clause-in_bounds
copy_within-requires-clause-in_bounds c = omega (arith, length-records_of c.args.tail.now)

pub copy_within-requires-clause-dest_in_bounds : goal.copy_within-requires-clause-dest_in_bounds
copy_within-requires-clause-dest_in_bounds c = omega (arith, length-records_of c.args.tail.now)

pub returns : goal.returns
returns c =
    let a = c.args in
    let b = a.tail.now in
    let n = a.n in
    let k = a.k in
    let l : List Rec = records_of b in
    let y : List ℕ = take (16 * n) b in
    let h : k + n ≤ length l = omega arith in
    let v : 16 * n ≤ length b = omega (arith, length-records_of b) in
    let z : 16 * n - 0 ≡ 16 * n = omega arith in
    let e : length y ≡ 16 * n = length-take-le (16 * n) b v in
    let f : c.copy_within.new.self ≡ take (16 * k) b ++ (y ++ drop (16 * n) (drop (16 * k) b)) =
    c.copy_within.ensures.after ∙ ap (λ (m : ℕ). take (16 * k) b ++ take m b ++ drop (16 * k + m) b) z ∙ append_assoc (take (16 * k) b) y (drop (16 * k + 16 * n) b)
    ∙ ap (λ (x : List ℕ). take (16 * k) b ++ (y ++ x)) (sym (drop-drop (16 * n) (16 * k) b)) in
    let r : records_of y ≡ take n l = records_of-take n b v in
    let s : k + length (take n l) ≡ n + k = omega (arith, length-take-le n l (omega arith)) in
    wrote b _ _ c.copy_within.ensures.len
    (ap records_of f ∙ run-records_of b y k n (16 * n) h e refl ∙ ap (written l k) r
    ∙ append_assoc (take k l) (take n l) (drop (k + length (take n l)) l)
    ∙ ap₂ (λ (x y : ℕ). take x l ++ (take n l ++ drop y l)) (sym (zero-add k)) s)
    (ap odd_of f ∙ odd-run b y k n (16 * n) h e refl)
