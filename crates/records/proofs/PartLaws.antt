-- A part of a buffer that begins and ends where records do has a part of its records. Assumes nothing.
use mathlib.Core.Path.{◌≡◌, sym, ap, ◌∙◌}
use Prim.Native.Nat.{ℕ, ◌-◌, ◌*◌, ◌≤◌}
use native.Mathlib.Omega.{arith}
use mathlib.Core.List.{List}
use lib.ListN.{length, take, drop, length-drop}
use lib.Seq.{slice}
use Rattle.records.specs.Records.{records_of}
use Rattle.records.proofs.Laws.{records_of-drop, records_of-take}
use Rattle.records.proofs.MoveLaws.{slice-take}

pub records_of-part : (b : List ℕ) (from to k : ℕ) → from ≤ to → 16 * to ≤ length b → k ≡ 16 * (to - from)
    → records_of (take k (drop (16 * from) b)) ≡ slice from to (records_of b)
records_of-part b from to k h w e =
    let room : 16 * (to - from) ≤ length (drop (16 * from) b) = simp length-drop (omega arith) in
    ap (λ (n : ℕ). records_of (take n (drop (16 * from) b))) e
    ∙ records_of-take (to - from) (drop (16 * from) b) room
    ∙ ap (take (to - from)) (records_of-drop from b (omega arith))
    ∙ sym (slice-take from to (records_of b) h)
