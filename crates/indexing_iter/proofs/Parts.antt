-- A run of records read one by one: the first of what is left, and what is left after it. Assumes nothing.
use mathlib.Core.Path.{◌≡◌}
use Prim.Native.Nat.{ℕ, ◌+◌, ◌≤◌, ◌<◌}
use native.Mathlib.Numerals.{add-one}
use native.Mathlib.Omega.{arith}
use mathlib.Core.List.{List, [], ◌∷◌}
use lib.ListN.{length, get_or, take, drop, length-take, drop_of_length-le}
use lib.Seq.{slice, slice-cons, drop-cons}
use Rattle.records.specs.declared.Rec.{Rec}
use Rattle.records.specs.Records.{zero_rec}

pub rest-step : (rs : List Rec) (i : ℕ) → i < length rs → drop i rs ≡ get_or rs i zero_rec ∷ drop (i + 1) rs
rest-step rs i h = rw (add-one i) (drop-cons rs i zero_rec h)

pub slice-step : (rs : List Rec) (i end : ℕ) → i < end → end ≤ length rs → slice i end rs ≡ get_or rs i zero_rec ∷ slice (i + 1) end rs
slice-step rs i end h k = rw (add-one i) (slice-cons i end rs zero_rec h k)

pub slice-done : (rs : List Rec) (i end : ℕ) → end ≤ i → slice i end rs ≡ []
slice-done rs i end h =
    let q : length (take end rs) ≤ i = omega (arith, length-take end rs) in
    drop_of_length-le (take end rs) q
