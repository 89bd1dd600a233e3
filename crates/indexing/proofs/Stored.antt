-- The capacity of a buffer, and an index stored in it: its records are the first of the buffer, and a later one takes its place.
-- Assumes nothing.
use mathlib.Core.Path.{◌≡◌, sym, ◌∙◌, ap}
use mathlib.Core.Bool.{Bool}
use mathlib.Core.List.{List, ◌++◌}
use Prim.Native.Nat.{ℕ, ◌+◌, ◌-◌, ◌*◌, ◌/◌, ◌≤◌, ◌<◌, min}
use native.Mathlib.Nat.{min-eq_left, min-eq_right, min-le_left}
use native.Mathlib.Omega.{arith}
use lib.ListN.{length, take, drop, length-append, length-drop}
use lib.Seq.{take_at, drop-append-add, drop-drop}
use Rattle.records.specs.declared.Rec.{Rec}
use Rattle.records.specs.Records.{encode, records_of, AllFit, Wrote}
use Rattle.records.proofs.Fitting.{records_of-encode}
use Rattle.records.proofs.Laws.{length-encode, length-records_of}
use Rattle.records.proofs.Whole.{Bytes, wrote-front}
use Rattle.indexing.proofs.Size.{length-records}
use Rattle.indexing.specs.Builder.{capacity_of, stored}
use Rattle.indexing.specs.Lines.{Index, size, mode_of, records}

-- ---- the capacity

pub capacity-few : (b : List ℕ) (n : ℕ) → n ≡ length (records_of b) → n ≤ 65535 → n ≡ capacity_of b
capacity-few b n e h =
    let f : n ≡ length b / 16 = e ∙ length-records_of b in
    let k : length b / 16 ≤ 65535 = omega arith in
    f ∙ sym (min-eq_left k)

pub capacity-many : (b : List ℕ) (n : ℕ) → n ≡ length (records_of b) → 65535 < n → 65535 ≡ capacity_of b
capacity-many b n e h =
    let k : 65535 ≤ length b / 16 = omega (arith, length-records_of b) in
    sym (min-eq_right k)

pub capacity-within : (b : List ℕ) → capacity_of b ≤ length (records_of b)
capacity-within b = omega (arith, length-records_of b, min-le_left (length b / 16) 65535)

pub capacity-small : (b : List ℕ) → capacity_of b ≤ 65535
capacity-small b = omega arith

-- ---- a stored index, whatever it is

module _ (dynamic : Bool) (idx : Index) (b : List ℕ) where
  written : length (encode (records (mode_of dynamic) 0 idx)) ≡ 16 * size idx
  written = length-encode (records (mode_of dynamic) 0 idx) ∙ ap (λ (n : ℕ). 16 * n) (length-records (mode_of dynamic) 0 idx)

  pub stored-length : size idx ≤ capacity_of b → length (stored dynamic idx b) ≡ length b
  unfolding stored
  stored-length h =
      length-append (encode (records (mode_of dynamic) 0 idx)) (drop (16 * size idx) b)
      ∙ omega (arith, written, length-drop (16 * size idx) b)

  pub stored-capacity : size idx ≤ capacity_of b → capacity_of (stored dynamic idx b) ≡ capacity_of b
  stored-capacity h = ap (λ (n : ℕ). min (n / 16) 65535) (stored-length h)

  -- its records are the first of the buffer
  pub stored-records : AllFit (records (mode_of dynamic) 0 idx) → take (size idx) (records_of (stored dynamic idx b)) ≡ records (mode_of dynamic) 0 idx
  unfolding stored
  stored-records f =
      let rs : List Rec = records (mode_of dynamic) 0 idx in
      ap (take (size idx)) (records_of-encode rs (drop (16 * size idx) b) f)
      ∙ take_at rs (records_of (drop (16 * size idx) b)) (size idx) (length-records (mode_of dynamic) 0 idx)

  -- a later one takes its place
  pub stored-over : (idx' : Index) → size idx ≤ size idx' → stored dynamic idx' (stored dynamic idx b) ≡ stored dynamic idx' b
  unfolding stored
  stored-over idx' h =
      let e : List ℕ = encode (records (mode_of dynamic) 0 idx) in
      let k : ℕ = 16 * size idx' - 16 * size idx in
      let p : 16 * size idx' ≡ length e + k = omega (arith, written) in
      let q : 16 * size idx + k ≡ 16 * size idx' = omega arith in
      ap (λ (l : List ℕ). encode (records (mode_of dynamic) 0 idx') ++ l)
      (ap (λ (n : ℕ). drop n (e ++ drop (16 * size idx) b)) p
      ∙ drop-append-add e (drop (16 * size idx) b) k ∙ drop-drop k (16 * size idx) b ∙ ap (λ (n : ℕ). drop n b) q)

  -- a buffer that has its records in front, and is as it was behind them, said of every byte
  pub stored-wrote : (b' : List ℕ) → Bytes b → Bytes b' → size idx ≤ length (records_of b)
      → Wrote b b' (records (mode_of dynamic) 0 idx ++ drop (size idx) (records_of b)) → b' ≡ stored dynamic idx b
  unfolding stored
  stored-wrote b' h h' room w =
      let rs : List Rec = records (mode_of dynamic) 0 idx in
      let n : length rs ≡ size idx = length-records (mode_of dynamic) 0 idx in
      wrote-front b b' rs h h' (omega arith) (rw n w) ∙ ap (λ (k : ℕ). encode rs ++ drop (16 * k) b) n
