-- The offset of a clause of checked code, and the length of a front part.
-- Assumes nothing.
use Prim.Native.Nat.{ℕ, ◌+◌, ◌<◌, ◌≤◌}
use mathlib.Core.Path.{◌≡◌, sym}
use mathlib.Core.Bool.{true}
use mathlib.Core.List.{List}
use native.Mathlib.Numerals.{add-one}
use native.Mathlib.Omega.{arith}
use lib.ListN.{length, get_or, take}
use lib.Seq.{length-take-le}
use Rattle.indexing_iter.specs.Refusals.{passed}
use Rattle.indexing_iter.specs.Clauses.{known}
use Rattle.indexing_iter.specs.Checks.{check_code}
use Rattle.indexing_iter.proofs.CheckLaws.{start-known, code-offset, code-size}

-- a start plus 1 is a known offset, and small
pub offset_at : (cls : ℕ → ℕ) (arity : ℕ) (code starts : List ℕ) (i : ℕ) → check_code cls arity code starts ≡ passed → i < length starts
    → (known starts (get_or starts i 0 + 1) ≡ true) × (get_or starts i 0 + 1 ≤ 32768)
offset_at cls arity code starts i e h =
    let k : known starts (get_or starts i 0 + 1) ≡ true = rw (add-one (get_or starts i 0)) (start-known starts i h) in
    let o = code-offset cls arity code starts (get_or starts i 0 + 1) e k in
    (k, omega (arith, o, code-size cls arity code starts e))

-- the length of a front part
pub front : (xs : List ℕ) (n : ℕ) → n ≤ length xs → n ≡ length (take n xs)
front xs n h = sym (length-take-le n xs h)
