-- Laws of what a loop over the numbers below n gathers, a turn at a time; indexing/proofs/BridgeLists has the others. std has such laws of lists and of a
-- mapped range, whose definitions take the first element apart; the definitions of indexing/specs/Upto take the last turn apart, as the loop does.
-- Assumes nothing.
use mathlib.Core.Path.{◌≡◌, ap}
use Prim.Native.Nat.{ℕ, zero, suc, ◌+◌, ◌≤◌}
use native.Mathlib.Numerals.{add-one}
use native.Mathlib.Omega.{arith}
use native.Mathlib.Decide.{dec_le}
use mathlib.Core.Bool.{Bool, true, false}
use mathlib.Core.List.{List, ◌++◌}
use lib.ListN.{length, length-append}
use Rattle.std.specs.Int.{from_bool}
use Rattle.indexing.specs.Upto.{count_to, list_to}

module _ (t : ℕ → Bool) (j : ℕ) where
  pub count-step : {b : Bool} → t j ≡ b → count_to t (j + 1) ≡ count_to t j + from_bool b
  unfolding count_to
  count-step e = rw add-one (ap (λ (b : Bool). count_to t j + from_bool b) e)

pub count-le : (t : ℕ → Bool) (n : ℕ) → count_to t n ≤ n
unfolding count_to
count-le t zero = omega arith
count-le t (suc n) = go (t n) (count-le t n)
  where
    go : (b : Bool) → count_to t n ≤ n → count_to t n + from_bool b ≤ suc n
    go true h = omega arith
    go false h = omega arith

-- lists gathered
module _ {ℓ} {A : Type ℓ} (f : ℕ → List A) where
  pub list-more : (j : ℕ) → list_to f (j + 1) ≡ list_to f j ++ f j
  unfolding list_to
  list-more j = rw add-one

  -- the first m of n
  pub list-le : (m n : ℕ) → m ≤ n → length (list_to f m) ≤ length (list_to f n)
  unfolding list_to
  list-le m zero h = let e : m ≡ 0 = omega arith in rw e (omega arith)
  list-le m (suc n) h = go (dec_le m n) (λ k. list-le m n k)
    where
      go : Dec (m ≤ n) → (m ≤ n → length (list_to f m) ≤ length (list_to f n)) → length (list_to f m) ≤ length (list_to f n ++ f n)
      go (yes k) q = rw length-append (omega (arith, q k))
      go (no k) q = let e : m ≡ suc n = omega arith in rw e (omega arith)
