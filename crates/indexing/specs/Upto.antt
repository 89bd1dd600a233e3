-- What a loop over 0, 1, .., n - 1 gathers; each definition takes its last turn apart, as the loop does. For contracts of inner functions.
-- `count_to` by std's `count_by` over a mapped range was tried: the proofs by recursion on n then need a lemma for the step, which these compute.
-- Assumes nothing.
use Rattle.std.specs.Prelude.{ℕ, zero, suc, ◌+◌, Bool, true, false, cond, List, [], ◌++◌}
use Rattle.std.specs.Int.{from_bool}

-- of the numbers below n, how many pass the test
unfoldable pub count_to : (ℕ → Bool) → ℕ → ℕ
count_to t zero = 0
count_to t (suc n) = count_to t n + from_bool (t n)

-- whether some number below n passes the test
unfoldable pub any_to : (ℕ → Bool) → ℕ → Bool
any_to t zero = false
any_to t (suc n) = cond (t n) true (any_to t n)

-- the lists of the numbers below n, one after the other
unfoldable pub list_to {ℓ} : {A : Type ℓ} → (ℕ → List A) → ℕ → List A
list_to f zero = []
list_to f (suc n) = list_to f n ++ f n
