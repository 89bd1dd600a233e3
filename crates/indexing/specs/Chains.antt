-- Buckets of numbered items, as two columns hold them: each bucket has the number of the latest of its items, and each item that of the one before it in
-- its bucket. Items are counted from 1, so that 0 is none. Inner definitions, for contracts of functions that find equal keys by buckets.
-- Assumes nothing.
use Rattle.std.specs.Prelude.{◌≡◌, Bool, true, false, cond, List, ℕ, zero, suc, ◌+◌, ◌*◌, ◌%◌, ◌<◌, ◌≤◌, length, get_or}
use Rattle.indexing.specs.Upto.{count_to}
use Rattle.indexing.specs.declared.key_buckets.Searched.{Searched}
use Rattle.indexing.specs.declared.key_buckets.Searched.TheVariants.{Found, Nowhere, Open}

-- the bucket of a key by its two numbers, of size many: equal keys have the same
unfoldable pub bucket_by : ℕ → ℕ → ℕ → ℕ
bucket_by size head bits = (bits % 4294967291 + 40503 * head) % size

-- the number of the latest item before item n that bucket b holds, 0 where it holds none
unfoldable pub latest : (ℕ → ℕ → Bool) → ℕ → ℕ → ℕ
latest holds b zero = 0
latest holds b (suc i) = let rest = latest holds b i in cond (holds b i) (suc i) rest

-- the buckets of the items before item n
pub record Chained (holds : ℕ → ℕ → Bool) (firsts links : List ℕ) (n : ℕ) : Type 0 where
  -- each bucket has its latest item
  pub first : (b : ℕ) → b < length firsts → get_or firsts b 0 ≡ latest holds b n
  -- each item has the latest one before it in its bucket
  pub next : (b i : ℕ) → i < n → holds b i ≡ true → get_or links i 0 ≡ latest holds b i

-- a table has 0 at every place
abbrev pub Cleared : List ℕ → Type 0
Cleared table = (i : ℕ) → get_or table i 0 ≡ 0

-- what the items before item n that bucket b holds tell of a test: it is left open only behind the latest 32 of them, those from item p on, of which none passes
abbrev pub Tells : (ℕ → ℕ → Bool) → ℕ → ℕ → (ℕ → Bool) → Searched → Type 0
Tells holds b n t (Found i) = (i < n) × (holds b i ≡ true) × (t i ≡ true)
Tells holds b n t Nowhere = (i : ℕ) → i < n → holds b i ≡ true → t i ≡ false
Tells holds b n t Open = (p : ℕ) × (p ≤ n) × (count_to (holds b) n ≡ count_to (holds b) p + 32) × ((i : ℕ) → p ≤ i → i < n → holds b i ≡ true → t i ≡ false)
