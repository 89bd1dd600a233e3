-- What the size call tells of the builder's call with the same code, starts, settings and c, on every buffer. proofs/Sized proves it.
-- Assumes nothing.
use Rattle.std.specs.Prelude.{ℕ, ◌<◌, ◌≡◌, List}
use Rattle.indexing_iter.specs.declared.Settings.{Settings}
use Rattle.indexing.specs.Builder.{Built, Sized, capacity_of, build_call, size_call}

-- what the builder gave back on a buffer of so much capacity, and what the size call gave back
pub record Tells (b : Built) (capacity : ℕ) (z : Sized) : Type 0 where
  -- 9 exactly where the size is accepted and the capacity is below its count
  pub lacked : b.number ≡ 9 → (z.number ≡ 0) × (capacity < z.count)
  pub lacks : z.number ≡ 0 → capacity < z.count → b.number ≡ 9
  -- otherwise number and count are the size's own
  pub same : (b.number ≡ 9 → ⊥) → (b.number ≡ z.number) × (b.count ≡ z.count)

abbrev pub SizeTells : (ℕ → ℕ) → Type 0
SizeTells cls = (code starts : List ℕ) (S : Settings) (c : ℕ) (buffer : List ℕ)
    → Tells (build_call cls code starts S c buffer) (capacity_of buffer) (size_call cls code starts S c)
