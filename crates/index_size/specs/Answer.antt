-- The size function's answer as number and count.
-- Assumes nothing.
use Rattle.indexing.specs.Builder.{Sized}
use Rattle.std.specs.Prelude.{ℕ, Result, Ok, Err}
use Rattle.indexing_iter.specs.declared.refusal.Refusal.{Refusal}
use Rattle.indexing_iter.specs.Refusals.{refusal_number}

-- a refusal gives its number and no count
abbrev pub sized_of : Result ℕ Refusal → Sized
sized_of (Ok count) = record { number = 0; count = count }
sized_of (Err e) = record { number = refusal_number e; count = 0 }
