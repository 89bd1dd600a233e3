-- The builder's answer as document 01's number and values ("What each call gives back").
-- Assumes nothing.
use Rattle.std.specs.Prelude.{ℕ, List, Result, Ok, Err}
use Rattle.indexing.specs.Builder.{Built}
use Rattle.indexing_builder.specs.declared.Built.{Built as Done}
use Rattle.indexing_iter.specs.declared.refusal.Refusal.{Refusal}
use Rattle.indexing_iter.specs.Refusals.{refusal_number}

-- the answer with the buffer at the end; a refusal gives its number and zero in every other field
abbrev pub built_of : Result Done Refusal → List ℕ → Built
built_of (Ok d) buffer = record { number = 0; count = d.count; variable = d.variable; index = buffer }
built_of (Err e) buffer = record { number = refusal_number e; count = 0; variable = 0; index = buffer }
