-- The builder by the columns of the code's clauses: what its inner contracts cite.
-- proofs/BuilderLaws shows that these give the builder's call (indexing/specs/Builder). For contracts of inner functions.
-- Assumes nothing.
use Rattle.std.specs.Prelude.{ℕ, ◌+◌, ◌-◌, ◌≡◌, Bool, cond, List, Result, Ok, Err, ltb, length}
use Rattle.records.specs.declared.Rec.{Rec}
use Rattle.records.specs.Records.{records_of, Wrote}
use Rattle.records.specs.Moves.{written, spliced}
use Rattle.indexing.specs.Builder.{capacity_of}
use Rattle.indexing_iter.specs.declared.refusal.Refusal.{Refusal}
use Rattle.indexing_iter.specs.declared.refusal.Refusal.TheVariants.{NoRoom}
use Rattle.indexing_builder.specs.declared.Built.{Built}

-- the answer for an index of so many records
abbrev pub answer_by : ℕ → ℕ → Bool → Result Built Refusal
answer_by capacity size skip = cond (ltb capacity size) (Err NoRoom) (Ok (record { count = size; variable = cond skip 2 1 }))

-- what the builder leaves of the buffer b: line 0 at the front, its on-demand record replaced by the switch, and the new lines; or all is as it was
abbrev pub Builds : Result Built Refusal → List ℕ → List ℕ → List Rec → List Rec → List Rec → Type 0
Builds (Ok d) b b' seeds switch lines = Wrote b b' (spliced (written (records_of b) 0 seeds) 1 (length seeds) switch lines)
Builds (Err e) b b' seeds switch lines = b' ≡ b

-- the index built: answer and buffer
pub record Building (r : Result Built Refusal) (skip : Bool) (b b' : List ℕ) (seeds switch lines : List Rec) : Type 0 where
  pub answer : r ≡ answer_by (capacity_of b) (length seeds + length switch + length lines - 1) skip
  pub leaves : Builds r b b' seeds switch lines
