-- The builder's call: result and every byte of the index buffer, for every input (document 01, sections 3 and "What each call gives back").
-- And the size call: the record count that the builder would need, with no buffer.
-- Assumes nothing.
use Rattle.std.specs.Prelude.{ℕ, ◌*◌, ◌/◌, min, Bool, cond, List, ◌++◌, ltb, length, drop}
use Rattle.records.specs.Records.{records_of, encode}
use Rattle.indexing_iter.specs.declared.Settings.{Settings}
use Rattle.indexing_iter.specs.declared.refusal.Refusal.TheVariants.{NoRoom}
use Rattle.indexing_iter.specs.Refusals.{Checked, refusal_number}
use Rattle.std.specs.Prelude.{Ok, Err}
use Rattle.indexing_iter.specs.Clauses.{offsets_of}
use Rattle.indexing_iter.specs.Checks.{otherwise, refuse, check_build}
use Rattle.indexing.specs.Lines.{Index, size, records, mode_of}
use Rattle.indexing.specs.Build.{program_of, build}

-- what a call of the builder gives back: the refusal's number (0: accepted), the record count, the variable offset, and the buffer at the end
pub record Built : Type 0 where
  pub number : ℕ
  pub count : ℕ
  pub variable : ℕ
  pub index : List ℕ

-- "What each call gives back": the buffer's length divided by 16, at most 65,535
abbrev pub capacity_of : List ℕ → ℕ
capacity_of buffer = min (length buffer / 16) 65535

-- the buffer that begins with an index's records; the bytes beyond them are as they were
unfoldable pub stored : Bool → Index → List ℕ → List ℕ
stored dynamic idx buffer = encode (records (mode_of dynamic) 0 idx) ++ drop (16 * size idx) buffer

-- 9: built index above capacity
abbrev pub check_room : List ℕ → Index → Checked
check_room buffer idx = refuse (ltb (capacity_of buffer) (size idx)) NoRoom

-- a refusal gives its number and zero in every other field, and leaves the buffer
abbrev pub built_by : Checked → Settings → Index → List ℕ → Built
built_by (Err e) S idx buffer = record { number = refusal_number e; count = 0; variable = 0; index = buffer }
built_by (Ok u) S idx buffer = record { number = 0; count = size idx; variable = cond S.skip 2 1; index = stored S.dynamic idx buffer }

-- section 3: the index of the code's clauses
unfoldable pub index_of : (ℕ → ℕ) → List ℕ → List ℕ → Settings → ℕ → Index
index_of cls code starts S c = build (program_of cls S (records_of code) starts) c (offsets_of starts)

unfoldable pub build_call : (ℕ → ℕ) → List ℕ → List ℕ → Settings → ℕ → List ℕ → Built
build_call cls code starts S c buffer =
    let idx = index_of cls code starts S c in
    built_by (otherwise (check_build cls S.arity c code starts) (check_room buffer idx)) S idx buffer

-- what a call of the size function gives back: the refusal's number (0: accepted), and the record count of the index, whatever the room
pub record Sized : Type 0 where
  pub number : ℕ
  pub count : ℕ

-- a refusal gives its number and no count
abbrev pub sized_by : Checked → Index → Sized
sized_by (Err e) idx = record { number = refusal_number e; count = 0 }
sized_by (Ok u) idx = record { number = 0; count = size idx }

-- the builder's checks, and the size of the index that it would write
unfoldable pub size_call : (ℕ → ℕ) → List ℕ → List ℕ → Settings → ℕ → Sized
size_call cls code starts S c = sized_by (check_build cls S.arity c code starts) (index_of cls code starts S c)
