-- The expansion of an on-demand table on the buffer: what it asks and gives back, as section 4's expansion says it and, for the functions that
-- write it, by the columns of the line's clauses (document 01, sections 4 and 5). For contracts of inner functions.
-- Assumes nothing.
use Rattle.std.specs.Prelude.{ℕ, ◌+◌, ◌-◌, ◌≤◌, ◌<◌, ◌≡◌, Bool, true, false, cond, List, Option, Some, None, leb, length, take}
use Rattle.std.proofs.Math.Option.{some}
use Rattle.records.specs.declared.Rec.{Rec}
use Rattle.records.specs.Records.{records_of, Wrote}
use Rattle.records.specs.Moves.{spliced}
use Rattle.indexing_iter.specs.declared.Settings.{Settings}
use Rattle.indexing_iter.specs.Classes.{class_of}
use Rattle.indexing_iter.specs.Clauses.{key_of}
use Rattle.indexing.specs.Lines.{on_demand, Index, line_at, offs, find, mode_of, records, size}
use Rattle.indexing.specs.Reading.{parse}
use Rattle.indexing.specs.Build.{program_of}
use Rattle.indexing.specs.Expand.{expand, State, attempt}
use Rattle.indexing.specs.Builder.{capacity_of, stored}
use Rattle.indexing.specs.Expanding.{tags_of, place_of, block_recs, more_recs, more_lines}
use Rattle.index_writer.specs.Choices.{AllKnown}
use Rattle.indexing_builder.specs.declared.expansion.OnDemand.{OnDemand}
use Rattle.indexing_builder.specs.declared.expansion.Grown.{Grown}

-- ---- by section 4

-- the index that the first t.count records of the buffer b stand for
abbrev pub index_on : OnDemand → List ℕ → Index
index_on t b = parse (take t.count (records_of b))

-- what the expansion of the table t asks beside checked code: the buffer b begins with the records of an index of t.lines lines, whose line t.line
-- has an on-demand table for t.arg, at place t.at; os and tags are the offsets and tags of that line, and its clauses are known
pub record Demanded (t : OnDemand) (S : Settings) (code starts b os tags : List ℕ) : Type 0 where
  pub records-are : take t.count (records_of b) ≡ records (mode_of S.dynamic) 0 (index_on t b)
  pub capacity-is : t.capacity ≡ capacity_of b
  pub fits : t.count ≤ t.capacity
  pub lines_are : t.lines ≡ length (index_on t b)
  pub own : t.line < t.lines
  pub demand : find t.arg (line_at (index_on t b) t.line).tables ≡ some (on_demand t.arg)
  pub place : t.at ≡ place_of (index_on t b) t.line t.arg
  pub first : 1 ≤ t.arg
  pub last : t.arg ≤ S.arity
  pub offsets : os ≡ offs (line_at (index_on t b) t.line).choices
  pub tags-are : tags ≡ tags_of (line_at (index_on t b) t.line).choices
  pub known : AllKnown starts os
  pub few : length os ≤ 1024

-- what an expansion gives back: whether it is stored, the records and lines of the index then, 0 where it is not, and the buffer at the end
pub record Outcome : Type 0 where
  pub storing : Bool
  pub count : ℕ
  pub lines : ℕ
  pub index : List ℕ

-- the answer with the buffer at the end
abbrev pub expanded_of : Option Grown → List ℕ → Outcome
expanded_of (Some g) buffer = record { storing = true; count = g.count; lines = g.lines; index = buffer }
expanded_of None buffer = record { storing = false; count = 0; lines = 0; index = buffer }

-- section 5: an expansion that is stored is at the front of the buffer, the bytes beyond it as they were; otherwise the buffer is as it was
abbrev pub outcome_by : Bool → State → List ℕ → Outcome
outcome_by dynamic s b =
    cond s.storing (record { storing = true; count = size s.index; lines = length s.index; index = stored dynamic s.index b })
    (record { storing = false; count = 0; lines = 0; index = b })

-- sections 4 and 5: the table t expanded, if it is within the buffer's capacity
unfoldable pub expand_call : OnDemand → Settings → List ℕ → List ℕ → List ℕ → Outcome
expand_call t S code starts b =
    let new = expand (program_of class_of S (records_of code) starts) (index_on t b) t.line t.arg in
    outcome_by S.dynamic (attempt (capacity_of b) (index_on t b) new) b

-- ---- by the columns of the line's clauses: proofs/ExpansionLaws shows that these give the same

-- the answer of an expansion after which the index has so many records and lines
abbrev pub answer_for : ℕ → ℕ → ℕ → Option Grown
answer_for capacity size lines = cond (leb size capacity) (Some (record { count = size; lines = lines })) None

-- what it leaves of the buffer b: the record at place p of n has given way to the block, and more follows at the end; or all is as it was
abbrev pub Expands : Option Grown → List ℕ → List ℕ → ℕ → ℕ → List Rec → List Rec → Type 0
Expands (Some g) b b' p n block more = Wrote b b' (spliced (records_of b) p n block more)
Expands None b b' p n block more = b' ≡ b

-- a table for an argument up to the arity, in a line of an index that the buffer b has
pub record Placed (t : OnDemand) (arity : ℕ) (b : List ℕ) : Type 0 where
  pub first : 1 ≤ t.arg
  pub last : t.arg ≤ arity
  pub own : t.line < t.lines
  pub few-lines : t.lines ≤ 65535
  pub here : t.at < t.count
  pub fits : t.count ≤ t.capacity
  pub within : t.capacity ≤ length (records_of b)
  pub few-records : t.capacity ≤ 65535

-- what the expansion of a line asks: its offsets os are those of at most 1,024 known clauses, with a tag for each
pub record Expandable (t : OnDemand) (S : Settings) (code starts b os tags : List ℕ) : Type 0 where
  pub known : AllKnown starts os
  pub few : length os ≤ 1024
  pub tagged : length tags ≡ length os
  pub placed : Placed t S.arity b

-- the table t expanded: answer and buffer where the block takes its place, and more follows with so many new lines
pub record Expansion (r : Option Grown) (t : OnDemand) (b b' : List ℕ) (block more : List Rec) (new : ℕ) : Type 0 where
  pub answer : r ≡ answer_for t.capacity (t.count + length block + length more - 1) (t.lines + new)
  pub leaves : Expands r b b' t.at t.count block more

-- the table t of the line with offsets os and these tags expanded
abbrev pub LineExpansion : Option Grown → OnDemand → Settings → List ℕ → List ℕ → List ℕ → List ℕ → List ℕ → List ℕ → Type 0
LineExpansion r t S code starts b b' os tags =
    Expansion r t b b' (block_recs S (key_of class_of (records_of code) starts) os t.arg (t.lines - t.line))
    (more_recs S (key_of class_of (records_of code) starts) os tags t.arg t.lines) (more_lines S (key_of class_of (records_of code) starts) os t.arg)
