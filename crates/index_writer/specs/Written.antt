-- The records of an expansion (indexing's specs/Columns) by the structs that hold a line's columns. For contracts of inner functions.
-- Assumes nothing.
use Rattle.std.specs.Prelude.{ℕ, ◌+◌, ◌-◌, ◌≡◌, Bool, cond, List, [], ◌∷◌, ◌++◌, get_or, length}
use Rattle.records.specs.declared.Rec.{Rec}
use Rattle.records.specs.Records.{rec_of}
use Rattle.indexing_iter.specs.declared.Settings.{Settings}
use Rattle.indexing_iter.specs.declared.group.Group.{Group}
use Rattle.indexing_iter.specs.Groups.{group_number}
use Rattle.indexing.specs.Columns.{needs_line, opens_bucket, opens_line, entry_at, entries, list_entries, switch_recs, choice_at, choices, open_member, dead_clauses, table_at, tables_at, dead_recs, line_of, group_lines, list_line, new_lines_recs, seed_recs}
use Rattle.index_writer.specs.declared.clauses.Heads.{Heads}
use Rattle.index_writer.specs.declared.clauses.Entries.{Entries}
use Rattle.index_writer.specs.declared.clauses.Opens.{Opens}
use Rattle.index_writer.specs.declared.clauses.Tables.{Tables}
use Rattle.index_writer.specs.declared.clauses.Choices.{Choices}
use Rattle.index_writer.specs.declared.clauses.Clauses.{Clauses}
use Rattle.index_writer.specs.declared.clauses.LineRooms.{LineRooms}
use Rattle.index_writer.specs.declared.clauses.NewLines.{NewLines}
use Rattle.index_writer.specs.declared.clauses.Columns.{Columns}
use Rattle.index_writer.specs.declared.rooms.IndexRoom.{IndexRoom}
use Rattle.index_writer.specs.declared.switched.Switched.{Switched}

-- buckets: clause i opens one of the group whose number is g, what clause i leads is a line, and clause i opens one that is a line
abbrev pub bucket_opens : Heads → ℕ → ℕ → Bool
bucket_opens h g i = opens_bucket h.leaders.now h.heads.now g i

abbrev pub bucket_needs_line : Heads → ℕ → Bool
bucket_needs_line h i = needs_line h.leaders.now h.dynamic i

abbrev pub line_opens : Heads → ℕ → ℕ → Bool
line_opens h g i = opens_line h.leaders.now h.heads.now h.dynamic g i

-- the entry of the bucket that clause i opens, the entries of a group, and those of the list group
abbrev pub entry_by : Entries → Group → ℕ → ℕ → List Rec
entry_by e g d i = entry_at e.buckets.heads.leaders.now e.buckets.heads.heads.now e.bits.now e.offs.now e.buckets.heads.dynamic (group_number g) d i

abbrev pub entries_by : Entries → Group → ℕ → List Rec
entries_by e g d = entries e.buckets.heads.leaders.now e.buckets.heads.heads.now e.bits.now e.offs.now e.buckets.heads.dynamic (group_number g) d

abbrev pub list_entries_by : Entries → ℕ → List Rec
list_entries_by e d = list_entries e.buckets.heads.leaders.now e.buckets.heads.heads.now e.bits.now e.offs.now e.buckets.heads.dynamic d

-- the switch with its entries
abbrev pub switch_by : Entries → ℕ → ℕ → List Rec
switch_by e arg d = switch_recs e.buckets.heads.leaders.now e.buckets.heads.heads.now e.bits.now e.offs.now e.buckets.heads.dynamic arg d

-- the offset of clause j, and the offsets of the bucket that clause i leads
abbrev pub choice_by : Choices → Settings → ℕ → ℕ → ℕ → ℕ → List Rec
choice_by c s n i k j = choice_at c.leaders.now c.offs.now c.tags.now s.dynamic s.non_counted n i k j

abbrev pub choices_by : Choices → Settings → ℕ → List Rec
choices_by c s i = choices c.leaders.now c.offs.now c.tags.now s.dynamic s.non_counted i

-- clause j of the bucket that clause i leads has no key at argument b
abbrev pub open_by : Opens → ℕ → ℕ → ℕ → Bool
open_by o i b j = open_member o.leaders.now o.opens.now [] i b j

-- clause j as a dead clause where that is so
abbrev pub dead_clause_by : Tables → ℕ → ℕ → ℕ → List Rec
dead_clause_by t i b j = cond (open_member t.opens.leaders.now t.opens.opens.now t.offs.now i b j) (rec_of 7 0 0 (get_or t.offs.now j 0) 0 ∷ []) []

-- the dead clauses of the bucket at argument b, its table, and its tables for k arguments from b on
abbrev pub dead_clauses_by : Tables → ℕ → ℕ → List Rec
dead_clauses_by t i b = dead_clauses t.opens.leaders.now t.opens.opens.now t.offs.now i b

abbrev pub table_by : Tables → Settings → ℕ → ℕ → List Rec
table_by t s i b = table_at t.opens.leaders.now t.opens.opens.now t.offs.now s.mask s.extensible i b

abbrev pub tables_by : Tables → Settings → ℕ → ℕ → ℕ → List Rec
tables_by t s i b k = tables_at t.opens.leaders.now t.opens.opens.now t.offs.now s.mask s.extensible i b k

-- the dead table of all clauses
abbrev pub dead_by : Tables → ℕ → List Rec
dead_by t arg = dead_recs t.opens.leaders.now t.opens.opens.now t.offs.now arg

-- what stands behind the line record of a bucket, the line, and line 0
abbrev pub rest_by : Clauses → Switched → ℕ → List Rec
rest_by c w i =
    tables_at c.tables.opens.leaders.now c.tables.opens.opens.now c.tables.offs.now w.settings.mask w.settings.extensible i (w.arg + 1) (w.settings.arity - w.arg)
    ++ choices c.tables.opens.leaders.now c.tables.offs.now c.tags.now w.settings.dynamic w.settings.non_counted i

abbrev pub line_by : Clauses → Switched → ℕ → ℕ → List Rec
line_by c w number i = line_of c.tables.opens.leaders.now [] c.tables.opens.opens.now c.tables.offs.now c.tags.now w.settings w.arg number i

abbrev pub seed_by : Clauses → Switched → List Rec
seed_by c w = seed_recs c.tables.opens.leaders.now c.tables.opens.opens.now c.tables.offs.now c.tags.now w.settings w.arg

-- the new line for the bucket that clause i leads, the lines of a group, those of the list group, and all
abbrev pub new_line_by : NewLines → ℕ → ℕ → List Rec
new_line_by l number i =
    line_of l.rooms.buckets.heads.leaders.now [] l.rooms.opens.now l.offs.now l.tags.now l.rooms.switched.settings l.rooms.switched.arg number i

abbrev pub group_lines_by : NewLines → Group → ℕ → List Rec
group_lines_by l g number =
    group_lines l.rooms.buckets.heads.leaders.now l.rooms.buckets.heads.heads.now l.rooms.opens.now l.offs.now l.tags.now l.rooms.switched.settings
    l.rooms.switched.arg (group_number g) number

abbrev pub list_line_by : NewLines → ℕ → List Rec
list_line_by l number =
    list_line l.rooms.buckets.heads.leaders.now l.rooms.buckets.heads.heads.now l.rooms.opens.now l.offs.now l.tags.now l.rooms.switched.settings
    l.rooms.switched.arg number

abbrev pub new_lines_by : NewLines → ℕ → List Rec
new_lines_by l number =
    new_lines_recs l.rooms.buckets.heads.leaders.now l.rooms.buckets.heads.heads.now l.rooms.opens.now l.offs.now l.tags.now l.rooms.switched.settings
    l.rooms.switched.arg number

-- the switch of all columns of a line, at the argument that they are of
abbrev pub switch_in : Columns → ℕ → List Rec
switch_in c d =
    switch_recs c.lines.rooms.buckets.heads.leaders.now c.lines.rooms.buckets.heads.heads.now c.bits.now c.lines.offs.now
    c.lines.rooms.buckets.heads.dynamic c.lines.rooms.switched.arg d

-- the room of an index by what its line 0 and its new lines are written by, whatever their bits, offsets and tags are: its line 0, its switch, and all
pub record IndexRoomOf (w : Opens) (l : LineRooms) (bits offs tags : List ℕ) (r : IndexRoom) : Type 0 where
  pub line_is : r.line ≡ length (seed_recs w.leaders.now w.opens.now offs tags l.switched.settings l.switched.arg)
  pub more-is : r.more + 1 ≡ length (switch_recs l.buckets.heads.leaders.now l.buckets.heads.heads.now bits offs l.buckets.heads.dynamic l.switched.arg 1)
  pub count-is : r.count ≡ length (seed_recs w.leaders.now w.opens.now offs tags l.switched.settings l.switched.arg)
      + length (switch_recs l.buckets.heads.leaders.now l.buckets.heads.heads.now bits offs l.buckets.heads.dynamic l.switched.arg 1)
      + length (new_lines_recs l.buckets.heads.leaders.now l.buckets.heads.heads.now l.opens.now offs tags l.switched.settings l.switched.arg 1) - 1
