-- Places in the records of a stored index, and the choice in a switch over its records (document 01, sections 3 and 5).
-- Inner definitions: the functions that find their way in an index are stated with them; no public promise cites them.
-- proofs/PlaceLaws and proofs/ChooseLaws say what they are of the lines of section 3 and of the walk of section 5.
-- Assumes nothing.
use Rattle.std.specs.Prelude.{◌≡◌, Bool, cond, not, ◌||◌, List, [], ◌∷◌, ◌++◌, map, ℕ, zero, suc, ◌+◌, ◌≤◌, ◌<◌, eqb, length, take, drop}
use Rattle.std.specs.List.{filter}
use Rattle.std.proofs.Math.Option.{Option, none, some}
use Rattle.records.specs.declared.Rec.{Rec}
use Rattle.records.specs.Records.{rec_of, records_of}
use Rattle.indexing_iter.specs.declared.OptArgIndexKey.{OptArgIndexKey as Key}
use Rattle.indexing_iter.specs.Keys.{group_of, same}
use Rattle.indexing.specs.Lines.{Ptr, Table, switch, on_demand, dead, Index, line_at, tables_recs, choice_rec, records}
use Rattle.indexing.specs.Reading.{key_from, pointer_from}
use Rattle.well_formed.specs.Pass.{group_by_sort}
use Rattle.indexing_scan.specs.Walk.{Chosen as WalkChosen}
use Rattle.indexing_scan.specs.declared.stored.Chosen.{Chosen}
use Rattle.indexing_scan.specs.declared.stored_index.Stored.{Stored}
use Rattle.indexing_scan.specs.declared.stored.Chosen.TheVariants.{Nothing, Only, Equal}

-- ---- runs of records by their kinds

-- section 3: what follows a table's record, an entry or a dead clause
abbrev pub is_item : ℕ → Bool
is_item k = eqb k 5 || eqb k 7

-- section 3: a table's record, switch, on demand or dead
abbrev pub is_table : ℕ → Bool
is_table k = eqb k 2 || (eqb k 3 || eqb k 4)

-- section 3: the kinds of a run are those of the items of one table, of tables with their items, or of offsets
abbrev pub is_tables : ℕ → Bool
is_tables k = is_table k || is_item k

abbrev pub is_offset : ℕ → Bool
is_offset k = eqb k 6

-- a record of a run, by the kinds of the run
abbrev pub in_run : (ℕ → Bool) → Rec → Bool
in_run t r = t r.kind

-- a record with which a run has ended
unfoldable pub leaves : (ℕ → Bool) → Rec → Bool
leaves t r = not (in_run t r)

-- how many records stand before the first that passes the test
unfoldable pub up_to : (Rec → Bool) → List Rec → ℕ
up_to t [] = 0
up_to t (r ∷ rs) = cond (t r) 0 (up_to t rs + 1)

-- how many records pass the test
unfoldable pub count_of : (Rec → Bool) → List Rec → ℕ
count_of t [] = 0
count_of t (r ∷ rs) = cond (t r) (count_of t rs + 1) (count_of t rs)

-- how many records there are up to the d-th line record and with it
unfoldable pub through_line : ℕ → List Rec → ℕ
through_line d [] = 0
through_line zero (r ∷ rs) = 0
through_line (suc d) (r ∷ rs) = cond (eqb r.kind 1) (through_line d rs + 1) (through_line (suc d) rs + 1)

-- ---- places

-- the records of an index at the front of a buffer
abbrev pub records_by : Stored → List Rec
records_by stored = take stored.count (records_of stored.index.now)

-- the place behind the table whose record is at p
unfoldable pub behind_table : List Rec → ℕ → ℕ
behind_table rs p = p + 1 + up_to (leaves is_item) (drop (p + 1) rs)

-- the place behind the d-th line record from p on
unfoldable pub behind_line : List Rec → ℕ → ℕ → ℕ
behind_line rs p d = p + through_line d (drop p rs)

-- the place behind all tables from p on
unfoldable pub first_offset : List Rec → ℕ → ℕ
first_offset rs p = p + up_to (leaves is_tables) (drop p rs)

-- the number of offsets from q on
unfoldable pub offsets_at : List Rec → ℕ → ℕ
offsets_at rs q = up_to (leaves is_offset) (drop q rs)

-- section 3: a table's own record
abbrev pub head_rec : Table → Rec
head_rec (switch a es) = rec_of 2 0 a 0 0
head_rec (on_demand a) = rec_of 3 0 a 0 0
head_rec (dead a os) = rec_of 4 0 a 0 0

-- a walk in line l of the index, with the tables ts of that line left, stands at place p of the records rs: from there on stand
-- the records of ts, those of the line's offsets, and those of the later lines
pub record At (m : ℕ) (idx : Index) (rs : List Rec) (l : ℕ) (ts : List Table) (p : ℕ) : Type 0 where
  pub line : l < length idx
  pub within : p ≤ length rs
  pub passed : List Table
  pub tables : passed ++ ts ≡ (line_at idx l).tables
  pub rest : drop p rs ≡ tables_recs ts ++ (map choice_rec (line_at idx l).choices ++ records m (suc l) (drop (suc l) idx))

-- ---- the choice in a switch, over the records of its entries

-- section 3: the key of an entry's record
abbrev pub key_of_rec : Rec → Key
key_of_rec r = key_from r.sub r.half r.long

-- an entry of group g
unfoldable pub in_group : ℕ → Rec → Bool
in_group g r = eqb g (group_by_sort r.sub)

-- an entry whose key is equal to q
unfoldable pub has_key : Key → Rec → Bool
has_key q r = same (key_of_rec r) q

-- section 5: the equal key, searched until found
unfoldable pub equal_rec : Key → List Rec → Chosen
equal_rec q [] = Nothing
equal_rec q (r ∷ rs) = cond (has_key q r) (Equal r.word) (equal_rec q rs)

-- section 5: of one group's entries, one is followed whatever its key, otherwise the equal key
unfoldable pub pick_rec : Key → List Rec → Chosen
pick_rec q [] = Nothing
pick_rec q (r ∷ []) = Only r.word
pick_rec q (r ∷ (s ∷ rs)) = equal_rec q (r ∷ (s ∷ rs))

-- section 5: the choice in a switch, among literals, structures or list by the key's sort
unfoldable pub choose_rec : Key → List Rec → Chosen
choose_rec q rs = pick_rec q (filter (in_group (group_of q)) rs)

-- the choice with its pointer read, as the walk has it: 4 the only entry, 5 the equal key among several
abbrev pub choice_of : Chosen → Option (WalkChosen Ptr)
choice_of Nothing = none
choice_of (Only w) = some (record { how = 4; to = pointer_from w })
choice_of (Equal w) = some (record { how = 5; to = pointer_from w })
