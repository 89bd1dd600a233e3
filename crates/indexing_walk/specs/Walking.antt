-- A walk on its way through a stored index: where it stands, what is left of it, and how it ends. For contracts of inner functions.
-- Assumes nothing.
use Rattle.std.specs.Prelude.{◌≡◌, true, false, cond, List, [], ◌∷◌, ℕ, ◌+◌, ◌-◌, ◌*◌, ◌≤◌, ◌<◌, eqb, length, get_or, take}
use Rattle.std.proofs.Math.Option.{Option, none, some}
use Rattle.records.specs.declared.Rec.{Rec}
use Rattle.records.specs.Records.{records_of, zero_rec}
use Rattle.indexing_iter.specs.declared.Settings.{Settings}
use Rattle.indexing_iter.specs.declared.program.Program.{Program}
use Rattle.indexing_iter.specs.Classes.{class_of}
use Rattle.indexing_iter.specs.Clauses.{known}
use Rattle.indexing_iter.specs.Keys.{is_open}
use Rattle.indexing.specs.Lines.{Ptr, ext, int, Table, Index, line_at, find, size, mode_of, records}
use Rattle.indexing.specs.Reading.{parse, pointer_from}
use Rattle.indexing.specs.Build.{program_of}
use Rattle.indexing.specs.Builder.{capacity_of, stored}
use Rattle.well_formed.specs.WellFormed.{args_ok, index_ok}
use Rattle.indexing_scan.specs.ByArgument.{walk_from}
use Rattle.indexing_scan.specs.Walk.{Chosen as WalkChosen, line, Result}
use Rattle.indexing_scan.specs.Calls.{call_of}
use Rattle.indexing_scan.specs.Cases.{case_of}
use Rattle.indexing_scan.specs.Places.{At, behind_line, choice_of}
use Rattle.indexing_scan.specs.declared.stored.Chosen.{Chosen}
use Rattle.indexing_scan.specs.declared.query.Query.{Query}
use Rattle.indexing_walk.specs.declared.Looked.{Looked}
use Rattle.indexing_walk.specs.declared.Looked.TheVariants.{Failed, External, Enter}
use Rattle.indexing_walk.specs.declared.Walking.{Walking}
use Rattle.indexing_walk.specs.declared.Ended.{Ended}
use Rattle.indexing_scan.specs.declared.case.Case.{Case as Ending}
use Rattle.indexing_scan.specs.declared.case.Case.TheVariants.{Fail as Fails, External as Externals}
use Rattle.std.specs.declared.ops.ControlFlow.{ControlFlow}
use Rattle.std.specs.declared.ops.ControlFlow.TheVariants.{Continue, Break}

-- ---- what a switch leads to

-- a pointer followed from place p of line l: an offset, or the line and the place of its first table
abbrev pub led_to : List Rec → ℕ → ℕ → Ptr → Looked
led_to rs p l (ext o) = External o
led_to rs p l (int d) = Enter (l + d) (behind_line rs p d)

unfoldable pub followed_by : List Rec → ℕ → ℕ → ℕ → Looked
followed_by rs p l w = led_to rs p l (pointer_from w)

-- what was chosen, followed
abbrev pub choice_led : List Rec → ℕ → ℕ → Option (WalkChosen Ptr) → Looked
choice_led rs p l none = Failed
choice_led rs p l (some c) = led_to rs p l c.to

abbrev pub looked_by : List Rec → ℕ → ℕ → Chosen → Looked
looked_by rs p l c = choice_led rs p l (choice_of c)

-- ---- where a walk stands

-- the index that the first n records of a buffer stand for
abbrev pub index_in : List ℕ → ℕ → Index
index_in b n = parse (take n (records_of b))

-- a walk stands in the buffer b: its first records are those of a sound index, and the walk is at a place of a line where the tables for the
-- arguments from one on are left
pub record Stands (S : Settings) (starts b : List ℕ) (w : Walking) : Type 0 where
  pub records-are : take w.count (records_of b) ≡ records (mode_of S.dynamic) 0 (index_in b w.count)
  pub sound : index_ok S.arity S.dynamic (known starts) (index_in b w.count) ≡ true
  pub fits : w.count ≤ capacity_of b
  pub lines_are : w.lines ≡ length (index_in b w.count)
  pub tables : List Table
  pub place : At (mode_of S.dynamic) (index_in b w.count) (take w.count (records_of b)) w.line tables w.at
  pub later : args_ok S.arity w.from tables ≡ true
  pub finds : (c : ℕ) → w.from ≤ c → c ≤ S.arity → find c tables ≡ find c (line_at (index_in b w.count) w.line).tables
  pub first : w.tables < w.from
  pub last : w.from ≤ S.arity + 1

-- the buffer b, which was b₀, has an index of n records in front, and is as it was behind it
abbrev pub Kept : Settings → List ℕ → List ℕ → ℕ → Type 0
Kept S b₀ b n = b ≡ stored S.dynamic (index_in b n) b₀

-- the records of its index, and the one at its place
abbrev pub stored_in : List ℕ → Walking → List Rec
stored_in b w = take w.count (records_of b)

abbrev pub record_at : List ℕ → Walking → Rec
record_at b w = get_or (stored_in b w) w.at zero_rec

-- an on-demand table stands there, for argument a
abbrev pub Demands : List ℕ → Walking → ℕ → Type 0
Demands b w a = ((record_at b w).kind ≡ 3) × (a ≡ (record_at b w).half)

-- a walk through an index of a program stands in the buffer
abbrev pub StandsIn : Program → List ℕ → Walking → Type 0
StandsIn program b w = Stands program.settings program.starts.now b w

-- ---- the ways of a turn

-- the walk at place p of line l, with one more table looked at, which was for argument a
abbrev pub moved_to : Walking → ℕ → ℕ → ℕ → Walking
moved_to w l p a =
    record { line = l; at = p; from = a + 1; count = w.count; lines = w.lines; storing = w.storing; tables = w.tables + 1 }

-- the walk ended in the case c with line number l and k offsets, and so many more tables looked at
abbrev pub ended_by : Walking → Ending → ℕ → ℕ → ℕ → Ended
ended_by w c l k more =
    record { case = c; line = l; count = k; tables = w.tables + more; whole = w.storing; records = w.count }

-- the walk from where nothing is stored any more, and at the same place of an expanded index
abbrev pub off_at : Walking → Walking
off_at w = record { line = w.line; at = w.at; from = w.from; count = w.count; lines = w.lines; storing = false; tables = w.tables }

abbrev pub grown_at : Walking → ℕ → ℕ → ℕ → Walking
grown_at w a count lines = record { line = w.line; at = w.at; from = a; count = count; lines = lines; storing = w.storing; tables = w.tables }

-- the turn at a switch for argument a
abbrev pub turned_by : Walking → ℕ → Looked → ControlFlow Ended Walking
turned_by w a Failed = Break (ended_by w Fails 0 0 1)
turned_by w a (External o) = Break (ended_by w Externals 0 1 1)
turned_by w a (Enter l p) = Continue (moved_to w l p a)

-- the offset of an external pointer stands at the front of the list
abbrev pub ListedBy : Looked → List ℕ → Type 0
ListedBy Failed list = Unit {0}
ListedBy (External o) list = take 1 list ≡ o ∷ []
ListedBy (Enter l p) list = Unit {0}

-- ---- what is left of it

-- a result, after k tables were looked at, is that of what is left
pub record Comes (W : Result) (k : ℕ) (Z : Result) : Type 0 where
  pub kind : W.found.kind ≡ Z.found.kind
  pub offsets : W.found.offsets ≡ Z.found.offsets
  pub path : length W.found.path ≡ k + length Z.found.path
  pub number : W.number ≡ Z.number
  pub whole : W.whole ≡ Z.whole
  pub left : W.left ≡ Z.left

-- the result of what is left
unfoldable pub rest_of : List ℕ → List ℕ → Settings → List ℕ → List ℕ → Walking → Result
rest_of code starts S call b w =
    walk_from (program_of class_of S (records_of code) starts) (capacity_of b) (call_of call) (S.arity + 1 - w.from) w.from
    (record { storing = w.storing; index = index_in b w.count }) (line w.line)

-- a number that falls with each turn: arguments left, whether expansions are stored, whether the table there is on demand
unfoldable pub turns_left : Settings → List ℕ → Walking → ℕ
turns_left S b w = 3 * (S.arity + 1 - w.from) + (cond w.storing 1 0 + cond (eqb (get_or (take w.count (records_of b)) w.at zero_rec).kind 3) 1 0)

-- how it ended: the case, line number, count and tables of the result; its offsets at the front of a list, and its index in the buffer
pub record Ends (b list : List ℕ) (W : Result) (e : Ended) : Type 0 where
  pub case : case_of e.case ≡ W.found.kind
  pub line : e.line ≡ W.number
  pub count : e.count ≡ length W.found.offsets
  pub offsets : take e.count list ≡ W.found.offsets
  pub tables : e.tables ≡ length W.found.path
  pub whole : e.whole ≡ W.whole
  pub left : W.left ≡ index_in b e.records
  pub records : e.records ≡ size W.left

-- the walk has gone on: it stands, what is left gives the result, fewer turns are left, and the buffer is kept
pub record Went (code starts : List ℕ) (S : Settings) (call b : List ℕ) (w : Walking) (b' : List ℕ) (v : Walking) : Type 0 where
  pub stands : Stands S starts b' v
  pub comes : (W : Result) → Comes W w.tables (rest_of code starts S call b w) → Comes W v.tables (rest_of code starts S call b' v)
  pub fewer : turns_left S b' v < turns_left S b w
  pub kept : (b₀ : List ℕ) → Kept S b₀ b w.count → Kept S b₀ b' v.count
  pub long : length b' ≡ length b

-- one turn: it has gone on, or ended with the buffer as it was
abbrev pub Turns : List ℕ → List ℕ → Settings → List ℕ → List ℕ → Walking → List ℕ → List ℕ → ControlFlow Ended Walking → Type 0
Turns code starts S call b w b' list (Continue v) = Went code starts S call b w b' v
Turns code starts S call b w b' list (Break e) = ((W : Result) → Comes W w.tables (rest_of code starts S call b w) → Ends b list W e) × (b' ≡ b) × (e.records ≡ w.count) × (e.count ≤ length starts)

-- the walk has gone on so with every call that is bound at argument a
abbrev pub WentBound : List ℕ → List ℕ → Settings → List ℕ → Walking → ℕ → List ℕ → Walking → Type 0
WentBound code starts S b w a b' v = (call : List ℕ) → is_open (call_of call a) ≡ false → Went code starts S call b w b' v

-- a walk that stood there has ended
abbrev pub Walks : List ℕ → List ℕ → Settings → List ℕ → List ℕ → Walking → List ℕ → List ℕ → Ended → Type 0
Walks code starts S call b w b' list e =
    ((W : Result) → Comes W w.tables (rest_of code starts S call b w) → Ends b' list W e) × ((b₀ : List ℕ) → Kept S b₀ b w.count → Kept S b₀ b' e.records)
    × (e.count ≤ length starts)

-- ---- the same of a program and of a call of it

abbrev pub TurnsBy : Query → List ℕ → Walking → List ℕ → List ℕ → ControlFlow Ended Walking → Type 0
TurnsBy query = Turns query.program.code.now query.program.starts.now query.program.settings query.call.now

abbrev pub WalksBy : Query → List ℕ → Walking → List ℕ → List ℕ → Ended → Type 0
WalksBy query = Walks query.program.code.now query.program.starts.now query.program.settings query.call.now

abbrev pub WentIn : Program → List ℕ → Walking → ℕ → List ℕ → Walking → Type 0
WentIn program = WentBound program.code.now program.starts.now program.settings
