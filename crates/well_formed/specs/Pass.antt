-- The check of number 12 as the code makes it: record by record from the last to the first, as Reading reads them.
-- Inner definitions, for the contracts of this crate's functions; proofs/PassIs shows that the check's answer is well_formed's.
-- Assumes nothing.
use Rattle.std.specs.Prelude.{◌≡◌, Bool, true, false, cond, not, ◌&&◌, ◌||◌, List, [], ◌∷◌, Option, None, Some, ℕ, zero, suc, ◌+◌, ◌-◌, eqb, leb, ltb, length, get_or, set, take}
use Rattle.std.specs.List.{list_any}
use Rattle.records.specs.declared.Rec.{Rec}
use Rattle.indexing_iter.specs.declared.OptArgIndexKey.{OptArgIndexKey as Key}
use Rattle.indexing_iter.specs.declared.group.Group.{Group}
use Rattle.indexing_iter.specs.declared.group.Group.TheVariants.{Literals, List as Lists, Structures}
use Rattle.indexing_iter.specs.Groups.{group_number}
use Rattle.indexing_iter.specs.Keys.{group_of, same}
use Rattle.indexing_iter.specs.Clauses.{known}
use Rattle.indexing.specs.Lines.{Ptr, ext, int, Entry, Table, arg_of, Index, line_at, offs, mode_of}
use Rattle.indexing.specs.Reading.{Waiting, waiting, read_all, parse}
use Rattle.well_formed.specs.WellFormed.{entry_keys}
use Rattle.well_formed.specs.declared.Waits.{Waits}

-- the argument of the first of some tables; 33, above every argument, where there is none
abbrev pub first_arg : List Table → ℕ
first_arg [] = 33
first_arg (t ∷ ts) = arg_of t

-- the first of some offsets, 0 where there is none
abbrev pub first_of : List ℕ → ℕ
first_of [] = 0
first_of (o ∷ os) = o

-- the group of a number; none of another than 1 to 3
abbrev pub group_in : ℕ → Option Group
group_in n = cond (eqb n 1) (Some Literals) (cond (eqb n 2) (Some Lists) (cond (eqb n 3) (Some Structures) None))

-- what the group of an entry in front may be at most; 4, above every group, where there is none behind
abbrev pub group_bound : Option Group → ℕ
group_bound None = 4
group_bound (Some g) = group_number g

-- the group of the first of some entries, none where there is none
abbrev pub first_group : List (Entry Ptr) → Option Group
first_group [] = None
first_group (e ∷ es) = group_in (group_of e.key)

-- the lower of two numbers
abbrev pub lower : ℕ → ℕ → ℕ
lower m n = cond (ltb m n) m n

module _ (dynamic : Bool) (known : ℕ → Bool) where
  -- a pointer's bound: its switch must have an argument below this number, 0 where the pointer is wrong; ls are the lines behind its own
  abbrev pub reach : Index → Ptr → ℕ
  reach ls (ext o) = cond (not dynamic && known o) 33 0
  reach ls (int zero) = 0
  reach ls (int (suc d)) = cond (ltb d (length ls)) (first_arg (line_at ls d).tables) 0

  -- the same of all of a switch's entries
  abbrev pub least : Index → List (Entry Ptr) → ℕ
  least ls [] = 33
  least ls (e ∷ es) = lower (reach ls e.to) (least ls es)

  -- of the state of the reading, what the check of the next record needs
  abbrev pub waits : Waiting → Waits
  waits w = record {
    entries = length w.entries;
    group = first_group w.entries;
    below = least w.lines w.entries;
    clause = first_of w.deads;
    first = first_arg w.tables;
    offset = first_of (offs w.choices);
    lines = length w.lines;
  }

-- the group of a key by its sort
abbrev pub group_by_sort : ℕ → ℕ
group_by_sort s = cond (eqb s 0) 0 (cond (eqb s 4) 3 (cond (eqb s 5) 2 1))

-- the fields of an entry are a key's: a literal of sort 1 to 3 has arity 0, a list has arity and bits 0
unfoldable pub form_ok : ℕ → ℕ → ℕ → Bool
form_ok s n b = cond (eqb s 4) true (cond (eqb s 5) (eqb n 0 && eqb b 0) (leb 1 s && (leb s 3 && eqb n 0)))

-- an offset that may stand in front of others, of which first is the first
unfoldable pub rises : (ℕ → Bool) → ℕ → ℕ → Bool
rises known o first = known o && (eqb first 0 || ltb o first)

-- an offset's tag: 6 or 7 if dynamic, else 1 to 5
unfoldable pub tag_in : Bool → ℕ → Bool
tag_in true tag = leb 6 tag && leb tag 7
tag_in false tag = leb 1 tag && leb tag 5

-- neither an entry nor a dead clause is without its table
unfoldable pub idle : Waits → Bool
idle s = eqb s.entries 0 && eqb s.clause 0

-- a record without half and long
unfoldable pub bare : Rec → Bool
bare r = eqb r.half 0 && eqb r.long 0

-- a line record, total the number of all lines: a static line has an offset
unfoldable pub line_step : Bool → ℕ → Rec → Waits → Bool
line_step dynamic total r s =
    eqb r.sub (mode_of dynamic) && (bare r && (eqb (r.word + s.lines + 1) total && (idle s && (dynamic || not (eqb s.offset 0)))))

-- a table's record: its argument is at most the arity, and below that of the next table
unfoldable pub table_step : ℕ → Rec → Waits → Bool
table_step arity r s =
    eqb r.sub 0 && (eqb r.word 0 && (eqb r.long 0 && (leb 1 r.half && (leb r.half arity && ltb r.half s.first))))

-- a switch: its argument is below the bounds of its pointers
unfoldable pub switch_step : ℕ → Rec → Waits → Bool
switch_step arity r s = eqb s.clause 0 && (ltb r.half s.below && table_step arity r s)

unfoldable pub demand_step : ℕ → Rec → Waits → Bool
demand_step arity r s = idle s && table_step arity r s

unfoldable pub dead_step : ℕ → Rec → Waits → Bool
dead_step arity r s = eqb s.entries 0 && table_step arity r s

-- an entry: its group is not above that of the next entry
unfoldable pub entry_step : Rec → Waits → Bool
entry_step r s = form_ok r.sub r.half r.long && leb (group_by_sort r.sub) (group_bound s.group)

-- an offset: no table and nothing of a table stands behind it
unfoldable pub choice_step : Bool → (ℕ → Bool) → Rec → Waits → Bool
choice_step dynamic known r s = idle s && (eqb s.first 33 && (bare r && (tag_in dynamic r.sub && rises known r.word s.offset)))

-- a dead clause
unfoldable pub clause_step : (ℕ → Bool) → Rec → Waits → Bool
clause_step known r s = eqb s.entries 0 && (eqb r.sub 0 && (bare r && rises known r.word s.clause))

-- a record of kind k in front of the records that are read
unfoldable pub step_ok : ℕ → Bool → (ℕ → Bool) → ℕ → ℕ → Rec → Waits → Bool
step_ok arity dynamic known total k r s =
    cond (eqb k 1) (line_step dynamic total r s)
    (cond (eqb k 2) (switch_step arity r s)
    (cond (eqb k 3) (demand_step arity r s)
    (cond (eqb k 4) (dead_step arity r s)
    (cond (eqb k 5) (entry_step r s)
    (cond (eqb k 6) (choice_step dynamic known r s)
    (cond (eqb k 7) (clause_step known r s) false))))))

-- the state where a line begins, or nothing is read
abbrev pub fresh : ℕ → Waits
fresh lines = record { entries = 0; group = None; below = 33; clause = 0; first = 33; offset = 0; lines = lines }

-- the state once a switch is read, an on-demand table, a dead table, an entry, an offset, a dead clause
abbrev pub at_switch : Waits → ℕ → Waits
at_switch s a = record { entries = 0; group = None; below = 33; clause = s.clause; first = a; offset = s.offset; lines = s.lines }

abbrev pub at_demand : Waits → ℕ → Waits
at_demand s a = record { entries = s.entries; group = s.group; below = s.below; clause = s.clause; first = a; offset = s.offset; lines = s.lines }

abbrev pub at_dead : Waits → ℕ → Waits
at_dead s a = record { entries = s.entries; group = s.group; below = s.below; clause = 0; first = a; offset = s.offset; lines = s.lines }

abbrev pub at_entry : Waits → Option Group → ℕ → Waits
at_entry s g a = record {
  entries = s.entries + 1;
  group = g;
  below = lower a s.below;
  clause = s.clause;
  first = s.first;
  offset = s.offset;
  lines = s.lines;
}

abbrev pub at_choice : Waits → ℕ → Waits
at_choice s o = record { entries = s.entries; group = s.group; below = s.below; clause = s.clause; first = s.first; offset = o; lines = s.lines }

abbrev pub at_clause : Waits → ℕ → Waits
at_clause s o = record { entries = s.entries; group = s.group; below = s.below; clause = o; first = s.first; offset = s.offset; lines = s.lines }

-- the state once a record of kind k is read; for an entry, a is its pointer's bound
unfoldable pub after : ℕ → Rec → Waits → ℕ → Waits
after k r s a =
    cond (eqb k 1) (fresh (s.lines + 1))
    (cond (eqb k 2) (at_switch s r.half)
    (cond (eqb k 3) (at_demand s r.half)
    (cond (eqb k 4) (at_dead s r.half)
    (cond (eqb k 5) (at_entry s (group_in (group_by_sort r.sub)) a)
    (cond (eqb k 6) (at_choice s r.word) (at_clause s r.word))))))

-- ---- what the code keeps in lists

-- 1 for a line record, else 0
abbrev pub one_line : ℕ → ℕ
one_line k = cond (eqb k 1) 1 0

-- an offset is known: the list has a 1 there
unfoldable pub marked : List ℕ → ℕ → Bool
marked marks o = eqb (get_or marks o 0) 1

-- exactly the clauses' offsets are marked
abbrev pub Marks : List ℕ → List ℕ → Type 0
Marks marks starts = (o : ℕ) → marked marks o ≡ known starts o

-- a pointer's bound, firsts the first arguments of the lines behind, the last line's first
unfoldable pub reach_in : Bool → (ℕ → Bool) → List ℕ → ℕ → Ptr → ℕ
reach_in dynamic known firsts lines (ext o) = cond (not dynamic && known o) 33 0
reach_in dynamic known firsts lines (int d) = cond (ltb d 1) 0 (cond (ltb lines d) 0 (get_or firsts (lines - d) 0))

-- the first arguments with one more, where the record is a line's
unfoldable pub noted : ℕ → ℕ → ℕ → List ℕ → List ℕ
noted k lines first firsts = cond (eqb k 1) (set firsts lines first) firsts

-- section 2: two entries have equal keys if sort, arity and bits are equal
unfoldable pub same_fields : Rec → Rec → Bool
same_fields r q = eqb r.sub q.sub && (eqb r.half q.half && eqb r.long q.long)

-- one of some entries has the key of r
unfoldable pub among : Rec → List Rec → Bool
among r [] = false
among r (q ∷ qs) = let rest = among r qs in same_fields r q || rest

-- no two of some entries have equal keys
unfoldable pub distinct_keys : List Rec → Bool
distinct_keys [] = true
distinct_keys (r ∷ rs) = let rest = distinct_keys rs in not (among r rs) && rest

-- ---- the pass

-- no two of some keys are equal
abbrev pub once : List Key → Bool
once [] = true
once (k ∷ ks) = not (list_any (same k) ks) && once ks

-- a record of kind k passes in front of the records behind: of a switch, the keys of its entries too
abbrev pub passed_by : ℕ → Bool → (ℕ → Bool) → ℕ → ℕ → Rec → Waits → List Rec → Bool
passed_by arity dynamic known total k r s behind =
    step_ok arity dynamic known total k r s && cond (eqb k 2) (distinct_keys (take s.entries behind)) true

-- a state that is reached where a record passes
abbrev pub stepped : Bool → Waits → Option Waits
stepped t s = cond t (Some s) None

-- the keys of a switch are looked at when its record is met
unfoldable pub keys_once : ℕ → List (Entry Ptr) → Bool
keys_once k es = cond (eqb k 2) (once (entry_keys es)) true

-- nothing is left without a table or line record in front, and there is a line
unfoldable pub closed : Waits → Bool
closed s = idle s && (eqb s.first 33 && (eqb s.offset 0 && ltb 0 s.lines))

-- the state where nothing is read
abbrev pub nothing : Waiting
nothing = waiting [] [] [] [] []

module _ (arity : ℕ) (dynamic : Bool) (known : ℕ → Bool) where
  -- each record passes in front of those behind it
  unfoldable pub pass : ℕ → Waiting → List Rec → Bool
  pass total w [] = true
  pass total w (r ∷ rs) =
      let v = read_all rs w in
      (step_ok arity dynamic known total r.kind r (waits dynamic known v) && keys_once r.kind v.entries) && pass total w rs

  -- all pass, and nothing is left in front of the first
  unfoldable pub checked : ℕ → List Rec → Bool
  checked total rs = pass total nothing rs && closed (waits dynamic known (read_all rs nothing))

  -- the check of number 12
  abbrev pub passes : List Rec → Bool
  passes rs = checked (length (parse rs)) rs
