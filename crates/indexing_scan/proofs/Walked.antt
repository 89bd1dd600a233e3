-- Computed examples of the walk, after document 01's section 5; proofs/Called has those of the calls on bytes.
-- They pin the definitions: an edit of Walk that changes an answer or the index that is left makes `walked` false.
-- Assumes nothing.
use Prim.Native.Nat.{ℕ, ◌-◌}
use mathlib.Core.Bool.{Bool, cond, ◌&&◌}
use mathlib.Core.List.{List, [], ◌∷◌}
use lib.Dec.{T}
use lib.ListN.{length, get_or}
use Rattle.records.specs.declared.Rec.{Rec}
use Rattle.indexing_iter.specs.declared.OptArgIndexKey.{OptArgIndexKey as Key}
use Rattle.indexing_iter.specs.declared.OptArgIndexKey.TheVariants.{None, Literal, Structure, List as ListKey}
use Rattle.indexing.proofs.Sample.{clause, static, dynamic, atom, show, line, switch, demand, dead, entry, inner, offset, dead_clause, listing}
use Rattle.indexing.proofs.Sample.{alike, fields, all}
use Rattle.indexing.specs.Lines.{mode_of, records}
use Rattle.indexing.specs.Reading.{parse}
use Rattle.indexing.specs.Build.{Program}
use Rattle.indexing.specs.Expand.{expand_at}
use Rattle.indexing_scan.specs.Walk.{Result, walk_on, walk}
use Rattle.indexing_scan.specs.Calls.{case_number}

-- ---- a walk: the index, its capacity, the call's keys; then case, line, tables, mark and the offsets selected, and the index left

pub record Walk : Type 0 where
  pub of : Program
  pub index : List Rec
  pub capacity : ℕ
  pub call : List Key
  pub answer : List ℕ
  pub left : List Rec

abbrev answers : Walk → Result → Bool
answers w r =
    alike (case_number r.found.kind ∷ r.number ∷ length r.found.path ∷ cond r.whole 0 1 ∷ r.found.offsets) w.answer
    && alike (fields (records (mode_of w.of.dynamic) 0 r.left)) (fields w.left)

abbrev pub ran : Walk → Result
ran w = walk w.of w.capacity (λ a. get_or w.call (a - 1) None) (parse w.index)

abbrev pub gives : Walk → Bool
gives w = answers w (ran w)

abbrev pub asks : Program → List Rec → ℕ → Key → Key → List ℕ → List Rec → Walk
asks P index capacity p q answer left =
    record { of = P; index = index; capacity = capacity; call = p ∷ q ∷ []; answer = answer; left = left }

-- the worked show, by an index that is full and stays as it is
abbrev pub sees : List Rec → Key → Key → List ℕ → Walk
sees index p q answer = asks (static 2 show) index (length index) p q answer index

-- two clauses, at the offsets 1 and 2: no key at all; atom 5 at argument 2
abbrev pub loose : Program
loose = static 2 (clause 1 (None ∷ None ∷ []) ∷ clause 2 (None ∷ atom 5 ∷ []) ∷ [])

-- one literal, one structure
abbrev single : List Rec
single =
    line 0 0 ∷ switch 1 ∷ entry 1 0 7 (inner 1) ∷ entry 4 2 30 4 ∷ offset 1 1 ∷ offset 2 4 ∷ offset 4 7 ∷ line 0 1 ∷ offset 1 1 ∷ offset 4 7 ∷ []

-- the worked show's line 0 before its switches
abbrev fresh : List Rec
fresh = line 0 0 ∷ demand 1 ∷ demand 2 ∷ offset 1 1 ∷ offset 2 4 ∷ offset 4 7 ∷ []

-- the listing with line 0 expanded, and with line 1 expanded
abbrev upper : List Rec
upper =
    line 0 0 ∷ switch 1 ∷ entry 1 0 7 (inner 1) ∷ entry 1 0 8 4 ∷ switch 2 ∷ entry 1 0 1 1 ∷ entry 1 0 2 7 ∷ entry 5 0 0 4
    ∷ offset 1 1 ∷ offset 2 4 ∷ offset 4 7 ∷ line 0 1 ∷ demand 2 ∷ offset 1 1 ∷ offset 4 7 ∷ []

abbrev lower : List Rec
lower =
    line 0 0 ∷ switch 1 ∷ entry 1 0 7 (inner 1) ∷ entry 1 0 8 4 ∷ demand 2 ∷ offset 1 1 ∷ offset 2 4 ∷ offset 4 7
    ∷ line 0 1 ∷ switch 2 ∷ entry 1 0 1 1 ∷ entry 1 0 2 7 ∷ offset 1 1 ∷ offset 4 7 ∷ []

abbrev dying : List Rec
dying = line 0 0 ∷ dead 1 ∷ dead_clause 4 ∷ switch 2 ∷ entry 1 0 1 1 ∷ entry 1 0 2 7 ∷ entry 5 0 0 4 ∷ offset 1 1 ∷ offset 2 4 ∷ offset 4 7 ∷ []

abbrev two : List Rec
two = line 0 0 ∷ demand 1 ∷ demand 2 ∷ offset 1 1 ∷ offset 4 2 ∷ []

abbrev down : List Rec
down = line 0 0 ∷ demand 1 ∷ switch 2 ∷ entry 1 0 5 (inner 1) ∷ offset 1 1 ∷ offset 4 2 ∷ line 0 1 ∷ offset 1 2 ∷ []

abbrev empty : List Rec
empty = line 1 0 ∷ switch 1 ∷ entry 5 0 0 (inner 1) ∷ offset 7 1 ∷ line 1 1 ∷ demand 2 ∷ []

abbrev emptier : List Rec
emptier = line 1 0 ∷ switch 1 ∷ entry 5 0 0 (inner 1) ∷ offset 7 1 ∷ line 1 1 ∷ switch 2 ∷ entry 5 0 0 (inner 1) ∷ line 1 2 ∷ []

-- cases: 1 Fail, 2 External, 3 Sequence, 4 Variadic
abbrev walks : List Walk
walks =
    -- one entry is followed by another key of its group, by none of another group
    sees single (atom 9) None (3 ∷ 1 ∷ 1 ∷ 0 ∷ 1 ∷ 7 ∷ [])
    ∷ sees single (Literal 2 5) None (3 ∷ 1 ∷ 1 ∷ 0 ∷ 1 ∷ 7 ∷ [])
    ∷ sees single (Structure 1 31) None (2 ∷ 0 ∷ 1 ∷ 0 ∷ 4 ∷ [])
    ∷ sees single ListKey None (1 ∷ 0 ∷ 1 ∷ 0 ∷ [])
    -- among several the equal key
    ∷ sees listing (atom 8) None (2 ∷ 0 ∷ 1 ∷ 0 ∷ 4 ∷ [])
    ∷ sees listing (atom 7) None (3 ∷ 1 ∷ 2 ∷ 0 ∷ 1 ∷ 7 ∷ [])
    ∷ sees listing (atom 9) None (1 ∷ 0 ∷ 1 ∷ 0 ∷ [])
    ∷ sees listing (Literal 2 7) None (1 ∷ 0 ∷ 1 ∷ 0 ∷ [])
    ∷ sees listing (Structure 1 5) ListKey (1 ∷ 0 ∷ 1 ∷ 0 ∷ [])
    ∷ sees listing None None (4 ∷ 0 ∷ 2 ∷ 0 ∷ 1 ∷ 4 ∷ 7 ∷ [])
    -- a dead table is passed
    ∷ sees dying (atom 9) (atom 2) (2 ∷ 0 ∷ 2 ∷ 0 ∷ 7 ∷ [])
    ∷ sees dying (atom 9) None (4 ∷ 0 ∷ 2 ∷ 0 ∷ 1 ∷ 4 ∷ 7 ∷ [])
    -- an expansion is stored if it just fits, and made once; where it does not fit the answer is the same
    ∷ asks (static 2 show) listing 15 None ListKey (2 ∷ 0 ∷ 2 ∷ 0 ∷ 4 ∷ []) upper
    ∷ asks (static 2 show) listing 14 None ListKey (2 ∷ 0 ∷ 2 ∷ 1 ∷ 4 ∷ []) listing
    ∷ sees upper None ListKey (2 ∷ 0 ∷ 2 ∷ 0 ∷ 4 ∷ [])
    ∷ asks (static 2 show) listing 14 (atom 7) (atom 9) (1 ∷ 0 ∷ 2 ∷ 0 ∷ []) lower
    -- the line number is a stored line's; two expansions stored, one, none
    ∷ asks (static 2 show) fresh 12 (atom 7) None (3 ∷ 1 ∷ 2 ∷ 0 ∷ 1 ∷ 7 ∷ []) listing
    ∷ asks (static 2 show) fresh 11 (atom 7) None (3 ∷ 0 ∷ 2 ∷ 1 ∷ 1 ∷ 7 ∷ []) fresh
    ∷ asks (static 2 show) fresh 14 (atom 7) (atom 2) (2 ∷ 0 ∷ 2 ∷ 0 ∷ 7 ∷ []) lower
    ∷ asks (static 2 show) fresh 13 (atom 7) (atom 2) (2 ∷ 0 ∷ 2 ∷ 1 ∷ 7 ∷ []) listing
    ∷ asks (static 2 show) fresh 11 (atom 7) (atom 2) (2 ∷ 0 ∷ 2 ∷ 1 ∷ 7 ∷ []) fresh
    -- dead by expansion, and no clause is lost; at capacity 6 the second alone would fit
    ∷ asks loose two 8 (atom 7) (atom 7) (4 ∷ 0 ∷ 2 ∷ 0 ∷ 1 ∷ 2 ∷ [])
    (line 0 0 ∷ dead 1 ∷ dead_clause 1 ∷ dead_clause 2 ∷ dead 2 ∷ dead_clause 1 ∷ offset 1 1 ∷ offset 4 2 ∷ [])
    ∷ asks loose two 7 (atom 7) (atom 7) (4 ∷ 0 ∷ 2 ∷ 1 ∷ 1 ∷ 2 ∷ [])
    (line 0 0 ∷ dead 1 ∷ dead_clause 1 ∷ dead_clause 2 ∷ demand 2 ∷ offset 1 1 ∷ offset 4 2 ∷ [])
    ∷ asks loose two 6 (atom 7) (atom 7) (4 ∷ 0 ∷ 2 ∷ 1 ∷ 1 ∷ 2 ∷ []) two
    -- unstored, but in a stored line
    ∷ asks loose down 8 (atom 7) (atom 5) (3 ∷ 1 ∷ 2 ∷ 1 ∷ 2 ∷ []) down
    -- an empty dynamic line: Sequence of nothing; expanded, with a list and with an atom
    ∷ asks (dynamic 2 show) empty 9 ListKey None (3 ∷ 1 ∷ 2 ∷ 0 ∷ []) empty
    ∷ asks (dynamic 2 show) empty 9 ListKey ListKey (3 ∷ 2 ∷ 2 ∷ 0 ∷ []) emptier
    ∷ asks (dynamic 2 show) empty 9 ListKey (atom 5) (1 ∷ 0 ∷ 2 ∷ 0 ∷ []) emptier ∷ []

pub walked : T (all gives walks)
unfolding expand_at walk_on
walked = tt
