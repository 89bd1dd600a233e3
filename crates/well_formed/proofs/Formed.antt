-- Computed examples of number 12: record lists that are well formed, and one for each way to be wrong, after document 01.
-- They pin the definitions: an edit of WellFormed that accepts a wrong one, or refuses a good one, makes `formed` false.
-- Assumes nothing.
use Prim.Native.Nat.{ℕ}
use mathlib.Core.Bool.{Bool, true, false, not, ◌&&◌}
use mathlib.Core.List.{List, [], ◌∷◌}
use lib.Dec.{T}
use lib.ListN.{set, take}
use Rattle.records.specs.declared.Rec.{Rec}
use Rattle.records.specs.Records.{rec_of}
use Rattle.indexing_iter.specs.Clauses.{known}
use Rattle.indexing.proofs.Sample.{line, switch, demand, dead, entry, inner, offset, dead_clause, listing, all}
use Rattle.well_formed.specs.WellFormed.{well_formed}

-- arity 2, and the worked show's clauses, at the offsets 1, 4 and 7
abbrev formed_as : Bool → List Rec → Bool
formed_as dynamic rs = well_formed 2 dynamic (known (0 ∷ 3 ∷ 6 ∷ [])) rs

-- the listing with another record at a place. Places: 1 switch 1, 2 and 3 entries, 4 on demand 2, 5 to 7 offsets, 8 line 1, 9 on demand 2
abbrev but : ℕ → Rec → List Rec
but place r = set listing place r

-- what nothing forbids is well formed
abbrev good : List (List Rec)
good =
    listing
    -- two entries at one line; literals not by first clause
    ∷ but 3 (entry 1 0 8 (inner 1)) ∷ set (but 3 (entry 1 0 7 (inner 1))) 2 (entry 1 0 8 4)
    -- any structure arity; groups without literals
    ∷ but 3 (entry 4 65535 30 4) ∷ set (but 3 (entry 4 0 30 4)) 2 (entry 5 0 0 7) ∷ set (but 3 (entry 4 2 30 4)) 2 (entry 4 1 30 (inner 1))
    -- a line without tables, that nothing points at; line 0 without all clauses; tags in any order
    ∷ (line 0 0 ∷ offset 1 4 ∷ line 0 1 ∷ offset 5 1 ∷ offset 1 4 ∷ offset 3 7 ∷ [])
    -- a switch without entries; a dead table without clauses
    ∷ (line 0 0 ∷ switch 1 ∷ dead 2 ∷ offset 1 1 ∷ [])
    ∷ (line 0 0 ∷ dead 1 ∷ dead_clause 1 ∷ dead_clause 7 ∷ demand 2 ∷ offset 4 1 ∷ []) ∷ []

-- dynamic: a switch without a list entry, A and Z, an empty line
abbrev good_dynamic : List (List Rec)
good_dynamic = (line 1 0 ∷ switch 1 ∷ entry 1 0 7 (inner 1) ∷ demand 2 ∷ offset 6 1 ∷ offset 7 4 ∷ line 1 1 ∷ []) ∷ (line 1 0 ∷ []) ∷ []

abbrev bad : List (List Rec)
bad =
    -- no line 0; first kind 3; wrong line number; dynamic line
    [] ∷ but 0 (demand 1) ∷ but 0 (line 0 1) ∷ but 8 (line 0 2) ∷ but 8 (line 1 1)
    -- distance 0, past the last line, to a line with an argument not above the switch's
    ∷ but 2 (entry 1 0 7 (inner 0)) ∷ but 2 (entry 1 0 7 (inner 2)) ∷ but 9 (demand 1)
    -- unknown offset: of a line, an external pointer, a dead clause
    ∷ but 6 (offset 2 5) ∷ but 3 (entry 1 0 8 5) ∷ (line 0 0 ∷ dead 1 ∷ dead_clause 2 ∷ offset 1 1 ∷ [])
    -- offsets equal and falling; dead clauses equal
    ∷ but 6 (offset 2 1) ∷ but 7 (offset 4 1) ∷ (line 0 0 ∷ dead 1 ∷ dead_clause 4 ∷ dead_clause 4 ∷ offset 1 1 ∷ [])
    -- arguments equal, falling, 0, above the arity
    ∷ but 4 (demand 1) ∷ (line 0 0 ∷ demand 2 ∷ demand 1 ∷ offset 1 1 ∷ []) ∷ but 1 (switch 0) ∷ but 4 (demand 3)
    -- equal keys; two lists; literal after structure, after list; list after structure
    ∷ but 3 (entry 1 0 7 4) ∷ set (but 3 (entry 5 0 0 4)) 2 (entry 5 0 0 1)
    ∷ but 2 (entry 4 1 30 (inner 1)) ∷ but 2 (entry 5 0 0 (inner 1)) ∷ set (but 3 (entry 5 0 0 4)) 2 (entry 4 1 30 (inner 1))
    -- sort 0, sort 6; half of a literal, half and long of a list not zero
    ∷ but 2 (entry 0 0 0 1) ∷ but 3 (entry 6 0 8 4) ∷ but 3 (entry 1 1 8 4) ∷ but 3 (entry 5 1 0 4) ∷ but 3 (entry 5 0 8 4)
    -- a line without offset; tags 0, 6 and 7
    ∷ take 10 listing ∷ but 5 (offset 0 1) ∷ but 5 (offset 6 1) ∷ but 5 (offset 7 1)
    -- fields not zero: of a line, a switch, an on-demand table, an offset, a dead table and its clause
    ∷ but 0 (rec_of 1 0 1 0 0) ∷ but 0 (rec_of 1 0 0 0 1) ∷ but 1 (rec_of 2 1 1 0 0) ∷ but 1 (rec_of 2 0 1 1 0) ∷ but 1 (rec_of 2 0 1 0 1)
    ∷ but 4 (rec_of 3 1 2 0 0) ∷ but 4 (rec_of 3 0 2 1 0) ∷ but 4 (rec_of 3 0 2 0 1) ∷ but 5 (rec_of 6 1 1 1 0) ∷ but 5 (rec_of 6 1 0 1 1) ∷ but 4 (rec_of 4 1 2 0 0)
    ∷ (line 0 0 ∷ dead 1 ∷ rec_of 7 1 0 1 0 ∷ offset 1 1 ∷ []) ∷ (line 0 0 ∷ dead 1 ∷ rec_of 7 0 0 1 1 ∷ offset 1 1 ∷ [])
    -- a dead clause outside a dead table, an entry outside a switch, a table behind offsets, kinds 0 and 8
    ∷ (line 0 0 ∷ demand 1 ∷ dead_clause 1 ∷ offset 1 1 ∷ []) ∷ (line 0 0 ∷ switch 1 ∷ dead_clause 1 ∷ offset 1 1 ∷ []) ∷ but 1 (demand 1)
    ∷ (line 0 0 ∷ offset 1 1 ∷ demand 2 ∷ []) ∷ but 4 (rec_of 0 0 2 0 0) ∷ but 4 (rec_of 8 0 0 1 0) ∷ []

-- dynamic: static lines, an external pointer, static tags
abbrev bad_dynamic : List (List Rec)
bad_dynamic = listing ∷ (line 1 0 ∷ switch 1 ∷ entry 1 0 7 4 ∷ offset 7 1 ∷ []) ∷ (line 1 0 ∷ offset 5 1 ∷ []) ∷ (line 1 0 ∷ offset 8 1 ∷ []) ∷ []

pub formed :
    T (all (formed_as false) good && (all (formed_as true) good_dynamic
    && (all (λ rs. not (formed_as false rs)) bad && all (λ rs. not (formed_as true rs)) bad_dynamic)))
unfolding known
formed = tt
