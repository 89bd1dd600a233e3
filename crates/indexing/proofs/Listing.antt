-- Computed examples of the builder and of expansion, their records written out after document 01's sections 3 and 4.
-- They pin the definitions: an edit of Lines, Build, Expand or Builder that changes one of these indexes makes `listed` false.
-- Assumes nothing.
use mathlib.Core.Path.{◌≡◌, refl}
use Prim.Native.Nat.{ℕ, ◌-◌, ◌*◌}
use mathlib.Core.Bool.{Bool, true, false, cond, not, ◌&&◌}
use mathlib.Core.List.{List, [], ◌∷◌, ◌++◌}
use lib.Dec.{T, eqb}
use lib.ListN.{length, replicate}
use Rattle.records.specs.declared.Rec.{Rec}
use Rattle.records.specs.Records.{rec_of, decode, encode_rec, encode, recs, records_of}
use Rattle.indexing_iter.specs.declared.OptArgIndexKey.TheVariants.{None, Literal, Structure, List as ListKey}
use Rattle.indexing_iter.specs.declared.Settings.{Settings}
use Rattle.indexing_iter.specs.Classes.{class_of, arg_of_class}
use Rattle.indexing_iter.specs.Keys.{key_in}
use Rattle.indexing_iter.specs.Clauses.{clauses_of, clause_at, key_of}
use Rattle.indexing_iter.specs.Checks.{rising_below, has_body, record_bad, check_records, check_clause, check_clauses, open_somewhere, check_clauses_of, check_build}
use Rattle.indexing.proofs.Sample.{Clause, clause, offsets_of, program, static, dynamic, atom, show, line, switch, demand, dead, entry, inner}
use Rattle.indexing.proofs.Sample.{offset, dead_clause, listing, constant, body, settings, plain, alike, fields, all}
use Rattle.indexing.specs.Lines.{Choice, on_demand, Index, mode_of, records}
use Rattle.indexing.specs.Build.{Program, build}
use Rattle.indexing.specs.Expand.{expand, attempt}
use Rattle.indexing.specs.Seed.{seed}
use Rattle.indexing.specs.Builder.{Built, capacity_of, stored, index_of, build_call}

-- ---- an example: an index, the tables (line, argument) expanded one after the other, and the records then

record Example : Type 0 where
  of : Program
  index : Index
  expanding : List (ℕ × ℕ)
  expected : List Rec

-- from the index built on argument c
abbrev built : (List Clause → Program) → ℕ → List Clause → List (ℕ × ℕ) → List Rec → Example
built P c cs es rs = record { of = P cs; index = build (P cs) c (offsets_of cs); expanding = es; expected = rs }

abbrev grown : Program → Index → List (ℕ × ℕ) → Index
grown P idx [] = idx
grown P idx (e ∷ es) = grown P (expand P idx e.0 e.1) es

abbrev holds : Example → Bool
holds e = alike (fields (records (mode_of e.of.dynamic) 0 (grown e.of e.index e.expanding))) (fields e.expected)

-- the same clauses built dynamic
abbrev changing : List Rec
changing =
    line 1 0 ∷ switch 1 ∷ entry 1 0 7 (inner 2) ∷ entry 1 0 8 (inner 3) ∷ entry 5 0 0 (inner 1) ∷ demand 2 ∷ offset 7 1 ∷ offset 7 4 ∷ offset 7 7
    ∷ line 1 1 ∷ demand 2 ∷ line 1 2 ∷ demand 2 ∷ offset 7 1 ∷ offset 7 7 ∷ line 1 3 ∷ demand 2 ∷ offset 7 4 ∷ []

-- clauses with no key at a later argument
abbrev opens : List Clause
opens = clause 1 (atom 7 ∷ None ∷ []) ∷ clause 4 (atom 7 ∷ atom 1 ∷ []) ∷ clause 7 (atom 7 ∷ None ∷ []) ∷ []

abbrev choice : ℕ → ℕ → Choice
choice tag o = record { tag = tag; offset = o }

abbrev same7 : List Clause
same7 = clause 1 (atom 7 ∷ []) ∷ clause 4 (atom 7 ∷ []) ∷ []

abbrev pair : List Clause
pair = clause 1 (atom 1 ∷ atom 7 ∷ atom 5 ∷ []) ∷ clause 4 (atom 1 ∷ atom 7 ∷ atom 6 ∷ []) ∷ []

abbrev groups : List Clause
groups =
    clause 1 (Structure 2 30 ∷ []) ∷ clause 2 (atom 8 ∷ []) ∷ clause 3 (ListKey ∷ []) ∷ clause 4 (atom 7 ∷ []) ∷ clause 5 (Literal 2 7 ∷ [])
    ∷ clause 6 (Structure 1 30 ∷ []) ∷ clause 7 (ListKey ∷ []) ∷ clause 8 (Structure 2 30 ∷ []) ∷ clause 9 (Literal 2 7 ∷ []) ∷ clause 10 (atom 7 ∷ []) ∷ []

abbrev four : List Clause
four =
    clause 1 (atom 7 ∷ atom 5 ∷ atom 1 ∷ []) ∷ clause 4 (atom 8 ∷ atom 5 ∷ atom 1 ∷ [])
    ∷ clause 7 (atom 7 ∷ atom 5 ∷ atom 2 ∷ []) ∷ clause 10 (atom 8 ∷ atom 6 ∷ atom 2 ∷ []) ∷ []

abbrev examples : List Example
examples =
    built (static 2) 1 show [] listing
    -- dynamic: a line for every bucket, and an empty list line
    ∷ built (dynamic 2) 1 show [] changing
    -- an empty dynamic line expands to a switch with one empty list line
    ∷ built (dynamic 2) 1 (clause 1 (atom 7 ∷ ListKey ∷ []) ∷ []) ((1, 2) ∷ (2, 2) ∷ [])
    (line 1 0 ∷ switch 1 ∷ entry 1 0 7 (inner 2) ∷ entry 5 0 0 (inner 1) ∷ demand 2 ∷ offset 7 1 ∷ line 1 1 ∷ switch 2 ∷ entry 5 0 0 (inner 2)
    ∷ line 1 2 ∷ switch 2 ∷ entry 5 0 0 (inner 2) ∷ offset 7 1 ∷ line 1 3 ∷ line 1 4 ∷ offset 7 1 ∷ [])
    -- at expansion a dynamic offset keeps its own tag, A or Z
    ∷ record {
      of = dynamic 1 same7;
      index = record { tables = on_demand 1 ∷ []; choices = choice 6 1 ∷ choice 7 4 ∷ [] } ∷ [];
      expanding = (0, 1) ∷ [];
      expected =
          line 1 0 ∷ switch 1 ∷ entry 1 0 7 (inner 2) ∷ entry 5 0 0 (inner 1) ∷ offset 6 1 ∷ offset 7 4 ∷ line 1 1 ∷ line 1 2 ∷ offset 6 1 ∷ offset 7 4 ∷ [];
    }
    -- arguments 1 and 2 masked: c's own bit is not read
    ∷ built (program 2 false false false 3) 1 pair []
    (line 0 0 ∷ switch 1 ∷ entry 1 0 1 (inner 1) ∷ demand 3 ∷ offset 1 1 ∷ offset 4 4 ∷ line 0 1 ∷ demand 3 ∷ offset 1 1 ∷ offset 4 4 ∷ [])
    -- c in the middle: arguments below it have no table
    ∷ built (static 3) 2 pair []
    (line 0 0 ∷ switch 2 ∷ entry 1 0 7 (inner 1) ∷ demand 3 ∷ offset 1 1 ∷ offset 4 4 ∷ line 0 1 ∷ demand 3 ∷ offset 1 1 ∷ offset 4 4 ∷ [])
    -- clauses open at a later argument: a dead table if extensible, else none
    ∷ built (program 0 false true false 2) 1 opens []
    (line 0 0 ∷ switch 1 ∷ entry 1 0 7 (inner 1) ∷ dead 2 ∷ dead_clause 1 ∷ dead_clause 7 ∷ offset 1 1 ∷ offset 2 4 ∷ offset 4 7
    ∷ line 0 1 ∷ dead 2 ∷ dead_clause 1 ∷ dead_clause 7 ∷ offset 1 1 ∷ offset 2 4 ∷ offset 4 7 ∷ [])
    ∷ built (static 2) 1 opens []
    (line 0 0 ∷ switch 1 ∷ entry 1 0 7 (inner 1) ∷ offset 1 1 ∷ offset 2 4 ∷ offset 4 7 ∷ line 0 1 ∷ offset 1 1 ∷ offset 2 4 ∷ offset 4 7 ∷ [])
    -- an on-demand table over them becomes dead, though not extensible
    ∷ record {
      of = static 2 opens;
      index = seed (static 2 opens) 2 (offsets_of opens);
      expanding = (0, 2) ∷ [];
      expected = line 0 0 ∷ dead 2 ∷ dead_clause 1 ∷ dead_clause 7 ∷ offset 1 1 ∷ offset 2 4 ∷ offset 4 7 ∷ [];
    }
    -- non-counted; a line of one clause has Try alone
    ∷ built (program 0 false false true 1) 1 opens []
    (line 0 0 ∷ switch 1 ∷ entry 1 0 7 (inner 1) ∷ offset 1 1 ∷ offset 3 4 ∷ offset 5 7 ∷ line 0 1 ∷ offset 1 1 ∷ offset 3 4 ∷ offset 5 7 ∷ [])
    ∷ built (program 0 false false true 1) 1 (clause 1 (atom 7 ∷ []) ∷ []) [] (line 0 0 ∷ switch 1 ∷ entry 1 0 7 1 ∷ offset 1 1 ∷ [])
    ∷ built (static 1) 1 (clause 1 (atom 7 ∷ []) ∷ []) [] (line 0 0 ∷ switch 1 ∷ entry 1 0 7 1 ∷ offset 1 1 ∷ [])
    -- lines by list, structures, literals; entries by literals, list, structures
    ∷ built (static 1) 1 groups []
    (line 0 0 ∷ switch 1 ∷ entry 1 0 8 2 ∷ entry 1 0 7 (inner 3) ∷ entry 2 0 7 (inner 4) ∷ entry 5 0 0 (inner 1) ∷ entry 4 2 30 (inner 2) ∷ entry 4 1 30 6
    ∷ offset 1 1 ∷ offset 2 2 ∷ offset 2 3 ∷ offset 2 4 ∷ offset 2 5 ∷ offset 2 6 ∷ offset 2 7 ∷ offset 2 8 ∷ offset 2 9 ∷ offset 4 10
    ∷ line 0 1 ∷ offset 1 3 ∷ offset 4 7 ∷ line 0 2 ∷ offset 1 1 ∷ offset 4 8 ∷ line 0 3 ∷ offset 1 4 ∷ offset 4 10
    ∷ line 0 4 ∷ offset 1 5 ∷ offset 4 9 ∷ [])
    -- line 1 expanded with three lines there: its line is number 3; then line 0, with lines 4 and 5
    ∷ built (static 3) 1 four ((1, 2) ∷ (0, 3) ∷ [])
    (line 0 0 ∷ switch 1 ∷ entry 1 0 7 (inner 1) ∷ entry 1 0 8 (inner 2) ∷ demand 2 ∷ switch 3 ∷ entry 1 0 1 (inner 4) ∷ entry 1 0 2 (inner 5)
    ∷ offset 1 1 ∷ offset 2 4 ∷ offset 2 7 ∷ offset 4 10 ∷ line 0 1 ∷ switch 2 ∷ entry 1 0 5 (inner 2) ∷ demand 3 ∷ offset 1 1 ∷ offset 4 7
    ∷ line 0 2 ∷ demand 2 ∷ demand 3 ∷ offset 1 4 ∷ offset 4 10 ∷ line 0 3 ∷ demand 3 ∷ offset 1 1 ∷ offset 4 7
    ∷ line 0 4 ∷ offset 1 1 ∷ offset 4 4 ∷ line 0 5 ∷ offset 1 7 ∷ offset 4 10 ∷ []) ∷ []

-- ---- a call of the builder on the worked show's code, the buffer all nines: number, variable offset, and the records that it begins with

record Call : Type 0 where
  given : Settings
  chosen : ℕ
  bytes : ℕ
  number : ℕ
  variable : ℕ
  expected : List Rec

abbrev call : Settings → ℕ → ℕ → ℕ → ℕ → List Rec → Call
call S c bytes n v rs = record { given = S; chosen = c; bytes = bytes; number = n; variable = v; expected = rs }

-- what the call gives back is the row's, and every byte beyond the count is as it was
abbrev answers : Call → Built → Bool
answers r b =
    eqb b.number r.number && (eqb b.count (length r.expected) && (eqb b.variable r.variable
    && alike b.index (encode r.expected ++ replicate (r.bytes - 16 * length r.expected) 9)))

abbrev code : List ℕ
code = encode (constant 1 7 ∷ constant 2 1 ∷ body ∷ constant 1 8 ∷ rec_of 17 0 0 2 0 ∷ body ∷ constant 1 7 ∷ constant 2 2 ∷ body ∷ [])

abbrev gives : Call → Bool
gives r = answers r (build_call class_of code (0 ∷ 3 ∷ 6 ∷ []) r.given r.chosen (replicate r.bytes 9))

abbrev calls : List Call
calls =
    -- room for 12 records and five odd bytes; a byte less than 12 records; no byte
    call (plain 2) 1 197 0 1 listing
    ∷ call (plain 2) 1 191 9 0 []
    ∷ call (plain 2) 1 0 9 0 []
    -- mask bits of c and from the arity up are not read; skip
    ∷ call (settings 2 5 false false false true) 1 208 0 2 listing
    -- argument 2 masked
    ∷ call (settings 2 2 false false false false) 1 208 0 1
    (line 0 0 ∷ switch 1 ∷ entry 1 0 7 (inner 1) ∷ entry 1 0 8 4 ∷ offset 1 1 ∷ offset 2 4 ∷ offset 4 7 ∷ line 0 1 ∷ offset 1 1 ∷ offset 4 7 ∷ [])
    -- dynamic; extensible and non-counted
    ∷ call (settings 2 0 true false false false) 1 288 0 1 changing
    ∷ call (settings 3 0 false true true false) 1 305 0 1
    (line 0 0 ∷ switch 1 ∷ entry 1 0 7 (inner 1) ∷ entry 1 0 8 4 ∷ demand 2 ∷ dead 3 ∷ dead_clause 1 ∷ dead_clause 4 ∷ dead_clause 7
    ∷ offset 1 1 ∷ offset 3 4 ∷ offset 5 7 ∷ line 0 1 ∷ demand 2 ∷ dead 3 ∷ dead_clause 1 ∷ dead_clause 7 ∷ offset 1 1 ∷ offset 5 7 ∷ [])
    -- c 2
    ∷ call (plain 2) 2 208 0 1
    (line 0 0 ∷ switch 2 ∷ entry 1 0 1 1 ∷ entry 1 0 2 7 ∷ entry 5 0 0 4 ∷ offset 1 1 ∷ offset 2 4 ∷ offset 4 7 ∷ [])
    -- refusals 1 and 2; 8 before 9
    ∷ call (plain 33) 1 208 1 0 []
    ∷ call (plain 2) 3 208 2 0 []
    ∷ call (plain 3) 3 0 8 0 [] ∷ []

-- ---- an expansion to dead, seven records: with room for them it is stored, with room for six the index stays

abbrev before : Index
before = seed (static 2 opens) 2 (offsets_of opens)

abbrev after : Index
after = expand (static 2 opens) before 0 2

abbrev tries : ℕ → Bool → Index → Bool
tries capacity stores left =
    cond (attempt capacity before after).storing stores (not stores)
    && alike (fields (records 0 0 (attempt capacity before after).index)) (fields (records 0 0 left))

-- and the capacity is at most 65,535, for a buffer too long to be written out
pub listed : T (all holds examples) × T (all gives calls) × T (tries 7 true after && tries 6 false before)
    × ((buffer : List ℕ) → length buffer ≡ 16 * 65536 → capacity_of buffer ≡ 65535)
unfolding decode encode_rec encode recs records_of class_of arg_of_class key_in clauses_of clause_at key_of rising_below has_body record_bad check_records check_clause check_clauses open_somewhere check_clauses_of check_build expand seed build stored index_of build_call
listed = (tt, tt, tt, λ b e. rw e refl)
