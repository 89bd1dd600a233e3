-- Lists of walks on the worked show's index: what each walk gives back where it gets the index and the count as demand 3 has them.
-- Assumes nothing.
use Rattle.std.specs.Prelude.{ℕ, ◌*◌, Bool, true, false, ◌&&◌, List, [], ◌∷◌, eqb, replicate}
use Rattle.records.specs.declared.Rec.{Rec}
use Rattle.records.specs.Records.{encode}
use Rattle.indexing_iter.specs.Classes.{class_of}
use Rattle.indexing.specs.Builder.{Built, build_call}
use Rattle.indexing_scan.specs.Calls.{Walked}
use Rattle.claims.specs.Demand3.{Asked, walked, count_after}
use Rattle.claims.specs.Show.{code, starts, settings, shown_walked, alike, unbound, atom_key, list_key, structure_key}

-- the build of the worked show with chosen argument 1, in a buffer for so many records
unfoldable pub built : ℕ → Built
built capacity = build_call class_of code starts (settings 2 false) 1 (replicate (16 * capacity) 0)

-- the outcomes of walks from an index and a count on, each with what the last one left
unfoldable pub outcomes_from : List ℕ → ℕ → List Asked → List (List ℕ)
outcomes_from index count [] = []
outcomes_from index count (q ∷ qs) =
    let w : Walked = walked class_of code starts (settings 2 false) 1 index count q in
    shown_walked w ∷ outcomes_from w.index (count_after class_of code starts (settings 2 false) 1 w count) qs

-- the outcomes of walks on the fresh index
unfoldable pub outcomes : ℕ → List Asked → List (List ℕ)
outcomes capacity qs = outcomes_from (built capacity).index (built capacity).count qs

abbrev pub asking : List Rec → Asked
asking call = record { call = encode call; out = 0 ∷ 0 ∷ 0 ∷ [] }

-- (unbound, list); a call of one record; (unbound, list) again, refused for an out for two clauses; (7, 9); (unbound, list) again; both unbound; (7, 9) again;
-- (structure, list)
unfoldable pub walks : List Asked
walks =
    asking (unbound ∷ list_key ∷ [])
    ∷ asking (unbound ∷ [])
    ∷ record { call = encode (unbound ∷ list_key ∷ []); out = 0 ∷ 0 ∷ [] }
    ∷ asking (atom_key 7 ∷ atom_key 9 ∷ [])
    ∷ asking (unbound ∷ list_key ∷ [])
    ∷ asking (unbound ∷ unbound ∷ [])
    ∷ asking (atom_key 7 ∷ atom_key 9 ∷ [])
    ∷ asking (structure_key ∷ list_key ∷ []) ∷ []

-- a capacity, and what is shown of each walk: number, case, line number, count, tables, mark, records, and the selected offsets
pub record Listed : Type 0 where
  pub capacity : ℕ
  pub expected : List (List ℕ)

-- capacity 13: no expansion fits. 14: that of line 1 fits, that of line 0 does not, before it and after it. 24: all fit
unfoldable pub listed : List Listed
listed =
    record {
      capacity = 13;
      expected =
          (0 ∷ 2 ∷ 0 ∷ 1 ∷ 2 ∷ 1 ∷ 12 ∷ 4 ∷ [])
          ∷ (10 ∷ 0 ∷ 0 ∷ 0 ∷ 0 ∷ 0 ∷ 0 ∷ [])
          ∷ (11 ∷ 0 ∷ 0 ∷ 0 ∷ 0 ∷ 0 ∷ 0 ∷ [])
          ∷ (0 ∷ 1 ∷ 0 ∷ 0 ∷ 2 ∷ 1 ∷ 12 ∷ [])
          ∷ (0 ∷ 2 ∷ 0 ∷ 1 ∷ 2 ∷ 1 ∷ 12 ∷ 4 ∷ [])
          ∷ (0 ∷ 4 ∷ 0 ∷ 3 ∷ 2 ∷ 0 ∷ 12 ∷ 1 ∷ 4 ∷ 7 ∷ [])
          ∷ (0 ∷ 1 ∷ 0 ∷ 0 ∷ 2 ∷ 1 ∷ 12 ∷ [])
          ∷ (0 ∷ 1 ∷ 0 ∷ 0 ∷ 1 ∷ 0 ∷ 12 ∷ []) ∷ [];
    }
    ∷ record {
      capacity = 14;
      expected =
          (0 ∷ 2 ∷ 0 ∷ 1 ∷ 2 ∷ 1 ∷ 12 ∷ 4 ∷ [])
          ∷ (10 ∷ 0 ∷ 0 ∷ 0 ∷ 0 ∷ 0 ∷ 0 ∷ [])
          ∷ (11 ∷ 0 ∷ 0 ∷ 0 ∷ 0 ∷ 0 ∷ 0 ∷ [])
          ∷ (0 ∷ 1 ∷ 0 ∷ 0 ∷ 2 ∷ 0 ∷ 14 ∷ [])
          ∷ (0 ∷ 2 ∷ 0 ∷ 1 ∷ 2 ∷ 1 ∷ 14 ∷ 4 ∷ [])
          ∷ (0 ∷ 4 ∷ 0 ∷ 3 ∷ 2 ∷ 0 ∷ 14 ∷ 1 ∷ 4 ∷ 7 ∷ [])
          ∷ (0 ∷ 1 ∷ 0 ∷ 0 ∷ 2 ∷ 0 ∷ 14 ∷ [])
          ∷ (0 ∷ 1 ∷ 0 ∷ 0 ∷ 1 ∷ 0 ∷ 14 ∷ []) ∷ [];
    }
    ∷ record {
      capacity = 24;
      expected =
          (0 ∷ 2 ∷ 0 ∷ 1 ∷ 2 ∷ 0 ∷ 15 ∷ 4 ∷ [])
          ∷ (10 ∷ 0 ∷ 0 ∷ 0 ∷ 0 ∷ 0 ∷ 0 ∷ [])
          ∷ (11 ∷ 0 ∷ 0 ∷ 0 ∷ 0 ∷ 0 ∷ 0 ∷ [])
          ∷ (0 ∷ 1 ∷ 0 ∷ 0 ∷ 2 ∷ 0 ∷ 17 ∷ [])
          ∷ (0 ∷ 2 ∷ 0 ∷ 1 ∷ 2 ∷ 0 ∷ 17 ∷ 4 ∷ [])
          ∷ (0 ∷ 4 ∷ 0 ∷ 3 ∷ 2 ∷ 0 ∷ 17 ∷ 1 ∷ 4 ∷ 7 ∷ [])
          ∷ (0 ∷ 1 ∷ 0 ∷ 0 ∷ 2 ∷ 0 ∷ 17 ∷ [])
          ∷ (0 ∷ 1 ∷ 0 ∷ 0 ∷ 1 ∷ 0 ∷ 17 ∷ []) ∷ [];
    } ∷ []

unfoldable pub both_alike : List (List ℕ) → List (List ℕ) → Bool
both_alike [] [] = true
both_alike [] (y ∷ ys) = false
both_alike (x ∷ xs) [] = false
both_alike (x ∷ xs) (y ∷ ys) = alike x y && both_alike xs ys

-- the build is accepted, and the walks give what is expected
unfoldable pub all_listed : List Listed → Bool
all_listed [] = true
all_listed (l ∷ ls) = eqb (built l.capacity).number 0 && (both_alike (outcomes l.capacity walks) l.expected && all_listed ls)
