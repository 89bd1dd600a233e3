-- Computed examples of the walk where a line has two tables for one argument: each is looked at, and expanded, at its own place (document 01, section 5).
-- No such index is well formed: they tell section 5's walk from one that finds a table by its argument.
-- Assumes nothing.
use Prim.Native.Nat.{ℕ}
use mathlib.Core.Bool.{Bool, ◌&&◌}
use mathlib.Core.List.{List, [], ◌∷◌}
use lib.Dec.{T}
use Rattle.records.specs.declared.Rec.{Rec}
use Rattle.indexing_iter.specs.declared.OptArgIndexKey.TheVariants.{None}
use Rattle.indexing.proofs.Sample.{static, atom, show, line, switch, demand, dead, entry, inner, offset, dead_clause, alike, all}
use Rattle.indexing.specs.Expand.{expand_at}
use Rattle.indexing_scan.specs.Walk.{Step, walk_on}
use Rattle.indexing_scan.proofs.Walked.{Walk, ran, gives, asks, sees, loose}

-- a walk, and at each table looked at what was done and its argument
record Path : Type 0 where
  of : Walk
  path : List ℕ

abbrev steps_of : List Step → List ℕ
steps_of [] = []
steps_of (s ∷ ss) = s.did ∷ s.arg ∷ steps_of ss

abbrev goes : Path → Bool
goes w = gives w.of && alike (steps_of (ran w.of).found.path) w.path

-- behind a dead table for argument 1, a table for it and the worked show's clauses
abbrev behind : List Rec → List Rec
behind rest = line 0 0 ∷ dead 1 ∷ dead_clause 4 ∷ rest

abbrev second : List Rec
second =
    behind (switch 1 ∷ entry 1 0 7 (inner 1) ∷ entry 1 0 8 4 ∷ demand 2 ∷ offset 1 1 ∷ offset 2 4 ∷ offset 4 7
    ∷ line 0 1 ∷ demand 2 ∷ offset 1 1 ∷ offset 4 7 ∷ [])

abbrev paths : List Path
paths =
    -- dead, then a switch, whose answer it is
    record { of = sees second (atom 8) None (2 ∷ 0 ∷ 2 ∷ 0 ∷ 4 ∷ []); path = 2 ∷ 1 ∷ 5 ∷ 1 ∷ [] }
    ∷ record { of = sees second (atom 9) None (1 ∷ 0 ∷ 2 ∷ 0 ∷ []); path = 2 ∷ 1 ∷ 3 ∷ 1 ∷ [] }
    ∷ record { of = sees second None None (4 ∷ 0 ∷ 3 ∷ 0 ∷ 1 ∷ 4 ∷ 7 ∷ []); path = 1 ∷ 1 ∷ 1 ∷ 1 ∷ 1 ∷ 2 ∷ [] }
    -- dead, then on demand: the second is expanded
    ∷ record {
      of = asks (static 2 show) (behind (demand 1 ∷ demand 2 ∷ offset 1 1 ∷ offset 2 4 ∷ offset 4 7 ∷ [])) 14 (atom 8) None (2 ∷ 0 ∷ 2 ∷ 0 ∷ 4 ∷ []) second;
      path = 2 ∷ 1 ∷ 5 ∷ 1 ∷ [];
    }
    -- both on demand: both are expanded, if both fit
    ∷ record {
      of = asks loose (line 0 0 ∷ demand 1 ∷ demand 1 ∷ offset 1 1 ∷ offset 4 2 ∷ []) 9 (atom 7) None (4 ∷ 0 ∷ 2 ∷ 0 ∷ 1 ∷ 2 ∷ [])
          (line 0 0 ∷ dead 1 ∷ dead_clause 1 ∷ dead_clause 2 ∷ dead 1 ∷ dead_clause 1 ∷ dead_clause 2 ∷ offset 1 1 ∷ offset 4 2 ∷ []);
      path = 2 ∷ 1 ∷ 2 ∷ 1 ∷ [];
    }
    ∷ record {
      of = asks loose (line 0 0 ∷ demand 1 ∷ demand 1 ∷ offset 1 1 ∷ offset 4 2 ∷ []) 8 (atom 7) None (4 ∷ 0 ∷ 2 ∷ 1 ∷ 1 ∷ 2 ∷ [])
          (line 0 0 ∷ dead 1 ∷ dead_clause 1 ∷ dead_clause 2 ∷ demand 1 ∷ offset 1 1 ∷ offset 4 2 ∷ []);
      path = 2 ∷ 1 ∷ 2 ∷ 1 ∷ [];
    } ∷ []

pub doubled : T (all goes paths)
unfolding expand_at walk_on
doubled = tt
