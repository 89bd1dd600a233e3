-- The walk once more, by the arguments 1 to arity: at each the present line has one table or none, found by its argument.
-- Inner: for proofs, and for contracts of inner functions. proofs/Steps shows that on an orderly index it is the walk of Walk.antt.
-- Assumes nothing.
use Rattle.std.specs.Prelude.{Bool, true, false, not, cond, ◌&&◌, ℕ, zero, suc}
use Rattle.std.proofs.Math.Option.{Option, none, some}
use Rattle.indexing_iter.specs.declared.OptArgIndexKey.{OptArgIndexKey as Key}
use Rattle.indexing_iter.specs.Keys.{is_open}
use Rattle.indexing.specs.Lines.{Table, switch, on_demand, dead, Index, line_at, find}
use Rattle.indexing.specs.Build.{Program, later_table}
use Rattle.indexing.specs.Expand.{expand, State, attempt}
use Rattle.indexing_scan.specs.Agree.{Call}
use Rattle.indexing_scan.specs.Walk.{Step, Place, line, unstored, Move, skip, Answer, look, make, ending, meet, Result, look_at, result, line_number}

-- makes a move at place p, argument a; k goes on with the next argument from a place
abbrev pub act : {R : Type 0} → (Answer → R) → (Step → R → R) → ℕ → Place → Move → (Place → R) → R
act done seen a p m k = make done seen a m (k p) k

module _ (P : Program) where
  -- the table for an argument at a place
  abbrev pub table_at : Index → Place → ℕ → Option Table
  table_at idx (line l) a = find a (line_at idx l).tables
  table_at idx (unstored os) a = later_table P a os

  -- an argument at a table, if there is one
  abbrev pub move_on : Index → Place → ℕ → Key → Option Table → Move
  move_on idx p a q none = skip
  move_on idx p a q (some t) = meet P idx p a q t

  -- what is done at a place at argument a with the call's key q
  unfoldable pub move : Index → Place → ℕ → Key → Move
  move idx p a q = move_on idx p a q (table_at idx p a)

  module _ (Q : Call) where
    -- the answer at n arguments from a on, with nothing stored
    unfoldable pub answer_from : ℕ → ℕ → Index → Place → Answer
    answer_from zero a idx p = ending idx p
    answer_from (suc n) a idx p = act (λ r. r) look a p (move idx p a (Q a)) (λ p'. answer_from n (suc a) idx p')

    -- the answer of an index
    abbrev pub answer : Index → Answer
    answer idx = answer_from P.arity 1 idx (line 0)

-- a table that expansion is for
abbrev pub is_on_demand : Option Table → Bool
is_on_demand none = false
is_on_demand (some (switch a es)) = false
is_on_demand (some (on_demand a)) = true
is_on_demand (some (dead a os)) = false

-- an expansion is due: on demand and bound
abbrev pub due : Index → ℕ → ℕ → Key → Bool
due idx l a q = not (is_open q) && is_on_demand (find a (line_at idx l).tables)

module _ (P : Program) (cap : ℕ) where
  -- the state in which the table for a is looked at
  abbrev pub settle : State → Place → ℕ → Key → State
  settle s (unstored os) a q = s
  settle s (line l) a q = cond (s.storing && due s.index l a q) (attempt cap s.index (expand P s.index l a)) s

  module _ (Q : Call) where
    -- the walk at n arguments from a on: expands what is due, looks at that place
    unfoldable pub walk_from : ℕ → ℕ → State → Place → Result
    walk_from zero a s p = result (line_number p) s (ending s.index p)
    walk_from (suc n) a s p =
        let t = settle s p a (Q a) in
        act (result 0 t) look_at a p (move P t.index p a (Q a)) (λ p'. walk_from n (suc a) t p')

    -- the walk from line 0 on
    abbrev pub walk_by : Index → Result
    walk_by idx = walk_from P.arity 1 (record { storing = true; index = idx }) (line 0)
