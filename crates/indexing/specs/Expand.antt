-- Expansion of an on-demand table (document 01, section 4), and the state of a walk (section 5).
-- Assumes nothing.
use Rattle.std.specs.Prelude.{Bool, true, false, cond, List, [], ◌∷◌, ◌++◌, ℕ, ◌+◌, ◌-◌, leb, length, set}
use Rattle.indexing.specs.Lines.{Table, switch, dead, Choice, Line, Index, line_at, offs, swap, size}
use Rattle.indexing.specs.Build.{Program, open_at, new_lines, new_entries}

module _ (P : Program) where
  -- section 4: what an on-demand table for a becomes, by the clauses that are open there; g is what distances grow by
  abbrev pub expanded : ℕ → List Choice → ℕ → List ℕ → Table
  expanded a cs g [] = switch a (new_entries P a cs (1 + g))
  expanded a cs g (o ∷ os) = dead a (o ∷ os)

  -- section 4: the lines that go to the end of the index
  abbrev pub added : ℕ → List Choice → List ℕ → List Line
  added a cs [] = new_lines P a cs
  added a cs (o ∷ os) = []

  -- section 4: the index with an on-demand table of line l, which is for argument a, expanded; put puts what it becomes in its place
  abbrev pub expand_by : (Table → List Table → List Table) → Index → ℕ → ℕ → Index
  expand_by put idx l a =
      let here = line_at idx l in
      let opens = open_at P a (offs here.choices) in
      let table = expanded a here.choices (length idx - l - 1) opens in
      set idx l (record { tables = put table here.tables; choices = here.choices }) ++ added a here.choices opens

  -- section 4: the index with the on-demand table of line l for argument a expanded
  unfoldable pub expand : Index → ℕ → ℕ → Index
  expand idx l a = expand_by (swap a) idx l a

  -- sections 4 and 5, the same by the table's place: table i of line l, counted from 0, is on demand for a
  unfoldable pub expand_at : Index → ℕ → ℕ → ℕ → Index
  expand_at idx l i a = expand_by (λ u ts. set ts i u) idx l a

-- section 5, the state of a walk: whether expansions are stored, and the index
pub record State : Type 0 where
  pub storing : Bool
  pub index : Index

-- section 5: an expansion that is due is stored if it is within the capacity; otherwise it and the later ones aren't
abbrev pub attempt : ℕ → Index → Index → State
attempt cap idx new = cond (leb (size new) cap) (record { storing = true; index = new }) (record { storing = false; index = idx })
