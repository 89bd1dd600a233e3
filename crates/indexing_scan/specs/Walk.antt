-- The walk, table by table (document 01, section 5).
-- Assumes nothing.
use Rattle.std.specs.Prelude.{Bool, true, not, cond, ◌&&◌, List, [], ◌∷◌, ℕ, zero, suc, ◌+◌, ◌-◌, eqb, length, drop}
use Rattle.std.specs.List.{filter}
use Rattle.std.proofs.Math.Option.{Option, none, some}
use Rattle.indexing_iter.specs.declared.OptArgIndexKey.{OptArgIndexKey as Key}
use Rattle.indexing_iter.specs.Keys.{group_of, is_open, same}
use Rattle.indexing.specs.Lines.{Ptr, ext, int, Entry, Table, switch, on_demand, dead, Index, line_at, offs, arg_of}
use Rattle.indexing.specs.Build.{Program, open_at, later_tables, lone, virtual}
use Rattle.indexing.specs.Expand.{expand_at, State, attempt}
use Rattle.indexing_scan.specs.Agree.{Call}

-- section 5, what was done at a table looked at, and its argument. 1: unbound, next table. 2: dead, or expanded to dead, next table.
-- 3: no entry of the key's group, or no equal key, Fail. 4: the only entry of the group followed. 5: the equal key among several followed
pub record Step : Type 0 where
  pub did : ℕ
  pub arg : ℕ

-- section 5: what a switch chose, and how (4 or 5 of a step)
pub record Chosen (X : Type 0) : Type 0 where
  pub how : ℕ
  pub to : X

module _ {X : Type 0} where
  -- section 5: the equal key, searched until found
  abbrev pub equal : Key → List (Entry X) → Option X
  equal q [] = none
  equal q (e ∷ es) = cond (same e.key q) (some e.to) (equal q es)

  -- section 5: chosen in the way h
  abbrev pub marked : ℕ → Option X → Option (Chosen X)
  marked h none = none
  marked h (some x) = some (record { how = h; to = x })

  -- section 5: of one group's entries, one is followed whatever its key, otherwise the equal key
  abbrev pub pick : Program → Key → List (Entry X) → Option (Chosen X)
  pick P q [] = none
  pick P q (e ∷ []) = some (record { how = 4; to = e.to })
  pick P q (e ∷ (f ∷ es)) = marked 5 (equal q (e ∷ (f ∷ es)))

  -- section 5: the choice in a switch, among literals, structures or list by the key's sort
  abbrev pub choose : Program → Key → List (Entry X) → Option (Chosen X)
  choose P q es = pick P q (filter (λ e. eqb (group_of q) (group_of e.key)) es)

-- section 5, where the walk is: a stored line, or a line that is not stored, by its clauses
pub data Place : Type 0 where
  line : ℕ → Place
  unstored : List ℕ → Place

-- section 5, what is done at a table: stop (Fail), pass (next table), out (External, its offset), goto (first table of that line); the first
-- number is what a step did. (skip, no table there, is met by the inner definitions of ByArgument and Unstored only.)
pub data Move : Type 0 where
  skip stop : Move
  pass : ℕ → Move
  out : ℕ → ℕ → Move
  goto : ℕ → Place → Move

-- section 5: the cases of an answer
pub data Case : Type 0 where
  fail external sequence variadic : Case

-- section 5, an answer: the case, the offsets, the tables looked at
pub record Answer : Type 0 where
  pub kind : Case
  pub offsets : List ℕ
  pub path : List Step

-- section 5: one more table looked at
abbrev pub look : Step → Answer → Answer
look s r = record { kind = r.kind; offsets = r.offsets; path = s ∷ r.path }

-- section 5: makes a move at a table for argument a; next goes on with the next table, first with the first table of a line
abbrev pub make : {R : Type 0} → (Answer → R) → (Step → R → R) → ℕ → Move → R → (Place → R) → R
make done seen a skip next first = next
make done seen a (pass h) next first = seen (record { did = h; arg = a }) next
make done seen a stop next first = seen (record { did = 3; arg = a }) (done (record { kind = fail; offsets = []; path = [] }))
make done seen a (out h o) next first = seen (record { did = h; arg = a }) (done (record { kind = external; offsets = o ∷ []; path = [] }))
make done seen a (goto h q) next first = seen (record { did = h; arg = a }) (first q)

-- section 5: the clauses of a place
abbrev pub clauses : Index → Place → List ℕ
clauses idx (line l) = offs (line_at idx l).choices
clauses idx (unstored os) = os

-- section 3: the line that a distance leads to (pointers have their distances in stored lines only)
abbrev pub jump : Place → ℕ → Place
jump (line l) d = line (l + d)
jump (unstored os) d = unstored []

-- section 5: External that offset, internal first table of that line
abbrev pub lead : Place → ℕ → Ptr → Move
lead p h (ext o) = out h o
lead p h (int d) = goto h (jump p d)

-- section 5: follows what a stored switch chose
abbrev pub follow : Place → Option (Chosen Ptr) → Move
follow p none = stop
follow p (some c) = lead p c.how c.to

-- section 5: enters a bucket, by the offset of its external pointer if it has one
abbrev pub enter : ℕ → Option ℕ → List ℕ → Move
enter h (some o) os = out h o
enter h none os = goto h (unstored os)

-- section 5, no table left: Variadic in line 0, else Sequence
abbrev pub kind_at : Place → Case
kind_at (line zero) = variadic
kind_at (line (suc l)) = sequence
kind_at (unstored os) = sequence

-- section 5: the answer where no table is left
abbrev pub ending : Index → Place → Answer
ending idx p = record { kind = kind_at p; offsets = clauses idx p; path = [] }

module _ (P : Program) where
  -- section 5: the tables of a place; a line that is not stored has those of section 3 for the arguments above a, whose switch led there
  abbrev pub tables_of : Index → ℕ → Place → List Table
  tables_of idx a (line l) = (line_at idx l).tables
  tables_of idx a (unstored os) = later_tables P (P.arity - a) (suc a) os

  -- section 5: follows what a switch that is not stored chose
  abbrev pub follow_new : Option (Chosen (List ℕ)) → Move
  follow_new none = stop
  follow_new (some c) = enter c.how (lone P c.to) c.to

  -- sections 4 and 5, an on-demand table that is not stored expanded: by the clauses that are open there a switch, or dead
  abbrev pub demand : ℕ → Key → List ℕ → List ℕ → Move
  demand a q os [] = follow_new (choose P q (virtual P a os))
  demand a q os (o ∷ opens) = pass 2

  -- section 5: the bound argument a at a table for it
  abbrev pub move_at : Index → Place → ℕ → Key → Table → Move
  move_at idx p a q (switch b es) = follow p (choose P q es)
  move_at idx p a q (on_demand b) = demand a q (clauses idx p) (open_at P a (clauses idx p))
  move_at idx p a q (dead b os) = pass 2

  -- section 5: the argument a at a table for it, whether bound or not
  abbrev pub meet : Index → Place → ℕ → Key → Table → Move
  meet idx p a q t = cond (is_open q) (pass 1) (move_at idx p a q t)

-- section 5, what a walk gives back: answer, line number, whether all was stored, the index left
pub record Result : Type 0 where
  pub found : Answer
  pub number : ℕ
  pub whole : Bool
  pub left : Index

-- section 5: one more table looked at, in a result
abbrev pub look_at : Step → Result → Result
look_at s r = record { found = look s r.found; number = r.number; whole = r.whole; left = r.left }

-- section 5: an answer in a state, with a line number
abbrev pub result : ℕ → State → Answer → Result
result n s r = record { found = r; number = n; whole = s.storing; left = s.index }

-- section 5, line number: 0 unless a stored line's
abbrev pub line_number : Place → ℕ
line_number (line l) = l
line_number (unstored os) = 0

-- section 5, no table left: the result there
abbrev pub finish : State → Place → Result
finish s p = result (line_number p) s (ending s.index p)

-- section 3: how many tables an index has
abbrev pub tables_in : Index → ℕ
tables_in [] = 0
tables_in (l ∷ ls) = length l.tables + tables_in ls

module _ (P : Program) (cap : ℕ) (Q : Call) where
  -- section 5, table i of line l, the first of the tables left there: on demand and bound, it is expanded at that place, while expansions are stored
  abbrev pub expand_first : State → ℕ → ℕ → List Table → State
  expand_first s l i [] = s
  expand_first s l i (switch a es ∷ ts) = s
  expand_first s l i (on_demand a ∷ ts) = cond (s.storing && not (is_open (Q a))) (attempt cap s.index (expand_at P s.index l i a)) s
  expand_first s l i (dead a os ∷ ts) = s

  -- section 5: the state in which table i of a place, counted from 0, is looked at; after an expansion that is the table at the same place
  abbrev pub ready : State → Place → ℕ → State
  ready s (line l) i = expand_first s l i (drop i (line_at s.index l).tables)
  ready s (unstored os) i = s

  -- section 5, the first of the tables left is looked at, if one is left; next goes on with the next table, first with the first table of a line
  abbrev pub visit : State → Place → List Table → Result → (ℕ → Place → Result) → Result
  visit s p [] next first = finish s p
  visit s p (t ∷ ts) next first =
      let a = arg_of t in
      make (result 0 s) look_at a (meet P s.index p a (Q a) t) next (first a)

  -- section 5, the walk at a place, i tables of which were passed, and to which a switch on a led; n bounds the tables looked at
  unfoldable pub walk_on : ℕ → State → Place → ℕ → ℕ → Result
  walk_on zero s p a i = finish s p
  walk_on (suc n) s p a i =
      let t = ready s p i in
      visit t p (drop i (tables_of P t.index a p)) (walk_on n t p a (suc i)) (λ b q. walk_on n t q b 0)

  -- section 5, the walk from line 0, first table. Its bound cuts no walk short: a walk that ends looks at each table of the index at most once, and in
  -- new lines, stored or not, at one for each argument at most. On a well-formed index every bound above the arity gives the same (`Bounded`, claims/specs/General)
  abbrev pub walk : Index → Result
  walk idx = walk_on (suc (P.arity + tables_in idx)) (record { storing = true; index = idx }) (line 0) 0 0
