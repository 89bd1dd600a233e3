-- A line that is not stored, as a list of clauses, narrowed at one argument. For contracts of inner functions.
-- Assumes nothing.
use Rattle.std.specs.Prelude.{◌≡◌, Bool, true, false, cond, ◌&&◌, List, [], ◌∷◌, ℕ, ◌≤◌, eqb, length, take}
use Rattle.std.specs.List.{filter, list_all, list_any}
use Rattle.indexing_iter.specs.declared.OptArgIndexKey.{OptArgIndexKey as Key}
use Rattle.indexing_iter.specs.Keys.{group_of, is_open, same}
use Rattle.indexing_iter.specs.Clauses.{known}
use Rattle.indexing_scan.specs.declared.unstored.Step.{Step}
use Rattle.indexing_scan.specs.declared.unstored.Step.TheVariants.{Unbound, Dead, Only, Equal}
use Rattle.indexing_scan.specs.declared.unstored.Narrowed.{Narrowed}
use Rattle.indexing_scan.specs.declared.unstored.Narrowed.TheVariants.{NoTable, Passed, Failed, Single, Bucket}
use Rattle.indexing_scan.specs.declared.unstored.Finished.{Finished}
use Rattle.indexing_scan.specs.Walk.{Move, skip, stop, pass, out, goto, unstored, Answer}
use Rattle.indexing_scan.specs.Cases.{ending_of}

-- section 5, the number of a step: 1 unbound, 2 dead, 4 the only entry of the group, 5 the equal key among several
abbrev pub step_number : Step → ℕ
step_number Unbound = 1
step_number Dead = 2
step_number Only = 4
step_number Equal = 5

-- section 5: the move of an answer, a bucket's clauses standing at the front of the list
abbrev pub move_of : Narrowed → List ℕ → Move
move_of NoTable list = skip
move_of (Passed h) list = pass (step_number h)
move_of Failed list = stop
move_of (Single h o) list = out (step_number h) o
move_of (Bucket h k) list = goto (step_number h) (unstored (take k list))

-- how many clauses stand at the front of the list after an answer, of m before it
abbrev pub count_of : ℕ → Narrowed → ℕ
count_of m NoTable = m
count_of m (Passed h) = m
count_of m Failed = 0
count_of m (Single h o) = 1
count_of m (Bucket h k) = k

-- those clauses, os before it: with no table left or one passed as they were, with an external pointer its one
abbrev pub held_by : Narrowed → List ℕ → List ℕ → List ℕ
held_by NoTable os list = os
held_by (Passed h) os list = os
held_by Failed os list = []
held_by (Single h o) os list = o ∷ []
held_by (Bucket h k) os list = take k list

-- what stands in the list after an answer: those clauses at its front, no more of them than before, each with a known offset
pub record Held (starts : List ℕ) (old new : List ℕ) (r : Narrowed) : Type 0 where
  pub front : take (count_of (length old) r) new ≡ held_by r old new
  pub within : count_of (length old) r ≤ length old
  pub offsets : list_all (known starts) (take (count_of (length old) r) new) ≡ true

-- some clause has no key at argument a
unfoldable pub any_open : (ℕ → ℕ → Key) → ℕ → List ℕ → Bool
any_open K a os = list_any (λ o. is_open (K o a)) os

-- a clause's key k is one of q's group, or equal to q
abbrev pub alike : Bool → Key → Key → Bool
alike true q k = eqb (group_of q) (group_of k)
alike false q k = same k q

-- the clauses whose key at argument a is one of q's group, or equal to q
unfoldable pub like_to : (ℕ → ℕ → Key) → Bool → ℕ → Key → List ℕ → List ℕ
like_to K group a q os = filter (λ o. alike group q (K o a)) os

-- every clause has the key k at argument a
unfoldable pub all_same : (ℕ → ℕ → Key) → ℕ → Key → List ℕ → Bool
all_same K a k os = list_all (λ o. same (K o a) k) os

-- a bucket of k clauses, o the first: an external pointer if it is one clause of a static line, else a line
unfoldable pub entered_by : Bool → Step → ℕ → ℕ → Narrowed
entered_by dynamic h k o = cond dynamic (Bucket h k) (cond (eqb k 1) (Single h o) (Bucket h k))

-- no clause of the group of q: Fail, but the dynamic list is a line even if empty
unfoldable pub empty_by : Bool → Key → Narrowed
empty_by dynamic q = cond (dynamic && eqb (group_of q) 2) (Bucket Only 0) Failed

-- an answer by its case, the number of its offsets and of the tables looked at
abbrev pub finished_by : Answer → Finished
finished_by r = record { case = ending_of r.kind; count = length r.offsets; tables = length r.path }
