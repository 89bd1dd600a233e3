-- Laws of a line's buckets, of the switch's entries and of their numbers. Assumes nothing.
use mathlib.Core.Path.{◌≡◌, refl, ap, ◌∙◌}
use Prim.Native.Nat.{ℕ, ◌+◌, ◌≤◌, ◌<◌}
use native.Mathlib.Omega.{arith}
use mathlib.Core.Bool.{Bool, true, false, cond}
use mathlib.Core.List.{List, [], ◌∷◌, ◌++◌}
use lib.ListN.{length, get_or, length-append}
use Rattle.records.specs.Records.{rec_of}
use Rattle.std.specs.Int.{from_bool}
use Rattle.indexing.specs.Upto.{count_to}
use Rattle.indexing.specs.Columns.{size_of, sizes_to, needs_line, opens_bucket, opens_line, lines_to, empty_list, list_lines}
use Rattle.indexing.specs.Columns.{pointer_to, entry_of, entry_at, entries, list_entries, switch_recs}
use Rattle.indexing.proofs.BridgeLists.{length-each, get_or-each, length_some}
use Rattle.index_writer.proofs.Upto.{count-step, count-le}

-- the column of the sizes
module _ (leaders sizes : List ℕ) (e : sizes ≡ sizes_to leaders (length leaders)) where
  pub sizes-length : length sizes ≡ length leaders
  unfolding sizes_to
  sizes-length = ap length e ∙ length-each (size_of leaders) (length leaders)

  pub size-at : (i : ℕ) → i < length leaders → get_or sizes i 0 ≡ size_of leaders i
  unfolding sizes_to
  size-at i h = ap (λ (l : List ℕ). get_or l i 0) e ∙ get_or-each (size_of leaders) (length leaders) i 0 h

-- the lines of a group
module _ (leaders heads : List ℕ) (dynamic : Bool) (g : ℕ) where
  pub lines_none : lines_to leaders heads dynamic g 0 ≡ 0
  unfolding lines_to count_to
  lines_none = refl

  pub lines_start : (d : ℕ) → d ≡ d + lines_to leaders heads dynamic g 0
  lines_start d = omega (arith, lines_none)

  pub lines_step : (i : ℕ) → lines_to leaders heads dynamic g (i + 1) ≡ lines_to leaders heads dynamic g i + from_bool (opens_line leaders heads dynamic g i)
  unfolding lines_to
  lines_step i = count-step (opens_line leaders heads dynamic g) i refl

  pub lines-le : (n : ℕ) → lines_to leaders heads dynamic g n ≤ n
  unfolding lines_to
  lines-le n = count-le (opens_line leaders heads dynamic g) n

-- the entries of a group
module _ (leaders heads bits offs : List ℕ) (dynamic : Bool) (g : ℕ) where
  pub entry-yes : (d i : ℕ) → opens_bucket leaders heads g i ≡ true
      → entry_at leaders heads bits offs dynamic g d i ≡ entry_of leaders heads bits offs dynamic d i ∷ []
  unfolding entry_at
  entry-yes d i e = rw e

  pub entry-no : (d i : ℕ) → opens_bucket leaders heads g i ≡ false → entry_at leaders heads bits offs dynamic g d i ≡ []
  unfolding entry_at
  entry-no d i e = rw e

  -- how many entries there are does not hang on the distances of their lines
  pub length-entries : (d : ℕ) → length (entries leaders heads bits offs dynamic g d) ≡ count_to (opens_bucket leaders heads g) (length leaders)
  unfolding entries entry_at
  length-entries d =
      length_some (opens_bucket leaders heads g) (λ i. entry_of leaders heads bits offs dynamic (d + lines_to leaders heads dynamic g i) i) (length leaders)

-- how many entries the list group has
abbrev pub list_count : List ℕ → List ℕ → Bool → ℕ
list_count leaders heads dynamic = cond (empty_list leaders heads dynamic) 1 (count_to (opens_bucket leaders heads 2) (length leaders))

module _ (leaders heads bits offs : List ℕ) (dynamic : Bool) where
  -- the word of an entry, as it is computed
  pub pointer_is : (d i : ℕ) → cond (needs_line leaders dynamic i) (2147483648 + d) (get_or offs i 0) ≡ pointer_to leaders heads bits offs dynamic i d
  unfolding pointer_to
  pointer_is d i = refl

  -- the list group of a line without lists, and of one with them or that is static
  pub list-empty : (d : ℕ) → empty_list leaders heads dynamic ≡ true
      → list_entries leaders heads bits offs dynamic d ≡ rec_of 5 5 0 (2147483648 + d) 0 ∷ []
  unfolding list_entries
  list-empty d e = rw e

  pub list_full : (d : ℕ) → empty_list leaders heads dynamic ≡ false
      → list_entries leaders heads bits offs dynamic d ≡ entries leaders heads bits offs dynamic 2 d
  unfolding list_entries
  list_full d e = rw e

  pub length-list : (d : ℕ) → length (list_entries leaders heads bits offs dynamic d) ≡ list_count leaders heads dynamic
  unfolding list_entries
  length-list d = go (empty_list leaders heads dynamic)
    where
      go : (b : Bool) → length (cond b (rec_of 5 5 0 (2147483648 + d) 0 ∷ []) (entries leaders heads bits offs dynamic 2 d))
          ≡ cond b 1 (count_to (opens_bucket leaders heads 2) (length leaders))
      go true = refl
      go false = length-entries leaders heads bits offs dynamic 2 d

  pub length-switch : (arg d : ℕ) → length (switch_recs leaders heads bits offs dynamic arg d)
      ≡ 1 + (count_to (opens_bucket leaders heads 1) (length leaders)
      + (list_count leaders heads dynamic + count_to (opens_bucket leaders heads 3) (length leaders)))
  unfolding switch_recs
  length-switch arg d =
      let structures : ℕ = d + list_lines leaders heads dynamic in
      let literals : ℕ = structures + lines_to leaders heads dynamic 3 (length leaders) in
      let e1 = length-entries leaders heads bits offs dynamic 1 literals in
      let e2 = length-list d in
      let e3 = length-entries leaders heads bits offs dynamic 3 structures in
      simp length-append (omega arith)

  -- the switch by its parts
  pub switch-parts : (arg d structures literals : ℕ) → structures ≡ d + list_lines leaders heads dynamic
      → literals ≡ structures + lines_to leaders heads dynamic 3 (length leaders)
      → switch_recs leaders heads bits offs dynamic arg d
      ≡ rec_of 2 0 arg 0 0 ∷ (entries leaders heads bits offs dynamic 1 literals
      ++ (list_entries leaders heads bits offs dynamic d ++ entries leaders heads bits offs dynamic 3 structures))
  unfolding switch_recs
  switch-parts arg d structures literals e f = rw (f, e) refl

-- the next line's distance, grown
pub distance-grown : {k : ℕ} (d by x : ℕ) → k ≡ d + x → k + by ≡ d + by + x
distance-grown d by x e = omega arith
