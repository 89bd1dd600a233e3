-- A line's clauses as columns, and the records of an expansion by them: what the writers' contracts cite.
-- proofs/BridgeExpand, by the six other Bridge files, shows that these are the records of section 4's expansion (specs/Expand). For contracts of inner functions.
-- Columns of a line of n clauses at one argument: leaders (the place of the first clause with an equal key), heads and bits (the
-- key's sort and arity, and its bits), offs and tags (the line's choices), opens (32 numbers a clause: 1 at b - 1 where the clause
-- has no key at argument b, else 0).
-- Assumes nothing.
use Rattle.std.specs.Prelude.{ℕ, zero, suc, ◌+◌, ◌-◌, ◌*◌, ◌/◌, ◌%◌, Bool, true, false, cond, not, List, [], ◌∷◌, ◌++◌, map, eqb, leb, ltb, length, get_or}
use Rattle.records.specs.declared.Rec.{Rec}
use Rattle.records.specs.Records.{rec_of}
use Rattle.indexing_iter.specs.declared.OptArgIndexKey.{OptArgIndexKey as Key}
use Rattle.indexing_iter.specs.declared.Settings.{Settings}
use Rattle.indexing_iter.specs.Keys.{is_open, bits_of}
use Rattle.indexing_iter.specs.Rows.{head_of, same_bits}
use Rattle.std.specs.Int.{from_bool}
use Rattle.indexing.specs.Upto.{count_to, any_to, list_to}
use Rattle.indexing.specs.Lines.{mode_of}
use Rattle.indexing.specs.Build.{masked_at}

-- the words of records: the offsets, where they are offset records
unfoldable pub words_of : List Rec → List ℕ
words_of rs = map (λ r. r.word) rs

-- the group of a key by its head: 1 literals, 2 list, 3 structures
abbrev pub group_of_head : ℕ → ℕ
group_of_head head = cond (ltb head 262144) 1 (cond (ltb head 327680) 3 2)

-- the key of clause j has an equal one at i: sort, arity and bits are equal
unfoldable pub same_at : List ℕ → List ℕ → ℕ → ℕ → Bool
same_at heads bits i j = same_bits (get_or heads i 0) (get_or bits i 0) (get_or heads j 0) (get_or bits j 0)

-- the first of the places from i on, k of them at most, at which the key of clause j stands; j where there is none
unfoldable pub first_same : List ℕ → List ℕ → ℕ → ℕ → ℕ → ℕ
first_same heads bits j i zero = j
first_same heads bits j i (suc k) = cond (same_at heads bits i j) i (first_same heads bits j (suc i) k)

-- the leader of clause j: the first clause with its key
unfoldable pub leader_of : List ℕ → List ℕ → ℕ → ℕ
leader_of heads bits j = first_same heads bits j 0 j

-- the leaders of the first n clauses
unfoldable pub leaders_to : List ℕ → List ℕ → ℕ → List ℕ
leaders_to heads bits n = list_to (λ j. leader_of heads bits j ∷ []) n

-- the columns of the clauses offs at argument a, K giving the key of an offset at an argument
unfoldable pub heads_to : (ℕ → ℕ → Key) → List ℕ → ℕ → ℕ → List ℕ
heads_to K offs a n = list_to (λ j. head_of (K (get_or offs j 0) a) ∷ []) n

unfoldable pub bits_to : (ℕ → ℕ → Key) → List ℕ → ℕ → ℕ → List ℕ
bits_to K offs a n = list_to (λ j. bits_of (K (get_or offs j 0) a) ∷ []) n

-- the 32 numbers of one clause: 1 where an argument up to the arity has no key
unfoldable pub open_row : (ℕ → ℕ → Key) → ℕ → ℕ → List ℕ
open_row K arity o = list_to (λ b. from_bool (cond (ltb b arity) (is_open (K o (b + 1))) false) ∷ []) 32

unfoldable pub opens_to : (ℕ → ℕ → Key) → ℕ → List ℕ → ℕ → List ℕ
opens_to K arity offs n = list_to (λ j. open_row K arity (get_or offs j 0)) n

module _ (leaders : List ℕ) where
  -- clause j is in the bucket that clause i leads
  unfoldable pub member : ℕ → ℕ → Bool
  member i j = eqb (get_or leaders j 0) i

  -- clause i is the first with its key
  unfoldable pub leads : ℕ → Bool
  leads i = eqb (get_or leaders i 0) i

  -- how many clauses clause i leads
  unfoldable pub size_of : ℕ → ℕ
  size_of i = count_to (member i) (length leaders)

  -- the sizes of the first n buckets
  unfoldable pub sizes_to : ℕ → List ℕ
  sizes_to n = list_to (λ i. size_of i ∷ []) n

  -- a bucket of two or more, or any bucket of a dynamic line, is a line
  unfoldable pub needs_line : Bool → ℕ → Bool
  needs_line dynamic i = cond dynamic true (leb 2 (size_of i))

  module _ (heads : List ℕ) where
    -- clause i opens a bucket of group g
    unfoldable pub opens_bucket : ℕ → ℕ → Bool
    opens_bucket g i = cond (leads i) (eqb (group_of_head (get_or heads i 0)) g) false

    -- clause i opens a bucket of group g that is a line
    unfoldable pub opens_line : Bool → ℕ → ℕ → Bool
    opens_line dynamic g i = cond (opens_bucket g i) (needs_line dynamic i) false

    -- how many lines group g has among the buckets that the clauses below n open
    unfoldable pub lines_to : Bool → ℕ → ℕ → ℕ
    lines_to dynamic g n = count_to (opens_line dynamic g) n

    -- dynamic lines have a list line even where no clause has a list
    unfoldable pub empty_list : Bool → Bool
    empty_list dynamic = cond dynamic (not (any_to (opens_bucket 2) (length leaders))) false

    -- how many lines the list group has
    unfoldable pub list_lines : Bool → ℕ
    list_lines dynamic = cond (empty_list dynamic) 1 (lines_to dynamic 2 (length leaders))

    module _ (bits offs : List ℕ) where
      -- the word of the entry of clause i's bucket, d the distance of its line if it has one
      unfoldable pub pointer_to : Bool → ℕ → ℕ → ℕ
      pointer_to dynamic i d = cond (needs_line dynamic i) (2147483648 + d) (get_or offs i 0)

      abbrev pub entry_of : Bool → ℕ → ℕ → Rec
      entry_of dynamic d i = rec_of 5 (get_or heads i 0 / 65536 % 256) (get_or heads i 0 % 65536) (pointer_to dynamic i d) (get_or bits i 0)

      -- the entry of the bucket that clause i opens in group g, if it opens one
      unfoldable pub entry_at : Bool → ℕ → ℕ → ℕ → List Rec
      entry_at dynamic g d i = cond (opens_bucket g i) (entry_of dynamic d i ∷ []) []

      -- the entries of group g, d the distance of the group's first line
      unfoldable pub entries : Bool → ℕ → ℕ → List Rec
      entries dynamic g d = list_to (λ i. entry_at dynamic g (d + lines_to dynamic g i) i) (length leaders)

      unfoldable pub list_entries : Bool → ℕ → List Rec
      list_entries dynamic d = cond (empty_list dynamic) (rec_of 5 5 0 (2147483648 + d) 0 ∷ []) (entries dynamic 2 d)

      -- the switch on an argument and its entries by literals, list, structures; d is the distance of the first new line, and
      -- lines stand by list, structures, literals
      unfoldable pub switch_recs : Bool → ℕ → ℕ → List Rec
      switch_recs dynamic arg d =
          let structures : ℕ = d + list_lines dynamic in
          let literals : ℕ = structures + lines_to dynamic 3 (length leaders) in
          rec_of 2 0 arg 0 0 ∷ (entries dynamic 1 literals ++ (list_entries dynamic d ++ entries dynamic 3 structures))

module _ (leaders opens offs : List ℕ) where
  -- clause j, of the bucket that clause i leads, has no key at argument b
  unfoldable pub open_member : ℕ → ℕ → ℕ → Bool
  open_member i b j = cond (member leaders i j) (eqb (get_or opens (32 * j + (b - 1)) 0) 1) false

  -- the dead clauses of the bucket at argument b
  unfoldable pub dead_clauses : ℕ → ℕ → List Rec
  dead_clauses i b = list_to (λ j. cond (open_member i b j) (rec_of 7 0 0 (get_or offs j 0) 0 ∷ []) []) (length leaders)

  -- the table for argument b in the line of the bucket that clause i leads: none, on demand or dead
  unfoldable pub table_at : ℕ → Bool → ℕ → ℕ → List Rec
  table_at mask extensible i b =
      cond (masked_at mask b) []
      (cond (any_to (open_member i b) (length leaders))
      (cond extensible (rec_of 4 0 b 0 0 ∷ dead_clauses i b) [])
      (rec_of 3 0 b 0 0 ∷ []))

  -- the tables for k arguments from b on
  unfoldable pub tables_at : ℕ → Bool → ℕ → ℕ → ℕ → List Rec
  tables_at mask extensible i b k = list_to (λ t. table_at mask extensible i (b + t)) k

-- the tag of the offset at place k of n: dynamic lines keep their own, static ones have Try, Retry, Trust or their default forms
unfoldable pub tag_at : Bool → Bool → ℕ → ℕ → ℕ → ℕ
tag_at dynamic default own n k =
    cond dynamic own (cond (eqb k 0) 1 (cond (eqb (k + 1) n) (cond default 5 4) (cond default 3 2)))

module _ (leaders offs tags : List ℕ) where
  -- the offset of clause j, if it is in the bucket that clause i leads, as number k of n
  unfoldable pub choice_at : Bool → Bool → ℕ → ℕ → ℕ → ℕ → List Rec
  choice_at dynamic default n i k j =
      cond (member leaders i j) (rec_of 6 (tag_at dynamic default (get_or tags j 0) n k) 0 (get_or offs j 0) 0 ∷ []) []

  -- the offsets of the bucket that clause i leads
  unfoldable pub choices : Bool → Bool → ℕ → List Rec
  choices dynamic default i =
      list_to (λ j. choice_at dynamic default (size_of leaders i) i (count_to (member leaders i) j) j) (length leaders)

-- new lines of a switch on argument arg
module _ (leaders heads opens offs tags : List ℕ) (S : Settings) (arg : ℕ) where
  -- the line of a number for the bucket that clause i leads; where i is past the clauses, the line of none
  unfoldable pub line_of : ℕ → ℕ → List Rec
  line_of number i =
      rec_of 1 (mode_of S.dynamic) 0 number 0
      ∷ (tables_at leaders opens offs S.mask S.extensible i (arg + 1) (S.arity - arg) ++ choices leaders offs tags S.dynamic S.non_counted i)

  -- where clause i opens a line of group g, that line
  unfoldable pub line_at : ℕ → ℕ → ℕ → List Rec
  line_at g number i = cond (opens_line leaders heads S.dynamic g i) (line_of number i) []

  -- the lines of group g, numbered from number on
  unfoldable pub group_lines : ℕ → ℕ → List Rec
  group_lines g number = list_to (λ i. line_at g (number + lines_to leaders heads S.dynamic g i) i) (length leaders)

  unfoldable pub list_line : ℕ → List Rec
  list_line number = cond (empty_list leaders heads S.dynamic) (line_of number (length leaders)) (group_lines 2 number)

  -- all new lines, by list, structures, literals
  unfoldable pub new_lines_recs : ℕ → List Rec
  new_lines_recs number =
      let structures : ℕ = number + list_lines leaders heads S.dynamic in
      let literals : ℕ = structures + lines_to leaders heads S.dynamic 3 (length leaders) in
      list_line number ++ (group_lines 3 structures ++ group_lines 1 literals)

-- line 0 before its switch on argument arg is made (specs/Seed): all clauses are one bucket, whose leaders column is zeros
module _ (zeros opens offs tags : List ℕ) (S : Settings) (arg : ℕ) where
  unfoldable pub seed_recs : List Rec
  seed_recs =
      rec_of 1 (mode_of S.dynamic) 0 0 0
      ∷ (rec_of 3 0 arg 0 0
      ∷ (tables_at zeros opens offs S.mask S.extensible 0 (arg + 1) (S.arity - arg) ++ choices zeros offs tags S.dynamic S.non_counted 0))

-- the dead table for an argument, all clauses being one bucket
unfoldable pub dead_recs : List ℕ → List ℕ → List ℕ → ℕ → List Rec
dead_recs zeros opens offs arg = rec_of 4 0 arg 0 0 ∷ dead_clauses zeros opens offs 0 arg
