-- An expansion by the columns of a line's clauses, and where the on-demand table stands: what the contracts of the expansion on the buffer cite.
-- proofs/BridgeExpand shows that these are the records of section 4's expansion (specs/Expand). For contracts of inner functions.
-- Assumes nothing.
use Rattle.std.specs.Prelude.{ℕ, ◌+◌, ◌≡◌, Bool, cond, List, [], ◌∷◌, eqb, length, replicate, take}
use Rattle.records.specs.declared.Rec.{Rec}
use Rattle.indexing_iter.specs.declared.OptArgIndexKey.{OptArgIndexKey as Key}
use Rattle.indexing_iter.specs.declared.Settings.{Settings}
use Rattle.indexing.specs.Lines.{Table, Choice, Index, line_at, arg_of, tables_size, size}
use Rattle.indexing.specs.Upto.{any_to}
use Rattle.indexing.specs.Columns.{heads_to, bits_to, leaders_to, opens_to, sizes_to, lines_to, list_lines, open_member, dead_recs, switch_recs, new_lines_recs}

-- the tags of a line's choices, without offsets
abbrev pub tags_of : List Choice → List ℕ
tags_of [] = []
tags_of (c ∷ cs) = c.tag ∷ tags_of cs

-- the tables before the one for argument a
abbrev pub front : ℕ → List Table → List Table
front a [] = []
front a (t ∷ ts) = cond (eqb (arg_of t) a) [] (t ∷ front a ts)

-- the place of line l's table for argument a among the records: behind the lines before, the line's own record and the tables before that one
unfoldable pub place_of : Index → ℕ → ℕ → ℕ
place_of idx l a = size (take l idx) + (1 + tables_size (front a (line_at idx l).tables))

-- the columns of all clauses os at argument a, K giving the key of an offset at an argument
abbrev pub heads_at : (ℕ → ℕ → Key) → List ℕ → ℕ → List ℕ
heads_at K os a = heads_to K os a (length os)

abbrev pub bits_at : (ℕ → ℕ → Key) → List ℕ → ℕ → List ℕ
bits_at K os a = bits_to K os a (length os)

abbrev pub leaders_at : (ℕ → ℕ → Key) → List ℕ → ℕ → List ℕ
leaders_at K os a = leaders_to (heads_at K os a) (bits_at K os a) (length os)

abbrev pub opens_of : Settings → (ℕ → ℕ → Key) → List ℕ → List ℕ
opens_of S K os = opens_to K S.arity os (length os)

abbrev pub zeros_of : List ℕ → List ℕ
zeros_of os = replicate (length os) 0

-- the columns that hold them, with the sizes of the buckets, and a leaders column in which all clauses are one bucket
pub record ColumnsOf (K : ℕ → ℕ → Key) (arity : ℕ) (os : List ℕ) (a : ℕ) (leaders heads sizes zeros bits opens : List ℕ) : Type 0 where
  pub leaders-are : leaders ≡ leaders_at K os a
  pub heads-are : heads ≡ heads_at K os a
  pub sizes-are : sizes ≡ sizes_to leaders (length leaders)
  pub zeros-are : zeros ≡ zeros_of os
  pub bits_are : bits ≡ bits_at K os a
  pub opens-are : opens ≡ opens_to K arity os (length os)

-- what the on-demand record for argument a gives way to, d the distance of the first new line: a dead table where a clause is open there, else a switch
unfoldable pub block_recs : Settings → (ℕ → ℕ → Key) → List ℕ → ℕ → ℕ → List Rec
block_recs S K os a d =
    cond (any_to (open_member (zeros_of os) (opens_of S K os) os 0 a) (length os))
    (dead_recs (zeros_of os) (opens_of S K os) os a)
    (switch_recs (leaders_at K os a) (heads_at K os a) (bits_at K os a) os S.dynamic a d)

-- the new lines, numbered from number on
unfoldable pub more_recs : Settings → (ℕ → ℕ → Key) → List ℕ → List ℕ → ℕ → ℕ → List Rec
more_recs S K os tags a number =
    cond (any_to (open_member (zeros_of os) (opens_of S K os) os 0 a) (length os))
    []
    (new_lines_recs (leaders_at K os a) (heads_at K os a) (opens_of S K os) os tags S a number)

-- how many lines a switch makes: those of the list, the structures and the literals
unfoldable pub lines_made : List ℕ → List ℕ → Bool → ℕ
lines_made leaders heads dynamic =
    list_lines leaders heads dynamic + lines_to leaders heads dynamic 3 (length leaders) + lines_to leaders heads dynamic 1 (length leaders)

-- how many new lines there are
unfoldable pub more_lines : Settings → (ℕ → ℕ → Key) → List ℕ → ℕ → ℕ
more_lines S K os a =
    cond (any_to (open_member (zeros_of os) (opens_of S K os) os 0 a) (length os))
    0
    (lines_made (leaders_at K os a) (heads_at K os a) S.dynamic)
