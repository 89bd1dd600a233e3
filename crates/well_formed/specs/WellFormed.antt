-- A well-formed index (document 01, number 12): the records are those of the index that they stand for, and that index is sound.
-- The record count against the capacity is the caller's.
-- Assumes nothing.
use Rattle.std.specs.Prelude.{Bool, true, false, not, ◌&&◌, List, [], ◌∷◌, ℕ, suc, ◌+◌, eqb, leb, ltb, length}
use Rattle.std.specs.List.{list_all, list_any}
use Rattle.records.specs.declared.Rec.{Rec}
use Rattle.indexing_iter.specs.declared.OptArgIndexKey.{OptArgIndexKey as Key}
use Rattle.indexing_iter.specs.declared.OptArgIndexKey.TheVariants.{None, Literal, Structure, List as ListKey}
use Rattle.indexing_iter.specs.Keys.{group_of, same}
use Rattle.indexing.specs.Lines.{Ptr, ext, int, Entry, Table, switch, on_demand, dead, arg_of, Choice, Line, Index, line_at, offs, mode_of, records}
use Rattle.indexing.specs.Reading.{parse}

-- number 12, offsets or dead clauses: strictly rising from n on, and of known starts
abbrev pub rising_ok : (ℕ → Bool) → ℕ → List ℕ → Bool
rising_ok known n [] = true
rising_ok known n (o ∷ os) = leb n o && (known o && rising_ok known (suc o) os)

-- number 12, the arguments of tables: strictly rising from n on, and at most m
abbrev pub args_ok : ℕ → ℕ → List Table → Bool
args_ok m n [] = true
args_ok m n (t ∷ ts) = leb n (arg_of t) && (leb (arg_of t) m && args_ok m (suc (arg_of t)) ts)

-- number 12, a key of a switch by section 2: bound, a literal's sort 1 to 3; a structure's arity is free
abbrev pub key_ok : Key → Bool
key_ok None = false
key_ok (Literal s b) = leb 1 s && leb s 3
key_ok (Structure n f) = true
key_ok ListKey = true

-- number 12, the keys of a switch: literals, list, structures, from the group g on, all distinct
abbrev pub keys_ok : ℕ → List Key → Bool
keys_ok g [] = true
keys_ok g (k ∷ ks) = leb g (group_of k) && (key_ok k && (not (list_any (same k) ks) && keys_ok (group_of k) ks))

-- number 12: the keys of a switch's entries
abbrev pub entry_keys : List (Entry Ptr) → List Key
entry_keys [] = []
entry_keys (e ∷ es) = e.key ∷ entry_keys es

-- number 12, an offset's tag: 6 or 7 if dynamic, else 1 to 5
abbrev pub tag_ok : Bool → Choice → Bool
tag_ok true c = leb 6 c.tag && leb c.tag 7
tag_ok false c = leb 1 c.tag && leb c.tag 5

-- number 12: a static line has an offset
abbrev pub some_ok : Bool → List Choice → Bool
some_ok true cs = true
some_ok false [] = false
some_ok false (c ∷ cs) = true

-- number 12: the offsets of a line
abbrev pub choices_ok : Bool → (ℕ → Bool) → List Choice → Bool
choices_ok dynamic known cs = rising_ok known 1 (offs cs) && (list_all (tag_ok dynamic) cs && some_ok dynamic cs)

module _ (arity : ℕ) (dynamic : Bool) (known : ℕ → Bool) (idx : Index) where
  -- number 12, a pointer of the switch on a in line l: external, of a known start, not dynamic; internal, to a line whose arguments exceed a
  abbrev pub pointer_ok : ℕ → ℕ → Ptr → Bool
  pointer_ok l a (ext o) = not dynamic && known o
  pointer_ok l a (int d) = leb 1 d && (ltb (l + d) (length idx) && args_ok arity (suc a) (line_at idx (l + d)).tables)

  -- number 12: a table of line l
  abbrev pub table_ok : ℕ → Table → Bool
  table_ok l (switch a es) = keys_ok 1 (entry_keys es) && list_all (λ e. pointer_ok l a e.to) es
  table_ok l (on_demand a) = true
  table_ok l (dead a os) = rising_ok known 1 os

  -- number 12: line l
  abbrev pub line_ok : ℕ → Line → Bool
  line_ok l x = args_ok arity 1 x.tables && (list_all (table_ok l) x.tables && choices_ok dynamic known x.choices)

  -- number 12: the lines from number l on
  abbrev pub lines_ok : ℕ → List Line → Bool
  lines_ok l [] = true
  lines_ok l (x ∷ xs) = line_ok l x && lines_ok (suc l) xs

-- number 12: there is a line 0, and every line is sound
abbrev pub index_ok : ℕ → Bool → (ℕ → Bool) → Index → Bool
index_ok arity dynamic known idx = ltb 0 (length idx) && lines_ok arity dynamic known idx 0 idx

-- number 12: two records are equal, field by field
abbrev pub rec_ok : Rec → Rec → Bool
rec_ok r s =
    eqb r.kind s.kind
    && (eqb r.sub s.sub && (eqb r.half s.half && (eqb r.word s.word && eqb r.long s.long)))

-- number 12: two lists of records are equal
abbrev pub recs_ok : List Rec → List Rec → Bool
recs_ok [] [] = true
recs_ok [] (s ∷ ss) = false
recs_ok (r ∷ rs) [] = false
recs_ok (r ∷ rs) (s ∷ ss) = rec_ok r s && recs_ok rs ss

-- number 12: kinds, order, zero fields, line numbers and mode as in section 3, and the index sound; known are the clauses' offsets
abbrev pub well_formed : ℕ → Bool → (ℕ → Bool) → List Rec → Bool
well_formed arity dynamic known rs = recs_ok (records (mode_of dynamic) 0 (parse rs)) rs && index_ok arity dynamic known (parse rs)
