-- Building: what a switch and a new line are made of (settings, tables, tags, buckets, entries), and the built index (document 01, section 3).
-- Assumes nothing.
use Rattle.std.specs.Prelude.{Bool, true, false, cond, List, [], ◌∷◌, ◌++◌, map, ℕ, zero, suc, ◌+◌, ◌-◌, ◌/◌, ◌%◌, ◌^◌, eqb, length}
use Rattle.std.specs.List.{filter}
use Rattle.std.proofs.Math.Option.{Option, none, some}
use Rattle.records.specs.declared.Rec.{Rec}
use Rattle.indexing_iter.specs.declared.Settings.{Settings}
use Rattle.indexing_iter.specs.declared.OptArgIndexKey.{OptArgIndexKey as Key}
use Rattle.indexing_iter.specs.declared.OptArgIndexKey.TheVariants.{List as ListKey}
use Rattle.indexing_iter.specs.Keys.{group_of, is_open, same}
use Rattle.indexing.specs.Lists.{distinct}
use Rattle.indexing.specs.Lines.{Ptr, ext, int, Entry, Table, switch, on_demand, dead, Choice, Line, Index, offs}
use Rattle.indexing_iter.specs.Clauses as Clauses

-- the settings (section 3) and the keys of the code (section 2): all that the layers above the key reader know of a predicate
pub record Program : Type 0 where
  -- section 3: the number of arguments
  pub arity : ℕ
  -- section 3, the mask: an argument that is never indexed on demand
  pub masked : ℕ → Bool
  -- section 3: lines are dynamic, not static
  pub dynamic : Bool
  -- section 3: an argument at which some clause has no key gets a dead table, not none
  pub extensible : Bool
  -- section 3: DefaultRetry and DefaultTrust for Retry and Trust
  pub non_counted : Bool
  -- section 2: the key of the clause at an offset, at an argument from 1 on
  pub key_of : ℕ → ℕ → Key

-- section 3: bit a - 1 of a mask, which is argument a's, is set
abbrev pub masked_at : ℕ → ℕ → Bool
masked_at mask a = eqb (mask / 2 ^ (a - 1) % 2) 1

-- section 3: a predicate by its settings and the keys of its clauses
abbrev pub program_by : Settings → (ℕ → ℕ → Key) → Program
program_by s keys = record {
  arity = s.arity;
  masked = masked_at s.mask;
  dynamic = s.dynamic;
  extensible = s.extensible;
  non_counted = s.non_counted;
  key_of = keys;
}

-- section 3: a predicate by its settings, code records and starts
abbrev pub program_of : (ℕ → ℕ) → Settings → List Rec → List ℕ → Program
program_of cls s rs starts = program_by s (Clauses.key_of cls rs starts)

-- section 3: a line's tables with one more in front, if there is one
abbrev pub cons_opt : Option Table → List Table → List Table
cons_opt none ts = ts
cons_opt (some t) ts = t ∷ ts

-- section 3: the offset of an external pointer, for a bucket of one clause where lines are not dynamic; any other bucket is a line
abbrev pub single : Bool → List ℕ → Option ℕ
single true os = none
single false [] = none
single false (o ∷ []) = some o
single false (o ∷ (o' ∷ os)) = none

-- section 3: the new lines with a bucket's line in front, unless its pointer is external
abbrev pub cons_line : Option ℕ → Line → List Line → List Line
cons_line none l ls = l ∷ ls
cons_line (some o) l ls = ls

-- section 3: a bucket's pointer, d the distance of the next new line
abbrev pub pointer : Option ℕ → ℕ → Ptr
pointer none d = int d
pointer (some o) d = ext o

-- section 3: the distance of the next new line after a bucket's
abbrev pub after : Option ℕ → ℕ → ℕ
after none d = suc d
after (some o) d = d

-- section 3: all clauses, with the tag z
abbrev pub initial : ℕ → List ℕ → List Choice
initial z [] = []
initial z (o ∷ os) = record { tag = z; offset = o } ∷ initial z os

module _ (P : Program) where
  -- section 3: the clauses of os without a key at argument a
  abbrev pub open_at : ℕ → List ℕ → List ℕ
  open_at a os = filter (λ o. is_open (P.key_of o a)) os

  -- section 3: the table for an unmasked argument a in a new line, by the clauses of the line that are open there
  abbrev pub new_table : ℕ → List ℕ → Option Table
  new_table a [] = some (on_demand a)
  new_table a (o ∷ os) = cond P.extensible (some (dead a (o ∷ os))) none

  -- section 3: the table for argument a in a new line of the clauses os, if there is one
  abbrev pub later_table : ℕ → List ℕ → Option Table
  later_table a os = cond (P.masked a) none (new_table a (open_at a os))

  -- section 3: the tables for n arguments from a on, in order
  abbrev pub later_tables : ℕ → ℕ → List ℕ → List Table
  later_tables zero a os = []
  later_tables (suc n) a os = cons_opt (later_table a os) (later_tables n (suc a) os)

  -- section 3, static tags behind the first: Retry, the last Trust
  abbrev pub tag_rest : List Choice → List Choice
  tag_rest [] = []
  tag_rest (c ∷ []) = record { tag = cond P.non_counted 5 4; offset = c.offset } ∷ []
  tag_rest (c ∷ (d ∷ ds)) = record { tag = cond P.non_counted 3 2; offset = c.offset } ∷ tag_rest (d ∷ ds)

  -- section 3, static tags: the first Try
  abbrev pub tag_static : List Choice → List Choice
  tag_static [] = []
  tag_static (c ∷ cs) = record { tag = 1; offset = c.offset } ∷ tag_rest cs

  -- the tags of a new line: static ones by section 3; a dynamic offset keeps its own (document 01, above section 1)
  abbrev pub retag : List Choice → List Choice
  retag cs = cond P.dynamic cs (tag_static cs)

  -- section 3: the line for a bucket of a switch on argument a
  abbrev pub new_line : ℕ → List Choice → Line
  new_line a cs = record { tables = later_tables (P.arity - a) (suc a) (offs cs); choices = retag cs }

  -- section 3: the keys that occur at argument a, by first clause
  abbrev pub keys_at : ℕ → List ℕ → List Key
  keys_at a os = distinct same (map (λ o. P.key_of o a) os)

  -- section 3, the groups of a switch: its literals
  abbrev pub literals : ℕ → List ℕ → List Key
  literals a os = filter (λ k. eqb 1 (group_of k)) (keys_at a os)

  -- section 3, the groups of a switch: its list, always there if dynamic
  abbrev pub lists : ℕ → List ℕ → List Key
  lists a os = cond P.dynamic (ListKey ∷ []) (filter (λ k. eqb 2 (group_of k)) (keys_at a os))

  -- section 3, the groups of a switch: its structures
  abbrev pub structures : ℕ → List ℕ → List Key
  structures a os = filter (λ k. eqb 3 (group_of k)) (keys_at a os)

  -- section 3: a key's bucket, as clauses
  abbrev pub bucket : ℕ → List ℕ → Key → List ℕ
  bucket a os k = filter (λ o. same (P.key_of o a) k) os

  -- section 3: a key's bucket, as offsets with tags
  abbrev pub bucket_of : ℕ → List Choice → Key → List Choice
  bucket_of a cs k = filter (λ c. same (P.key_of c.offset a) k) cs

  -- section 3: the offset of a bucket's external pointer, if it has one
  abbrev pub lone : List ℕ → Option ℕ
  lone os = single P.dynamic os

  -- section 3: each key with its bucket
  abbrev pub buckets : ℕ → List ℕ → List Key → List (Entry (List ℕ))
  buckets a os [] = []
  buckets a os (k ∷ ks) = record { key = k; to = bucket a os k } ∷ buckets a os ks

  -- section 3, a switch on argument a that is not stored: entries with buckets in place of pointers
  abbrev pub virtual : ℕ → List ℕ → List (Entry (List ℕ))
  virtual a os = buckets a os (literals a os) ++ (buckets a os (lists a os) ++ buckets a os (structures a os))

  -- section 3: the new lines of a group of keys
  abbrev pub lines_for : ℕ → List Choice → List Key → List Line
  lines_for a cs [] = []
  lines_for a cs (k ∷ ks) = cons_line (lone (offs (bucket_of a cs k))) (new_line a (bucket_of a cs k)) (lines_for a cs ks)

  -- section 3: the entries of a group of keys, d the distance of the first of its lines
  abbrev pub entries_for : ℕ → List Choice → ℕ → List Key → List (Entry Ptr)
  entries_for a cs d [] = []
  entries_for a cs d (k ∷ ks) =
      let one = lone (offs (bucket_of a cs k)) in
      record { key = k; to = pointer one d } ∷ entries_for a cs (after one d) ks

  -- section 3: the new lines of a switch, numbered list, structures, literals
  abbrev pub new_lines : ℕ → List Choice → List Line
  new_lines a cs = lines_for a cs (lists a (offs cs)) ++ (lines_for a cs (structures a (offs cs)) ++ lines_for a cs (literals a (offs cs)))

  -- section 3: the entries of a switch, literals, list, structures; d is the distance of the first new line
  abbrev pub new_entries : ℕ → List Choice → ℕ → List (Entry Ptr)
  new_entries a cs d =
      let at_str = d + length (lines_for a cs (lists a (offs cs))) in
      let at_lit = at_str + length (lines_for a cs (structures a (offs cs))) in
      entries_for a cs at_lit (literals a (offs cs)) ++ (entries_for a cs d (lists a (offs cs)) ++ entries_for a cs at_str (structures a (offs cs)))

  -- section 3, the index built on argument c of the clauses os: line 0 is the switch on c, whatever the mask says of c, its new lines numbered from 1 on,
  -- then the tables for the arguments above c, then all offsets, if dynamic with tag Z; the new lines follow
  unfoldable pub build : ℕ → List ℕ → Index
  build c os =
      let cs = retag (initial 7 os) in
      record { tables = switch c (new_entries c cs 1) ∷ later_tables (P.arity - c) (suc c) os; choices = cs } ∷ new_lines c cs
