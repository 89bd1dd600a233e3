-- The records of a switch's entries by columns are those of the switch that an expansion makes.
-- Assumes nothing.
use mathlib.Core.Path.{◌≡◌, refl, sym, ap, ap₂, ◌∙◌}
use Prim.Native.Nat.{ℕ, zero, suc, ◌+◌, ◌≤◌, ◌<◌}
use native.Mathlib.Nat.{add-zero}
use native.Mathlib.Omega.{arith}
use mathlib.Core.Bool.{Bool, true, false, cond}
use mathlib.Core.List.{List, [], ◌∷◌, ◌++◌, map}
use mathlib.Core.Option.{Option, none, some}
use Rattle.std.specs.List.{filter}
use lib.Dec.{eqb}
use lib.ListN.{length, get_or}
use Rattle.records.specs.declared.Rec.{Rec}
use Rattle.records.specs.Records.{rec_of}
use Rattle.indexing_iter.specs.Keys.{sort_of, arity_of, bits_of, group_of}
use Rattle.indexing_iter.specs.declared.OptArgIndexKey.{OptArgIndexKey as Key}
use Rattle.indexing_iter.specs.declared.OptArgIndexKey.TheVariants.{List as ListKey}
use Rattle.indexing.proofs.BridgeColumns.{InRange, head-sort, head-arity, get_or-heads, get_d_bits}
use Rattle.indexing.proofs.BridgeGroups.{clauses, key, heads, bits, leaders, keys_to, leaders-count, lone_is, lines-to, opens-leads}
use Rattle.indexing.proofs.BridgeGroups.{group-keys, lists-is, group_lines_lem, list-lines, empty-lone}
use Rattle.indexing.proofs.BridgeLists.{map-append}
use Rattle.indexing.specs.Build.{Program, cons_line, pointer, after, open_at, new_line, keys_at, literals, lists, structures, bucket_of, lone}
use Rattle.indexing.specs.Build.{lines_for, entries_for, new_entries}
use Rattle.indexing.specs.Columns.{needs_line, opens_bucket, lines_to, empty_list, list_lines, pointer_to, entry_of, entry_at, entries, list_entries, switch_recs}
use Rattle.indexing.specs.Lines.{Ptr, Entry, Choice, Line, switch, offs, word, entry_rec, table_recs}
use Rattle.indexing.specs.Upto.{list_to}

-- the entries of two runs of keys: the second's lines stand behind the first's
pub entries-append : (P : Program) (a : ℕ) (cs : List Choice) (d : ℕ) (xs ys : List Key)
    → entries_for P a cs d (xs ++ ys) ≡ entries_for P a cs d xs ++ entries_for P a cs (d + length (lines_for P a cs xs)) ys
entries-append P a cs d [] ys = ap (λ (x : ℕ). entries_for P a cs x ys) (sym (add-zero d))
entries-append P a cs d (k ∷ xs) ys = go (lone P (offs (bucket_of P a cs k))) (new_line P a (bucket_of P a cs k)) (λ e. entries-append P a cs e xs ys)
  where
    go : (x : Option ℕ) (l : Line) → ((e : ℕ) → entries_for P a cs e (xs ++ ys) ≡ entries_for P a cs e xs ++ entries_for P a cs (e + length (lines_for P a cs xs)) ys)
        → record { key = k; to = pointer x d } ∷ entries_for P a cs (after x d) (xs ++ ys)
        ≡ record { key = k; to = pointer x d } ∷ (entries_for P a cs (after x d) xs ++ entries_for P a cs (d + length (cons_line x l (lines_for P a cs xs))) ys)
    go none l ih =
        let e : suc d + length (lines_for P a cs xs) ≡ d + suc (length (lines_for P a cs xs)) = omega arith in
        ap (λ (es : List (Entry Ptr)). record { key = k; to = pointer none d } ∷ es)
        (ih (suc d) ∙ ap (λ (x : ℕ). entries_for P a cs (suc d) xs ++ entries_for P a cs x ys) e)
    go (some o) l ih = ap (λ (es : List (Entry Ptr)). record { key = k; to = pointer (some o) d } ∷ es) (ih d)

module _ (P : Program) (a : ℕ) (cs : List Choice) (ranged : (i : ℕ) → i < clauses P a cs → InRange (key P a cs i)) where
  entry-turn : (g d i : ℕ) → i < clauses P a cs
      → map entry_rec (entries_for P a cs d (cond (opens_bucket (leaders P a cs) (heads P a cs) g i) (key P a cs i ∷ []) []))
      ≡ entry_at (leaders P a cs) (heads P a cs) (bits P a cs) (offs cs) P.dynamic g d i
  unfolding entry_at pointer_to
  entry-turn g d i h = go (opens_bucket (leaders P a cs) (heads P a cs) g i) refl
    where
      to : (b : Bool) → word (pointer (cond b none (some (get_or (offs cs) i 0))) d) ≡ cond b (2147483648 + d) (get_or (offs cs) i 0)
      to true = refl
      to false = refl

      go : (b : Bool) → opens_bucket (leaders P a cs) (heads P a cs) g i ≡ b
          → map entry_rec (entries_for P a cs d (cond b (key P a cs i ∷ []) []))
          ≡ cond b (entry_of (leaders P a cs) (heads P a cs) (bits P a cs) (offs cs) P.dynamic d i ∷ []) []
      go true e =
          rw (
            get_or-heads P.key_of (offs cs) a i h,
            get_d_bits P.key_of (offs cs) a i h,
            head-sort (key P a cs i) (ranged i h),
            head-arity (key P a cs i) (ranged i h),
            lone_is P a cs ranged i h (opens-leads (leaders P a cs) (heads P a cs) g i e),
          )
          (ap (λ (w : ℕ). rec_of 5 (sort_of (key P a cs i)) (arity_of (key P a cs i)) w (bits_of (key P a cs i)) ∷ []) (to (needs_line (leaders P a cs) P.dynamic i)))
      go false e = refl

  -- the entry of clause i, if it opens a bucket of group g, d the distance of the group's first line
  abbrev turn_at : ℕ → ℕ → ℕ → List Rec
  turn_at g d i = entry_at (leaders P a cs) (heads P a cs) (bits P a cs) (offs cs) P.dynamic g (d + lines_to (leaders P a cs) (heads P a cs) P.dynamic g i) i

  entries-to : (g d m : ℕ) → m ≤ clauses P a cs
      → map entry_rec (entries_for P a cs d (keys_to P a cs g m))
      ≡ list_to (turn_at g d) m
  unfolding list_to
  entries-to g d zero h = refl
  entries-to g d (suc m) h =
      let last : List Key = cond (opens_bucket (leaders P a cs) (heads P a cs) g m) (key P a cs m ∷ []) [] in
      let front : List Key = keys_to P a cs g m in
      ap (map entry_rec) (entries-append P a cs d front last)
      ∙ map-append entry_rec (entries_for P a cs d front) (entries_for P a cs (d + length (lines_for P a cs front)) last)
      ∙ ap₂ (λ (x y : List Rec). x ++ y) (entries-to g d m (omega arith))
      (ap (λ (x : ℕ). map entry_rec (entries_for P a cs (d + x) last)) (lines-to P a cs ranged g m (omega arith))
      ∙ entry-turn g (d + lines_to (leaders P a cs) (heads P a cs) P.dynamic g m) m (omega arith))

  -- the entries of a group's keys
  keys-entries : (g d : ℕ) → map entry_rec (entries_for P a cs d (keys_to P a cs g (clauses P a cs)))
      ≡ entries (leaders P a cs) (heads P a cs) (bits P a cs) (offs cs) P.dynamic g d
  unfolding entries
  keys-entries g d = entries-to g d (clauses P a cs) (omega arith) ∙ ap (list_to (turn_at g d)) (sym (leaders-count P a cs))

  module _ (keyed : open_at P a (offs cs) ≡ []) where
    pub group-entries : (g d : ℕ) → map entry_rec (entries_for P a cs d (filter (λ k. eqb g (group_of k)) (keys_at P a (offs cs))))
        ≡ entries (leaders P a cs) (heads P a cs) (bits P a cs) (offs cs) P.dynamic g d
    group-entries g d = ap (λ (ks : List Key). map entry_rec (entries_for P a cs d ks)) (group-keys P a cs ranged keyed g) ∙ keys-entries g d

    pub list-entries : (d : ℕ) → map entry_rec (entries_for P a cs d (lists P a (offs cs)))
        ≡ list_entries (leaders P a cs) (heads P a cs) (bits P a cs) (offs cs) P.dynamic d
    unfolding list_entries
    list-entries d =
        ap (λ (ks : List Key). map entry_rec (entries_for P a cs d ks)) (lists-is P a cs ranged keyed)
        ∙ go (empty_list (leaders P a cs) (heads P a cs) P.dynamic) refl
      where
        go : (b : Bool) → empty_list (leaders P a cs) (heads P a cs) P.dynamic ≡ b
            → map entry_rec (entries_for P a cs d (cond b (ListKey ∷ []) (keys_to P a cs 2 (clauses P a cs))))
            ≡ cond b (rec_of 5 5 0 (2147483648 + d) 0 ∷ []) (entries (leaders P a cs) (heads P a cs) (bits P a cs) (offs cs) P.dynamic 2 d)
        go true e = ap (λ (x : Option ℕ). rec_of 5 5 0 (word (pointer x d)) 0 ∷ []) (empty-lone P a cs ranged keyed e (offs (bucket_of P a cs ListKey)))
        go false e = keys-entries 2 d

    -- the switch's records by columns are those of the switch of specs/Expand
    pub bridge-entries : (d : ℕ)
        → switch_recs (leaders P a cs) (heads P a cs) (bits P a cs) (offs cs) P.dynamic a d ≡ table_recs (switch a (new_entries P a cs d))
    unfolding switch_recs
    bridge-entries d = ap (λ (rs : List Rec). rec_of 2 0 a 0 0 ∷ rs) (sym (made ∙ placed))
      where
        at_str : ℕ
        at_str = d + length (lines_for P a cs (lists P a (offs cs)))

        at_lit : ℕ
        at_lit = at_str + length (lines_for P a cs (structures P a (offs cs)))

        -- the entries of the three groups, by columns
        group : ℕ → ℕ → List Rec
        group g e = entries (leaders P a cs) (heads P a cs) (bits P a cs) (offs cs) P.dynamic g e

        its-list : List Rec
        its-list = list_entries (leaders P a cs) (heads P a cs) (bits P a cs) (offs cs) P.dynamic d

        made : map entry_rec (new_entries P a cs d) ≡ group 1 at_lit ++ (its-list ++ group 3 at_str)
        made =
            map-append entry_rec (entries_for P a cs at_lit (literals P a (offs cs)))
            (entries_for P a cs d (lists P a (offs cs)) ++ entries_for P a cs at_str (structures P a (offs cs)))
            ∙ ap₂ (λ (x y : List Rec). x ++ y) (group-entries 1 at_lit)
            (map-append entry_rec (entries_for P a cs d (lists P a (offs cs))) (entries_for P a cs at_str (structures P a (offs cs)))
            ∙ ap₂ (λ (x y : List Rec). x ++ y) (list-entries d) (group-entries 3 at_str))

        -- where the structures' lines and the literals' lines begin
        structures-at : ℕ
        structures-at = d + list_lines (leaders P a cs) (heads P a cs) P.dynamic

        placed : group 1 at_lit ++ (its-list ++ group 3 at_str)
            ≡ group 1 (structures-at + lines_to (leaders P a cs) (heads P a cs) P.dynamic 3 (length (leaders P a cs))) ++ (its-list ++ group 3 structures-at)
        placed = ap₂ (λ (x y : ℕ). group 1 (d + x + y) ++ (its-list ++ group 3 (d + x))) (list-lines P a cs ranged keyed) (group_lines_lem P a cs ranged keyed 3)
