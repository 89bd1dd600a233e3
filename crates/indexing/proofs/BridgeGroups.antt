-- The keys, buckets and lines of a switch (specs/Build) by the columns of its line's clauses (specs/Columns).
-- Assumes nothing.
use mathlib.Core.Path.{◌≡◌, refl, sym, ap, ap₂, ◌∙◌}
use Prim.Native.Nat.{ℕ, zero, suc, ◌+◌, ◌≤◌, ◌<◌}
use native.Mathlib.Decide.{ℕ_discrete, dec_le}
use native.Mathlib.Omega.{arith}
use mathlib.Core.Bool.{Bool, true, false, cond, not}
use mathlib.Core.List.{List, [], ◌∷◌, ◌++◌, map}
use mathlib.Core.Option.{Option, none, some}
use Rattle.std.specs.List.{filter}
use Rattle.std.proofs.lemmas.Bool.{false≢true, le-leb, lt-leb, ne_eqb}
use lib.Dec.{eqb, leb}
use lib.ListN.{length, get_or, length-append}
use Rattle.indexing_iter.specs.Keys.{group_of, is_open, same}
use Rattle.indexing_iter.specs.declared.OptArgIndexKey.{OptArgIndexKey as Key}
use Rattle.indexing_iter.specs.declared.OptArgIndexKey.TheVariants.{List as ListKey, Literal, None, Structure}
use Rattle.indexing.specs.Expanding.{heads_at, bits_at, leaders_at}
use Rattle.indexing.proofs.BridgeColumns.{InRange, head-group, key_at, length-leaders, get_or-heads, leads-is, member_is}
use Rattle.indexing.proofs.BridgeLists.{count-any, list-cong, list-each, length_some, list-lone, map-list}
use Rattle.indexing.proofs.BridgeLists.{keep-list, keep-places, keep-neither, keep-within, distinct-each}
use Rattle.indexing.proofs.Expand.{offs-bucket}
use Rattle.indexing_iter.proofs.SameKeys.{same_refl}
use Rattle.indexing.proofs.Lists.{keep-empty}
use Rattle.indexing.specs.Build.{Program, single, cons_line, open_at, new_line, keys_at, lists, bucket, bucket_of, lone, lines_for}
use Rattle.indexing.specs.Columns.{group_of_head, member, leads, size_of, needs_line, opens_bucket, opens_line, lines_to, empty_list, list_lines}
use Rattle.indexing.specs.Lines.{Choice, Line, offs}
use Rattle.std.specs.Int.{from_bool}
use Rattle.indexing.specs.Lists.{distinct}
use Rattle.indexing.specs.Upto.{count_to, any_to, list_to}

-- ---- choices and their offsets

pub length-offs : (cs : List Choice) → length (offs cs) ≡ length cs
length-offs [] = refl
length-offs (c ∷ cs) = ap suc (length-offs cs)

-- ---- tests

pub eqb_swap : (m n : ℕ) → eqb m n ≡ eqb n m
eqb_swap m n = go (ℕ_discrete m n)
  where
    go : Dec (m ≡ n) → eqb m n ≡ eqb n m
    go (yes e) = rw e
    go (no e) = ne_eqb _ _ e ∙ sym (ne_eqb _ _ (λ x. e (sym x)))

-- ---- clauses with a key at the argument

-- where no clause is open, each has a key
pub all-keyed : (P : Program) (a : ℕ) (os : List ℕ) → open_at P a os ≡ [] → (i : ℕ) → i < length os → is_open (key_at P.key_of os a i) ≡ false
all-keyed P a [] e i h = absurd (omega arith)
all-keyed P a (o ∷ os) e zero h = (keep-empty (λ o. is_open (P.key_of o a)) o os e).0
all-keyed P a (o ∷ os) e (suc i) h = all-keyed P a os (keep-empty (λ o. is_open (P.key_of o a)) o os e).1 i (omega arith)

-- ---- the list key

group-two : (k : Key) → eqb 2 (group_of k) ≡ true → k ≡ ListKey
group-two None e = absurd (false≢true e)
group-two (Literal s b) e = absurd (false≢true e)
group-two (Structure n f) e = absurd (false≢true e)
group-two ListKey e = refl

-- of the distinct keys of group 2 there is one, if any
pub list-group : (ks : List Key) → 1 ≤ length (filter (λ k. eqb 2 (group_of k)) (distinct same ks)) → filter (λ k. eqb 2 (group_of k)) (distinct same ks) ≡ ListKey ∷ []
list-group [] h = absurd (omega arith)
list-group (x ∷ xs) h = go x h (list-group xs)
  where
    -- behind a key of another group
    other : (y : Key) → not (same y ListKey) ≡ true
        → filter (λ k. eqb 2 (group_of k)) (filter (λ k. not (same y k)) (distinct same xs)) ≡ filter (λ k. eqb 2 (group_of k)) (distinct same xs)
    other y e = keep-within (λ k. eqb 2 (group_of k)) (λ k. not (same y k)) (distinct same xs) (λ k f. ap (λ (z : Key). not (same y z)) (group-two k f) ∙ e)

    go : (y : Key) → 1 ≤ length (filter (λ k. eqb 2 (group_of k)) (y ∷ filter (λ k. not (same y k)) (distinct same xs)))
        → (1 ≤ length (filter (λ k. eqb 2 (group_of k)) (distinct same xs)) → filter (λ k. eqb 2 (group_of k)) (distinct same xs) ≡ ListKey ∷ [])
        → filter (λ k. eqb 2 (group_of k)) (y ∷ filter (λ k. not (same y k)) (distinct same xs)) ≡ ListKey ∷ []
    go None h ih = other None refl ∙ ih (omega (arith, ap length (other None refl)))
    go (Literal s b) h ih = other (Literal s b) refl ∙ ih (omega (arith, ap length (other (Literal s b) refl)))
    go (Structure n f) h ih = other (Structure n f) refl ∙ ih (omega (arith, ap length (other (Structure n f) refl)))
    go ListKey h ih = ap (λ (l : List Key). ListKey ∷ l)
        (keep-neither (λ k. eqb 2 (group_of k)) (λ k. not (same ListKey k)) (distinct same xs) (λ k f. ap (λ (z : Key). not (same ListKey z)) (group-two k f)))

-- ---- external pointers and lines

pub single-two : (os : List ℕ) → 2 ≤ length os → single false os ≡ none
single-two [] h = absurd (omega arith)
single-two (o ∷ []) h = absurd (omega arith)
single-two (o ∷ (q ∷ os)) h = refl

-- the lines of two runs of keys
pub lines-append : (P : Program) (a : ℕ) (cs : List Choice) (xs ys : List Key) → lines_for P a cs (xs ++ ys) ≡ lines_for P a cs xs ++ lines_for P a cs ys
lines-append P a cs [] ys = refl
lines-append P a cs (k ∷ xs) ys = go (lone P (offs (bucket_of P a cs k))) (new_line P a (bucket_of P a cs k)) (lines-append P a cs xs ys)
  where
    go : (x : Option ℕ) (l : Line) → lines_for P a cs (xs ++ ys) ≡ lines_for P a cs xs ++ lines_for P a cs ys
        → cons_line x l (lines_for P a cs (xs ++ ys)) ≡ cons_line x l (lines_for P a cs xs) ++ lines_for P a cs ys
    go none l ih = ap (λ (ls : List Line). l ∷ ls) ih
    go (some o) l ih = ih

pub opens-leads : (leaders heads : List ℕ) (g i : ℕ) → opens_bucket leaders heads g i ≡ true → leads leaders i ≡ true
unfolding opens_bucket
opens-leads leaders heads g i e = go (leads leaders i) e
  where
    go : (b : Bool) → cond b (eqb (group_of_head (get_or heads i 0)) g) false ≡ true → b ≡ true
    go true e = refl
    go false e = absurd (false≢true e)

pub empty-dynamic : (leaders heads : List ℕ) (d : Bool) → empty_list leaders heads d ≡ true → d ≡ true
unfolding empty_list
empty-dynamic leaders heads true e = refl
empty-dynamic leaders heads false e = absurd (false≢true e)

-- ---- a line's clauses at an argument

module _ (P : Program) (a : ℕ) (cs : List Choice) where
  -- how many clauses there are, the key of the one at place i, and the columns
  abbrev pub clauses : ℕ
  clauses = length (offs cs)

  abbrev pub key : ℕ → Key
  key = key_at P.key_of (offs cs) a

  abbrev pub heads : List ℕ
  heads = heads_at P.key_of (offs cs) a

  abbrev pub bits : List ℕ
  bits = bits_at P.key_of (offs cs) a

  abbrev pub leaders : List ℕ
  leaders = leaders_at P.key_of (offs cs) a

  -- the keys of the buckets of group g that the clauses below m open
  abbrev pub keys_to : ℕ → ℕ → List Key
  keys_to g m = list_to (λ i. cond (opens_bucket leaders heads g i) (key i ∷ []) []) m

  pub leaders-count : length leaders ≡ clauses
  leaders-count = length-leaders P.key_of (offs cs) a

  keys-each : map (λ o. P.key_of o a) (offs cs) ≡ list_to (λ i. key i ∷ []) clauses
  keys-each = ap (map (λ o. P.key_of o a)) (list-each (offs cs) 0) ∙ map-list (λ o. P.key_of o a) (λ i. get_or (offs cs) i 0 ∷ []) clauses

  module _ (ranged : (i : ℕ) → i < clauses → InRange (key i)) where
    -- the keys by first clause are those of the clauses that lead
    pub keys-at : keys_at P a (offs cs) ≡ list_to (λ i. cond (leads leaders i) (key i ∷ []) []) clauses
    keys-at =
        ap (distinct same) keys-each
        ∙ distinct-each same key clauses
        ∙ list-cong (λ i. cond (any_to (λ j. same (key j) (key i)) i) [] (key i ∷ [])) (λ i. cond (leads leaders i) (key i ∷ []) []) clauses turn
      where
        flip : (b : Bool) (ks : List Key) → cond b [] ks ≡ cond (not b) ks []
        flip true ks = refl
        flip false ks = refl

        turn : (i : ℕ) → i < clauses → cond (any_to (λ j. same (key j) (key i)) i) [] (key i ∷ []) ≡ cond (leads leaders i) (key i ∷ []) []
        turn i h =
            flip (any_to (λ j. same (key j) (key i)) i) (key i ∷ [])
            ∙ ap (λ (b : Bool). cond b (key i ∷ []) []) (sym (leads-is P.key_of (offs cs) a ranged i h))

    -- the clauses of the bucket that clause i leads
    pub bucket-is : (i : ℕ) → i < clauses → leads leaders i ≡ true
        → bucket P a (offs cs) (key i) ≡ list_to (λ j. cond (member leaders i j) (get_or (offs cs) j 0 ∷ []) []) clauses
    bucket-is i h l =
        keep-places (λ o. same (P.key_of o a) (key i)) (offs cs) 0
        ∙ list-cong (λ j. cond (same (key j) (key i)) (get_or (offs cs) j 0 ∷ []) []) (λ j. cond (member leaders i j) (get_or (offs cs) j 0 ∷ []) []) clauses
        (λ j k. ap (λ (b : Bool). cond b (get_or (offs cs) j 0 ∷ []) []) (sym (member_is P.key_of (offs cs) a ranged i j h k l)))

    pub size_is : (i : ℕ) → i < clauses → leads leaders i ≡ true → size_of leaders i ≡ length (bucket P a (offs cs) (key i))
    unfolding size_of
    size_is i h l =
        ap (count_to (member leaders i)) leaders-count
        ∙ sym (length_some (member leaders i) (λ j. get_or (offs cs) j 0) clauses)
        ∙ ap length (sym (bucket-is i h l))

    -- a bucket is external where it needs no line, and then its one clause is the one that leads it
    pub lone_is : (i : ℕ) → i < clauses → leads leaders i ≡ true
        → lone P (offs (bucket_of P a cs (key i))) ≡ cond (needs_line leaders P.dynamic i) none (some (get_or (offs cs) i 0))
    unfolding needs_line
    lone_is i h l = ap (lone P) (offs-bucket P a (key i) cs) ∙ go P.dynamic
      where
        mine : member leaders i i ≡ true
        mine = member_is P.key_of (offs cs) a ranged i i h h l ∙ same_refl (key i)

        static : Dec (2 ≤ size_of leaders i) → single false (bucket P a (offs cs) (key i)) ≡ cond (leb 2 (size_of leaders i)) none (some (get_or (offs cs) i 0))
        static (yes q) = rw (le-leb 2 (size_of leaders i) q) (single-two (bucket P a (offs cs) (key i)) (omega (arith, size_is i h l)))
        static (no q) =
            let e : bucket P a (offs cs) (key i) ≡ get_or (offs cs) i 0 ∷ [] =
            bucket-is i h l
            ∙ list-lone (λ j. cond (member leaders i j) (get_or (offs cs) j 0 ∷ []) []) clauses i (get_or (offs cs) i 0) h
            (ap (λ (b : Bool). cond b (get_or (offs cs) i 0 ∷ []) []) mine)
            (omega (arith, size_is i h l, ap length (bucket-is i h l))) in
            rw (lt-leb 2 (size_of leaders i) (omega arith)) (ap (single false) e)

        go : (b : Bool) → single b (bucket P a (offs cs) (key i)) ≡ cond (cond b true (leb 2 (size_of leaders i))) none (some (get_or (offs cs) i 0))
        go true = refl
        go false = static (dec_le 2 (size_of leaders i))

    -- ---- lines by groups

    line-turn : (g m : ℕ) → m < clauses
        → length (lines_for P a cs (cond (opens_bucket leaders heads g m) (key m ∷ []) [])) ≡ from_bool (opens_line leaders heads P.dynamic g m)
    unfolding opens_line
    line-turn g m h = go (opens_bucket leaders heads g m) refl
      where
        made : (b : Bool) → length (cons_line (cond b none (some (get_or (offs cs) m 0))) (new_line P a (bucket_of P a cs (key m))) []) ≡ from_bool b
        made true = refl
        made false = refl

        go : (b : Bool) → opens_bucket leaders heads g m ≡ b
            → length (lines_for P a cs (cond b (key m ∷ []) [])) ≡ from_bool (cond b (needs_line leaders P.dynamic m) false)
        go true e = rw (lone_is m h (opens-leads leaders heads g m e)) (made (needs_line leaders P.dynamic m))
        go false e = refl

    -- the lines of the keys that the clauses below m open
    pub lines-to : (g m : ℕ) → m ≤ clauses → length (lines_for P a cs (keys_to g m)) ≡ lines_to leaders heads P.dynamic g m
    unfolding lines_to count_to list_to
    lines-to g zero h = refl
    lines-to g (suc m) h =
        ap length (lines-append P a cs (keys_to g m) (cond (opens_bucket leaders heads g m) (key m ∷ []) []))
        ∙ length-append (lines_for P a cs (keys_to g m)) (lines_for P a cs (cond (opens_bucket leaders heads g m) (key m ∷ []) []))
        ∙ ap₂ (λ (x y : ℕ). x + y) (lines-to g m (omega arith)) (line-turn g m (omega arith))

    module _ (keyed : open_at P a (offs cs) ≡ []) where
      -- the keys of a group, by first clause
      pub group-keys : (g : ℕ) → filter (λ k. eqb g (group_of k)) (keys_at P a (offs cs)) ≡ keys_to g clauses
      unfolding opens_bucket
      group-keys g =
          ap (filter (λ k. eqb g (group_of k))) keys-at
          ∙ keep-list (λ k. eqb g (group_of k)) (λ i. cond (leads leaders i) (key i ∷ []) []) clauses
          ∙ list-cong (λ i. filter (λ k. eqb g (group_of k)) (cond (leads leaders i) (key i ∷ []) []))
          (λ i. cond (cond (leads leaders i) (eqb (group_of_head (get_or heads i 0)) g) false) (key i ∷ []) []) clauses turn
        where
          turn : (i : ℕ) → i < clauses
              → filter (λ k. eqb g (group_of k)) (cond (leads leaders i) (key i ∷ []) [])
              ≡ cond (cond (leads leaders i) (eqb (group_of_head (get_or heads i 0)) g) false) (key i ∷ []) []
          turn i h = go (leads leaders i)
            where
              its : group_of_head (get_or heads i 0) ≡ group_of (key i)
              its = ap group_of_head (get_or-heads P.key_of (offs cs) a i h) ∙ head-group (key i) (ranged i h) (all-keyed P a (offs cs) keyed i h)

              go : (b : Bool) → filter (λ k. eqb g (group_of k)) (cond b (key i ∷ []) [])
                  ≡ cond (cond b (eqb (group_of_head (get_or heads i 0)) g) false) (key i ∷ []) []
              go true =
                  ap (λ (b : Bool). cond b (key i ∷ []) []) (eqb_swap g (group_of (key i)) ∙ ap (λ (x : ℕ). eqb x g) (sym its))
              go false = refl

      -- the list group: a line of its own in a dynamic switch without a list, else the keys of group 2
      pub lists-is : lists P a (offs cs) ≡ cond (empty_list leaders heads P.dynamic) (ListKey ∷ []) (keys_to 2 clauses)
      unfolding empty_list
      lists-is = ap (cond P.dynamic (ListKey ∷ [])) (group-keys 2) ∙ go P.dynamic
        where
          some-list : any_to (opens_bucket leaders heads 2) (length leaders) ≡ true → ListKey ∷ [] ≡ keys_to 2 clauses
          some-list e =
              sym (list-group (map (λ o. P.key_of o a) (offs cs)) (omega (
                arith,
                ap length (group-keys 2),
                length_some (opens_bucket leaders heads 2) key clauses,
                count-any (opens_bucket leaders heads 2) clauses (ap (any_to (opens_bucket leaders heads 2)) (sym leaders-count) ∙ e),
              )))
              ∙ group-keys 2

          dynamic : (b : Bool) → any_to (opens_bucket leaders heads 2) (length leaders) ≡ b → ListKey ∷ [] ≡ cond (not b) (ListKey ∷ []) (keys_to 2 clauses)
          dynamic true e = some-list e
          dynamic false e = refl

          go : (b : Bool) → cond b (ListKey ∷ []) (keys_to 2 clauses)
              ≡ cond (cond b (not (any_to (opens_bucket leaders heads 2) (length leaders))) false) (ListKey ∷ []) (keys_to 2 clauses)
          go true = dynamic (any_to (opens_bucket leaders heads 2) (length leaders)) refl
          go false = refl

      pub group_lines_lem : (g : ℕ)
          → length (lines_for P a cs (filter (λ k. eqb g (group_of k)) (keys_at P a (offs cs)))) ≡ lines_to leaders heads P.dynamic g (length leaders)
      group_lines_lem g =
          ap (λ (ks : List Key). length (lines_for P a cs ks)) (group-keys g)
          ∙ lines-to g clauses (omega arith)
          ∙ ap (lines_to leaders heads P.dynamic g) (sym leaders-count)

      -- a switch without a list has its own line for it only if it is dynamic, and then no bucket is external
      pub empty-lone : empty_list leaders heads P.dynamic ≡ true → (os : List ℕ) → lone P os ≡ none
      empty-lone e os = ap (λ (b : Bool). single b os) (empty-dynamic leaders heads P.dynamic e)

      pub list-lines : length (lines_for P a cs (lists P a (offs cs))) ≡ list_lines leaders heads P.dynamic
      unfolding list_lines
      list-lines = ap (λ (ks : List Key). length (lines_for P a cs ks)) lists-is ∙ go (empty_list leaders heads P.dynamic) refl
        where
          go : (b : Bool) → empty_list leaders heads P.dynamic ≡ b
              → length (lines_for P a cs (cond b (ListKey ∷ []) (keys_to 2 clauses))) ≡ cond b 1 (lines_to leaders heads P.dynamic 2 (length leaders))
          go true e = ap (λ (x : Option ℕ). length (cons_line x (new_line P a (bucket_of P a cs ListKey)) [])) (empty-lone e (offs (bucket_of P a cs ListKey)))
          go false e = lines-to 2 clauses (omega arith) ∙ ap (lines_to leaders heads P.dynamic 2) (sym leaders-count)
