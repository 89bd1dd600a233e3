-- A switch that is not stored: the entries of the call key's group, and what is followed.
-- Assumes nothing.
use mathlib.Core.Path.{◌≡◌, refl, sym, ap, ap₂, ◌∙◌}
use mathlib.Core.Bool.{Bool, true, false, cond, ◌&&◌, ◌||◌}
use mathlib.Core.List.{List, [], ◌∷◌, ◌++◌, map, append-nil}
use mathlib.Core.Option.{Option, none, some}
use Prim.Native.Nat.{ℕ, suc, ◌<◌}
use native.Mathlib.Omega.{arith}
use Rattle.std.specs.List.{filter, list_all, list_any}
use Rattle.std.proofs.lemmas.Bool.{and_parts, both_ways, eq-eqb, eqb-false, eqb-true, false≢true, le-ltb, lt-ltb, ne_eqb, true≢false}
use Rattle.std.proofs.lemmas.List.Elements.{filter-append, filter_agree}
use Rattle.std.proofs.lemmas.List.Folds.{list_all-map}
use lib.Dec.{eqb, ltb}
use lib.ListN.{length, drop, get_or}
use Rattle.indexing_iter.specs.declared.OptArgIndexKey.{OptArgIndexKey as Key}
use Rattle.indexing_iter.specs.declared.OptArgIndexKey.TheVariants.{None, Literal, Structure, List as ListKey}
use Rattle.indexing_iter.specs.Keys.{group_of, is_open, same}
use Rattle.indexing_iter.proofs.SameKeys.{same-eq, same_refl}
use Rattle.indexing.specs.Lists.{distinct}
use Rattle.indexing.specs.Lines.{Entry}
use Rattle.indexing.specs.Build.{Program, single, keys_at, literals, lists, structures, bucket, lone, buckets, virtual}
use Rattle.indexing.proofs.BridgeLists.{keep-neither, keep-within}
use Rattle.indexing_scan.specs.Walk.{equal, marked, pick, choose, stop, goto, unstored, enter}
use Rattle.indexing_scan.specs.Walk.{follow_new}
use Rattle.indexing_scan.specs.Unstored.{like_to, all_same}
use Rattle.indexing_scan.proofs.KeptLaws.{keep_all, every-kept, every-same, keep-map, any-map, keep-distinct, any-distinct, one_key, more-keys}

-- ---- the entries of the call key's group

-- the numbers of two groups differ
groups : (g h : ℕ) → eqb g h ≡ false → (n : ℕ) → eqb g n ≡ true → eqb h n ≡ false
groups g h e n f = ne_eqb h n (λ x. eqb-false g h e (eqb-true g n f ∙ sym x))

-- the list's key is told by its group
list-group : (k : Key) → same k ListKey ≡ eqb 2 (group_of k)
list-group None = refl
list-group (Literal s b) = refl
list-group (Structure n f) = refl
list-group ListKey = refl

module _ (P : Program) (a : ℕ) (os : List ℕ) where
  -- the keys of group g that are in the switch
  group_keys : ℕ → List Key
  group_keys g = filter (λ k. eqb g (group_of k)) (keys_at P a os)

  keep-buckets : (p : Key → Bool) (ks : List Key) → filter (λ e. p e.key) (buckets P a os ks) ≡ buckets P a os (filter p ks)
  keep-buckets p [] = refl
  keep-buckets p (k ∷ ks) = go (p k) (keep-buckets p ks)
    where
      go : (b : Bool) → filter (λ e. p e.key) (buckets P a os ks) ≡ buckets P a os (filter p ks)
          → cond b (record { key = k; to = bucket P a os k } ∷ filter (λ e. p e.key) (buckets P a os ks)) (filter (λ e. p e.key) (buckets P a os ks))
          ≡ buckets P a os (cond b (k ∷ filter p ks) (filter p ks))
      go true ih = ap (λ (l : List (Entry (List ℕ))). record { key = k; to = bucket P a os k } ∷ l) ih
      go false ih = ih

  -- of the entries of a switch, those whose key passes a test
  keep-virtual : (p : Key → Bool) → filter (λ e. p e.key) (virtual P a os)
      ≡ buckets P a os (filter p (literals P a os)) ++ (buckets P a os (filter p (lists P a os)) ++ buckets P a os (filter p (structures P a os)))
  keep-virtual p =
      filter-append (λ e. p e.key) (buckets P a os (literals P a os)) (buckets P a os (lists P a os) ++ buckets P a os (structures P a os))
      ∙ ap₂ (λ (x y : List (Entry (List ℕ))). x ++ y) (keep-buckets p (literals P a os))
      (filter-append (λ e. p e.key) (buckets P a os (lists P a os)) (buckets P a os (structures P a os))
      ∙ ap₂ (λ (x y : List (Entry (List ℕ))). x ++ y) (keep-buckets p (lists P a os)) (keep-buckets p (structures P a os)))

  -- a group keeps itself, and nothing of another
  own-group : (g : ℕ) → filter (λ k. eqb g (group_of k)) (group_keys g) ≡ group_keys g
  unfolding group_keys
  own-group g = keep-within (λ k. eqb g (group_of k)) (λ k. eqb g (group_of k)) (keys_at P a os) (λ k e. e)

  other-group : (g h : ℕ) → eqb g h ≡ false → filter (λ k. eqb g (group_of k)) (group_keys h) ≡ []
  unfolding group_keys
  other-group g h e = keep-neither (λ k. eqb g (group_of k)) (λ k. eqb h (group_of k)) (keys_at P a os) (λ k f. groups g h e (group_of k) f)

  other-list : (g : ℕ) → eqb g 2 ≡ false → filter (λ k. eqb g (group_of k)) (lists P a os) ≡ []
  unfolding group_keys
  other-list g e = go P.dynamic
    where
      go : (b : Bool) → filter (λ k. eqb g (group_of k)) (cond b (ListKey ∷ []) (filter (λ k. eqb 2 (group_of k)) (keys_at P a os))) ≡ []
      go true = rw e refl
      go false = other-group g 2 e

  own-list : filter (λ k. eqb 2 (group_of k)) (lists P a os) ≡ lists P a os
  unfolding group_keys
  own-list = go P.dynamic
    where
      go : (b : Bool) → filter (λ k. eqb 2 (group_of k)) (cond b (ListKey ∷ []) (filter (λ k. eqb 2 (group_of k)) (keys_at P a os)))
          ≡ cond b (ListKey ∷ []) (filter (λ k. eqb 2 (group_of k)) (keys_at P a os))
      go true = refl
      go false = own-group 2

  -- the entries of a group other than the list's, and those of the list's
  pub group-entries : (q : Key) → is_open q ≡ false → eqb (group_of q) 2 ≡ false
      → filter (λ e. eqb (group_of q) (group_of e.key)) (virtual P a os) ≡ buckets P a os (filter (λ k. eqb (group_of q) (group_of k)) (keys_at P a os))
  unfolding group_keys
  group-entries None e f = absurd (true≢false e)
  group-entries (Literal s b) e f =
      keep-virtual (λ k. eqb 1 (group_of k))
      ∙ rw (own-group 1, other-list 1 refl, other-group 1 3 refl) (append-nil (buckets P a os (group_keys 1)))
  group-entries (Structure n b) e f = keep-virtual (λ k. eqb 3 (group_of k)) ∙ rw (other-group 3 1 refl, other-list 3 refl, own-group 3) refl
  group-entries ListKey e f = absurd (true≢false f)

  pub list-entries : filter (λ e. eqb 2 (group_of e.key)) (virtual P a os) ≡ buckets P a os (lists P a os)
  unfolding group_keys
  list-entries =
      keep-virtual (λ k. eqb 2 (group_of k))
      ∙ rw (other-group 2 1 refl, own-list, other-group 2 3 refl) (append-nil (buckets P a os (lists P a os)))

  -- the keys of a group are the distinct keys of its clauses
  pub group-distinct : (q : Key)
      → filter (λ k. eqb (group_of q) (group_of k)) (keys_at P a os) ≡ distinct same (map (λ o. P.key_of o a) (like_to P.key_of true a q os))
  unfolding like_to
  group-distinct q =
      keep-distinct (λ k. eqb (group_of q) (group_of k)) (map (λ o. P.key_of o a) os)
      ∙ ap (distinct same) (keep-map (λ k. eqb (group_of q) (group_of k)) (λ o. P.key_of o a) os)

  -- the bucket of the equal key
  equal-buckets : (q : Key) (ks : List Key) → equal q (buckets P a os ks) ≡ cond (list_any (λ k. same k q) ks) (some (bucket P a os q)) none
  equal-buckets q [] = refl
  equal-buckets q (k ∷ ks) = go (same k q) refl (equal-buckets q ks)
    where
      go : (b : Bool) → same k q ≡ b → equal q (buckets P a os ks) ≡ cond (list_any (λ k. same k q) ks) (some (bucket P a os q)) none
          → cond b (some (bucket P a os k)) (equal q (buckets P a os ks)) ≡ cond (b || list_any (λ k. same k q) ks) (some (bucket P a os q)) none
      go true e ih = ap (λ (l : Key). some (bucket P a os l)) (same-eq k q e)
      go false e ih = ih

  -- a bucket of the group's clauses
  bucket-group : (q k : Key) → eqb (group_of q) (group_of k) ≡ true → bucket P a os k ≡ bucket P a (like_to P.key_of true a q os) k
  unfolding like_to
  bucket-group q k e =
      sym (keep-within (λ o. same (P.key_of o a) k) (λ o. eqb (group_of q) (group_of (P.key_of o a))) os
      (λ o f. rw (same-eq (P.key_of o a) k f) e))

  -- ---- what is followed

  module _ (q : Key) (bound : is_open q ≡ false) where
    -- the clauses of the call key's group
    abbrev ours : List ℕ
    ours = like_to P.key_of true a q os

    -- the dynamic list has its entry, whatever the clauses
    abbrev is_list_line : Bool
    is_list_line = P.dynamic && eqb (group_of q) 2

    list-key : (k : Key) → eqb (group_of k) 2 ≡ true → k ≡ ListKey
    list-key None e = absurd (false≢true e)
    list-key (Literal s b) e = absurd (false≢true e)
    list-key (Structure n f) e = absurd (false≢true e)
    list-key ListKey e = refl

    -- the entries of the group
    plain-entries : is_list_line ≡ false
        → filter (λ e. eqb (group_of q) (group_of e.key)) (virtual P a os) ≡ buckets P a os (distinct same (map (λ o. P.key_of o a) ours))
    plain-entries e = go (eqb (group_of q) 2) refl ∙ ap (buckets P a os) (group-distinct q)
      where
        static : (b : Bool) → b && true ≡ false
            → cond b (ListKey ∷ []) (filter (λ k. eqb 2 (group_of k)) (keys_at P a os)) ≡ filter (λ k. eqb 2 (group_of k)) (keys_at P a os)
        static true e = absurd (true≢false e)
        static false e = refl

        go : (b : Bool) → eqb (group_of q) 2 ≡ b
            → filter (λ e. eqb (group_of q) (group_of e.key)) (virtual P a os) ≡ buckets P a os (filter (λ k. eqb (group_of q) (group_of k)) (keys_at P a os))
        go true f = rw (list-key q f) (list-entries ∙ ap (buckets P a os) (static P.dynamic (rw f at e)))
        go false f = group-entries q bound f

    list-bucket : q ≡ ListKey → bucket P a os ListKey ≡ ours
    unfolding like_to
    list-bucket e =
        filter_agree (λ o. same (P.key_of o a) ListKey) (λ o. eqb (group_of q) (group_of (P.key_of o a))) (λ o. rw e (list-group (P.key_of o a))) os

    -- the dynamic list: its bucket, even an empty one, is a line
    list-followed : is_list_line ≡ true → follow_new P (choose P q (virtual P a os)) ≡ goto 4 (unstored ours)
    list-followed e =
        let f = and_parts P.dynamic (eqb (group_of q) 2) e in
        let k : q ≡ ListKey = list-key q f.1 in
        ap (λ (l : Key). follow_new P (choose P l (virtual P a os))) k
        ∙ ap (λ (es : List (Entry (List ℕ))). follow_new P (pick P ListKey es))
        (list-entries ∙ ap (λ (b : Bool). buckets P a os (cond b (ListKey ∷ []) (filter (λ k. eqb 2 (group_of k)) (keys_at P a os)))) f.0)
        ∙ ap (λ (b : Bool). enter 4 (single b (bucket P a os ListKey)) (bucket P a os ListKey)) f.0
        ∙ ap (λ (l : List ℕ). goto 4 (unstored l)) (list-bucket k)

    -- the group's clauses have keys of the group
    ours-group : list_all (λ o. eqb (group_of q) (group_of (P.key_of o a))) ours ≡ true
    unfolding like_to
    ours-group = every-kept (λ o. eqb (group_of q) (group_of (P.key_of o a))) (λ o. eqb (group_of q) (group_of (P.key_of o a))) os (λ o e. e)

    -- what a switch with the group's entries leads to
    plain-followed : is_list_line ≡ false → (ks : List Key) → distinct same (map (λ o. P.key_of o a) ours) ≡ ks
        → follow_new P (choose P q (virtual P a os)) ≡ follow_new P (pick P q (buckets P a os ks))
    plain-followed e ks f =
        ap (λ (es : List (Entry (List ℕ))). follow_new P (pick P q es)) (plain-entries e ∙ ap (buckets P a os) f)

    -- no clause of the group: no entry, but for the dynamic list
    pub choice-empty : length ours ≡ 0 → follow_new P (choose P q (virtual P a os)) ≡ cond is_list_line (goto 4 (unstored [])) stop
    choice-empty e = go is_list_line refl
      where
        none_left : (l : List ℕ) → length l ≡ 0 → l ≡ []
        none_left [] e = refl
        none_left (x ∷ l) e = absurd (omega arith)

        go : (b : Bool) → is_list_line ≡ b → follow_new P (choose P q (virtual P a os)) ≡ cond b (goto 4 (unstored [])) stop
        go true f = list-followed f ∙ ap (λ (l : List ℕ). goto 4 (unstored l)) (none_left ours e)
        go false f = plain-followed f [] (ap (λ (l : List ℕ). distinct same (map (λ o. P.key_of o a) l)) (none_left ours e))

    -- one key in the group: its entry is followed whatever the call's key
    one-followed : is_list_line ≡ false → (o : ℕ) (rest : List ℕ) → ours ≡ o ∷ rest → list_all (λ x. same (P.key_of x a) (P.key_of o a)) (o ∷ rest) ≡ true
        → follow_new P (choose P q (virtual P a os)) ≡ enter 4 (lone P ours) ours
    one-followed e o rest f g =
        let k : Key = P.key_of o a in
        let h : list_all (λ x. same (P.key_of x a) k) rest ≡ true = (and_parts (same k k) (list_all (λ x. same (P.key_of x a) k) rest) g).1 in
        let m : eqb (group_of q) (group_of k) ≡ true =
        (and_parts (eqb (group_of q) (group_of k)) (list_all (λ x. eqb (group_of q) (group_of (P.key_of x a))) rest) (rw f at ours-group)).0 in
        let b : bucket P a os k ≡ ours =
        bucket-group q k m ∙ ap (λ (l : List ℕ). bucket P a l k) f ∙ keep_all (λ x. same (P.key_of x a) k) (o ∷ rest) g ∙ sym f in
        plain-followed e (k ∷ [])
        (ap (λ (l : List ℕ). distinct same (map (λ o. P.key_of o a) l)) f
        ∙ one_key k (map (λ o. P.key_of o a) rest) (list_all-map (λ l. same l k) (λ o. P.key_of o a) rest ∙ h))
        ∙ ap (λ (l : List ℕ). enter 4 (lone P l) l) b

    line-entered : is_list_line ≡ true → (l : List ℕ) → goto 4 (unstored l) ≡ enter 4 (lone P l) l
    line-entered e l = rw (and_parts P.dynamic (eqb (group_of q) 2) e).0 refl

    -- several keys in the group: the bucket of the equal key, if there is one
    more-followed : is_list_line ≡ false → (o : ℕ) (rest : List ℕ) → ours ≡ o ∷ rest → list_all (λ x. same (P.key_of x a) (P.key_of o a)) (o ∷ rest) ≡ false
        → follow_new P (choose P q (virtual P a os))
        ≡ follow_new P (marked 5 (cond (list_any (λ x. same (P.key_of x a) q) ours) (some (like_to P.key_of false a q ours)) none))
    unfolding like_to
    more-followed e o rest f g =
        let k : Key = P.key_of o a in
        let h : list_all (λ l. same l k) (map (λ o. P.key_of o a) rest) ≡ false =
        list_all-map (λ l. same l k) (λ o. P.key_of o a) rest ∙ sym (ap (λ (b : Bool). b && list_all (λ x. same (P.key_of x a) k) rest) (same_refl k)) ∙ g in
        more-keys k (map (λ o. P.key_of o a) rest) h
        (follow_new P (choose P q (virtual P a os))
        ≡ follow_new P (marked 5 (cond (list_any (λ x. same (P.key_of x a) q) ours) (some (like_to P.key_of false a q ours)) none)))
        (λ l ls m.
        let d : distinct same (map (λ o. P.key_of o a) ours) ≡ k ∷ (l ∷ ls) = ap (λ (l : List ℕ). distinct same (map (λ o. P.key_of o a) l)) f ∙ m in
        let t : list_any (λ k. same k q) (k ∷ (l ∷ ls)) ≡ list_any (λ x. same (P.key_of x a) q) ours =
        ap (list_any (λ k. same k q)) (sym d) ∙ any-distinct q (map (λ o. P.key_of o a) ours) ∙ any-map (λ k. same k q) (λ o. P.key_of o a) ours in
        plain-followed e (k ∷ (l ∷ ls)) d
        ∙ ap (λ (x : Option (List ℕ)). follow_new P (marked 5 x))
        (equal-buckets q (k ∷ (l ∷ ls)) ∙ ap₂ (λ (b : Bool) (x : List ℕ). cond b (some x) none) t (bucket-group q q (eq-eqb (group_of q) (group_of q) refl))))

    -- the dynamic list has one key
    list_same : is_list_line ≡ true → (o : ℕ) (rest : List ℕ) → ours ≡ o ∷ rest → list_all (λ x. same (P.key_of x a) (P.key_of o a)) (o ∷ rest) ≡ true
    list_same e o rest f =
        let k : q ≡ ListKey = list-key q (and_parts P.dynamic (eqb (group_of q) 2) e).1 in
        let g : list_all (λ x. eqb (group_of q) (group_of (P.key_of x a))) (o ∷ rest) ≡ true = rw f at ours-group in
        let s : (x : ℕ) → eqb (group_of q) (group_of (P.key_of x a)) ≡ same (P.key_of x a) ListKey =
        λ x. ap (λ (l : Key). eqb (group_of l) (group_of (P.key_of x a))) k ∙ sym (list-group (P.key_of x a)) in
        let h : list_all (λ x. same (P.key_of x a) ListKey) (o ∷ rest) ≡ true =
        sym (every-same (λ x. eqb (group_of q) (group_of (P.key_of x a))) (λ x. same (P.key_of x a) ListKey) (o ∷ rest) s) ∙ g in
        let i : P.key_of o a ≡ ListKey =
        same-eq (P.key_of o a) ListKey (and_parts (same (P.key_of o a) ListKey) (list_all (λ x. same (P.key_of x a) ListKey) rest) h).0 in
        ap (λ (l : Key). list_all (λ x. same (P.key_of x a) l) (o ∷ rest)) i ∙ h

    -- ---- the four ends of a choice, by the group's clauses and those with an equal key

    first : (l : List ℕ) → 0 < length l → l ≡ get_or l 0 0 ∷ drop 1 l
    first [] h = absurd (omega arith)
    first (x ∷ l) h = refl

    pub choice-one : 0 < length ours → all_same P.key_of a (P.key_of (get_or ours 0 0) a) ours ≡ true
        → follow_new P (choose P q (virtual P a os)) ≡ enter 4 (lone P ours) ours
    unfolding all_same
    choice-one h e = go is_list_line refl
      where
        go : (b : Bool) → is_list_line ≡ b → follow_new P (choose P q (virtual P a os)) ≡ enter 4 (lone P ours) ours
        go true f = list-followed f ∙ line-entered f ours
        go false f = one-followed f (get_or ours 0 0) (drop 1 ours) (first ours h)
            (sym (ap (list_all (λ x. same (P.key_of x a) (P.key_of (get_or ours 0 0) a))) (first ours h)) ∙ e)

    choice-more : 0 < length ours → all_same P.key_of a (P.key_of (get_or ours 0 0) a) ours ≡ false
        → follow_new P (choose P q (virtual P a os))
        ≡ follow_new P (marked 5 (cond (list_any (λ x. same (P.key_of x a) q) ours) (some (like_to P.key_of false a q ours)) none))
    unfolding all_same
    choice-more h e = go is_list_line refl
      where
        e' : list_all (λ x. same (P.key_of x a) (P.key_of (get_or ours 0 0) a)) (get_or ours 0 0 ∷ drop 1 ours) ≡ false
        e' = sym (ap (list_all (λ x. same (P.key_of x a) (P.key_of (get_or ours 0 0) a))) (first ours h)) ∙ e

        go : (b : Bool) → is_list_line ≡ b
            → follow_new P (choose P q (virtual P a os))
            ≡ follow_new P (marked 5 (cond (list_any (λ x. same (P.key_of x a) q) ours) (some (like_to P.key_of false a q ours)) none))
        go true f = absurd (both_ways _ e' (list_same f (get_or ours 0 0) (drop 1 ours) (first ours h)))
        go false f = more-followed f (get_or ours 0 0) (drop 1 ours) (first ours h) e'

    -- a clause is kept where the test passes somewhere
    any-length : (t : ℕ → Bool) (l : List ℕ) → list_any t l ≡ ltb 0 (length (filter t l))
    any-length t [] = refl
    any-length t (x ∷ l) = go (t x) (any-length t l)
      where
        go : (b : Bool) → list_any t l ≡ ltb 0 (length (filter t l)) → b || list_any t l ≡ ltb 0 (length (cond b (x ∷ filter t l) (filter t l)))
        go true ih = sym (lt-ltb 0 (suc (length (filter t l))) (omega arith))
        go false ih = ih

    pub choice-equal : 0 < length ours → all_same P.key_of a (P.key_of (get_or ours 0 0) a) ours ≡ false → 0 < length (like_to P.key_of false a q ours)
        → follow_new P (choose P q (virtual P a os)) ≡ enter 5 (lone P (like_to P.key_of false a q ours)) (like_to P.key_of false a q ours)
    unfolding like_to
    choice-equal h e k =
        choice-more h e
        ∙ ap (λ (b : Bool). follow_new P (marked 5 (cond b (some (like_to P.key_of false a q ours)) none)))
        (any-length (λ x. same (P.key_of x a) q) ours ∙ lt-ltb 0 (length (like_to P.key_of false a q ours)) k)

    pub choice-none : 0 < length ours → all_same P.key_of a (P.key_of (get_or ours 0 0) a) ours ≡ false → length (like_to P.key_of false a q ours) ≡ 0
        → follow_new P (choose P q (virtual P a os)) ≡ stop
    unfolding like_to
    choice-none h e k =
        choice-more h e
        ∙ ap (λ (b : Bool). follow_new P (marked 5 (cond b (some (like_to P.key_of false a q ours)) none)))
        (any-length (λ x. same (P.key_of x a) q) ours ∙ le-ltb 0 (length (like_to P.key_of false a q ours)) (omega arith))
