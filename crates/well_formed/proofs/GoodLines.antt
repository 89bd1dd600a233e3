-- What number 12 asks of a line by itself. New lines have it, and expansions keep it.
-- Assumes nothing.
use mathlib.Core.Path.{◌≡◌, refl, sym, ◌∙◌, ap, subst}
use mathlib.Core.Bool.{Bool, true, false, cond, not, ◌&&◌, ◌||◌}
use mathlib.Core.List.{List, [], ◌∷◌, ◌++◌, map, append_assoc, append-nil}
use mathlib.Core.Option.{Option, none, some}
use Prim.Native.Nat.{ℕ, zero, suc, ◌+◌, ◌≤◌, ◌<◌, ◌-◌}
use native.Mathlib.Omega.{arith}
use Rattle.std.specs.List.{filter, list_all, list_any, AllByRecursion}
use Rattle.std.proofs.lemmas.Bool.{and_parts, false≢true, le-leb, leb-true}
use Rattle.std.specs.Cmp.Derive.{both_true}
use Rattle.std.proofs.Math.Bool.{or-true}
use Rattle.std.proofs.lemmas.List.Elements.{All-from_recursion}
use Rattle.std.proofs.lemmas.List.Folds.{list_any-append}
use lib.Dec.{eqb, leb}
use lib.ListN.{length, set}
use Rattle.indexing_iter.specs.Keys.{group_of, is_open, same}
use Rattle.indexing_iter.specs.declared.OptArgIndexKey.{OptArgIndexKey as Key}
use Rattle.indexing_iter.specs.declared.OptArgIndexKey.TheVariants.{List as ListKey}
use Rattle.indexing.proofs.Built.{offs-initial, built-is-expanded}
use Rattle.indexing.proofs.Expand.{single-is, offs-bucket, offs-retag, opens, outcome, grown, expand-is}
use Rattle.indexing.proofs.Keys.{same_refl}
use Rattle.indexing.proofs.Lists.{all_append, all_keep, all_set, all-distinct, all-passed, every-keep}
use Rattle.indexing.specs.Build.{Program, cons_opt, single, cons_line, pointer, after, open_at, new_table, later_tables, tag_rest, tag_static, retag}
use Rattle.indexing.specs.Build.{initial, new_line, keys_at, literals, lists, structures, bucket_of, lone, lines_for, entries_for, build}
use Rattle.indexing.specs.Expand.{expanded, added, expand}
use Rattle.indexing.specs.Lines.{Ptr, ext, int, Entry, Table, switch, on_demand, dead, Choice, Line, Index, no_line, line_at, offs, arg_of, swap}
use Rattle.indexing.specs.Seed.{seed}
use Rattle.well_formed.proofs.SwitchKeys.{Once, once-keep, once-distinct, group-ok, keys-append}
use Rattle.well_formed.specs.WellFormed.{rising_ok, key_ok, keys_ok, entry_keys, tag_ok, some_ok, choices_ok}

rising-lower : (known : ℕ → Bool) (m n : ℕ) (os : List ℕ) → n ≤ m → rising_ok known m os ≡ true → rising_ok known n os ≡ true
rising-lower known m n [] h e = refl
rising-lower known m n (o ∷ os) h e =
    let x = and_parts (leb m o) (known o && rising_ok known (suc o) os) e in both_true (le-leb n o (omega (arith, leb-true m o x.0))) x.1

rising-keep : (known : ℕ → Bool) (p : ℕ → Bool) (n : ℕ) (os : List ℕ) → rising_ok known n os ≡ true → rising_ok known n (filter p os) ≡ true
rising-keep known p n [] e = refl
rising-keep known p n (o ∷ os) e =
    let x = and_parts (leb n o) (known o && rising_ok known (suc o) os) e in
    let y = and_parts (known o) (rising_ok known (suc o) os) x.1 in
    go (p o) x.0 y.0 (rising-keep known p (suc o) os y.1)
  where
    go : (b : Bool) → leb n o ≡ true → known o ≡ true → rising_ok known (suc o) (filter p os) ≡ true
        → rising_ok known n (cond b (o ∷ filter p os) (filter p os)) ≡ true
    go true u v w = both_true u (both_true v w)
    go false u v w = rising-lower known (suc o) n (filter p os) (omega (arith, leb-true n o u)) w

module _ (P : Program) (known : ℕ → Bool) where
  -- of a pointer, a table, a line
  abbrev pub GoodPtr : Ptr → Type 0
  GoodPtr (ext o) = not P.dynamic && known o ≡ true
  GoodPtr (int d) = Unit {0}

  abbrev pub GoodTable : Table → Type 0
  GoodTable (switch a es) = (keys_ok 1 (entry_keys es) ≡ true) × AllByRecursion (λ (e : Entry Ptr). GoodPtr e.to) es
  GoodTable (on_demand a) = Unit {0}
  GoodTable (dead a os) = rising_ok known 1 os ≡ true

  abbrev pub GoodLine : Line → Type 0
  GoodLine l = AllByRecursion GoodTable l.tables × (choices_ok P.dynamic known l.choices ≡ true)

  -- the tables of a new line
  later-good : (n a : ℕ) (os : List ℕ) → rising_ok known 1 os ≡ true → AllByRecursion GoodTable (later_tables P n a os)
  later-good zero a os e = tt
  later-good (suc n) a os e =
      masks (P.masked a) (new_table P a (open_at P a os)) (opened (open_at P a os) (rising-keep known (λ o. is_open (P.key_of o a)) 1 os e))
      (later-good n (suc a) os e)
    where
      Opt : Option Table → Type 0
      Opt none = Unit {0}
      Opt (some t) = GoodTable t

      opened : (ds : List ℕ) → rising_ok known 1 ds ≡ true → Opt (new_table P a ds)
      opened [] e = tt
      opened (d ∷ ds) e = go P.extensible
        where
          go : (b : Bool) → Opt (cond b (some (dead a (d ∷ ds))) none)
          go true = e
          go false = tt

      front : (x : Option Table) → Opt x → AllByRecursion GoodTable (later_tables P n (suc a) os)
          → AllByRecursion GoodTable (cons_opt x (later_tables P n (suc a) os))
      front none f g = g
      front (some t) f g = (f, g)

      masks : (m : Bool) (x : Option Table) → Opt x → AllByRecursion GoodTable (later_tables P n (suc a) os)
          → AllByRecursion GoodTable (cons_opt (cond m none x) (later_tables P n (suc a) os))
      masks true x f g = g
      masks false x f g = front x f g

  -- the choices of a new line
  rest-tags : (cs : List Choice) → list_all (tag_ok false) (tag_rest P cs) ≡ true
  rest-tags [] = refl
  rest-tags (c ∷ []) = go P.non_counted
    where
      go : (b : Bool) → tag_ok false (record { tag = cond b 5 4; offset = c.offset }) && true ≡ true
      go true = refl
      go false = refl
  rest-tags (c ∷ (d ∷ ds)) = go P.non_counted (rest-tags (d ∷ ds))
    where
      go : (b : Bool) → list_all (tag_ok false) (tag_rest P (d ∷ ds)) ≡ true
          → tag_ok false (record { tag = cond b 3 2; offset = c.offset }) && list_all (tag_ok false) (tag_rest P (d ∷ ds)) ≡ true
      go true e = e
      go false e = e

  retag-good : (cs : List Choice) → rising_ok known 1 (offs cs) ≡ true → (P.dynamic ≡ true → list_all (tag_ok true) cs ≡ true)
      → some_ok P.dynamic cs ≡ true → choices_ok P.dynamic known (retag P cs) ≡ true
  retag-good cs e f g = rw (offs-retag P cs) (both_true e (go P.dynamic cs f g))
    where
      go : (d : Bool) (cs : List Choice) → (d ≡ true → list_all (tag_ok true) cs ≡ true) → some_ok d cs ≡ true
          → list_all (tag_ok d) (cond d cs (tag_static P cs)) && some_ok d (cond d cs (tag_static P cs)) ≡ true
      go true cs f g = both_true (f refl) g
      go false [] f g = absurd (false≢true g)
      go false (c ∷ cs) f g = both_true (rest-tags cs) refl

  module _ (a : ℕ) (cs : List Choice) (r : rising_ok known 1 (offs cs) ≡ true) (t : list_all (tag_ok P.dynamic) cs ≡ true) where
    bucket-rising : (k : Key) → rising_ok known 1 (offs (bucket_of P a cs k)) ≡ true
    bucket-rising k = rw (offs-bucket P a k cs) (rising-keep known (λ o. same (P.key_of o a) k) 1 (offs cs) r)

    -- a bucket that may be a line: not empty, or dynamic
    abbrev Live : Key → Type 0
    Live k = some_ok P.dynamic (bucket_of P a cs k) ≡ true

    lines-good : (ks : List Key) → AllByRecursion Live ks → AllByRecursion GoodLine (lines_for P a cs ks)
    lines-good [] f = tt
    lines-good (k ∷ ks) f = go (lone P (offs (bucket_of P a cs k))) (lines-good ks f.1)
      where
        go : (x : Option ℕ) → AllByRecursion GoodLine (lines_for P a cs ks)
            → AllByRecursion GoodLine (cons_line x (new_line P a (bucket_of P a cs k)) (lines_for P a cs ks))
        go none g = (
          (
            later-good (P.arity - a) (suc a) (offs (bucket_of P a cs k)) (bucket-rising k),
            retag-good (bucket_of P a cs k) (bucket-rising k) (λ e. every-keep (tag_ok true) (λ c. same (P.key_of c.offset a) k) cs (rw e at t)) f.0,
          ),
          g,
        )
        go (some o) g = g

    pointer-good : (os : List ℕ) → rising_ok known 1 os ≡ true → (x : Option ℕ) → lone P os ≡ x → (d : ℕ) → GoodPtr (pointer x d)
    pointer-good os e none f d = tt
    pointer-good os e (some o) f d = go P.dynamic f
      where
        is : known o ≡ true
        is =
            let x : rising_ok known 1 (o ∷ []) ≡ true = rw (single-is P.dynamic os o f) at e in
            (and_parts (known o) true (and_parts (leb 1 o) (known o && true) x).1).0

        go : (b : Bool) → single b os ≡ some o → not b && known o ≡ true
        go true f = let z : ◌≡◌ {A = ℕ} 0 1 = cc in absurd (omega arith)
        go false f = is

    entries-good : (d : ℕ) (ks : List Key) → AllByRecursion (λ (e : Entry Ptr). GoodPtr e.to) (entries_for P a cs d ks)
    entries-good d [] = tt
    entries-good d (k ∷ ks) = (
      pointer-good (offs (bucket_of P a cs k)) (bucket-rising k) (lone P (offs (bucket_of P a cs k))) refl d,
      entries-good (after (lone P (offs (bucket_of P a cs k))) d) ks,
    )

    entries-keys : (d : ℕ) (ks : List Key) → entry_keys (entries_for P a cs d ks) ≡ ks
    entries-keys d [] = refl
    entries-keys d (k ∷ ks) = ap (λ (ls : List Key). k ∷ ls) (entries-keys (after (lone P (offs (bucket_of P a cs k))) d) ks)

    -- a key that occurs has a bucket
    some-kept : (p : Choice → Bool) (ds : List Choice) → list_any p ds ≡ true → (d : Bool) → some_ok d (filter p ds) ≡ true
    some-kept p ds e true = refl
    some-kept p [] e false = e
    some-kept p (c ∷ ds) e false = go (p c) e (λ f. some-kept p ds f false)
      where
        go : (x : Bool) → x || list_any p ds ≡ true → (list_any p ds ≡ true → some_ok false (filter p ds) ≡ true)
            → some_ok false (cond x (c ∷ filter p ds) (filter p ds)) ≡ true
        go true e ih = refl
        go false e ih = ih e

    -- all keys that occur are live
    occur : (pre ds : List Choice) → cs ≡ pre ++ ds → AllByRecursion Live (map (λ o. P.key_of o a) (offs ds))
    occur pre [] e = tt
    occur pre (c ∷ ds) e = (
      some-kept (λ d. same (P.key_of d.offset a) (P.key_of c.offset a)) cs here P.dynamic,
      occur (pre ++ (c ∷ [])) ds (e ∙ sym (append_assoc pre (c ∷ []) ds)),
    )
      where
        here : list_any (λ d. same (P.key_of d.offset a) (P.key_of c.offset a)) cs ≡ true
        here =
            rw (e, list_any-append (λ d. same (P.key_of d.offset a) (P.key_of c.offset a)) pre (c ∷ ds), same_refl (P.key_of c.offset a))
            (or-true (list_any (λ d. same (P.key_of d.offset a) (P.key_of c.offset a)) pre))

    live : AllByRecursion Live (keys_at P a (offs cs))
    live = all-distinct Live same (map (λ o. P.key_of o a) (offs cs)) (occur [] cs refl)

    live-lists : AllByRecursion Live (lists P a (offs cs))
    live-lists = go P.dynamic refl
      where
        go : (b : Bool) → P.dynamic ≡ b → AllByRecursion Live (cond b (ListKey ∷ []) (filter (λ k. eqb 2 (group_of k)) (keys_at P a (offs cs))))
        go true e = (rw e, tt)
        go false e = all_keep Live (λ k. eqb 2 (group_of k)) (keys_at P a (offs cs)) live

    added-good : (os : List ℕ) → AllByRecursion GoodLine (added P a cs os)
    added-good [] =
        all_append GoodLine (lines_for P a cs (lists P a (offs cs)))
        (lines_for P a cs (structures P a (offs cs)) ++ lines_for P a cs (literals P a (offs cs))) (lines-good (lists P a (offs cs)) live-lists)
        (all_append GoodLine (lines_for P a cs (structures P a (offs cs))) (lines_for P a cs (literals P a (offs cs)))
        (lines-good (structures P a (offs cs)) (all_keep Live (λ k. eqb 3 (group_of k)) (keys_at P a (offs cs)) live))
        (lines-good (literals P a (offs cs)) (all_keep Live (λ k. eqb 1 (group_of k)) (keys_at P a (offs cs)) live)))
    added-good (o ∷ os) = tt

    module _ (keys : (o : ℕ) → is_open (P.key_of o a) ≡ false → key_ok (P.key_of o a) ≡ true) where
      keyed : (os : List ℕ) → open_at P a os ≡ [] → AllByRecursion (λ (k : Key). key_ok k ≡ true) (map (λ o. P.key_of o a) os)
      keyed [] e = tt
      keyed (o ∷ os) e = go (is_open (P.key_of o a)) refl e (keyed os)
        where
          go : (x : Bool) → is_open (P.key_of o a) ≡ x → cond x (o ∷ open_at P a os) (open_at P a os) ≡ []
              → (open_at P a os ≡ [] → AllByRecursion (λ (k : Key). key_ok k ≡ true) (map (λ o. P.key_of o a) os))
              → AllByRecursion (λ (k : Key). key_ok k ≡ true) (P.key_of o a ∷ map (λ o. P.key_of o a) os)
          go true x e ih = let z : ◌≡◌ {A = ℕ} 0 1 = cc in absurd (omega arith)
          go false x e ih = (keys o x, ih e)

      keys-good : open_at P a (offs cs) ≡ [] → keys_ok 1 (literals P a (offs cs) ++ (lists P a (offs cs) ++ structures P a (offs cs))) ≡ true
      keys-good e =
          let ks : List Key = keys_at P a (offs cs) in
          let f : AllByRecursion (λ (k : Key). key_ok k ≡ true) ks =
          all-distinct (λ (k : Key). key_ok k ≡ true) same (map (λ o. P.key_of o a) (offs cs)) (keyed (offs cs) e) in
          let o : Once ks = once-distinct (map (λ o. P.key_of o a) (offs cs)) in
          let part : (g : ℕ) → AllByRecursion (λ (k : Key). (eqb g (group_of k) ≡ true) × (key_ok k ≡ true)) (filter (λ k. eqb g (group_of k)) ks) =
          λ g. all-passed (λ (k : Key). key_ok k ≡ true) (λ k. eqb g (group_of k)) ks f in
          let ss : keys_ok 3 (structures P a (offs cs)) ≡ true =
          rw append-nil at (group-ok 3 4 (structures P a (offs cs)) [] (part 3) (once-keep (λ k. eqb 3 (group_of k)) ks o) refl (omega arith)) in
          group-ok 1 2 (literals P a (offs cs)) (lists P a (offs cs) ++ structures P a (offs cs)) (part 1) (once-keep (λ k. eqb 1 (group_of k)) ks o)
          (middle P.dynamic (part 2) (once-keep (λ k. eqb 2 (group_of k)) ks o) ss) (omega arith)
        where
          middle : (d : Bool)
              → AllByRecursion (λ (k : Key). (eqb 2 (group_of k) ≡ true) × (key_ok k ≡ true)) (filter (λ k. eqb 2 (group_of k)) (keys_at P a (offs cs)))
              → Once (filter (λ k. eqb 2 (group_of k)) (keys_at P a (offs cs)))
              → keys_ok 3 (structures P a (offs cs)) ≡ true
              → keys_ok 2 (cond d (ListKey ∷ []) (filter (λ k. eqb 2 (group_of k)) (keys_at P a (offs cs))) ++ structures P a (offs cs)) ≡ true
          middle true f o e = group-ok 2 3 (ListKey ∷ []) (structures P a (offs cs)) ((refl, refl), tt) (refl, tt) e (omega arith)
          middle false f o e = group-ok 2 3 (filter (λ k. eqb 2 (group_of k)) (keys_at P a (offs cs))) (structures P a (offs cs)) f o e (omega arith)

      outcome-good : (g : ℕ) (os : List ℕ) → open_at P a (offs cs) ≡ os → GoodTable (expanded P a cs g os)
      outcome-good g [] e =
          let s = 1 + g + length (lines_for P a cs (lists P a (offs cs))) in
          let b = s + length (lines_for P a cs (structures P a (offs cs))) in
          let ls = entries_for P a cs (1 + g) (lists P a (offs cs)) in
          let ss = entries_for P a cs s (structures P a (offs cs)) in
          let bs = entries_for P a cs b (literals P a (offs cs)) in (
            rw (
              keys-append bs (ls ++ ss),
              keys-append ls ss,
              entries-keys b (literals P a (offs cs)),
              entries-keys (1 + g) (lists P a (offs cs)),
              entries-keys s (structures P a (offs cs)),
            ) (keys-good e),
            all_append (λ (e : Entry Ptr). GoodPtr e.to) bs (ls ++ ss) (entries-good b (literals P a (offs cs)))
                (all_append (λ (e : Entry Ptr). GoodPtr e.to) ls ss (entries-good (1 + g) (lists P a (offs cs)))
                (entries-good s (structures P a (offs cs)))),
          )
      outcome-good g (o ∷ os) e = rw e at (rising-keep known (λ o. is_open (P.key_of o a)) 1 (offs cs) r)

  swap-good : (a : ℕ) (u : Table) (ts : List Table) → GoodTable u → AllByRecursion GoodTable ts → AllByRecursion GoodTable (swap a u ts)
  swap-good a u [] f g = tt
  swap-good a u (t ∷ ts) f g = go (eqb (arg_of t) a) (swap-good a u ts f g.1)
    where
      go : (x : Bool) → AllByRecursion GoodTable (swap a u ts) → AllByRecursion GoodTable (cond x (u ∷ ts) (t ∷ swap a u ts))
      go true r = (f, g.1)
      go false r = (g.0, r)

  module _ (keys : (o a : ℕ) → is_open (P.key_of o a) ≡ false → key_ok (P.key_of o a) ≡ true) where
    pub expand-good : (idx : Index) (l a : ℕ) → l < length idx → AllByRecursion GoodLine idx → AllByRecursion GoodLine (expand P idx l a)
    expand-good idx l a h f =
        let cs : List Choice = (line_at idx l).choices in
        let here : GoodLine (line_at idx l) = All-from_recursion GoodLine idx f l no_line h in
        let x = and_parts (rising_ok known 1 (offs cs)) (list_all (tag_ok P.dynamic) cs && some_ok P.dynamic cs) here.1 in
        let t = (and_parts (list_all (tag_ok P.dynamic) cs) (some_ok P.dynamic cs) x.1).0 in
        rw (expand-is P idx l a) (all_append GoodLine (set idx l (grown P idx l a)) (added P a cs (opens P idx l a))
        (all_set GoodLine idx l (grown P idx l a) f (
          swap-good a (outcome P idx l a) (line_at idx l).tables
              (outcome-good a cs x.0 t (λ o. keys o a) (length idx - l - 1) (opens P idx l a) refl) here.0,
          here.1,
        ))
        (added-good a cs x.0 t (opens P idx l a)))

    pub built-good : (c : ℕ) (o : ℕ) (os : List ℕ) → open_at P c (o ∷ os) ≡ [] → rising_ok known 1 (o ∷ os) ≡ true
        → AllByRecursion GoodLine (build P c (o ∷ os))
    unfolding seed
    built-good c o os keyed e = rw (built-is-expanded P c (o ∷ os) keyed) (expand-good (seed P c (o ∷ os)) 0 c (omega arith) (
      (
        (tt, later-good (P.arity - c) (suc c) (o ∷ os) e),
        retag-good (initial 7 (o ∷ os))
            (subst (λ (xs : List ℕ). rising_ok known 1 xs ≡ true) (sym (offs-initial 7 (o ∷ os))) e) (λ d. tags (o ∷ os)) (some_one P.dynamic),
      ),
      tt,
    ))
      where
        tags : (os : List ℕ) → list_all (tag_ok true) (initial 7 os) ≡ true
        tags [] = refl
        tags (o ∷ os) = tags os

        some_one : (d : Bool) → some_ok d (initial 7 (o ∷ os)) ≡ true
        some_one true = refl
        some_one false = refl
