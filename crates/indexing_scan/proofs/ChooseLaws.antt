-- The choice in a stored switch: counted and searched over the records of its entries it is the walk's choice among the entries.
-- Assumes nothing.
use mathlib.Core.Path.{◌≡◌, refl, sym, ap, ap₂, ◌∙◌}
use mathlib.Core.Bool.{Bool, true, false, cond}
use mathlib.Core.List.{List, [], ◌∷◌, map}
use mathlib.Core.Option.{some}
use Prim.Native.Nat.{ℕ, suc, ◌+◌, ◌-◌, ◌%◌, ◌≤◌, ◌<◌}
use native.Mathlib.Nat.{not-suc-le-zero}
use native.Mathlib.Numerals.{add-one}
use native.Mathlib.Omega.{arith}
use Rattle.std.specs.List.{filter, AllByRecursion}
use Rattle.std.proofs.lemmas.List.Elements.{filter_agree}
use lib.Dec.{eqb, leb, ltb}
use lib.ListN.{length, get_or}
use borrow.Author.Tests.{eqb-false, ne_eqb, ltb-true, ltb-false, le-leb, lt-leb}
use Rattle.records.specs.declared.Rec.{Rec}
use Rattle.records.specs.Records.{zero_rec}
use Rattle.records.specs.Pointer.{is_internal, distance_of}
use Rattle.indexing_iter.specs.declared.OptArgIndexKey.{OptArgIndexKey as Key}
use Rattle.indexing_iter.specs.Keys.{group_of, same}
use Rattle.indexing.proofs.Reading.{FitEntry, key_back, pointer_back}
use Rattle.indexing.specs.Build.{Program}
use Rattle.indexing.specs.Lines.{Ptr, ext, int, Entry, entry_rec}
use Rattle.indexing.specs.Reading.{pointer_from, entry_from}
use Rattle.well_formed.proofs.PassParts.{group-sort}
use Rattle.well_formed.specs.Pass.{group_by_sort}
use Rattle.indexing_scan.proofs.KeptLaws.{keep-map}
use Rattle.indexing_scan.specs.Walk.{equal, marked, pick, choose}
use Rattle.indexing_scan.specs.declared.stored.Chosen.TheVariants.{Nothing, Only, Equal}
use Rattle.indexing_scan.specs.Places.{up_to, count_of, key_of_rec, in_group, has_key, equal_rec, pick_rec, choose_rec, choice_of}

-- ---- what is counted and what is searched for

module _ (t : Rec → Bool) where
  none_kept : (rs : List Rec) → count_of t rs ≡ 0 → filter t rs ≡ []
  unfolding count_of
  none_kept [] e = refl
  none_kept (r ∷ rs) e = go (t r) e (none_kept rs)
    where
      go : (b : Bool) → cond b (count_of t rs + 1) (count_of t rs) ≡ 0 → (count_of t rs ≡ 0 → filter t rs ≡ []) → cond b (r ∷ filter t rs) (filter t rs) ≡ []
      go true e ih = absurd (omega arith)
      go false e ih = ih e

  one_kept : (rs : List Rec) → count_of t rs ≡ 1 → (up_to t rs < length rs) × (filter t rs ≡ get_or rs (up_to t rs) zero_rec ∷ [])
  unfolding count_of up_to
  one_kept [] e = absurd (omega arith)
  one_kept (r ∷ rs) e = go (t r) e (one_kept rs)
    where
      go : (b : Bool) → cond b (count_of t rs + 1) (count_of t rs) ≡ 1
          → (count_of t rs ≡ 1 → (up_to t rs < length rs) × (filter t rs ≡ get_or rs (up_to t rs) zero_rec ∷ []))
          → (cond b 0 (up_to t rs + 1) < suc (length rs)) × (cond b (r ∷ filter t rs) (filter t rs) ≡ get_or (r ∷ rs) (cond b 0 (up_to t rs + 1)) zero_rec ∷ [])
      go true e ih = (omega arith, ap (λ (l : List Rec). r ∷ l) (none_kept rs (omega arith)))
      go false e ih =
          let w = ih e in
          (omega (arith, w.0), w.1 ∙ ap (λ (k : ℕ). get_or (r ∷ rs) k zero_rec ∷ []) (sym (add-one (up_to t rs))))

  length-kept : (rs : List Rec) → length (filter t rs) ≡ count_of t rs
  unfolding count_of
  length-kept [] = refl
  length-kept (r ∷ rs) = go (t r) (length-kept rs)
    where
      go : (b : Bool) → length (filter t rs) ≡ count_of t rs → length (cond b (r ∷ filter t rs) (filter t rs)) ≡ cond b (count_of t rs + 1) (count_of t rs)
      go true e = omega arith
      go false e = e

module _ (q : Key) where
  -- an equal key is of the same group
  equal-group : (r : Rec) → in_group (group_of q) r ≡ false → has_key q r ≡ false
  unfolding in_group has_key
  equal-group r e =
      let n : group_of (key_of_rec r) ≡ group_of q → ⊥ = λ z. eqb-false (group_of q) (group_by_sort r.sub) e (sym z ∙ group-sort r.sub r.half r.long) in
      rw (ne_eqb (group_of (key_of_rec r)) (group_of q) n)

  equal-kept : (rs : List Rec) → equal_rec q (filter (in_group (group_of q)) rs) ≡ equal_rec q rs
  unfolding equal_rec
  equal-kept [] = refl
  equal-kept (r ∷ rs) = go (in_group (group_of q) r) refl (equal-kept rs)
    where
      go : (b : Bool) → in_group (group_of q) r ≡ b → equal_rec q (filter (in_group (group_of q)) rs) ≡ equal_rec q rs
          → equal_rec q (cond b (r ∷ filter (in_group (group_of q)) rs) (filter (in_group (group_of q)) rs))
          ≡ cond (has_key q r) (Equal r.word) (equal_rec q rs)
      go true e ih = rw ih
      go false e ih = rw (equal-group r e) ih

  equal-none : (rs : List Rec) → length rs ≤ up_to (has_key q) rs → Nothing ≡ equal_rec q rs
  unfolding equal_rec up_to
  equal-none [] h = refl
  equal-none (r ∷ rs) h = go (has_key q r) h (equal-none rs)
    where
      go : (b : Bool) → suc (length rs) ≤ cond b 0 (up_to (has_key q) rs + 1) → (length rs ≤ up_to (has_key q) rs → Nothing ≡ equal_rec q rs)
          → Nothing ≡ cond b (Equal r.word) (equal_rec q rs)
      go true h ih = absurd (omega arith)
      go false h ih = ih (omega arith)

  equal-some : (rs : List Rec) → up_to (has_key q) rs < length rs → Equal (get_or rs (up_to (has_key q) rs) zero_rec).word ≡ equal_rec q rs
  unfolding equal_rec up_to
  equal-some [] h = absurd (not-suc-le-zero h)
  equal-some (r ∷ rs) h = go (has_key q r) h (equal-some rs)
    where
      go : (b : Bool) → cond b 0 (up_to (has_key q) rs + 1) < suc (length rs)
          → (up_to (has_key q) rs < length rs → Equal (get_or rs (up_to (has_key q) rs) zero_rec).word ≡ equal_rec q rs)
          → Equal (get_or (r ∷ rs) (cond b 0 (up_to (has_key q) rs + 1)) zero_rec).word ≡ cond b (Equal r.word) (equal_rec q rs)
      go true h ih = refl
      go false h ih = ap (λ (k : ℕ). Equal (get_or (r ∷ rs) k zero_rec).word) (add-one (up_to (has_key q) rs)) ∙ ih (omega arith)

  pick-many : (rs : List Rec) → 2 ≤ length rs → equal_rec q rs ≡ pick_rec q rs
  unfolding pick_rec
  pick-many [] h = absurd (omega arith)
  pick-many (r ∷ []) h = absurd (omega arith)
  pick-many (r ∷ (s ∷ rs)) h = refl

  -- no entry of the group, one, and more
  choose-none : (rs : List Rec) → count_of (in_group (group_of q)) rs ≡ 0 → Nothing ≡ choose_rec q rs
  unfolding choose_rec pick_rec
  choose-none rs e = rw (none_kept (in_group (group_of q)) rs e)

  choose-only : (rs : List Rec) → count_of (in_group (group_of q)) rs ≡ 1
      → (up_to (in_group (group_of q)) rs < length rs) × (Only (get_or rs (up_to (in_group (group_of q)) rs) zero_rec).word ≡ choose_rec q rs)
  unfolding choose_rec pick_rec
  choose-only rs e =
      let w = one_kept (in_group (group_of q)) rs e in
      (w.0, sym (ap (pick_rec q) w.1))

  choose-many : (rs : List Rec) → 2 ≤ count_of (in_group (group_of q)) rs → equal_rec q rs ≡ choose_rec q rs
  unfolding choose_rec
  choose-many rs h =
      sym (equal-kept rs) ∙ pick-many (filter (in_group (group_of q)) rs) (omega (arith, length-kept (in_group (group_of q)) rs))

-- the ways out of the choice among some records, of which so many are of the key's group
module _ (q : Key) (rs : List Rec) (g count : ℕ) (e : g ≡ group_of q) (n : count ≡ count_of (in_group g) rs) where
  many : count ≡ count_of (in_group (group_of q)) rs
  many = n ∙ ap (λ (x : ℕ). count_of (in_group x) rs) e

  pub ends-none : count ≡ 0 → Nothing ≡ choose_rec q rs
  ends-none c = choose-none q rs (sym many ∙ c)

  module _ (c : count ≡ 1) (place : ℕ) (p : place ≡ up_to (in_group g) rs) where
    there : place ≡ up_to (in_group (group_of q)) rs
    there = p ∙ ap (λ (x : ℕ). up_to (in_group x) rs) e

    pub only-within : place < length rs
    only-within = omega (arith, there, (choose-only q rs (sym many ∙ c)).0)

    pub ends-only : (r : Rec) → r ≡ get_or rs place zero_rec → Only r.word ≡ choose_rec q rs
    ends-only r f = ap (λ (x : Rec). Only x.word) (f ∙ ap (λ (x : ℕ). get_or rs x zero_rec) there) ∙ (choose-only q rs (sym many ∙ c)).1

  module _ (n₀ : count ≡ 0 → ⊥) (n₁ : count ≡ 1 → ⊥) (place : ℕ) (p : place ≡ up_to (has_key q) rs) where
    pub ends-lacking : length rs ≤ place → Nothing ≡ choose_rec q rs
    ends-lacking w = equal-none q rs (omega (arith, p)) ∙ choose-many q rs (omega (arith, many))

    pub ends-equal : place < length rs → (r : Rec) → r ≡ get_or rs place zero_rec → Equal r.word ≡ choose_rec q rs
    ends-equal w r f =
        ap (λ (x : Rec). Equal x.word) (f ∙ ap (λ (x : ℕ). get_or rs x zero_rec) p)
        ∙ equal-some q rs (omega (arith, p)) ∙ choose-many q rs (omega (arith, many))

-- ---- the walk's choice

entries-kept : (q : Key) (rs : List Rec)
    → filter (λ (e : Entry Ptr). eqb (group_of q) (group_of e.key)) (map entry_from rs) ≡ map entry_from (filter (in_group (group_of q)) rs)
unfolding in_group
entries-kept q rs =
    keep-map (λ (e : Entry Ptr). eqb (group_of q) (group_of e.key)) entry_from rs
    ∙ ap (map entry_from) (filter_agree (λ r. eqb (group_of q) (group_of (entry_from r).key)) (in_group (group_of q))
    (λ r. ap (eqb (group_of q)) (group-sort r.sub r.half r.long)) rs)

equal-records : (q : Key) (rs : List Rec) → choice_of (equal_rec q rs) ≡ marked 5 (equal q (map entry_from rs))
unfolding equal_rec has_key
equal-records q [] = refl
equal-records q (r ∷ rs) = go (same (key_of_rec r) q) (equal-records q rs)
  where
    go : (b : Bool) → choice_of (equal_rec q rs) ≡ marked 5 (equal q (map entry_from rs))
        → choice_of (cond b (Equal r.word) (equal_rec q rs)) ≡ marked 5 (cond b (some (pointer_from r.word)) (equal q (map entry_from rs)))
    go true ih = refl
    go false ih = ih

pick-records : (P : Program) (q : Key) (rs : List Rec) → choice_of (pick_rec q rs) ≡ pick P q (map entry_from rs)
unfolding pick_rec
pick-records P q [] = refl
pick-records P q (r ∷ []) = refl
pick-records P q (r ∷ (s ∷ rs)) = equal-records q (r ∷ (s ∷ rs))

-- the choice over records is the choice among the entries that they stand for
pub choose-records : (P : Program) (q : Key) (rs : List Rec) → choice_of (choose_rec q rs) ≡ choose P q (map entry_from rs)
unfolding choose_rec
choose-records P q rs = pick-records P q (filter (in_group (group_of q)) rs) ∙ ap (pick P q) (sym (entries-kept q rs))

-- entries that fit their records are read back
entries-back : (es : List (Entry Ptr)) → AllByRecursion FitEntry es → map entry_from (map entry_rec es) ≡ es
entries-back [] f = refl
entries-back (e ∷ es) f =
    ap₂ (λ (x : Entry Ptr) (xs : List (Entry Ptr)). x ∷ xs)
    (λ i. record { key = key_back e.key f.0.0 i; to = pointer_back e.to f.0.1 i })
    (entries-back es f.1)

-- the choice over the records of entries is the choice among these
pub choose-entries : (P : Program) (q : Key) (es : List (Entry Ptr)) (rs : List Rec) → AllByRecursion FitEntry es → rs ≡ map entry_rec es → choice_of (choose_rec q rs) ≡ choose P q es
choose-entries P q es rs f e = choose-records P q rs ∙ ap (choose P q) (ap (map entry_from) e ∙ entries-back es f)

-- a pointer taken apart by its tag and distance
pub pointer_parts : (w : ℕ) → w < 4294967296 → pointer_from w ≡ cond (is_internal w) (int (distance_of w)) (ext w)
unfolding is_internal
pointer_parts w h = go (ltb w 2147483648) refl
  where
    go : (b : Bool) → ltb w 2147483648 ≡ b → cond b (ext w) (int (w - 2147483648)) ≡ cond (leb 2147483648 w) (int (w % 2147483648)) (ext w)
    go true e = rw (lt-leb 2147483648 w (ltb-true w 2147483648 e))
    go false e =
        let k : 2147483648 ≤ w = ltb-false w 2147483648 e in
        let m : w - 2147483648 ≡ w % 2147483648 = omega arith in
        rw (le-leb 2147483648 w k, m)
