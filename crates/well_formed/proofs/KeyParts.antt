-- The keys of a switch as the code compares them: by sort, arity and bits, over a run of records.
-- Assumes nothing.
use mathlib.Core.Path.{◌≡◌, refl, ◌∙◌, ap, ap₂}
use mathlib.Core.Bool.{Bool, true, false, not, ◌&&◌, ◌||◌}
use mathlib.Core.List.{List, [], ◌∷◌, map}
use Prim.Native.Nat.{ℕ, ◌+◌, ◌≤◌, ◌<◌}
use borrow.Author.Tests.{eq-eqb, eqb-true}
use Rattle.std.specs.List.{list_any}
use lib.Dec.{eqb}
use native.Mathlib.Numerals.{add-one}
use native.Mathlib.Omega.{arith}
use lib.ListN.{length, get_or, take, drop, drop_of_length-le}
use lib.Seq.{drop-cons}
use Rattle.records.specs.declared.Rec.{Rec}
use Rattle.records.specs.Records.{zero_rec}
use Rattle.indexing_iter.specs.Keys.{same}
use Rattle.indexing.specs.Lines.{Ptr, Entry}
use Rattle.indexing.specs.Reading.{entry_from}
use Rattle.well_formed.specs.WellFormed.{entry_keys}
use Rattle.well_formed.specs.Pass.{group_by_sort, form_ok, same_fields, among, distinct_keys, once}
use Rattle.well_formed.proofs.PassParts.{group-sort, form-key}
use Rattle.well_formed.proofs.Turns.{Forms, Behind}

-- one entry more in front
pub drop_back : (rs : List Rec) (i j : ℕ) → j + 1 ≡ i → i ≤ length rs → drop j rs ≡ get_or rs j zero_rec ∷ drop i rs
drop_back rs i j e h = rw (add-one j) (drop-cons rs j zero_rec (omega arith)) ∙ ap (λ (n : ℕ). get_or rs j zero_rec ∷ drop n rs) e

pub among-step : (r : Rec) (rs : List Rec) (i : ℕ) → i < length rs
    → among r (drop i rs) ≡ (same_fields r (get_or rs i zero_rec) || among r (drop (i + 1) rs))
unfolding among
among-step r rs i h = rw (drop_back rs (i + 1) i refl (omega arith)) refl

pub among_none : (r : Rec) (rs : List Rec) (i : ℕ) → length rs ≤ i → among r (drop i rs) ≡ false
unfolding among
among_none r rs i h = rw (drop_of_length-le rs h) refl

pub distinct-step : (r : Rec) (rs : List Rec) (i : ℕ) → i < length rs → r ≡ get_or rs i zero_rec
    → distinct_keys (drop i rs) ≡ (not (among r (drop (i + 1) rs)) && distinct_keys (drop (i + 1) rs))
unfolding distinct_keys
distinct-step r rs i h e = rw (drop_back rs (i + 1) i refl (omega arith), e) refl

pub distinct_none : (rs : List Rec) (i : ℕ) → length rs ≤ i → distinct_keys (drop i rs) ≡ true
unfolding distinct_keys
distinct_none rs i h = rw (drop_of_length-le rs h) refl

-- ---- keys that are told by their fields

-- the group is told by the sort
grouped : (g s x : Bool) → (s ≡ true → g ≡ true) → g && (s && x) ≡ s && x
grouped g true x h = rw (h refl) refl
grouped true false x h = refl
grouped false false x h = refl

fields-same : (r q : Rec) → form_ok r.sub r.half r.long ≡ true → form_ok q.sub q.half q.long ≡ true
    → same (entry_from r).key (entry_from q).key ≡ same_fields r q
unfolding same_fields
fields-same r q e f =
    let x = form-key r.sub r.half r.long e in
    let y = form-key q.sub q.half q.long f in
    rw (group-sort r.sub r.half r.long, group-sort q.sub q.half q.long, x.1, x.2, x.3, y.1, y.2, y.3)
    (grouped (eqb (group_by_sort r.sub) (group_by_sort q.sub)) (eqb r.sub q.sub) (eqb r.half q.half && eqb r.long q.long)
    (λ z. eq-eqb (group_by_sort r.sub) (group_by_sort q.sub) (ap group_by_sort (eqb-true r.sub q.sub z))))

any-among : (r : Rec) (qs : List Rec) → form_ok r.sub r.half r.long ≡ true → Forms qs
    → list_any (same (entry_from r).key) (entry_keys (map entry_from qs)) ≡ among r qs
unfolding among
any-among r [] e f = refl
any-among r (q ∷ qs) e f = ap₂ (λ (x y : Bool). x || y) (fields-same r q e f.0) (any-among r qs e f.1)

once-fields : (qs : List Rec) → Forms qs → once (entry_keys (map entry_from qs)) ≡ distinct_keys qs
unfolding distinct_keys
once-fields [] f = refl
once-fields (q ∷ qs) f = ap₂ (λ (x y : Bool). not x && y) (any-among q qs f.0 f.1) (once-fields qs f.1)

-- the keys of the entries with no switch yet are those of the records in front
pub once-behind : (es : List (Entry Ptr)) (rs : List Rec) → Behind es rs → once (entry_keys es) ≡ distinct_keys (take (length es) rs)
once-behind es rs b = ap (λ (xs : List (Entry Ptr)). once (entry_keys xs)) b.0 ∙ once-fields (take (length es) rs) b.1
