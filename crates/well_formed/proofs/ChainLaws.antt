-- The chains of the entries read so far.
-- Assumes nothing.
use mathlib.Core.Path.{◌≡◌, refl, sym, ◌∙◌, ap}
use mathlib.Core.Bool.{Bool, true, false, not, ◌&&◌, ◌||◌}
use mathlib.Core.List.{List, [], ◌∷◌}
use Prim.Native.Nat.{ℕ, zero, suc, ◌+◌, ◌-◌, ◌≤◌, ◌<◌}
use native.Mathlib.Decide.{ℕ_discrete}
use native.Mathlib.Omega.{arith}
use Rattle.std.proofs.lemmas.Bool.{and_parts, eqb-false, eqb-true}
use lib.Dec.{eqb}
use native.Mathlib.Numerals.{add-one}
use lib.ListN.{length, get_or, drop, drop_of_length-le}
use Rattle.records.specs.declared.Rec.{Rec}
use Rattle.records.specs.Records.{zero_rec}
use Rattle.indexing.specs.Chains.{Chained, Cleared}
use Rattle.indexing.proofs.Chains.{chained-none}
use Rattle.well_formed.specs.Pass.{same_fields, among, distinct_keys}
use Rattle.well_formed.specs.Chains.{bucket_of, in_bucket}
use Rattle.well_formed.proofs.KeyParts.{drop_back, distinct-step, distinct_none}

-- ---- buckets

-- equal keys have the same bucket
same-bucket : (size : ℕ) (r q : Rec) → same_fields r q ≡ true → bucket_of size r ≡ bucket_of size q
unfolding same_fields bucket_of
same-bucket size r q e =
    let x = and_parts (eqb r.sub q.sub) (eqb r.half q.half && eqb r.long q.long) e in
    let y = and_parts (eqb r.half q.half) (eqb r.long q.long) x.1 in
    rw (eqb-true r.sub q.sub x.0, eqb-true r.half q.half y.0, eqb-true r.long q.long y.1)

-- so entries of other buckets have other keys
other-bucket : (size : ℕ) (r q : Rec) → eqb (bucket_of size q) (bucket_of size r) ≡ false → same_fields r q ≡ false
other-bucket size r q e = go (same_fields r q) refl
  where
    go : (b : Bool) → same_fields r q ≡ b → b ≡ false
    go true f = absurd (eqb-false (bucket_of size q) (bucket_of size r) e (sym (same-bucket size r q f)))
    go false f = refl

-- ---- the last entries

abbrev pub ending : List Rec → ℕ → List Rec
ending R m = drop (length R - m) R

ending-none : (R : List Rec) → ending R 0 ≡ []
ending-none R = drop_of_length-le R (omega arith)

ending-more : (R : List Rec) (m : ℕ) → m < length R → ending R (suc m) ≡ get_or R (length R - suc m) zero_rec ∷ ending R m
ending-more R m h = drop_back R (length R - m) (length R - suc m) (omega arith) (omega arith)

-- the entries behind a place
behind : (R : List Rec) (at : ℕ) → at < length R → ending R (length R - (at + 1)) ≡ drop (at + 1) R
behind R at h =
    let n : length R - (length R - (at + 1)) ≡ at + 1 = omega arith in
    ap (λ (i : ℕ). drop i R) n

-- ---- does one of the entries behind a place have the key of r? They are items counted from the last

module _ (R : List Rec) (r : Rec) where
  one_more : (m : ℕ) → m < length R → among r (ending R (suc m)) ≡ same_fields r (get_or R (length R - suc m) zero_rec) || among r (ending R m)
  unfolding among
  one_more m k = rw (ending-more R m k) refl

  -- one that has it
  among-one : (i m : ℕ) → i < m → m ≤ length R → same_fields r (get_or R (length R - suc i) zero_rec) ≡ true → among r (ending R m) ≡ true
  among-one i zero l h e = absurd (omega arith)
  among-one i (suc m) l h e = one_more m h ∙ go (ℕ_discrete i m) (λ k. among-one i m k (omega arith) e)
    where
      or_true : (t : Bool) → t || true ≡ true
      or_true true = refl
      or_true false = refl

      go : Dec (i ≡ m) → (i < m → among r (ending R m) ≡ true) → same_fields r (get_or R (length R - suc m) zero_rec) || among r (ending R m) ≡ true
      go (yes q) ih = rw (← q, e) refl
      go (no q) ih = rw (ih (omega arith)) (or_true (same_fields r (get_or R (length R - suc m) zero_rec)))

  -- none that has it: those of other buckets have other keys
  among-no : (size m : ℕ) → m ≤ length R
      → ((i : ℕ) → i < m → in_bucket size R (length R) (bucket_of size r) i ≡ true → same_fields r (get_or R (length R - suc i) zero_rec) ≡ false)
      → among r (ending R m) ≡ false
  unfolding among in_bucket
  among-no size zero h none = rw (ending-none R) refl
  among-no size (suc m) h none = one_more m h ∙ rw (go (eqb (bucket_of size q) (bucket_of size r)) refl, among-no size m (omega arith) (λ i l e. none i (omega arith) e)) refl
    where
      q : Rec
      q = get_or R (length R - suc m) zero_rec

      go : (t : Bool) → eqb (bucket_of size q) (bucket_of size r) ≡ t → same_fields r q ≡ false
      go true f = none m (omega arith) f
      go false f = other-bucket size r q f

  module _ (at : ℕ) (h : at < length R) where
    pub behind-found : (i : ℕ) → i < length R - (at + 1) → same_fields r (get_or R (length R - suc i) zero_rec) ≡ true → among r (drop (at + 1) R) ≡ true
    behind-found i l e = sym (ap (among r) (behind R at h)) ∙ among-one i (length R - (at + 1)) l (omega arith) e

    pub behind-nowhere : (size b : ℕ) → b ≡ bucket_of size r
        → ((i : ℕ) → i < length R - (at + 1) → in_bucket size R (length R) b i ≡ true → same_fields r (get_or R (length R - suc i) zero_rec) ≡ false)
        → among r (drop (at + 1) R) ≡ false
    behind-nowhere size b e none =
        sym (ap (among r) (behind R at h)) ∙ among-no size (length R - (at + 1)) (omega arith) (λ i l f. none i l (rw e f))

-- ---- distinct keys

distinct-less : (R : List Rec) (i : ℕ) → i ≤ length R → distinct_keys (drop i R) ≡ false → distinct_keys R ≡ false
distinct-less R zero h f = f
distinct-less R (suc i) h f =
    let z : distinct_keys (drop (i + 1) R) ≡ false = rw (add-one i) f in
    distinct-less R i (omega arith)
    (rw (distinct-step (get_or R i zero_rec) R i (omega arith) refl, z) (none_both (not (among (get_or R i zero_rec) (drop (i + 1) R)))))
  where
    none_both : (t : Bool) → t && false ≡ false
    none_both true = refl
    none_both false = refl

-- the entries from i on are read: their keys are distinct, and they stand in chains, of size many buckets
pub record ReadFrom (R : List Rec) (size : ℕ) (heads links : List ℕ) (i : ℕ) : Type 0 where
  pub once : distinct_keys (drop i R) ≡ true
  pub chains : Chained (in_bucket size R (length R)) heads links (length R - i)

pub read_none : (R : List Rec) (size : ℕ) (heads links : List ℕ) (n : ℕ) → n ≡ length R → Cleared heads → ReadFrom R size heads links n
read_none R size heads links n e z =
    let m : length R - n ≡ 0 = omega arith in
    record {
      once = distinct_none R n (omega arith);
      chains = rw m (chained-none (in_bucket size R (length R)) heads links (λ b h. z b));
    }

-- the entry at j in front of those from i on
module _ (R : List Rec) (size : ℕ) (heads links : List ℕ) (i j : ℕ) (next : j + 1 ≡ i) (low : i ≤ length R) (x : ReadFrom R size heads links i) where
  pub read_behind : Chained (in_bucket size R (length R)) heads links (length R - (j + 1))
  read_behind = rw next x.chains

  -- it is of its own bucket
  pub read_once : (b : ℕ) → b ≡ bucket_of size (get_or R j zero_rec) → (d : ℕ) → in_bucket size R (length R) d (length R - i) ≡ eqb b d
  unfolding in_bucket
  read_once b e d = let g : length R - suc (length R - i) ≡ j = omega arith in
      rw (g, ← e) refl

  pub read_more : (heads' links' : List ℕ) → among (get_or R j zero_rec) (drop (j + 1) R) ≡ false
      → Chained (in_bucket size R (length R)) heads' links' (length R - i + 1) → ReadFrom R size heads' links' j
  read_more heads' links' a C =
      let d : distinct_keys (drop (j + 1) R) ≡ true = rw next x.once in
      let o : length R - j ≡ length R - i + 1 = omega arith in
      record {
        once = rw (distinct-step (get_or R j zero_rec) R j (omega arith) refl, a, d) refl;
        chains = rw o C;
      }

  pub read_twice : among (get_or R j zero_rec) (drop (j + 1) R) ≡ true → distinct_keys R ≡ false
  read_twice a = distinct-less R j (omega arith) (rw (distinct-step (get_or R j zero_rec) R j (omega arith) refl, a) refl)
