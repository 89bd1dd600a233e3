-- The keys of a switch that an expansion makes: by group, each once.
-- Assumes nothing.
use mathlib.Core.Path.{◌≡◌, refl, sym, ap}
use mathlib.Core.Bool.{Bool, true, false, not, ◌&&◌, cond}
use mathlib.Core.List.{List, [], ◌∷◌, ◌++◌}
use Prim.Native.Nat.{ℕ, ◌≤◌, ◌<◌}
use native.Mathlib.Omega.{arith}
use Rattle.std.specs.List.{filter, list_any, AllByRecursion}
use Rattle.std.proofs.lemmas.Bool.{and_parts, eqb-true, false_from_ne_true, le-leb, leb-true, or_parts}
use Rattle.std.specs.Cmp.Derive.{both_true}
use Rattle.std.proofs.lemmas.List.Folds.{list_any-append}
use Rattle.std.proofs.lemmas.Map.Views.{any-filter_same}
use lib.Dec.{eqb, leb}
use Rattle.indexing_iter.specs.Keys.{group_of, same}
use Rattle.indexing_iter.specs.declared.OptArgIndexKey.{OptArgIndexKey as Key}
use Rattle.indexing.proofs.Keys.{same-eq}
use Rattle.indexing.specs.Lines.{Ptr, Entry}
use Rattle.indexing.specs.Lists.{distinct}
use Rattle.well_formed.specs.WellFormed.{key_ok, keys_ok, entry_keys}

-- each key once
abbrev pub Once : List Key → Type 0
Once [] = Unit {0}
Once (k ∷ ks) = (list_any (same k) ks ≡ false) × Once ks

any-less : (k : Key) (p : Key → Bool) (ks : List Key) → list_any (same k) ks ≡ false → list_any (same k) (filter p ks) ≡ false
any-less k p [] e = refl
any-less k p (l ∷ ks) e = let y = or_parts (same k l) (list_any (same k) ks) e in go (p l) y.0 (any-less k p ks y.1)
  where
    go : (b : Bool) → same k l ≡ false → list_any (same k) (filter p ks) ≡ false → list_any (same k) (cond b (l ∷ filter p ks) (filter p ks)) ≡ false
    go true u v = rw (u, v)
    go false u v = v

pub once-keep : (p : Key → Bool) (ks : List Key) → Once ks → Once (filter p ks)
once-keep p [] o = tt
once-keep p (k ∷ ks) o = go (p k) (once-keep p ks o.1)
  where
    go : (b : Bool) → Once (filter p ks) → Once (cond b (k ∷ filter p ks) (filter p ks))
    go true r = (any-less k p ks o.0, r)
    go false r = r

pub once-distinct : (ks : List Key) → Once (distinct same ks)
once-distinct [] = tt
once-distinct (k ∷ ks) = (
  any-filter_same (same k) (λ l. not (same k l)) false (λ l e. ap not e) (distinct same ks),
  once-keep (λ l. not (same k l)) (distinct same ks) (once-distinct ks),
)

pub keys-parts : (h : ℕ) (l : Key) (ks : List Key) → keys_ok h (l ∷ ks) ≡ true
    → (h ≤ group_of l) × (key_ok l && (not (list_any (same l) ks) && keys_ok (group_of l) ks) ≡ true) × (keys_ok (group_of l) ks ≡ true)
keys-parts h l ks e =
    let x = and_parts (leb h (group_of l)) (key_ok l && (not (list_any (same l) ks) && keys_ok (group_of l) ks)) e in
    let y = and_parts (key_ok l) (not (list_any (same l) ks) && keys_ok (group_of l) ks) x.1 in
    (leb-true h (group_of l) x.0, x.1, (and_parts (not (list_any (same l) ks)) (keys_ok (group_of l) ks) y.1).1)

keys-lower : (g h : ℕ) (ks : List Key) → g ≤ h → keys_ok h ks ≡ true → keys_ok g ks ≡ true
keys-lower g h [] u e = refl
keys-lower g h (k ∷ ks) u e = let x = keys-parts h k ks e in both_true (le-leb g (group_of k) (omega (arith, x.0))) x.1

-- a key is not among keys of greater groups
pub other-group : (k : Key) (h : ℕ) (ks : List Key) → keys_ok h ks ≡ true → group_of k < h → list_any (same k) ks ≡ false
other-group k h [] e u = refl
other-group k h (l ∷ ks) e u =
    let x = keys-parts h l ks e in
    rw (false_from_ne_true (same k l) (λ f. omega (arith, x.0, ap group_of (same-eq k l f))), other-group k (group_of l) ks x.2 (omega (arith, x.0)))

-- the keys of one group in front of keys of greater groups
pub group-ok : (g h : ℕ) (ks rest : List Key) → AllByRecursion (λ k. (eqb g (group_of k) ≡ true) × (key_ok k ≡ true)) ks → Once ks → keys_ok h rest ≡ true
    → g < h
    → keys_ok g (ks ++ rest) ≡ true
group-ok g h [] rest f o e u = keys-lower g h rest (omega arith) e
group-ok g h (k ∷ ks) rest f o e u =
    let m : g ≡ group_of k = eqb-true _ _ f.0.0 in
    let n : list_any (same k) (ks ++ rest) ≡ false = rw (list_any-append (same k) ks rest, o.0) (other-group k h rest e (omega arith)) in
    let n' : not (list_any (same k) (ks ++ rest)) ≡ true = rw n in
    let i : keys_ok (group_of k) (ks ++ rest) ≡ true = rw (sym m) (group-ok g h ks rest f.1 o.1 e u) in
    both_true (le-leb g (group_of k) (omega arith)) (both_true f.0.1 (both_true n' i))

pub keys-append : (es fs : List (Entry Ptr)) → entry_keys (es ++ fs) ≡ entry_keys es ++ entry_keys fs
keys-append [] fs = refl
keys-append (e ∷ es) fs = ap (λ (ks : List Key). e.key ∷ ks) (keys-append es fs)
