-- What a test keeps of a list, and the distinct keys of a list.
-- Assumes nothing.
use mathlib.Core.Path.{◌≡◌, refl, ap, ap₂, ◌∙◌}
use mathlib.Core.Bool.{Bool, true, false, not, ◌&&◌, ◌||◌, cond}
use mathlib.Core.List.{List, [], ◌∷◌, map}
use Rattle.std.specs.List.{filter, list_all, list_any}
use Rattle.std.proofs.lemmas.Bool.{both_ways, false≢true, true≢false}
use Rattle.std.proofs.lemmas.Map.Views.{any-filter_same}
use Rattle.std.proofs.lemmas.List.Sums.{list_all-from_AllPass}
use Rattle.std.proofs.lemmas.List.Elements.{filter_passes}
use lib.ListN.{get_or}
use Rattle.indexing_iter.specs.declared.OptArgIndexKey.{OptArgIndexKey as Key}
use Rattle.indexing_iter.specs.Keys.{same}
use Rattle.indexing_iter.proofs.SameKeys.{same-eq, same-sym}
use Rattle.indexing.specs.Lists.{distinct}
use Rattle.indexing.proofs.BridgeLists.{keep-within}

-- ---- what a test keeps

module _ {A : Type 0} where
  -- two tests in either order
  keep-swap : (p r : A → Bool) (xs : List A) → filter p (filter r xs) ≡ filter r (filter p xs)
  keep-swap p r [] = refl
  keep-swap p r (x ∷ xs) = go (p x) (r x) refl refl (keep-swap p r xs)
    where
      go : (b c : Bool) → p x ≡ b → r x ≡ c → filter p (filter r xs) ≡ filter r (filter p xs)
          → filter p (cond c (x ∷ filter r xs) (filter r xs)) ≡ filter r (cond b (x ∷ filter p xs) (filter p xs))
      go true true e f ih = rw (e, f) (ap (λ (l : List A). x ∷ l) ih)
      go true false e f ih = rw f ih
      go false true e f ih = rw e ih
      go false false e f ih = ih

  -- a test that no element passes, that every element passes
  keep-none : (p : A → Bool) (xs : List A) → list_all (λ x. not (p x)) xs ≡ true → filter p xs ≡ []
  keep-none p [] e = refl
  keep-none p (x ∷ xs) e = go (p x) e (keep-none p xs)
    where
      go : (b : Bool) → not b && list_all (λ x. not (p x)) xs ≡ true → (list_all (λ x. not (p x)) xs ≡ true → filter p xs ≡ [])
          → cond b (x ∷ filter p xs) (filter p xs) ≡ []
      go true e ih = absurd (false≢true e)
      go false e ih = ih e

  pub keep_all : (p : A → Bool) (xs : List A) → list_all p xs ≡ true → filter p xs ≡ xs
  keep_all p [] e = refl
  keep_all p (x ∷ xs) e = go (p x) e (keep_all p xs)
    where
      go : (b : Bool) → b && list_all p xs ≡ true → (list_all p xs ≡ true → filter p xs ≡ xs) → cond b (x ∷ filter p xs) (filter p xs) ≡ x ∷ xs
      go true e ih = ap (λ (l : List A). x ∷ l) (ih e)
      go false e ih = absurd (false≢true e)

  -- where a test fails somewhere, its opposite keeps an element
  keep_some : (p : A → Bool) (xs : List A) → list_all p xs ≡ false → (B : Type 0) → ((y : A) (ys : List A) → filter (λ x. not (p x)) xs ≡ y ∷ ys → B) → B
  keep_some p [] e B k = absurd (true≢false e)
  keep_some p (x ∷ xs) e B k = go (p x) e (keep_some p xs) k
    where
      go : (b : Bool) → b && list_all p xs ≡ false
          → (list_all p xs ≡ false → (B : Type 0) → ((y : A) (ys : List A) → filter (λ x. not (p x)) xs ≡ y ∷ ys → B) → B)
          → ((y : A) (ys : List A) → cond (not b) (x ∷ filter (λ x. not (p x)) xs) (filter (λ x. not (p x)) xs) ≡ y ∷ ys → B) → B
      go true e ih k = ih e B k
      go false e ih k = k x (filter (λ x. not (p x)) xs) refl

  -- what every element passes that passes another test
  pub every-kept : (r p : A → Bool) (xs : List A) → ((x : A) → p x ≡ true → r x ≡ true) → list_all r (filter p xs) ≡ true
  every-kept r p xs h = list_all-from_AllPass r (filter p xs) (λ i d k. h (get_or (filter p xs) i d) (filter_passes p xs i d k))

  pub every-same : (p r : A → Bool) (xs : List A) → ((x : A) → p x ≡ r x) → list_all p xs ≡ list_all r xs
  every-same p r [] h = refl
  every-same p r (x ∷ xs) h = ap₂ ◌&&◌ (h x) (every-same p r xs h)

module _ {A B : Type 0} where
  pub keep-map : (p : B → Bool) (f : A → B) (xs : List A) → filter p (map f xs) ≡ map f (filter (λ x. p (f x)) xs)
  keep-map p f [] = refl
  keep-map p f (x ∷ xs) = go (p (f x)) (keep-map p f xs)
    where
      go : (b : Bool) → filter p (map f xs) ≡ map f (filter (λ x. p (f x)) xs)
          → cond b (f x ∷ filter p (map f xs)) (filter p (map f xs)) ≡ map f (cond b (x ∷ filter (λ x. p (f x)) xs) (filter (λ x. p (f x)) xs))
      go true ih = ap (λ (l : List B). f x ∷ l) ih
      go false ih = ih

  pub any-map : (t : B → Bool) (f : A → B) (xs : List A) → list_any t (map f xs) ≡ list_any (λ x. t (f x)) xs
  any-map t f [] = refl
  any-map t f (x ∷ xs) = ap (λ (b : Bool). t (f x) || b) (any-map t f xs)

-- ---- distinct keys

-- a test says the same of equal keys
respects : (p : Key → Bool) (k l : Key) → same k l ≡ true → p k ≡ p l
respects p k l e = ap p (same-eq k l e)

pub keep-distinct : (p : Key → Bool) (ks : List Key) → filter p (distinct same ks) ≡ distinct same (filter p ks)
keep-distinct p [] = refl
keep-distinct p (k ∷ ks) = go (p k) refl (keep-distinct p ks)
  where
    left : (b : Bool) → p k ≡ false → (l : Key) → same k l ≡ b → p l ≡ true → not b ≡ true
    left true e l s f = absurd (both_ways _ e (respects p k l s ∙ f))
    left false e l s f = refl

    go : (b : Bool) → p k ≡ b → filter p (distinct same ks) ≡ distinct same (filter p ks)
        → cond b (k ∷ filter p (filter (λ l. not (same k l)) (distinct same ks))) (filter p (filter (λ l. not (same k l)) (distinct same ks)))
        ≡ distinct same (cond b (k ∷ filter p ks) (filter p ks))
    go true e ih = ap (λ (l : List Key). k ∷ l) (keep-swap p (λ l. not (same k l)) (distinct same ks) ∙ ap (filter (λ l. not (same k l))) ih)
    go false e ih = keep-within p (λ l. not (same k l)) (distinct same ks) (λ l f. left (same k l) e l refl f) ∙ ih

pub any-distinct : (q : Key) (ks : List Key) → list_any (λ k. same k q) (distinct same ks) ≡ list_any (λ k. same k q) ks
any-distinct q [] = refl
any-distinct q (k ∷ ks) = go (same k q) refl (any-distinct q ks)
  where
    go : (b : Bool) → same k q ≡ b → list_any (λ l. same l q) (distinct same ks) ≡ list_any (λ l. same l q) ks
        → b || list_any (λ l. same l q) (filter (λ l. not (same k l)) (distinct same ks)) ≡ b || list_any (λ l. same l q) ks
    go true e ih = refl
    go false e ih = any-filter_same (λ l. same l q) (λ l. not (same k l)) true (λ l f. ap not (ap (same k) (same-eq l q f) ∙ e)) (distinct same ks) ∙ ih

-- keys that are all the first one are one distinct key
pub one_key : (k : Key) (ks : List Key) → list_all (λ l. same l k) ks ≡ true → distinct same (k ∷ ks) ≡ k ∷ []
one_key k ks e =
    ap (λ (l : List Key). k ∷ l)
    (keep-distinct (λ l. not (same k l)) ks
    ∙ ap (distinct same) (keep-none (λ l. not (same k l)) ks
    (every-same (λ l. not (not (same k l))) (λ l. same l k) ks (λ l. twice (same k l) ∙ same-sym k l) ∙ e)))
  where
    twice : (b : Bool) → not (not b) ≡ b
    twice true = refl
    twice false = refl

-- if some is another, there are two or more
pub more-keys : (k : Key) (ks : List Key) → list_all (λ l. same l k) ks ≡ false → (B : Type 0)
    → ((l : Key) (ls : List Key) → distinct same (k ∷ ks) ≡ k ∷ (l ∷ ls) → B) → B
more-keys k ks e B f =
    keep_some (λ l. same k l) ks (every-same (λ l. same k l) (λ l. same l k) ks (same-sym k) ∙ e) B
    (λ l ls g. f l (filter (λ m. not (same l m)) (distinct same ls))
    (ap (λ (x : List Key). k ∷ x) (keep-distinct (λ l. not (same k l)) ks ∙ ap (distinct same) g)))
