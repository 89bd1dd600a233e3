-- A property of all elements of a list, by recursion: std's laws by places carried over; and what a test keeps.
-- Assumes nothing.
use mathlib.Core.Path.{◌≡◌, refl, ap}
use mathlib.Core.Bool.{Bool, true, false, not, cond}
use mathlib.Core.List.{List, [], ◌∷◌, ◌++◌, Sublistᴰ}
use Prim.Native.Nat.{ℕ, suc, ◌<◌}
use native.Mathlib.Omega.{arith}
use Rattle.std.specs.List.{AllByRecursion, filter, list_all}
use Rattle.std.proofs.lemmas.List.Elements.{All-append, All-filter, All-from_recursion, All-set, filter_passes, recursion_from_All}
use Rattle.std.proofs.lemmas.List.Sums.{AllPass-from_list_all, list_all-from_AllPass}
use lib.ListN.{length, get_or, set}
use Rattle.indexing.specs.Lists.{distinct}

-- ---- a property of all elements

module _ {A : Type 0} (Φ : A → Type 0) where
  pub all_append : (xs ys : List A) → AllByRecursion Φ xs → AllByRecursion Φ ys → AllByRecursion Φ (xs ++ ys)
  all_append xs ys f g = recursion_from_All Φ (xs ++ ys) (All-append Φ xs ys (All-from_recursion Φ xs f) (All-from_recursion Φ ys g))

  pub all_keep : (p : A → Bool) (xs : List A) → AllByRecursion Φ xs → AllByRecursion Φ (filter p xs)
  all_keep p xs f = recursion_from_All Φ (filter p xs) (All-filter p Φ xs (All-from_recursion Φ xs f))

  pub all_set : (xs : List A) (i : ℕ) (y : A) → AllByRecursion Φ xs → Φ y → AllByRecursion Φ (set xs i y)
  all_set xs i y f g = recursion_from_All Φ (set xs i y) (All-set Φ xs i y g (All-from_recursion Φ xs f))

  pub all-distinct : (same : A → A → Bool) (xs : List A) → AllByRecursion Φ xs → AllByRecursion Φ (distinct same xs)
  all-distinct same [] f = tt
  all-distinct same (x ∷ xs) f = (f.0, all_keep (λ y. not (same x y)) (distinct same xs) (all-distinct same xs f.1))

pub all-passed : {A : Type 0} (Φ : A → Type 0) (p : A → Bool) (xs : List A) → AllByRecursion Φ xs → AllByRecursion (λ x. (p x ≡ true) × Φ x) (filter p xs)
all-passed Φ p xs f =
    recursion_from_All (λ x. (p x ≡ true) × Φ x) (filter p xs)
    (λ k d h. (filter_passes p xs k d h, All-filter p Φ xs (All-from_recursion Φ xs f) k d h))

pub keep-none : {A : Type 0} (p : A → Bool) (d : A) (xs : List A) → ((i : ℕ) → i < length xs → p (get_or xs i d) ≡ false) → filter p xs ≡ []
keep-none p d [] h = refl
keep-none p d (x ∷ xs) h = rw (h 0 (omega arith)) (keep-none p d xs (λ i k. h (suc i) (omega arith)))

pub every-keep : {A : Type 0} (q p : A → Bool) (xs : List A) → list_all q xs ≡ true → list_all q (filter p xs) ≡ true
every-keep q p xs e = list_all-from_AllPass q (filter p xs) (All-filter p (λ x. q x ≡ true) xs (AllPass-from_list_all q xs e))

-- ---- what a test keeps

module _ {A : Type 0} (p : A → Bool) where
  -- nothing is kept: the first element does not pass, and of those behind it nothing is kept
  pub keep-empty : (x : A) (xs : List A) → filter p (x ∷ xs) ≡ [] → (p x ≡ false) × (filter p xs ≡ [])
  keep-empty x xs e = go (p x) e
    where
      go : (b : Bool) → cond b (x ∷ filter p xs) (filter p xs) ≡ [] → (b ≡ false) × (filter p xs ≡ [])
      go true e = absurd (omega (arith, ap length e))
      go false e = (refl, e)

  pub keep-sublist : (xs : List A) → Sublistᴰ (filter p xs) xs
  keep-sublist [] = Sublistᴰ.slnil
  keep-sublist (x ∷ xs) = go (p x) (keep-sublist xs)
    where
      go : (b : Bool) → Sublistᴰ (filter p xs) xs → Sublistᴰ (cond b (x ∷ filter p xs) (filter p xs)) (x ∷ xs)
      go true s = Sublistᴰ.cons-cons refl s
      go false s = Sublistᴰ.cons s
