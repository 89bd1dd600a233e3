-- Lists gathered over the numbers below n: their lengths and elements, what a test keeps of them, their distinct elements.
-- Assumes nothing.
use mathlib.Core.Path.{◌≡◌, refl, sym, ap, ap₂, ◌∙◌}
use Prim.Native.Nat.{ℕ, zero, suc, ◌+◌, ◌≤◌, ◌<◌}
use native.Mathlib.Nat.{not-suc-le-zero}
use native.Mathlib.Decide.{ℕ_discrete}
use native.Mathlib.Omega.{arith}
use mathlib.Core.Bool.{Bool, true, false, cond, not, ◌||◌}
use mathlib.Core.List.{List, [], ◌∷◌, ◌++◌, map}
use Rattle.std.specs.List.{filter, list_any}
use Rattle.std.proofs.lemmas.Bool.{both_ways, false≢true}
use Rattle.std.proofs.Math.Bool.{or-true}
use Rattle.std.proofs.lemmas.List.Elements.{filter-append}
use Rattle.std.proofs.lemmas.List.Folds.{list_any-append}
use lib.ListN.{length, get_or, length-append, get_or-append}
use lib.Seq.{get_or_at, ext_get_or}
use Rattle.std.specs.Int.{from_bool}
use Rattle.indexing.specs.Lists.{distinct}
use Rattle.indexing.specs.Upto.{count_to, any_to, list_to}

-- ---- numbers that pass a test

pub any-cong : (t u : ℕ → Bool) (n : ℕ) → ((i : ℕ) → i < n → t i ≡ u i) → any_to t n ≡ any_to u n
unfolding any_to
any-cong t u zero h = refl
any-cong t u (suc n) h = ap₂ (λ (x y : Bool). cond y true x) (any-cong t u n (λ i k. h i (omega arith))) (h n (omega arith))

-- some number below n passes the test
pub any-hit : (t : ℕ → Bool) (n j : ℕ) → j < n → t j ≡ true → any_to t n ≡ true
unfolding any_to
any-hit t zero j h e = absurd (not-suc-le-zero h)
any-hit t (suc n) j h e = go (t n) refl (λ k. any-hit t n j k e)
  where
    go : (b : Bool) → t n ≡ b → (j < n → any_to t n ≡ true) → cond b true (any_to t n) ≡ true
    go true q k = refl
    go false q k =
        let w : j ≡ n → ⊥ = λ x. both_ways _ q (sym (ap t x) ∙ e) in
        k (omega arith)

-- no number below n passes the test
pub any-clear : (t : ℕ → Bool) (n : ℕ) → ((i : ℕ) → i < n → t i ≡ false) → any_to t n ≡ false
unfolding any_to
any-clear t zero h = refl
any-clear t (suc n) h = rw (h n (omega arith)) (any-clear t n (λ i k. h i (omega arith)))

pub count-any : (t : ℕ → Bool) (n : ℕ) → any_to t n ≡ true → 1 ≤ count_to t n
unfolding any_to count_to
count-any t zero e = absurd (false≢true e)
count-any t (suc n) e = go (t n) e (count-any t n)
  where
    go : (b : Bool) → cond b true (any_to t n) ≡ true → (any_to t n ≡ true → 1 ≤ count_to t n) → 1 ≤ count_to t n + from_bool b
    go true e ih = omega arith
    go false e ih = omega (arith, ih e)

-- ---- lists gathered

module _ {A : Type 0} where
  pub list-cong : (f g : ℕ → List A) (n : ℕ) → ((i : ℕ) → i < n → f i ≡ g i) → list_to f n ≡ list_to g n
  unfolding list_to
  list-cong f g zero h = refl
  list-cong f g (suc n) h = ap₂ (λ (x y : List A). x ++ y) (list-cong f g n (λ i k. h i (omega arith))) (h n (omega arith))

  -- one element for each number
  pub length-each : (f : ℕ → A) (n : ℕ) → length (list_to (λ i. f i ∷ []) n) ≡ n
  unfolding list_to
  length-each f zero = refl
  length-each f (suc n) = omega (arith, length-append (list_to (λ i. f i ∷ []) n) (f n ∷ []), length-each f n)

  pub get_or-each : (f : ℕ → A) (n j : ℕ) (d : A) → j < n → get_or (list_to (λ i. f i ∷ []) n) j d ≡ f j
  unfolding list_to
  get_or-each f zero j d h = absurd (not-suc-le-zero h)
  get_or-each f (suc n) j d h = go (ℕ_discrete j n) (λ k. get_or-each f n j d k)
    where
      go : Dec (j ≡ n) → (j < n → get_or (list_to (λ i. f i ∷ []) n) j d ≡ f j) → get_or (list_to (λ i. f i ∷ []) n ++ (f n ∷ [])) j d ≡ f j
      go (yes e) ih = rw e (get_or_at (list_to (λ i. f i ∷ []) n) (f n) [] d n (length-each f n))
      go (no e) ih = get_or-append (list_to (λ i. f i ∷ []) n) (f n ∷ []) d j (omega (arith, length-each f n)) ∙ ih (omega arith)

  -- a list by its places
  pub list-each : (xs : List A) (d : A) → xs ≡ list_to (λ i. get_or xs i d ∷ []) (length xs)
  list-each xs d = ext_get_or d xs (list_to (λ i. get_or xs i d ∷ []) (length xs))
      (sym (length-each (λ i. get_or xs i d) (length xs))) (λ i h. sym (get_or-each (λ i. get_or xs i d) (length xs) i d h))

  -- one element for each number that passes the test
  pub length_some : (t : ℕ → Bool) (f : ℕ → A) (n : ℕ) → length (list_to (λ i. cond (t i) (f i ∷ []) []) n) ≡ count_to t n
  unfolding list_to count_to
  length_some t f zero = refl
  length_some t f (suc n) = go (t n) (length_some t f n)
    where
      go : (b : Bool) → length (list_to (λ i. cond (t i) (f i ∷ []) []) n) ≡ count_to t n
          → length (list_to (λ i. cond (t i) (f i ∷ []) []) n ++ cond b (f n ∷ []) []) ≡ count_to t n + from_bool b
      go true ih = omega (arith, length-append (list_to (λ i. cond (t i) (f i ∷ []) []) n) (f n ∷ []))
      go false ih = omega (arith, length-append (list_to (λ i. cond (t i) (f i ∷ []) []) n) [])

  empty : (xs : List A) → length xs ≡ 0 → xs ≡ []
  empty [] e = refl
  empty (x ∷ xs) e = absurd (omega arith)

  -- where number i gives x, and at most one element is gathered, that is x
  pub list-lone : (f : ℕ → List A) (n i : ℕ) (x : A) → i < n → f i ≡ x ∷ [] → length (list_to f n) ≤ 1 → list_to f n ≡ x ∷ []
  unfolding list_to
  list-lone f zero i x h e k = absurd (not-suc-le-zero h)
  list-lone f (suc n) i x h e k = go (ℕ_discrete i n) (list-lone f n i x)
    where
      go : Dec (i ≡ n) → (i < n → f i ≡ x ∷ [] → length (list_to f n) ≤ 1 → list_to f n ≡ x ∷ []) → list_to f n ++ f n ≡ x ∷ []
      go (yes q) ih =
          let u : f n ≡ x ∷ [] = ap f (sym q) ∙ e in
          let v : list_to f n ≡ [] = empty (list_to f n) (omega (arith, length-append (list_to f n) (f n), ap length u)) in
          ap₂ (λ (y z : List A). y ++ z) v u
      go (no q) ih =
          let v : list_to f n ≡ x ∷ [] = ih (omega arith) e (omega (arith, length-append (list_to f n) (f n))) in
          let u : f n ≡ [] = empty (f n) (omega (arith, length-append (list_to f n) (f n), ap length v)) in
          ap₂ (λ (y z : List A). y ++ z) v u

-- ---- what a function makes, and what a test keeps

pub map-append : {A B : Type 0} (h : A → B) (xs ys : List A) → map h (xs ++ ys) ≡ map h xs ++ map h ys
map-append h [] ys = refl
map-append {A} {B} h (x ∷ xs) ys = ap (λ (l : List B). h x ∷ l) (map-append h xs ys)

pub map-list : {A B : Type 0} (h : A → B) (f : ℕ → List A) (n : ℕ) → map h (list_to f n) ≡ list_to (λ i. map h (f i)) n
unfolding list_to
map-list h f zero = refl
map-list {A} {B} h f (suc n) = map-append h (list_to f n) (f n) ∙ ap (λ (l : List B). l ++ map h (f n)) (map-list h f n)

module _ {A : Type 0} where
  pub keep-list : (p : A → Bool) (f : ℕ → List A) (n : ℕ) → filter p (list_to f n) ≡ list_to (λ i. filter p (f i)) n
  unfolding list_to
  keep-list p f zero = refl
  keep-list p f (suc n) = filter-append p (list_to f n) (f n) ∙ ap (λ (l : List A). l ++ filter p (f n)) (keep-list p f n)

  -- what a test keeps, by places
  pub keep-places : (p : A → Bool) (xs : List A) (d : A) → filter p xs ≡ list_to (λ i. cond (p (get_or xs i d)) (get_or xs i d ∷ []) []) (length xs)
  keep-places p xs d =
      ap (filter p) (list-each xs d)
      ∙ keep-list p (λ i. get_or xs i d ∷ []) (length xs)

  -- two tests of which no element passes both
  pub keep-neither : (p q : A → Bool) (xs : List A) → ((x : A) → p x ≡ true → q x ≡ false) → filter p (filter q xs) ≡ []
  keep-neither p q [] h = refl
  keep-neither p q (x ∷ xs) h = go (p x) (q x) refl refl (keep-neither p q xs h)
    where
      go : (b c : Bool) → p x ≡ b → q x ≡ c → filter p (filter q xs) ≡ [] → filter p (cond c (x ∷ filter q xs) (filter q xs)) ≡ []
      go true true e f ih = absurd (both_ways _ (h x e) f)
      go true false e f ih = ih
      go false true e f ih = rw e ih
      go false false e f ih = ih

  -- a test that each element which passes another passes too
  pub keep-within : (p q : A → Bool) (xs : List A) → ((x : A) → p x ≡ true → q x ≡ true) → filter p (filter q xs) ≡ filter p xs
  keep-within p q [] h = refl
  keep-within p q (x ∷ xs) h = go (p x) (q x) refl refl (keep-within p q xs h)
    where
      go : (b c : Bool) → p x ≡ b → q x ≡ c → filter p (filter q xs) ≡ filter p xs
          → filter p (cond c (x ∷ filter q xs) (filter q xs)) ≡ cond b (x ∷ filter p xs) (filter p xs)
      go true true e f ih = rw e (ap (λ (l : List A). x ∷ l) ih)
      go true false e f ih = absurd (both_ways _ f (h x e))
      go false true e f ih = rw e ih
      go false false e f ih = ih

-- ---- distinct elements

module _ {A : Type 0} where
  pub any-each : (t : A → Bool) (f : ℕ → A) (n : ℕ) → list_any t (list_to (λ i. f i ∷ []) n) ≡ any_to (λ i. t (f i)) n
  unfolding list_to any_to
  any-each t f zero = refl
  any-each t f (suc n) = list_any-append t (list_to (λ i. f i ∷ []) n) (f n ∷ []) ∙ go (t (f n)) (any-each t f n)
    where
      last : (c : Bool) → c || false ≡ c
      last true = refl
      last false = refl

      go : (b : Bool) → list_any t (list_to (λ i. f i ∷ []) n) ≡ any_to (λ i. t (f i)) n
          → list_any t (list_to (λ i. f i ∷ []) n) || (b || false) ≡ cond b true (any_to (λ i. t (f i)) n)
      go true ih = or-true (list_any t (list_to (λ i. f i ∷ []) n))
      go false ih = last (list_any t (list_to (λ i. f i ∷ []) n)) ∙ ih

  module _ (same : A → A → Bool) where
    -- one more element: it is new, or an earlier one is the same
    pub distinct_snoc : (xs : List A) (k : A) → distinct same (xs ++ (k ∷ [])) ≡ distinct same xs ++ cond (list_any (λ y. same y k) xs) [] (k ∷ [])
    distinct_snoc [] k = refl
    distinct_snoc (x ∷ xs) k =
        ap (λ (l : List A). x ∷ l)
        (ap (filter (λ y. not (same x y))) (distinct_snoc xs k)
        ∙ filter-append (λ y. not (same x y)) (distinct same xs) (cond (list_any (λ y. same y k) xs) [] (k ∷ []))
        ∙ ap (λ (l : List A). filter (λ y. not (same x y)) (distinct same xs) ++ l) (go (list_any (λ y. same y k) xs) (same x k) refl))
      where
        go : (b c : Bool) → same x k ≡ c → filter (λ y. not (same x y)) (cond b [] (k ∷ [])) ≡ cond (c || b) [] (k ∷ [])
        go true c e = rw (or-true c)
        go false true e = rw e
        go false false e = rw e

    -- each number gives an element, which is new if no number below gives the same
    pub distinct-each : (f : ℕ → A) (n : ℕ)
        → distinct same (list_to (λ i. f i ∷ []) n) ≡ list_to (λ i. cond (any_to (λ j. same (f j) (f i)) i) [] (f i ∷ [])) n
    unfolding list_to
    distinct-each f zero = refl
    distinct-each f (suc n) =
        distinct_snoc (list_to (λ i. f i ∷ []) n) (f n)
        ∙ ap₂ (λ (l : List A) (b : Bool). l ++ cond b [] (f n ∷ [])) (distinct-each f n) (any-each (λ y. same y (f n)) f n)
