-- Buckets of numbered items, the items of a bucket linked from the latest to the first.
-- Assumes nothing.
use mathlib.Core.Path.{◌≡◌, refl, sym, ap, ◌∙◌}
use mathlib.Core.Bool.{Bool, true, false, cond}
use mathlib.Core.List.{List}
use Prim.Native.Nat.{ℕ, zero, suc, ◌+◌, ◌≤◌, ◌<◌}
use native.Mathlib.Decide.{ℕ_discrete}
use native.Mathlib.Numerals.{add-one}
use native.Mathlib.Omega.{arith}
use Rattle.std.proofs.lemmas.Bool.{both_ways, eq-eqb, eqb-true, ltb-false, ltb-true}
use lib.Dec.{eqb, ltb}
use lib.ListN.{length, get_or, set, length-set}
use lib.Seq.{get_or-set_same, get_or-set_other}
use Rattle.indexing.specs.Chains.{latest, Chained}
use Rattle.std.specs.Int.{from_bool}
use Rattle.indexing.specs.Upto.{count_to}

module _ (holds : ℕ → ℕ → Bool) where
  pub latest-within : (b n : ℕ) → latest holds b n ≤ n
  unfolding latest
  latest-within b zero = omega arith
  latest-within b (suc i) = go (holds b i) (latest-within b i)
    where
      go : (t : Bool) → latest holds b i ≤ i → cond t (suc i) (latest holds b i) ≤ suc i
      go true h = omega arith
      go false h = omega arith

  -- an item that is the latest of a bucket is in it
  latest-own : (b m : ℕ) → suc m ≡ latest holds b (suc m) → holds b m ≡ true
  unfolding latest
  latest-own b m e = go (holds b m) e
    where
      go : (t : Bool) → suc m ≡ cond t (suc m) (latest holds b m) → t ≡ true
      go true e = refl
      go false e = absurd (omega (arith, latest-within b m))

  -- ---- a chain followed

  -- the latest item of a bucket is the latest up to itself
  latest-here : (b m : ℕ) → latest holds b m ≡ latest holds b (latest holds b m)
  unfolding latest
  latest-here b zero = refl
  latest-here b (suc m) = go (holds b m) refl (latest-here b m)
    where
      go : (t : Bool) → holds b m ≡ t → latest holds b m ≡ latest holds b (latest holds b m)
          → cond t (suc m) (latest holds b m) ≡ latest holds b (cond t (suc m) (latest holds b m))
      go true e ih = rw e refl
      go false e ih = ih

  -- behind it the bucket holds none
  latest-after : (b m i : ℕ) → latest holds b m ≤ i → i < m → holds b i ≡ true → ⊥
  unfolding latest
  latest-after b zero i l h e = omega arith
  latest-after b (suc m) i l h e = go (holds b m) refl l (ℕ_discrete i m) (λ k w. latest-after b m i k w e)
    where
      go : (t : Bool) → holds b m ≡ t → cond t (suc m) (latest holds b m) ≤ i → Dec (i ≡ m) → (latest holds b m ≤ i → i < m → ⊥) → ⊥
      go true f l d ih = omega arith
      go false f l (yes q) ih = absurd (both_ways _ (ap (holds b) q ∙ f) e)
      go false f l (no q) ih = ih l (omega arith)

  -- between the latest item and the next place the bucket holds none
  count-latest : (b n : ℕ) → count_to (holds b) n ≡ count_to (holds b) (latest holds b n)
  unfolding count_to latest
  count-latest b zero = refl
  count-latest b (suc i) = go (holds b i) refl (count-latest b i)
    where
      go : (t : Bool) → holds b i ≡ t → count_to (holds b) i ≡ count_to (holds b) (latest holds b i)
          → count_to (holds b) i + from_bool t ≡ count_to (holds b) (cond t (suc i) (latest holds b i))
      go true e ih = rw e refl
      go false e ih = omega (arith, ih)

  count-own : (b m : ℕ) → holds b m ≡ true → count_to (holds b) (suc m) ≡ count_to (holds b) m + 1
  unfolding count_to
  count-own b m e = rw e refl

  module _ (b n : ℕ) where
    -- number p is reached in the chain of bucket b, behind k items
    pub record Reached (k p : ℕ) : Type 0 where
      pub within : p ≤ n
      pub here : p ≡ latest holds b p
      pub behind : count_to (holds b) n ≡ count_to (holds b) p + k

    -- an item of a chain is in the bucket
    pub chain-own : (k p m : ℕ) → p ≡ suc m → Reached k p → holds b m ≡ true
    chain-own k p m e x =
        let w : suc m ≡ latest holds b (suc m) = rw e at x.here in
        latest-own b m w

    -- the items from number p on that the bucket holds do not pass a test
    abbrev pub Failed : (ℕ → Bool) → ℕ → Type 0
    Failed t p = (i : ℕ) → p ≤ i → i < n → holds b i ≡ true → t i ≡ false

    module _ (firsts links : List ℕ) (C : Chained holds firsts links n) where
      -- a chain begins at its bucket
      pub chain-start : b < length firsts → Reached 0 (get_or firsts b 0)
      chain-start h = rw (C.first b h) (record { within = latest-within b n; here = latest-here b n; behind = omega (arith, count-latest b n) })

      linked : (k p m : ℕ) → p ≡ suc m → Reached k p → get_or links m 0 ≡ latest holds b m
      linked k p m e x = C.next b m (omega (arith, x.within)) (chain-own k p m e x)

      pub chain_next : (k p m : ℕ) → p ≡ suc m → Reached k p → Reached (k + 1) (get_or links m 0)
      chain_next k p m e x =
          let own : count_to (holds b) p ≡ count_to (holds b) m + 1 = rw e (count-own b m (chain-own k p m e x)) in
          rw (linked k p m e x)
          (record {
            within = omega (arith, x.within, latest-within b m);
            here = latest-here b m;
            behind = omega (arith, x.behind, own, count-latest b m);
          })

      module _ (t : ℕ → Bool) where
        pub failed-start : b < length firsts → Failed t (get_or firsts b 0)
        failed-start h i l k e = absurd (latest-after b n i (omega (arith, C.first b h)) k e)

        pub failed-next : (q p m : ℕ) → p ≡ suc m → Reached q p → t m ≡ false → Failed t p → Failed t (get_or links m 0)
        failed-next q p m e x f g i l k h = go (ℕ_discrete i m)
          where
            below : i < m → t i ≡ false
            below w = absurd (latest-after b m i (omega (arith, linked q p m e x)) w h)

            go : Dec (i ≡ m) → t i ≡ false
            go (yes w) = ap t w ∙ f
            go (no w) = other (ltb i m) refl
              where
                other : (s : Bool) → ltb i m ≡ s → t i ≡ false
                other true v = below (ltb-true i m v)
                other false v = g i (omega (arith, w, ltb-false i m v)) k h

  -- ---- an item more

  pub chained-none : (firsts links : List ℕ) → ((b : ℕ) → b < length firsts → get_or firsts b 0 ≡ 0) → Chained holds firsts links 0
  unfolding latest
  chained-none firsts links z = record { first = z; next = λ b i h e. absurd (omega arith) }

  module _ (firsts links : List ℕ) (n : ℕ) (C : Chained holds firsts links n) where
    -- no bucket holds it
    pub chained-skip : ((d : ℕ) → holds d n ≡ false) → Chained holds firsts links (n + 1)
    unfolding latest
    chained-skip z = rw (add-one n) (record { first = λ b h. rw (z b) (C.first b h); next = λ b i h e. past b i (ℕ_discrete i n) h e })
      where
        past : (b i : ℕ) → Dec (i ≡ n) → i < suc n → holds b i ≡ true → get_or links i 0 ≡ latest holds b i
        past b i (yes q) h e = absurd (both_ways _ (ap (holds b) q ∙ z b) e)
        past b i (no q) h e = C.next b i (omega arith) e

    -- it becomes the latest of its bucket, and what was the latest is the next
    pub chained_more : (b : ℕ) → b < length firsts → n < length links → ((d : ℕ) → holds d n ≡ eqb b d)
        → Chained holds (set firsts b (n + 1)) (set links n (get_or firsts b 0)) (n + 1)
    unfolding latest
    chained_more b h k z =
        rw (add-one n)
        (record {
          first = λ d l. rw (z d) (firsts_more d (omega (arith, length-set firsts b (suc n))) (eqb b d) refl);
          next = λ d i l e. links-more d i (ℕ_discrete i n) l e;
        })
      where
        v : ℕ
        v = get_or firsts b 0

        firsts_more : (d : ℕ) → d < length firsts → (t : Bool) → eqb b d ≡ t → get_or (set firsts b (suc n)) d 0 ≡ cond t (suc n) (latest holds d n)
        firsts_more d l true e =
            let q : b ≡ d = eqb-true _ _ e in
            rw (← q) (get_or-set_same firsts b (suc n) 0 h)
        firsts_more d l false e =
            let other : d ≡ b → ⊥ = λ q. both_ways _ e (ap (eqb b) q ∙ eq-eqb b b refl) in
            get_or-set_other firsts b d (suc n) 0 other ∙ C.first d l

        links-more : (d i : ℕ) → Dec (i ≡ n) → i < suc n → holds d i ≡ true → get_or (set links n v) i 0 ≡ latest holds d i
        links-more d i (yes q) l e =
            let w : b ≡ d = eqb-true _ _ (sym (z d) ∙ sym (ap (holds d) q) ∙ e) in
            rw (q, ← w) (get_or-set_same links n v 0 k ∙ C.first b h)
        links-more d i (no q) l e = get_or-set_other links n i v 0 q ∙ C.next d i (omega arith) e
