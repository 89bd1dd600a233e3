-- The leader of a clause is found among the leaders in its bucket.
-- Assumes nothing.
use mathlib.Core.Path.{◌≡◌, refl, sym, ◌∙◌}
use mathlib.Core.Logic.{◌≢◌}
use mathlib.Core.Bool.{Bool, true, false, cond}
use mathlib.Core.List.{List}
use Prim.Native.Nat.{ℕ, ◌+◌, ◌<◌}
use native.Mathlib.Decide.{ℕ_discrete}
use native.Mathlib.Omega.{arith}
use Rattle.std.proofs.lemmas.Bool.{both_ways, eq-eqb, eqb-true, false≢true, ne_eqb}
use lib.Dec.{eqb}
use lib.ListN.{get_or}
use Rattle.indexing.proofs.BridgeColumns.{leader-first}
use Rattle.indexing.specs.Columns.{same_at, leader_of}
use Rattle.indexing.specs.Chains.{Chained}
use Rattle.index_writer.specs.Chains.{bucket_at, leads_in}
use Rattle.indexing.proofs.Chains.{chained-skip}

module _ (heads bits : List ℕ) where
  -- equal keys have equal numbers
  same_numbers : (i j : ℕ) → same_at heads bits i j ≡ true → (get_or heads i 0 ≡ get_or heads j 0) × (get_or bits i 0 ≡ get_or bits j 0)
  unfolding same_at
  same_numbers i j e = go (eqb (get_or heads i 0) (get_or heads j 0)) refl e
    where
      go : (t : Bool) → eqb (get_or heads i 0) (get_or heads j 0) ≡ t → cond t (eqb (get_or bits i 0) (get_or bits j 0)) false ≡ true
          → (get_or heads i 0 ≡ get_or heads j 0) × (get_or bits i 0 ≡ get_or bits j 0)
      go true f e = (eqb-true _ _ f, eqb-true _ _ e)
      go false f e = absurd (false≢true e)

  -- so the same keys are equal to them
  same-right : (p i j : ℕ) → same_at heads bits i j ≡ true → same_at heads bits p i ≡ same_at heads bits p j
  unfolding same_at
  same-right p i j e = rw ((same_numbers i j e).0, (same_numbers i j e).1) refl

  -- they are of one bucket
  same-bucket : (i j : ℕ) → same_at heads bits i j ≡ true → bucket_at heads bits i ≡ bucket_at heads bits j
  unfolding bucket_at
  same-bucket i j e = rw ((same_numbers i j e).0, (same_numbers i j e).1) refl

  -- and have one leader
  same-leader : (i j : ℕ) → same_at heads bits i j ≡ true → leader_of heads bits i ≡ leader_of heads bits j
  same-leader i j e =
      let f = leader-first heads bits i in
      let g = leader-first heads bits j in
      let k : ℕ = leader_of heads bits i in
      let m : ℕ = leader_of heads bits j in
      let u : k < m → ⊥ = λ l. both_ways _ (g.before k (omega arith) l) (sym (same-right k i j e) ∙ f.hit) in
      let v : m < k → ⊥ = λ l. both_ways _ (f.before m (omega arith) l) (same-right m i j e ∙ g.hit) in
      omega arith

  -- bucket b holds clause i
  held : (b i : ℕ) → leader_of heads bits i ≡ i → bucket_at heads bits i ≡ b → leads_in heads bits b i ≡ true
  unfolding leads_in
  held b i e f = rw (e, f, eq-eqb i i refl) (eq-eqb b b refl)

  held-leads : (b i : ℕ) → leads_in heads bits b i ≡ true → leader_of heads bits i ≡ i
  unfolding leads_in
  held-leads b i e = go (eqb (leader_of heads bits i) i) refl e
    where
      go : (t : Bool) → eqb (leader_of heads bits i) i ≡ t → cond t (eqb (bucket_at heads bits i) b) false ≡ true → leader_of heads bits i ≡ i
      go true f e = eqb-true _ _ f
      go false f e = absurd (false≢true e)

  -- ---- the leader of clause j

  module _ (j b : ℕ) where
    -- a leader of a bucket with the clause's key is its leader
    pub leader-found : (i : ℕ) → leads_in heads bits b i ≡ true → same_at heads bits i j ≡ true → i ≡ leader_of heads bits j
    leader-found i h s = sym (held-leads b i h) ∙ same-leader i j s

    -- where none of its bucket has its key the clause leads itself
    pub leader-own : b ≡ bucket_at heads bits j → ((i : ℕ) → i < j → leads_in heads bits b i ≡ true → same_at heads bits i j ≡ false)
        → j ≡ leader_of heads bits j
    leader-own e none = go (ℕ_discrete (leader_of heads bits j) j)
      where
        go : Dec (leader_of heads bits j ≡ j) → j ≡ leader_of heads bits j
        go (yes q) = sym q
        go (no q) = let f = leader-first heads bits j in
            let k : ℕ = leader_of heads bits j in
            let h : leads_in heads bits b k ≡ true = held b k (same-leader k j f.hit) (same-bucket k j f.hit ∙ sym e) in
            absurd (both_ways _ (none k (omega (arith, q, f.high)) h) f.hit)

  -- ---- one clause more

  -- a clause that leads itself is of its own bucket
  pub leads-once : (j b : ℕ) → b ≡ bucket_at heads bits j → leader_of heads bits j ≡ j → (d : ℕ) → leads_in heads bits d j ≡ eqb b d
  unfolding leads_in
  leads-once j b e f d = rw (f, ← e, eq-eqb j j refl) refl

  pub leader-passed : (firsts links : List ℕ) (j : ℕ) → Chained (leads_in heads bits) firsts links j → leader_of heads bits j ≢ j
      → Chained (leads_in heads bits) firsts links (j + 1)
  unfolding leads_in
  leader-passed firsts links j C f = chained-skip (leads_in heads bits) firsts links j C (λ d. rw (ne_eqb _ _ f) refl)
