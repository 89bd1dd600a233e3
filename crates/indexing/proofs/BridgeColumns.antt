-- The columns of a line's clauses at one argument, and the keys that they stand for.
-- Assumes nothing.
use mathlib.Core.Path.{◌≡◌, refl, sym, ap, ap₂, ◌∙◌}
use Prim.Native.Nat.{ℕ, zero, suc, ◌+◌, ◌*◌, ◌/◌, ◌%◌, ◌≤◌, ◌<◌}
use native.Mathlib.Decide.{ℕ_discrete}
use native.Mathlib.Omega.{arith}
use mathlib.Core.Bool.{Bool, true, false, cond, not}
use mathlib.Core.List.{List}
use Rattle.std.proofs.lemmas.Bool.{both_ways, eq-eqb, eqb-true, false_from_ne_true, le-ltb, lt-ltb, ne_eqb, true≢false}
use lib.Dec.{eqb}
use lib.ListN.{length, get_or}
use Rattle.indexing_iter.specs.Keys.{sort_of, arity_of, bits_of, group_of, is_open, same}
use Rattle.indexing_iter.specs.Rows.{head_of}
use Rattle.indexing_iter.specs.declared.OptArgIndexKey.{OptArgIndexKey as Key}
use Rattle.indexing_iter.specs.declared.OptArgIndexKey.TheVariants.{List as ListKey, Literal, None, Structure}
use Rattle.indexing.proofs.BridgeLists.{any-hit, any-clear, length-each, get_or-each}
use Rattle.indexing_iter.proofs.SameKeys.{same_refl, same-eq}
use Rattle.indexing.specs.Columns.{group_of_head, same_at, first_same, leader_of, leaders_to, heads_to, bits_to, member, leads}
use Rattle.indexing.specs.Expanding.{heads_at, bits_at, leaders_at}
use Rattle.indexing.specs.Upto.{any_to}

-- ---- keys in range

-- a literal's sort is 1 to 3, a structure's arity below 65536
abbrev pub InRange : Key → Type 0
InRange None = Unit {0}
InRange (Literal s b) = (1 ≤ s) × (s ≤ 3)
InRange (Structure n f) = n < 65536
InRange ListKey = Unit {0}

pub head-sort : (k : Key) → InRange k → head_of k / 65536 % 256 ≡ sort_of k
head-sort None r = refl
head-sort (Literal s b) r = omega (arith, r.0, r.1)
head-sort (Structure n f) r = omega arith
head-sort ListKey r = refl

pub head-arity : (k : Key) → InRange k → head_of k % 65536 ≡ arity_of k
head-arity None r = refl
head-arity (Literal s b) r = omega (arith, r.0, r.1)
head-arity (Structure n f) r = omega arith
head-arity ListKey r = refl

pub head-group : (k : Key) → InRange k → is_open k ≡ false → group_of_head (head_of k) ≡ group_of k
head-group None r e = absurd (true≢false e)
head-group (Literal s b) r e = rw (lt-ltb (s * 65536 + 0) 262144 (omega (arith, r.0, r.1)))
head-group (Structure n f) r e = rw (le-ltb (4 * 65536 + n) 262144 (omega arith), lt-ltb (4 * 65536 + n) 327680 (omega arith))
head-group ListKey r e = refl

-- head and bits determine a key in range
pub head-eq : (k l : Key) → InRange k → InRange l → head_of k ≡ head_of l → bits_of k ≡ bits_of l → k ≡ l
head-eq None None r q e f = refl
head-eq None (Literal s b) r q e f = absurd (omega (arith, q.0))
head-eq None (Structure n g) r q e f = absurd (omega arith)
head-eq None ListKey r q e f = absurd (omega arith)
head-eq (Literal s b) None r q e f = absurd (omega (arith, r.0))
head-eq (Literal s b) (Literal s' b') r q e f = ap₂ Literal (omega arith) f
head-eq (Literal s b) (Structure n g) r q e f = absurd (omega (arith, r.1))
head-eq (Literal s b) ListKey r q e f = absurd (omega (arith, r.1))
head-eq (Structure n g) None r q e f = absurd (omega arith)
head-eq (Structure n g) (Literal s b) r q e f = absurd (omega (arith, q.1))
head-eq (Structure n g) (Structure n' g') r q e f = ap₂ Structure (omega arith) f
head-eq (Structure n g) ListKey r q e f = absurd (omega arith)
head-eq ListKey None r q e f = absurd (omega arith)
head-eq ListKey (Literal s b) r q e f = absurd (omega (arith, q.1))
head-eq ListKey (Structure n g) r q e f = absurd (omega arith)
head-eq ListKey ListKey r q e f = refl

pub head-same : (k l : Key) → InRange k → InRange l → cond (eqb (head_of k) (head_of l)) (eqb (bits_of k) (bits_of l)) false ≡ same k l
head-same k l r q = go (same k l) refl
  where
    told : (b : Bool) → eqb (head_of k) (head_of l) ≡ b → same k l ≡ false → cond b (eqb (bits_of k) (bits_of l)) false ≡ false
    told true e z = false_from_ne_true _ (λ f. both_ways _ z (ap (same k) (sym (head-eq k l r q (eqb-true _ _ e) (eqb-true _ _ f))) ∙ same_refl k))
    told false e z = refl

    go : (b : Bool) → same k l ≡ b → cond (eqb (head_of k) (head_of l)) (eqb (bits_of k) (bits_of l)) false ≡ b
    go true e = rw (same-eq k l e, eq-eqb (head_of l) _ refl, eq-eqb (bits_of l) _ refl)
    go false e = told (eqb (head_of k) (head_of l)) refl e

-- ---- the first place with an equal key

-- m is the first of the numbers from i to j that passes the test
pub record First (t : ℕ → Bool) (i j m : ℕ) : Type 0 where
  pub low : i ≤ m
  pub high : m ≤ j
  pub hit : t m ≡ true
  pub before : (p : ℕ) → i ≤ p → p < m → t p ≡ false

module _ (heads bits : List ℕ) where
  pub same-at-refl : (j : ℕ) → same_at heads bits j j ≡ true
  unfolding same_at
  same-at-refl j = rw (eq-eqb (get_or heads j 0) _ refl, eq-eqb (get_or bits j 0) _ refl)

  pub first-same : (j i k : ℕ) → i + k ≡ j → First (λ p. same_at heads bits p j) i j (first_same heads bits j i k)
  unfolding first_same
  first-same j i zero e = record { low = omega arith; high = omega arith; hit = same-at-refl j; before = λ p h l. absurd (omega arith) }
  first-same j i (suc k) e = go (same_at heads bits i j) refl (first-same j (suc i) k (omega arith))
    where
      go : (b : Bool) → same_at heads bits i j ≡ b → First (λ p. same_at heads bits p j) (suc i) j (first_same heads bits j (suc i) k)
          → First (λ p. same_at heads bits p j) i j (cond b i (first_same heads bits j (suc i) k))
      go true q f = record { low = omega arith; high = omega arith; hit = q; before = λ p h l. absurd (omega arith) }
      go false q f = record { low = omega (arith, f.low); high = f.high; hit = f.hit; before = λ p h l. past p (ℕ_discrete i p) h l }
        where
          past : (p : ℕ) → Dec (i ≡ p) → i ≤ p → p < first_same heads bits j (suc i) k → same_at heads bits p j ≡ false
          past p (yes x) h l = rw (← x) q
          past p (no x) h l = f.before p (omega arith) l

  pub leader-first : (j : ℕ) → First (λ p. same_at heads bits p j) 0 j (leader_of heads bits j)
  unfolding leader_of
  leader-first j = first-same j 0 j (omega arith)

-- ---- the columns

module _ (K : ℕ → ℕ → Key) (os : List ℕ) (a : ℕ) where
  -- the key of the clause at place j
  abbrev pub key_at : ℕ → Key
  key_at j = K (get_or os j 0) a

  pub length-heads : length (heads_at K os a) ≡ length os
  unfolding heads_to
  length-heads = length-each (λ j. head_of (key_at j)) (length os)

  pub length-bits : length (bits_at K os a) ≡ length os
  unfolding bits_to
  length-bits = length-each (λ j. bits_of (key_at j)) (length os)

  pub length-leaders : length (leaders_at K os a) ≡ length os
  unfolding leaders_to
  length-leaders = length-each (λ j. leader_of (heads_at K os a) (bits_at K os a) j) (length os)

  pub get_or-heads : (j : ℕ) → j < length os → get_or (heads_at K os a) j 0 ≡ head_of (key_at j)
  unfolding heads_to
  get_or-heads j h = get_or-each (λ j. head_of (key_at j)) (length os) j 0 h

  pub get_d_bits : (j : ℕ) → j < length os → get_or (bits_at K os a) j 0 ≡ bits_of (key_at j)
  unfolding bits_to
  get_d_bits j h = get_or-each (λ j. bits_of (key_at j)) (length os) j 0 h

  pub get_or-leaders : (j : ℕ) → j < length os → get_or (leaders_at K os a) j 0 ≡ leader_of (heads_at K os a) (bits_at K os a) j
  unfolding leaders_to
  get_or-leaders j h = get_or-each (λ j. leader_of (heads_at K os a) (bits_at K os a) j) (length os) j 0 h

  module _ (ranged : (i : ℕ) → i < length os → InRange (key_at i)) where
    pub same_at_lem : (i j : ℕ) → i < length os → j < length os → same_at (heads_at K os a) (bits_at K os a) i j ≡ same (key_at i) (key_at j)
    unfolding same_at
    same_at_lem i j h k = rw (get_or-heads i h, get_or-heads j k, get_d_bits i h, get_d_bits j k) (head-same (key_at i) (key_at j) (ranged i h) (ranged j k))

    -- the leader of clause j is the first clause with an equal key
    pub leader-key : (j : ℕ) → j < length os → First (λ p. same (key_at p) (key_at j)) 0 j (get_or (leaders_at K os a) j 0)
    leader-key j h =
        let f = leader-first (heads_at K os a) (bits_at K os a) j in
        rw (get_or-leaders j h)
        (record {
          low = f.low;
          high = f.high;
          hit = sym (same_at_lem (leader_of (heads_at K os a) (bits_at K os a) j) j (omega (arith, f.high)) h) ∙ f.hit;
          before = λ p u v. sym (same_at_lem p j (omega (arith, f.high)) h) ∙ f.before p u v;
        })

    -- a clause leads if no earlier clause has its key
    pub leads-is : (i : ℕ) → i < length os → leads (leaders_at K os a) i ≡ not (any_to (λ j. same (key_at j) (key_at i)) i)
    unfolding leads
    leads-is i h = go (ℕ_discrete (get_or (leaders_at K os a) i 0) i) (leader-key i h)
      where
        go : Dec (get_or (leaders_at K os a) i 0 ≡ i) → First (λ p. same (key_at p) (key_at i)) 0 i (get_or (leaders_at K os a) i 0)
            → eqb (get_or (leaders_at K os a) i 0) i ≡ not (any_to (λ j. same (key_at j) (key_at i)) i)
        go (yes e) f = rw (any-clear (λ j. same (key_at j) (key_at i)) i (λ p k. f.before p (omega arith) (omega arith)), e) (eq-eqb i i refl)
        go (no e) f = rw (any-hit (λ j. same (key_at j) (key_at i)) i (get_or (leaders_at K os a) i 0) (omega (arith, f.high)) f.hit) (ne_eqb _ _ e)

    -- the clauses that clause i leads are those with its key
    pub member_is : (i j : ℕ) → i < length os → j < length os → leads (leaders_at K os a) i ≡ true → member (leaders_at K os a) i j ≡ same (key_at j) (key_at i)
    unfolding leads member
    member_is i j h k e = go (same (key_at j) (key_at i)) refl
      where
        lead : ℕ
        lead = get_or (leaders_at K os a) j 0

        mine : First (λ p. same (key_at p) (key_at i)) 0 i (get_or (leaders_at K os a) i 0)
        mine = leader-key i h

        its : First (λ p. same (key_at p) (key_at j)) 0 j lead
        its = leader-key j k

        -- with equal keys the leaders are equal
        late : same (key_at j) (key_at i) ≡ true → lead < i → ⊥
        late s l =
            let q : key_at j ≡ key_at i = same-eq (key_at j) (key_at i) s in
            let w : get_or (leaders_at K os a) i 0 ≡ i = eqb-true _ _ e in
            absurd (both_ways _ (mine.before lead (omega arith) (omega arith)) (ap (same (key_at lead)) (sym q) ∙ its.hit))

        early : same (key_at j) (key_at i) ≡ true → i < lead → ⊥
        early s l =
            let q : key_at j ≡ key_at i = same-eq (key_at j) (key_at i) s in
            absurd (both_ways _ (its.before i (omega arith) l) (ap (λ (x : Key). same x (key_at j)) (sym q) ∙ same_refl (key_at j)))

        go : (b : Bool) → same (key_at j) (key_at i) ≡ b → eqb lead i ≡ b
        go true s =
            let u : lead < i → ⊥ = late s in
            let v : i < lead → ⊥ = early s in
            let w : lead ≡ i = omega arith in
            rw w (eq-eqb i i refl)
        go false s = ne_eqb _ _ (λ x. both_ways _ s (ap (same (key_at j)) (sym (ap key_at x) ∙ same-eq (key_at lead) (key_at j) its.hit) ∙ same_refl (key_at j)))
