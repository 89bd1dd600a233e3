-- A call made again, at once or after other walks, leaves the index unchanged.
-- Assumes nothing.
use mathlib.Core.Path.{◌≡◌, refl, ◌∙◌, ap}
use mathlib.Core.Bool.{Bool, true, false, not, ◌&&◌}
use mathlib.Core.List.{List, [], ◌∷◌}
use mathlib.Core.Option.{Option, none, some}
use Prim.Native.Nat.{ℕ, zero, suc, ◌≤◌, ◌<◌, ◌-◌}
use native.Mathlib.Decide.{ℕ_discrete}
use native.Mathlib.Omega.{arith}
use Rattle.std.proofs.lemmas.Bool.{and_parts, both_ways, true≢false}
use lib.ListN.{length}
use Rattle.indexing_iter.specs.Keys.{is_open}
use Rattle.indexing_iter.specs.declared.OptArgIndexKey.{OptArgIndexKey as Key}
use Rattle.indexing.proofs.Expand.{opens, outcome, length-expand, same-choices, same-table, new-table}
use Rattle.indexing.proofs.Grown.{Grown, grown-same, grown-more, grown-trans}
use Rattle.indexing.proofs.Pointers.{Closed, closed-expand}
use Rattle.indexing.proofs.Size.{extra, size-expand}
use Rattle.indexing.specs.Build.{Program}
use Rattle.indexing.specs.Expand.{expanded, expand, State}
use Rattle.indexing.specs.Lines.{Table, switch, on_demand, dead, Index, line_at, find, size}
use Rattle.indexing_scan.proofs.Same.{Alike, skips, passes, stops, outs, gotos}
use Rattle.indexing_scan.proofs.Walks.{Has, has-line, has_new, act-left, has_move, Turn, quiet, stores, refuses, turn, settle-quiet}
use Rattle.indexing_scan.proofs.Walks.{settle-full, step, walk-grown}
use Rattle.indexing_scan.proofs.UnstoredWalk.{left-new}
use Rattle.indexing_scan.specs.Agree.{Call}
use Rattle.indexing_scan.specs.ByArgument.{act, move_on, move, is_on_demand, due, settle, walk_from}
use Rattle.indexing_scan.specs.Walk.{Place, line, unstored, Move, skip, stop, pass, out, goto, Result, look_at, result}

-- places of which nothing is asked
data Anywhere : Place → Place → Type 0 where
  anywhere : {p : Place} → Anywhere p p

alike-any : (m : Move) → Alike Anywhere m m
alike-any skip = skips
alike-any (pass h) = passes
alike-any stop = stops
alike-any (out h o) = outs
alike-any (goto h q) = gotos anywhere

module _ (P : Program) (cap : ℕ) where
  -- ---- what later expansions leave as it was

  -- a table that is not on demand stays
  pub stays : {idx idx' : Index} → Grown P cap idx idx' → (l a : ℕ) → l < length idx → is_on_demand (find a (line_at idx l).tables) ≡ false
      → find a (line_at idx' l).tables ≡ find a (line_at idx l).tables
  stays grown-same l a h e = refl
  stays (grown-more {idx = idx} k b c hk d f g) l a h e =
      let s : find a (line_at (expand P idx k b) l).tables ≡ find a (line_at idx l).tables =
      same-table P idx k b hk l a h (λ x. absurd (both_ways (is_on_demand (find a (line_at idx l).tables)) e (rw (x.0, x.1, d)))) in
      stays g l a (omega (arith, length-expand P idx k b)) (rw s e) ∙ s

  -- a table stays a table
  stays-some : {idx idx' : Index} → Grown P cap idx idx' → (l a : ℕ) → l < length idx → (t : Table) → find a (line_at idx l).tables ≡ some t
      → (u : Table) × (find a (line_at idx' l).tables ≡ some u)
  stays-some grown-same l a h t e = (t, e)
  stays-some (grown-more {idx = idx} k b c hk d f g) l a h t e =
      go (ℕ_discrete l k) (ℕ_discrete a b) (λ u v. stays-some g l a (omega (arith, length-expand P idx k b)) u v)
    where
      go : {X : Type 0} → Dec (l ≡ k) → Dec (a ≡ b) → ((u : Table) → find a (line_at (expand P idx k b) l).tables ≡ some u → X) → X
      go (yes x) (yes y) f = f (outcome P idx k b) (rw (x, y) (new-table P idx k b hk (on_demand c) d))
      go (no x) y f = f t (same-table P idx k b hk l a h (λ z. x z.0) ∙ e)
      go (yes x) (no y) f = f t (same-table P idx k b hk l a h (λ z. y z.1) ∙ e)

  -- an expansion that did not fit does not fit later
  pub full : {idx idx' : Index} → Grown P cap idx idx' → (l a c : ℕ) → l < length idx → find a (line_at idx l).tables ≡ some (on_demand c)
      → cap < size (expand P idx l a)
      → (find a (line_at idx' l).tables ≡ some (on_demand c)) × (cap < size (expand P idx' l a))
  full grown-same l a c h e f = (e, f)
  full (grown-more {idx = idx} k b d hk dk fk g) l a c h e f = full g l a c (omega (arith, length-expand P idx k b)) (sm ∙ e) larger
    where
      other : ¬ ((l ≡ k) × (a ≡ b))
      other x = let z : size (expand P idx l a) ≤ cap = rw (x.0, x.1) fk in omega arith

      sm : find a (line_at (expand P idx k b) l).tables ≡ find a (line_at idx l).tables
      sm = same-table P idx k b hk l a h other

      more : extra P a (line_at (expand P idx k b) l).choices (opens P (expand P idx k b) l a) ≡ extra P a (line_at idx l).choices (opens P idx l a)
      more = rw (same-choices P idx k b hk l h)

      larger : cap < size (expand P (expand P idx k b) l a)
      larger =
          omega (
            arith,
            size-expand P (expand P idx k b) l a c (omega (arith, length-expand P idx k b)) (sm ∙ e),
            size-expand P idx l a c h e,
            size-expand P idx k b d hk dk,
            more,
          )

  -- what is done at a table whose expansion is not due is done later too
  pub same_move : (idx idx' : Index) (p : Place) (a : ℕ) (q : Key) (t : Option Table) → is_on_demand t ≡ false → move_on P idx' p a q t ≡ move_on P idx p a q t
  same_move idx idx' p a q none e = refl
  same_move idx idx' p a q (some (switch b es)) e = refl
  same_move idx idx' p a q (some (on_demand b)) e = absurd (true≢false e)
  same_move idx idx' p a q (some (dead b os)) e = refl

  pub later-due : {idx idx' : Index} → Grown P cap idx idx' → (l a : ℕ) (q : Key) → l < length idx → due idx l a q ≡ false
      → (due idx' l a q ≡ false) × (move P idx' (line l) a q ≡ move P idx (line l) a q)
  unfolding move
  later-due {idx} {idx'} g l a q h e = go (is_open q) refl (find a (line_at idx l).tables) refl
    where
      go : (x : Bool) → is_open q ≡ x → (t : Option Table) → find a (line_at idx l).tables ≡ t
          → (due idx' l a q ≡ false) × (move_on P idx' (line l) a q (find a (line_at idx' l).tables) ≡ move_on P idx (line l) a q (find a (line_at idx l).tables))
      go true x none y = (rw x, rw (stays g l a h (rw y), y))
      go true x (some t) y = let u = stays-some g l a h t y in (rw x, rw (u.1, y, x))
      go false x t y =
          let w : is_on_demand (find a (line_at idx l).tables) ≡ false = rw x at e in
          (rw (x, stays g l a h w) w, rw (stays g l a h w) (same_move idx idx' (line l) a q (find a (line_at idx l).tables) w))

  -- after its expansion a table's expansion is not due
  pub done-due : (idx : Index) (l a c : ℕ) (q : Key) → l < length idx → find a (line_at idx l).tables ≡ some (on_demand c) → due (expand P idx l a) l a q ≡ false
  done-due idx l a c q h d = rw (new-table P idx l a h (on_demand c) d) (go (is_open q) (opens P idx l a))
    where
      go : (x : Bool) (os : List ℕ) → not x && is_on_demand (some (expanded P a (line_at idx l).choices (length idx - l - 1) os)) ≡ false
      go true os = refl
      go false [] = refl
      go false (o ∷ os) = refl

  -- ---- the two walks

  module _ (Q : Call) where
    -- with storing off the index is left
    pub left-off : (n a : ℕ) (idx : Index) (p : Place) → (walk_from P cap Q n a (record { storing = false; index = idx }) p).left ≡ idx
    unfolding walk_from
    left-off zero a idx p = refl
    left-off (suc n) a idx (line l) =
        act-left (λ (i : Index). i ≡ idx) Anywhere (record { storing = false; index = idx }) a
        (λ u. walk_from P cap Q n (suc a) (record { storing = false; index = idx }) u)
        (alike-any (move P idx (line l) a (Q a))) anywhere refl (λ u v w. left-off n (suc a) idx u)
    left-off (suc n) a idx (unstored os) =
        act-left (λ (i : Index). i ≡ idx) Anywhere (record { storing = false; index = idx }) a
        (λ u. walk_from P cap Q n (suc a) (record { storing = false; index = idx }) u)
        (alike-any (move P idx (unstored os) a (Q a))) anywhere refl (λ u v w. left-off n (suc a) idx u)

    abbrev after : ℕ → ℕ → State → Place → Result
    after n a t p = act (result 0 t) look_at a p (move P t.index p a (Q a)) (λ u. walk_from P cap Q n (suc a) t u)

    rest-grown : (n a : ℕ) (t : State) {p p' : Place} → Closed t.index → Has t.index p p' → Grown P cap t.index (after n a t p).left
    rest-grown n a t z r =
        act-left (λ (i : Index). Grown P cap t.index i) (Has t.index) t a (λ u. walk_from P cap Q n (suc a) t u)
        (has_move P t.index z a (Q a) r) r grown-same (λ u v w. walk-grown P cap Q n (suc a) t z w)

    rest-off : (n a : ℕ) (idx : Index) (p : Place) → (after n a (record { storing = false; index = idx }) p).left ≡ idx
    rest-off n a idx p =
        act-left (λ (i : Index). i ≡ idx) Anywhere (record { storing = false; index = idx }) a
        (λ u. walk_from P cap Q n (suc a) (record { storing = false; index = idx }) u)
        (alike-any (move P idx p a (Q a))) anywhere refl (λ u v w. left-off n (suc a) idx u)

    act-again : (idx last : Index) (t : State) (a : ℕ) {p p' : Place} {m m' : Move} (k k' : Place → Result) → Alike (Has idx) m m' → Has idx p p'
        → Grown P cap (act (result 0 t) look_at a p m k).left last
        → ((u v : Place) → Has idx u v → Grown P cap (k u).left last → (k' u).left ≡ last)
        → (act (result 0 (record { storing = true; index = last })) look_at a p m k').left ≡ last
    act-again idx last t a {p} {p'} k k' skips r g f = f p p' r g
    act-again idx last t a {p} {p'} k k' passes r g f = f p p' r g
    act-again idx last t a k k' stops r g f = refl
    act-again idx last t a k k' outs r g f = refl
    act-again idx last t a k k' (gotos {p = u} {q = v} w) r g f = f u v w g

    -- after a walk and any further expansions that fit, the same call leaves the index
    pub again : (n a : ℕ) (idx last : Index) {p p' : Place} → Closed idx → Has idx p p'
        → Grown P cap (walk_from P cap Q n a (record { storing = true; index = idx }) p).left last
        → (walk_from P cap Q n a (record { storing = true; index = last }) p).left ≡ last
    unfolding walk_from
    again zero a idx last z r g = refl
    again (suc n) a idx last z (has_new {os = os}) g = left-new P cap Q (suc n) a (record { storing = true; index = last }) os
    again (suc n) a idx last z (has-line {m = l} h) g =
        go (settle P cap s (line l) a (Q a)) (turn P cap s (line l) a (Q a)) g (λ i zi u v w x. again n (suc a) i last zi w x)
      where
        s : State
        s = record { storing = true; index = idx }

        e : State
        e = record { storing = true; index = last }

        -- the state t is looked at in both walks alike
        alike : (t : Index) → Closed t → l < length t → due t l a (Q a) ≡ false
            → Grown P cap (after n a (record { storing = true; index = t }) (line l)).left last
            → ((u v : Place) → Has t u v → Grown P cap (walk_from P cap Q n (suc a) (record { storing = true; index = t }) u).left last
            → (walk_from P cap Q n (suc a) e u).left ≡ last)
            → (walk_from P cap Q (suc n) a e (line l)).left ≡ last
        alike t zt k d gt ih =
            let ld = later-due (grown-trans P cap (rest-grown n a (record { storing = true; index = t }) zt (has-line k)) gt) l a (Q a) k d in
            ap (λ (x : Result). x.left) (step P cap Q n a e e (line l) (settle-quiet P cap e l a (Q a) ld.0))
            ∙ rw ld.1 (act-again t last (record { storing = true; index = t }) a
            (λ u. walk_from P cap Q n (suc a) (record { storing = true; index = t }) u) (λ u. walk_from P cap Q n (suc a) e u)
            (has_move P t zt a (Q a) (has-line k)) (has-line k) gt ih)

        go : (t : State) → Turn P cap s a (Q a) (line l) t → Grown P cap (after n a t (line l)).left last
            → ((i : Index) → Closed i → (u v : Place) → Has i u v → Grown P cap (walk_from P cap Q n (suc a) (record { storing = true; index = i }) u).left last
            → (walk_from P cap Q n (suc a) e u).left ≡ last)
            → (walk_from P cap Q (suc n) a e (line l)).left ≡ last
        go t (quiet d) gt ih = alike idx z h d gt (ih idx z)
        go t (stores {c = c} d f) gt ih =
            alike (expand P idx l a) (closed-expand P idx l a c h d z) (omega (arith, length-expand P idx l a)) (done-due idx l a c (Q a) h d) gt
            (ih (expand P idx l a) (closed-expand P idx l a c h d z))
        go t (refuses {c = c} w d f) gt ih =
            let fl = full (rw (rest-off n a idx (line l)) at gt) l a c h d f in
            let wl : due last l a (Q a) ≡ true = rw (fl.0, (and_parts (not (is_open (Q a))) (is_on_demand (find a (line_at idx l).tables)) w).0) in
            ap (λ (x : Result). x.left) (step P cap Q n a e (record { storing = false; index = last }) (line l) (settle-full P cap last l a (Q a) wl fl.1))
            ∙ rest-off n a last (line l)
