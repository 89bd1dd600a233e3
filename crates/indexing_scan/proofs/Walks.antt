-- What a walk stores changes no answer: its answer does not depend on the capacity, and the index that it leaves answers every call as the one it got.
-- Assumes nothing.
use mathlib.Core.Path.{◌≡◌, refl, ◌∙◌, ap}
use mathlib.Core.Bool.{Bool, true, false, cond, not, ◌&&◌}
use mathlib.Core.List.{List}
use mathlib.Core.Option.{Option, none, some}
use Prim.Native.Nat.{ℕ, zero, suc, ◌+◌, ◌≤◌, ◌<◌}
use native.Mathlib.Omega.{arith}
use Rattle.std.proofs.lemmas.Bool.{and_parts, le-leb, leb-true}
use lib.Dec.{leb, nleb→lt}
use lib.ListN.{length}
use Rattle.indexing_iter.specs.Keys.{is_open}
use Rattle.indexing_iter.specs.declared.OptArgIndexKey.{OptArgIndexKey as Key}
use Rattle.indexing.proofs.Expand.{length-expand, no_switch}
use Rattle.indexing.proofs.Grown.{Grown, grown-same, grown-more, grown-trans, grown-closed, grown-length}
use Rattle.indexing.proofs.Pointers.{Inside, Closed, closed-expand}
use Rattle.indexing.specs.Build.{Program, later_table}
use Rattle.indexing.specs.Expand.{expand, State, attempt}
use Rattle.indexing.specs.Lines.{Table, switch, on_demand, dead, Index, line_at, find, size}
use Rattle.indexing_scan.proofs.Choose.{choose-linked}
use Rattle.indexing_scan.proofs.Same.{Alike, skips, passes, stops, outs, gotos, act-alike, follow-alike, moves-alike, kept, same_from}
use Rattle.indexing_scan.specs.Agree.{Call}
use Rattle.indexing_scan.specs.ByArgument.{act, move, answer_from, is_on_demand, due, settle, walk_from}
use Rattle.indexing_scan.specs.Walk.{Place, line, unstored, Move, skip, stop, pass, out, goto, look, Result}
use Rattle.indexing_scan.specs.Walk.{look_at, result}

-- a place that the index has
pub data Has (idx : Index) : Place → Place → Type 0 where
  has-line : {m : ℕ} → m < length idx → Has idx (line m) (line m)
  has_new : {os : List ℕ} → Has idx (unstored os) (unstored os)

has_same : {idx : Index} {p q : Place} → Has idx p q → p ≡ q
has_same (has-line k) = refl
has_same has_new = refl

has_left : {idx : Index} {p q : Place} → Has idx p q → Has idx p p
has_left (has-line k) = has-line k
has_left has_new = has_new

pub on-demand : (t : Option Table) → is_on_demand t ≡ true → (c : ℕ) × (t ≡ some (on_demand c))
on-demand none e = let z : ◌≡◌ {A = ℕ} 0 1 = cc in absurd (omega arith)
on-demand (some (switch a es)) e = let z : ◌≡◌ {A = ℕ} 0 1 = cc in absurd (omega arith)
on-demand (some (on_demand a)) e = (a, refl)
on-demand (some (dead a os)) e = let z : ◌≡◌ {A = ℕ} 0 1 = cc in absurd (omega arith)

-- what holds of the index left, if it holds of the present one and of what every way on leaves
pub act-left : (Φ : Index → Type 0) (R : Place → Place → Type 0) (t : State) (a : ℕ) {p p' : Place} {m m' : Move} (k : Place → Result)
    → Alike R m m' → R p p' → Φ t.index → ((u v : Place) → R u v → Φ (k u).left) → Φ (act (result 0 t) look_at a p m k).left
act-left Φ R t a {p} {p'} k skips r z f = f p p' r
act-left Φ R t a {p} {p'} k passes r z f = f p p' r
act-left Φ R t a k stops r z f = z
act-left Φ R t a k outs r z f = z
act-left Φ R t a k (gotos {p = u} {q = v} s) r z f = f u v s

act-found : (t : State) (a : ℕ) (p : Place) (m : Move) (k : Place → Result) → (act (result 0 t) look_at a p m k).found ≡ act (λ r. r) look a p m (λ u. (k u).found)
act-found t a p skip k = refl
act-found t a p (pass h) k = refl
act-found t a p stop k = refl
act-found t a p (out h o) k = refl
act-found t a p (goto h q) k = refl

module _ (P : Program) where
  -- in an index whose pointers lead to lines of it, a move leads to a place that it has
  pub has_move : (idx : Index) → Closed idx → (b : ℕ) (q : Key) {p p' : Place} → Has idx p p' → Alike (Has idx) (move P idx p b q) (move P idx p b q)
  unfolding move
  has_move idx closed b q (has-line {m = m} k) = moves-alike P (Has idx) (λ os. has_new) idx idx (line m) (line m) b q (find b (line_at idx m).tables) refl
      (λ d es e. follow-alike P (Has idx) (λ os. has_new) (length idx) m (λ n kn. has-line kn)
      (choose-linked (Inside (length idx) m) P q (closed.within m b d es k e)))
  has_move idx closed b q (has_new {os = os}) =
      moves-alike P (Has idx) (λ os. has_new) idx idx (unstored os) (unstored os) b q (later_table P b os) refl (λ d es e. absurd (no_switch P b os d es e))

  module _ (cap : ℕ) where
    -- what is done before the table for a is looked at: nothing; an expansion that is due is stored; one that is due does not fit
    pub data Turn (s : State) (a : ℕ) (q : Key) : Place → State → Type 0 where
      still : {os : List ℕ} → Turn s a q (unstored os) s
      quiet : {l : ℕ} → s.storing && due s.index l a q ≡ false → Turn s a q (line l) s
      stores : {l c : ℕ} → find a (line_at s.index l).tables ≡ some (on_demand c) → size (expand P s.index l a) ≤ cap
          → Turn s a q (line l) (record { storing = true; index = expand P s.index l a })
      refuses : {l c : ℕ} → due s.index l a q ≡ true → find a (line_at s.index l).tables ≡ some (on_demand c)
          → cap < size (expand P s.index l a) → Turn s a q (line l) (record { storing = false; index = s.index })

    pub turn : (s : State) (p : Place) (a : ℕ) (q : Key) → Turn s a q p (settle P cap s p a q)
    turn s (unstored os) a q = still
    turn s (line l) a q = go (s.storing && due s.index l a q) refl
      where
        fits : due s.index l a q ≡ true → (c : ℕ) → find a (line_at s.index l).tables ≡ some (on_demand c) → (x : Bool)
            → leb (size (expand P s.index l a)) cap ≡ x
            → Turn s a q (line l) (cond x (record { storing = true; index = expand P s.index l a }) (record { storing = false; index = s.index }))
        fits w c d true e = stores d (leb-true (size (expand P s.index l a)) cap e)
        fits w c d false e = refuses w d (nleb→lt (size (expand P s.index l a)) cap (rw e tt))

        go : (x : Bool) → s.storing && due s.index l a q ≡ x → Turn s a q (line l) (cond x (attempt cap s.index (expand P s.index l a)) s)
        go false e = quiet e
        go true e =
            let w = and_parts s.storing (due s.index l a q) e in
            let t : Option Table = find a (line_at s.index l).tables in
            let d = on-demand t (and_parts (not (is_open q)) (is_on_demand t) w.1).1 in
            fits w.1 d.0 d.1 (leb (size (expand P s.index l a)) cap) refl

    -- no expansion changes an answer
    pub grown-answer : {idx idx' : Index} → Grown P cap idx idx' → Closed idx → (Q : Call) (n b m : ℕ) → n + b ≡ suc P.arity → m < length idx
        → answer_from P Q n b idx' (line m) ≡ answer_from P Q n b idx (line m)
    grown-answer grown-same z Q n b m e k = refl
    grown-answer (grown-more {idx = idx} l a c h d f g) z Q n b m e k =
        grown-answer g (closed-expand P idx l a c h d z) Q n b m e (omega (arith, length-expand P idx l a))
        ∙ same_from P idx l a c h d z Q n b e (kept k)

    -- one turn
    turn-grown : (s : State) (a : ℕ) (t : State) (q : Key) {p p' : Place} → Turn s a q p t → Has s.index p p' → Grown P cap s.index t.index
    turn-grown s a t q still r = grown-same
    turn-grown s a t q (quiet w) r = grown-same
    turn-grown s a t q (stores {l = l} {c = c} d f) (has-line k) = grown-more l a c k d f grown-same
    turn-grown s a t q (refuses w d f) r = grown-same

    has-grown : {idx idx' : Index} {p p' : Place} → Grown P cap idx idx' → Has idx p p' → Has idx' p p'
    has-grown g (has-line {m = m} k) = has-line {m = m} (omega (arith, grown-length P cap g))
    has-grown g has_new = has_new

    turn-answer : (s : State) (a : ℕ) (t : State) (q : Key) (Q : Call) (n : ℕ) {p p' : Place} → Turn s a q p t → Has s.index p p' → Closed s.index
        → n + a ≡ suc P.arity
        → answer_from P Q n a t.index p ≡ answer_from P Q n a s.index p
    turn-answer s a t q Q n still r z e = refl
    turn-answer s a t q Q n (quiet w) r z e = refl
    turn-answer s a t q Q n (stores {l = l} {c = c} d f) (has-line k) z e = same_from P s.index l a c k d z Q n a e (kept k)
    turn-answer s a t q Q n (refuses w d f) r z e = refl

    module _ (Q : Call) where
      -- the answer is that of the index handed in, whatever fits
      pub walk-answer : (n a : ℕ) (s : State) {p p' : Place} → n + a ≡ suc P.arity → Closed s.index → Has s.index p p'
          → (walk_from P cap Q n a s p).found ≡ answer_from P Q n a s.index p
      unfolding walk_from answer_from
      walk-answer zero a s e z r = refl
      walk-answer (suc n) a s {p} e z r =
          let t : State = settle P cap s p a (Q a) in
          let g : Grown P cap s.index t.index = turn-grown s a t (Q a) (turn s p a (Q a)) r in
          let z' : Closed t.index = grown-closed P cap g z in
          act-found t a p (move P t.index p a (Q a)) (λ u. walk_from P cap Q n (suc a) t u)
          ∙ act-alike (λ x. x) look (Has t.index) a (λ u. (walk_from P cap Q n (suc a) t u).found) (λ u. answer_from P Q n (suc a) t.index u)
          (has_move t.index z' a (Q a) (has-grown g r)) (has_left (has-grown g r))
          (λ u v w. walk-answer n (suc a) t (omega arith) z' w ∙ ap (λ (x : Place). answer_from P Q n (suc a) t.index x) (has_same w))
          ∙ turn-answer s a t (Q a) Q (suc n) (turn s p a (Q a)) r z e

      -- the index left comes of the one handed in by expansions that fit
      pub walk-grown : (n a : ℕ) (s : State) {p p' : Place} → Closed s.index → Has s.index p p' → Grown P cap s.index (walk_from P cap Q n a s p).left
      unfolding walk_from
      walk-grown zero a s z r = grown-same
      walk-grown (suc n) a s {p} {p'} z r =
          let t : State = settle P cap s p a (Q a) in
          let g : Grown P cap s.index t.index = turn-grown s a t (Q a) (turn s p a (Q a)) r in
          let z' : Closed t.index = grown-closed P cap g z in
          act-left (λ i. Grown P cap s.index i) (Has t.index) t a (λ u. walk_from P cap Q n (suc a) t u)
          (has_move t.index z' a (Q a) (has-grown g r)) (has-grown g r)
          g (λ u v w. grown-trans P cap g (walk-grown n (suc a) t z' w))

-- ---- the state in which a table is looked at

module _ (P : Program) (cap : ℕ) where
  -- no expansion is due
  pub settle-quiet : (s : State) (l a : ℕ) (q : Key) → due s.index l a q ≡ false → settle P cap s (line l) a q ≡ s
  settle-quiet s l a q e = go s.storing
    where
      go : (x : Bool) → cond (x && due s.index l a q) (attempt cap s.index (expand P s.index l a)) s ≡ s
      go true = rw e
      go false = refl

  -- one is due, and fits
  pub settle-fits : (idx : Index) (l a : ℕ) (q : Key) → due idx l a q ≡ true → size (expand P idx l a) ≤ cap
      → settle P cap (record { storing = true; index = idx }) (line l) a q ≡ record { storing = true; index = expand P idx l a }
  settle-fits idx l a q e f = rw (e, le-leb (size (expand P idx l a)) cap f) refl

  -- one is due, and does not fit
  pub settle-full : (idx : Index) (l a : ℕ) (q : Key) → due idx l a q ≡ true → cap < size (expand P idx l a)
      → settle P cap (record { storing = true; index = idx }) (line l) a q ≡ record { storing = false; index = idx }
  settle-full idx l a q e f = rw e (go (leb (size (expand P idx l a)) cap) refl)
    where
      go : (x : Bool) → leb (size (expand P idx l a)) cap ≡ x
          → ◌≡◌ {A = State} (cond x (record { storing = true; index = expand P idx l a }) (record { storing = false; index = idx }))
          (record { storing = false; index = idx })
      go true x = absurd (omega (arith, leb-true (size (expand P idx l a)) cap x))
      go false x = refl

  -- one turn of the walk
  pub step : (Q : Call) (n a : ℕ) (s t : State) (p : Place) → settle P cap s p a (Q a) ≡ t
      → walk_from P cap Q (suc n) a s p ≡ act (result 0 t) look_at a p (move P t.index p a (Q a)) (λ u. walk_from P cap Q n (suc a) t u)
  unfolding walk_from
  step Q n a s t p e = ap (λ (t : State). act (result 0 t) look_at a p (move P t.index p a (Q a)) (λ u. walk_from P cap Q n (suc a) t u)) e
