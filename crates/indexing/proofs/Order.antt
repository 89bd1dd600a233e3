-- Order in an index: the arguments of a line's tables rise, and a switch's internal pointers lead to lines whose arguments all exceed the switch's.
-- Expansions keep it.
-- Assumes nothing.
use mathlib.Core.Path.{◌≡◌, refl, sym, ◌∙◌, ap}
use mathlib.Core.Bool.{Bool, true, false, cond}
use mathlib.Core.List.{List, [], ◌∷◌, ◌++◌}
use mathlib.Core.Option.{Option, some}
use Prim.Native.Nat.{ℕ, zero, suc, ◌+◌, ◌≤◌, ◌<◌, ◌-◌}
use native.Mathlib.Decide.{ℕ_discrete, dec_lt}
use native.Mathlib.Omega.{arith}
use Rattle.std.proofs.lemmas.Bool.{eq-eqb, eqb-true, ne_eqb}
use lib.Dec.{eqb}
use lib.ListN.{length, drop, set}
use Rattle.indexing.proofs.Built.{seed-demand, seed-length, seed-switch, built-is-expanded}
use Rattle.indexing.proofs.Expand.{expanded-arg, Leads, leads-ext, leads-int, opens, outcome, at-line, at_other, Later, later-none}
use Rattle.indexing.proofs.Expand.{later-demand, later-dead, later-view}
use Rattle.indexing.proofs.Linked.{linked-left}
use Rattle.indexing.proofs.Pointers.{Inside, inside-ext, inside-int, Links, Closed, expand-new, longer, links-expand}
use Rattle.indexing.specs.Build.{Program, cons_opt, open_at, later_tables, new_line, build}
use Rattle.indexing.specs.Expand.{added, expand, expand_at}
use Rattle.indexing.specs.Lines.{Ptr, ext, int, Table, on_demand, Choice, Line, Index, line_at, offs, arg_of, find, swap}
use Rattle.indexing.specs.Seed.{seed}

-- the arguments rise from n on, and are at most m
abbrev pub Args : ℕ → ℕ → List Table → Type 0
Args m n [] = Unit {0}
Args m n (t ∷ ts) = (n ≤ arg_of t) × (arg_of t ≤ m) × Args m (suc (arg_of t)) ts

pub args-weaken : (m k n : ℕ) (ts : List Table) → k ≤ n → Args m n ts → Args m k ts
args-weaken m k n [] h r = tt
args-weaken m k n (t ∷ ts) h r = (omega (arith, r.0), r.1, r.2)

args-swap : (m n a : ℕ) (u : Table) (ts : List Table) → arg_of u ≡ a → Args m n ts → Args m n (swap a u ts)
args-swap m n a u [] e r = tt
args-swap m n a u (t ∷ ts) e r = go (eqb (arg_of t) a) refl (args-swap m (suc (arg_of t)) a u ts e r.2)
  where
    go : (x : Bool) → eqb (arg_of t) a ≡ x → Args m (suc (arg_of t)) (swap a u ts) → Args m n (cond x (u ∷ ts) (t ∷ swap a u ts))
    go true y ih = rw (e ∙ sym (eqb-true _ _ y)) r
    go false y ih = (r.0, r.1, ih)

pub args-later : (P : Program) (n a : ℕ) (os : List ℕ) → a + n ≡ suc P.arity → Args P.arity a (later_tables P n a os)
args-later P zero a os e = tt
args-later P (suc n) a os e = go (later-view P a os) (args-later P n (suc a) os (omega arith))
  where
    go : {x : Option Table} → Later P a x → Args P.arity (suc a) (later_tables P n (suc a) os) → Args P.arity a (cons_opt x (later_tables P n (suc a) os))
    go later-none r = args-weaken P.arity a (suc a) (later_tables P n (suc a) os) (omega arith) r
    go later-demand r = (omega arith, omega arith, r)
    go later-dead r = (omega arith, omega arith, r)

-- the argument of a table that is found
pub find-args : (m n a : ℕ) (t : Table) (ts : List Table) → Args m n ts → find a ts ≡ some t → (n ≤ a) × (a ≤ m)
find-args m n a t [] r e = let z : ◌≡◌ {A = ℕ} 0 1 = cc in absurd (omega arith)
find-args m n a t (u ∷ ts) r e = go (eqb (arg_of u) a) refl e (find-args m (suc (arg_of u)) a t ts r.2)
  where
    go : (x : Bool) → eqb (arg_of u) a ≡ x → cond x (some u) (find a ts) ≡ some t → (find a ts ≡ some t → (suc (arg_of u) ≤ a) × (a ≤ m)) → (n ≤ a) × (a ≤ m)
    go true y f ih = let w : arg_of u ≡ a = eqb-true _ _ y in (omega (arith, r.0), omega (arith, r.1))
    go false y f ih = let w = ih f in (omega (arith, r.0, w.0), w.1)

-- ---- where the arguments rise, a table expanded at its place is the one for its argument

args-drop : (m n i : ℕ) (ts : List Table) → Args m n ts → Args m n (drop i ts)
args-drop m n zero ts r = r
args-drop m n (suc i) [] r = tt
args-drop m n (suc i) (t ∷ ts) r = args-weaken m n (suc (arg_of t)) (drop i ts) (omega (arith, r.0)) (args-drop m (suc (arg_of t)) i ts r.2)

set-swap : (m n i : ℕ) (t u : Table) (ts us : List Table) → Args m n ts → drop i ts ≡ t ∷ us → set ts i u ≡ swap (arg_of t) u ts
set-swap m n zero t u [] us r e = let z : ◌≡◌ {A = ℕ} 0 1 = cc in absurd (omega arith)
set-swap m n (suc i) t u [] us r e = let z : ◌≡◌ {A = ℕ} 0 1 = cc in absurd (omega arith)
set-swap m n zero t u (v ∷ ts) us r e = let z : v ≡ t = cc in rw (z, eq-eqb (arg_of t) _ refl)
set-swap m n (suc i) t u (v ∷ ts) us r e =
    let l : Args m (suc (arg_of v)) (t ∷ us) = rw e at (args-drop m (suc (arg_of v)) i ts r.2) in
    rw (ne_eqb (arg_of v) (arg_of t) (omega (arith, l.0))) (ap (λ (ws : List Table). v ∷ ws) (set-swap m (suc (arg_of v)) i t u ts us r.2 e))

pub find-drop : (m n i : ℕ) (t : Table) (ts us : List Table) → Args m n ts → drop i ts ≡ t ∷ us → find (arg_of t) ts ≡ some t
find-drop m n zero t [] us r e = let z : ◌≡◌ {A = ℕ} 0 1 = cc in absurd (omega arith)
find-drop m n (suc i) t [] us r e = let z : ◌≡◌ {A = ℕ} 0 1 = cc in absurd (omega arith)
find-drop m n zero t (v ∷ ts) us r e = let z : v ≡ t = cc in rw (z, eq-eqb (arg_of t) _ refl)
find-drop m n (suc i) t (v ∷ ts) us r e =
    let l : Args m (suc (arg_of v)) (t ∷ us) = rw e at (args-drop m (suc (arg_of v)) i ts r.2) in
    rw (ne_eqb (arg_of v) (arg_of t) (omega (arith, l.0))) (find-drop m (suc (arg_of v)) i t ts us r.2 e)

drop-set : (i : ℕ) (t u : Table) (ts us : List Table) → drop i ts ≡ t ∷ us → drop i (set ts i u) ≡ u ∷ us
drop-set zero t u [] us e = let z : ◌≡◌ {A = ℕ} 0 1 = cc in absurd (omega arith)
drop-set (suc i) t u [] us e = let z : ◌≡◌ {A = ℕ} 0 1 = cc in absurd (omega arith)
drop-set zero t u (v ∷ ts) us e = let z : ts ≡ us = cc in ap (λ (ws : List Table). u ∷ ws) z
drop-set (suc i) t u (v ∷ ts) us e = drop-set i t u ts us e

-- what was replaced by its argument stands at its place
pub drop-swap : (m n i : ℕ) (t u : Table) (ts us : List Table) → Args m n ts → drop i ts ≡ t ∷ us → drop i (swap (arg_of t) u ts) ≡ u ∷ us
drop-swap m n i t u ts us r e = ap (drop i) (sym (set-swap m n i t u ts us r e)) ∙ drop-set i t u ts us e

-- by its place, by its argument: the same index
pub expand-at : (P : Program) (m n : ℕ) (idx : Index) (l i : ℕ) (t : Table) (us : List Table) → Args m n (line_at idx l).tables
    → drop i (line_at idx l).tables ≡ t ∷ us → expand_at P idx l i (arg_of t) ≡ expand P idx l (arg_of t)
unfolding expand expand_at
expand-at P m n idx l i t us r e =
    let a : ℕ = arg_of t in
    let here : Line = line_at idx l in
    ap (λ (ts : List Table). set idx l (record { tables = ts; choices = here.choices }) ++ added P a here.choices (opens P idx l a))
    (set-swap m n i t (outcome P idx l a) here.tables us r e)

-- an internal pointer of line l's switch on b: at least one line on, to a line whose arguments exceed b
pub data Beyond (m : ℕ) (idx : Index) (l b : ℕ) : Ptr → Ptr → Type 0 where
  beyond-ext : {o : ℕ} → Beyond m idx l b (ext o) (ext o)
  beyond-int : {d : ℕ} → 1 ≤ d → l + d < length idx → Args m (suc b) (line_at idx (l + d)).tables → Beyond m idx l b (int d) (int d)

-- the arguments of every line rise, and pointers lead beyond
pub record Orderly (P : Program) (idx : Index) : Type 0 where
  pub rises : (l : ℕ) → l < length idx → Args P.arity 1 (line_at idx l).tables
  pub leads : Links (λ i l b. Beyond P.arity i l b) idx

-- ---- an expansion keeps it

module _ (P : Program) (idx : Index) (l a c : ℕ) (h : l < length idx) (dem : find a (line_at idx l).tables ≡ some (on_demand c)) (orderly : Orderly P idx) where
  high : (1 ≤ a) × (a ≤ P.arity)
  high = find-args P.arity 1 a (on_demand c) (line_at idx l).tables (orderly.rises l h) dem

  -- an old line's arguments are what they were
  args_old : (n m : ℕ) → m < length idx → Args P.arity n (line_at idx m).tables → Args P.arity n (line_at (expand P idx l a) m).tables
  args_old n m k r = go (ℕ_discrete m l)
    where
      go : Dec (m ≡ l) → Args P.arity n (line_at (expand P idx l a) m).tables
      go (yes e) =
          rw (e, at-line P idx l a h) (args-swap P.arity n a (outcome P idx l a) (line_at idx l).tables
          (expanded-arg P a (line_at idx l).choices (length idx - l - 1) (opens P idx l a)) (rw e at r))
      go (no ne) = rw (at_other P idx l a h m k ne) r

  args-new : (cs : List Choice) → Args P.arity (suc a) (new_line P a cs).tables
  args-new cs = args-later P (P.arity - a) (suc a) (offs cs) (omega (arith, high))

  beyond-old : (m b : ℕ) (x y : Ptr) → Beyond P.arity idx m b x y → Beyond P.arity (expand P idx l a) m b x x
  beyond-old m b x y beyond-ext = beyond-ext
  beyond-old m b x y (beyond-int {d = d} u v r) = beyond-int {d = d} u (omega (arith, longer P idx l a c h dem)) (args_old (suc b) (m + d) v r)

  beyond-new : (x : Ptr) (os : List ℕ) → Leads P (expand P idx l a) a l x os → Beyond P.arity (expand P idx l a) l a x x
  beyond-new x os (leads-ext e) = beyond-ext
  beyond-new x os (leads-int {d = d} u e made) = beyond-int {d = d} u made.inside (rw made.is (args-new made.choices))

  pub orderly-expand : Orderly P (expand P idx l a)
  orderly-expand = record {
    rises = λ m k. rising m (dec_lt m (length idx));
    leads = links-expand P idx l a c h dem (λ i l b. Beyond P.arity i l b) orderly.leads beyond-old beyond-new;
  }
    where
      rising : (m : ℕ) → Dec (m < length idx) → Args P.arity 1 (line_at (expand P idx l a) m).tables
      rising m (yes k) = args_old 1 m k (orderly.rises m k)
      rising m (no ne) =
          expand-new P (λ (x : Line). Args P.arity 1 x.tables) a tt
          (λ cs. args-weaken P.arity 1 (suc a) (new_line P a cs).tables (omega arith) (args-new cs)) idx l m (omega arith)

-- ---- the built index

module _ (P : Program) (c : ℕ) (os : List ℕ) (low : 1 ≤ c) (high : c ≤ P.arity) where
  seed-rises : (l : ℕ) → Args P.arity 1 (line_at (seed P c os) l).tables
  unfolding seed
  seed-rises zero = (low, high, args-later P (P.arity - c) (suc c) os (omega arith))
  seed-rises (suc l) = tt

  seed-orderly : Orderly P (seed P c os)
  seed-orderly = record { rises = λ l k. seed-rises l; leads = record { within = λ l b d es k e. absurd (seed-switch P c os l b d es e) } }

  pub built-orderly : open_at P c os ≡ [] → Orderly P (build P c os)
  built-orderly keyed =
      rw (built-is-expanded P c os keyed) (orderly-expand P (seed P c os) 0 c c (omega (arith, seed-length P c os)) (seed-demand P c os) seed-orderly)

pub orderly-closed : (P : Program) (idx : Index) → Orderly P idx → Closed idx
orderly-closed P idx o = record { within = λ l b c es h e. linked-left (go l b) (o.leads.within l b c es h e) }
  where
    go : (l b : ℕ) (x y : Ptr) → Beyond P.arity idx l b x y → Inside (length idx) l x x
    go l b x y beyond-ext = inside-ext
    go l b x y (beyond-int u v r) = inside-int v
