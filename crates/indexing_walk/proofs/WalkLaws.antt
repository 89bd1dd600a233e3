-- One turn of the walk at the first table left of a stored line, and what is left of the result then (document 01, section 5).
-- Assumes nothing.
use mathlib.Core.Path.{◌≡◌, refl, sym, ap, ap₂, ◌∙◌, subst}
use mathlib.Core.Bool.{Bool, true, false, cond, not, ◌&&◌}
use mathlib.Core.List.{List, [], ◌∷◌, ◌++◌}
use mathlib.Core.Option.{Option, none, some}
use Prim.Native.Nat.{ℕ, suc, ◌+◌, ◌-◌, ◌≤◌, ◌<◌}
use native.Mathlib.Numerals.{add-one}
use native.Mathlib.Omega.{arith}
use Rattle.std.proofs.lemmas.Bool.{eq-eqb, ne_eqb}
use lib.ListN.{length}
use Rattle.records.specs.declared.Rec.{Rec}
use Rattle.indexing_iter.specs.Keys.{is_open}
use Rattle.indexing_iter.specs.declared.OptArgIndexKey.{OptArgIndexKey as Key}
use Rattle.indexing.proofs.Expand.{opens, outcome}
use Rattle.indexing.proofs.Order.{Args, Beyond, beyond-ext, beyond-int, Orderly}
use Rattle.indexing.specs.Build.{Program}
use Rattle.indexing.specs.Expand.{expanded, expand, State}
use Rattle.indexing.specs.Lines.{Ptr, ext, int, Entry, Table, switch, on_demand, arg_of, Index, line_at, find, size}
use Rattle.indexing_scan.proofs.Choose.{Ways, ways-none, ways-some, choose-linked}
use Rattle.indexing_scan.proofs.ExpandedLaws.{at-find}
use Rattle.indexing_scan.proofs.Steps.{Left, walk-to, walk_end}
use Rattle.indexing_walk.specs.Walking.{Comes}
use Rattle.indexing_scan.proofs.UnstoredWalk.{walk-new}
use Rattle.indexing_scan.proofs.Walks.{settle-quiet, settle-fits, settle-full, step}
use Rattle.indexing_scan.specs.Agree.{Call}
use Rattle.indexing_scan.specs.Places.{At}
use Rattle.indexing_scan.specs.ByArgument.{act, move_on, move, due, is_on_demand, settle, answer_from, walk_from}
use Rattle.indexing_scan.specs.Walk.{Chosen, Step, Place, line, unstored, Move, skip, stop, pass, out, goto, fail, external, choose}
use Rattle.indexing_scan.specs.Walk.{ending, Result, look_at, result}

pub comes-start : (W : Result) → Comes W 0 W
comes-start W = record { kind = refl; offsets = refl; path = omega arith; number = refl; whole = refl; left = refl }

pub comes-look : (W : Result) (k : ℕ) (s : Step) (Z : Result) → Comes W k (look_at s Z) → Comes W (k + 1) Z
comes-look W k s Z c = record {
  kind = c.kind;
  offsets = c.offsets;
  path = omega (arith, c.path);
  number = c.number;
  whole = c.whole;
  left = c.left;
}

-- ---- the tables left

-- the tables behind the first are left from the argument after its own on
pub left-next : (P : Program) (idx : Index) (p : Place) (b : ℕ) (u : Table) (ts : List Table) → Left P idx p b (u ∷ ts) → Left P idx p (arg_of u + 1) ts
left-next P idx p b u ts l = rw (add-one (arg_of u)) (record {
  args = l.args.2;
  looks = λ c x y.
      sym (ap (λ (z : Bool). cond z (some u) (find c ts)) (ne_eqb (arg_of u) c (omega arith)))
      ∙ l.looks c (omega (arith, l.args.0)) y;
})

-- tables whose arguments rise: those before t are not for t's argument or a later one
find-on : (M n c : ℕ) (us : List Table) (t : Table) (ts : List Table) → Args M n (us ++ (t ∷ ts)) → arg_of t ≤ c → find c (us ++ (t ∷ ts)) ≡ find c (t ∷ ts)
find-on M n c [] t ts r h = refl
find-on M n c (u ∷ us) t ts r h =
    rw (ne_eqb (arg_of u) c (omega (arith, below (suc (arg_of u)) us r.2))) (find-on M (suc (arg_of u)) c us t ts r.2 h)
  where
    below : (n : ℕ) (us : List Table) → Args M n (us ++ (t ∷ ts)) → n ≤ arg_of t
    below n [] r = r.0
    below n (u ∷ us) r = omega (arith, r.0, below (suc (arg_of u)) us r.2)

args-on : (M n : ℕ) (us : List Table) (t : Table) (ts : List Table) → Args M n (us ++ (t ∷ ts)) → Args M (arg_of t) (t ∷ ts)
args-on M n [] t ts r = (omega arith, r.1, r.2)
args-on M n (u ∷ us) t ts r = args-on M (suc (arg_of u)) us t ts r.2

-- where a walk stands before a table, the tables from its argument on are left
pub at_left : (P : Program) {m : ℕ} {idx : Index} {rs : List Rec} {l p : ℕ} {t : Table} {ts : List Table} → At m idx rs l (t ∷ ts) p
    → Args P.arity 1 (line_at idx l).tables → Left P idx (line l) (arg_of t) (t ∷ ts)
at_left P {idx = idx} {l = l} {t = t} {ts = ts} at r =
    let r' : Args P.arity 1 (at.passed ++ (t ∷ ts)) = subst (Args P.arity 1) (sym at.tables) r in
    record {
      args = args-on P.arity 1 at.passed t ts r';
      looks = λ c x y. sym (find-on P.arity 1 c at.passed t ts r' x) ∙ ap (find c) at.tables;
    }

-- the tables of a line that the walk starts in or is led to
pub left-whole : (P : Program) (idx : Index) (l b : ℕ) → Args P.arity b (line_at idx l).tables → Left P idx (line l) b (line_at idx l).tables
left-whole P idx l b r = record { args = r; looks = λ c x y. refl }

-- where a switch leads: a later line, with tables for later arguments
-- the distance of what was chosen, and n where it has none
distance : ℕ → Option (Chosen Ptr) → ℕ
distance n none = n
distance n (some c) = go c.to
  where
    go : Ptr → ℕ
    go (ext o) = n
    go (int d) = d

leads-args : (M : ℕ) (idx : Index) (l b h d : ℕ) {x y : Option (Chosen Ptr)} → Ways (Beyond M idx l b) x y → x ≡ some (record { how = h; to = int d })
    → (1 ≤ d) × (l + d < length idx) × Args M (suc b) (line_at idx (l + d)).tables
unfolding distance
leads-args M idx l b h d ways-none e = absurd (omega (arith, ap (distance (suc d)) e))
leads-args M idx l b h d (ways-some beyond-ext) e = absurd (omega (arith, ap (distance (suc d)) e))
leads-args M idx l b h d (ways-some (beyond-int {d = k} u v r)) e =
    let n : k ≡ d = ap (distance 0) e in
    (omega arith, omega arith, rw n at r)

pub led : (P : Program) (key : Key) {m : ℕ} {idx : Index} {rs : List Rec} {l a h d : ℕ} {es : List (Entry Ptr)} {ts : List Table} {p : ℕ}
    → At m idx rs l (switch a es ∷ ts) p → Orderly P idx → choose P key es ≡ some (record { how = h; to = int d })
    → (1 ≤ d) × (l + d < length idx) × Args P.arity (suc a) (line_at idx (l + d)).tables
led P key {idx = idx} {l = l} {a = a} {h = h} {d = d} {es = es} at o e =
    leads-args P.arity idx l a h d
    (choose-linked (Beyond P.arity idx l a) P key (o.leads.within l a a es at.line (at-find at P.arity (o.rises l at.line)))) e

module _ (P : Program) where
  -- the table found for u's argument, and what it does there
  pub found : (idx : Index) (l b : ℕ) (u : Table) (ts : List Table) → Left P idx (line l) b (u ∷ ts) → find (arg_of u) (line_at idx l).tables ≡ some u
  found idx l b u ts f =
      let e : find (arg_of u) (u ∷ ts) ≡ some u = rw (eq-eqb (arg_of u) _ refl) in
      sym (f.looks (arg_of u) f.args.0 f.args.1) ∙ e

  pub move-is : (idx : Index) (l b : ℕ) (q : Key) (u : Table) (ts : List Table) → Left P idx (line l) b (u ∷ ts)
      → move P idx (line l) (arg_of u) q ≡ move_on P idx (line l) (arg_of u) q (some u)
  unfolding move
  move-is idx l b q u ts f = ap (move_on P idx (line l) (arg_of u) q) (found idx l b u ts f)

  module _ (cap : ℕ) (Q : Call) where
    -- what is left of the walk: from argument b on, in line l
    unfoldable pub rest : State → ℕ → ℕ → Result
    rest s l b = walk_from P cap Q (P.arity + 1 - b) b s (line l)

    -- what is left after the move at argument a of line l
    abbrev pub Turns : Result → ℕ → State → ℕ → ℕ → Move → Type 0
    Turns W k s l a skip = Comes W k (rest s l (a + 1))
    Turns W k s l a (pass h) = Comes W (k + 1) (rest s l (a + 1))
    Turns W k s l a stop = Comes W (k + 1) (result 0 s (record { kind = fail; offsets = []; path = [] }))
    Turns W k s l a (out h o) = Comes W (k + 1) (result 0 s (record { kind = external; offsets = o ∷ []; path = [] }))
    Turns W k s l a (goto h (line j)) = Comes W (k + 1) (rest s j (a + 1))
    Turns W k s l a (goto h (unstored os)) = Comes W (k + 1) (result 0 s (answer_from P Q (P.arity + 1 - (a + 1)) (a + 1) [] (unstored os)))

    to-table : (s : State) (l b : ℕ) (u : Table) (ts : List Table) → Left P s.index (line l) b (u ∷ ts)
        → rest s l b ≡ walk_from P cap Q (suc (P.arity + 1 - (arg_of u + 1))) (arg_of u) s (line l)
    unfolding rest
    to-table s l b u ts f =
        walk-to P cap Q (P.arity + 1 - b) b (suc (P.arity + 1 - (arg_of u + 1))) (arg_of u) s (line l)
        (omega (arith, f.args.0, f.args.1)) f.args.0
        (λ c x y. sym (f.looks c x (omega (arith, f.args.1))) ∙ none_below P.arity (arg_of u) c (u ∷ ts) (omega arith, f.args.1, f.args.2) y)
      where
        none_below : (m n b : ℕ) (ts : List Table) → Args m n ts → b < n → find b ts ≡ none
        none_below m n b [] r h = refl
        none_below m n b (t ∷ ts) r h =
            rw (ne_eqb (arg_of t) b (omega (arith, r.0))) (none_below m (suc (arg_of t)) b ts r.2 (omega (arith, r.0)))

    acted : (W : Result) (k : ℕ) (s : State) (l a : ℕ) (m : Move)
        → Comes W k (act (result 0 s) look_at a (line l) m (λ v. walk_from P cap Q (P.arity + 1 - (a + 1)) (a + 1) s v)) → Turns W k s l a m
    unfolding rest
    acted W k s l a skip c = c
    acted W k s l a (pass h) c = comes-look W k (record { did = h; arg = a }) (walk_from P cap Q (P.arity + 1 - (a + 1)) (a + 1) s (line l)) c
    acted W k s l a stop c = comes-look W k (record { did = 3; arg = a }) (result 0 s (record { kind = fail; offsets = []; path = [] })) c
    acted W k s l a (out h o) c = comes-look W k (record { did = h; arg = a }) (result 0 s (record { kind = external; offsets = o ∷ []; path = [] })) c
    acted W k s l a (goto h (line j)) c = comes-look W k (record { did = h; arg = a }) (walk_from P cap Q (P.arity + 1 - (a + 1)) (a + 1) s (line j)) c
    acted W k s l a (goto h (unstored os)) c =
        subst (Comes W (k + 1)) (walk-new P cap Q (P.arity + 1 - (a + 1)) (a + 1) s os)
        (comes-look W k (record { did = h; arg = a }) (walk_from P cap Q (P.arity + 1 - (a + 1)) (a + 1) s (unstored os)) c)

    -- a turn at a table in the state in which it is looked at
    pub turns : (W : Result) (k : ℕ) (s : State) (l b : ℕ) (u : Table) (ts : List Table) (m : Move) → Left P s.index (line l) b (u ∷ ts)
        → settle P cap s (line l) (arg_of u) (Q (arg_of u)) ≡ s → move P s.index (line l) (arg_of u) (Q (arg_of u)) ≡ m
        → Comes W k (rest s l b) → Turns W k s l (arg_of u) m
    turns W k s l b u ts m f e g c =
        acted W k s l (arg_of u) m
        (subst (Comes W k)
        (to-table s l b u ts f ∙ step P cap Q (P.arity + 1 - (arg_of u + 1)) (arg_of u) s s (line l) e
        ∙ ap₂ (λ (x : Move) (y : ℕ). act (result 0 s) look_at (arg_of u) (line l) x (λ v. walk_from P cap Q (P.arity + 1 - (arg_of u + 1)) y s v)) g (sym (add-one (arg_of u))))
        c)

    -- no table is left
    pub ends : (W : Result) (k : ℕ) (s : State) (l b : ℕ) → b ≤ P.arity + 1 → Left P s.index (line l) b [] → Comes W k (rest s l b)
        → Comes W k (result l s (ending s.index (line l)))
    unfolding rest
    ends W k s l b h f c = subst (Comes W k) (walk_end P cap Q (P.arity + 1 - b) b s (line l) (omega arith) (λ x y z. sym (f.looks x y z))) c

    -- the state in which a table is looked at, where no expansion is due
    pub quiet-open : (s : State) (l : ℕ) (a : ℕ) → is_open (Q a) ≡ true → settle P cap s (line l) a (Q a) ≡ s
    quiet-open s l a e = settle-quiet P cap s l a (Q a) (rw e refl)

    and-false : (x : Bool) → x && false ≡ false
    and-false true = refl
    and-false false = refl

    pub quiet-table : (s : State) (l b : ℕ) (u : Table) (ts : List Table) → Left P s.index (line l) b (u ∷ ts) → is_on_demand (some u) ≡ false
        → settle P cap s (line l) (arg_of u) (Q (arg_of u)) ≡ s
    quiet-table s l b u ts f e =
        settle-quiet P cap s l (arg_of u) (Q (arg_of u)) (rw (found s.index l b u ts f, e) (and-false (not (is_open (Q (arg_of u))))))

    -- an expansion that is due and fits: the walk is that of the expanded index, at the same table
    is-due : (idx : Index) (l b a : ℕ) (ts : List Table) → Left P idx (line l) b (on_demand a ∷ ts) → is_open (Q a) ≡ false → due idx l a (Q a) ≡ true
    is-due idx l b a ts f e = rw (found idx l b (on_demand a) ts f, e) refl

    -- the walk in the state in which a table is looked at is the same
    settled : (W : Result) (k : ℕ) (s t : State) (l b : ℕ) (u : Table) (ts : List Table) → Left P s.index (line l) b (u ∷ ts)
        → settle P cap s (line l) (arg_of u) (Q (arg_of u)) ≡ t → settle P cap t (line l) (arg_of u) (Q (arg_of u)) ≡ t
        → Comes W k (rest s l b) → Comes W k (walk_from P cap Q (suc (P.arity + 1 - (arg_of u + 1))) (arg_of u) t (line l))
    settled W k s t l b u ts f e g c =
        let n : ℕ = P.arity + 1 - (arg_of u + 1) in
        subst (Comes W k) (to-table s l b u ts f ∙ step P cap Q n (arg_of u) s t (line l) e ∙ sym (step P cap Q n (arg_of u) t t (line l) g)) c

    pub expands : (W : Result) (k : ℕ) (idx : Index) (l b a : ℕ) (ts : List Table) (v : Table) → Left P idx (line l) b (on_demand a ∷ ts) → is_open (Q a) ≡ false
        → size (expand P idx l a) ≤ cap → find a (line_at (expand P idx l a) l).tables ≡ some v → is_on_demand (some v) ≡ false
        → Comes W k (rest (record { storing = true; index = idx }) l b) → Comes W k (rest (record { storing = true; index = expand P idx l a }) l a)
    unfolding rest
    expands W k idx l b a ts v f e h g d c =
        let s : State = record { storing = true; index = idx } in
        let t : State = record { storing = true; index = expand P idx l a } in
        let n : suc (P.arity + 1 - (a + 1)) ≡ P.arity + 1 - a = omega (arith, f.args.1) in
        let q : due (expand P idx l a) l a (Q a) ≡ false = rw (g, d) (and-false (not (is_open (Q a)))) in
        rw n at (settled W k s t l b (on_demand a) ts f (settle-fits P cap idx l a (Q a) (is-due idx l b a ts f e) h) (settle-quiet P cap t l a (Q a) q) c)

    -- one that does not fit: from here on nothing is stored
    pub refuses : (W : Result) (k : ℕ) (idx : Index) (l b a : ℕ) (ts : List Table) → Left P idx (line l) b (on_demand a ∷ ts) → is_open (Q a) ≡ false
        → cap < size (expand P idx l a)
        → Comes W k (rest (record { storing = true; index = idx }) l b) → Comes W k (rest (record { storing = false; index = idx }) l b)
    refuses W k idx l b a ts f e h c =
        let s : State = record { storing = true; index = idx } in
        let t : State = record { storing = false; index = idx } in
        subst (Comes W k) (sym (to-table t l b (on_demand a) ts f))
        (settled W k s t l b (on_demand a) ts f (settle-full P cap idx l a (Q a) (is-due idx l b a ts f e) h) refl c)

  -- what an on-demand table has become is none
  pub not-demand : (idx : Index) (l a : ℕ) → is_on_demand (some (outcome P idx l a)) ≡ false
  not-demand idx l a = go (opens P idx l a)
    where
      go : (os : List ℕ) → is_on_demand (some (expanded P a (line_at idx l).choices (length idx - l - 1) os)) ≡ false
      go [] = refl
      go (o ∷ os) = refl
