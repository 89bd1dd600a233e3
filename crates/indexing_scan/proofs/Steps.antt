-- On an orderly index the walk table by table is the walk by arguments.
-- Assumes nothing.
use mathlib.Core.Path.{◌≡◌, refl, sym, ◌∙◌, ap, subst}
use mathlib.Core.Bool.{Bool, true, false, cond, not, ◌&&◌}
use mathlib.Core.List.{List, [], ◌∷◌}
use mathlib.Core.Option.{Option, none, some}
use Prim.Native.Nat.{ℕ, zero, suc, ◌+◌, ◌≤◌, ◌<◌, ◌-◌}
use native.Mathlib.Decide.{ℕ_discrete}
use native.Mathlib.Omega.{arith}
use Rattle.std.proofs.lemmas.Bool.{eq-eqb, ne_eqb}
use lib.ListN.{length, drop}
use Rattle.indexing_iter.specs.Keys.{is_open}
use Rattle.indexing_iter.specs.declared.OptArgIndexKey.{OptArgIndexKey as Key}
use Rattle.indexing.proofs.Expand.{outcome, expanded-arg, opens, at-line, new-table, length-expand, same-table, no_switch, later-find}
use Rattle.indexing.proofs.Order.{Args, args-later, drop-swap, expand-at, Beyond, beyond-ext, beyond-int, Orderly, orderly-expand}
use Rattle.indexing.specs.Build.{Program, later_table}
use Rattle.indexing.specs.Lines.{Ptr, Table, switch, on_demand, dead, Line, Index, line_at, arg_of, find}
use Rattle.indexing.specs.Expand.{expand, State, attempt}
use Rattle.indexing_scan.proofs.Choose.{Ways, ways-none, ways-some, choose-linked}
use Rattle.indexing_scan.proofs.Same.{Alike, skips, passes, stops, outs, gotos, moves-alike}
use Rattle.indexing_scan.proofs.Walks.{Turn, still, quiet, stores, refuses, turn, settle-quiet, step}
use Rattle.indexing_scan.specs.Agree.{Call}
use Rattle.indexing_scan.specs.ByArgument.{act, table_at, move, is_on_demand, due, settle, walk_from, walk_by}
use Rattle.indexing_scan.specs.Walk.{Chosen, Place, line, unstored, Move, skip, make, follow, ending, tables_of, meet, Result, look_at}
use Rattle.indexing_scan.specs.Walk.{result, line_number, tables_in, expand_first, ready, visit, walk_on, walk}

-- tables with greater arguments are not for a smaller one
find-below : (m n b : ℕ) (ts : List Table) → Args m n ts → b < n → find b ts ≡ none
find-below m n b [] r h = refl
find-below m n b (t ∷ ts) r h = rw (ne_eqb (arg_of t) b (omega (arith, r.0))) (find-below m (suc (arg_of t)) b ts r.2 (omega (arith, r.0)))

module _ (P : Program) where
  -- the tables ts are what is left of place p from argument a on
  pub record Left (idx : Index) (p : Place) (a : ℕ) (ts : List Table) : Type 0 where
    pub args : Args P.arity a ts
    pub looks : (b : ℕ) → a ≤ b → b ≤ P.arity → find b ts ≡ table_at P idx p b

  -- a place whose tables are all for arguments above b
  pub data Ready (idx : Index) (b : ℕ) : Place → Place → Type 0 where
    ready-line : {m : ℕ} → m < length idx → Args P.arity (suc b) (line_at idx m).tables → Ready idx b (line m) (line m)
    ready-new : {os : List ℕ} → Ready idx b (unstored os) (unstored os)

  ready-left : (idx : Index) (b : ℕ) {p p' : Place} → b ≤ P.arity → Ready idx b p p' → Left idx p (suc b) (tables_of P idx b p)
  ready-left idx b h (ready-line k r) = record { args = r; looks = λ c u v. refl }
  ready-left idx b h (ready-new {os = os}) =
      record { args = args-later P (P.arity - b) (suc b) os (omega arith); looks = λ c u v. later-find P (P.arity - b) (suc b) c os u (omega arith) }

  -- a place that the index has
  pub data Here (idx : Index) : Place → Type 0 where
    here-line : {m : ℕ} → m < length idx → Here idx (line m)
    here-new : {os : List ℕ} → Here idx (unstored os)

  ready-here : (idx : Index) (b : ℕ) {p p' : Place} → Ready idx b p p' → Here idx p
  ready-here idx b (ready-line k r) = here-line k
  ready-here idx b ready-new = here-new

  follow-ready : (idx : Index) (l b : ℕ) {x y : Option (Chosen Ptr)} → Ways (Beyond P.arity idx l b) x y
      → Alike (Ready idx b) (follow (line l) x) (follow (line l) y)
  follow-ready idx l b ways-none = stops
  follow-ready idx l b (ways-some beyond-ext) = outs
  follow-ready idx l b (ways-some (beyond-int u v r)) = gotos (ready-line v r)

  move-ready : (idx : Index) → Orderly P idx → (b : ℕ) (q : Key) {p : Place} → Here idx p → Alike (Ready idx b) (move P idx p b q) (move P idx p b q)
  unfolding move
  move-ready idx o b q (here-line {m = m} k) = moves-alike P (Ready idx b) (λ os. ready-new) idx idx (line m) (line m) b q (find b (line_at idx m).tables) refl
      (λ d es e. follow-ready idx m b (choose-linked (Beyond P.arity idx m b) P q (o.leads.within m b d es k e)))
  move-ready idx o b q (here-new {os = os}) =
      moves-alike P (Ready idx b) (λ os. ready-new) idx idx (unstored os) (unstored os) b q (later_table P b os) refl
      (λ d es e. absurd (no_switch P b os d es e))

  module _ (cap : ℕ) (Q : Call) where
    -- an argument without a table is passed over
    pub no_move : (a : ℕ) (idx : Index) (p : Place) → table_at P idx p a ≡ none → move P idx p a (Q a) ≡ skip
    unfolding move
    no_move a idx p e = rw e

    -- where no table for it is on demand nothing is expanded
    no_due : (a l : ℕ) (idx : Index) → is_on_demand (find a (line_at idx l).tables) ≡ false → due idx l a (Q a) ≡ false
    no_due a l idx e = rw e (go (not (is_open (Q a))))
      where
        go : (x : Bool) → x && false ≡ false
        go true = refl
        go false = refl

    pub skip-one : (n a : ℕ) (s : State) (p : Place) → table_at P s.index p a ≡ none → walk_from P cap Q (suc n) a s p ≡ walk_from P cap Q n (suc a) s p
    skip-one n a s (line l) e =
        step P cap Q n a s s (line l) (settle-quiet P cap s l a (Q a) (no_due a l s.index (rw e)))
        ∙ ap (λ (m : Move). act (result 0 s) look_at a (line l) m (λ u. walk_from P cap Q n (suc a) s u)) (no_move a s.index (line l) e)
    skip-one n a s (unstored os) e =
        step P cap Q n a s s (unstored os) refl
        ∙ ap (λ (m : Move). act (result 0 s) look_at a (unstored os) m (λ u. walk_from P cap Q n (suc a) s u)) (no_move a s.index (unstored os) e)

    pub walk-to : (n a n' b : ℕ) (s : State) (p : Place) → n + a ≡ n' + b → a ≤ b → ((c : ℕ) → a ≤ c → c < b → table_at P s.index p c ≡ none)
        → walk_from P cap Q n a s p ≡ walk_from P cap Q n' b s p
    walk-to zero a n' b s p e h f = let x : a ≡ b = omega arith in let y : 0 ≡ n' = omega arith in cc
    walk-to (suc n) a n' b s p e h f = go (ℕ_discrete a b) (walk-to n (suc a) n' b s p (omega arith))
      where
        go : Dec (a ≡ b)
            → (suc a ≤ b → ((c : ℕ) → suc a ≤ c → c < b → table_at P s.index p c ≡ none) → walk_from P cap Q n (suc a) s p ≡ walk_from P cap Q n' b s p)
            → walk_from P cap Q (suc n) a s p ≡ walk_from P cap Q n' b s p
        go (yes x) ih = let y : suc n ≡ n' = omega arith in cc
        go (no x) ih = skip-one n a s p (f a (omega arith) (omega arith)) ∙ ih (omega arith) (λ c u v. f c (omega arith) v)

    pub walk_end : (n a : ℕ) (s : State) (p : Place) → n + a ≡ suc P.arity → ((c : ℕ) → a ≤ c → c ≤ P.arity → table_at P s.index p c ≡ none)
        → walk_from P cap Q n a s p ≡ result (line_number p) s (ending s.index p)
    unfolding walk_from
    walk_end zero a s p e f = refl
    walk_end (suc n) a s p e f = skip-one n a s p (f a (omega arith) (omega arith)) ∙ walk_end n (suc a) s p (omega arith) (λ c u v. f c (omega arith) v)

    -- what is left of the place after its first table, in the same index, and in the one that the walk goes on with
    left-next : (idx : Index) (a b : ℕ) (u : Table) (ts : List Table) (p : Place) → arg_of u ≡ b → a ≤ b → Left idx p a (u ∷ ts) → Left idx p (suc b) ts
    left-next idx a b u ts p e k l = record {
      args = subst (λ (x : ℕ). Args P.arity (suc x) ts) e l.args.2;
      looks = λ c x y. sym (ap (λ (z : Bool). cond z (some u) (find c ts)) (ne_eqb (arg_of u) c (omega arith))) ∙ l.looks c (omega arith) y;
    }

    rest-left : (s : State) (a b : ℕ) (t : State) (u : Table) (ts : List Table) {p : Place} → Turn P cap s b (Q b) p t → Here s.index p → arg_of u ≡ b → a ≤ b
        → Left s.index p a (u ∷ ts) → Left t.index p (suc b) ts
    rest-left s a b t u ts {p} still h e k l = left-next s.index a b u ts p e k l
    rest-left s a b t u ts {p} (quiet w) h e k l = left-next s.index a b u ts p e k l
    rest-left s a b t u ts (stores {l = m} d f) (here-line h) e k l =
        let n : Left s.index (line m) (suc b) ts = left-next s.index a b u ts (line m) e k l in
        record { args = n.args; looks = λ c x y. n.looks c x y ∙ sym (same-table P s.index m b h m c h (λ z. omega (arith, z.1))) }
    rest-left s a b t u ts {p} (refuses w d f) h e k l = left-next s.index a b u ts p e k l

    turn-here : (s : State) (b : ℕ) (t : State) {p : Place} → Turn P cap s b (Q b) p t → Here s.index p → Here t.index p
    turn-here s b t still r = here-new
    turn-here s b t (quiet w) r = r
    turn-here s b t (stores d f) (here-line {m = l} k) = here-line {m = l} (omega (arith, length-expand P s.index l b))
    turn-here s b t (refuses w d f) r = r

    turn-orderly : (s : State) (b : ℕ) (t : State) {p : Place} → Turn P cap s b (Q b) p t → Here s.index p → Orderly P s.index → Orderly P t.index
    turn-orderly s b t still r o = o
    turn-orderly s b t (quiet w) r o = o
    turn-orderly s b t (stores {l = l} {c = c} d f) (here-line k) o = orderly-expand P s.index l b c k d o
    turn-orderly s b t (refuses w d f) r o = o

    -- ---- the walk table by table

    -- the first of the tables left is the one for its argument
    left-first : (idx : Index) (p : Place) (a : ℕ) (u : Table) (us : List Table) → Left idx p a (u ∷ us) → table_at P idx p (arg_of u) ≡ some u
    left-first idx p a u us l =
        sym (l.looks (arg_of u) l.args.0 l.args.1) ∙ ap (λ (z : Bool). cond z (some u) (find (arg_of u) us)) (eq-eqb (arg_of u) _ refl)

    -- it is expanded at its place if it is expanded for its argument
    ready-settle : (s : State) (p : Place) (c i a : ℕ) (u : Table) (us : List Table) → drop i (tables_of P s.index c p) ≡ u ∷ us
        → Left s.index p a (u ∷ us) → Orderly P s.index → Here s.index p → ready P cap Q s p i ≡ settle P cap s p (arg_of u) (Q (arg_of u))
    ready-settle s (unstored os) c i a u us e l o h = refl
    ready-settle s (line m) c i a u us e l o (here-line k) = rw e (go u e (left-first s.index (line m) a u us l))
      where
        go : (u : Table) → drop i (line_at s.index m).tables ≡ u ∷ us → find (arg_of u) (line_at s.index m).tables ≡ some u
            → expand_first P cap Q s m i (u ∷ us) ≡ settle P cap s (line m) (arg_of u) (Q (arg_of u))
        go (switch b es) y f = sym (settle-quiet P cap s m b (Q b) (no_due b m s.index (rw f)))
        go (dead b os) y f = sym (settle-quiet P cap s m b (Q b) (no_due b m s.index (rw f)))
        go (on_demand b) y f = rw (f, expand-at P P.arity 1 s.index m i (on_demand b) us (o.rises m k) y) (both s.storing (not (is_open (Q b))))
          where
            both : (x y : Bool) → cond (x && y) (attempt cap s.index (expand P s.index m b)) s
                ≡ cond (x && (y && true)) (attempt cap s.index (expand P s.index m b)) s
            both false y = refl
            both true true = refl
            both true false = refl

    ready-end : (s : State) (p : Place) (c i : ℕ) → drop i (tables_of P s.index c p) ≡ [] → ready P cap Q s p i ≡ s
    ready-end s (line m) c i e = rw e
    ready-end s (unstored os) c i e = refl

    -- what is looked at then: a table for the same argument at the same place, with the same tables behind it
    record Seen (idx : Index) (p : Place) (c i b : ℕ) (us : List Table) : Type 0 where
      table : Table
      stands : drop i (tables_of P idx c p) ≡ table ∷ us
      same : arg_of table ≡ b
      found : table_at P idx p b ≡ some table

    seen : (s : State) (c i a : ℕ) (u : Table) (us : List Table) (t : State) {p : Place} → Turn P cap s (arg_of u) (Q (arg_of u)) p t
        → drop i (tables_of P s.index c p) ≡ u ∷ us → Left s.index p a (u ∷ us) → Orderly P s.index → Here s.index p
        → Seen t.index p c i (arg_of u) us
    seen s c i a u us t {p} still e l o h = record { table = u; stands = e; same = refl; found = left-first s.index p a u us l }
    seen s c i a u us t {p} (quiet w) e l o h = record { table = u; stands = e; same = refl; found = left-first s.index p a u us l }
    seen s c i a u us t {p} (refuses w d f) e l o h = record { table = u; stands = e; same = refl; found = left-first s.index p a u us l }
    seen s c i a u us t (stores {l = m} {c = z} d f) e l o (here-line k) =
        let b : ℕ = arg_of u in
        let idx : Index = s.index in
        record {
          table = outcome P idx m b;
          stands = ap (λ (x : Line). drop i x.tables) (at-line P idx m b k)
              ∙ drop-swap P.arity 1 i u (outcome P idx m b) (line_at idx m).tables us (o.rises m k) e;
          same = expanded-arg P b (line_at idx m).choices (length idx - m - 1) (opens P idx m b);
          found = new-table P idx m b k (on_demand z) d;
        }

    drop-next : (i : ℕ) (ts us : List Table) (u : Table) → drop i ts ≡ u ∷ us → drop (suc i) ts ≡ us
    drop-next zero [] us u e = let z : ◌≡◌ {A = ℕ} 0 1 = cc in absurd (omega arith)
    drop-next (suc i) [] us u e = let z : ◌≡◌ {A = ℕ} 0 1 = cc in absurd (omega arith)
    drop-next zero (t ∷ ts) us u e = cc
    drop-next (suc i) (t ∷ ts) us u e = drop-next i ts us u e

    make-steps : (idx : Index) (t : State) (a : ℕ) (p : Place) {m m' : Move} (next : Result) (first k : Place → Result) → Alike (Ready idx a) m m'
        → next ≡ k p → ((q q' : Place) → Ready idx a q q' → first q ≡ k q) → make (result 0 t) look_at a m next first ≡ act (result 0 t) look_at a p m k
    make-steps idx t a p next first k skips e f = e
    make-steps idx t a p next first k (passes {h = z}) e f = ap (look_at (record { did = z; arg = a })) e
    make-steps idx t a p next first k stops e f = refl
    make-steps idx t a p next first k outs e f = refl
    make-steps idx t a p next first k (gotos {h = z} {p = q} {q = q'} r) e f = ap (look_at (record { did = z; arg = a })) (f q q' r)

    -- the look at a table is the move for its argument
    visit-is : (t : State) (p : Place) (c i b : ℕ) (us : List Table) (next : Result) (first : ℕ → Place → Result) (v : Seen t.index p c i b us)
        → visit P cap Q t p (drop i (tables_of P t.index c p)) next first ≡ make (result 0 t) look_at b (move P t.index p b (Q b)) next (first b)
    unfolding move
    visit-is t p c i b us next first v =
        ap (λ (ts : List Table). visit P cap Q t p ts next first) v.stands
        ∙ ap (λ (a : ℕ). make (result 0 t) look_at a (meet P t.index p a (Q a) v.table) next (first a)) v.same
        ∙ sym (rw v.found refl)

    pub steps-walk : (fuel n a : ℕ) (s : State) (p : Place) (c i : ℕ) (ts : List Table) → drop i (tables_of P s.index c p) ≡ ts
        → n + a ≡ suc P.arity → n < fuel → 1 ≤ a → Left s.index p a ts → Orderly P s.index → Here s.index p
        → walk_on P cap Q fuel s p c i ≡ walk_from P cap Q n a s p
    unfolding walk_on
    steps-walk zero n a s p c i ts d e k z l o h = absurd (omega arith)
    steps-walk (suc fuel) n a s p c i [] d e k z l o h =
        ap (λ (t : State). visit P cap Q t p (drop i (tables_of P t.index c p)) (walk_on P cap Q fuel t p c (suc i)) (λ b q. walk_on P cap Q fuel t q b 0))
        (ready-end s p c i d)
        ∙ ap (λ (ts : List Table). visit P cap Q s p ts (walk_on P cap Q fuel s p c (suc i)) (λ b q. walk_on P cap Q fuel s q b 0)) d
        ∙ sym (walk_end n a s p e (λ c u v. sym (l.looks c u v)))
    steps-walk (suc fuel) n a s p c i (u ∷ us) d e k z l o h =
        let b : ℕ = arg_of u in
        let r : Args P.arity a (u ∷ us) = l.args in
        let m : ℕ = P.arity - b in
        let t : State = settle P cap s p b (Q b) in
        let w : Turn P cap s b (Q b) p t = turn P cap s p b (Q b) in
        let o' : Orderly P t.index = turn-orderly s b t w h o in
        let h' : Here t.index p = turn-here s b t w h in
        let v : Seen t.index p c i b us = seen s c i a u us t w d l o h in
        ap (λ (t : State). visit P cap Q t p (drop i (tables_of P t.index c p)) (walk_on P cap Q fuel t p c (suc i)) (λ b q. walk_on P cap Q fuel t q b 0))
        (ready-settle s p c i a u us d l o h)
        ∙ visit-is t p c i b us (walk_on P cap Q fuel t p c (suc i)) (λ b q. walk_on P cap Q fuel t q b 0) v
        ∙ make-steps t.index t b p (walk_on P cap Q fuel t p c (suc i)) (λ q. walk_on P cap Q fuel t q b 0) (λ x. walk_from P cap Q m (suc b) t x)
        (move-ready t.index o' b (Q b) h')
        (steps-walk fuel m (suc b) t p c (suc i) us (drop-next i (tables_of P t.index c p) us v.table v.stands) (omega (arith, r.1))
        (omega (arith, r.0, r.1)) (omega arith) (rest-left s a b t u us w h refl r.0 l) o' h')
        (λ q q' x. steps-walk fuel m (suc b) t q b 0 (tables_of P t.index b q) refl (omega (arith, r.1)) (omega (arith, r.0, r.1)) (omega arith)
        (ready-left t.index b r.1 x) o' (ready-here t.index b x))
        ∙ sym (walk-to n a (suc m) b s p (omega (arith, r.1)) r.0
        (λ c x y. sym (l.looks c x (omega (arith, r.1))) ∙ find-below P.arity b c (u ∷ us) (omega arith, r.1, r.2) y)
        ∙ step P cap Q m b s t p refl)

    -- the whole walk, with any bound above the arity
    pub bound-is-walk : (fuel : ℕ) (idx : Index) → P.arity < fuel → Orderly P idx → 0 < length idx
        → walk_on P cap Q fuel (record { storing = true; index = idx }) (line 0) 0 0 ≡ walk_by P cap Q idx
    bound-is-walk fuel idx k o h =
        steps-walk fuel P.arity 1 (record { storing = true; index = idx }) (line 0) 0 0 (line_at idx 0).tables refl
        (omega arith) k (omega arith) (record { args = o.rises 0 h; looks = λ b u v. refl }) o (here-line h)

    pub walk_is : (idx : Index) → Orderly P idx → 0 < length idx → walk P cap Q idx ≡ walk_by P cap Q idx
    walk_is idx o h = bound-is-walk (suc (P.arity + tables_in idx)) idx (omega arith) o h
