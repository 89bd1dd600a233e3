-- Selection as an invariant of the index: an index whose line 0 has its switches right selects every clause that agrees, and every expansion keeps that.
-- It does not go through the fresh index, so it serves where an index is changed otherwise.
-- Assumes nothing.
use mathlib.Core.Path.{◌≡◌, refl, sym, ◌∙◌, ap, subst}
use mathlib.Core.Bool.{Bool, true, false, cond}
use mathlib.Core.List.Sublistᴰ
use mathlib.Core.List.{List, [], ◌∷◌, map}
use mathlib.Core.Option.{Option, none, some}
use Prim.Native.Nat.{ℕ, zero, suc, ◌+◌, ◌≤◌, ◌<◌, ◌-◌}
use native.Mathlib.Decide.{ℕ_discrete}
use native.Mathlib.Omega.{arith}
use Rattle.std.specs.List.{list_any}
use lib.ListN.{length}
use Rattle.indexing_iter.specs.Keys.{is_open, same}
use Rattle.indexing_iter.specs.declared.OptArgIndexKey.{OptArgIndexKey as Key}
use Rattle.indexing.proofs.Built.{seed-clauses, seed-demand, seed-length, seed-switch, seed-closed, built-is-expanded}
use Rattle.indexing.proofs.Expand.{single-is, Made, Leads, leads-ext, leads-int, opens, length-expand, same-choices, same-table, new-table}
use Rattle.indexing.proofs.Expand.{switch-linked, no_switch, made-clauses}
use Rattle.indexing.proofs.Grown.{Grown, grown-same, grown-more}
use Rattle.indexing.proofs.Linked.{Linked, linked-map}
use Rattle.indexing.proofs.Pointers.{Closed, later-none-switch, closed-expand}
use Rattle.indexing.specs.Build.{Program, open_at, virtual, new_entries, build}
use Rattle.indexing.specs.Expand.{expanded, expand}
use Rattle.indexing.specs.Seed.{seed}
use Rattle.indexing.specs.Lines.{Ptr, ext, int, Entry, Table, switch, on_demand, dead, Index, line_at, offs, find}
use Rattle.indexing_scan.proofs.Choose.{Ways, ways-none, ways-some, choose-linked}
use Rattle.indexing_scan.proofs.Same.{kept, same_from}
use Rattle.indexing_scan.specs.Agree.{Call, agree}
use Rattle.indexing_scan.specs.ByArgument.{act, move_on, move, answer_from, answer}
use Rattle.indexing_scan.specs.Walk.{Chosen, line, unstored, Move, pass, goto, look, clauses, follow, demand, move_at}
use Rattle.claims.proofs.Selects.{Buckets, Right, chosen-right, virtual-buckets, virtual-complete, Selects, Picks, picks-skip, picks-pass}
use Rattle.claims.proofs.Selects.{picks-stop, picks-out, picks-goto, NoSwitchAt, demand-picks, selects-trans, selects-from, agree_at_lem}

module _ (P : Program) where
  -- line m, come to by a switch on b, selects from the clauses bs, whatever the call
  pub record Serves (idx : Index) (b m : ℕ) (bs : List ℕ) : Type 0 where
    pub inside : m < length idx
    pub holds : offs (line_at idx m).choices ≡ bs
    pub selects : (Q : Call) (n : ℕ) → n + suc b ≡ suc P.arity → Selects (agree P Q) bs (answer_from P Q n (suc b) idx (line m)).offsets

  -- a pointer of line 0, and the clauses that it leads to
  pub data Goes (idx : Index) (b : ℕ) : Ptr → List ℕ → Type 0 where
    goes-ext : {o : ℕ} → Goes idx b (ext o) (o ∷ [])
    goes-int : {d : ℕ} {bs : List ℕ} → Serves idx b (0 + d) bs → Goes idx b (int d) bs

  -- a switch on b in a line of the clauses os: they all have a key there, and the entries lead to the buckets of keys that miss none
  pub record Switched (idx : Index) (b : ℕ) (es : List (Entry Ptr)) (os : List ℕ) : Type 0 where
    pub keyed : open_at P b os ≡ []
    pub parts : List (Entry (List ℕ))
    pub right : Buckets P b os parts
    pub complete : (q : Key) → is_open q ≡ false → list_any (λ e. same e.key q) parts ≡ false → list_any (λ k. same k q) (map (λ o. P.key_of o b) os) ≡ false
    pub linked : Linked (Goes idx b) es parts

  -- line 0 has the clauses os, and its switches are right
  pub record Faithful (idx : Index) (os : List ℕ) : Type 0 where
    pub has : clauses idx (line 0) ≡ os
    pub switches : (b c : ℕ) (es : List (Entry Ptr)) → find b (line_at idx 0).tables ≡ some (switch c es) → Switched idx b es os

  -- ---- a faithful index selects every clause that agrees

  module _ (Q : Call) (idx : Index) (os : List ℕ) (faithful : Faithful idx os) where
    -- a move from line 0 that loses no clause
    data Keeps (b : ℕ) : Move → Type 0 where
      keeps-pick : {m : Move} → Picks (agree P Q) os m → Keeps b m
      keeps_line : {z m : ℕ} {bs : List ℕ} → Selects (agree P Q) os bs → Serves idx b m bs → Keeps b (goto z (line m))

    follow-keeps : (b : ℕ) {x : Option (Chosen Ptr)} {y : Option (Chosen (List ℕ))} → Ways (Goes idx b) x y → Right (agree P Q) os y
        → Keeps b (follow (line 0) x)
    follow-keeps b ways-none r = keeps-pick (picks-stop r)
    follow-keeps b (ways-some goes-ext) r = keeps-pick (picks-out (record { all = r.0; ordered = r.1 }))
    follow-keeps b (ways-some (goes-int s)) r = keeps_line (record { all = r.0; ordered = r.1 }) s

    move-keeps : (b : ℕ) → 1 ≤ b → b ≤ P.arity → Keeps b (move P idx (line 0) b (Q b))
    unfolding move
    move-keeps b k h = go (find b (line_at idx 0).tables) refl
      where
        at : is_open (Q b) ≡ false → (t : Table) → find b (line_at idx 0).tables ≡ some t → Keeps b (move_at P idx (line 0) b (Q b) t)
        at e (switch d es) f =
            let s : Switched idx b es os = faithful.switches b d es f in
            follow-keeps b (choose-linked (Goes idx b) P (Q b) s.linked)
            (chosen-right P b (Q b) e (agree P Q) (λ o. agree_at_lem P Q b o k h) os s.keyed s.parts s.right (s.complete (Q b) e))
        at e (on_demand d) f =
            let x : Picks (agree P Q) os (demand P b (Q b) (clauses idx (line 0)) (open_at P b (clauses idx (line 0)))) =
            rw faithful.has (demand-picks P Q (agree P Q) (agree_at_lem P Q) b k h e os (open_at P b os) refl) in
            keeps-pick x
        at e (dead d ds) f = keeps-pick picks-pass

        bounds : (x : Bool) → is_open (Q b) ≡ x → (t : Table) → find b (line_at idx 0).tables ≡ some t
            → Keeps b (cond x (pass 1) (move_at P idx (line 0) b (Q b) t))
        bounds true e t f = keeps-pick picks-pass
        bounds false e t f = at e t f

        go : (t : Option Table) → find b (line_at idx 0).tables ≡ t → Keeps b (move_on P idx (line 0) b (Q b) t)
        go none e = keeps-pick picks-skip
        go (some t) e = bounds (is_open (Q b)) refl t e

    faithful-from : (n b : ℕ) → n + b ≡ suc P.arity → 1 ≤ b → Selects (agree P Q) os (answer_from P Q n b idx (line 0)).offsets
    unfolding answer_from
    faithful-from zero b e k = rw faithful.has (record { all = refl; ordered = Sublistᴰ.refl os })
    faithful-from (suc n) b e k = go (move-keeps b k (omega arith)) (faithful-from n (suc b) (omega arith) (omega arith))
      where
        picks : {m : Move} → Picks (agree P Q) os m
            → Selects (agree P Q) os (answer_from P Q n (suc b) idx (line 0)).offsets
            → Selects (agree P Q) os (act (λ r. r) look b (line 0) m (λ u. answer_from P Q n (suc b) idx u)).offsets
        picks picks-skip s = s
        picks picks-pass s = s
        picks (picks-stop x) s = record { all = sym x; ordered = Sublistᴰ.nil-sublist os }
        picks (picks-out t) s = t
        picks (picks-goto {bs = bs} t) s =
            selects-trans t
            (selects-from P Q (agree P Q) (agree_at_lem P Q) n (suc b) (omega arith) (omega arith) idx (unstored bs) (λ c. no_switch P c bs))

        go : {m : Move} → Keeps b m → Selects (agree P Q) os (answer_from P Q n (suc b) idx (line 0)).offsets
            → Selects (agree P Q) os (act (λ r. r) look b (line 0) m (λ u. answer_from P Q n (suc b) idx u)).offsets
        go (keeps-pick x) s = picks x s
        go (keeps_line t v) s = selects-trans t (v.selects Q n (omega arith))

    pub faithful-selects : Selects (agree P Q) os (answer P Q idx).offsets
    faithful-selects = faithful-from P.arity 1 (omega arith) (omega arith)

  -- ---- an expansion keeps it

  module _ (idx : Index) (l a c : ℕ) (h : l < length idx) (dem : find a (line_at idx l).tables ≡ some (on_demand c)) (closed : Closed idx) where
    made-serves : (m : ℕ) (bs : List ℕ) → Made P (expand P idx l a) a m bs → Serves (expand P idx l a) a m bs
    made-serves m bs made = record {
      inside = made.inside;
      holds = made-clauses P (expand P idx l a) a m bs made;
      selects = λ Q n e. rw (made-clauses P (expand P idx l a) a m bs made) at
          (selects-from P Q (agree P Q) (agree_at_lem P Q) n (suc a) e (omega arith) (expand P idx l a) (line m) (plain Q));
    }
      where
        plain : (Q : Call) → NoSwitchAt P (expand P idx l a) (line m)
        plain Q b d es e = later-none-switch P (P.arity - a) (suc a) (offs made.choices) b d es (rw made.is at e)

    new-goes : (x : Ptr) (bs : List ℕ) → l ≡ 0 → Leads P (expand P idx l a) a l x bs → Goes (expand P idx l a) a x bs
    new-goes x bs z (leads-ext {o = o} e) = rw (single-is P.dynamic bs o e) goes-ext
    new-goes x bs z (leads-int {d = d} u e made) = goes-int (made-serves (0 + d) bs (subst (λ (m : ℕ). Made P (expand P idx l a) a (m + d) bs) z made))

    old-goes : (b : ℕ) (x : Ptr) (bs : List ℕ) → Goes idx b x bs → Goes (expand P idx l a) b x bs
    old-goes b x bs goes-ext = goes-ext
    old-goes b x bs (goes-int {d = d} s) = goes-int {d = d} {bs = bs} (record {
      inside = omega (arith, s.inside, length-expand P idx l a);
      holds = ap offs (same-choices P idx l a h (0 + d) s.inside) ∙ s.holds;
      selects = λ Q n e. rw (same_from P idx l a c h dem closed Q n (suc b) e (kept s.inside)) (s.selects Q n e);
    })

    pub faithful-expand : (os : List ℕ) → 0 < length idx → Faithful idx os → Faithful (expand P idx l a) os
    faithful-expand os k f =
        record { has = ap offs (same-choices P idx l a h 0 k) ∙ f.has; switches = λ b d es e. go b d es e (ℕ_discrete 0 l) (ℕ_discrete b a) }
      where
        other : (b d : ℕ) (es : List (Entry Ptr)) → ¬ ((0 ≡ l) × (b ≡ a)) → find b (line_at (expand P idx l a) 0).tables ≡ some (switch d es)
            → Switched (expand P idx l a) b es os
        other b d es ne e =
            let s : Switched idx b es os = f.switches b d es (sym (same-table P idx l a h 0 b k ne) ∙ e) in
            record { keyed = s.keyed; parts = s.parts; right = s.right; complete = s.complete; linked = linked-map (old-goes b) s.linked }

        here : (d : ℕ) (es : List (Entry Ptr)) → 0 ≡ l → (ds : List ℕ) → opens P idx l a ≡ ds
            → some (expanded P a (line_at idx l).choices (length idx - l - 1) ds) ≡ some (switch d es) → Switched (expand P idx l a) a es os
        here d es z [] x y =
            let same' : new_entries P a (line_at idx l).choices (1 + (length idx - l - 1)) ≡ es = cc in
            let os' : offs (line_at idx l).choices ≡ os = ap (λ (m : ℕ). offs (line_at idx m).choices) (sym z) ∙ f.has in
            let keyed : open_at P a os ≡ [] = rw os' at x in
            record {
              keyed = keyed;
              parts = virtual P a os;
              right = virtual-buckets P a os;
              complete = λ q e. virtual-complete P a q e os;
              linked = subst (λ (bs : List ℕ). Linked (Goes (expand P idx l a) a) es (virtual P a bs)) os'
                  (subst (λ (xs : List (Entry Ptr)). Linked (Goes (expand P idx l a) a) xs (virtual P a (offs (line_at idx l).choices))) same'
                  (linked-map (λ x bs. new-goes x bs (sym z)) (switch-linked P idx l a h x)));
            }
        here d es z (o ∷ ds) x y = let w : ◌≡◌ {A = ℕ} 0 1 = cc in absurd (omega arith)

        go : (b d : ℕ) (es : List (Entry Ptr)) → find b (line_at (expand P idx l a) 0).tables ≡ some (switch d es) → Dec (0 ≡ l) → Dec (b ≡ a)
            → Switched (expand P idx l a) b es os
        go b d es e (no ne) w = other b d es (λ v. ne v.0) e
        go b d es e (yes z) (no ne) = other b d es (λ v. ne v.1) e
        go b d es e (yes z) (yes y) = rw y (here d es z (opens P idx l a) refl (sym (new-table P idx l a h (on_demand c) dem) ∙ rw (y, z) at e))

  pub grown-faithful : (cap : ℕ) (os : List ℕ) {idx idx' : Index} → Grown P cap idx idx' → 0 < length idx → Closed idx → Faithful idx os → Faithful idx' os
  grown-faithful cap os grown-same k z f = f
  grown-faithful cap os (grown-more {idx = idx} l a c h d s g) k z f =
      grown-faithful cap os g (omega (arith, length-expand P idx l a)) (closed-expand P idx l a c h d z) (faithful-expand idx l a c h d z os k f)

  pub built-faithful : (c : ℕ) (os : List ℕ) → open_at P c os ≡ [] → Faithful (build P c os) os
  built-faithful c os keyed =
      rw (built-is-expanded P c os keyed)
      (faithful-expand (seed P c os) 0 c c (omega (arith, seed-length P c os)) (seed-demand P c os) (seed-closed P c os) os (omega (arith, seed-length P c os))
      (record { has = seed-clauses P c os; switches = λ b d es e. absurd (seed-switch P c os 0 b d es e) }))
