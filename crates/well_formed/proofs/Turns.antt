-- What one record makes of the state of the reading, by its kind.
-- Assumes nothing.
use mathlib.Core.Path.{◌≡◌, refl, ap}
use mathlib.Core.Bool.{Bool, true, false, cond, ◌&&◌}
use mathlib.Core.List.{List, [], ◌∷◌, map}
use Prim.Native.Nat.{ℕ, suc, ◌≤◌}
use native.Mathlib.Numerals.{add-one}
use native.Mathlib.Omega.{arith}
use Rattle.std.proofs.lemmas.Bool.{and_parts, eqb-true, false≢true}
use Rattle.std.specs.List.{AllByRecursion}
use lib.Dec.{eqb, leb}
use lib.ListN.{length, take}
use Rattle.records.specs.declared.Rec.{Rec}
use Rattle.indexing.specs.Lines.{Ptr, Entry, switch, on_demand, dead, offs}
use Rattle.indexing.specs.Reading.{pointer_from, entry_from, Waiting, waiting, read, read_all}
use Rattle.well_formed.specs.Pass.{first_of, first_arg, first_group, group_bound, reach, waits, group_by_sort, form_ok, rises, tag_in, idle, bare, table_step}
use Rattle.well_formed.specs.Pass.{demand_step, dead_step, entry_step, choice_step, clause_step, step_ok, after, keys_once, nothing, pass}
use Rattle.well_formed.proofs.PassParts.{idle-told, group-sort, no_items}

pub data Turn (k : ℕ) (r : Rec) (w : Waiting) : Waiting → Type 0 where
  turn-line : k ≡ 1 → Turn k r w (waiting [] [] [] [] (record { tables = w.tables; choices = w.choices } ∷ w.lines))
  turn-switch : k ≡ 2 → Turn k r w (waiting [] w.deads (switch r.half w.entries ∷ w.tables) w.choices w.lines)
  turn-demand : k ≡ 3 → Turn k r w (waiting w.entries w.deads (on_demand r.half ∷ w.tables) w.choices w.lines)
  turn-dead : k ≡ 4 → Turn k r w (waiting w.entries [] (dead r.half w.deads ∷ w.tables) w.choices w.lines)
  turn-entry : k ≡ 5 → Turn k r w (waiting (entry_from r ∷ w.entries) w.deads w.tables w.choices w.lines)
  turn-choice : k ≡ 6 → Turn k r w (waiting w.entries w.deads w.tables (record { tag = r.sub; offset = r.word } ∷ w.choices) w.lines)
  turn-other : eqb k 1 ≡ false → eqb k 2 ≡ false → eqb k 3 ≡ false → eqb k 4 ≡ false → eqb k 5 ≡ false → eqb k 6 ≡ false
      → Turn k r w (waiting w.entries (r.word ∷ w.deads) w.tables w.choices w.lines)

pub turn-of : (k : ℕ) (r : Rec) (w : Waiting) → Turn k r w (read k r w)
turn-of k r w = go (eqb k 1) (eqb k 2) (eqb k 3) (eqb k 4) (eqb k 5) (eqb k 6) refl refl refl refl refl refl
  where
    go : (b₁ b₂ b₃ b₄ b₅ b₆ : Bool) → eqb k 1 ≡ b₁ → eqb k 2 ≡ b₂ → eqb k 3 ≡ b₃ → eqb k 4 ≡ b₄ → eqb k 5 ≡ b₅ → eqb k 6 ≡ b₆
        → Turn k r w
        (cond b₁ (waiting [] [] [] [] (record { tables = w.tables; choices = w.choices } ∷ w.lines))
        (cond b₂ (waiting [] w.deads (switch r.half w.entries ∷ w.tables) w.choices w.lines)
        (cond b₃ (waiting w.entries w.deads (on_demand r.half ∷ w.tables) w.choices w.lines)
        (cond b₄ (waiting w.entries [] (dead r.half w.deads ∷ w.tables) w.choices w.lines)
        (cond b₅ (waiting (entry_from r ∷ w.entries) w.deads w.tables w.choices w.lines)
        (cond b₆ (waiting w.entries w.deads w.tables (record { tag = r.sub; offset = r.word } ∷ w.choices) w.lines)
        (waiting w.entries (r.word ∷ w.deads) w.tables w.choices w.lines)))))))
    go true b₂ b₃ b₄ b₅ b₆ e₁ e₂ e₃ e₄ e₅ e₆ = turn-line (eqb-true _ _ e₁)
    go false true b₃ b₄ b₅ b₆ e₁ e₂ e₃ e₄ e₅ e₆ = turn-switch (eqb-true _ _ e₂)
    go false false true b₄ b₅ b₆ e₁ e₂ e₃ e₄ e₅ e₆ = turn-demand (eqb-true _ _ e₃)
    go false false false true b₅ b₆ e₁ e₂ e₃ e₄ e₅ e₆ = turn-dead (eqb-true _ _ e₄)
    go false false false false true b₆ e₁ e₂ e₃ e₄ e₅ e₆ = turn-entry (eqb-true _ _ e₅)
    go false false false false false true e₁ e₂ e₃ e₄ e₅ e₆ = turn-choice (eqb-true _ _ e₆)
    go false false false false false false e₁ e₂ e₃ e₄ e₅ e₆ = turn-other e₁ e₂ e₃ e₄ e₅ e₆

-- the state has at most one line and one entry more
turn-bound : {k : ℕ} {r : Rec} {w v : Waiting} → Turn k r w v
    → (length v.lines ≤ suc (length w.lines)) × (length v.entries ≤ suc (length w.entries))
turn-bound (turn-line e) = omega arith
turn-bound (turn-switch e) = omega arith
turn-bound (turn-demand e) = omega arith
turn-bound (turn-dead e) = omega arith
turn-bound (turn-entry e) = omega arith
turn-bound (turn-choice e) = omega arith
turn-bound (turn-other e₁ e₂ e₃ e₄ e₅ e₆) = omega arith

pub all-bound : (rs : List Rec) → (length (read_all rs nothing).lines ≤ length rs) × (length (read_all rs nothing).entries ≤ length rs)
all-bound [] = omega arith
all-bound (r ∷ rs) = omega (arith, all-bound rs, turn-bound (turn-of r.kind r (read_all rs nothing)))

-- a line more where the record is a line's
pub turn_lines : {k : ℕ} {r : Rec} {w v : Waiting} → Turn k r w v
    → v.lines ≡ cond (eqb k 1) (record { tables = w.tables; choices = w.choices } ∷ w.lines) w.lines
turn_lines (turn-line e) = rw e
turn_lines (turn-switch e) = rw e
turn_lines (turn-demand e) = rw e
turn_lines (turn-dead e) = rw e
turn_lines (turn-entry e) = rw e
turn_lines (turn-choice e) = rw e
turn_lines (turn-other e₁ e₂ e₃ e₄ e₅ e₆) = rw e₁

module _ (dynamic : Bool) (known : ℕ → Bool) where
  -- what the code keeps follows the state
  pub turn-after : {k : ℕ} {r : Rec} {w v : Waiting} → Turn k r w v
      → after k r (waits dynamic known w) (reach dynamic known w.lines (pointer_from r.word)) ≡ waits dynamic known v
  unfolding after
  turn-after {w = w} (turn-line e) = rw (e, add-one (length w.lines))
  turn-after (turn-switch e) = rw e
  turn-after (turn-demand e) = rw e
  turn-after (turn-dead e) = rw e
  turn-after {r = r} {w = w} (turn-entry e) = rw (e, add-one (length w.entries), ← group-sort r.sub r.half r.long)
  turn-after (turn-choice e) = rw e
  turn-after (turn-other e₁ e₂ e₃ e₄ e₅ e₆) = rw (e₁, e₂, e₃, e₄, e₅, e₆)

-- ---- the entries with no switch yet are the records in front

abbrev pub Forms : List Rec → Type 0
Forms qs = AllByRecursion (λ (q : Rec). form_ok q.sub q.half q.long ≡ true) qs

abbrev pub Behind : List (Entry Ptr) → List Rec → Type 0
Behind es rs = (es ≡ map entry_from (take (length es) rs)) × Forms (take (length es) rs)

cond-left : (b x : Bool) → cond b x false ≡ true → x ≡ true
cond-left true x e = e
cond-left false x e = absurd (false≢true e)

behind-none : (es : List (Entry Ptr)) (rs : List Rec) → es ≡ [] → Behind es rs
behind-none es rs e = rw e (refl, tt)

module _ (arity : ℕ) (dynamic : Bool) (known : ℕ → Bool) (total : ℕ) where
  turn-behind : {k : ℕ} {r : Rec} {w v : Waiting} (rs : List Rec) → Turn k r w v → step_ok arity dynamic known total k r (waits dynamic known w) ≡ true
      → Behind w.entries rs → Behind v.entries (r ∷ rs)
  unfolding step_ok demand_step dead_step entry_step choice_step clause_step
  turn-behind rs (turn-line e) t b = (refl, tt)
  turn-behind rs (turn-switch e) t b = (refl, tt)
  turn-behind {r = r} {w = w} rs (turn-demand e) t b =
      let u : demand_step arity r (waits dynamic known w) ≡ true = rw e at t in
      behind-none w.entries (r ∷ rs) (no_items w.entries
      (idle-told (waits dynamic known w) (and_parts (idle (waits dynamic known w)) (table_step arity r (waits dynamic known w)) u).0).0)
  turn-behind {r = r} {w = w} rs (turn-dead e) t b =
      let u : dead_step arity r (waits dynamic known w) ≡ true = rw e at t in
      behind-none w.entries (r ∷ rs) (no_items w.entries (and_parts (eqb (length w.entries) 0) (table_step arity r (waits dynamic known w)) u).0)
  turn-behind {r = r} {w = w} rs (turn-entry e) t b =
      let u : entry_step r (waits dynamic known w) ≡ true = rw e at t in
      let x = and_parts (form_ok r.sub r.half r.long) (leb (group_by_sort r.sub) (group_bound (first_group w.entries))) u in
      (ap (λ (es : List (Entry Ptr)). entry_from r ∷ es) b.0, (x.0, b.1))
  turn-behind {r = r} {w = w} rs (turn-choice e) t b =
      let u : choice_step dynamic known r (waits dynamic known w) ≡ true = rw e at t in
      behind-none w.entries (r ∷ rs) (no_items w.entries
      (idle-told (waits dynamic known w) (and_parts (idle (waits dynamic known w))
      (eqb (first_arg w.tables) 33 && (bare r && (tag_in dynamic r.sub && rises known r.word (first_of (offs w.choices))))) u).0).0)
  turn-behind {k = k} {r = r} {w = w} rs (turn-other e₁ e₂ e₃ e₄ e₅ e₆) t b =
      let u : clause_step known r (waits dynamic known w) ≡ true =
      cond-left (eqb k 7) (clause_step known r (waits dynamic known w)) (rw (e₁, e₂, e₃, e₄, e₅, e₆) at t) in
      behind-none w.entries (r ∷ rs) (no_items w.entries
      (and_parts (eqb (length w.entries) 0) (eqb r.sub 0 && (bare r && rises known r.word (first_of w.deads))) u).0)

  pub pass-behind : (rs : List Rec) → pass arity dynamic known total nothing rs ≡ true → Behind (read_all rs nothing).entries rs
  unfolding pass
  pass-behind [] e = (refl, tt)
  pass-behind (r ∷ rs) e =
      let w = read_all rs nothing in
      let x = and_parts (step_ok arity dynamic known total r.kind r (waits dynamic known w) && keys_once r.kind w.entries)
      (pass arity dynamic known total nothing rs) e in
      let y = and_parts (step_ok arity dynamic known total r.kind r (waits dynamic known w)) (keys_once r.kind w.entries) x.0 in
      turn-behind rs (turn-of r.kind r w) y.0 (pass-behind rs x.1)
