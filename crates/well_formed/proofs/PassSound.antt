-- Records that pass are those of the state that is read from them, and that state is sound.
-- Assumes nothing.
use mathlib.Core.Path.{◌≡◌, refl, sym, ◌∙◌, ap₂}
use mathlib.Core.Bool.{Bool, true, false, cond, not, ◌&&◌, ◌||◌}
use mathlib.Core.List.{List, [], ◌∷◌, ◌++◌, map, append_assoc}
use Prim.Native.Nat.{ℕ, suc, ◌+◌, ◌≤◌}
use native.Mathlib.Omega.{arith}
use Rattle.std.specs.List.{list_all, AllByRecursion}
use Rattle.std.proofs.lemmas.Bool.{and_parts, eqb-true, false≢true, le-leb, leb-true, ltb-true}
use Rattle.std.specs.Cmp.Derive.{both_true}
use lib.Dec.{eqb, leb, ltb}
use lib.ListN.{length}
use Rattle.records.specs.declared.Rec.{Rec}
use Rattle.records.specs.Records.{rec_of}
use Rattle.indexing_iter.specs.Keys.{group_of}
use Rattle.indexing.specs.Lines.{switch, on_demand, dead, Choice, offs, entry_rec, dead_rec, tables_recs, choice_rec}
use Rattle.indexing.specs.Lines.{mode_of, records}
use Rattle.indexing.specs.Reading.{key_from, entry_from, Waiting, waiting, read, read_all}
use Rattle.well_formed.specs.WellFormed.{rising_ok, args_ok, entry_keys, tag_ok, some_ok}
use Rattle.well_formed.specs.Pass.{first_arg, first_of, first_group, group_bound, least, waits, group_by_sort, form_ok, rises, tag_in, idle, bare, line_step, table_step, switch_step}
use Rattle.well_formed.specs.Pass.{demand_step, dead_step, entry_step, choice_step, clause_step, step_ok, once, keys_once, nothing, pass}
use Rattle.well_formed.proofs.Fine.{args-above, FineTable, Fine}
use Rattle.well_formed.proofs.PassParts.{and3, and4, and5, and6, idle-told, rec-is, bare-told, group-sort, form-key, entry-back, no_items, no-offsets, no-tables}
use Rattle.well_formed.proofs.PassParts.{rises-front, groups_ok, groups-keys, groups-front, key-group}

-- the records of a state, its lines numbered from m on
abbrev pub flat : Bool → ℕ → Waiting → List Rec
flat dynamic m w =
    map entry_rec w.entries ++ (map dead_rec w.deads ++ (tables_recs w.tables ++ (map choice_rec w.choices ++ records (mode_of dynamic) m w.lines)))

module _ (arity : ℕ) (dynamic : Bool) (known : ℕ → Bool) (total : ℕ) where
  -- the records are those of the state, and the state is sound by itself
  pub record Sound (rs : List Rec) (w : Waiting) : Type 0 where
    pub same : (m : ℕ) → m + length w.lines ≡ total → rs ≡ flat dynamic m w
    pub keys : groups_ok 1 (entry_keys w.entries) ≡ true
    pub deads : rising_ok known 1 w.deads ≡ true
    pub args : args_ok arity 1 w.tables ≡ true
    pub tables : AllByRecursion (FineTable arity dynamic known w.lines) w.tables
    pub rising : rising_ok known 1 (offs w.choices) ≡ true
    pub tags : list_all (tag_ok dynamic) w.choices ≡ true
    pub lines : Fine arity dynamic known w.lines

  module _ (small : arity ≤ 32) (good : (o : ℕ) → known o ≡ true → 1 ≤ o) (r : Rec) (rs : List Rec) (w : Waiting) (S : Sound rs w) where
    -- neither an entry nor a dead clause is without its table
    nothing-waits : idle (waits dynamic known w) ≡ true → (w.entries ≡ []) × (w.deads ≡ [])
    nothing-waits e =
        let i = idle-told (waits dynamic known w) e in
        (no_items w.entries i.0, no-offsets known w.deads S.deads i.1)

    line-sound : r.kind ≡ 1 → line_step dynamic total r (waits dynamic known w) ≡ true
        → Sound (r ∷ rs) (waiting [] [] [] [] (record { tables = w.tables; choices = w.choices } ∷ w.lines))
    unfolding line_step
    line-sound k e =
        let x = and5 (eqb r.sub (mode_of dynamic)) (bare r) (eqb (r.word + length w.lines + 1) total) (idle (waits dynamic known w))
        (dynamic || not (eqb (first_of (offs w.choices)) 0)) e in
        let b = bare-told r x.1 in
        let n : r.word + length w.lines + 1 ≡ total = eqb-true _ _ x.2 in
        let i = nothing-waits x.3 in
        record {
          same = λ m h.
              let c : suc m + length w.lines ≡ total = omega arith in
              let o : r.word ≡ m = omega arith in
              ap₂ (λ (q : Rec) (qs : List Rec). q ∷ qs) (rec-is r 1 (mode_of dynamic) 0 m 0 k (eqb-true _ _ x.0) b.0 o b.1)
              (rw (i.0, i.1) at (S.same (suc m) c));
          keys = refl;
          deads = refl;
          args = refl;
          tables = tt;
          rising = refl;
          tags = refl;
          lines = ((S.args, S.tables, both_true S.rising (both_true S.tags (some_one dynamic w.choices x.4))), S.lines);
        }
      where
        some_one : (d : Bool) (cs : List Choice) → d || not (eqb (first_of (offs cs)) 0) ≡ true → some_ok d cs ≡ true
        some_one true cs e = refl
        some_one false [] e = e
        some_one false (c ∷ cs) e = refl

    -- a table's record: it is one, and its argument may stand in front of the tables read
    table-told : (k : ℕ) → r.kind ≡ k → table_step arity r (waits dynamic known w) ≡ true
        → (r ≡ rec_of k 0 r.half 0 0) × (leb 1 r.half && (leb r.half arity && args_ok arity (suc r.half) w.tables) ≡ true)
    unfolding table_step
    table-told k f e =
        let x = and6 (eqb r.sub 0) (eqb r.word 0) (eqb r.long 0) (leb 1 r.half) (leb r.half arity) (ltb r.half (first_arg w.tables)) e in (
          rec-is r k 0 r.half 0 0 f (eqb-true _ _ x.0) refl (eqb-true _ _ x.1) (eqb-true _ _ x.2),
          both_true x.3 (both_true x.4 (args-above arity r.half w.tables S.args (ltb-true r.half (first_arg w.tables) x.5))),
        )

    switch-sound : r.kind ≡ 2 → switch_step arity r (waits dynamic known w) ≡ true → once (entry_keys w.entries) ≡ true
        → Sound (r ∷ rs) (waiting [] w.deads (switch r.half w.entries ∷ w.tables) w.choices w.lines)
    unfolding switch_step
    switch-sound k e o =
        let x = and3 (eqb (first_of w.deads) 0) (ltb r.half (least dynamic known w.lines w.entries))
        (table_step arity r (waits dynamic known w)) e in
        let ds : w.deads ≡ [] = no-offsets known w.deads S.deads x.0 in
        let t = table-told 2 k x.2 in
        record {
          same = λ m h.
              let f : rs ≡ map entry_rec w.entries ++ (tables_recs w.tables ++ (map choice_rec w.choices ++ records (mode_of dynamic) m w.lines)) =
              rw ds at (S.same m h) in
              rw ds (ap₂ (λ (q : Rec) (qs : List Rec). q ∷ qs) t.0 (f ∙ sym (append_assoc (map entry_rec w.entries) (tables_recs w.tables)
              (map choice_rec w.choices ++ records (mode_of dynamic) m w.lines))));
          keys = refl;
          deads = S.deads;
          args = t.1;
          tables = ((groups-keys 1 (entry_keys w.entries) S.keys o, ltb-true r.half (least dynamic known w.lines w.entries) x.1), S.tables);
          rising = S.rising;
          tags = S.tags;
          lines = S.lines;
        }

    demand-sound : r.kind ≡ 3 → demand_step arity r (waits dynamic known w) ≡ true
        → Sound (r ∷ rs) (waiting w.entries w.deads (on_demand r.half ∷ w.tables) w.choices w.lines)
    unfolding demand_step
    demand-sound k e =
        let x = and_parts (idle (waits dynamic known w)) (table_step arity r (waits dynamic known w)) e in
        let i = nothing-waits x.0 in
        let t = table-told 3 k x.1 in
        record {
          same = λ m h. rw (i.0, i.1) (ap₂ (λ (q : Rec) (qs : List Rec). q ∷ qs) t.0 (rw (i.0, i.1) at (S.same m h)));
          keys = S.keys;
          deads = S.deads;
          args = t.1;
          tables = (tt, S.tables);
          rising = S.rising;
          tags = S.tags;
          lines = S.lines;
        }

    dead-sound : r.kind ≡ 4 → dead_step arity r (waits dynamic known w) ≡ true
        → Sound (r ∷ rs) (waiting w.entries [] (dead r.half w.deads ∷ w.tables) w.choices w.lines)
    unfolding dead_step
    dead-sound k e =
        let x = and_parts (eqb (length w.entries) 0) (table_step arity r (waits dynamic known w)) e in
        let es : w.entries ≡ [] = no_items w.entries x.0 in
        let t = table-told 4 k x.1 in
        record {
          same = λ m h.
              let f : rs ≡ map dead_rec w.deads ++ (tables_recs w.tables ++ (map choice_rec w.choices ++ records (mode_of dynamic) m w.lines)) =
              rw es at (S.same m h) in
              rw es (ap₂ (λ (q : Rec) (qs : List Rec). q ∷ qs) t.0 (f ∙ sym (append_assoc (map dead_rec w.deads) (tables_recs w.tables)
              (map choice_rec w.choices ++ records (mode_of dynamic) m w.lines))));
          keys = S.keys;
          deads = refl;
          args = t.1;
          tables = (S.deads, S.tables);
          rising = S.rising;
          tags = S.tags;
          lines = S.lines;
        }

    entry-sound : r.kind ≡ 5 → entry_step r (waits dynamic known w) ≡ true
        → Sound (r ∷ rs) (waiting (entry_from r ∷ w.entries) w.deads w.tables w.choices w.lines)
    unfolding entry_step
    entry-sound k e =
        let x = and_parts (form_ok r.sub r.half r.long) (leb (group_by_sort r.sub) (group_bound (first_group w.entries))) e in
        let f = form-key r.sub r.half r.long x.0 in
        let g : group_of (key_from r.sub r.half r.long) ≡ group_by_sort r.sub = group-sort r.sub r.half r.long in
        let low : 1 ≤ group_of (key_from r.sub r.half r.long) = key-group (key_from r.sub r.half r.long) f.0 in
        let above : group_of (key_from r.sub r.half r.long) ≤ group_bound (first_group w.entries) =
        omega (arith, leb-true (group_by_sort r.sub) (group_bound (first_group w.entries)) x.1) in
        record {
          same = λ m h. ap₂ (λ (q : Rec) (qs : List Rec). q ∷ qs) (entry-back r k x.0) (S.same m h);
          keys = both_true (le-leb 1 (group_of (key_from r.sub r.half r.long)) low)
              (both_true f.0 (groups-front (group_of (key_from r.sub r.half r.long)) w.entries S.keys above));
          deads = S.deads;
          args = S.args;
          tables = S.tables;
          rising = S.rising;
          tags = S.tags;
          lines = S.lines;
        }

    choice-sound : r.kind ≡ 6 → choice_step dynamic known r (waits dynamic known w) ≡ true
        → Sound (r ∷ rs) (waiting w.entries w.deads w.tables (record { tag = r.sub; offset = r.word } ∷ w.choices) w.lines)
    unfolding choice_step tag_in
    choice-sound k e =
        let x = and5 (idle (waits dynamic known w)) (eqb (first_arg w.tables) 33) (bare r) (tag_in dynamic r.sub)
        (rises known r.word (first_of (offs w.choices))) e in
        let i = nothing-waits x.0 in
        let ts : w.tables ≡ [] = no-tables arity w.tables small S.args x.1 in
        let b = bare-told r x.2 in
        record {
          same = λ m h.
              rw (i.0, i.1, ts) (ap₂ (λ (q : Rec) (qs : List Rec). q ∷ qs)
              (rec-is r 6 r.sub 0 r.word 0 k refl b.0 refl b.1) (rw (i.0, i.1, ts) at (S.same m h)));
          keys = S.keys;
          deads = S.deads;
          args = S.args;
          tables = S.tables;
          rising = rises-front known r.word (offs w.choices) (good r.word) x.4 S.rising;
          tags = both_true (tag_in_lem dynamic x.3) S.tags;
          lines = S.lines;
        }
      where
        tag_in_lem : (d : Bool) → tag_in d r.sub ≡ true → tag_ok d (record { tag = r.sub; offset = r.word }) ≡ true
        tag_in_lem true e = e
        tag_in_lem false e = e

    clause-sound : r.kind ≡ 7 → clause_step known r (waits dynamic known w) ≡ true
        → Sound (r ∷ rs) (waiting w.entries (r.word ∷ w.deads) w.tables w.choices w.lines)
    unfolding clause_step
    clause-sound k e =
        let x = and4 (eqb (length w.entries) 0) (eqb r.sub 0) (bare r) (rises known r.word (first_of w.deads)) e in
        let b = bare-told r x.2 in
        let es : w.entries ≡ [] = no_items w.entries x.0 in
        record {
          same = λ m h.
              rw es (ap₂ (λ (q : Rec) (qs : List Rec). q ∷ qs)
              (rec-is r 7 0 0 r.word 0 k (eqb-true _ _ x.1) b.0 refl b.1) (rw es at (S.same m h)));
          keys = S.keys;
          deads = rises-front known r.word w.deads (good r.word) x.3 S.deads;
          args = S.args;
          tables = S.tables;
          rising = S.rising;
          tags = S.tags;
          lines = S.lines;
        }

    step-sound : step_ok arity dynamic known total r.kind r (waits dynamic known w) ≡ true → keys_once r.kind w.entries ≡ true
        → Sound (r ∷ rs) (read r.kind r w)
    unfolding step_ok keys_once
    step-sound e o =
        go (eqb r.kind 1) (eqb r.kind 2) (eqb r.kind 3) (eqb r.kind 4) (eqb r.kind 5) (eqb r.kind 6) (eqb r.kind 7)
        refl refl refl refl refl refl refl e o
      where
        go : (b₁ b₂ b₃ b₄ b₅ b₆ b₇ : Bool)
            → eqb r.kind 1 ≡ b₁ → eqb r.kind 2 ≡ b₂ → eqb r.kind 3 ≡ b₃ → eqb r.kind 4 ≡ b₄ → eqb r.kind 5 ≡ b₅ → eqb r.kind 6 ≡ b₆
            → eqb r.kind 7 ≡ b₇
            → cond b₁ (line_step dynamic total r (waits dynamic known w))
            (cond b₂ (switch_step arity r (waits dynamic known w))
            (cond b₃ (demand_step arity r (waits dynamic known w))
            (cond b₄ (dead_step arity r (waits dynamic known w))
            (cond b₅ (entry_step r (waits dynamic known w))
            (cond b₆ (choice_step dynamic known r (waits dynamic known w))
            (cond b₇ (clause_step known r (waits dynamic known w)) false)))))) ≡ true
            → cond b₂ (once (entry_keys w.entries)) true ≡ true
            → Sound (r ∷ rs)
            (cond b₁ (waiting [] [] [] [] (record { tables = w.tables; choices = w.choices } ∷ w.lines))
            (cond b₂ (waiting [] w.deads (switch r.half w.entries ∷ w.tables) w.choices w.lines)
            (cond b₃ (waiting w.entries w.deads (on_demand r.half ∷ w.tables) w.choices w.lines)
            (cond b₄ (waiting w.entries [] (dead r.half w.deads ∷ w.tables) w.choices w.lines)
            (cond b₅ (waiting (entry_from r ∷ w.entries) w.deads w.tables w.choices w.lines)
            (cond b₆ (waiting w.entries w.deads w.tables (record { tag = r.sub; offset = r.word } ∷ w.choices) w.lines)
            (waiting w.entries (r.word ∷ w.deads) w.tables w.choices w.lines)))))))
        go true b₂ b₃ b₄ b₅ b₆ b₇ e₁ e₂ e₃ e₄ e₅ e₆ e₇ e o = line-sound (eqb-true _ _ e₁) e
        go false true b₃ b₄ b₅ b₆ b₇ e₁ e₂ e₃ e₄ e₅ e₆ e₇ e o = switch-sound (eqb-true _ _ e₂) e o
        go false false true b₄ b₅ b₆ b₇ e₁ e₂ e₃ e₄ e₅ e₆ e₇ e o = demand-sound (eqb-true _ _ e₃) e
        go false false false true b₅ b₆ b₇ e₁ e₂ e₃ e₄ e₅ e₆ e₇ e o = dead-sound (eqb-true _ _ e₄) e
        go false false false false true b₆ b₇ e₁ e₂ e₃ e₄ e₅ e₆ e₇ e o = entry-sound (eqb-true _ _ e₅) e
        go false false false false false true b₇ e₁ e₂ e₃ e₄ e₅ e₆ e₇ e o = choice-sound (eqb-true _ _ e₆) e
        go false false false false false false true e₁ e₂ e₃ e₄ e₅ e₆ e₇ e o = clause-sound (eqb-true _ _ e₇) e
        go false false false false false false false e₁ e₂ e₃ e₄ e₅ e₆ e₇ e o = absurd (false≢true e)

  -- all records that pass
  pub pass-sound : arity ≤ 32 → ((o : ℕ) → known o ≡ true → 1 ≤ o) → (rs : List Rec) → pass arity dynamic known total nothing rs ≡ true
      → Sound rs (read_all rs nothing)
  unfolding pass
  pass-sound small good [] e =
      record { same = λ m h. refl; keys = refl; deads = refl; args = refl; tables = tt; rising = refl; tags = refl; lines = tt }
  pass-sound small good (r ∷ rs) e =
      let w = read_all rs nothing in
      let x = and_parts (step_ok arity dynamic known total r.kind r (waits dynamic known w) && keys_once r.kind w.entries)
      (pass arity dynamic known total nothing rs) e in
      let y = and_parts (step_ok arity dynamic known total r.kind r (waits dynamic known w)) (keys_once r.kind w.entries) x.0 in
      step-sound small good r rs w (pass-sound small good rs x.1) y.0 y.1
