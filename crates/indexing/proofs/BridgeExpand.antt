-- One expansion in the records, by columns: the on-demand record gives way to the block that the columns give, and the new lines
-- that they give follow at the end. So too the built index.
-- Assumes nothing.
use mathlib.Core.Path.{◌≡◌, refl, sym, ap, ap₂, ◌∙◌, subst}
use mathlib.Core.Bool.{false, cond}
use mathlib.Core.List.{List, [], ◌∷◌, ◌++◌, append_assoc}
use mathlib.Core.Option.{some}
use Prim.Native.Nat.{ℕ, ◌+◌, ◌-◌, ◌≤◌, ◌<◌}
use native.Mathlib.Omega.{arith}
use Rattle.std.proofs.lemmas.Bool.{eq-eqb}
use lib.ListN.{length, get_or, take, drop, length-append}
use lib.Seq.{slice, take_at, take-take, drop-append-add, take-length}
use Rattle.records.specs.declared.Rec.{Rec}
use Rattle.records.specs.Records.{rec_of}
use Rattle.records.specs.Moves.{spliced}
use Rattle.indexing_iter.specs.declared.OptArgIndexKey.{OptArgIndexKey as Key}
use Rattle.indexing_iter.specs.declared.Settings.{Settings}
use Rattle.indexing.specs.Upto.{any_to}
use Rattle.indexing.specs.Columns.{open_member, dead_recs, switch_recs, new_lines_recs, seed_recs}
use Rattle.indexing.specs.Expanding.{heads_at, bits_at, leaders_at, opens_of, zeros_of, block_recs, more_recs, lines_made, more_lines}
use Rattle.indexing.specs.Lines.{on_demand, dead, Choice, Line, Index, line_at, offs, find, table_recs, records, mode_of, size}
use Rattle.indexing.specs.Build.{Program, program_by, initial, open_at, literals, lists, structures, lines_for, build}
use Rattle.indexing.specs.Expand.{expanded, added, expand}
use Rattle.indexing.specs.Seed.{seed}
use Rattle.indexing.proofs.Built.{seed-clauses, seed-demand, seed-length, built-is-expanded}
use Rattle.indexing.proofs.Records.{before, behind, records-old, records-expand}
use Rattle.indexing.proofs.Expand.{length-expand}
use Rattle.indexing.proofs.Size.{length-records}
use Rattle.indexing.proofs.BridgeColumns.{InRange}
use Rattle.indexing.proofs.BridgeGroups.{group_lines_lem, list-lines}
use Rattle.indexing.proofs.BridgeEntries.{bridge-entries}
use Rattle.indexing.proofs.BridgeTables.{occupied}
use Rattle.indexing.proofs.BridgeLines.{Tagged, zeros-replicate, tagged-retag, any-open-all, dead-all, seed-is, bridge-lines}

-- ---- an element in the middle gives way to a block, and more elements follow

module _ {A : Type 0} (b h : List A) (x : A) (block more : List A) where
  pub replaced : (n : ℕ) → n ≡ length (b ++ (x ∷ h))
      → b ++ (block ++ (h ++ more)) ≡ take (length b) (b ++ (x ∷ h)) ++ (block ++ (slice (length b + 1) n (b ++ (x ∷ h)) ++ more))
  replaced n e = rw (e, take_at b (x ∷ h) (length b) refl, take-length (b ++ (x ∷ h)), drop-append-add b (x ∷ h) 1)

  -- the same in a list that goes on behind them
  pub splices : (l : List A) (n : ℕ) → n ≡ length (b ++ (x ∷ h)) → take n l ≡ b ++ (x ∷ h)
      → spliced l (length b) n block more ≡ (b ++ (block ++ (h ++ more))) ++ drop (length (b ++ (block ++ (h ++ more)))) l
  splices l n e f =
      let front : take (length b) l ≡ b =
      sym (take-take (length b) n l (omega (arith, length-append b (x ∷ h)))) ∙ ap (take (length b)) f ∙ take_at b (x ∷ h) (length b) refl in
      let count : n + length block + length more - 1 ≡ length (b ++ (block ++ (h ++ more))) =
      omega (arith, length-append b (x ∷ h), length-append b (block ++ (h ++ more)), length-append block (h ++ more), length-append h more) in
      rw (front, f, drop-append-add b (x ∷ h) 1, count) (simp append_assoc)

-- ---- the block and the new lines of a line of the choices cs

module _ (S : Settings) (K : ℕ → ℕ → Key) (cs : List Choice) (a : ℕ) (small : S.arity ≤ 32) (first : 1 ≤ a) (last : a ≤ S.arity) where
  -- where each clause has a key at a
  module _ (ranged : (i : ℕ) → i < length (offs cs) → InRange (K (get_or (offs cs) i 0) a)) (keyed : open_at (program_by S K) a (offs cs) ≡ []) where
    pub switch-block : (g : ℕ) → table_recs (expanded (program_by S K) a cs g [])
        ≡ switch_recs (leaders_at K (offs cs) a) (heads_at K (offs cs) a) (bits_at K (offs cs) a) (offs cs) S.dynamic a (1 + g)
    switch-block g = sym (bridge-entries (program_by S K) a cs ranged keyed (1 + g))

    pub switch-lines : (tags : List ℕ) → Tagged S cs tags → (number : ℕ) → records (mode_of S.dynamic) number (added (program_by S K) a cs [])
        ≡ new_lines_recs (leaders_at K (offs cs) a) (heads_at K (offs cs) a) (opens_of S K (offs cs)) (offs cs) tags S a number
    switch-lines tags own number = sym (bridge-lines S K a cs ranged tags own small last keyed number)

    pub switch-made : length (added (program_by S K) a cs []) ≡ lines_made (leaders_at K (offs cs) a) (heads_at K (offs cs) a) S.dynamic
    unfolding lines_made
    switch-made =
        let ls : List Line = lines_for (program_by S K) a cs (lists (program_by S K) a (offs cs)) in
        let ss : List Line = lines_for (program_by S K) a cs (structures (program_by S K) a (offs cs)) in
        let ts : List Line = lines_for (program_by S K) a cs (literals (program_by S K) a (offs cs)) in
        omega (
          arith,
          length-append ls (ss ++ ts),
          length-append ss ts,
          list-lines (program_by S K) a cs ranged keyed,
          group_lines_lem (program_by S K) a cs ranged keyed 3,
          group_lines_lem (program_by S K) a cs ranged keyed 1,
        )

  -- in general
  module _ (ranged : (i : ℕ) → i < length (offs cs) → InRange (K (get_or (offs cs) i 0) a)) where
    abbrev zeros : List ℕ
    zeros = zeros_of (offs cs)

    pub block-is : (g : ℕ) → table_recs (expanded (program_by S K) a cs g (open_at (program_by S K) a (offs cs))) ≡ block_recs S K (offs cs) a (1 + g)
    unfolding block_recs
    block-is g = rw (any-open-all S K small zeros (offs cs) (zeros-replicate (offs cs)) a first last) (go (open_at (program_by S K) a (offs cs)) refl)
      where
        go : (r : List ℕ) → open_at (program_by S K) a (offs cs) ≡ r → table_recs (expanded (program_by S K) a cs g r)
            ≡ cond (occupied r) (dead_recs zeros (opens_of S K (offs cs)) (offs cs) a)
            (switch_recs (leaders_at K (offs cs) a) (heads_at K (offs cs) a) (bits_at K (offs cs) a) (offs cs) S.dynamic a (1 + g))
        go [] e = switch-block ranged e g
        go (o ∷ r) e = sym (dead-all S K small zeros (offs cs) (zeros-replicate (offs cs)) a first last ∙ ap (λ (x : List ℕ). table_recs (dead a x)) e)

    pub more-is : (tags : List ℕ) → Tagged S cs tags → (number : ℕ)
        → records (mode_of S.dynamic) number (added (program_by S K) a cs (open_at (program_by S K) a (offs cs))) ≡ more_recs S K (offs cs) tags a number
    unfolding more_recs
    more-is tags own number = rw (any-open-all S K small zeros (offs cs) (zeros-replicate (offs cs)) a first last) (go (open_at (program_by S K) a (offs cs)) refl)
      where
        go : (r : List ℕ) → open_at (program_by S K) a (offs cs) ≡ r → records (mode_of S.dynamic) number (added (program_by S K) a cs r)
            ≡ cond (occupied r) [] (new_lines_recs (leaders_at K (offs cs) a) (heads_at K (offs cs) a) (opens_of S K (offs cs)) (offs cs) tags S a number)
        go [] e = switch-lines ranged e tags own number
        go (o ∷ r) e = refl

    -- how many lines they are
    pub lines_are : length (added (program_by S K) a cs (open_at (program_by S K) a (offs cs))) ≡ more_lines S K (offs cs) a
    unfolding more_lines
    lines_are = rw (any-open-all S K small zeros (offs cs) (zeros-replicate (offs cs)) a first last) (go (open_at (program_by S K) a (offs cs)) refl)
      where
        go : (r : List ℕ) → open_at (program_by S K) a (offs cs) ≡ r → length (added (program_by S K) a cs r)
            ≡ cond (occupied r) 0 (lines_made (leaders_at K (offs cs) a) (heads_at K (offs cs) a) S.dynamic)
        go [] e = switch-made ranged e
        go (o ∷ r) e = refl

-- ---- the expansion of line l's on-demand table for argument a

module _ (S : Settings) (K : ℕ → ℕ → Key) (idx : Index) (l a c : ℕ) (h : l < length idx) (dem : find a (line_at idx l).tables ≡ some (on_demand c))
    (small : S.arity ≤ 32) (first : 1 ≤ a) (last : a ≤ S.arity) where
  abbrev P : Program
  P = program_by S K

  abbrev os : List ℕ
  os = offs (line_at idx l).choices

  abbrev mode : ℕ
  mode = mode_of S.dynamic

  -- the place of the on-demand record
  abbrev pub place : ℕ
  place = length (before mode idx l a)

  module _ (ranged : (i : ℕ) → i < length os → InRange (K (get_or os i 0) a)) (tags : List ℕ)
      (own : Tagged S (line_at idx l).choices tags) where
    abbrev block : List Rec
    block = block_recs S K os a (length idx - l)

    abbrev more : List Rec
    more = more_recs S K os tags a (length idx)

    expanded-is : records mode 0 (expand P idx l a) ≡ before mode idx l a ++ (block ++ (behind mode idx l a ++ more))
    expanded-is =
        let d : 1 + (length idx - l - 1) ≡ length idx - l = omega arith in
        records-expand P mode idx l a c h dem
        ∙ ap₂ (λ (x y : List Rec). before mode idx l a ++ (x ++ (behind mode idx l a ++ y)))
        (block-is S K (line_at idx l).choices a small first last ranged (length idx - l - 1) ∙ ap (block_recs S K os a) d)
        (more-is S K (line_at idx l).choices a small first last ranged tags own (length idx))

    size-old : size idx ≡ length (before mode idx l a ++ (rec_of 3 0 c 0 0 ∷ behind mode idx l a))
    size-old = sym (length-records mode 0 idx) ∙ ap length (records-old P mode idx l a c h dem)

    -- how many records and lines there are then
    pub expand-size : size idx + length block + length more - 1 ≡ size (expand P idx l a)
    expand-size = omega (
      arith,
      size-old,
      length-append (before mode idx l a) (rec_of 3 0 c 0 0 ∷ behind mode idx l a),
      length-records mode 0 (expand P idx l a),
      ap length expanded-is,
      length-append (before mode idx l a) (block ++ (behind mode idx l a ++ more)),
      length-append block (behind mode idx l a ++ more),
      length-append (behind mode idx l a) more,
    )

    pub expand-lines : length idx + more_lines S K os a ≡ length (expand P idx l a)
    expand-lines =
        ap (λ (x : ℕ). length idx + x) (sym (lines_are S K (line_at idx l).choices a small first last ranged)) ∙ sym (length-expand P idx l a)

    -- of the records the on-demand one gives way to the block, and the new lines follow
    pub expand-records : records mode 0 (expand P idx l a)
        ≡ take place (records mode 0 idx) ++ (block ++ (slice (place + 1) (size idx) (records mode 0 idx) ++ more))
    expand-records =
        expanded-is
        ∙ replaced (before mode idx l a) (behind mode idx l a) (rec_of 3 0 c 0 0) block more (size idx) size-old
        ∙ ap (λ (rs : List Rec). take place rs ++ (block ++ (slice (place + 1) (size idx) rs ++ more))) (sym (records-old P mode idx l a c h dem))

    -- the same in a list of records that begins with the index
    pub expand-spliced : (rs : List Rec) → take (size idx) rs ≡ records mode 0 idx
        → spliced rs place (size idx) block more ≡ records mode 0 (expand P idx l a) ++ drop (size (expand P idx l a)) rs
    expand-spliced rs e =
        splices (before mode idx l a) (behind mode idx l a) (rec_of 3 0 c 0 0) block more rs (size idx) size-old (e ∙ records-old P mode idx l a c h dem)
        ∙ ap (λ (x : List Rec). x ++ drop (length x) rs) (sym expanded-is)
        ∙ ap (λ (n : ℕ). records mode 0 (expand P idx l a) ++ drop n rs) (length-records mode 0 (expand P idx l a))

-- ---- the built index: line 0's on-demand record for c gives way to its switch

module _ (S : Settings) (K : ℕ → ℕ → Key) (all : List ℕ) (c : ℕ) (small : S.arity ≤ 32) (above : 1 ≤ c) (below : c ≤ S.arity)
    (ranged : (i : ℕ) → i < length all → InRange (K (get_or all i 0) c)) (keyed : open_at (program_by S K) c all ≡ [])
    (tags : List ℕ) (own : Tagged S (initial 7 all) tags) where
  abbrev zeros0 : List ℕ
  zeros0 = zeros_of all

  abbrev line0 : Index
  line0 = seed (program_by S K) c all

  abbrev seeds : List Rec
  seeds = seed_recs zeros0 (opens_of S K all) all tags S c

  abbrev switch0 : List Rec
  switch0 = switch_recs (leaders_at K all c) (heads_at K all c) (bits_at K all c) all S.dynamic c 1

  abbrev lines0 : List Rec
  lines0 = new_lines_recs (leaders_at K all c) (heads_at K all c) (opens_of S K all) all tags S c 1

  abbrev its : List ℕ
  its = offs (line_at line0 0).choices

  its-all : its ≡ all
  its-all = seed-clauses (program_by S K) c all

  its-ranged : (i : ℕ) → i < length its → InRange (K (get_or its i 0) c)
  its-ranged = subst (λ (os : List ℕ). (i : ℕ) → i < length os → InRange (K (get_or os i 0) c)) (sym its-all) ranged

  its_own : Tagged S (line_at line0 0).choices tags
  unfolding seed
  its_own = tagged-retag S K (initial 7 all) tags own

  one_line : length line0 ≡ 1
  one_line = seed-length (program_by S K) c all

  seeds-are : seeds ≡ records (mode_of S.dynamic) 0 line0
  seeds-are = seed-is S K small zeros0 all (zeros-replicate all) tags c own below

  seeds-count : length seeds ≡ size line0
  seeds-count = ap length seeds-are ∙ length-records (mode_of S.dynamic) 0 line0

  seeds-place : length (before (mode_of S.dynamic) line0 0 c) ≡ 1
  unfolding seed
  seeds-place = rw (eq-eqb c c refl)

  none_open : any_to (open_member zeros0 (opens_of S K all) all 0 c) (length all) ≡ false
  none_open = any-open-all S K small zeros0 all (zeros-replicate all) c above below ∙ ap occupied keyed

  its-block : block_recs S K its c (length line0 - 0) ≡ switch0
  unfolding block_recs
  its-block = rw (its-all, one_line, none_open)

  its-lines : more_recs S K its tags c (length line0) ≡ lines0
  unfolding more_recs
  its-lines = rw (its-all, one_line, none_open)

  expands : build (program_by S K) c all ≡ expand (program_by S K) line0 0 c
  expands = built-is-expanded (program_by S K) c all keyed

  pub built-size : length seeds + length switch0 + length lines0 - 1 ≡ size (build (program_by S K) c all)
  built-size =
      rw expands (
      ap₂ (λ (x y : List Rec). length seeds + length x + length y - 1) (sym its-block) (sym its-lines)
      ∙ ap (λ (n : ℕ). n + length (block_recs S K its c (length line0 - 0)) + length (more_recs S K its tags c (length line0)) - 1) seeds-count
      ∙ expand-size S K line0 0 c c (omega (arith, one_line)) (seed-demand (program_by S K) c all) small above below its-ranged tags its_own)

  -- the same in a list of records that begins with line 0 as it is before its switch is made
  pub built-spliced : (rs : List Rec) → take (length seeds) rs ≡ seeds
      → spliced rs 1 (length seeds) switch0 lines0
      ≡ records (mode_of S.dynamic) 0 (build (program_by S K) c all) ++ drop (size (build (program_by S K) c all)) rs
  built-spliced rs e =
      rw expands (
      ap₂ (λ (p n : ℕ). spliced rs p n switch0 lines0) (sym seeds-place) seeds-count
      ∙ ap₂ (λ (x y : List Rec). spliced rs (length (before (mode_of S.dynamic) line0 0 c)) (size line0) x y) (sym its-block) (sym its-lines)
      ∙ expand-spliced S K line0 0 c c (omega (arith, one_line)) (seed-demand (program_by S K) c all) small above below its-ranged tags its_own
      rs (ap (λ (n : ℕ). take n rs) (sym seeds-count) ∙ e ∙ seeds-are))
