-- The builder by the columns that the code fills gives the builder's call (indexing/specs/Builder), on every byte of the buffer.
-- Assumes nothing.
use mathlib.Core.Path.{◌≡◌, refl, sym, ap, ap₂, ◌∙◌, subst}
use mathlib.Core.Bool.{Bool, true, false, cond}
use mathlib.Core.List.{List, ◌++◌}
use Prim.Native.Nat.{ℕ, ◌+◌, ◌-◌, ◌≤◌, ◌<◌}
use native.Mathlib.Omega.{arith}
use borrow.Author.Tests.{lt-ltb, le-ltb, ltb-false}
use lib.Dec.{ltb}
use lib.ListN.{length, take, drop, replicate}
use lib.Seq.{take_at, drop-append-add, drop-drop}
use Rattle.records.specs.declared.Rec.{Rec}
use Rattle.records.specs.Records.{records_of, Wrote}
use Rattle.records.specs.Moves.{written, spliced}
use Rattle.records.proofs.Laws.{wrote-is, wrote_then}
use Rattle.records.proofs.Grown.{written-front}
use Rattle.records.proofs.Whole.{Bytes}
use Rattle.indexing_iter.specs.declared.OptArgIndexKey.{OptArgIndexKey as Key}
use Rattle.indexing_iter.specs.declared.Settings.{Settings}
use Rattle.indexing_iter.specs.declared.program.Program.{Program}
use Rattle.indexing_iter.specs.Refusals.{passed}
use Rattle.std.specs.Prelude.{Result, Ok, Err}
use Rattle.indexing_iter.specs.declared.refusal.Refusal.{Refusal}
use Rattle.indexing_iter.specs.declared.refusal.Refusal.TheVariants.{NoRoom}
use Rattle.indexing_iter.specs.Classes.{class_of}
use Rattle.indexing_iter.specs.Clauses.{key_of, offsets_of}
use Rattle.indexing_iter.specs.Checks.{check_build}
use Rattle.indexing_builder.specs.declared.Built.{Built}
use Rattle.indexing.specs.Lines.{Index, records, mode_of, size}
use Rattle.indexing.specs.Build.{program_by, build}
use Rattle.indexing.specs.Columns.{seed_recs}
use Rattle.indexing.specs.Expanding.{heads_at, bits_at, leaders_at}
use Rattle.indexing.specs.Builder.{capacity_of, stored, built_by, index_of, build_call}
use Rattle.indexing_builder.specs.Answer.{built_of}
use Rattle.indexing_builder.specs.Building.{answer_by, Builds, Building}
use Rattle.indexing.proofs.Stored.{capacity-within, stored-wrote}
use Rattle.index_writer.specs.declared.clauses.Clauses.{Clauses}
use Rattle.index_writer.specs.declared.clauses.Columns.{Columns}
use Rattle.index_writer.specs.Filling.{Filled}
use Rattle.index_writer.specs.Written.{seed_by, switch_in, new_lines_by}
use Rattle.index_writer.proofs.FillingLaws.{first-seeds, first-switch, first-lines}
use Rattle.index_writer.proofs.IndexLaws.{switch-some, seeds_of, switch_of, lines_of, size_is, splice-is}

-- ---- answers

pub answer-refused : (capacity size : ℕ) (skip : Bool) → capacity < size → Err NoRoom ≡ answer_by capacity size skip
answer-refused capacity size skip h = rw (lt-ltb capacity size h)

pub answer-done : (capacity : ℕ) (d : Built) (skip : Bool) {size : ℕ} → d.count ≡ size → d.variable ≡ cond skip 2 1 → d.count ≤ capacity
    → Ok d ≡ answer_by capacity size skip
answer-done capacity d skip e f h = rw (← e, ← f, le-ltb capacity d.count h)

-- line 0 has at least two records before its switch is made
pub seed-some : (zeros opens offs tags : List ℕ) (S : Settings) (c : ℕ) → 2 ≤ length (seed_recs zeros opens offs tags S c)
unfolding seed_recs
seed-some zeros opens offs tags S c = omega arith

-- line 0 written, and then its switch
pub built-steps : (b b₁ b₂ : List ℕ) (n : ℕ) (seeds switch lines : List Rec) → n ≡ length seeds → Wrote b b₁ (written (records_of b) 0 seeds)
    → Wrote b₁ b₂ (spliced (records_of b₁) 1 n switch lines) → Wrote b b₂ (spliced (written (records_of b) 0 seeds) 1 (length seeds) switch lines)
built-steps b b₁ b₂ n seeds switch lines e v w =
    wrote-is (ap₂ (λ (x : List Rec) (y : ℕ). spliced x 1 y switch lines) v.records e) (wrote_then v w)

-- ---- lists

-- behind what was written over the front of a list it is as it was
drop-over : {A : Type 0} (s l : List A) (k : ℕ) → length s ≤ k → drop k (s ++ drop (length s) l) ≡ drop k l
drop-over {A} s l k h =
    let e : k ≡ length s + (k - length s) = omega arith in
    ap (λ (x : ℕ). drop x (s ++ drop (length s) l)) e
    ∙ drop-append-add s (drop (length s) l) (k - length s)
    ∙ drop-drop (k - length s) (length s) l
    ∙ ap (λ (x : ℕ). drop x l) (sym e)

-- ---- a refusal of the checks

pub refused-by : (code starts : List ℕ) (S : Settings) (c : ℕ) (b : List ℕ) (e : Refusal) → Err e ≡ check_build class_of S.arity c code starts
    → built_of (Err e) b ≡ build_call class_of code starts S c b
unfolding build_call
refused-by code starts S c b e f = rw (← f) refl

-- ---- the built index of checked code

module _ (code starts : List ℕ) (S : Settings) (c : ℕ) (accepted : check_build class_of S.arity c code starts ≡ passed) where
  abbrev K : ℕ → ℕ → Key
  K = key_of class_of (records_of code) starts

  abbrev all : List ℕ
  all = offsets_of starts

  abbrev idx : Index
  idx = build (program_by S K) c all

  abbrev mode : ℕ
  mode = mode_of S.dynamic

  abbrev seeds : List Rec
  seeds = seeds_of code starts S c

  abbrev switch : List Rec
  switch = switch_of code starts S c

  abbrev lines : List Rec
  lines = lines_of code starts S c

  -- what the builder leaves of the buffer
  left : (b b' : List ℕ) → size idx ≤ length (records_of b) → Bytes b → Bytes b'
      → Wrote b b' (spliced (written (records_of b) 0 seeds) 1 (length seeds) switch lines) → b' ≡ stored S.dynamic idx b
  left b b' room h h' w =
      let R : List Rec = records_of b in
      let rs : List Rec = records mode 0 idx in
      let some : 1 ≤ length switch = switch-some (leaders_at K all c) (heads_at K all c) (bits_at K all c) all S.dynamic c 1 in
      let front : written R 0 seeds ≡ seeds ++ drop (length seeds) R = written-front R seeds in
      let taken : take (length seeds) (written R 0 seeds) ≡ seeds =
      ap (take (length seeds)) front ∙ take_at seeds (drop (length seeds) R) (length seeds) refl in
      let rest : drop (size idx) (written R 0 seeds) ≡ drop (size idx) R =
      ap (drop (size idx)) front ∙ drop-over seeds R (size idx) (omega (arith, size_is code starts S c accepted)) in
      let e : spliced (written R 0 seeds) 1 (length seeds) switch lines ≡ rs ++ drop (size idx) R =
      splice-is code starts S c accepted (written R 0 seeds) taken ∙ ap (λ (x : List Rec). rs ++ x) rest in
      stored-wrote S.dynamic idx b b' h h' room (wrote-is e w)

  built : (b b' : List ℕ) (r : Result Built Refusal) → Bytes b → Bytes b' → Building r S.skip b b' seeds switch lines
      → built_of r b' ≡ build_call class_of code starts S c b
  unfolding build_call index_of
  built b b' r h h' w =
      rw accepted (go (ltb (capacity_of b) (size idx)) refl (w.answer ∙ ap (λ (n : ℕ). answer_by (capacity_of b) n S.skip) (size_is code starts S c accepted)))
    where
      go : (t : Bool) → ltb (capacity_of b) (size idx) ≡ t → r ≡ cond t (Err NoRoom) (Ok (record { count = size idx; variable = cond S.skip 2 1 }))
          → built_of r b' ≡ built_by (cond t (Err NoRoom) passed) S idx b
      go true q f =
          ap (λ (x : Result Built Refusal). built_of x b') f
          ∙ ap (λ (y : List ℕ). built_of (Err NoRoom) y) (subst (λ (x : Result Built Refusal). Builds x b b' seeds switch lines) f w.leaves)
      go false q f =
          let room : size idx ≤ length (records_of b) = omega (arith, ltb-false (capacity_of b) (size idx) q, capacity-within b) in
          ap (λ (x : Result Built Refusal). built_of x b') f
          ∙ ap (λ (y : List ℕ). built_of (Ok (record { count = size idx; variable = cond S.skip 2 1 })) y)
          (left b b' room h h' (subst (λ (x : Result Built Refusal). Builds x b b' seeds switch lines) f w.leaves))

-- the same by the columns of the first line
pub built-by : {p : Program} {c : ℕ} {w : Clauses} {C : Columns} → check_build class_of p.settings.arity c p.code.now p.starts.now ≡ passed
    → Filled p (offsets_of p.starts.now) (replicate (length p.starts.now) 7) c w C → (b b' : List ℕ) (r : Result Built Refusal) → Bytes b → Bytes b'
    → Building r C.lines.rooms.switched.settings.skip b b' (seed_by w C.lines.rooms.switched) (switch_in C 1) (new_lines_by C.lines 1)
    → built_of r b' ≡ build_call class_of p.code.now p.starts.now p.settings c b
built-by {p} {c} accepted F b b' r h h' x =
    built p.code.now p.starts.now p.settings c accepted b b' r h h'
    (rw (first-seeds F F.whole-offs F.whole-tags, first-switch F, first-lines F, F.settings) at x)
