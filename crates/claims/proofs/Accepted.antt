-- What an accepted build says: the code, starts and settings are as the theorems about walks want them.
-- Assumes nothing.
use mathlib.Core.Path.{◌≡◌, refl}
use mathlib.Core.Bool.{Bool, true, false, cond}
use mathlib.Core.List.{List, [], ◌∷◌}
use Prim.Native.Nat.{ℕ, suc, ◌≤◌, ◌<◌}
use native.Mathlib.Omega.{arith}
use Rattle.std.proofs.lemmas.Bool.{le-leb, ltb-false}
use Rattle.std.specs.Cmp.Derive.{both_true}
use lib.Dec.{ltb}
use lib.ListN.{length, get_or, length-map}
use Rattle.records.specs.Records.{records_of}
use Rattle.records.proofs.Whole.{Bytes}
use Rattle.indexing_iter.specs.declared.Settings.{Settings}
use Rattle.indexing_iter.specs.declared.refusal.Refusal.{Refusal}
use Rattle.indexing_iter.specs.declared.refusal.Refusal.TheVariants.{Arity, ChosenArgument, CodeSize, Starts, NoBody, KeyRecord, Register, OpenClause, NoRoom, Call, Out, Index as IndexOf}
use Rattle.indexing_iter.specs.Refusals.{Checked, passed, refusal_number}
use Rattle.std.specs.Prelude.{Ok, Err}
use Rattle.indexing_iter.specs.Keys.{is_open}
use Rattle.indexing_iter.specs.Clauses.{offsets_of, known}
use Rattle.indexing_iter.specs.Checks.{otherwise, check_code, check_build}
use Rattle.indexing_iter.proofs.CheckLaws.{Rising, code-arity, code-starts, code-offsets, offset-known, build-code, build-chosen}
use Rattle.indexing_iter.proofs.KeyLaws.{or-else-first, or-else-next, not-refused, known_small}
use Rattle.indexing.proofs.Built.{built-is-expanded, keyed-by-checks}
use Rattle.indexing.specs.Build.{Program, program_of, open_at}
use Rattle.indexing.specs.Lines.{Index, size}
use Rattle.indexing.specs.Expand.{expand}
use Rattle.indexing.specs.Seed.{seed}
use Rattle.indexing.specs.Builder.{capacity_of, stored, check_room, built_by, index_of, build_call}
use Rattle.well_formed.proofs.CodeKeys.{code-keys}
use Rattle.well_formed.proofs.Fields.{Narrow, code-narrow}
use Rattle.well_formed.specs.WellFormed.{rising_ok, key_ok}

-- ---- no refusal has the number 0

numbered : (e : Refusal) → 1 ≤ refusal_number e
numbered Arity = omega arith
numbered ChosenArgument = omega arith
numbered CodeSize = omega arith
numbered Starts = omega arith
numbered NoBody = omega arith
numbered KeyRecord = omega arith
numbered Register = omega arith
numbered OpenClause = omega arith
numbered NoRoom = omega arith
numbered Call = omega arith
numbered Out = omega arith
numbered IndexOf = omega arith

accepted : (x : Checked) (S : Settings) (idx : Index) (buffer : List ℕ) → (built_by x S idx buffer).number ≡ 0 → x ≡ passed
accepted (Ok u) S idx buffer h = refl
accepted (Err e) S idx buffer h = absurd (omega (arith, numbered e))

module _ (cls : ℕ → ℕ) (code starts : List ℕ) (S : Settings) (c : ℕ) (buffer : List ℕ) (accepts : (build_call cls code starts S c buffer).number ≡ 0) where
  -- an accepted build passed 1 to 9
  build-checks : otherwise (check_build cls S.arity c code starts) (check_room buffer (index_of cls code starts S c)) ≡ passed
  unfolding build_call
  build-checks =
      let idx : Index = index_of cls code starts S c in
      accepted (otherwise (check_build cls S.arity c code starts) (check_room buffer idx)) S idx buffer accepts

  pub built-checked : check_build cls S.arity c code starts ≡ passed
  built-checked = or-else-first (check_build cls S.arity c code starts) (check_room buffer (index_of cls code starts S c)) build-checks

  pub built-room : size (index_of cls code starts S c) ≤ capacity_of buffer
  built-room =
      let over : Bool = ltb (capacity_of buffer) (size (index_of cls code starts S c)) in
      let room = or-else-next (check_build cls S.arity c code starts) (check_room buffer (index_of cls code starts S c)) build-checks in
      ltb-false (capacity_of buffer) (size (index_of cls code starts S c)) (not-refused over NoRoom passed room).0

  -- and gives the index's records and their count
  pub built-is : build_call cls code starts S c buffer
      ≡ record { number = 0; count = size (index_of cls code starts S c); variable = cond S.skip 2 1; index = stored S.dynamic (index_of cls code starts S c) buffer }
  unfolding build_call
  built-is = rw build-checks

  -- section 3's index is what section 4 makes of the on-demand table for c in line 0 as it is before its switch is made
  pub accepted-is-expanded : let P = program_of cls S (records_of code) starts in index_of cls code starts S c ≡ expand P (seed P c (offsets_of starts)) 0 c
  unfolding index_of
  accepted-is-expanded = built-is-expanded _ c (offsets_of starts) (keyed-by-checks cls code starts S c built-checked)

-- ---- the offsets

rising-ok : (kn : ℕ → Bool) (n : ℕ) (os : List ℕ) → Rising n os → ((i : ℕ) → i < length os → kn (get_or os i 0) ≡ true) → rising_ok kn n os ≡ true
rising-ok kn n [] r f = refl
rising-ok kn n (o ∷ os) r f =
    both_true (le-leb n o r.0) (both_true (f 0 (omega arith)) (rising-ok kn (suc o) os r.1 (λ i h. f (suc i) (omega arith))))

-- ---- all of it

-- a program, the known offsets, the chosen argument and the clauses of a build that was accepted
pub record Ready (P : Program) (kn : ℕ → Bool) (c : ℕ) (os : List ℕ) : Type 0 where
  pub arity : P.arity ≤ 32
  pub low : 1 ≤ c
  pub high : c ≤ P.arity
  pub keyed : open_at P c os ≡ []
  pub some : 1 ≤ length os
  pub rising : Rising 1 os
  pub offsets : rising_ok kn 1 os ≡ true
  pub small : (o : ℕ) → kn o ≡ true → o < 0x8000_0000
  pub keys : (o a : ℕ) → is_open (P.key_of o a) ≡ false → key_ok (P.key_of o a) ≡ true
  pub narrow : (o a : ℕ) → Narrow (P.key_of o a)

pub ready : (cls : ℕ → ℕ) (code starts : List ℕ) (S : Settings) (c : ℕ) → Bytes code → check_build cls S.arity c code starts ≡ passed
    → Ready (program_of cls S (records_of code) starts) (known starts) c (offsets_of starts)
ready cls code starts S c bytes e =
    let p : check_code cls S.arity code starts ≡ passed = build-code cls S.arity code starts c e in
    let n : length (offsets_of starts) ≡ length starts = length-map starts suc in
    record {
      arity = (code-arity cls S.arity code starts p).1;
      low = (build-chosen cls S.arity code starts c e).0;
      high = (build-chosen cls S.arity code starts c e).1;
      keyed = keyed-by-checks cls code starts S c e;
      some = omega (arith, (code-starts cls S.arity code starts p).0);
      rising = code-offsets cls S.arity code starts p;
      offsets = rising-ok (known starts) 1 (offsets_of starts) (code-offsets cls S.arity code starts p) (λ i h. offset-known starts i (omega arith));
      small = λ o k. omega (arith, known_small cls S.arity code starts o k p);
      keys = λ o a. code-keys cls S.arity code starts o a p;
      narrow = λ o a. code-narrow cls code starts o a bytes;
    }
