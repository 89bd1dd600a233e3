-- The index of checked code by the columns of its clauses: what the builder and the size function both need of it.
-- Assumes nothing.
use mathlib.Core.Path.{◌≡◌}
use mathlib.Core.Bool.{Bool}
use mathlib.Core.List.{List, [], ◌++◌}
use Prim.Native.Nat.{ℕ, suc, ◌+◌, ◌-◌, ◌≤◌, ◌<◌}
use native.Mathlib.Omega.{arith}
use lib.ListN.{length, get_or, take, drop, replicate, length-map, get_or-replicate}
use Rattle.records.specs.declared.Rec.{Rec}
use Rattle.records.specs.Records.{records_of}
use Rattle.records.specs.Moves.{spliced}
use Rattle.indexing_iter.specs.declared.OptArgIndexKey.{OptArgIndexKey as Key}
use Rattle.indexing_iter.specs.declared.OptArgIndexKey.TheVariants.{None, Literal, Structure, List as ListKey}
use Rattle.indexing_iter.specs.declared.Settings.{Settings}
use Rattle.indexing_iter.specs.Refusals.{passed}
use Rattle.indexing_iter.specs.Classes.{class_of}
use Rattle.indexing_iter.specs.Clauses.{key_of, offsets_of}
use Rattle.indexing_iter.specs.Checks.{check_code, check_build}
use Rattle.indexing_iter.proofs.SameKeys.{KeyInRange}
use Rattle.indexing_iter.proofs.KeyLaws.{key-of-range, code_ok}
use Rattle.indexing_iter.proofs.CheckLaws.{build-code, build-chosen}
use Rattle.indexing.specs.Lines.{Index, size, records, mode_of}
use Rattle.indexing.specs.Build.{open_at, program_by, initial, build}
use Rattle.indexing.specs.Columns.{switch_recs, new_lines_recs, seed_recs}
use Rattle.indexing.specs.Expanding.{heads_at, bits_at, leaders_at, opens_of, zeros_of, ColumnsOf}
use Rattle.indexing.proofs.Built.{keyed-by-checks}
use Rattle.indexing.proofs.BridgeColumns.{InRange}
use Rattle.indexing.proofs.BridgeLines.{Tagged, tagged-initial}
use Rattle.indexing.proofs.BridgeExpand.{built-size, built-spliced}
use Rattle.index_writer.specs.Choices.{AllKnown}
use Rattle.index_writer.proofs.ColumnLaws.{offsets-known}

-- a switch has its own record
pub switch-some : (leaders heads bits offs : List ℕ) (dynamic : Bool) (a d : ℕ) → 1 ≤ length (switch_recs leaders heads bits offs dynamic a d)
unfolding switch_recs
switch-some leaders heads bits offs dynamic a d = omega arith

-- a key of checked code is in the columns' range
key-ranged : (k : Key) → KeyInRange k → InRange k
key-ranged None h = tt
key-ranged (Literal s b) h = h
key-ranged (Structure n f) h = omega (arith, h.1)
key-ranged ListKey h = tt

pub known-ranged : (code starts : List ℕ) (arity : ℕ) → check_code class_of arity code starts ≡ passed → (os : List ℕ) → AllKnown starts os → (a i : ℕ)
    → i < length os → InRange (key_of class_of (records_of code) starts (get_or os i 0) a)
known-ranged code starts arity e os k a i h =
    key-ranged (key_of class_of (records_of code) starts (get_or os i 0) a) (key-of-range class_of arity code starts (get_or os i 0) a (k i h) e)

-- line 0 before its switch on c is made, its switch, and the new lines
module _ (code starts : List ℕ) (S : Settings) (c : ℕ) where
  abbrev K : ℕ → ℕ → Key
  K = key_of class_of (records_of code) starts

  abbrev all : List ℕ
  all = offsets_of starts

  abbrev zs : List ℕ
  zs = replicate (length starts) 7

  abbrev idx : Index
  idx = build (program_by S K) c all

  abbrev pub seeds_of : List Rec
  seeds_of = seed_recs (zeros_of all) (opens_of S K all) all zs S c

  abbrev pub switch_of : List Rec
  switch_of = switch_recs (leaders_at K all c) (heads_at K all c) (bits_at K all c) all S.dynamic c 1

  abbrev pub lines_of : List Rec
  lines_of = new_lines_recs (leaders_at K all c) (heads_at K all c) (opens_of S K all) all zs S c 1

  -- the same by the columns
  module _ {os tags leaders heads sizes zeros bits opens : List ℕ} (o : os ≡ offsets_of starts) (t : tags ≡ replicate (length starts) 7)
      (C : ColumnsOf K S.arity os c leaders heads sizes zeros bits opens) where
    pub seeds-are : seed_recs zeros opens os tags S c ≡ seeds_of
    seeds-are = rw (C.zeros-are, C.opens-are, o, t)

    pub switch-is : switch_recs leaders heads bits os S.dynamic c 1 ≡ switch_of
    switch-is = rw (C.leaders-are, C.heads-are, C.bits_are, o)

    pub lines_are : new_lines_recs leaders heads opens os tags S c 1 ≡ lines_of
    lines_are = rw (C.leaders-are, C.heads-are, C.opens-are, o, t)

  -- in code that passed the builder's checks
  module _ (accepted : check_build class_of S.arity c code starts ≡ passed) where
    pub checked : check_code class_of S.arity code starts ≡ passed
    checked = build-code class_of S.arity code starts c accepted

    pub above : 1 ≤ c
    above = (build-chosen class_of S.arity code starts c accepted).0

    pub below : c ≤ S.arity
    below = (build-chosen class_of S.arity code starts c accepted).1

    pub small : S.arity ≤ 32
    small = (code_ok class_of S.arity code starts checked).arity-to

    pub few : length starts ≤ 1024
    few = (code_ok class_of S.arity code starts checked).few

    ranged : (i : ℕ) → i < length all → InRange (K (get_or all i 0) c)
    ranged = known-ranged code starts S.arity checked all (offsets-known starts) c

    keyed : open_at (program_by S K) c all ≡ []
    keyed = keyed-by-checks class_of code starts S c accepted

    own : Tagged S (initial 7 all) zs
    own = tagged-initial S 7 all zs (λ e j h. get_or-replicate (length starts) j 7 0 (omega (arith, length-map starts suc)))

    -- the size of the index
    pub size_is : length seeds_of + length switch_of + length lines_of - 1 ≡ size idx
    size_is = built-size S K all c small above below ranged keyed zs own

    -- its records in a list that begins with line 0
    pub splice-is : (rs : List Rec) → take (length seeds_of) rs ≡ seeds_of
        → spliced rs 1 (length seeds_of) switch_of lines_of ≡ records (mode_of S.dynamic) 0 idx ++ drop (size idx) rs
    splice-is = built-spliced S K all c small above below ranged keyed zs own
