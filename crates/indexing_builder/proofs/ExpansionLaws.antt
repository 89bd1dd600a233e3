-- The expansion by the columns that the code fills: its answer, its block and its new lines; answer and buffer are those of section 4's expansion.
-- Assumes nothing.
use mathlib.Core.Path.{◌≡◌, refl, sym, ap, ap₂, ◌∙◌, subst}
use mathlib.Core.Bool.{Bool, true, false, cond}
use mathlib.Core.List.{List, [], ◌∷◌, ◌++◌}
use Prim.Native.Nat.{ℕ, suc, ◌+◌, ◌-◌, ◌≤◌, ◌<◌}
use native.Mathlib.Omega.{arith}
use borrow.Author.Tests.{le-leb, lt-leb, leb-true}
use lib.Dec.{leb}
use lib.ListN.{length, get_or, take, drop, length-replicate, length-append}
use lib.Seq.{length-take-le}
use Rattle.records.specs.declared.Rec.{Rec}
use Rattle.records.specs.Records.{records_of, Wrote}
use Rattle.records.specs.Moves.{spliced}
use Rattle.records.proofs.Laws.{wrote-is}
use Rattle.records.proofs.Whole.{Bytes}
use Rattle.indexing_iter.specs.declared.OptArgIndexKey.{OptArgIndexKey as Key}
use Rattle.indexing_iter.specs.declared.Settings.{Settings}
use Rattle.indexing_iter.specs.Refusals.{passed}
use Rattle.indexing_iter.specs.Classes.{class_of}
use Rattle.indexing_iter.specs.Clauses.{key_of}
use Rattle.indexing_iter.specs.Checks.{check_code}
use Rattle.std.specs.Prelude.{Option, Some, None}
use Rattle.indexing_iter.proofs.KeyLaws.{code_ok}
use Rattle.indexing.specs.Lines.{on_demand, Choice, Index, line_at, offs, table_recs, records, mode_of, size}
use Rattle.indexing.specs.Build.{Program, program_of}
use Rattle.indexing.specs.Builder.{capacity_of}
use Rattle.indexing.specs.Expand.{expand}
use Rattle.index_writer.specs.Choices.{AllKnown}
use Rattle.indexing_builder.specs.declared.expansion.OnDemand.{OnDemand}
use Rattle.indexing_builder.specs.declared.expansion.Grown.{Grown}
use Rattle.indexing.specs.Upto.{any_to}
use Rattle.indexing.specs.Columns.{open_member, dead_recs, switch_recs, new_lines_recs}
use Rattle.indexing.specs.Expanding.{tags_of, opens_of, zeros_of, ColumnsOf, block_recs, more_recs, lines_made, more_lines}
use Rattle.indexing_builder.specs.Expansion.{index_on, Demanded, expanded_of, outcome_by, expand_call, answer_for, Expands, Expandable, Expansion, LineExpansion}
use Rattle.indexing.proofs.Records.{before, before-place, behind, records-old}
use Rattle.indexing.proofs.Size.{length-records, lines-size}
use Rattle.indexing.proofs.Stored.{capacity-within, capacity-small, stored-wrote}
use Rattle.indexing.proofs.BridgeLines.{Tagged, tagged-own}
use Rattle.indexing.proofs.BridgeExpand.{expand-size, expand-lines, expand-spliced}
use Rattle.indexing.proofs.BridgeColumns.{InRange}
use Rattle.index_writer.proofs.IndexLaws.{known-ranged}

-- ---- answers

pub answer-none : (capacity size lines : ℕ) → capacity < size → None ≡ answer_for capacity size lines
answer-none capacity size lines h = rw (lt-leb size capacity h)

pub answer-stored : (capacity : ℕ) (g : Grown) {size lines : ℕ} → g.count ≡ size → g.lines ≡ lines → g.count ≤ capacity → Some g ≡ answer_for capacity size lines
answer-stored capacity g e f h = rw (← e, ← f, le-leb g.count capacity h)

-- the same by other names
pub expansion-as : (t : OnDemand) (b b' : List ℕ) (r : Option Grown) {block block' more more' : List Rec} {new new' : ℕ} → block ≡ block' → more ≡ more' → new ≡ new'
    → Expansion r t b b' block more new → Expansion r t b b' block' more' new'
expansion-as t b b' r e f g x = rw (← e, ← f, ← g) x

-- a dead table has its own record
pub dead-some : (zeros opens offs : List ℕ) (a : ℕ) → 1 ≤ length (dead_recs zeros opens offs a)
unfolding dead_recs
dead-some zeros opens offs a = omega arith

-- ---- the columns

module _ (S : Settings) {K : ℕ → ℕ → Key} {os : List ℕ} {a : ℕ} {leaders heads sizes zeros bits opens : List ℕ}
    (C : ColumnsOf K S.arity os a leaders heads sizes zeros bits opens) where
  zeros-count : length zeros ≡ length os
  zeros-count = ap length C.zeros-are ∙ length-replicate (length os) 0

  any_here : any_to (open_member (zeros_of os) (opens_of S K os) os 0 a) (length os) ≡ any_to (open_member zeros opens [] 0 a) (length zeros)
  unfolding open_member
  any_here = rw (zeros-count, C.zeros-are, C.opens-are)

  -- where each clause has a key at a
  module _ (keyed : any_to (open_member zeros opens [] 0 a) (length zeros) ≡ false) where
    pub switch-block : (d : ℕ) → switch_recs leaders heads bits os S.dynamic a d ≡ block_recs S K os a d
    unfolding block_recs
    switch-block d = rw (any_here, keyed, C.leaders-are, C.heads-are, C.bits_are)

    pub switch-more : (tags : List ℕ) (number : ℕ) → new_lines_recs leaders heads opens os tags S a number ≡ more_recs S K os tags a number
    unfolding more_recs
    switch-more tags number = rw (any_here, keyed, C.leaders-are, C.heads-are, C.opens-are)

    pub switch-lines : lines_made leaders heads S.dynamic ≡ more_lines S K os a
    unfolding more_lines
    switch-lines = rw (any_here, keyed, C.leaders-are, C.heads-are)

  -- where some clause is open
  module _ (opened : any_to (open_member zeros opens [] 0 a) (length zeros) ≡ true) where
    pub dead-block : (d : ℕ) → dead_recs zeros opens os a ≡ block_recs S K os a d
    unfolding block_recs
    dead-block d = rw (any_here, opened, C.zeros-are, C.opens-are)

    pub dead-more : (tags : List ℕ) (number : ℕ) → ◌≡◌ {A = List Rec} [] (more_recs S K os tags a number)
    unfolding more_recs
    dead-more tags number = rw (any_here, opened)

    pub dead-lines : ◌≡◌ {A = ℕ} 0 (more_lines S K os a)
    unfolding more_lines
    dead-lines = rw (any_here, opened)

  -- the whole expansion, by the same columns under other names
  module _ {opens' offs : List ℕ} (p : opens' ≡ opens) (q : offs ≡ os) (tags : List ℕ) (t : OnDemand) (b b' : List ℕ) (r : Option Grown) where
    pub switch-expanded : {tags' : List ℕ} → tags' ≡ tags → any_to (open_member zeros opens' [] 0 a) (length zeros) ≡ false
        → Expansion r t b b' (switch_recs leaders heads bits offs S.dynamic a (t.lines - t.line)) (new_lines_recs leaders heads opens offs tags' S a t.lines)
        (lines_made leaders heads S.dynamic)
        → Expansion r t b b' (block_recs S K os a (t.lines - t.line)) (more_recs S K os tags a t.lines) (more_lines S K os a)
    switch-expanded e keyed x =
        let k = rw p at keyed in
        expansion-as t b b' r (switch-block k (t.lines - t.line)) (switch-more k tags t.lines) (switch-lines k) (rw (q, e) at x)

    pub dead-expanded : any_to (open_member zeros opens' [] 0 a) (length zeros) ≡ true → Expansion r t b b' (dead_recs zeros opens' offs a) [] 0
        → Expansion r t b b' (block_recs S K os a (t.lines - t.line)) (more_recs S K os tags a t.lines) (more_lines S K os a)
    dead-expanded opened x =
        let k = rw p at opened in
        expansion-as t b b' r (dead-block k (t.lines - t.line)) (dead-more k tags t.lines) (dead-lines k) (rw (p, q) at x)

-- ---- what the expansion on the buffer is: section 4's

as_many : (cs : List Choice) → length (tags_of cs) ≡ length (offs cs)
as_many [] = refl
as_many (c ∷ cs) = ap suc (as_many cs)

-- in checked code, of the on-demand table t in an index that the buffer b begins with
module _ {t : OnDemand} {S : Settings} {code starts b os tags : List ℕ} (E : Demanded t S code starts b os tags)
    (k : check_code class_of S.arity code starts ≡ passed) where
  abbrev K : ℕ → ℕ → Key
  K = key_of class_of (records_of code) starts

  abbrev P : Program
  P = program_of class_of S (records_of code) starts

  abbrev idx : Index
  idx = index_on t b

  abbrev its : List Choice
  its = (line_at idx t.line).choices

  abbrev mode : ℕ
  mode = mode_of S.dynamic

  abbrev after : Index
  after = expand P idx t.line t.arg

  -- the block and the new lines of the clauses xs, in an index of n lines
  abbrev block : List ℕ → ℕ → List Rec
  block xs n = block_recs S K xs t.arg (n - t.line)

  abbrev more : List ℕ → ℕ → List Rec
  more xs n = more_recs S K xs tags t.arg n

  small : S.arity ≤ 32
  small = (code_ok class_of S.arity code starts k).arity-to

  here : t.line < length idx
  here = omega (arith, E.own, E.lines_are)

  count-is : t.count ≡ size idx
  count-is =
      let h : t.count ≤ length (records_of b) = omega (arith, E.fits, E.capacity-is, capacity-within b) in
      sym (length-take-le t.count (records_of b) h) ∙ ap length E.records-are ∙ length-records mode 0 idx

  place_is : t.at ≡ length (before mode idx t.line t.arg)
  place_is = E.place ∙ sym (before-place mode idx t.line t.arg)

  at_count : t.at < t.count
  at_count = omega (
    arith,
    place_is,
    count-is,
    length-records mode 0 idx,
    ap length (records-old P mode idx t.line t.arg t.arg here E.demand),
    length-append (before mode idx t.line t.arg) (table_recs (on_demand t.arg) ++ behind mode idx t.line t.arg),
  )

  -- what the functions that write it ask
  pub expandable : Expandable t S code starts b os tags
  expandable = record {
    known = E.known;
    few = E.few;
    tagged = ap length E.tags-are ∙ as_many its ∙ ap length (sym E.offsets);
    placed = record {
      first = E.first;
      last = E.last;
      own = E.own;
      few-lines = omega (arith, E.lines_are, lines-size idx, count-is, E.fits, E.capacity-is, capacity-small b);
      here = at_count;
      fits = E.fits;
      within = omega (arith, E.capacity-is, capacity-within b);
      few-records = omega (arith, E.capacity-is, capacity-small b);
    };
  }

  ranged : (i : ℕ) → i < length (offs its) → InRange (K (get_or (offs its) i 0) t.arg)
  ranged = known-ranged code starts S.arity k (offs its) (subst (AllKnown starts) E.offsets E.known) t.arg

  own-tags : Tagged S its tags
  own-tags = subst (Tagged S its) (sym E.tags-are) (tagged-own S its)

  -- the answer is by the size of the expanded index
  answer-is : answer_for t.capacity (t.count + length (block os t.lines) + length (more os t.lines) - 1) (t.lines + more_lines S K os t.arg)
      ≡ answer_for (capacity_of b) (size after) (length after)
  answer-is =
      (λ i. answer_for (E.capacity-is i) (count-is i + length (block (E.offsets i) (E.lines_are i)) + length (more (E.offsets i) (E.lines_are i)) - 1)
      (E.lines_are i + more_lines S K (E.offsets i) t.arg))
      ∙ ap₂ (answer_for (capacity_of b))
      (expand-size S K idx t.line t.arg t.arg here E.demand small E.first E.last ranged tags own-tags)
      (expand-lines S K idx t.line t.arg t.arg here E.demand small E.first E.last ranged tags own-tags)

  -- the buffer begins with the expanded index, and is as it was behind it
  spliced-is : spliced (records_of b) t.at t.count (block os t.lines) (more os t.lines) ≡ records mode 0 after ++ drop (size after) (records_of b)
  spliced-is =
      (λ i. spliced (records_of b) (place_is i) (count-is i) (block (E.offsets i) (E.lines_are i)) (more (E.offsets i) (E.lines_are i)))
      ∙ expand-spliced S K idx t.line t.arg t.arg here E.demand small E.first E.last ranged tags own-tags (records_of b)
      (ap (λ (n : ℕ). take n (records_of b)) (sym count-is) ∙ E.records-are)

  pub expansion-is : (b' : List ℕ) (r : Option Grown) → Bytes b → Bytes b' → LineExpansion r t S code starts b b' os tags
      → expanded_of r b' ≡ expand_call t S code starts b
  unfolding expand_call
  expansion-is b' r h h' x = go (leb (size after) (capacity_of b)) refl (x.answer ∙ answer-is)
    where
      go : (q : Bool) → leb (size after) (capacity_of b) ≡ q → r ≡ cond q (Some (record { count = size after; lines = length after })) None
          → expanded_of r b' ≡ outcome_by S.dynamic (cond q (record { storing = true; index = after }) (record { storing = false; index = idx })) b
      go true q f =
          let room : size after ≤ length (records_of b) = omega (arith, leb-true (size after) (capacity_of b) q, capacity-within b) in
          let w : Wrote b b' (spliced (records_of b) t.at t.count (block os t.lines) (more os t.lines)) =
          subst (λ (y : Option Grown). Expands y b b' t.at t.count (block os t.lines) (more os t.lines)) f x.leaves in
          ap (λ (y : Option Grown). expanded_of y b') f
          ∙ ap (expanded_of (Some (record { count = size after; lines = length after }))) (stored-wrote S.dynamic after b b' h h' room (wrote-is spliced-is w))
      go false q f =
          ap (λ (y : Option Grown). expanded_of y b') f
          ∙ ap (expanded_of None) (subst (λ (y : Option Grown). Expands y b b' t.at t.count (block os t.lines) (more os t.lines)) f x.leaves)
