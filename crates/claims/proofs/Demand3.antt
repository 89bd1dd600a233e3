-- Demand 3: every list of walks on an index built here. The buffer always holds the records of an index that comes of the built one by
-- expansions that fit; a refused walk leaves it, and an accepted one leaves the records of the index that the walk by definition leaves.
-- Assumes nothing.
use mathlib.Core.Path.{◌≡◌, refl, sym, ◌∙◌, ap, subst}
use mathlib.Core.Bool.{Bool, true, false, not, ◌&&◌}
use mathlib.Core.List.Memᴰ
use mathlib.Core.List.{List, [], ◌∷◌, map, Memᴰ}
use Prim.Native.Nat.{ℕ, suc, ◌*◌, ◌≤◌, ◌<◌}
use native.Mathlib.Nat.{le_refl}
use native.Mathlib.Omega.{arith}
use Rattle.std.specs.List.{list_all}
use Rattle.std.proofs.lemmas.Bool.{le-leb}
use Rattle.std.specs.Cmp.Derive.{both_true}
use lib.Dec.{eqb, leb, ltb}
use lib.ListN.{length, take, drop, get_or}
use lib.Seq.{take_at}
use Rattle.records.specs.Records.{records_of}
use Rattle.indexing_iter.specs.declared.Settings.{Settings}
use Rattle.indexing_iter.specs.Refusals.{passed}
use Rattle.std.specs.Prelude.{Err}
use Rattle.indexing_iter.specs.declared.refusal.Refusal.TheVariants.{Call as CallOf, Out, Index as IndexOf}
use Rattle.indexing_iter.specs.Clauses.{offsets_of, known}
use Rattle.indexing_iter.specs.Checks.{otherwise, refuse}
use Rattle.indexing_iter.proofs.CheckLaws.{build-code}
use Rattle.indexing.proofs.Built.{built-length}
use Rattle.indexing.proofs.Grown.{Grown, grown-same, grown-size, grown-fits, grown-length, grown-orderly}
use Rattle.indexing.proofs.Order.{built-orderly}
use Rattle.indexing.proofs.Stored.{stored-over}
use Rattle.indexing.specs.Build.{Program, program_of, build}
use Rattle.indexing.specs.Builder.{Built, capacity_of, stored, index_of, build_call}
use Rattle.indexing.specs.Lines.{Index, size}
use Rattle.indexing.specs.Reading.{parse}
use Rattle.well_formed.specs.WellFormed.{well_formed}
use Rattle.indexing_iter.proofs.CheckLaws.{Rising}
use Rattle.indexing_scan.proofs.Rising.{args}
use Rattle.indexing_scan.proofs.Steps.{walk_is}
use Rattle.indexing_scan.specs.Agree.{Call}
use Rattle.indexing_scan.specs.ByArgument.{walk_by}
use Rattle.indexing_scan.specs.Calls.{argument_ok, call_of, check_index, Walked, case_number, walked_by, result_of, walk_call}
use Rattle.indexing_scan.specs.Walk.{Step, Case, fail, external, sequence, variadic, line, Answer, Result, walk}
use Rattle.claims.specs.Demand3.{Asked, Rises, no_more, then, args_of, walked, walk_fresh, selected, Unlimited, Accepted}
use Rattle.claims.specs.Demand3.{count_after, calls_after, Every, Demand3}
use Rattle.claims.proofs.Accepted.{Ready, ready, built-checked, built-room, built-is}
use Rattle.claims.proofs.Runs as Runs
use Rattle.claims.proofs.Runs.{Kept, kept-start, kept_next, each, grows}
use Rattle.claims.proofs.Stored.{came-parse, came-well, came-capacity}
use Rattle.claims.proofs.Unlimited.{Enough, enough}

rises : (n : ℕ) (xs : List ℕ) → Rising n xs → Rises n xs
rises n [] r = no_more
rises n (x ∷ xs) r = then r.0 (rises (suc x) xs r.1)

pub rises-args : (n : ℕ) (ss : List Step) → Rising n (args ss) → Rises n (args_of ss)
rises-args n [] r = no_more
rises-args n (s ∷ ss) r = then r.0 (rises-args (suc s.arg) ss r.1)

case-fail : (k : Case) → case_number k ≡ 1 → k ≡ fail
case-fail fail e = refl
case-fail external e = absurd (omega arith)
case-fail sequence e = absurd (omega arith)
case-fail variadic e = absurd (omega arith)

module _ (cls : ℕ → ℕ) (code starts : List ℕ) (S : Settings) (c : ℕ) (buffer : List ℕ)
    (bytes : (i : ℕ) → get_or code i 0 < 256) (accepts : (build_call cls code starts S c buffer).number ≡ 0) where
  abbrev P : Program
  P = program_of cls S (records_of code) starts

  abbrev os : List ℕ
  os = offsets_of starts

  abbrev cap : ℕ
  cap = capacity_of buffer

  is-ready : Ready P (known starts) c os
  is-ready = ready cls code starts S c bytes (built-checked cls code starts S c buffer accepts)

  room : size (build P c os) ≤ cap
  unfolding index_of
  room = built-room cls code starts S c buffer accepts

  -- on an index that comes of the built one document 01's walk is the walk by arguments
  walk-by : (cap : ℕ) {idx : Index} → Grown P cap (build P c os) idx → (room : ℕ) (Q : Call) → walk P room Q idx ≡ walk_by P room Q idx
  walk-by cap {idx} came room Q = walk_is P room Q idx (grown-orderly P cap came (built-orderly P c os is-ready.low is-ready.high is-ready.keyed))
      (omega (arith, built-length P c os, grown-length P cap came))

  -- what a list of walks keeps: the index and count handed on, and the calls accepted before
  record Holds (before : List (List ℕ)) (index : List ℕ) (count : ℕ) : Type 0 where
    idx : Index
    kept : Kept P c os is-ready.rising is-ready.keyed cap (map call_of before) idx
    holds : index ≡ stored S.dynamic idx buffer
    counts : count ≡ size idx

  module _ (before : List (List ℕ)) (index : List ℕ) (count : ℕ) (h : Holds before index count) where
    came : Grown P cap (build P c os) h.idx
    came = h.kept.came

    capacity-is : capacity_of index ≡ cap
    capacity-is = ap capacity_of h.holds ∙ came-capacity P (known starts) c os is-ready buffer room h.idx came

    parse-is : parse (take count (records_of index)) ≡ h.idx
    parse-is = rw (h.holds, h.counts) (came-parse P (known starts) c os is-ready buffer room h.idx came)

    index-passes : check_index S starts index count ≡ passed
    index-passes = ap (λ (t : Bool). refuse (not t) IndexOf) (both_true count_fits well)
      where
        count_fits : leb count (capacity_of index) ≡ true
        count_fits = le-leb count (capacity_of index) (omega (arith, capacity-is, h.counts, grown-fits P cap came room))

        well : well_formed S.arity S.dynamic (known starts) (take count (records_of index)) ≡ true
        well = rw (h.holds, h.counts) (came-well P (known starts) c os is-ready buffer room h.idx came)

    module _ (q : Asked) where
      abbrev Q : Call
      Q = call_of q.call

      -- the walk is that of the index which the buffer holds
      got-is : result_of cls code starts S q.call index count ≡ walk_by P cap Q h.idx
      unfolding result_of
      got-is = rw (capacity-is, parse-is) (walk-by cap came cap Q)

      -- a walk is refused with 10 or 11, or accepted
      by-outcome : (X : Walked → Type 0)
          → X (walked_by (Err CallOf) S (result_of cls code starts S q.call index count) index q.out)
          → X (walked_by (Err Out) S (result_of cls code starts S q.call index count) index q.out)
          → X (walked_by passed S (result_of cls code starts S q.call index count) index q.out)
          → X (walked cls code starts S c index count q)
      unfolding walk_call
      by-outcome X ten eleven accepted =
          rw (build-code cls S.arity code starts c (built-checked cls code starts S c buffer accepts), index-passes)
          (go (not (eqb (length q.call) (16 * S.arity) && list_all argument_ok (records_of q.call))) (ltb (length q.out) (length starts)))
        where
          go : (t u : Bool)
              → X (walked_by (otherwise (refuse t CallOf) (otherwise (refuse u Out) passed)) S (result_of cls code starts S q.call index count) index q.out)
          go true u = ten
          go false true = eleven
          go false false = accepted

      -- what holds of the walk by definition
      one : Runs.Each P c os is-ready.rising is-ready.keyed cap (map call_of before) h.idx Q
      one = each P c os is-ready.rising is-ready.keyed cap h.idx came Q (map call_of before) (λ m. h.kept.settled Q m h.idx grown-same)

      abbrev got : Result
      got = result_of cls code starts S q.call index count

      abbrev answered : Walked
      answered = walked_by passed S got index q.out

      selected-is : selected cls code starts S c answered ≡ got.found.offsets
      selected-is = take_at got.found.offsets (drop (length got.found.offsets) q.out) (length got.found.offsets) refl

      found-is : got.found ≡ (walk_by P cap Q h.idx).found
      found-is = ap (λ (r : Result). r.found) got-is

      fresh-by : (m : ℕ) → walk_fresh cls code starts S c q m ≡ walk_by P m Q (build P c os)
      unfolding index_of
      fresh-by m = walk-by cap grown-same m Q

      fresh-is : (m : ℕ) → got.found ≡ (walk_fresh cls code starts S c q m).found
      fresh-is m = found-is ∙ one.fresh m ∙ ap (λ (r : Result). r.found) (sym (fresh-by m))

      -- the answer is the fresh index's with unlimited space
      is-fresh : Unlimited cls code starts S c q answered
      is-fresh =
          let e : Enough (λ m. (walk_by P m Q (build P c os)).whole) = enough P Q P.arity 1 (build P c os) (line 0) in
          record {
            room = e.room;
            all-stored = λ m k. ap (λ (r : Result). r.whole) (fresh-by m) ∙ e.stored m k;
            same = λ m. record {
              case = ap (λ (r : Answer). case_number r.kind) (fresh-is m);
              count = ap (λ (r : Answer). length r.offsets) (fresh-is m);
              offsets = selected-is ∙ ap (λ (r : Answer). r.offsets) (fresh-is m);
              tables = ap (λ (r : Answer). length r.path) (fresh-is m);
            };
            arguments = λ m. rises-args 1 (walk_fresh cls code starts S c q m).found.path
                (subst (λ (r : Answer). Rising 1 (args r.path)) (sym found-is ∙ fresh-is m) one.path);
          }

      left_is : got.left ≡ (walk_by P cap Q h.idx).left
      left_is = ap (λ (r : Result). r.left) got-is

      -- a call made again leaves the index
      is-again : Memᴰ q.call before → (answered.index ≡ index) × (answered.records ≡ count)
      is-again m =
          let e : got.left ≡ h.idx = left_is ∙ one.again (Memᴰ.map call_of m) in (
            rw (e, h.holds) (stored-over S.dynamic h.idx buffer h.idx (le_refl (size h.idx))),
            ap size e ∙ sym h.counts,
          )

      is-accepted : Accepted cls code starts S c index count q answered
      is-accepted = record {
        all = rw (selected-is, found-is) one.all;
        in_order = rw (selected-is, found-is) one.order;
        once = rw (selected-is, found-is) (rises 1 (walk_by P cap Q h.idx).found.offsets one.once);
        fails = λ e. one.fails (case-fail (walk_by P cap Q h.idx).found.kind (ap (λ (r : Answer). case_number r.kind) (sym found-is) ∙ e));
        fresh = is-fresh;
        line = refl;
        mark = refl;
        records = refl;
        left = refl;
      }

      -- the next walk gets the index left, with its count
      holds-next : Holds (q.call ∷ before) answered.index answered.records
      holds-next = record {
        idx = (walk_by P cap Q h.idx).left;
        kept = kept_next P c os is-ready.rising is-ready.keyed cap h.idx came Q (map call_of before) h.kept;
        holds = rw (left_is, h.holds) (stored-over S.dynamic h.idx buffer (walk_by P cap Q h.idx).left
            (grown-size P cap (grows P c os is-ready.rising is-ready.keyed cap h.idx came Q)));
        counts = ap size left_is;
      }

  -- what holds of a walk that gives w, and of the walks after it
  abbrev Next : List Asked → List (List ℕ) → List ℕ → ℕ → Asked → Walked → Type 0
  Next qs before index count q w =
      (w.number ≡ 12 → ⊥)
      × (w.number ≡ 0 → Accepted cls code starts S c index count q w)
      × (Memᴰ q.call before → (w.index ≡ index) × (count_after cls code starts S c w count ≡ count))
      × Every cls code starts S c (calls_after cls code starts S c w q before) w.index (count_after cls code starts S c w count) qs

  every-from : (qs : List Asked) (before : List (List ℕ)) (index : List ℕ) (count : ℕ) → Holds before index count
      → Every cls code starts S c before index count qs
  every-from [] before index count h = tt
  every-from (q ∷ qs) before index count h =
      let rest : Every cls code starts S c before index count qs = every-from qs before index count h in
      let next : Next qs before index count q (walked cls code starts S c index count q) =
      by-outcome before index count h q (Next qs before index count q)
      ((λ e. omega arith), (λ e. absurd (omega arith)), (λ m. (refl, refl)), rest)
      ((λ e. omega arith), (λ e. absurd (omega arith)), (λ m. (refl, refl)), rest) (
        (λ e. omega arith),
        (λ e. is-accepted before index count h q),
        is-again before index count h q,
        every-from qs (q.call ∷ before) (answered before index count h q).index (answered before index count h q).records
            (holds-next before index count h q),
      ) in
      (record { not-12 = next.0; accepted = next.1; again = next.2 }, next.3)

  holds-start : Holds [] (build_call cls code starts S c buffer).index (build_call cls code starts S c buffer).count
  unfolding index_of
  holds-start = record {
    idx = build P c os;
    kept = kept-start P c os is-ready.rising is-ready.keyed cap;
    holds = ap (λ (b : Built). b.index) (built-is cls code starts S c buffer accepts);
    counts = ap (λ (b : Built). b.count) (built-is cls code starts S c buffer accepts);
  }

pub demand3 : Demand3
demand3 cls code starts S c buffer qs bytes accepts =
    every-from cls code starts S c buffer bytes accepts qs [] (build_call cls code starts S c buffer).index (build_call cls code starts S c buffer).count
    (holds-start cls code starts S c buffer bytes accepts)
