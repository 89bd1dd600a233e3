-- All of it as one claim about a list of walks from the built index.
-- Assumes nothing.
use mathlib.Core.Path.{◌≡◌, refl, sym, ◌∙◌, ap}
use mathlib.Core.Logic.{◌⊎◌, inl, inr}
use mathlib.Core.Bool.{true}
use mathlib.Core.List.Memᴰ
use mathlib.Core.List.{List, [], ◌∷◌, Sublistᴰ, Memᴰ}
use mathlib.Core.Option.{Option, none, some}
use Prim.Native.Nat.{ℕ, zero, suc, ◌<◌}
use native.Mathlib.Omega.{arith}
use Rattle.std.specs.List.{filter}
use lib.ListN.{length}
use Rattle.indexing.proofs.Built.{built-closed, built-length}
use Rattle.indexing.proofs.Grown.{Grown, grown-same, grown-trans, grown-closed, grown-length}
use Rattle.indexing.proofs.Pointers.{Closed}
use Rattle.indexing.specs.Build.{Program, open_at, build}
use Rattle.indexing.specs.Lines.{Index}
use Rattle.indexing_scan.proofs.Again.{again}
use Rattle.indexing_iter.proofs.CheckLaws.{Rising}
use Rattle.indexing_scan.proofs.Rising.{args, path-rising}
use Rattle.indexing_scan.proofs.Walks.{has-line, grown-answer, walk-answer, walk-grown}
use Rattle.indexing_scan.specs.Agree.{Call, agree}
use Rattle.indexing_scan.specs.ByArgument.{act, move, answer_from, answer, walk_by}
use Rattle.indexing_scan.specs.Walk.{Place, line, unstored, Move, skip, stop, pass, out, goto, fail, Answer, look}
use Rattle.claims.proofs.Built.{built-selects}
use Rattle.claims.proofs.Selects.{rising-sublist}

-- a Fail has no offsets
act-fail : (a : ℕ) (p : Place) (m : Move) (k : Place → Answer) → ((q : Place) → (k q).kind ≡ fail → (k q).offsets ≡ [])
    → (act (λ r. r) look a p m k).kind ≡ fail → (act (λ r. r) look a p m k).offsets ≡ []
act-fail a p skip k f e = f p e
act-fail a p (pass h) k f e = f p e
act-fail a p stop k f e = refl
act-fail a p (out h o) k f e = let z : ◌≡◌ {A = ℕ} 0 1 = cc in absurd (omega arith)
act-fail a p (goto h q) k f e = f q e

fail-empty : (P : Program) (Q : Call) (n a : ℕ) (idx : Index) (p : Place) → (answer_from P Q n a idx p).kind ≡ fail → (answer_from P Q n a idx p).offsets ≡ []
unfolding answer_from
fail-empty P Q zero a idx (line zero) e = let z : ◌≡◌ {A = ℕ} 0 1 = cc in absurd (omega arith)
fail-empty P Q zero a idx (line (suc l)) e = let z : ◌≡◌ {A = ℕ} 0 1 = cc in absurd (omega arith)
fail-empty P Q zero a idx (unstored os) e = let z : ◌≡◌ {A = ℕ} 0 1 = cc in absurd (omega arith)
fail-empty P Q (suc n) a idx p e = act-fail a p (move P idx p a (Q a)) (λ q. answer_from P Q n (suc a) idx q) (λ q. fail-empty P Q n (suc a) idx q) e

module _ (P : Program) (c : ℕ) (os : List ℕ) (rising : Rising 1 os) (keyed : open_at P c os ≡ []) (cap : ℕ) where
  -- what holds of a walk with the call Q of the index idx, after walks with the calls before
  pub record Each (before : List Call) (idx : Index) (Q : Call) : Type 0 where
    -- the answer is the fresh index's, at any capacity, so with unlimited space too
    pub fresh : (room : ℕ) → (walk_by P cap Q idx).found ≡ (walk_by P room Q (build P c os)).found
    -- every clause that agrees is selected, once and in source order
    pub all : filter (agree P Q) (walk_by P cap Q idx).found.offsets ≡ filter (agree P Q) os
    pub order : Sublistᴰ (walk_by P cap Q idx).found.offsets os
    pub once : Rising 1 (walk_by P cap Q idx).found.offsets
    -- Fail only if none agrees
    pub fails : (walk_by P cap Q idx).found.kind ≡ fail → filter (agree P Q) os ≡ []
    -- no two tables looked at are for one argument
    pub path : Rising 1 (args (walk_by P cap Q idx).found.path)
    -- a call made again leaves the index
    pub again : Memᴰ Q before → (walk_by P cap Q idx).left ≡ idx

  -- the walks of a list, one after the other: with a call, or refused (none), which leaves the index
  abbrev pub Every : List Call → Index → List (Option Call) → Type 0
  Every before idx [] = Unit {0}
  Every before idx (none ∷ Qs) = Every before idx Qs
  Every before idx (some Q ∷ Qs) = Each before idx Q × Every (Q ∷ before) (walk_by P cap Q idx).left Qs

  -- what a list of walks keeps
  pub record Kept (before : List Call) (idx : Index) : Type 0 where
    pub came : Grown P cap (build P c os) idx
    pub settled : (Q : Call) → Memᴰ Q before → (last : Index) → Grown P cap idx last → (walk_by P cap Q last).left ≡ last

  module _ (idx : Index) (came : Grown P cap (build P c os) idx) (Q : Call) where
    shut : Closed idx
    shut = grown-closed P cap came (built-closed P c os keyed)

    some-line : 0 < length idx
    some-line = omega (arith, built-length P c os, grown-length P cap came)

    found-is : (walk_by P cap Q idx).found ≡ answer P Q (build P c os)
    found-is = walk-answer P cap Q P.arity 1 (record { storing = true; index = idx }) (omega arith) shut (has-line some-line)
        ∙ grown-answer P cap came (built-closed P c os keyed) Q P.arity 1 0 (omega arith) (built-length P c os)

    pub each : (before : List Call) → (Memᴰ Q before → (walk_by P cap Q idx).left ≡ idx) → Each before idx Q
    each before same = record {
      fresh = λ room. found-is ∙ sym (walk-answer P room Q P.arity 1 (record { storing = true; index = build P c os }) (omega arith)
          (built-closed P c os keyed) (has-line (built-length P c os)));
      all = rw found-is (built-selects P c os keyed Q).all;
      order = rw found-is (built-selects P c os keyed Q).ordered;
      once = rw found-is (rising-sublist (built-selects P c os keyed Q).ordered 1 rising);
      fails = rw found-is (λ e. sym (built-selects P c os keyed Q).all ∙ ap (filter (agree P Q)) (fail-empty P Q P.arity 1 (build P c os) (line 0) e));
      path = rw found-is (path-rising P Q P.arity 1 (build P c os) (line 0));
      again = same;
    }

    pub grows : Grown P cap idx (walk_by P cap Q idx).left
    grows = walk-grown P cap Q P.arity 1 (record { storing = true; index = idx }) shut (has-line some-line)

    pub kept_next : (before : List Call) → Kept before idx → Kept (Q ∷ before) (walk_by P cap Q idx).left
    kept_next before k = record {
      came = grown-trans P cap came grows;
      settled = λ R m last g. go R last g (Memᴰ.cases_cons m);
    }
      where
        go : (R : Call) (last : Index) → Grown P cap (walk_by P cap Q idx).left last → (R ≡ Q) ⊎ Memᴰ R before → (walk_by P cap R last).left ≡ last
        go R last g (inl e) = rw e (again P cap Q P.arity 1 idx last shut (has-line some-line) g)
        go R last g (inr m) = k.settled R m last (grown-trans P cap grows g)

  runs-from : (Qs : List (Option Call)) (before : List Call) (idx : Index) → Kept before idx → Every before idx Qs
  runs-from [] before idx k = tt
  runs-from (none ∷ Qs) before idx k = runs-from Qs before idx k
  runs-from (some Q ∷ Qs) before idx k = (
    each idx k.came Q before (λ m. k.settled Q m idx grown-same),
    runs-from Qs (Q ∷ before) (walk_by P cap Q idx).left (kept_next idx k.came Q before k),
  )

  pub kept-start : Kept [] (build P c os)
  kept-start = record { came = grown-same; settled = λ Q m. absurd (Memᴰ.not-nil m) }

  -- every list of walks from the built index
  pub runs : (Qs : List (Option Call)) → Every [] (build P c os) Qs
  runs Qs = runs-from Qs [] (build P c os) kept-start
