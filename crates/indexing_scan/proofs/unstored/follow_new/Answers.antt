use Prim.Native.Nat.{ℕ, ◌≤◌, ◌<◌}
use mathlib.Core.List.{List, ◌++◌}
use mathlib.Core.Path.{◌≡◌, sym, ap, ◌∙◌}
use mathlib.Core.Bool.{true, false}
use Rattle.std.specs.List.{list_all}
use lib.ListN.{length, take, drop, get_or}
use lib.Seq.{length-take-le}
use Rattle.std.proofs.Common.{append_assoc, tests}
use Rattle.indexing_scan.specs.declared.unstored.Step.TheVariants.{Only, Equal}
use native.Mathlib.Omega.{arith}
use Rattle.indexing_iter.specs.Clauses.{known}
use Rattle.indexing_scan.specs.Unstored.{alike, like_to, all_same}
use Rattle.indexing_scan.specs.Readings.{predicate_of}
use Rattle.indexing_iter.specs.Readings.{keys_by}
use Rattle.indexing_scan.proofs.HeldLaws.{Front, front_kept, length-like, known-like, held-empty, held_none, held-entered}
use Rattle.indexing_scan.proofs.UnstoredLaws.{known-first, follow-empty, follow_one, follow-equal, follow-none}
use borrow.Author.Rules.{rules}
use Rattle.indexing_scan.proofs.unstored.follow_new.Goals.{After-all_same, After-keep_if-k, After-keep_if-n}
use Rattle.indexing_scan.proofs.unstored.follow_new.Goals as goal

-- the clauses of the group, and those with the equal key, as they are kept
kept-n : (c : After-keep_if-n)
    → let a = c.args in
    let p = a.program.now in
    let G = like_to (keys_by p) true a.a a.q a.clauses.now in
    (c.keep_if-n.result ≡ length G) × (c.keep_if-n.new.clauses ≡ G ++ drop c.keep_if-n.result a.clauses.now)
unfolding like_to
kept-n c = c.keep_if-n.ensures.kept (alike true c.args.q) (λ k b e. search (rules, tests))

kept-k : (c : After-keep_if-k)
    → let a = c.args in
    let p = a.program.now in
    let G = take c.keep_if-n.result c.keep_if-n.new.clauses in
    let B = like_to (keys_by p) false a.a a.q G in
    (c.keep_if-k.result ≡ length B) × (c.keep_if-k.new.clauses ≡ B ++ drop c.keep_if-k.result G)
unfolding like_to
kept-k c = c.keep_if-k.ensures.kept (alike false c.args.q) (λ k b e. search (rules, tests))

-- the clauses of the group stand at the front, and have known offsets
grouped : (c : After-keep_if-n)
    → let a = c.args in
    let p = a.program.now in
    Front (like_to (keys_by p) true a.a a.q a.clauses.now)
    c.keep_if-n.result c.keep_if-n.new.clauses
grouped c = let a = c.args in
    let p = a.program.now in
    let G = like_to (keys_by p) true a.a a.q a.clauses.now in
    front_kept G (drop c.keep_if-n.result a.clauses.now) c.keep_if-n.new.clauses c.keep_if-n.result (kept-n c).0 (kept-n c).1

grouped-known : (c : After-keep_if-n)
    → let a = c.args in
    let p = a.program.now in
    list_all (known p.starts.now) (take c.keep_if-n.result c.keep_if-n.new.clauses) ≡ true
grouped-known c = let a = c.args in
    let p = a.program.now in
    let K = keys_by p in
    ap (list_all (known p.starts.now)) (grouped c).front ∙ known-like (known p.starts.now) K true a.a a.q a.clauses.now (search rules)

grouped-few : (c : After-keep_if-n) → c.keep_if-n.result ≤ length c.args.clauses.now
grouped-few c = let a = c.args in
    let p = a.program.now in
    let K = keys_by p in
    omega (arith, (grouped c).count, length-like K true a.a a.q a.clauses.now)

-- whether the group has one key
compared : (c : After-all_same)
    →
    let a = c.args in
    let p = a.program.now in
    let K = keys_by p in
    let list = c.keep_if-n.new.clauses in
    c.all_same.result ≡ all_same K a.a (K (get_or list 0 0) a.a) (take c.keep_if-n.result list)
compared c =
    let a = c.args in
    let p = a.program.now in
    let K = keys_by p in
    let list = c.keep_if-n.new.clauses in
    c.all_same.ensures ∙ ap (λ k. all_same K a.a k (take c.keep_if-n.result list)) c.key_of-key.ensures

-- the list after the clauses with the equal key were moved, and those clauses at its front
moved : After-keep_if-k → List ℕ
moved c = c.keep_if-k.new.clauses ++ drop c.keep_if-n.result c.keep_if-n.new.clauses

picked : (c : After-keep_if-k)
    →
    let a = c.args in
    let p = a.program.now in
    Front (like_to (keys_by p) false a.a a.q (take c.keep_if-n.result c.keep_if-n.new.clauses))
    c.keep_if-k.result (moved c)
unfolding moved
picked c =
    let a = c.args in
    let p = a.program.now in
    let list = c.keep_if-n.new.clauses in
    let G = take c.keep_if-n.result list in
    let B = like_to (keys_by p) false a.a a.q G in
    let k = c.keep_if-k in
    front_kept B (drop k.result G ++ drop c.keep_if-n.result list) (moved c) k.result (kept-k c).0
    (ap (λ l. l ++ drop c.keep_if-n.result list) (kept-k c).1 ∙ append_assoc B (drop k.result G) (drop c.keep_if-n.result list))

picked-known : (c : After-keep_if-k) → list_all (known c.args.program.now.starts.now) (take c.keep_if-n.result c.keep_if-n.new.clauses) ≡ true
    → list_all (known c.args.program.now.starts.now) (take c.keep_if-k.result (moved c)) ≡ true
picked-known c e =
    let a = c.args in
    let p = a.program.now in
    let K = keys_by p in
    let G = take c.keep_if-n.result c.keep_if-n.new.clauses in
    ap (list_all (known p.starts.now)) (picked c).front ∙ known-like (known p.starts.now) K false a.a a.q G e

picked-few : (c : After-keep_if-k) → c.keep_if-n.result ≤ length c.keep_if-n.new.clauses → c.keep_if-n.result ≤ length c.args.clauses.now
    → c.keep_if-k.result ≤ length c.args.clauses.now
picked-few c room few =
    let a = c.args in
    let p = a.program.now in
    let K = keys_by p in
    let list = c.keep_if-n.new.clauses in
    let n : length (take c.keep_if-n.result list) ≡ c.keep_if-n.result = length-take-le c.keep_if-n.result list room in
    omega (arith, (picked c).count, length-like K false a.a a.q (take c.keep_if-n.result list))

pub returns-then-n-eq0 : goal.returns-then-n-eq0
returns-then-n-eq0 c =
    let a = c.args in
    let p = a.program.now in
    let P = predicate_of p in
    let list = c.keep_if-n.new.clauses in
    rw c.no_entry.ensures (record {
      clauses_after = follow-empty P a.a a.clauses.now a.q (search rules) c.keep_if-n.result list (kept-n (goal.at.returns-then-n-eq0 c).After-keep_if-n).0 c.if-n-eq0.true;
      held = held-empty p.starts.now a.clauses.now list p.settings.dynamic a.q;
    })

pub key_of-key-requires : goal.key_of-key-requires
key_of-key-requires c =
    let a = c.args in
    let p = a.program.now in
    known-first (known p.starts.now) c.keep_if-n.result c.keep_if-n.new.clauses (grouped-known (goal.at.key_of-key-requires c).After-keep_if-n) (omega (arith, c.if-n-eq0.false)) (grouped (goal.at.key_of-key-requires c).After-keep_if-n).room

pub all_same-requires : goal.all_same-requires
all_same-requires c = grouped-known (goal.at.all_same-requires c).After-keep_if-n

pub returns-then-all_same : goal.returns-then-all_same
returns-then-all_same c =
    let a = c.args in
    let p = a.program.now in
    let P = predicate_of p in
    let n = c.keep_if-n.result in
    let list = c.keep_if-n.new.clauses in
    let h : 0 < n = omega (arith, c.if-n-eq0.false) in
    rw c.entered.ensures (record {
      clauses_after = follow_one P a.a a.clauses.now a.q (search rules) n list (grouped (goal.at.returns-then-all_same c).After-keep_if-n) h (sym (compared (goal.at.returns-then-all_same c).After-all_same) ∙ c.if-all_same.true);
      held = held-entered p.starts.now a.clauses.now list p.settings.dynamic Only n (grouped (goal.at.returns-then-all_same c).After-keep_if-n).room (grouped-few (goal.at.returns-then-all_same c).After-keep_if-n) (grouped-known (goal.at.returns-then-all_same c).After-keep_if-n);
    })

pub keep_if-k-requires-clause-clauses_value : goal.keep_if-k-requires-clause-clauses_value
keep_if-k-requires-clause-clauses_value c = grouped-known (goal.at.keep_if-k-requires-clause-clauses_value c).After-keep_if-n

pub returns-then-k-eq0 : goal.returns-then-k-eq0
unfolding moved
returns-then-k-eq0 c =
    let a = c.args in
    let p = a.program.now in
    let P = predicate_of p in
    let n = c.keep_if-n.result in
    let list = c.keep_if-n.new.clauses in
    let h : 0 < n = omega (arith, c.if-n-eq0.false) in record {
      clauses_after = follow-none P a.a a.clauses.now a.q (search rules) n c.keep_if-k.result list (grouped (goal.at.returns-then-k-eq0 c).After-keep_if-n) h
          (sym (compared (goal.at.returns-then-k-eq0 c).After-all_same) ∙ c.if-all_same.false) (kept-k (goal.at.returns-then-k-eq0 c).After-keep_if-k).0 c.if-k-eq0.true;
      held = held_none p.starts.now a.clauses.now (moved (goal.at.returns-then-k-eq0 c).After-keep_if-k);
    }

pub returns : goal.returns
unfolding moved
returns c =
    let a = c.args in
    let p = a.program.now in
    let P = predicate_of p in
    let n = c.keep_if-n.result in
    let list = c.keep_if-n.new.clauses in
    let new = moved (goal.at.returns c).After-keep_if-k in
    let h : 0 < n = omega (arith, c.if-n-eq0.false) in
    let z : 0 < c.keep_if-k.result = omega (arith, c.if-k-eq0.false) in
    let g = goal.at.returns c in
    rw c.entered-2.ensures (record {
      clauses_after = follow-equal P a.a a.clauses.now a.q (search rules) n c.keep_if-k.result list new (grouped g.After-keep_if-n) h
          (sym (compared g.After-all_same) ∙ c.if-all_same.false) (picked g.After-keep_if-k) z;
      held = held-entered p.starts.now a.clauses.now new p.settings.dynamic Equal c.keep_if-k.result (picked g.After-keep_if-k).room (picked-few g.After-keep_if-k (grouped g.After-keep_if-n).room (grouped-few g.After-keep_if-n))
          (picked-known g.After-keep_if-k (grouped-known g.After-keep_if-n));
    })
