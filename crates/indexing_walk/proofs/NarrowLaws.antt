-- A turn that ends in the line, and one at an on-demand table where nothing is stored any more.
-- Assumes nothing.
use mathlib.Core.Path.{◌≡◌, refl, sym, ap, ap₂, ◌∙◌, subst}
use mathlib.Core.Bool.{Bool, false, cond}
use mathlib.Core.List.{List, [], ◌∷◌, ◌++◌}
use mathlib.Core.Option.{Option, none, some}
use Prim.Native.Nat.{ℕ, zero, suc, ◌+◌, ◌-◌, ◌≤◌}
use native.Mathlib.Omega.{arith}
use lib.Dec.{eqb}
use lib.ListN.{length, get_or, take, drop}
use lib.Seq.{slice, take-append-le}
use Rattle.records.specs.declared.Rec.{Rec}
use Rattle.records.specs.Records.{records_of, zero_rec}
use Rattle.indexing_iter.specs.declared.OptArgIndexKey.{OptArgIndexKey as Key}
use Rattle.indexing_iter.specs.declared.Settings.{Settings}
use Rattle.indexing_iter.specs.Classes.{class_of}
use Rattle.indexing_iter.specs.Keys.{is_open}
use Rattle.indexing.proofs.BridgeGroups.{length-offs}
use Rattle.indexing.specs.Build.{Program, program_of, open_at, virtual, lone}
use Rattle.indexing.specs.Builder.{capacity_of}
use Rattle.indexing.specs.Lines.{Table, on_demand, Index, offs, mode_of}
use Rattle.indexing_scan.specs.Agree.{Call}
use Rattle.indexing_scan.specs.Calls.{call_of}
use Rattle.indexing.specs.Columns.{words_of}
use Rattle.indexing_scan.specs.Places.{At, is_table, behind_table, offsets_at}
use Rattle.indexing_scan.specs.Unstored.{step_number, move_of, Held, finished_by}
use Rattle.indexing_scan.specs.ByArgument.{act, move, settle, answer_from}
use Rattle.indexing_scan.specs.Walk.{Chosen, Place, line, unstored, Move, skip, stop, pass, out, goto, Answer, look, enter, follow_new, choose, demand}
use Rattle.indexing_scan.specs.declared.unstored.Finished.{Finished}
use Rattle.indexing_scan.specs.declared.unstored.Narrowed.{Narrowed}
use Rattle.indexing_scan.specs.declared.unstored.Narrowed.TheVariants.{NoTable, Passed as PassedBy, Failed, Single, Bucket}
use Rattle.indexing_walk.specs.declared.Ended.{Ended}
use Rattle.indexing_scan.specs.declared.case.Case.TheVariants.{Fail as Fails, External as Externals, Sequence, Variadic}
use Rattle.std.specs.declared.ops.ControlFlow.TheVariants.{Break}
use Rattle.indexing_walk.specs.declared.Walking.{Walking}
use Rattle.indexing_walk.specs.Walking.{moved_to, ended_by, Went, Turns}
use Rattle.indexing_walk.proofs.WalkLaws.{move-is}
use Rattle.indexing_walk.proofs.StandLaws.{Ready, program, R, here, choices, there, AtDemand, left, first-is, left_it}
use Rattle.indexing_walk.proofs.TurnLaws.{to-next, to-fail, to_out, to-new, to_end, turn_last}
use Rattle.indexing_walk.proofs.LineLaws.{LineRead, some-clause, few-line, case_at, offs-count, offs-copied}

-- what stands at the front of a list, with more behind it
one-front : (new more : List ℕ) (o : ℕ) → take 1 new ≡ o ∷ [] → take 1 (new ++ more) ≡ o ∷ []
one-front [] more o e = absurd (omega (arith, ap length e))
one-front (x ∷ new) more o e = e

pub front-of : (j : ℕ) (new more os : List ℕ) → j ≤ length new → take j new ≡ os → take j (new ++ more) ≡ os
front-of j new more os h e = take-append-le j new more h ∙ e

-- a demand is never without a table
skips : Move → ℕ
skips skip = 1
skips stop = 0
skips (pass h) = 0
skips (out h o) = 0
skips (goto h p) = 0

demand-looks : (Q : Program) (a : ℕ) (q : Key) (os opens : List ℕ) → skips (demand Q a q os opens) ≡ 0
unfolding skips
demand-looks Q a q os (o ∷ opens) = refl
demand-looks Q a q os [] = go (choose Q q (virtual Q a os))
  where
    into : (h : ℕ) (x : Option ℕ) (os : List ℕ) → skips (enter h x os) ≡ 0
    into h none os = refl
    into h (some o) os = refl

    go : (x : Option (Chosen (List ℕ))) → skips (follow_new Q x) ≡ 0
    go none = refl
    go (some c) = into c.how (lone Q c.to) c.to

-- at most one table is looked at for an argument
act-few : (a n : ℕ) (p : Place) (m : Move) (k : Place → Answer) → ((q : Place) → length (k q).path ≤ n) → length (act (λ r. r) look a p m k).path ≤ suc n
act-few a n p skip k f = omega (arith, f p)
act-few a n p (pass h) k f = omega (arith, f p)
act-few a n p stop k f = omega arith
act-few a n p (out h o) k f = omega arith
act-few a n p (goto h q) k f = omega (arith, f q)

pub path-few : (Q : Program) (K : Call) (n a : ℕ) (idx : Index) (p : Place) → length (answer_from Q K n a idx p).path ≤ n
unfolding answer_from
path-few Q K zero a idx p = omega arith
path-few Q K (suc n) a idx p = act-few a n p (move Q idx p a (K a)) (λ q. answer_from Q K n (suc a) idx q) (λ q. path-few Q K n (suc a) idx q)

module _ {code starts : List ℕ} {S : Settings} {b : List ℕ} {w : Walking} (ready : Ready code starts S b w) (r : Rec) (is : r ≡ get_or (R ready) w.at zero_rec)
    (no_table : is_table r.kind ≡ false) where
  none_left : ready.stands.tables ≡ []
  none_left = turn_last ready r is no_table

  at-end : At (mode_of S.dynamic) (here ready) (R ready) w.line [] w.at
  at-end = subst (λ (x : List Table). At (mode_of S.dynamic) (here ready) (R ready) w.line x w.at) none_left ready.stands.place

  -- the list has room for the line's offsets
  pub end-room : (n : ℕ) → n ≡ 1024 → offsets_at (R ready) w.at ≤ n
  end-room n e = omega (arith, e, offs-count ready w.at at-end, (few-line ready).1)

  -- no table is left: the line's offsets are the answer's
  pub turn_end : (call new old : List ℕ) (e : Ended) → e ≡ ended_by w (cond (eqb w.line 0) Variadic Sequence) w.line (offsets_at (R ready) w.at) 0
      → new ≡ words_of (slice w.at (w.at + offsets_at (R ready) w.at) (records_of b)) ++ drop (offsets_at (R ready) w.at) old
      → Turns code starts S call b w b new (Break e)
  turn_end call new old e f g =
      let n = offs-count ready w.at at-end in
      subst (λ (y : Ended). Turns code starts S call b w b new (Break y)) (sym f) (
        to_end ready call new (cond (eqb w.line 0) Variadic Sequence) (offsets_at (R ready) w.at) none_left (case_at w.line)
            (n ∙ sym (length-offs (choices ready))) (offs-copied ready w.at at-end (offsets_at (R ready) w.at) new old refl g),
        refl,
        refl,
        omega (arith, n, (few-line ready).0),
      )

-- by what the narrowing of the walk's line at argument a answers, the new list in its buffer: how the walk goes on or ends
abbrev pub Narrows : (code starts : List ℕ) (S : Settings) (call b : List ℕ) (w : Walking) (a : ℕ) (new : List ℕ) → Narrowed → Type 0
Narrows code starts S call b w a new NoTable = ⊥
Narrows code starts S call b w a new (PassedBy h) = (q : ℕ) (v : Walking) → q ≡ behind_table (take w.count (records_of b)) w.at → v ≡ moved_to w w.line q a
    → Went code starts S call b w b v
Narrows code starts S call b w a new Failed = (list : List ℕ) (e : Ended) → e ≡ ended_by w Fails 0 0 1 → Turns code starts S call b w b list (Break e)
Narrows code starts S call b w a new (Single h x) =
    (more : List ℕ) (e : Ended) → e ≡ ended_by w Externals 0 1 1 → Turns code starts S call b w b (new ++ more) (Break e)
Narrows code starts S call b w a new (Bucket h m) =
    (os : List ℕ) → os ≡ take m new →
    let A = answer_from (program_of class_of S (records_of code) starts) (call_of call) (S.arity + 1 - (a + 1)) (a + 1) [] (unstored os) in
    (list : List ℕ) (f : Finished) (e : Ended) → f ≡ finished_by A → take f.count list ≡ A.offsets → f.count ≤ m
    → e ≡ ended_by w f.case 0 f.count (1 + f.tables) → Turns code starts S call b w b list (Break e)

-- an on-demand table, bound, and nothing is stored any more
module _ {code starts : List ℕ} {S : Settings} {b : List ℕ} {w : Walking} {a : ℕ} (due : AtDemand code starts S b w a) (call : List ℕ) (key : Key)
    (bound : key ≡ call_of call a) (shut : is_open key ≡ false) (off : w.storing ≡ false) where
  abbrev ready : Ready code starts S b w
  ready = due.ready

  abbrev os : List ℕ
  os = offs (choices ready)

  settled : settle (program ready) (capacity_of b) (there ready) (line w.line) a (call_of call a) ≡ there ready
  settled = rw off refl

  moves : move (program ready) (here ready) (line w.line) a (call_of call a) ≡ demand (program ready) a (call_of call a) os (open_at (program ready) a os)
  moves =
      move-is (program ready) (here ready) w.line w.from (call_of call a) (on_demand a) (left due).later (left_it due)
      ∙ ap (λ (y : Bool). cond y (pass 1) (demand (program ready) a (call_of call a) os (open_at (program ready) a os))) (ap is_open (sym bound) ∙ shut)

  narrows-by : (new old : List ℕ) (x : Narrowed) → length old ≤ length starts → move (program ready) (here ready) (line w.line) a (call_of call a) ≡ move_of x new
      → skips (move_of x new) ≡ 0 → Held starts old new x → Narrows code starts S call b w a new x
  unfolding skips
  narrows-by new old NoTable n e z h = absurd (omega (arith, z))
  narrows-by new old (PassedBy y) n e z h = λ q v f g.
      subst (Went code starts S call b w b) (sym g) (to-next ready call (on_demand a) (left due).later (first-is due) (step_number y) q settled e f)
  narrows-by new old Failed n e z h = λ list d g.
      subst (λ (y : Ended). Turns code starts S call b w b list (Break y)) (sym g)
      (to-fail ready call (on_demand a) (left due).later (first-is due) list settled e, refl, refl, omega arith)
  narrows-by new old (Single y x) n e z h = λ more d g.
      subst (λ (y : Ended). Turns code starts S call b w b (new ++ more) (Break y)) (sym g)
      (to_out ready call (on_demand a) (left due).later (first-is due) (new ++ more) (step_number y) x settled e (one-front new more x h.front), refl, refl, some-clause ready)
  narrows-by new old (Bucket y j) n e z h = λ os is list f d p q k g.
      subst (λ (y : Ended). Turns code starts S call b w b list (Break y)) (sym g)
      (to-new ready call (on_demand a) (left due).later (first-is due) list (step_number y) os f settled (e ∙ ap (λ (x : List ℕ). goto (step_number y) (unstored x)) (sym is)) p q, refl, refl, omega (arith, k, h.within, n))

  pub narrows : (new old : List ℕ) (x : Narrowed) → LineRead starts b w old
      → move_of x new ≡ demand (program ready) a key old (open_at (program ready) a old) → Held starts old new x → Narrows code starts S call b w a new x
  narrows new old x l f h =
      let g : move_of x new ≡ demand (program ready) a (call_of call a) os (open_at (program ready) a os) =
      f ∙ ap₂ (λ (z : Key) (y : List ℕ). demand (program ready) a z y (open_at (program ready) a y)) bound l.offsets in
      narrows-by new old x l.few (moves ∙ sym g) (ap skips g ∙ demand-looks (program ready) a (call_of call a) os (open_at (program ready) a os)) h
