-- A turn of a walk that stands in a buffer, by what the record at its place is.
-- Assumes nothing.
use mathlib.Core.Path.{◌≡◌, refl, sym, ap, ◌∙◌, subst}
use mathlib.Core.Bool.{Bool, true, false, cond}
use mathlib.Core.List.{List, [], ◌∷◌}
use mathlib.Core.Option.{Option, none, some}
use Prim.Native.Nat.{ℕ, ◌+◌, ◌-◌, ◌≤◌}
use native.Mathlib.Numerals.{add-one}
use native.Mathlib.Omega.{arith}
use Rattle.std.proofs.lemmas.Bool.{both_ways}
use lib.ListN.{length, get_or, take}
use lib.Seq.{slice}
use Rattle.records.specs.declared.Rec.{Rec}
use Rattle.records.specs.Records.{records_of, zero_rec}
use Rattle.indexing_iter.specs.declared.OptArgIndexKey.{OptArgIndexKey as Key}
use Rattle.indexing_iter.specs.declared.Settings.{Settings}
use Rattle.indexing_iter.specs.declared.program.Program.{Program as Checked}
use Rattle.indexing_iter.specs.Keys.{is_open}
use Rattle.indexing.specs.Builder.{capacity_of}
use Rattle.indexing.specs.Lines.{Ptr, ext, int, Table, switch, on_demand, dead, arg_of, line_at, offs, size, mode_of}
use Rattle.indexing_scan.proofs.ExpandedLaws.{at-fits}
use Rattle.indexing_scan.proofs.PlaceLaws.{at-skip, place-within, at_none, at-record, at-switch, at_dead, at_last, at-line, at-chosen, LeftSwitch}
use Rattle.indexing_scan.proofs.Steps.{Left}
use Rattle.indexing_scan.specs.Calls.{call_of}
use Rattle.indexing_scan.specs.Cases.{case_of, ending_of}
use Rattle.indexing_scan.specs.Places.{At, is_table, behind_table, behind_line, choose_rec}
use Rattle.indexing_scan.specs.Unstored.{finished_by}
use Rattle.indexing_scan.specs.ByArgument.{answer_from, move, settle}
use Rattle.indexing_scan.specs.Walk.{Chosen, line, unstored, Move, stop, pass, out, goto, follow, choose, move_at, Result, result, Case, fail, external, sequence, variadic, kind_at}
use Rattle.indexing_scan.specs.declared.unstored.Finished.{Finished}
use Rattle.indexing_scan.specs.declared.case.Case.{Case as Ending}
use Rattle.indexing_scan.specs.declared.case.Case.TheVariants.{Fail as Fails, External as Externals}
use Rattle.std.specs.declared.ops.ControlFlow.{ControlFlow}
use Rattle.indexing_walk.specs.declared.Looked.{Looked}
use Rattle.indexing_walk.specs.declared.Ended.{Ended}
use Rattle.indexing_walk.specs.declared.Walking.{Walking}
use Rattle.indexing_walk.specs.Walking.{led_to, choice_led, looked_by, moved_to, ended_by, turned_by, ListedBy, record_at, StandsIn, Comes, rest_of, Ends, Went, Turns}
use Rattle.indexing_walk.proofs.WalkLaws.{rest, ends, left-next, left-whole, led, move-is, quiet-open, quiet-table}
use Rattle.indexing_walk.proofs.LineLaws.{fit, some-clause}
use Rattle.indexing_walk.proofs.StandLaws.{Ready, AtDemand, ready-in, program, R, here, there, within, left-of, orderly, size_is, stands_at, went-at, left-first, place-first, arg-range, turned}

-- a case, as a number's name and back
ending-back : (k : Case) → case_of (ending_of k) ≡ k
ending-back fail = refl
ending-back external = refl
ending-back sequence = refl
ending-back variadic = refl

-- the first of the tables left, with its argument
pub record Some (ts : List Table) (a : ℕ) : Type 0 where
  pub table : Table
  pub later : List Table
  pub is : ts ≡ table ∷ later
  pub arg : arg_of table ≡ a

module _ {code starts : List ℕ} {S : Settings} {b : List ℕ} {w : Walking} (ready : Ready code starts S b w) where
  -- some table is left where a table's record stands
  pub some-table : (ts : List Table) → At (mode_of S.dynamic) (here ready) (R ready) w.line ts w.at → is_table (get_or (R ready) w.at zero_rec).kind ≡ true → Some ts (get_or (R ready) w.at zero_rec).half
  some-table [] at e = absurd (both_ways _ (at_none at) e)
  some-table (switch a es ∷ ts) at e = record { table = switch a es; later = ts; is = refl; arg = sym (ap (λ (r : Rec). r.half) (at-record at)) }
  some-table (on_demand a ∷ ts) at e = record { table = on_demand a; later = ts; is = refl; arg = sym (ap (λ (r : Rec). r.half) (at-record at)) }
  some-table (dead a os ∷ ts) at e = record { table = dead a os; later = ts; is = refl; arg = sym (ap (λ (r : Rec). r.half) (at-record at)) }

  -- no table is left where another record stands
  pub turn_last : (r : Rec) → r ≡ get_or (R ready) w.at zero_rec → is_table r.kind ≡ false → ready.stands.tables ≡ []
  turn_last r is k = at_last ready.stands.tables ready.stands.place (ap (λ (y : Rec). is_table y.kind) (sym is) ∙ k)

module _ {code starts : List ℕ} {S : Settings} {b : List ℕ} {w : Walking} (ready : Ready code starts S b w) (call : List ℕ) where
  -- how the walk ends, by what is left of it
  ends_by : (list : List ℕ) (W : Result) (c : Ending) (l k more : ℕ) (Z : Result) → Comes W (w.tables + more) Z → case_of c ≡ Z.found.kind → l ≡ Z.number
      → k ≡ length Z.found.offsets → take k list ≡ Z.found.offsets → 0 ≡ length Z.found.path → w.storing ≡ Z.whole → Z.left ≡ here ready
      → Ends b list W (ended_by w c l k more)
  ends_by list W c l k more Z x e₁ e₂ e₃ e₄ e₅ e₆ e₇ = record {
    case = e₁ ∙ sym x.kind;
    line = e₂ ∙ sym x.number;
    count = e₃ ∙ sym (ap length x.offsets);
    offsets = e₄ ∙ sym x.offsets;
    tables = omega (arith, x.path);
    whole = e₆ ∙ sym x.whole;
    left = x.left ∙ e₇;
    records = size_is ready ∙ sym (ap size (x.left ∙ e₇));
  }

  module _ (u : Table) (ts : List Table) (e : ready.stands.tables ≡ u ∷ ts) where
    abbrev a : ℕ
    a = arg_of u

    abbrev Settled : Type 0
    Settled = settle (program ready) (capacity_of b) (there ready) (line w.line) a (call_of call a) ≡ there ready

    abbrev moves : Move
    moves = move (program ready) (here ready) (line w.line) a (call_of call a)

    range : (w.from ≤ a) × (a ≤ S.arity)
    range = arg-range ready u ts e

    -- to the next table
    pub to-next : (h q : ℕ) → Settled → moves ≡ pass h → q ≡ behind_table (R ready) w.at → Went code starts S call b w b (moved_to w w.line q a)
    unfolding rest_of rest
    to-next h q s m f =
        went-at ready call (moved_to w w.line q a) a
        (stands_at ready (moved_to w w.line q a) ts refl refl (at-skip (place-first ready u ts e) q f)
        (left-next (program ready) (here ready) (line w.line) w.from u ts (left-first ready u ts e)) (omega (arith, ready.stands.first, range.0))
        (omega (arith, range.1)))
        range.0 range.1 refl refl (λ W c. turned ready call u ts e (pass h) s m W c)

    -- to another line
    pub to-line : (h j q : ℕ) (us : List Table) → Settled → moves ≡ goto h (line j) → At (mode_of S.dynamic) (here ready) (R ready) j us q
        → Left (program ready) (here ready) (line j) (a + 1) us → Went code starts S call b w b (moved_to w j q a)
    unfolding rest_of rest
    to-line h j q us s m at f =
        went-at ready call (moved_to w j q a) a
        (stands_at ready (moved_to w j q a) us refl refl at f (omega (arith, ready.stands.first, range.0)) (omega (arith, range.1)))
        range.0 range.1 refl refl (λ W c. turned ready call u ts e (goto h (line j)) s m W c)

    -- Fail
    pub to-fail : (list : List ℕ) → Settled → moves ≡ stop → (W : Result) → Comes W w.tables (rest_of code starts S call b w) → Ends b list W (ended_by w Fails 0 0 1)
    to-fail list s m W c =
        ends_by list W Fails 0 0 1 (result 0 (there ready) (record { kind = fail; offsets = []; path = [] }))
        (turned ready call u ts e stop s m W c) refl refl refl refl refl refl refl

    -- External
    pub to_out : (list : List ℕ) (h o : ℕ) → Settled → moves ≡ out h o → take 1 list ≡ o ∷ []
        → (W : Result) → Comes W w.tables (rest_of code starts S call b w) → Ends b list W (ended_by w Externals 0 1 1)
    to_out list h o s m f W c =
        ends_by list W Externals 0 1 1 (result 0 (there ready) (record { kind = external; offsets = o ∷ []; path = [] }))
        (turned ready call u ts e (out h o) s m W c) refl refl refl f refl refl refl

    -- a line that is not stored, in which the answer is worked out
    pub to-new : (list : List ℕ) (h : ℕ) (os : List ℕ) (r : Finished) → Settled → moves ≡ goto h (unstored os)
        → r ≡ finished_by (answer_from (program ready) (call_of call) (S.arity + 1 - (a + 1)) (a + 1) [] (unstored os))
        → take r.count list ≡ (answer_from (program ready) (call_of call) (S.arity + 1 - (a + 1)) (a + 1) [] (unstored os)).offsets
        → (W : Result) → Comes W w.tables (rest_of code starts S call b w) → Ends b list W (ended_by w r.case 0 r.count (1 + r.tables))
    to-new list h os r s m f g W c =
        let x = turned ready call u ts e (goto h (unstored os)) s m W c in
        record {
          case = ap (λ (y : Finished). case_of y.case) f ∙ ending-back (answer_from (program ready) (call_of call) (S.arity + 1 - (a + 1)) (a + 1) [] (unstored os)).kind ∙ sym x.kind;
          line = sym x.number;
          count = ap (λ (y : Finished). y.count) f ∙ sym (ap length x.offsets);
          offsets = g ∙ sym x.offsets;
          tables = omega (arith, x.path, ap (λ (y : Finished). y.tables) f);
          whole = sym x.whole;
          left = x.left;
          records = size_is ready ∙ sym (ap size x.left);
        }

  -- no table is left
  pub to_end : (list : List ℕ) (c : Ending) (k : ℕ) → ready.stands.tables ≡ [] → case_of c ≡ kind_at (line w.line) → k ≡ length (offs (line_at (here ready) w.line).choices)
      → take k list ≡ offs (line_at (here ready) w.line).choices
      → (W : Result) → Comes W w.tables (rest_of code starts S call b w) → Ends b list W (ended_by w c w.line k 0)
  unfolding rest_of rest
  to_end list c k e f g h W x =
      let left : Left (program ready) (here ready) (line w.line) w.from [] = subst (Left (program ready) (here ready) (line w.line) w.from) e (left-of ready) in
      let y = ends (program ready) (capacity_of b) (call_of call) W w.tables (there ready) w.line w.from ready.stands.last left x in
      record {
        case = f ∙ sym y.kind;
        line = sym y.number;
        count = g ∙ sym (ap length y.offsets);
        offsets = h ∙ sym y.offsets;
        tables = omega (arith, y.path);
        whole = sym y.whole;
        left = y.left;
        records = size_is ready ∙ sym (ap size y.left);
      }

-- it is at a table for argument a
pub record AtTable (code starts : List ℕ) (S : Settings) (b : List ℕ) (w : Walking) (a : ℕ) : Type 0 where
  pub ready : Ready code starts S b w
  pub half : a ≡ (get_or (R ready) w.at zero_rec).half
  pub table : is_table (get_or (R ready) w.at zero_rec).kind ≡ true

-- where an on-demand table stands it is; and where a record is read that is a table's
pub demand-table : {code starts : List ℕ} {S : Settings} {b : List ℕ} {w : Walking} {a : ℕ} → AtDemand code starts S b w a → AtTable code starts S b w a
demand-table d = record { ready = d.ready; half = d.half; table = ap is_table d.kind }

pub table-in : (p : Checked) {b : List ℕ} {w : Walking} → StandsIn p b w → (r : Rec) → r ≡ record_at b w → is_table r.kind ≡ true
    → {a : ℕ} → a ≡ r.half → AtTable p.code.now p.starts.now p.settings b w a
table-in p s r e k h = record { ready = ready-in p s; half = h ∙ ap (λ (x : Rec). x.half) e; table = ap (λ (x : Rec). is_table x.kind) (sym e) ∙ k }

-- and the call's key there is key
module _ {code starts : List ℕ} {S : Settings} {b : List ℕ} {w : Walking} {a : ℕ} (t : AtTable code starts S b w a) (call : List ℕ) (key : Key) (is : key ≡ call_of call a) where
  abbrev ready : Ready code starts S b w
  ready = t.ready

  abbrev next : Walking
  next = moved_to w w.line (behind_table (R ready) w.at) a

  -- unbound: next table
  pub turn-open : is_open key ≡ true → (v : Walking) → v ≡ next → Went code starts S call b w b v
  turn-open o v f =
      let x = some-table ready ready.stands.tables ready.stands.place t.table in
      let u : Table = x.table in
      let n : arg_of u ≡ a = x.arg ∙ sym t.half in
      let o' : is_open (call_of call (arg_of u)) ≡ true = ap (λ (y : ℕ). is_open (call_of call y)) n ∙ ap is_open (sym is) ∙ o in
      subst (Went code starts S call b w b) (ap (moved_to w w.line (behind_table (R ready) w.at)) n ∙ sym f)
      (to-next ready call u x.later x.is 1 (behind_table (R ready) w.at) (quiet-open (program ready) (capacity_of b) (call_of call) (there ready) w.line (arg_of u) o')
      (move-is (program ready) (here ready) w.line w.from (call_of call (arg_of u)) u x.later (left-first ready u x.later x.is)
      ∙ ap (λ (y : Bool). cond y (pass 1) (move_at (program ready) (here ready) (line w.line) (arg_of u) (call_of call (arg_of u)) u)) o') refl)

  module _ (shut : is_open key ≡ false) where
    o : is_open (call_of call a) ≡ false
    o = ap is_open (sym is) ∙ shut

    -- dead and bound: next table
    pub turn-dead : (get_or (R ready) w.at zero_rec).kind ≡ 4 → (v : Walking) → v ≡ next → Went code starts S call b w b v
    turn-dead k v f =
        let x = at_dead ready.stands.tables ready.stands.place k in
        let u : Table = dead a x.clauses in
        let e : ready.stands.tables ≡ u ∷ x.later = x.is ∙ ap (λ (y : ℕ). dead y x.clauses ∷ x.later) (sym t.half) in
        let l = left-first ready u x.later e in
        subst (Went code starts S call b w b) (sym f)
        (to-next ready call u x.later e 2 (behind_table (R ready) w.at) (quiet-table (program ready) (capacity_of b) (call_of call) (there ready) w.line w.from u x.later l refl)
        (move-is (program ready) (here ready) w.line w.from (call_of call a) u x.later l ∙ ap (λ (y : Bool). cond y (pass 1) (pass 2)) o) refl)

    -- a switch and bound
    module _ (k : (get_or (R ready) w.at zero_rec).kind ≡ 2) where
      abbrev left : LeftSwitch ready.stands.tables (get_or (R ready) w.at zero_rec).half
      left = at-switch ready.stands.tables ready.stands.place k

      abbrev chosen : Table
      chosen = switch a left.entries

      the-first : ready.stands.tables ≡ chosen ∷ left.later
      the-first = left.is ∙ ap (λ (y : ℕ). switch y left.entries ∷ left.later) (sym t.half)

      at-it : At (mode_of S.dynamic) (here ready) (R ready) w.line (chosen ∷ left.later) w.at
      at-it = place-first ready chosen left.later the-first

      left_it : Left (program ready) (here ready) (line w.line) w.from (chosen ∷ left.later)
      left_it = left-first ready chosen left.later the-first

      quiet-it : settle (program ready) (capacity_of b) (there ready) (line w.line) a (call_of call a) ≡ there ready
      quiet-it = quiet-table (program ready) (capacity_of b) (call_of call) (there ready) w.line w.from chosen left.later left_it refl

      moves-it : move (program ready) (here ready) (line w.line) a (call_of call a) ≡ follow (line w.line) (choose (program ready) (call_of call a) left.entries)
      moves-it =
          move-is (program ready) (here ready) w.line w.from (call_of call a) chosen left.later left_it
          ∙ ap (λ (y : Bool). cond y (pass 1) (follow (line w.line) (choose (program ready) (call_of call a) left.entries))) o

      by-choice : (list : List ℕ) (c : Option (Chosen Ptr)) → choose (program ready) (call_of call a) left.entries ≡ c
          → ListedBy (choice_led (R ready) w.at w.line c) list
          → Turns code starts S call b w b list (turned_by w a (choice_led (R ready) w.at w.line c))
      by-choice list none e f = (to-fail ready call chosen left.later the-first list quiet-it (moves-it ∙ ap (follow (line w.line)) e), refl, refl, omega arith)
      by-choice list (some c) e f = go c.to c.how (e) f
        where
          go : (x : Ptr) (h : ℕ) → choose (program ready) (call_of call a) left.entries ≡ some (record { how = h; to = x })
              → ListedBy (led_to (R ready) w.at w.line x) list → Turns code starts S call b w b list (turned_by w a (led_to (R ready) w.at w.line x))
          go (ext d) h e f = (to_out ready call chosen left.later the-first list h d quiet-it (moves-it ∙ ap (follow (line w.line)) e) f, refl, refl, some-clause ready)
          go (int d) h e f =
              let x = led (program ready) (call_of call a) at-it (orderly ready) e in
              to-line ready call chosen left.later the-first h (w.line + d) (behind_line (R ready) w.at d) (line_at (here ready) (w.line + d)).tables quiet-it
              (moves-it ∙ ap (follow (line w.line)) e)
              (at-line at-it d (behind_line (R ready) w.at d) x.0 x.1 refl)
              (left-whole (program ready) (here ready) (w.line + d) (a + 1) (rw (add-one a) x.2))

      pub turn-switch : (list : List ℕ) (x : Looked) → x ≡ looked_by (R ready) w.at w.line (choose_rec key (slice (w.at + 1) (behind_table (R ready) w.at) (records_of b)))
          → ListedBy x list → (r : ControlFlow Ended Walking) → r ≡ turned_by w a x → Turns code starts S call b w b list r
      turn-switch list x e f r h =
          let q : ℕ = behind_table (R ready) w.at in
          let after : At (mode_of S.dynamic) (here ready) (R ready) w.line left.later q = at-skip at-it q refl in
          let g : x ≡ choice_led (R ready) w.at w.line (choose (program ready) (call_of call a) left.entries) =
          e ∙ ap (λ (y : Key). looked_by (R ready) w.at w.line (choose_rec y (slice (w.at + 1) q (records_of b)))) is
          ∙ ap (choice_led (R ready) w.at w.line)
          (at-chosen (records_of b) w.count (within ready) (program ready) (call_of call a) at-it (at-fits at-it (fit ready)) q refl
          (place-within (records_of b) w.count (within ready) after)) in
          subst (Turns code starts S call b w b list) (sym (h ∙ ap (turned_by w a) g))
          (by-choice list (choose (program ready) (call_of call a) left.entries) refl (subst (λ (y : Looked). ListedBy y list) g f))
