-- A walk that stands in a buffer: what the record at its place tells, and where it stands after a turn.
-- Assumes nothing.
use mathlib.Core.Path.{◌≡◌, refl, sym, ap, ◌∙◌, subst}
use mathlib.Core.Bool.{Bool, true, false, cond}
use mathlib.Core.List.{List, ◌∷◌}
use Prim.Native.Nat.{ℕ, ◌+◌, ◌≤◌, ◌<◌}
use native.Mathlib.Omega.{arith}
use lib.Dec.{eqb}
use lib.ListN.{length, get_or, take}
use lib.Seq.{length-take-le}
use Rattle.records.specs.declared.Rec.{Rec}
use Rattle.records.specs.Records.{records_of, zero_rec}
use Rattle.indexing_iter.specs.Refusals.{passed}
use Rattle.indexing_iter.specs.declared.program.Program.{Program as Checked}
use Rattle.indexing_iter.specs.declared.Settings.{Settings}
use Rattle.indexing_iter.specs.Checks.{check_code}
use Rattle.indexing_iter.specs.Classes.{class_of}
use Rattle.indexing_iter.specs.Clauses.{known}
use Rattle.indexing.proofs.Order.{Orderly}
use Rattle.indexing.proofs.Size.{length-records}
use Rattle.indexing.proofs.Stored.{capacity-within}
use Rattle.indexing.specs.Build.{Program, program_of}
use Rattle.indexing.specs.Builder.{capacity_of}
use Rattle.indexing.specs.Lines.{Choice, Table, on_demand, arg_of, Index, line_at, size, mode_of}
use Rattle.well_formed.proofs.Sound.{args-true}
use Rattle.well_formed.proofs.WellFormed.{args_of, well-orderly}
use Rattle.indexing.specs.Expand.{State}
use Rattle.indexing_scan.proofs.Steps.{Left}
use Rattle.indexing_scan.proofs.PlaceLaws.{at-demand, place-below, LeftDemand}
use Rattle.indexing_scan.specs.Calls.{call_of}
use Rattle.indexing_scan.specs.Places.{At}
use Rattle.indexing_scan.specs.ByArgument.{move, settle}
use Rattle.indexing_scan.specs.Walk.{line, Move, Result}
use Rattle.indexing_walk.specs.declared.Walking.{Walking}
use Rattle.indexing_walk.specs.Walking.{index_in, StandsIn, Demands, Stands, Comes, rest_of, turns_left, Went}
use Rattle.indexing_walk.proofs.WalkLaws.{rest, turns}
use Rattle.indexing_walk.proofs.WalkLaws as Laws

-- a walk that stands in a buffer, in checked code
pub record Ready (code starts : List ℕ) (S : Settings) (b : List ℕ) (w : Walking) : Type 0 where
  pub checked : check_code class_of S.arity code starts ≡ passed
  pub stands : Stands S starts b w

module _ {code starts : List ℕ} {S : Settings} {b : List ℕ} {w : Walking} (ready : Ready code starts S b w) where
  abbrev st : Stands S starts b w
  st = ready.stands

  abbrev pub program : Program
  program = program_of class_of S (records_of code) starts

  -- the records of its index, the index that they stand for, the choices of the walk's line there, and the state of the walk
  abbrev pub R : List Rec
  R = take w.count (records_of b)

  abbrev pub here : Index
  here = index_in b w.count

  abbrev pub choices : List Choice
  choices = (line_at here w.line).choices

  abbrev pub there : State
  there = record { storing = w.storing; index = here }

  pub within : w.count ≤ length (records_of b)
  within = omega (arith, st.fits, capacity-within b)

  pub left-of : Left program here (line w.line) w.from st.tables
  left-of = record { args = args_of S.arity w.from st.tables st.later; looks = st.finds }

  pub orderly : Orderly program here
  orderly = well-orderly program (known starts) here st.sound

  pub size_is : w.count ≡ size here
  size_is = sym (length-take-le w.count (records_of b) within) ∙ ap length st.records-are ∙ length-records (mode_of S.dynamic) 0 here

  -- it stands elsewhere in the same index
  pub stands_at : (v : Walking) (ts : List Table) → v.count ≡ w.count → v.lines ≡ w.lines → At (mode_of S.dynamic) here R v.line ts v.at
      → Left program here (line v.line) v.from ts → v.tables < v.from → v.from ≤ S.arity + 1 → Stands S starts b v
  stands_at v ts n m at f g h = record {
    records-are = rw n st.records-are;
    sound = rw n st.sound;
    fits = rw n st.fits;
    lines_are = m ∙ rw n st.lines_are;
    tables = ts;
    place = rw n at;
    later = args-true S.arity v.from ts f.args;
    finds = rw n f.looks;
    first = g;
    last = h;
  }

  -- after a table fewer turns are left
  pub fewer-turns : (v : Walking) (a : ℕ) → w.from ≤ a → a ≤ S.arity → v.from ≡ a + 1 → turns_left S b v < turns_left S b w
  unfolding turns_left
  fewer-turns v a h k e =
      omega (arith, e, one v.storing, one (eqb (get_or (take v.count (records_of b)) v.at zero_rec).kind 3))
    where
      one : (x : Bool) → cond x 1 0 ≤ 1
      one true = omega arith
      one false = omega arith

  module _ (u : Table) (ts : List Table) (e : st.tables ≡ u ∷ ts) where
    pub left-first : Left program here (line w.line) w.from (u ∷ ts)
    left-first = subst (Left program here (line w.line) w.from) e left-of

    pub place-first : At (mode_of S.dynamic) here R w.line (u ∷ ts) w.at
    place-first = subst (λ (x : List Table). At (mode_of S.dynamic) here R w.line x w.at) e st.place

    pub at_count : w.at < w.count
    at_count = place-below (records_of b) w.count within place-first

    pub arg-range : (w.from ≤ arg_of u) × (arg_of u ≤ S.arity)
    arg-range = (left-first.args.0, left-first.args.1)

  module _ (call : List ℕ) where
    -- the same index, elsewhere
    pub went-at : (v : Walking) (a : ℕ) → Stands S starts b v → w.from ≤ a → a ≤ S.arity → v.from ≡ a + 1 → v.count ≡ w.count
        → ((W : Result) → Comes W w.tables (rest_of code starts S call b w) → Comes W v.tables (rest_of code starts S call b v))
        → Went code starts S call b w b v
    went-at v a s h k e n c = record {
      stands = s;
      comes = c;
      fewer = fewer-turns v a h k e;
      kept = λ b₀ x. rw n x;
      long = refl;
    }

    -- the walk's rest by the laws of a turn
    rest-is : rest_of code starts S call b w ≡ rest program (capacity_of b) (call_of call) there w.line w.from
    unfolding rest_of rest
    rest-is = refl

    -- what is left by the move at the first table left
    pub turned : (u : Table) (ts : List Table) (e : st.tables ≡ u ∷ ts) (m : Move)
        → settle program (capacity_of b) there (line w.line) (arg_of u) (call_of call (arg_of u)) ≡ there
        → move program here (line w.line) (arg_of u) (call_of call (arg_of u)) ≡ m
        → (W : Result) → Comes W w.tables (rest_of code starts S call b w)
        → Laws.Turns program (capacity_of b) (call_of call) W w.tables there w.line (arg_of u) m
    turned u ts e m f g W c =
        turns program (capacity_of b) (call_of call) W w.tables there w.line w.from u ts m (left-first u ts e) f g (subst (Comes W w.tables) rest-is c)

-- it is at an on-demand table for argument a
pub record AtDemand (code starts : List ℕ) (S : Settings) (b : List ℕ) (w : Walking) (a : ℕ) : Type 0 where
  pub ready : Ready code starts S b w
  pub kind : (get_or (R ready) w.at zero_rec).kind ≡ 3
  pub half : a ≡ (get_or (R ready) w.at zero_rec).half

-- a walk through an index of a program is one in checked code
module _ (p : Checked) {b : List ℕ} {w : Walking} (s : StandsIn p b w) where
  pub ready-in : Ready p.code.now p.starts.now p.settings b w
  ready-in = record { checked = p.checked; stands = s }

  pub demand-in : {a : ℕ} → Demands b w a → AtDemand p.code.now p.starts.now p.settings b w a
  demand-in d = record { ready = ready-in; kind = d.0; half = d.1 }

module _ {code starts : List ℕ} {S : Settings} {b : List ℕ} {w : Walking} {a : ℕ} (due : AtDemand code starts S b w a) where
  abbrev ready : Ready code starts S b w
  ready = due.ready

  abbrev pub left : LeftDemand ready.stands.tables (get_or (R ready) w.at zero_rec).half
  left = at-demand ready.stands.tables ready.stands.place due.kind

  pub first-is : ready.stands.tables ≡ on_demand a ∷ left.later
  first-is = left.is ∙ ap (λ (y : ℕ). on_demand y ∷ left.later) (sym due.half)

  pub left_it : Left (program ready) (here ready) (line w.line) w.from (on_demand a ∷ left.later)
  left_it = left-first ready (on_demand a) left.later first-is

  pub range : (w.from ≤ a) × (a ≤ S.arity)
  range = arg-range ready (on_demand a) left.later first-is

  pub range-arg : (1 ≤ a) × (a ≤ S.arity)
  range-arg = (omega (arith, range.0, ready.stands.first), range.1)

  pub placed : At (mode_of S.dynamic) (here ready) (R ready) w.line (on_demand a ∷ left.later) w.at
  placed = place-first ready (on_demand a) left.later first-is
