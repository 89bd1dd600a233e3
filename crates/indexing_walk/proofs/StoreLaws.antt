-- A turn at an on-demand table while expansions are stored: the expanded index is in the buffer, and the walk looks again at that place;
-- or it does not fit, and from here on nothing is stored.
-- Assumes nothing.
use mathlib.Core.Path.{◌≡◌, refl, sym, ap, ◌∙◌, subst}
use mathlib.Core.Bool.{Bool, true, false, cond}
use mathlib.Core.List.{List, [], ◌∷◌}
use mathlib.Core.Option.{some}
use Prim.Native.Nat.{ℕ, ◌+◌, ◌-◌, ◌≤◌, ◌<◌}
use native.Mathlib.Omega.{arith}
use Rattle.std.specs.List.{AllByRecursion}
use lib.Dec.{eqb}
use lib.ListN.{length, get_or, take}
use Rattle.records.specs.declared.Rec.{Rec}
use Rattle.records.specs.Records.{records_of, zero_rec, AllFit}
use Rattle.records.proofs.Fitting.{fit-records_of}
use Rattle.records.proofs.Whole.{Bytes}
use Rattle.indexing_iter.specs.declared.Settings.{Settings}
use Rattle.indexing_iter.specs.Classes.{class_of}
use Rattle.indexing_iter.specs.Clauses.{known}
use Rattle.indexing_iter.specs.Keys.{is_open}
use Rattle.indexing_iter.proofs.KeyLaws.{code_ok, known_small}
use Rattle.indexing.proofs.Expand.{opens, outcome, new-table, length-expand, expanded-arg}
use Rattle.indexing.proofs.Grown.{grown-same, grown-more, grown-size}
use Rattle.indexing.proofs.Size.{lines-size}
use Rattle.indexing.proofs.Stored.{capacity-small, stored-length, stored-capacity, stored-records, stored-over}
use Rattle.indexing.specs.Builder.{capacity_of, stored}
use Rattle.indexing.specs.Expand.{expanded, expand}
use Rattle.indexing.specs.Lines.{Table, on_demand, arg_of, Index, line_at, find, size, mode_of, records}
use Rattle.indexing.specs.Reading.{parse}
use Rattle.well_formed.proofs.CodeKeys.{code-keys}
use Rattle.well_formed.proofs.Fields.{code-narrow, fit-take, NarrowLine, narrow-expand, index-narrow, fit-index}
use Rattle.well_formed.proofs.Sound.{args-true, ok-parse, ok-expand}
use Rattle.well_formed.proofs.WellFormed.{well-orderly}
use Rattle.well_formed.specs.WellFormed.{index_ok}
use Rattle.indexing_scan.proofs.ExpandedLaws.{at-expanded}
use Rattle.indexing_scan.proofs.PlaceLaws.{at-record}
use Rattle.indexing_scan.proofs.Steps.{Left}
use Rattle.indexing_scan.specs.Calls.{call_of}
use Rattle.indexing_scan.specs.Places.{At, head_rec}
use Rattle.indexing_scan.specs.ByArgument.{walk_from}
use Rattle.indexing_scan.specs.Walk.{line, Result}
use Rattle.indexing_walk.specs.declared.Walking.{Walking}
use Rattle.indexing_walk.specs.Walking.{index_in, off_at, grown_at, Stands, Kept, Comes, rest_of, turns_left, Went}
use Rattle.indexing_walk.proofs.WalkLaws.{rest, found, at_left, expands, refuses, not-demand}
use Rattle.indexing_walk.proofs.StandLaws.{Ready, program, here, orderly, AtDemand, left, left_it, range, placed}

module _ {code starts : List ℕ} {S : Settings} {b : List ℕ} {w : Walking} {a : ℕ} (due : AtDemand code starts S b w a) where
  abbrev ready : Ready code starts S b w
  ready = due.ready

  abbrev st : Stands S starts b w
  st = ready.stands

  abbrev mode : ℕ
  mode = mode_of S.dynamic

  abbrev pub after : Index
  after = expand (program ready) (here ready) w.line a

  pub dem : find a (line_at (here ready) w.line).tables ≡ some (on_demand a)
  dem = found (program ready) (here ready) w.line w.from (on_demand a) (left due).later (left_it due)

  sound : index_ok S.arity S.dynamic (known starts) after ≡ true
  sound = ok-expand (program ready) (known starts) (λ o c. code-keys class_of S.arity code starts o c ready.checked) (here ready) w.line a a st.place.line dem st.sound

  known-31 : (o : ℕ) → known starts o ≡ true → o < 0x8000_0000
  known-31 o k = omega (arith, known_small class_of S.arity code starts o k ready.checked)

  parsed : parse (records mode 0 after) ≡ after
  parsed = ok-parse (program ready) (known starts) known-31 after sound

  lines_more : w.line < length after
  lines_more = omega (arith, st.place.line, length-expand (program ready) (here ready) w.line a)

  now-is : Table
  now-is = outcome (program ready) (here ready) w.line a

  its-arg : arg_of now-is ≡ a
  unfolding now-is
  its-arg = expanded-arg (program ready) a (line_at (here ready) w.line).choices (length (here ready) - w.line - 1) (opens (program ready) (here ready) w.line a)

  not_three : eqb (head_rec now-is).kind 3 ≡ false
  unfolding now-is
  not_three = go (opens (program ready) (here ready) w.line a)
    where
      go : (os : List ℕ) → eqb (head_rec (expanded (program ready) a (line_at (here ready) w.line).choices (length (here ready) - w.line - 1) os)).kind 3 ≡ false
      go [] = refl
      go (o ∷ os) = refl

  -- it fits, and is stored
  module _ (own : Bytes code) (bytes : Bytes b) (fits : size after ≤ capacity_of b) where
    abbrev stored_at : Walking
    stored_at = grown_at w a (size after) (length after)

    abbrev b' : List ℕ
    b' = stored S.dynamic after b

    narrow : AllByRecursion NarrowLine after
    narrow =
        narrow-expand (program ready) (λ o c. code-narrow class_of code starts o c own) (here ready) w.line a st.place.line
        (index-narrow mode 0 (here ready) (subst AllFit st.records-are (fit-take w.count (records_of b) (fit-records_of b bytes))))

    fields : AllFit (records mode 0 after)
    fields =
        fit-index (known starts) known-31 S.arity S.dynamic after
        (code_ok class_of S.arity code starts ready.checked).arity-to (omega (arith, fits, capacity-small b, lines-size after)) sound narrow

    front : take (size after) (records_of b') ≡ records mode 0 after
    front = stored-records S.dynamic after b fields

    is-after : index_in b' (size after) ≡ after
    is-after = ap parse front ∙ parsed

    same-room : capacity_of b' ≡ capacity_of b
    same-room = stored-capacity S.dynamic after b fits

    at_after : At mode after (take (size after) (records_of b')) w.line (now-is ∷ (left due).later) w.at
    unfolding now-is
    at_after = at-expanded (program ready) (placed due) ((orderly ready).rises w.line st.place.line) st.records-are front

    left_after : Left (program ready) after (line w.line) a (now-is ∷ (left due).later)
    left_after =
        subst (λ (x : ℕ). Left (program ready) after (line w.line) x (now-is ∷ (left due).later)) its-arg
        (at_left (program ready) at_after ((well-orderly (program ready) (known starts) after sound).rises w.line lines_more))

    stands_after : Stands S starts b' stored_at
    stands_after = record {
      records-are = front ∙ ap (records mode 0) (sym is-after);
      sound = ap (index_ok S.arity S.dynamic (known starts)) is-after ∙ sound;
      fits = rw same-room fits;
      lines_are = ap length (sym is-after);
      tables = now-is ∷ (left due).later;
      place = rw is-after at_after;
      later = args-true S.arity a (now-is ∷ (left due).later) left_after.args;
      finds = rw is-after left_after.looks;
      first = omega (arith, st.first, (range due).0);
      last = omega (arith, (range due).1);
    }

    fewer-after : turns_left S b' stored_at < turns_left S b w
    unfolding turns_left
    fewer-after =
        let n : eqb (get_or (take (size after) (records_of b')) w.at zero_rec).kind 3 ≡ false = ap (λ (r : Rec). eqb r.kind 3) (at-record at_after) ∙ not_three in
        let m : eqb (get_or (take w.count (records_of b)) w.at zero_rec).kind 3 ≡ true = ap (λ (x : ℕ). eqb x 3) due.kind in
        let x : cond {A = ℕ} (eqb (get_or (take (size after) (records_of b')) w.at zero_rec).kind 3) 1 0 ≡ 0 = ap (λ (z : Bool). cond {A = ℕ} z 1 0) n in
        let y : cond {A = ℕ} (eqb (get_or (take w.count (records_of b)) w.at zero_rec).kind 3) 1 0 ≡ 1 = ap (λ (z : Bool). cond {A = ℕ} z 1 0) m in
        omega (arith, x, y, (range due).0, (range due).1)

    kept-after : (b₀ : List ℕ) → Kept S b₀ b w.count → Kept S b₀ b' (size after)
    kept-after b₀ e =
        let more : size (here ready) ≤ size after = grown-size (program ready) (capacity_of b) (grown-more w.line a a st.place.line dem fits grown-same) in
        rw is-after (ap (stored S.dynamic after) e ∙ stored-over S.dynamic (here ready) b₀ after more)

    module _ (call : List ℕ) (on : w.storing ≡ true) (shut : is_open (call_of call a) ≡ false) where
      comes-after : (W : Result) → Comes W w.tables (rest_of code starts S call b w) → Comes W w.tables (rest_of code starts S call b' stored_at)
      unfolding rest_of rest
      comes-after W c =
          let from_on : rest_of code starts S call b w ≡ rest (program ready) (capacity_of b) (call_of call) (record { storing = true; index = (here ready) }) w.line w.from =
          λ i. walk_from (program ready) (capacity_of b) (call_of call) (S.arity + 1 - w.from) w.from (record { storing = on i; index = (here ready) }) (line w.line) in
          let to-on : rest_of code starts S call b' stored_at ≡ rest (program ready) (capacity_of b) (call_of call) (record { storing = true; index = after }) w.line a =
          λ i. walk_from (program ready) (same-room i) (call_of call) (S.arity + 1 - a) a (record { storing = on i; index = is-after i }) (line w.line) in
          subst (Comes W w.tables) (sym to-on)
          (expands (program ready) (capacity_of b) (call_of call) W w.tables (here ready) w.line w.from a (left due).later (outcome (program ready) (here ready) w.line a) (left_it due) shut fits
          (new-table (program ready) (here ready) w.line a st.place.line (on_demand a) dem) (not-demand (program ready) (here ready) w.line a)
          (subst (Comes W w.tables) from_on c))

      pub went-stored : Went code starts S call b w b' stored_at
      went-stored = record { stands = stands_after; comes = comes-after; fewer = fewer-after; kept = kept-after; long = stored-length S.dynamic after b fits }

  -- it does not fit
  module _ (over : capacity_of b < size after) (call : List ℕ) (on : w.storing ≡ true) (shut : is_open (call_of call a) ≡ false) where
    comes-over : (W : Result) → Comes W w.tables (rest_of code starts S call b w) → Comes W w.tables (rest_of code starts S call b (off_at w))
    unfolding rest_of rest
    comes-over W c =
        let from_on : rest_of code starts S call b w ≡ rest (program ready) (capacity_of b) (call_of call) (record { storing = true; index = (here ready) }) w.line w.from =
        λ i. walk_from (program ready) (capacity_of b) (call_of call) (S.arity + 1 - w.from) w.from (record { storing = on i; index = (here ready) }) (line w.line) in
        refuses (program ready) (capacity_of b) (call_of call) W w.tables (here ready) w.line w.from a (left due).later (left_it due) shut over (subst (Comes W w.tables) from_on c)

    fewer-over : turns_left S b (off_at w) < turns_left S b w
    unfolding turns_left
    fewer-over = let x : cond {A = ℕ} w.storing 1 0 ≡ 1 = ap (λ (z : Bool). cond {A = ℕ} z 1 0) on in omega (arith, x)

    pub went-over : Went code starts S call b w b (off_at w)
    went-over = record {
      stands = record {
        records-are = st.records-are;
        sound = st.sound;
        fits = st.fits;
        lines_are = st.lines_are;
        tables = st.tables;
        place = st.place;
        later = st.later;
        finds = st.finds;
        first = st.first;
        last = st.last;
      };
      comes = comes-over;
      fewer = fewer-over;
      kept = λ b₀ e. e;
      long = refl;
    }
