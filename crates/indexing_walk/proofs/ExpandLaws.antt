-- The expansion on the buffer as a turn of the walk: what is read of the line, and where the walk stands by the expansion's answer.
-- Assumes nothing.
use mathlib.Core.Path.{◌≡◌, refl, sym, ap, ap₂, ◌∙◌, subst}
use mathlib.Core.Bool.{Bool, true, false, cond}
use mathlib.Core.List.{List, [], ◌∷◌, map}
use Prim.Native.Nat.{ℕ, ◌+◌, ◌≤◌}
use native.Mathlib.Omega.{arith}
use Rattle.std.proofs.lemmas.Bool.{false≢true, leb-false, leb-true, true≢false}
use Rattle.std.proofs.lemmas.List.Sums.{AllPass-from_list_all}
use lib.Dec.{leb}
use lib.ListN.{length, drop}
use lib.Seq.{slice, take-take}
use Rattle.records.specs.Records.{records_of}
use Rattle.records.proofs.Whole.{Bytes}
use Rattle.indexing_iter.specs.declared.Settings.{Settings}
use Rattle.indexing_iter.specs.Clauses.{known}
use Rattle.indexing.proofs.BridgeGroups.{length-offs}
use Rattle.indexing.proofs.Records.{before-place}
use Rattle.indexing.specs.Builder.{capacity_of, stored}
use Rattle.indexing.specs.Expanding.{tags_of}
use Rattle.indexing.specs.Lines.{Choice, offs, size, mode_of, choice_rec}
use Rattle.indexing.specs.Columns.{words_of}
use Rattle.index_writer.specs.Choices.{subs_of, AllKnown}
use Rattle.indexing_builder.specs.declared.expansion.OnDemand.{OnDemand}
use Rattle.indexing_builder.specs.declared.expansion.Grown.{Grown}
use Rattle.std.specs.Prelude.{Option, Some, None}
use Rattle.indexing_builder.specs.Expansion.{Demanded, Outcome, expanded_of, outcome_by, expand_call}
use Rattle.indexing_scan.proofs.ExpandedLaws.{at_table}
use Rattle.indexing_scan.proofs.PlaceLaws.{at-choices, words-choices}
use Rattle.indexing_scan.specs.Places.{At, first_offset, offsets_at}
use Rattle.indexing_walk.specs.declared.Walking.{Walking}
use Rattle.indexing_walk.specs.Walking.{off_at, grown_at, Stands, Went, WentBound}
use Rattle.indexing_walk.proofs.StandLaws.{Ready, R, here, choices, orderly, AtDemand, range-arg, placed}
use Rattle.indexing_walk.proofs.LineLaws.{at-offs, offs-count, offs-within, known-line, few-line}
use Rattle.indexing_walk.proofs.StoreLaws.{after, dem, went-stored, went-over}

subs-choices : (cs : List Choice) → subs_of (map choice_rec cs) ≡ tags_of cs
unfolding subs_of
subs-choices [] = refl
subs-choices (c ∷ cs) = ap (λ (os : List ℕ). c.tag ∷ os) (subs-choices cs)

-- by what an expansion at argument a answers, the buffer now b': where the walk stands
abbrev pub Grows : (code starts : List ℕ) (S : Settings) (b : List ℕ) (w : Walking) (a : ℕ) (b' : List ℕ) → Option Grown → Type 0
Grows code starts S b w a b' (Some g) = (v : Walking) → v ≡ grown_at w a g.count g.lines → WentBound code starts S b w a b' v
Grows code starts S b w a b' None = (v : Walking) → v ≡ off_at w → WentBound code starts S b w a b' v

module _ {code starts : List ℕ} {S : Settings} {b : List ℕ} {w : Walking} {a : ℕ} (due : AtDemand code starts S b w a) where
  abbrev ready : Ready code starts S b w
  ready = due.ready

  abbrev st : Stands S starts b w
  st = ready.stands

  -- ---- what is read of the line
  module _ (q m : ℕ) (eq : q ≡ first_offset (R ready) w.at) (em : m ≡ offsets_at (R ready) q) where
    none_left : At (mode_of S.dynamic) (here ready) (R ready) w.line [] q
    none_left = at-offs ready q eq

    pub read_count : (q + m ≤ w.count) × (m ≡ length (choices ready)) × (m ≤ 1024)
    read_count =
        let n = offs-count ready q none_left in
        (omega (arith, em, offs-within ready q none_left), em ∙ n, omega (arith, em, n, (few-line ready).1))

    line-recs : slice q (q + m) (records_of b) ≡ map choice_rec (choices ready)
    line-recs = ap (drop q) (sym (take-take (q + m) w.count (records_of b) read_count.0)) ∙ at-choices none_left m em

    pub read-offs : (list : List ℕ) → list ≡ words_of (slice q (q + m) (records_of b)) → list ≡ offs (choices ready)
    read-offs list e = e ∙ ap words_of line-recs ∙ words-choices (choices ready)

    pub read-tags : (tags : List ℕ) → tags ≡ subs_of (slice q (q + m) (records_of b)) → tags ≡ tags_of (choices ready)
    read-tags tags e = e ∙ ap subs_of line-recs ∙ subs-choices (choices ready)

  -- ---- what the expansion asks and gives
  module _ (cap : ℕ) where
    abbrev pub table : OnDemand
    table = record { arg = a; at = w.at; count = w.count; line = w.line; lines = w.lines; capacity = cap }

    pub demanded : (list tags : List ℕ) → cap ≡ capacity_of b → list ≡ offs (choices ready) → tags ≡ tags_of (choices ready) → Demanded table S code starts b list tags
    demanded list tags room el et = record {
      records-are = st.records-are;
      capacity-is = room;
      fits = omega (arith, st.fits, room);
      lines_are = st.lines_are;
      own = omega (arith, st.place.line, st.lines_are);
      demand = dem due;
      place =
          at_table (placed due) S.arity ((orderly ready).rises w.line st.place.line) st.records-are
          ∙ before-place (mode_of S.dynamic) (here ready) w.line a;
      first = (range-arg due).0;
      last = (range-arg due).1;
      offsets = el;
      tags-are = et;
      known = subst (AllKnown starts) (sym el) (λ i. AllPass-from_list_all (known starts) (offs (choices ready)) (known-line ready) i 0);
      few = omega (arith, ap length el, length-offs (choices ready), (few-line ready).1);
    }

    pub grows : (own : Bytes code) (bytes : Bytes b) (on : w.storing ≡ true) (b' : List ℕ) (x : Option Grown) → expanded_of x b' ≡ expand_call table S code starts b
        → Grows code starts S b w a b' x
    unfolding expand_call
    grows own bytes on b' x e = go x (leb (size (after due)) (capacity_of b)) refl e
      where
        go : (x : Option Grown) (t : Bool) → leb (size (after due)) (capacity_of b) ≡ t
            → expanded_of x b' ≡ outcome_by S.dynamic (cond t (record { storing = true; index = after due }) (record { storing = false; index = here ready })) b
            → Grows code starts S b w a b' x
        go (Some g) true t e = λ u f call shut.
            subst (λ (y : List ℕ). Went code starts S call b w y u) (sym (ap (λ (o : Outcome). o.index) e))
            (subst (Went code starts S call b w (stored S.dynamic (after due) b))
            (sym (f ∙ ap₂ (grown_at w a) (ap (λ (o : Outcome). o.count) e) (ap (λ (o : Outcome). o.lines) e)))
            (went-stored due own bytes (leb-true (size (after due)) (capacity_of b) t) call on shut))
        go (Some g) false t e = absurd (true≢false (ap (λ (o : Outcome). o.storing) e))
        go None true t e = absurd (false≢true (ap (λ (o : Outcome). o.storing) e))
        go None false t e = λ u f call shut.
            subst (λ (y : List ℕ). Went code starts S call b w y u) (sym (ap (λ (o : Outcome). o.index) e))
            (subst (Went code starts S call b w b) (sym f) (went-over due (leb-false (size (after due)) (capacity_of b) t) call on shut))
