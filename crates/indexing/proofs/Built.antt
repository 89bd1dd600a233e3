-- Line 0 before its switch is made, and the built index as its expansion.
-- Assumes nothing.
use mathlib.Core.Path.{◌≡◌, refl, ◌∙◌, ap}
use mathlib.Core.Bool.{Bool, true, false, cond}
use mathlib.Core.List.{List, [], ◌∷◌}
use mathlib.Core.Option.{some}
use Prim.Native.Nat.{ℕ, zero, suc, ◌<◌, ◌-◌}
use native.Mathlib.Omega.{arith}
use Rattle.std.proofs.lemmas.Bool.{eq-eqb}
use lib.Dec.{eqb}
use lib.ListN.{length, length-map}
use Rattle.records.specs.Records.{records_of}
use Rattle.indexing_iter.specs.declared.Settings.{Settings}
use Rattle.indexing_iter.specs.Refusals.{passed}
use Rattle.indexing_iter.specs.Keys.{is_open}
use Rattle.indexing_iter.specs.Clauses.{key_of, offsets_of}
use Rattle.indexing_iter.specs.Checks.{check_build}
use Rattle.indexing_iter.proofs.CheckLaws.{build-key, offset-known}
use Rattle.indexing.proofs.Expand.{offs-retag}
use Rattle.indexing.proofs.Lists.{keep-none}
use Rattle.indexing.proofs.Pointers.{Closed, NoSwitch, later-none-switch, closed-expand}
use Rattle.indexing.specs.Build.{Program, program_of, initial, open_at, later_tables, retag, build}
use Rattle.indexing.specs.Expand.{expand}
use Rattle.indexing.specs.Lines.{switch, on_demand, line_at, offs, find}
use Rattle.indexing.specs.Seed.{seed}

pub offs-initial : (z : ℕ) (os : List ℕ) → offs (initial z os) ≡ os
offs-initial z [] = refl
offs-initial z (o ∷ os) = ap (λ (xs : List ℕ). o ∷ xs) (offs-initial z os)

module _ (P : Program) (c : ℕ) (os : List ℕ) where
  pub seed-clauses : offs (line_at (seed P c os) 0).choices ≡ os
  unfolding seed
  seed-clauses = offs-retag P (initial 7 os) ∙ offs-initial 7 os

  pub seed-demand : find c (line_at (seed P c os) 0).tables ≡ some (on_demand c)
  unfolding seed
  seed-demand = rw (eq-eqb c c refl)

  pub seed-length : length (seed P c os) ≡ 1
  unfolding seed
  seed-length = refl

  pub seed-switch : (l : ℕ) → NoSwitch (line_at (seed P c os) l)
  unfolding seed
  seed-switch zero b d es e = go (eqb c b) e
    where
      go : (x : Bool) → cond x (some (on_demand c)) (find b (later_tables P (P.arity - c) (suc c) os)) ≡ some (switch d es) → ⊥
      go true e = let z : ◌≡◌ {A = ℕ} 0 1 = cc in omega arith
      go false e = later-none-switch P (P.arity - c) (suc c) os b d es e
  seed-switch (suc l) b d es e = let z : ◌≡◌ {A = ℕ} 0 1 = cc in omega arith

  pub seed-closed : Closed (seed P c os)
  seed-closed = record { within = λ l b d es k e. absurd (seed-switch l b d es e) }

  -- section 3's index, where every clause has a key at c, is what section 4 makes of the on-demand table for c
  pub built-is-expanded : open_at P c os ≡ [] → build P c os ≡ expand P (seed P c os) 0 c
  unfolding build expand seed
  built-is-expanded keyed =
      let none_open : open_at P c (offs (retag P (initial 7 os))) ≡ [] = ap (open_at P c) (offs-retag P (initial 7 os) ∙ offs-initial 7 os) ∙ keyed in
      rw (none_open, eq-eqb c c refl)

  pub built-closed : open_at P c os ≡ [] → Closed (build P c os)
  built-closed keyed = rw (built-is-expanded keyed) (closed-expand P (seed P c os) 0 c c (omega (arith, seed-length)) seed-demand seed-closed)

  pub built-length : 0 < length (build P c os)
  unfolding build
  built-length = omega arith

-- number 8: in code that passed the builder's checks every clause has a key at c
pub keyed-by-checks : (cls : ℕ → ℕ) (code starts : List ℕ) (S : Settings) (c : ℕ) → check_build cls S.arity c code starts ≡ passed
    → open_at (program_of cls S (records_of code) starts) c (offsets_of starts) ≡ []
keyed-by-checks cls code starts S c passed =
    keep-none (λ o. is_open (key_of cls (records_of code) starts o c)) 0 (offsets_of starts)
    (λ i h. build-key cls S.arity code starts c _ passed (offset-known starts i (omega (arith, length-map starts suc))))
