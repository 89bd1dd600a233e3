-- Laws of a new line's records: its tables, its offsets, and how many records they are. Assumes nothing.
use mathlib.Core.Path.{◌≡◌, refl, ap, ◌∙◌}
use Prim.Native.Nat.{ℕ, ◌+◌, ◌-◌}
use native.Mathlib.Omega.{arith}
use mathlib.Core.Bool.{Bool, true, false, cond}
use mathlib.Core.List.{List, [], ◌∷◌, ◌++◌}
use lib.ListN.{length, get_or, length-append}
use Rattle.records.specs.declared.Rec.{Rec}
use Rattle.records.specs.Records.{rec_of}
use Rattle.indexing_iter.specs.declared.Settings.{Settings}
use Rattle.indexing.specs.Upto.{count_to, any_to, list_to}
use Rattle.indexing.specs.Lines.{mode_of}
use Rattle.indexing.specs.Build.{masked_at}
use Rattle.indexing.specs.Columns.{member, size_of, open_member, dead_clauses, table_at, tables_at, tag_at, choice_at, choices, opens_line, lines_to, empty_list, list_lines, line_of, line_at, group_lines, list_line, new_lines_recs, seed_recs}
use Rattle.indexing.proofs.BridgeLists.{length_some}
use Rattle.index_writer.proofs.Upto.{list-more}

-- a choice between a list and none
module _ {ℓ} {A : Type ℓ} where
  pub cond_yes : (t : Bool) (x y : A) → t ≡ true → cond t x y ≡ x
  cond_yes t x y e = rw e

  pub cond_no : (t : Bool) (x y : A) → t ≡ false → cond t x y ≡ y
  cond_no t x y e = rw e

module _ (leaders opens : List ℕ) (i b : ℕ) where
  -- the offsets do not matter to the test
  pub open-as : (offs : List ℕ) (j : ℕ) → open_member leaders opens [] i b j ≡ open_member leaders opens offs i b j
  unfolding open_member
  open-as offs j = refl

  pub length-dead : (offs : List ℕ) → length (dead_clauses leaders opens offs i b) ≡ count_to (open_member leaders opens [] i b) (length leaders)
  unfolding dead_clauses open_member
  length-dead offs = length_some (open_member leaders opens [] i b) (λ j. rec_of 7 0 0 (get_or offs j 0) 0) (length leaders)

  module _ (offs : List ℕ) (mask : ℕ) (extensible : Bool) where
    abbrev table : List Rec
    table = table_at leaders opens offs mask extensible i b

    abbrev some : Bool
    some = any_to (open_member leaders opens [] i b) (length leaders)

    pub table-masked : masked_at mask b ≡ true → table ≡ []
    unfolding table_at
    table-masked e = rw e

    pub table-dead : masked_at mask b ≡ false → some ≡ true → extensible ≡ true → table ≡ rec_of 4 0 b 0 0 ∷ dead_clauses leaders opens offs i b
    unfolding table_at open_member
    table-dead e f g = rw (e, f, g)

    pub table_none : masked_at mask b ≡ false → some ≡ true → extensible ≡ false → table ≡ []
    unfolding table_at open_member
    table_none e f g = rw (e, f, g)

    pub table-demand : masked_at mask b ≡ false → some ≡ false → table ≡ rec_of 3 0 b 0 0 ∷ []
    unfolding table_at open_member
    table-demand e f = rw (e, f)

-- how many records the first turns give
pub length_more {ℓ} : {A : Type ℓ} (f : ℕ → List A) (i : ℕ) → length (list_to f (i + 1)) ≡ length (list_to f i) + length (f i)
length_more f i = ap length (list-more f i) ∙ length-append (list_to f i) (f i)

-- the offsets of the bucket that clause i leads
module _ (leaders offs tags : List ℕ) (dynamic default : Bool) (i : ℕ) where
  pub choice-yes : (n k j : ℕ) → member leaders i j ≡ true
      → choice_at leaders offs tags dynamic default n i k j ≡ rec_of 6 (tag_at dynamic default (get_or tags j 0) n k) 0 (get_or offs j 0) 0 ∷ []
  unfolding choice_at
  choice-yes n k j e = rw e

  pub choice-no : (n k j : ℕ) → member leaders i j ≡ false → choice_at leaders offs tags dynamic default n i k j ≡ []
  unfolding choice_at
  choice-no n k j e = rw e

  -- the offset of clause j, by the members before it
  abbrev pub choice_of : ℕ → List Rec
  choice_of j = choice_at leaders offs tags dynamic default (size_of leaders i) i (count_to (member leaders i) j) j

  -- as many offsets as members
  pub length-members : (j : ℕ) → length (list_to choice_of j) ≡ count_to (member leaders i) j
  unfolding choice_at
  length-members j =
      length_some (member leaders i) (λ j. rec_of 6 (tag_at dynamic default (get_or tags j 0) (size_of leaders i) (count_to (member leaders i) j)) 0 (get_or offs j 0) 0) j

  pub length-choices : length (choices leaders offs tags dynamic default i) ≡ size_of leaders i
  unfolding choices size_of
  length-choices = length-members (length leaders)

-- what stands behind a line record
module _ (leaders opens offs tags : List ℕ) (S : Settings) (arg i : ℕ) where
  abbrev pub tables_of : List Rec
  tables_of = tables_at leaders opens offs S.mask S.extensible i (arg + 1) (S.arity - arg)

  abbrev pub choices_of : List Rec
  choices_of = choices leaders offs tags S.dynamic S.non_counted i

  abbrev pub rest_of : List Rec
  rest_of = tables_of ++ choices_of

  pub length_rest : length rest_of ≡ length tables_of + size_of leaders i
  length_rest = length-append tables_of choices_of ∙ ap (λ (x : ℕ). length tables_of + x) (length-choices leaders offs tags S.dynamic S.non_counted i)

  pub line-parts : (heads : List ℕ) (number : ℕ)
      → ([] ++ (rec_of 1 (mode_of S.dynamic) 0 number 0 ∷ [])) ++ rest_of ≡ line_of leaders heads opens offs tags S arg number i
  unfolding line_of
  line-parts heads number = refl

pub seed-parts : (zeros opens offs tags : List ℕ) (S : Settings) (arg : ℕ)
    → (([] ++ (rec_of 1 (mode_of S.dynamic) 0 0 0 ∷ [])) ++ (rec_of 3 0 arg 0 0 ∷ [])) ++ rest_of zeros opens offs tags S arg 0 ≡ seed_recs zeros opens offs tags S arg
unfolding seed_recs
seed-parts zeros opens offs tags S arg = refl

-- the lines of a switch on arg
module _ (leaders heads opens offs tags : List ℕ) (S : Settings) (arg : ℕ) where
  abbrev pub group_of : ℕ → ℕ → List Rec
  group_of = group_lines leaders heads opens offs tags S arg

  -- the line that clause i opens in its turn
  abbrev pub line_in : ℕ → ℕ → ℕ → List Rec
  line_in g number i = line_at leaders heads opens offs tags S arg g (number + lines_to leaders heads S.dynamic g i) i

  pub line-yes : (g number i : ℕ) → opens_line leaders heads S.dynamic g i ≡ true
      → line_at leaders heads opens offs tags S arg g number i ≡ line_of leaders [] opens offs tags S arg number i
  unfolding line_at line_of
  line-yes g number i e = rw e

  pub line-no : (g number i : ℕ) → opens_line leaders heads S.dynamic g i ≡ false → line_at leaders heads opens offs tags S arg g number i ≡ []
  unfolding line_at
  line-no g number i e = rw e

  pub list-none-line : (number : ℕ) → empty_list leaders heads S.dynamic ≡ true
      → list_line leaders heads opens offs tags S arg number ≡ line_of leaders [] opens offs tags S arg number (length leaders)
  unfolding list_line line_of
  list-none-line number e = rw e

  pub list-lines : (number : ℕ) → empty_list leaders heads S.dynamic ≡ false
      → list_line leaders heads opens offs tags S arg number ≡ group_of 2 number
  unfolding list_line
  list-lines number e = rw e

  -- all new lines by their parts
  pub new-parts : (number structures literals : ℕ) → structures ≡ number + list_lines leaders heads S.dynamic
      → literals ≡ structures + lines_to leaders heads S.dynamic 3 (length leaders)
      → new_lines_recs leaders heads opens offs tags S arg number
      ≡ list_line leaders heads opens offs tags S arg number ++ (group_of 3 structures ++ group_of 1 literals)
  unfolding new_lines_recs
  new-parts number structures literals e f = rw (f, e) refl

  pub length-parts : (number structures literals : ℕ) → structures ≡ number + list_lines leaders heads S.dynamic
      → literals ≡ structures + lines_to leaders heads S.dynamic 3 (length leaders)
      → length (new_lines_recs leaders heads opens offs tags S arg number)
      ≡ length (list_line leaders heads opens offs tags S arg number) + length (group_of 3 structures) + length (group_of 1 literals)
  length-parts number structures literals e f =
      let lists : List Rec = list_line leaders heads opens offs tags S arg number in
      omega (
        arith,
        ap length (new-parts number structures literals e f),
        length-append lists (group_of 3 structures ++ group_of 1 literals),
        length-append (group_of 3 structures) (group_of 1 literals),
      )
