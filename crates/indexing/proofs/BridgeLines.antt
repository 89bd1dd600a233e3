-- The lines of an expansion by columns (specs/Columns) are those of section 3 (specs/Build, specs/Expand).
-- Assumes nothing.
use mathlib.Core.Path.{◌≡◌, refl, sym, ap, ap₂, ◌∙◌}
use mathlib.Core.Bool.{Bool, true, false, cond, not}
use mathlib.Core.List.{List, [], ◌∷◌, ◌++◌, map, append-nil}
use mathlib.Core.Option.{none, some}
use Prim.Native.Nat.{ℕ, zero, suc, ◌+◌, ◌-◌, ◌≤◌, ◌<◌}
use native.Mathlib.Numerals.{add-one}
use native.Mathlib.Omega.{arith}
use Rattle.std.specs.List.{filter}
use Rattle.std.proofs.lemmas.Bool.{both_ways, eq-eqb, false_from_ne_true, false≢true, ne_eqb}
use lib.Dec.{eqb}
use lib.ListN.{length, get_or, replicate, length-replicate, get_or-replicate}
use Rattle.records.specs.declared.Rec.{Rec}
use Rattle.records.specs.Records.{rec_of}
use Rattle.indexing_iter.specs.declared.OptArgIndexKey.{OptArgIndexKey as Key}
use Rattle.indexing_iter.specs.declared.OptArgIndexKey.TheVariants.{List as ListKey}
use Rattle.indexing_iter.specs.declared.Settings.{Settings}
use Rattle.indexing_iter.specs.Keys.{group_of, same}
use Rattle.std.specs.Int.{from_bool}
use Rattle.indexing.specs.Upto.{count_to, any_to, list_to}
use Rattle.indexing.specs.Columns.{group_of_head, member, leads, size_of, needs_line, opens_bucket, opens_line, lines_to, empty_list, list_lines, open_member}
use Rattle.indexing.specs.Columns.{tables_at, tag_at, choice_at, choices, line_of, line_at, group_lines, list_line, new_lines_recs, seed_recs, dead_recs}
use Rattle.indexing.specs.Expanding.{tags_of, opens_of}
use Rattle.indexing.specs.Lines.{dead, Choice, Line, offs, dead_rec, table_recs, tables_recs, choice_rec, mode_of, records}
use Rattle.indexing.specs.Build.{Program, program_by, cons_line, open_at, later_tables, tag_rest, tag_static, retag, new_line, keys_at, literals, lists}
use Rattle.indexing.specs.Build.{initial, structures, bucket_of, lines_for, new_lines}
use Rattle.indexing.specs.Seed.{seed}
use Rattle.indexing.proofs.Built.{offs-initial}
use Rattle.indexing_iter.proofs.SameKeys.{same-eq}
use Rattle.indexing.proofs.Records.{records-append}
use Rattle.indexing.proofs.BridgeLists.{list-cong, any-hit, any-clear}
use Rattle.indexing.proofs.BridgeColumns.{InRange, head-group, First, get_or-heads, leader-key, leads-is, member_is}
use Rattle.indexing.proofs.BridgeGroups.{length-offs, all-keyed, lines-append, opens-leads, clauses, key, heads, leaders, keys_to}
use Rattle.indexing.proofs.BridgeGroups.{leaders-count, lone_is, lines-to, group-keys, lists-is, group_lines_lem, list-lines, empty-lone}
use Rattle.indexing.proofs.BridgeTables.{list-first, count-first, chosen, chosen-all, chosen-keep, length-chosen, occupied}
use Rattle.indexing.proofs.BridgeTables.{offs-chosen, dead-clauses, any_open, tables-at}

-- ---- the chosen elements, each with its number among them

module _ {A B : Type 0} where
  abbrev pub numbered : (ℕ → A → B) → ℕ → List A → List B
  numbered f k [] = []
  numbered f k (x ∷ xs) = f k x ∷ numbered f (suc k) xs

  pub list-numbered : (f : ℕ → A → B) (d : A) (k : ℕ) (t : ℕ → Bool) (xs : List A)
      → list_to (λ j. cond (t j) (f (k + count_to t j) (get_or xs j d) ∷ []) []) (length xs) ≡ numbered f k (chosen t xs)
  unfolding list_to count_to
  list-numbered f d k t [] = refl
  list-numbered f d k t (x ∷ xs) =
      let s : ℕ → Bool = λ j. t (suc j) in
      let next : (j : ℕ) → k + count_to t (suc j) ≡ k + from_bool (t 0) + count_to s j = λ j. omega (arith, count-first t j) in
      list-first (λ j. cond (t j) (f (k + count_to t j) (get_or (x ∷ xs) j d) ∷ []) []) (length xs)
      ∙ ap (λ (r : List B). cond (t 0) (f (k + 0) x ∷ []) [] ++ r)
      (list-cong _ _ (length xs) (λ j h. ap (λ (n : ℕ). cond (s j) (f n (get_or xs j d) ∷ []) []) (next j)) ∙ list-numbered f d (k + from_bool (t 0)) s xs)
      ∙ go (t 0) (chosen s xs)
    where
      go : (b : Bool) (r : List A) → cond b (f (k + 0) x ∷ []) [] ++ numbered f (k + from_bool b) r ≡ numbered f k (cond b (x ∷ r) r)
      go true r =
          let e : k + 0 ≡ k = omega arith in
          rw (e, add-one k)
      go false r =
          let e : k + 0 ≡ k = omega arith in
          rw e

-- ---- a line's offsets with tags

abbrev pub no_choice : Choice
no_choice = record { tag = 0; offset = 0 }

offs-at : (cs : List Choice) (j : ℕ) → get_or (offs cs) j 0 ≡ (get_or cs j no_choice).offset
offs-at [] j = refl
offs-at (c ∷ cs) zero = refl
offs-at (c ∷ cs) (suc j) = offs-at cs j

tags-at : (cs : List Choice) (j : ℕ) → get_or (tags_of cs) j 0 ≡ (get_or cs j no_choice).tag
tags-at [] j = refl
tags-at (c ∷ cs) zero = refl
tags-at (c ∷ cs) (suc j) = tags-at cs j

-- a tags column for the choices: in dynamic lines their own tags; static lines do not read it
abbrev pub Tagged : Settings → List Choice → List ℕ → Type 0
Tagged S cs tags = S.dynamic ≡ true → (j : ℕ) → j < length cs → get_or tags j 0 ≡ (get_or cs j no_choice).tag

pub tagged-own : (S : Settings) (cs : List Choice) → Tagged S cs (tags_of cs)
tagged-own S cs e j h = tags-at cs j

tag-own : (dynamic default : Bool) (n k : ℕ) {x y : ℕ} → (dynamic ≡ true → x ≡ y) → tag_at dynamic default x n k ≡ tag_at dynamic default y n k
unfolding tag_at
tag-own true default n k f = f refl
tag-own false default n k f = refl

-- the record of a choice as number k of n
abbrev tagged : Bool → Bool → ℕ → ℕ → Choice → Rec
tagged dynamic default n k c = rec_of 6 (tag_at dynamic default c.tag n k) 0 c.offset 0

tagged-dynamic : (default : Bool) (n k : ℕ) (cs : List Choice) → numbered (tagged true default n) k cs ≡ map choice_rec cs
unfolding tag_at
tagged-dynamic default n k [] = refl
tagged-dynamic default n k (c ∷ cs) = ap (λ (r : List Rec). choice_rec c ∷ r) (tagged-dynamic default n (suc k) cs)

tagged-rest : (P : Program) (n k : ℕ) (cs : List Choice) → 1 ≤ k → k + length cs ≡ n
    → numbered (tagged false P.non_counted n) k cs ≡ map choice_rec (tag_rest P cs)
unfolding tag_at
tagged-rest P n k [] p q = refl
tagged-rest P n k (c ∷ []) p q =
    let e : k + 1 ≡ n = q in
    rw (ne_eqb k 0 (λ z. omega arith), e, eq-eqb n n refl)
tagged-rest P n k (c ∷ (d ∷ ds)) p q =
    rw (ne_eqb k 0 (λ z. omega arith), ne_eqb (k + 1) n (λ z. omega arith))
    (ap (λ (r : List Rec). rec_of 6 (cond P.non_counted 3 2) 0 c.offset 0 ∷ r) (tagged-rest P n (suc k) (d ∷ ds) (omega arith) (omega arith)))

tagged-static : (P : Program) (n : ℕ) (cs : List Choice) → length cs ≡ n → numbered (tagged false P.non_counted n) 0 cs ≡ map choice_rec (tag_static P cs)
unfolding tag_at
tagged-static P n [] h = refl
tagged-static P n (c ∷ cs) h = ap (λ (r : List Rec). rec_of 6 1 0 c.offset 0 ∷ r) (tagged-rest P n 1 cs (omega arith) (omega arith))

tagged-all : (P : Program) (n : ℕ) (cs : List Choice) → length cs ≡ n → numbered (tagged P.dynamic P.non_counted n) 0 cs ≡ map choice_rec (retag P cs)
tagged-all P n cs e = go P.dynamic
  where
    go : (b : Bool) → numbered (tagged b P.non_counted n) 0 cs ≡ map choice_rec (cond b cs (tag_static P cs))
    go true = tagged-dynamic P.non_counted n 0 cs
    go false = tagged-static P n cs e

-- ---- the line of the bucket i of a line of the choices cs

module _ (S : Settings) (K : ℕ → ℕ → Key) (cs : List Choice) (leaders : List ℕ) (whole : length leaders ≡ length cs) (i : ℕ) where
  abbrev places : ℕ → Bool
  places = member leaders i

  abbrev mine : List Choice
  mine = chosen places cs

  pub size-chosen : size_of leaders i ≡ length mine
  unfolding size_of
  size-chosen = ap (count_to places) whole ∙ sym (length-chosen places cs)

  pub choices-are : (tags : List ℕ) → Tagged S cs tags
      → choices leaders (offs cs) tags S.dynamic S.non_counted i ≡ map choice_rec (retag (program_by S K) mine)
  unfolding choices choice_at
  choices-are tags own =
      let n : ℕ = size_of leaders i in
      let f : ℕ → Choice → Rec = tagged S.dynamic S.non_counted n in
      let written : ℕ → List Rec = λ j. choice_at leaders (offs cs) tags S.dynamic S.non_counted n i (count_to places j) j in
      let first : (j : ℕ) → count_to places j ≡ 0 + count_to places j = λ j. omega arith in
      ap (list_to written) whole
      ∙ list-cong written (λ j. cond (places j) (f (0 + count_to places j) (get_or cs j no_choice) ∷ []) []) (length cs)
      (λ j h. rw (offs-at cs j, tag-own S.dynamic S.non_counted n (count_to places j) (λ e. own e j h), ← first j))
      ∙ list-numbered f no_choice 0 places cs
      ∙ tagged-all (program_by S K) n mine (sym size-chosen)

  -- the tables behind argument a
  pub tables-are : (a : ℕ) → a ≤ S.arity → S.arity ≤ 32
      → tables_at leaders (opens_of S K (offs cs)) (offs cs) S.mask S.extensible i (a + 1) (S.arity - a)
      ≡ tables_recs (later_tables (program_by S K) (S.arity - a) (suc a) (offs mine))
  tables-are a h small =
      ap (λ (b : ℕ). tables_at leaders (opens_of S K (offs cs)) (offs cs) S.mask S.extensible i b (S.arity - a)) (add-one a)
      ∙ tables-at S K (offs cs) leaders small (whole ∙ sym (length-offs cs)) i (S.arity - a) (suc a) (omega arith) (omega arith)
      ∙ ap (λ (os : List ℕ). tables_recs (later_tables (program_by S K) (S.arity - a) (suc a) os)) (sym (offs-chosen places cs))

  pub line-is : (tags heads : List ℕ) (a number : ℕ) → Tagged S cs tags → a ≤ S.arity → S.arity ≤ 32
      → line_of leaders heads (opens_of S K (offs cs)) (offs cs) tags S a number i
      ≡ records (mode_of S.dynamic) number (new_line (program_by S K) a mine ∷ [])
  unfolding line_of
  line-is tags heads a number own h small =
      rw (tables-are a h small, choices-are tags own, append-nil (map choice_rec (retag (program_by S K) mine)))

-- ---- all clauses as one bucket

length-initial : (z : ℕ) (os : List ℕ) → length (initial z os) ≡ length os
length-initial z os = sym (length-offs (initial z os)) ∙ ap length (offs-initial z os)

initial-tag : (z : ℕ) (os : List ℕ) (j : ℕ) → j < length os → (get_or (initial z os) j no_choice).tag ≡ z
initial-tag z [] j h = absurd (omega arith)
initial-tag z (o ∷ os) zero h = refl
initial-tag z (o ∷ os) (suc j) h = initial-tag z os j (omega arith)

-- a column of the tag z for all clauses with the tag z, as they are and in line 0
pub tagged-initial : (S : Settings) (z : ℕ) (os tags : List ℕ) → (S.dynamic ≡ true → (j : ℕ) → j < length os → get_or tags j 0 ≡ z)
    → Tagged S (initial z os) tags
tagged-initial S z os tags f e j h =
    let k : j < length os = omega (arith, length-initial z os) in
    f e j k ∙ sym (initial-tag z os j k)

pub tagged-retag : (S : Settings) (K : ℕ → ℕ → Key) (cs : List Choice) (tags : List ℕ) → Tagged S cs tags → Tagged S (retag (program_by S K) cs) tags
tagged-retag S K cs tags own e j h =
    let r : retag (program_by S K) cs ≡ cs = ap (λ (d : Bool). cond d cs (tag_static (program_by S K) cs)) e in
    own e j (omega (arith, ap length r)) ∙ ap (λ (ds : List Choice). (get_or ds j no_choice).tag) (sym r)

-- a leaders column of zeros, one for each clause of os
pub record Zeros (zeros os : List ℕ) : Type 0 where
  pub whole : length zeros ≡ length os
  pub zero : (j : ℕ) → j < length os → get_or zeros j 0 ≡ 0

pub zeros-replicate : (os : List ℕ) → Zeros (replicate (length os) 0) os
zeros-replicate os = record { whole = length-replicate (length os) 0; zero = λ j h. get_or-replicate (length os) j 0 0 h }

all-members : {A : Type 0} (zeros os : List ℕ) → Zeros zeros os → (xs : List A) → length xs ≡ length os → chosen (member zeros 0) xs ≡ xs
unfolding member
all-members zeros os Z xs e = chosen-all (member zeros 0) xs (λ j h. ap (λ (x : ℕ). eqb x 0) (Z.zero j (omega arith)))

module _ (S : Settings) (K : ℕ → ℕ → Key) (small : S.arity ≤ 32) (zeros os : List ℕ) (Z : Zeros zeros os) where
  -- whether a clause is open at an argument, and the dead table for it
  pub any-open-all : (a : ℕ) → 1 ≤ a → a ≤ S.arity → any_to (open_member zeros (opens_of S K os) os 0 a) (length os) ≡ occupied (open_at (program_by S K) a os)
  any-open-all a p q =
      any_open S K os zeros small Z.whole 0 a p q
      ∙ ap (λ (r : List ℕ). occupied (open_at (program_by S K) a r)) (all-members zeros os Z os refl)

  pub dead-all : (a : ℕ) → 1 ≤ a → a ≤ S.arity → dead_recs zeros (opens_of S K os) os a ≡ table_recs (dead a (open_at (program_by S K) a os))
  unfolding dead_recs
  dead-all a p q =
      ap (λ (r : List Rec). rec_of 4 0 a 0 0 ∷ r) (
      dead-clauses S K os zeros small Z.whole 0 a p q
      ∙ ap (λ (r : List ℕ). map dead_rec (open_at (program_by S K) a r)) (all-members zeros os Z os refl))

  -- line 0 before its switch is made
  pub seed-is : (tags : List ℕ) (c : ℕ) → Tagged S (initial 7 os) tags → c ≤ S.arity
      → seed_recs zeros (opens_of S K os) os tags S c ≡ records (mode_of S.dynamic) 0 (seed (program_by S K) c os)
  unfolding seed_recs seed
  seed-is tags c own h =
      let cs : List Choice = initial 7 os in
      let e : offs cs ≡ os = offs-initial 7 os in
      let n : length cs ≡ length os = length-initial 7 os in
      let list_all : chosen (member zeros 0) cs ≡ cs = all-members zeros os Z cs n in
      let tables = tables-are S K cs zeros (Z.whole ∙ sym n) 0 c h small in
      let offsets = choices-are S K cs zeros (Z.whole ∙ sym n) 0 tags own in
      rw (rw (list_all, e) at tables, rw (list_all, e) at offsets, append-nil (map choice_rec (retag (program_by S K) cs)))

-- ---- the new lines of a switch on argument a

-- clauses whose keys at argument a are in range
module _ (S : Settings) (K : ℕ → ℕ → Key) (a : ℕ) (cs : List Choice) (ranged : (i : ℕ) → i < length (offs cs) → InRange (K (get_or (offs cs) i 0) a)) where
  abbrev P : Program
  P = program_by S K

  -- the bucket that clause i leads
  abbrev led : ℕ → List Choice
  led i = chosen (member (leaders P a cs) i) cs

  whole : length (leaders P a cs) ≡ length cs
  whole = leaders-count P a cs ∙ length-offs cs

  -- the bucket of a key is that of its first clause
  pub led-is : (i : ℕ) → i < clauses P a cs → leads (leaders P a cs) i ≡ true → bucket_of P a cs (key P a cs i) ≡ led i
  led-is i h e = sym (chosen-keep (member (leaders P a cs) i) (λ c. same (K c.offset a) (key P a cs i)) no_choice cs
      (λ j k. member_is K (offs cs) a ranged i j h (omega (arith, length-offs cs)) e ∙ ap (λ (o : ℕ). same (K o a) (key P a cs i)) (offs-at cs j)))

  one_line : (g i : ℕ) → i < clauses P a cs
      → lines_for P a cs (cond (opens_bucket (leaders P a cs) (heads P a cs) g i) (key P a cs i ∷ []) [])
      ≡ cond (opens_line (leaders P a cs) (heads P a cs) S.dynamic g i) (new_line P a (led i) ∷ []) []
  unfolding opens_line
  one_line g i h = go (opens_bucket (leaders P a cs) (heads P a cs) g i) refl
    where
      needed : (b : Bool) (o : ℕ) (l : Line) → cons_line (cond b none (some o)) l [] ≡ cond b (l ∷ []) []
      needed true o l = refl
      needed false o l = refl

      go : (b : Bool) → opens_bucket (leaders P a cs) (heads P a cs) g i ≡ b
          → lines_for P a cs (cond b (key P a cs i ∷ []) []) ≡ cond (cond b (needs_line (leaders P a cs) S.dynamic i) false) (new_line P a (led i) ∷ []) []
      go true e =
          let first : leads (leaders P a cs) i ≡ true = opens-leads (leaders P a cs) (heads P a cs) g i e in
          rw (lone_is P a cs ranged i h first, led-is i h first)
          (needed (needs_line (leaders P a cs) S.dynamic i) (get_or (offs cs) i 0) (new_line P a (led i)))
      go false e = refl

  -- where a dynamic switch has no bucket of the list group, no clause has a list
  no-list : open_at P a (offs cs) ≡ [] → empty_list (leaders P a cs) (heads P a cs) S.dynamic ≡ true
      → (j : ℕ) → j < clauses P a cs → same (key P a cs j) ListKey ≡ false
  unfolding empty_list opens_bucket
  no-list keyed e j h = false_from_ne_true _ (λ s. both_ways _ (none-opens S.dynamic e) (listed s))
    where
      m : ℕ
      m = get_or (leaders P a cs) j 0

      first : First (λ p. same (key P a cs p) (key P a cs j)) 0 j m
      first = leader-key K (offs cs) a ranged j h

      inside : m < clauses P a cs
      inside = omega (arith, first.high)

      alike : key P a cs m ≡ key P a cs j
      alike = same-eq (key P a cs m) (key P a cs j) first.hit

      leading : leads (leaders P a cs) m ≡ true
      leading =
          leads-is K (offs cs) a ranged m inside
          ∙ ap not (any-clear (λ p. same (key P a cs p) (key P a cs m)) m (λ p k. ap (same (key P a cs p)) alike ∙ first.before p (omega arith) k))

      none-opens : (d : Bool) → empty_list (leaders P a cs) (heads P a cs) d ≡ true
          → any_to (opens_bucket (leaders P a cs) (heads P a cs) 2) (length (leaders P a cs)) ≡ false
      none-opens true f = false_from_ne_true _ (λ x. both_ways _ (ap not x) f)
      none-opens false f = absurd (false≢true f)

      listed : same (key P a cs j) ListKey ≡ true → any_to (opens_bucket (leaders P a cs) (heads P a cs) 2) (length (leaders P a cs)) ≡ true
      listed s =
          let group : group_of_head (get_or (heads P a cs) m 0) ≡ 2 =
          ap group_of_head (get_or-heads K (offs cs) a m inside)
          ∙ head-group (key P a cs m) (ranged m inside) (all-keyed P a (offs cs) keyed m inside)
          ∙ ap group_of (alike ∙ same-eq (key P a cs j) ListKey s) in
          any-hit (opens_bucket (leaders P a cs) (heads P a cs) 2) (length (leaders P a cs)) m (omega (arith, inside, leaders-count P a cs))
          (rw (leading, group))

  -- the bucket of a list that no clause has: no clause is led from behind the clauses
  led-none : open_at P a (offs cs) ≡ [] → empty_list (leaders P a cs) (heads P a cs) S.dynamic ≡ true
      → bucket_of P a cs ListKey ≡ led (length (leaders P a cs))
  unfolding member
  led-none keyed e = sym (chosen-keep (member (leaders P a cs) (length (leaders P a cs))) (λ c. same (K c.offset a) ListKey) no_choice cs
      (λ j k. (let h : j < clauses P a cs = omega (arith, length-offs cs) in
      ne_eqb (get_or (leaders P a cs) j 0) (length (leaders P a cs))
      (λ z. omega (arith, (leader-key K (offs cs) a ranged j h).high, leaders-count P a cs))
      ∙ sym (no-list keyed e j h)
      ∙ ap (λ (o : ℕ). same (K o a) ListKey) (offs-at cs j))))

  module _ (tags : List ℕ) (own : Tagged S cs tags) (small : S.arity ≤ 32) (low : a ≤ S.arity) where
    abbrev mode : ℕ
    mode = mode_of S.dynamic

    -- what clause i adds to the lines of group g, number being that of the group's first line
    abbrev turn_at : ℕ → ℕ → ℕ → List Rec
    turn_at g number i =
        line_at (leaders P a cs) (heads P a cs) (opens_of S K (offs cs)) (offs cs) tags S a g
        (number + lines_to (leaders P a cs) (heads P a cs) S.dynamic g i) i

    line-turn : (g number i : ℕ) → i < clauses P a cs
        → records mode number (lines_for P a cs (cond (opens_bucket (leaders P a cs) (heads P a cs) g i) (key P a cs i ∷ []) []))
        ≡ line_at (leaders P a cs) (heads P a cs) (opens_of S K (offs cs)) (offs cs) tags S a g number i
    unfolding line_at
    line-turn g number i h = ap (records mode number) (one_line g i h) ∙ go (opens_line (leaders P a cs) (heads P a cs) S.dynamic g i)
      where
        go : (b : Bool) → records mode number (cond b (new_line P a (led i) ∷ []) [])
            ≡ cond b (line_of (leaders P a cs) (heads P a cs) (opens_of S K (offs cs)) (offs cs) tags S a number i) []
        go true = sym (line-is S K cs (leaders P a cs) whole i tags (heads P a cs) a number own low small)
        go false = refl

    turns : (g number m : ℕ) → m ≤ clauses P a cs → records mode number (lines_for P a cs (keys_to P a cs g m)) ≡ list_to (turn_at g number) m
    unfolding list_to
    turns g number zero h = refl
    turns g number (suc m) h =
        let front : List Key = keys_to P a cs g m in
        let last : List Key = cond (opens_bucket (leaders P a cs) (heads P a cs) g m) (key P a cs m ∷ []) [] in
        ap (records mode number) (lines-append P a cs front last)
        ∙ records-append mode number (lines_for P a cs front) (lines_for P a cs last)
        ∙ ap₂ (λ (x y : List Rec). x ++ y) (turns g number m (omega arith))
        (ap (λ (x : ℕ). records mode (number + x) (lines_for P a cs last)) (lines-to P a cs ranged g m (omega arith))
        ∙ line-turn g (number + lines_to (leaders P a cs) (heads P a cs) S.dynamic g m) m (omega arith))

    keys-lines : (g number : ℕ) → records mode number (lines_for P a cs (keys_to P a cs g (clauses P a cs)))
        ≡ group_lines (leaders P a cs) (heads P a cs) (opens_of S K (offs cs)) (offs cs) tags S a g number
    unfolding group_lines
    keys-lines g number = turns g number (clauses P a cs) (omega arith) ∙ ap (list_to (turn_at g number)) (sym (leaders-count P a cs))

    module _ (keyed : open_at P a (offs cs) ≡ []) where
      pub list-line : (number : ℕ) → records mode number (lines_for P a cs (lists P a (offs cs)))
          ≡ list_line (leaders P a cs) (heads P a cs) (opens_of S K (offs cs)) (offs cs) tags S a number
      unfolding list_line
      list-line number =
          ap (λ (ks : List Key). records mode number (lines_for P a cs ks)) (lists-is P a cs ranged keyed)
          ∙ go (empty_list (leaders P a cs) (heads P a cs) S.dynamic) refl
        where
          go : (b : Bool) → empty_list (leaders P a cs) (heads P a cs) S.dynamic ≡ b
              → records mode number (lines_for P a cs (cond b (ListKey ∷ []) (keys_to P a cs 2 (clauses P a cs))))
              ≡ cond b (line_of (leaders P a cs) (heads P a cs) (opens_of S K (offs cs)) (offs cs) tags S a number (length (leaders P a cs)))
              (group_lines (leaders P a cs) (heads P a cs) (opens_of S K (offs cs)) (offs cs) tags S a 2 number)
          go true e =
              rw (empty-lone P a cs ranged keyed e (offs (bucket_of P a cs ListKey)), led-none keyed e)
              (sym (line-is S K cs (leaders P a cs) whole (length (leaders P a cs)) tags (heads P a cs) a number own low small))
          go false e = keys-lines 2 number

      pub group-lines-are : (g number : ℕ) → records mode number (lines_for P a cs (filter (λ k. eqb g (group_of k)) (keys_at P a (offs cs))))
          ≡ group_lines (leaders P a cs) (heads P a cs) (opens_of S K (offs cs)) (offs cs) tags S a g number
      group-lines-are g number = ap (λ (ks : List Key). records mode number (lines_for P a cs ks)) (group-keys P a cs ranged keyed g) ∙ keys-lines g number

      -- all new lines, by list, structures, literals
      pub bridge-lines : (number : ℕ)
          → new_lines_recs (leaders P a cs) (heads P a cs) (opens_of S K (offs cs)) (offs cs) tags S a number ≡ records mode number (new_lines P a cs)
      unfolding new_lines_recs
      bridge-lines number =
          let ls : List Line = lines_for P a cs (lists P a (offs cs)) in
          let ss : List Line = lines_for P a cs (structures P a (offs cs)) in
          let bs : List Line = lines_for P a cs (literals P a (offs cs)) in
          let nl : length ls ≡ list_lines (leaders P a cs) (heads P a cs) S.dynamic = list-lines P a cs ranged keyed in
          let ns : length ss ≡ lines_to (leaders P a cs) (heads P a cs) S.dynamic 3 (length (leaders P a cs)) = group_lines_lem P a cs ranged keyed 3 in
          sym (
          records-append mode number ls (ss ++ bs)
          ∙ ap (λ (r : List Rec). records mode number ls ++ r) (records-append mode (number + length ls) ss bs)
          ∙ rw (nl, ns, list-line number, group-lines-are 3, group-lines-are 1))
