-- The parts of an input that the builder is handed are those of `lines_call`. Assumes nothing.
use mathlib.Core.Path.{◌≡◌, refl, sym, ap, ◌∙◌}
use Prim.Native.Nat.{ℕ, ◌+◌, ◌-◌, ◌*◌, ◌≤◌, ◌<◌, min}
use native.Mathlib.Omega.{arith}
use native.Mathlib.Decide.{dec_le}
use borrow.Author.Tests.{lt-ltb, le-ltb}
use mathlib.Core.List.{List, []}
use lib.ListN.{length, get_or, take, drop, length-drop, drop_of_length-le}
use lib.Seq.{take_all}
use Rattle.records.specs.declared.Rec.{Rec}
use Rattle.records.specs.Records.{records_of, zero_rec}
use Rattle.records.proofs.Laws.{length-records_of}
use Rattle.indexing_iter.specs.declared.Settings.{Settings}
use Rattle.indexing_iter.specs.Classes.{class_of}
use Rattle.indexing.specs.Builder.{build_call}
use lib.Dec.{eqb}
use Rattle.inputs.specs.Input.{settings_from, settings_of, chosen_of, starts_in, starts_of, code_of, lines_call}
use Rattle.inputs.proofs.StartLaws.{behind-most}

-- the part from place m on, or from the end where there is no such place
pub code-part : (input : List ℕ) (m at : ℕ) → at ≡ min m (length input) → take (length input - at) (drop at input) ≡ drop m input
code-part input m at e =
    let l : length (drop at input) ≤ length input - at = omega (arith, length-drop at input) in
    take_all (length input - at) (drop at input) l ∙ go (dec_le m (length input))
  where
    go : Dec (m ≤ length input) → drop at input ≡ drop m input
    go (yes h) = let q : at ≡ m = omega arith in ap (λ (n : ℕ). drop n input) q
    go (no h) =
        let u : length input ≤ at = omega arith in
        let v : length input ≤ m = omega arith in
        drop_of_length-le input u ∙ sym (drop_of_length-le input v)

-- the starts fit their scratch space
pub starts-small : (input : List ℕ) (k : ℕ) → length input ≤ 65536 → k ≡ length (starts_in (drop 1 (records_of input))) → k ≤ 4096
starts-small input k h e = omega (arith, behind-most (records_of input), length-records_of input)

module _ (input : List ℕ) (r : Rec) (f : r ≡ get_or (records_of input) 0 zero_rec) where
  -- the settings and the chosen argument, read from the first record
  pub settings-as : (S : Settings) → S ≡ settings_from (eqb r.kind 240) r → S ≡ settings_of input
  unfolding settings_of
  settings-as S g = g ∙ ap (λ (x : Rec). settings_from (eqb x.kind 240) x) f

  pub chosen-as : r.long ≡ chosen_of input
  unfolding chosen_of
  chosen-as = ap (λ (x : Rec). x.long) f

module _ (input buffer code starts : List ℕ) (S : Settings) (r : Rec) (f : r ≡ get_or (records_of input) 0 zero_rec) (g : S ≡ settings_from (eqb r.kind 240) r) where
  call-as : code ≡ code_of input → starts ≡ starts_of input → build_call class_of code starts S r.long buffer ≡ lines_call input buffer
  unfolding lines_call
  call-as c s = rw (c, s, settings-as input r f S g, chosen-as input r f) refl

  -- the call of an input that is not too long
  pub lines-short : (k at : ℕ) → length input ≤ 65536 → starts ≡ starts_in (drop 1 (records_of input)) → k ≡ length (starts_in (drop 1 (records_of input)))
      → at ≡ min (16 * (1 + k)) (length input) → code ≡ take (length input - at) (drop at input)
      → build_call class_of code starts S r.long buffer ≡ lines_call input buffer
  unfolding code_of starts_of
  lines-short k at h s q e c =
      let t = le-ltb 65536 (length input) h in
      call-as
      (c ∙ code-part input (16 * (1 + k)) at e ∙ rw (t, q) refl)
      (s ∙ rw t refl)

  -- the call of a longer one
  pub lines_long : 65536 < length input → starts ≡ [] → code ≡ take 1 input
      → build_call class_of code starts S r.long buffer ≡ lines_call input buffer
  unfolding code_of starts_of
  lines_long h s c =
      let t = lt-ltb 65536 (length input) h in
      call-as (c ∙ rw t refl) (s ∙ rw t refl)
