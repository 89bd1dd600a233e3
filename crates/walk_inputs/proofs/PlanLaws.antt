-- The plan of an input: its records where they stand, and its bounds. Assumes nothing.
use mathlib.Core.Path.{◌≡◌, refl, sym, ap, ◌∙◌}
use Prim.Native.Nat.{ℕ, zero, suc, ◌+◌, ◌-◌, ◌≤◌, min, max}
use Rattle.std.proofs.Math.Nat.{suc-ne-zero}
use native.Mathlib.Omega.{arith}
use mathlib.Core.Bool.{Bool, true, false, cond}
use mathlib.Core.List.{List}
use lib.Dec.{eqb}
use Rattle.std.specs.Prelude.{Option}
use Rattle.std.specs.Bool.{then_some}
use borrow.Author.Tests.{eq-eqb, ne_eqb}
use lib.ListN.{length, get_or, take, drop}
use lib.Seq.{take-length}
use Rattle.records.specs.declared.Rec.{Rec}
use Rattle.records.specs.Records.{records_of, zero_rec}
use Rattle.records.proofs.Laws.{length-records_of}
use Rattle.inputs.specs.Input.{bit, starts_in}
use Rattle.inputs.proofs.StartLaws.{behind-most}
use Rattle.walk_inputs.specs.declared.Plan.{Plan}
use Rattle.walk_inputs.specs.Plan.{starts_of, record_of, place_of, given_of, planned_by, plan_of}

module _ (rs : List Rec) (n at : ℕ) (r : Rec) (e : n ≡ length rs) (f : r ≡ get_or (take n rs) at zero_rec) where
  at_place : r ≡ get_or rs at zero_rec
  at_place = f ∙ ap (λ (k : ℕ). get_or (take k rs) at zero_rec) e ∙ ap (λ (l : List Rec). get_or l at zero_rec) (take-length rs)

  -- the record at a place is of the kind
  pub record-found : (kind : ℕ) → r.kind ≡ kind → r ≡ record_of kind rs at
  unfolding record_of
  record-found kind q = rw (← at_place, eq-eqb r.kind kind q) refl

  -- or of another
  pub record-missing : (kind : ℕ) → (r.kind ≡ kind → ⊥) → zero_rec ≡ record_of kind rs at
  unfolding record_of
  record-missing kind q = rw (← at_place, ne_eqb r.kind kind q) refl

-- the arity, and at least one
pub step-max : (a : ℕ) → max a 1 ≡ cond (eqb a 0) 1 a
step-max zero = refl
step-max (suc a) =
    let m : max (suc a) 1 ≡ suc a = omega arith in
    m ∙ sym (ap (λ (b : Bool). cond b 1 (suc a)) (ne_eqb (suc a) 0 (suc-ne-zero a)))

pub place-most : (r : Rec) → place_of r ≤ 1
place-most r = go (eqb r.kind 0)
  where
    go : (b : Bool) → cond b 0 1 ≤ 1
    go true = omega arith
    go false = omega arith

-- the fields of a plan, worked out one after the other
pub planned-as : (n k a b l c m i e : ℕ) (h : Option ℕ) (r g : Rec) → a ≡ place_of r → b ≡ place_of g → l ≡ n - (1 + k + a + b) → c ≡ min r.word l
    → m ≡ n - (1 + k + a + b + c) → i ≡ min g.word m → e ≡ min r.long 65535 → h ≡ then_some (bit r.sub 1) g.long
    → ◌≡◌ {A = Plan} (record { starts = k; out = r.half; capacity = e; handed = h; place = 1 + k + a + b; calls = c; index = i }) (planned_by n k r g)
unfolding planned_by
planned-as n k a b l c m i e h r g pa pb pl pc pm pi pe ph = rw (pi, pm, pc, pl, pa, pb, pe, ph) refl

-- the plan, from the records where they stand
pub plan-as : (input : List ℕ) (n k a : ℕ) (h : Bool) (r g : Rec) → n ≡ length (records_of input) → k ≡ length (starts_in (drop 1 (records_of input)))
    → r ≡ record_of 242 (records_of input) (1 + k) → h ≡ bit r.sub 1 → a ≡ place_of r → g ≡ given_of h (records_of input) (1 + k + a)
    → planned_by n k r g ≡ plan_of input
unfolding plan_of starts_of
plan-as input n k a h r g pn pk pr ph pa pg = rw (pg, ph, pa, pr, pk, pn) refl

-- the places and lengths of a plan of at most 65,536 records
pub record Small (p : Plan) : Type 0 where
  pub places : p.place + p.calls + p.index ≤ 65539
  pub calls : p.calls ≤ 65536
  pub index : p.index ≤ 65536
  pub starts : p.starts ≤ 65536
  pub capacity : p.capacity ≤ 65535

planned-small : (n k : ℕ) (r g : Rec) → k ≤ n → n ≤ 65536 → Small (planned_by n k r g)
unfolding planned_by
planned-small n k r g h m =
    record { places = omega (arith, place-most r, place-most g); calls = omega arith; index = omega arith; starts = omega arith; capacity = omega arith }

pub few-starts : (input : List ℕ) → length (starts_of input) ≤ length (records_of input)
unfolding starts_of
few-starts input = behind-most (records_of input)

pub plan-small : (input : List ℕ) (p : Plan) → p ≡ plan_of input → length input ≤ 1048576 → Small p
unfolding plan_of
plan-small input p e h =
    rw e (planned-small (length (records_of input)) (length (starts_of input)) _ _ (few-starts input) (omega (arith, length-records_of input)))

-- the plan's number of starts
pub plan-starts : (input : List ℕ) (p : Plan) → p ≡ plan_of input → p.starts ≡ length (starts_in (drop 1 (records_of input)))
unfolding plan_of planned_by starts_of
plan-starts input p e = ap (λ (q : Plan). q.starts) e
