-- The parts of an input: some records, a call, the index that a run begins with. Assumes nothing.
use mathlib.Core.Path.{◌≡◌, refl, sym, ap, ◌∙◌}
use Prim.Native.Nat.{ℕ, ◌+◌, ◌-◌, ◌*◌, ◌≤◌, min}
use native.Mathlib.Nat.{le-mul_of_pos_right}
use native.Mathlib.Omega.{arith}
use mathlib.Core.List.{List}
use lib.ListN.{length, drop, length-take}
use Rattle.walk_inputs.specs.declared.Plan.{Plan}
use Rattle.walk_inputs.specs.Plan.{plan_of, step_of, part_of}
use Rattle.walk_inputs.specs.Run.{call_part}

pub part_length : (input : List ℕ) (at n : ℕ) → length (part_of input at n) ≤ 16 * n
part_length input at n = omega (arith, length-take (16 * n) (drop (16 * at) input))

module _ (input : List ℕ) (p : Plan) (s i : ℕ) (e : p ≡ plan_of input) (f : s ≡ step_of input) where
  pub call-as : part_of input (p.place + i * s) (min s (p.calls - i * s)) ≡ call_part input i
  unfolding call_part
  call-as = rw (e, f) refl

  -- past the last call there is none
  pub call_none : 1 ≤ s → p.calls ≤ i → part_of input 0 0 ≡ call_part input i
  call_none h k =
      let z : min s (p.calls - i * s) ≡ 0 = omega (arith, le-mul_of_pos_right {m = s} i h) in
      ap (λ (n : ℕ). part_of input (p.place + i * s) n) (sym z) ∙ call-as
