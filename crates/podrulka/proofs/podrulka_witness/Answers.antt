-- The witness's answer, with its numbers laid. Assumes nothing.
use Rattle.std.proofs.lemmas.Grind.{common_steps}
use native.Mathlib.Omega.{arith}
use Rattle.podrulka.specs.Face.{Found}
use Rattle.podrulka.proofs.podrulka_witness.Goals as goal

pub returns-clause-found : goal.returns-clause-found
unfolding Found
returns-clause-found c = rw (← c.from_flags-settings.ensures) (c.witness-a.result, c.witness-a.ensures, grind (arith, common_steps))
