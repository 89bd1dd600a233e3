-- The starts are the words of the records behind the first. Assumes nothing.
use mathlib.Core.Path.{◌∙◌}
use native.Mathlib.Omega.{arith}
use lib.ListN.{length}
use Rattle.records.specs.Records.{records_of}
use Rattle.inputs.proofs.StartLaws.{words-behind, behind-room}
use Rattle.inputs.proofs.read_starts.Goals as goal

pub read_words-requires : goal.read_words-requires
read_words-requires c = omega (arith, behind-room (records_of c.args.input.now))

pub returns : goal.returns
returns c = let a = c.args in c.read_words.ensures ∙ words-behind (records_of a.input.now) (length a.starts.now) c.requires
