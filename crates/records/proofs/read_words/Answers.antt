-- Each word read is that of its record. Assumes nothing.
use native.Mathlib.Omega.{arith}
use lib.ListN.{length}
use Rattle.records.specs.Records.{records_of}
use Rattle.records.proofs.Laws.{length-records_of}
use Rattle.records.proofs.Words.{words-read}
use Rattle.records.proofs.read_words.Goals as goal

pub overflow_add-from : goal.overflow_add-from
overflow_add-from c = omega (arith, length-records_of c.args.index.now)

pub returns : goal.returns
returns c = let a = c.args in
    words-read (records_of a.index.now) a.from (length a.words.now) c.loop-i.words c.loop-i.auto.words c.requires (λ k h. c.loop-i.invariant k (omega arith))
