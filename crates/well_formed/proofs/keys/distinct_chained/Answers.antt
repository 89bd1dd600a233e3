-- The keys read are distinct, and their entries stand in chains; an entry whose key is in its chain makes all keys not distinct. Assumes nothing.
use mathlib.Core.Path.{◌≡◌, sym, ◌∙◌}
use Prim.Native.Nat.{◌-◌}
use native.Mathlib.Omega.{arith}
use borrow.Author.Rules.{rules}
use lib.ListN.{length, get_or}
use Rattle.records.specs.Records.{records_of, zero_rec}
use Rattle.well_formed.specs.Chains.{bucket_of, in_bucket}
use Rattle.well_formed.proofs.ChainLaws.{read_none, read_behind, read_once, read_more, read_twice}
use Rattle.well_formed.proofs.keys.distinct_chained.Goals.{After-bucket_of-bucket}
use Rattle.well_formed.proofs.keys.distinct_chained.Goals as goal

pub loop-i-init : goal.loop-i-init
loop-i-init g c =
    let n = c.capacity-n in
    (omega (arith, n.ensures), read_none _ _ _ _ n.result n.ensures c.new-chains.ensures)

-- the bucket is that of the entry's key
own-bucket : (g : _) (c : After-bucket_of-bucket g)
    → c.bucket_of-bucket.result ≡ bucket_of g.row.BUCKETS (get_or (records_of c.args.entries.now) (c.loop-i.i - 1) zero_rec)
unfolding bucket_of
own-bucket g c = rw (← c.get-r.ensures, ← c.head_from.ensures.0) c.bucket_of-bucket.ensures.0

pub key_chained-requires : goal.key_chained-requires
key_chained-requires g c =
    let i = c.loop-i.invariant in (
      search (rules, c.requires.sizes),
      (
        (omega (arith, i.0), c.requires.in_bounds),
        ((own-bucket g (goal.at.key_chained-requires g c).After-bucket_of-bucket, c.bucket_of-bucket.ensures.1), read_behind _ _ _ _ _ (c.loop-i.i - 1) (omega arith) i.0 i.1),
      ),
    )

pub returns-then-key_chained : goal.returns-then-key_chained
returns-then-key_chained g c =
    sym (read_twice _ _ _ _ _ (c.loop-i.i - 1) (omega arith) c.loop-i.invariant.0 c.loop-i.invariant.1 (sym c.key_chained.ensures ∙ c.if-key_chained.true))

pub loop-i-preserved : goal.loop-i-preserved
loop-i-preserved g c =
    let i = c.loop-i.invariant in
    let R = records_of c.args.entries.now in
    let item : c.capacity-n.result - 1 - (c.loop-i.i - 1) ≡ length R - c.loop-i.i = omega (arith, c.capacity-n.ensures, i.0, c.loop-i-test.true) in
    let own = own-bucket g (goal.at.loop-i-preserved g c).After-bucket_of-bucket in
    let more = rw item at c.push.ensures.chained in (
      omega (arith, i.0),
      read_more _ _ _ _ _ (c.loop-i.i - 1) (omega arith) i.0 i.1 _ _ (sym c.key_chained.ensures ∙ c.if-key_chained.false)
          (more (in_bucket g.row.BUCKETS R (length R)) i.1.chains (read_once _ _ _ _ _ (c.loop-i.i - 1) (omega arith) i.0 i.1 _ own)),
    )
