use Rattle.std.proofs.Common.{arith}
use Rattle.ndc_state.proofs.OriginOrder.{indexed-more}
use Rattle.ndc_state.proofs.listed.index_of.Goals as goal

pub loop-origin-preserved : goal.loop-origin-preserved
loop-origin-preserved c =
    indexed-more c.args.origins.now c.loop-origin.origin-index _ c.loop-origin.index.keys c.put.new.index.keys c.requires (omega arith) c.loop-origin.invariant c.in_ok-put.ensures.ok
