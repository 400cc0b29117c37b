use Rattle.std.proofs.Common.{◌∙◌}
use Rattle.ndc_resend.specs.PutOff.{gaps_at, gaps_of}
use Rattle.ndc_shard.proofs.GapLemmas.{all-gaps, told-more}
use Rattle.ndc_shard.proofs.finding.gaps.Goals as goal

pub loop-place-init : goal.loop-place-init
loop-place-init c =
    all-gaps c.args.workflows.now c.in_ok-places.ensures.cell c.new-list.result.items c.as_slice-place-items.result.now c.new-list.ensures.items
    (c.as_slice-place-items.ensures.value ∙ c.in_ok-places.ensures.list)

pub loop-place-preserved : goal.loop-place-preserved
loop-place-preserved c =
    told-more (gaps_at c.args.workflows.now) c.loop-place.list.items c.in_ok-more.more.items c.append.new.self.items (gaps_of c.args.workflows.now) c.as_slice-place-items.result.now
    c.loop-place.place-index c.place-item.result c.loop-place-test.true c.place-item.is c.loop-place.invariant c.in_ok-more.ensures c.in_ok-append.ensures.items
