use Rattle.std.proofs.Common.{◌≡◌, ◌<◌, get_or, length, set, ap, ◌∙◌, arith}
use Rattle.std.proofs.lemmas.List.Edits.{map_over_more}
use Rattle.ndc_model.specs.Moves.{in_flight}
use Rattle.ndc_model.specs.World.{Link}
use Rattle.ndc_world_replication.specs.Flights.{emptied_at}
use Rattle.ndc_world_replication.proofs.TakeLemmas.{jobs_more_by, link_there}
use Rattle.ndc_world_replication.proofs.taking.take_shard.Goals as goal

pub loop-place-preserved : goal.loop-place-preserved
loop-place-preserved c =
    let below : c.loop-place.place < length c.args.links.now = omega arith in
    let link : Link = get_or c.loop-place.links c.loop-place.place c.index-links-place.result in
    let at : link ≡ get_or c.loop-place.links c.loop-place.place link = ap (get_or c.loop-place.links c.loop-place.place) c.index-links-place.is in
    let there = link_there (emptied_at c.args.reader c.args.shard) c.args.links.now c.loop-place.links c.loop-place.place link c.loop-place.invariant.links below at in
    record {
      links = ap (set c.loop-place.links c.loop-place.place) c.in_ok-take_from.ensures.link
          ∙ map_over_more (emptied_at c.args.reader c.args.shard) c.args.links.now c.loop-place.links c.loop-place.place link below c.loop-place.invariant.links at;
      jobs = jobs_more_by in_flight c.args.reader c.args.shard c.loop-place.jobs.items _ c.args.links.now c.loop-place.place link c.take_from.new.jobs.items below there
          c.in_ok-take_from.ensures.jobs c.loop-place.invariant.jobs;
    }
