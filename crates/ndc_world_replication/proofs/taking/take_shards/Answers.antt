use Rattle.std.proofs.Common.{◌≡◌, ◌<◌, List, ◌++◌, length, map, ap, sym, subst, ◌∙◌, arith}
use Rattle.std.specs.List.{AllByRecursion, range_with_len}
use Rattle.ndc_model_cells.specs.declared.message.Message.{Message}
use Rattle.ndc_model.specs.Moves.{all_arrive, arrives, by_link, in_flight}
use Rattle.ndc_model.specs.World.{Link}
use Rattle.ndc_world_replication.specs.Flights.{emptied_at, emptied_below}
use Rattle.ndc_world_replication.proofs.TakeLemmas.{all_emptied, all_emptied_more, all_emptied_none, all_flight_still, all_lanes_still, jobs_of_more}
use Rattle.ndc_world_replication.proofs.taking.take_shards.Goals as goal

pub take_shard-requires : goal.take_shard-requires
take_shard-requires c =
    subst (AllByRecursion (λ (link : Link). c.loop-shard.shard < length link.lanes)) (sym c.loop-shard.invariant.links)
    (all_lanes_still c.args.reader c.args.shards c.loop-shard.shard (omega arith) c.args.links.now c.requires)

pub loop-shard-init : goal.loop-shard-init
loop-shard-init c = record { links = all_emptied_none c.args.reader c.args.links.now; jobs = c.new-jobs.ensures.items }

pub loop-shard-preserved : goal.loop-shard-preserved
loop-shard-preserved c = record {
  links = c.in_ok-take_shard.ensures.links ∙ ap (map (emptied_at c.args.reader c.loop-shard.shard)) c.loop-shard.invariant.links
      ∙ all_emptied_more c.args.reader c.args.shards c.loop-shard.shard (omega arith) c.args.links.now c.requires;
  jobs = c.in_ok-take_shard.ensures.jobs
      ∙ ap (λ jobs. jobs ++ map (arrives c.loop-shard.shard) (by_link c.args.reader in_flight c.loop-shard.links c.loop-shard.shard)) c.loop-shard.invariant.jobs
      ∙ ap (λ (links : List Link). all_arrive (by_link c.args.reader in_flight c.args.links.now) (range_with_len 0 c.loop-shard.shard) ++ map (arrives c.loop-shard.shard) (by_link c.args.reader in_flight links c.loop-shard.shard))
      c.loop-shard.invariant.links
      ∙ ap (λ (messages : List Message). all_arrive (by_link c.args.reader in_flight c.args.links.now) (range_with_len 0 c.loop-shard.shard) ++ map (arrives c.loop-shard.shard) messages)
      (all_flight_still c.args.reader c.args.shards c.loop-shard.shard (omega arith) c.args.links.now c.requires)
      ∙ jobs_of_more (by_link c.args.reader in_flight c.args.links.now) c.loop-shard.shard;
}

pub returns-clause-links : goal.returns-clause-links
returns-clause-links c =
    let all : c.loop-shard.shard ≡ c.args.shards = omega arith in
    c.loop-shard.invariant.links ∙ ap (λ shard. map (emptied_below c.args.reader shard) c.args.links.now) all ∙ all_emptied c.args.reader c.args.shards c.args.links.now c.requires
