use Rattle.std.proofs.Common.{◌≡◌, List, map, take, ap, sym, subst, ◌∙◌, arith, IfOk}
use Rattle.std.proofs.lemmas.List.{take_all}
use Rattle.std.specs.List.{range_with_len}
use Rattle.ndc_model.specs.Moves.{all_arrive, by_link, in_flight}
use Rattle.ndc_model.specs.World.{Link}
use Rattle.ndc_model_cells.specs.declared.job.ShardJob.{ShardJob}
use Rattle.ndc_world_replication.proofs.QuietLemmas.{jobs_behind, no_flight_jobs}
use Rattle.ndc_world_replication.specs.Flights.{emptied}
use Rattle.ndc_world_replication.proofs.taking.take_all.Goals as goal

pub returns-then-front-links-clause-jobs : goal.returns-then-front-links-clause-jobs
returns-then-front-links-clause-jobs c =
    let all : take c.quiet_front-front.result c.args.links.now ≡ c.args.links.now = take_all c.quiet_front-front.result c.args.links.now (omega arith) in
    c.new.ensures.items
    ∙ sym (no_flight_jobs c.args.reader c.args.links.now (range_with_len 0 c.args.shards) (ap (map (emptied c.args.reader)) (sym all) ∙ c.quiet_front-front.ensures.quiet ∙ all))

pub returns-clause-jobs : goal.returns-clause-jobs
returns-clause-jobs c =
    subst (λ (js : List ShardJob). IfOk c.take_busy.result (λ jobs. jobs.items ≡ js))
    (ap (λ (ls : List Link). all_arrive (by_link c.args.reader in_flight ls) (range_with_len 0 c.args.shards)) c.split_at_mut-quiet.ensures.back
    ∙ jobs_behind c.args.reader c.quiet_front-front.result c.args.links.now (range_with_len 0 c.args.shards) c.quiet_front-front.ensures.quiet)
    c.take_busy.ensures.jobs
