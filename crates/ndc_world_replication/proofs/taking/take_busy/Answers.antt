use Rattle.std.proofs.Common.{List, ap, ◌∙◌}
use Rattle.std.specs.List.{range_with_len}
use Rattle.ndc_model.specs.Moves.{all_arrive, by_link, in_flight}
use Rattle.ndc_model.specs.World.{Link}
use Rattle.ndc_world_replication.proofs.QuietLemmas.{jobs_before}
use Rattle.ndc_world_replication.proofs.taking.take_busy.Goals as goal

pub returns-clause-jobs : goal.returns-clause-jobs
returns-clause-jobs c =
    c.in_ok-jobs.ensures.jobs
    ∙ ap (λ (ls : List Link). all_arrive (by_link c.args.reader in_flight ls) (range_with_len 0 c.args.shards)) c.split_at_mut-busy.ensures.front
    ∙ jobs_before c.args.reader c.busy_front-count.result c.args.links.now (range_with_len 0 c.args.shards) c.busy_front-count.ensures.quiet
