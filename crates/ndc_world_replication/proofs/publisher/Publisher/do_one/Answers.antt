use Rattle.std.proofs.Common.{List, length, ap, ◌∙◌}
use Rattle.ndc_cluster.specs.Homes.{desk_of}
use Rattle.ndc_model_cells.specs.Jobs.{replies_to}
use Rattle.ndc_model_cells.specs.declared.job.ShardJob.{ShardJob}
use Rattle.ndc_world_replication.proofs.GrowLemmas.{one_reply}
use Rattle.ndc_world_replication.proofs.publisher.Publisher.do_one.Goals as goal

pub only-requires : goal.only-requires
only-requires g c =
    ap length c.in_ok-replies.ensures.replies
    ∙ ap (λ (jobs : List ShardJob). length (replies_to (desk_of c.args.home.now c.args.self.now.cluster.table) jobs c.args.self.now.cluster.cells)) c.from_ref.ensures.value
    ∙ one_reply (desk_of c.args.home.now c.args.self.now.cluster.table) c.args.asked.now c.args.self.now.cluster.cells
