use Rattle.std.proofs.Common.{◌≡◌, ◌<◌, List, [], ◌∷◌, length, map, ap, sym, subst, ◌∙◌, arith}
use Rattle.std.proofs.lemmas.List.{length-map}
use Rattle.std.specs.List.{AllByRecursion}
use Rattle.ndc_cluster.specs.Clusters.{ClusterValue, with_cells}
use Rattle.ndc_cluster.specs.Homes.{desk_of}
use Rattle.ndc_cluster_links.specs.Rest.{AreFronts, AreRests}
use Rattle.ndc_model_cells.specs.Cells.{Cell}
use Rattle.ndc_model_cells.specs.Jobs.{cell_for, cells_after, cells_behind, replies_to, reply_to}
use Rattle.ndc_model_cells.specs.declared.job.JobReply.{JobReply}
use Rattle.ndc_model_cells.specs.declared.job.ShardJob.{ShardJob}
use Rattle.ndc_queue.specs.Queues.{QueueValue}
use Rattle.ndc_world_replication.proofs.GrowLemmas.{alike_after, cells_of_one, fronts_after, reply_of_one, rests_but}
use Rattle.ndc_world_replication.specs.Publishers.{AreRestsBut, PublisherValue}
use Rattle.ndc_world_replication.proofs.publisher.Publisher.do_alone.Goals as goal

pub extend_asked-requires-clause-alike : goal.extend_asked-requires-clause-alike
extend_asked-requires-clause-alike g c =
    let own = c.self.inside.cluster in
    sym (length-map c.cells.result.now g.C.Cell.cell) ∙ ap length c.cells.ensures ∙ ap (λ (v : ClusterValue). length v.cells) c.in_ok-reply.ensures.cells
    ∙ ap (λ (v : ClusterValue). length (cells_behind (desk_of c.args.home.now v.table) c.args.asked.now v.cells)) c.replace-cluster.ensures.value
    ∙ ap length (cells_of_one (desk_of c.args.home.now own.table) c.args.asked.now own.cells)
    ∙ alike_after (desk_of c.args.home.now own.table) (c.args.asked.now ∷ []) own.cells c.self.inside.queues c.self.invariant ∙ ap length (sym c.replace-queues.ensures.value)

pub extend_asked-requires-clause-shards : goal.extend_asked-requires-clause-shards
extend_asked-requires-clause-shards g c =
    let below : c.args.asked.now.shard < length c.replace-queues.result =
    omega (arith, c.requires.shard, ap (λ (s : PublisherValue). length s.cluster.cells) c.self.view_is, c.self.invariant.alike, ap length c.replace-queues.ensures.value) in
    subst (AllByRecursion (λ (asked : ShardJob). asked.shard < length c.replace-queues.result)) (sym c.from_ref.ensures.value) (below, tt)

pub extend_asked-requires-clause-fronts : goal.extend_asked-requires-clause-fronts
extend_asked-requires-clause-fronts g c =
    let own = c.self.inside.cluster in
    let cells_are : map g.C.Cell.cell c.cells.result.now ≡ cells_after (desk_of c.args.home.now own.table) (c.args.asked.now ∷ []) own.cells =
    c.cells.ensures ∙ ap (λ (v : ClusterValue). v.cells) c.in_ok-reply.ensures.cells
    ∙ ap (λ (v : ClusterValue). cells_behind (desk_of c.args.home.now v.table) c.args.asked.now v.cells) c.replace-cluster.ensures.value
    ∙ cells_of_one (desk_of c.args.home.now own.table) c.args.asked.now own.cells in
    subst (λ (cells : List Cell). AreFronts c.replace-queues.result (λ shard. (cell_for shard cells).written)) (sym cells_are)
    (subst (λ (queues : List QueueValue). AreFronts queues (λ shard. (cell_for shard (cells_after (desk_of c.args.home.now own.table) (c.args.asked.now ∷ []) own.cells)).written))
    (sym c.replace-queues.ensures.value)
    (fronts_after (desk_of c.args.home.now own.table) (c.args.asked.now ∷ []) own.cells c.self.inside.queues c.self.invariant))

pub extend_asked-requires-clause-others : goal.extend_asked-requires-clause-others
extend_asked-requires-clause-others g c =
    let own = c.self.inside.cluster in
    let cells_are : map g.C.Cell.cell c.cells.result.now ≡ cells_after (desk_of c.args.home.now own.table) (c.args.asked.now ∷ []) own.cells =
    c.cells.ensures ∙ ap (λ (v : ClusterValue). v.cells) c.in_ok-reply.ensures.cells
    ∙ ap (λ (v : ClusterValue). cells_behind (desk_of c.args.home.now v.table) c.args.asked.now v.cells) c.replace-cluster.ensures.value
    ∙ cells_of_one (desk_of c.args.home.now own.table) c.args.asked.now own.cells in
    subst (λ (jobs : List ShardJob). AreRestsBut jobs c.replace-queues.result (λ shard. (cell_for shard (map g.C.Cell.cell c.cells.result.now)).written)) (sym c.from_ref.ensures.value)
    (subst (λ (cells : List Cell). AreRestsBut (c.args.asked.now ∷ []) c.replace-queues.result (λ shard. (cell_for shard cells).written)) (sym cells_are)
    (subst (λ (queues : List QueueValue). AreRestsBut (c.args.asked.now ∷ []) queues (λ shard. (cell_for shard (cells_after (desk_of c.args.home.now own.table) (c.args.asked.now ∷ []) own.cells)).written))
    (sym c.replace-queues.ensures.value)
    (rests_but (desk_of c.args.home.now own.table) (c.args.asked.now ∷ []) own.cells c.self.inside.queues c.self.invariant)))

pub invariant_of-self-2 : goal.invariant_of-self-2
invariant_of-self-2 g c =
    let own = c.self.inside.cluster in
    record {
      alike = sym (length-map c.extend_asked.new.queues (λ (queue : QueueValue). queue.first)) ∙ ap length c.in_ok-extend_asked.ensures.first ∙ length-map c.replace-queues.result (λ (queue : QueueValue). queue.first)
          ∙ ap length c.replace-queues.ensures.value ∙ sym (alike_after (desk_of c.args.home.now own.table) (c.args.asked.now ∷ []) own.cells c.self.inside.queues c.self.invariant)
          ∙ sym (ap (λ (v : ClusterValue). length v.cells) c.in_ok-reply.ensures.cells
          ∙ ap (λ (v : ClusterValue). length (cells_behind (desk_of c.args.home.now v.table) c.args.asked.now v.cells)) c.replace-cluster.ensures.value
          ∙ ap length (cells_of_one (desk_of c.args.home.now own.table) c.args.asked.now own.cells));
      rests = subst (λ (cells : List Cell). AreRests c.extend_asked.new.queues (λ shard. (cell_for shard cells).written)) c.cells.ensures c.in_ok-extend_asked.ensures.rests;
    }

pub returns-clause-cells : goal.returns-clause-cells
returns-clause-cells g c =
    let own = c.self.inside.cluster in
    let cluster : c.do_one.new.self ≡ with_cells (cells_after (desk_of c.args.home.now own.table) (c.args.asked.now ∷ []) own.cells) own =
    c.in_ok-reply.ensures.cells
    ∙ ap (λ (v : ClusterValue). with_cells (cells_behind (desk_of c.args.home.now v.table) c.args.asked.now v.cells) v) c.replace-cluster.ensures.value
    ∙ ap (λ (cells : List Cell). with_cells cells own) (cells_of_one (desk_of c.args.home.now own.table) c.args.asked.now own.cells) in
    let trimmed : map (λ (queue : QueueValue). queue.first) c.extend_asked.new.queues ≡ map (λ (queue : QueueValue). queue.first) c.self.inside.queues =
    c.in_ok-extend_asked.ensures.first ∙ ap (map (λ (queue : QueueValue). queue.first)) c.replace-queues.ensures.value in
    rw (← c.self.view_is)
    (λ i. record {
      cluster = record { table = (cluster i).table; cells = (cluster i).cells; letters = c.self.inside.letters; reports = [] };
      trimmed = trimmed i;
    })

pub returns-clause-reply : goal.returns-clause-reply
returns-clause-reply g c =
    let own = c.self.inside.cluster in
    ap (λ (reply : JobReply). reply ∷ [])
    (c.in_ok-reply.ensures.reply
    ∙ ap (λ (v : ClusterValue). reply_to (desk_of c.args.home.now v.table) c.args.asked.now.job (cell_for c.args.asked.now.shard v.cells)) c.replace-cluster.ensures.value)
    ∙ reply_of_one (desk_of c.args.home.now own.table) c.args.asked.now own.cells
    ∙ ap (λ (s : PublisherValue). replies_to (desk_of c.args.home.now s.cluster.table) (c.args.asked.now ∷ []) s.cluster.cells) c.self.view_is
