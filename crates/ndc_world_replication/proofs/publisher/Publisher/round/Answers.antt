use Rattle.std.proofs.Common.{◌≡◌, List, length, map, ap, sym, subst, ◌∙◌}
use Rattle.std.proofs.lemmas.List.{length-map}
use Rattle.ndc_cluster.specs.Clusters.{ClusterValue}
use Rattle.ndc_cluster_links.specs.Rest.{AreFronts, AreRests}
use Rattle.std.specs.Prelude.{IfSome}
use Rattle.ndc_cluster.specs.Homes.{desk_of}
use Rattle.ndc_cluster.specs.Rounds.{AreFresh}
use Rattle.ndc_model_cells.specs.Cells.{Cell}
use Rattle.ndc_model_cells.specs.Jobs.{cell_for, cells_after}
use Rattle.ndc_queue.specs.Queues.{QueueValue}
use Rattle.ndc_world_replication.proofs.GrowLemmas.{alike_after, fronts_after, rests_but}
use Rattle.ndc_world_replication.specs.Publishers.{AreRestsBut}
use Rattle.ndc_world_replication.proofs.publisher.Publisher.round.Goals as goal

pub extend_queues-requires-clause-alike : goal.extend_queues-requires-clause-alike
extend_queues-requires-clause-alike g c =
    let own = c.self.inside.cluster in
    sym (length-map c.cells.result.now g.C.Cell.cell) ∙ ap length c.cells.ensures ∙ ap (λ (v : ClusterValue). length v.cells) (c.take_fresh-fresh.ensures.same ∙ c.in_ok-replies.ensures.cells)
    ∙ ap (λ (v : ClusterValue). length (cells_after (desk_of c.args.home.now v.table) c.args.jobs.now v.cells)) c.replace-cluster.ensures.value
    ∙ alike_after (desk_of c.args.home.now own.table) c.args.jobs.now own.cells c.self.inside.queues c.self.invariant ∙ ap length (sym c.replace-queues.ensures.value)

pub extend_queues-requires-clause-fronts : goal.extend_queues-requires-clause-fronts
extend_queues-requires-clause-fronts g c =
    let own = c.self.inside.cluster in
    let cells_are : map g.C.Cell.cell c.cells.result.now ≡ cells_after (desk_of c.args.home.now own.table) c.args.jobs.now own.cells =
    c.cells.ensures ∙ ap (λ (v : ClusterValue). v.cells) (c.take_fresh-fresh.ensures.same ∙ c.in_ok-replies.ensures.cells)
    ∙ ap (λ (v : ClusterValue). cells_after (desk_of c.args.home.now v.table) c.args.jobs.now v.cells) c.replace-cluster.ensures.value in
    subst (λ (cells : List Cell). AreFronts c.replace-queues.result (λ shard. (cell_for shard cells).written)) (sym cells_are)
    (subst (λ (queues : List QueueValue). AreFronts queues (λ shard. (cell_for shard (cells_after (desk_of c.args.home.now own.table) c.args.jobs.now own.cells)).written))
    (sym c.replace-queues.ensures.value)
    (fronts_after (desk_of c.args.home.now own.table) c.args.jobs.now own.cells c.self.inside.queues c.self.invariant))

pub extend_queues-requires-clause-others : goal.extend_queues-requires-clause-others
extend_queues-requires-clause-others g c =
    let own = c.self.inside.cluster in
    let cells_are : map g.C.Cell.cell c.cells.result.now ≡ cells_after (desk_of c.args.home.now own.table) c.args.jobs.now own.cells =
    c.cells.ensures ∙ ap (λ (v : ClusterValue). v.cells) (c.take_fresh-fresh.ensures.same ∙ c.in_ok-replies.ensures.cells)
    ∙ ap (λ (v : ClusterValue). cells_after (desk_of c.args.home.now v.table) c.args.jobs.now v.cells) c.replace-cluster.ensures.value in
    subst (λ (cells : List Cell). AreRestsBut c.args.jobs.now c.replace-queues.result (λ shard. (cell_for shard cells).written)) (sym cells_are)
    (subst (λ (queues : List QueueValue). AreRestsBut c.args.jobs.now queues (λ shard. (cell_for shard (cells_after (desk_of c.args.home.now own.table) c.args.jobs.now own.cells)).written))
    (sym c.replace-queues.ensures.value)
    (rests_but (desk_of c.args.home.now own.table) c.args.jobs.now own.cells c.self.inside.queues c.self.invariant))

pub invariant_of-self-2 : goal.invariant_of-self-2
invariant_of-self-2 g c =
    let own = c.self.inside.cluster in
    record {
      alike = sym (length-map c.extend_queues.new.queues (λ (queue : QueueValue). queue.first)) ∙ ap length c.in_ok-extend_queues.ensures.first ∙ length-map c.replace-queues.result (λ (queue : QueueValue). queue.first)
          ∙ ap length c.replace-queues.ensures.value ∙ sym (alike_after (desk_of c.args.home.now own.table) c.args.jobs.now own.cells c.self.inside.queues c.self.invariant)
          ∙ sym (ap (λ (v : ClusterValue). length v.cells) (c.take_fresh-fresh.ensures.same ∙ c.in_ok-replies.ensures.cells)
          ∙ ap (λ (v : ClusterValue). length (cells_after (desk_of c.args.home.now v.table) c.args.jobs.now v.cells)) c.replace-cluster.ensures.value);
      rests = subst (λ (cells : List Cell). AreRests c.extend_queues.new.queues (λ shard. (cell_for shard cells).written)) c.cells.ensures c.in_ok-extend_queues.ensures.rests;
    }

pub extend_queues-requires-clause-fresh : goal.extend_queues-requires-clause-fresh
extend_queues-requires-clause-fresh g c =
    subst (λ (cells : List Cell). IfSome c.take_fresh-fresh.result (λ fresh. AreFresh fresh.items cells)) (sym (c.cells.ensures ∙ ap (λ (v : ClusterValue). v.cells) c.take_fresh-fresh.ensures.same)) c.take_fresh-fresh.ensures.fresh
