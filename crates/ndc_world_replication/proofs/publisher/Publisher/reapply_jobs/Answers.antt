use Rattle.std.proofs.Common.{◌≡◌, List, [], ◌∷◌, ◌++◌, append_assoc, refl, ap, sym, subst, ◌∙◌, arith}
use Rattle.std.proofs.lemmas.List.{append-nil}
use Rattle.ndc_cluster.specs.Homes.{HomeValue, desk_of}
use Rattle.ndc_cluster.specs.Idle.{IsIdle}
use Rattle.ndc_domain.specs.declared.record.DomainRecord.{DomainRecord}
use Rattle.ndc_model_cells.specs.Cells.{Cell}
use Rattle.ndc_model_cells.specs.Jobs.{cell_for}
use Rattle.ndc_model_cells.specs.Writing.{Desk}
use Rattle.ndc_model_cells.specs.declared.job.ShardJob.{ShardJob}
use Rattle.ndc_world_replication.proofs.ChosenLemmas.{chosen_asked, chosen_none, chosen_passed}
use Rattle.ndc_world_replication.specs.Chosen.{AreChosen, reapplies}
use Rattle.ndc_world_replication.specs.Publishers.{PublisherValue}
use Rattle.ndc_world_replication.proofs.publisher.Publisher.reapply_jobs.Goals as goal

pub loop-shard-preserved-then-is_idle : goal.loop-shard-preserved-then-is_idle
loop-shard-preserved-then-is_idle g c rest chosen =
    let desk : Desk = desk_of c.args.home.now c.args.self.now.cluster.table in
    let cells : List Cell = c.args.self.now.cluster.cells in
    let own : c.new-desk.result ≡ desk =
    c.new-desk.ensures ∙ ap (λ (home : HomeValue). record { clusters = home.clusters; me = home.me; limit = home.limit; table = c.records.result.now }) c.home.view_is
    ∙ ap (λ (table : List DomainRecord). desk_of c.args.home.now table) (c.records.ensures ∙ ap (λ (s : PublisherValue). s.cluster.table) c.self.view_is) in
    let there : g.C.Cell.cell c.shard.result.now ≡ cell_for c.loop-shard.shard cells = c.shard.ensures ∙ ap (λ (s : PublisherValue). cell_for c.loop-shard.shard s.cluster.cells) c.self.view_is in
    let idle : IsIdle desk (cell_for c.loop-shard.shard cells) =
    subst (λ (d : Desk). IsIdle d (cell_for c.loop-shard.shard cells)) own (subst (IsIdle c.new-desk.result) there (c.if-is_idle.ensures refl)) in
    c.loop-shard.invariant rest (chosen_passed desk cells c.args.shards c.loop-shard.shard c.loop-shard-test.true rest idle chosen)

pub loop-shard-preserved : goal.loop-shard-preserved
loop-shard-preserved g c rest chosen =
    let desk : Desk = desk_of c.args.home.now c.args.self.now.cluster.table in
    let cells : List Cell = c.args.self.now.cluster.cells in
    subst (AreChosen desk cells c.args.shards 0)
    (sym (append_assoc c.loop-shard.jobs.items (reapplies c.loop-shard.shard ∷ []) rest) ∙ ap (λ (jobs : List ShardJob). jobs ++ rest) (sym c.in_ok-push.ensures.items))
    (c.loop-shard.invariant (reapplies c.loop-shard.shard ∷ rest) (chosen_asked desk cells c.args.shards c.loop-shard.shard c.loop-shard-test.true rest chosen))

pub returns : goal.returns
returns g c =
    let desk : Desk = desk_of c.args.home.now c.args.self.now.cluster.table in
    let cells : List Cell = c.args.self.now.cluster.cells in
    subst (AreChosen desk cells c.args.shards 0) (append-nil c.loop-shard.jobs.items)
    (c.loop-shard.invariant [] (chosen_none desk cells c.args.shards c.loop-shard.shard (omega (arith, c.loop-shard-test.false))))
