use Rattle.std.proofs.Common.{◌≡◌, List, map, refl, ap, sym, subst, sum_by, ◌∙◌}
use Rattle.ndc_model_cells.specs.Jobs.{cell_for}
use Rattle.ndc_cluster_links.proofs.IdleLemmas.{idle_lanes}
use Rattle.ndc_cluster_links.specs.Links.{done_of}
use Rattle.ndc_cluster_links.specs.Rest.{AreRests}
use Rattle.ndc_model.specs.Queues.{Lane}
use Rattle.ndc_model.specs.World.{Link}
use Rattle.ndc_queue.specs.Queues.{QueueValue, queue_len}
use Rattle.ndc_cluster_links.proofs.link.Link.renew.Goals as goal

pub returns-then-self-written : goal.returns-then-self-written
returns-then-self-written g c = λ whole rests.
    let all : done_of c.args.self.now.lanes ≡ sum_by queue_len c.args.queues.now =
    ap (λ (link : Link). done_of link.lanes) (sym c.self.view_is) ∙ sym c.self.invariant.done ∙ c.if-self-written.true ∙ c.written.ensures in
    ap (λ (lanes : List Lane). record c.args.self.now { lanes = lanes })
    (sym (idle_lanes c.args.self.now.reader c.args.table.now (λ shard. cell_for shard (map g.C.Cell.cell c.args.cells.now)) c.args.queues.now whole c.args.self.now.lanes
    c.requires.alike c.requires.within rests all))

pub returns : goal.returns
returns g c = λ whole rests.
    let there = subst (λ (queues : List QueueValue). AreRests queues whole) (sym c.as_slice-queues.ensures) rests in
    rw (← c.self.view_is, c.renew_lanes-self-inside.ensures.renewed whole there) refl
