use Rattle.std.proofs.Common.{◌≡◌, sum_by, ap, sym, ◌∙◌}
use Rattle.ndc_cluster_links.proofs.DoneLemmas.{done_each}
use Rattle.ndc_cluster_links.specs.Links.{done_of}
use Rattle.ndc_model.specs.World.{Link}
use Rattle.ndc_queue.specs.Queues.{queue_len}
use Rattle.ndc_cluster_links.proofs.link.Link.is_done.Goals as goal

pub returns-then-self-written : goal.returns-then-self-written
returns-then-self-written c = λ is.
    let all : done_of c.args.self.now.lanes ≡ sum_by queue_len c.args.queues.now =
    ap (λ (link : Link). done_of link.lanes) (sym c.self.view_is) ∙ sym c.self.invariant.done ∙ c.if-self-written.true ∙ c.written-written.ensures in
    done_each c.args.queues.now c.args.self.now.lanes c.requires.alike c.requires.within all
