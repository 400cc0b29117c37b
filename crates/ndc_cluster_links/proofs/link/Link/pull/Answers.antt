use Rattle.std.proofs.Common.{List, refl, sym, subst}
use Rattle.ndc_cluster_links.specs.Rest.{AreRests}
use Rattle.ndc_queue.specs.Queues.{QueueValue}
use Rattle.ndc_cluster_links.proofs.link.Link.pull.Goals as goal

pub returns-clause-pulled : goal.returns-clause-pulled
returns-clause-pulled c = λ whole rests.
    let there = subst (λ (queues : List QueueValue). AreRests queues whole) (sym c.as_slice-queues.ensures) rests in
    rw (← c.self.view_is, c.in_ok-count.ensures.pulled whole there) refl

pub returns-clause-count : goal.returns-clause-count
returns-clause-count c = λ whole rests.
    let there = subst (λ (queues : List QueueValue). AreRests queues whole) (sym c.as_slice-queues.ensures) rests in
    rw (← c.self.view_is) (c.in_ok-count.ensures.count whole there)
