use Rattle.std.proofs.Common.{◌≡◌, List, ◌∷◌, drop, ap, sym, subst, ◌∙◌, arith}
use Rattle.ndc_cluster_links.proofs.QueueLemmas.{front_step, len_pushed, next_there}
use Rattle.ndc_cluster_links.specs.Rest.{IsFrontOf}
use Rattle.ndc_model_cells.specs.declared.message.Message.{Message}
use Rattle.ndc_queue.specs.Queues.{QueueValue, queue_len}
use Rattle.ndc_cluster_links.proofs.queues.push_fresh.Goals as goal

pub loop-message-preserved : goal.loop-message-preserved
loop-message-preserved g c =
    let whole : List Message = (g.C.Cell.cell c.args.cell.now).written in
    let old = c.loop-message.queue in
    let cons : drop (queue_len old) whole ≡ c.in-Some.message ∷ c.next.new.self.rest.items = sym c.loop-message.invariant.fresh ∙ c.in-Some.ensures.steps.0 in
    let next = next_there whole (queue_len old) c.in-Some.message c.next.new.self.rest.items cons in
    let pushed = c.in_ok-push.ensures.pushed in
    record {
      front = subst (λ (queue : QueueValue). IsFrontOf queue whole) (sym pushed) (front_step old whole c.in-Some.message next.0 c.loop-message.invariant.front next.1);
      first = ap (λ (queue : QueueValue). queue.first) pushed ∙ c.loop-message.invariant.first;
      grown = omega (arith, ap queue_len pushed, len_pushed c.in-Some.message old, c.loop-message.invariant.grown);
      fresh = sym (ap (λ k. drop k whole) (ap queue_len pushed ∙ len_pushed c.in-Some.message old) ∙ next.2);
    }
