use Rattle.std.proofs.Common.{List, sym, ◌∙◌, subst}
use Rattle.ndc_event.specs.declared.key.BatchKey.{BatchKey}
use Rattle.ndc_shard_waiting.specs.declared.links.Link.{Link}
use Rattle.ndc_shard_waiting.proofs.LinkLemmas.{Wakes, link_cmp-by, wakes-start, wakes-more, wakes-last, wakes-all, other-key, same-key}
use Rattle.ndc_shard_waiting.proofs.links.Links.wake.Goals as goal

pub loop-link-init : goal.loop-link-init
loop-link-init c =
    subst (λ (l : List Link). Wakes c.args.earlier l c.args.todo.now c.args.todo.now c.into_iter-link-iterator.result) c.self.view_is
    (wakes-start _ link_cmp-by c.args.earlier c.self.inside.set.keys c.args.todo.now c.into_iter-link-iterator.result c.range-link-items.ensures.ordered
    (c.into_iter-link-iterator.ensures.into_iter_gives ∙ c.range-link-items.ensures.between tt))

pub returns-then-ne : goal.returns-then-ne
returns-then-ne c =
    wakes-last c.args.earlier c.args.self.now c.args.todo.now c.loop-link.todo c.in-Some.link.now c.next.new.self
    (other-key c.in-Some.link.now.earlier c.args.earlier (sym c.ne.ensures ∙ c.if-ne.true))
    (subst (λ (l : List Link). Wakes c.args.earlier c.args.self.now c.args.todo.now c.loop-link.todo l) c.in-Some.ensures.steps c.loop-link.invariant)

pub loop-link-preserved : goal.loop-link-preserved
loop-link-preserved c =
    subst (λ (l : List BatchKey). Wakes c.args.earlier c.args.self.now c.args.todo.now l c.next.new.self) (sym c.in_ok-put.ensures.ok)
    (wakes-more c.args.earlier c.args.self.now c.args.todo.now c.loop-link.todo c.in-Some.link.now c.next.new.self
    (same-key c.in-Some.link.now.earlier c.args.earlier (sym c.ne.ensures ∙ c.if-ne.false))
    (subst (λ (l : List Link). Wakes c.args.earlier c.args.self.now c.args.todo.now c.loop-link.todo l) c.in-Some.ensures.steps c.loop-link.invariant))

pub returns : goal.returns
returns c =
    wakes-all c.args.earlier c.args.self.now c.args.todo.now c.loop-link.todo c.loop-link.link-iterator c.in-None.ensures.steps.0 c.loop-link.invariant
