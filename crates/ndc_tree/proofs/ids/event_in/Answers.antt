use Rattle.std.proofs.Common.{◌<◌, ◌≤◌, ◌-◌, slice_get, ◌∙◌, sym, ap, subst}
use Rattle.ndc_tree.proofs.IdLemmas.{looked-up, none-below, there-at}
use Rattle.ndc_tree.proofs.ids.event_in.Goals as goal

pub returns-then-id-first : goal.returns-then-id-first
returns-then-id-first c = sym (none-below c.args.id c.args.events.now c.requires (subst (λ n. c.args.id < n) c.first_id-first.ensures c.if-id-first.true))

pub returns : goal.returns
returns c =
    looked-up c.args.events.now (c.args.id - c.first_id-first.result) c.get.result c.get.ensures.lookup.0 c.get.ensures.lookup.1 ∙ ap (λ n. slice_get c.args.events.now (c.args.id - n)) c.first_id-first.ensures
    ∙ sym (there-at c.args.id c.args.events.now c.requires (subst (λ n. n ≤ c.args.id) c.first_id-first.ensures c.if-id-first.false))
