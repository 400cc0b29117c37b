use Rattle.std.proofs.Common.{◌∙◌, ap, sym, subst, refl}
use Rattle.std.specs.Option.{option_copied}
use Rattle.ndc_model_sets.specs.Last.{last_batch}
use Rattle.ndc_model_sets.specs.Sets.{Has}
use Rattle.ndc_tree.specs.Tree.{TreeValue, IsTree}
use Rattle.ndc_tree.proofs.LastLemmas.{last-has}
use Rattle.ndc_tree.proofs.NotedLemmas.{elder_there, noted_now}
use Rattle.ndc_tree.proofs.tree.Tree.items_before_last.Goals as goal

pub items_to-requires-clause-has : goal.items_to-requires-clause-has
items_to-requires-clause-has c =
    let v = c.args.self.now in
    let tree = subst (λ (t : TreeValue). IsTree t.run t.batches) c.self.view_is c.self.invariant.0 in
    let last : Has v.batches c.in_ok-last.last.now =
    last-has v.run v.batches tree c.in_ok-last.last.now (ap (λ (t : TreeValue). last_batch t.batches) (sym c.self.view_is) ∙ sym c.last.ensures ∙ ap option_copied c.in_ok-last.was) in
    elder_there v.run v.batches c.in_ok-last.last.now c.in_ok-elder.elder.now tree last (sym c.elder.ensures ∙ ap option_copied c.in_ok-elder.was)

pub returns-in-Ok : goal.returns-in-Ok
returns-in-Ok c =
    let v = c.args.self.now in
    let tree = subst (λ (t : TreeValue). IsTree t.run t.batches) c.self.view_is c.self.invariant.0 in
    let last : Has v.batches c.in_ok-last.last.now =
    last-has v.run v.batches tree c.in_ok-last.last.now (ap (λ (t : TreeValue). last_batch t.batches) (sym c.self.view_is) ∙ sym c.last.ensures ∙ ap option_copied c.in_ok-last.was) in
    let has = elder_there v.run v.batches c.in_ok-last.last.now c.in_ok-elder.elder.now tree last (sym c.elder.ensures ∙ ap option_copied c.in_ok-elder.was) in
    noted_now v.batches c.in_ok-elder.elder.now c.in_ok-elder.elder.now.key c.in-Ok.items.items has refl c.in-Ok.ensures.items
