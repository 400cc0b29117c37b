use Rattle.std.proofs.Common.{◌≡◌, ◌++◌, reverse, ◌∷◌, [], ◌∙◌, Some, List, ap, sym, subst, true}
use Rattle.std.specs.Option.{option_copied}
use Rattle.ndc_history.specs.declared.item.Item.{Item}
use Rattle.ndc_history.specs.History.{rises}
use Rattle.ndc_model_sets.specs.Reading.{items_of}
use Rattle.ndc_tree.specs.Tree.{TreeValue, IsTree}
use Rattle.ndc_tree.proofs.ReadingLemmas.{items-walk, items-less, items-rise, none-of}
use Rattle.ndc_tree.proofs.tree.Tree.items_by_walk.Goals as goal

pub loop-next-smaller : goal.loop-next-smaller
loop-next-smaller c =
    let v = c.args.self.now in
    items-less v.run v.batches c.in-Some.one.now (option_copied c.loop-next.next) (option_copied c.elder-next.result) c.loop-next.items.items (items_of (Some c.args.batch.now) v.batches)
    (subst (λ (t : TreeValue). IsTree t.run t.batches) c.self.view_is c.self.invariant.0) (ap option_copied c.in-Some.is) c.loop-next.invariant c.elder-next.ensures

pub loop-next-preserved : goal.loop-next-preserved
loop-next-preserved c =
    let v = c.args.self.now in
    items-walk v.run v.batches c.in-Some.one.now (option_copied c.loop-next.next) (option_copied c.elder-next.result) c.loop-next.items.items c.push.new.self.items
    (items_of (Some c.args.batch.now) v.batches)
    (subst (λ (t : TreeValue). IsTree t.run t.batches) c.self.view_is c.self.invariant.0) (ap option_copied c.in-Some.is) c.loop-next.invariant c.elder-next.ensures
    (c.in_ok-push.ensures.items ∙ ap (λ x. c.loop-next.items.items ++ x ∷ []) c.end_of.ensures)

pub returns-clause-rise : goal.returns-clause-rise
returns-clause-rise c =
    let v = c.args.self.now in
    subst (λ (l : List Item). rises l ≡ true) (sym (c.reverse.ensures.items ∙ sym (ap (λ o. items_of (option_copied o) v.batches ++ reverse c.loop-next.items.items) (none-of c.loop-next.next c.in_default.not-Some)) ∙ c.loop-next.invariant.rest))
    (items-rise v.run v.batches c.args.batch.now (subst (λ (t : TreeValue). IsTree t.run t.batches) c.self.view_is c.self.invariant.0) c.requires)
