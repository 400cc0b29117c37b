use Rattle.std.proofs.Common.{◌∙◌, ◌++◌, ◌∷◌, [], List, ap, sym, subst, true, ◌≡◌}
use Rattle.ndc_history.specs.declared.item.Item.{Item}
use Rattle.ndc_history.specs.History.{rises}
use Rattle.ndc_tree.proofs.NotedLemmas.{if-ok}
use Rattle.ndc_tree.proofs.tree.Tree.items_to.Goals as goal

pub returns-in-Some-clause-rise : goal.returns-in-Some-clause-rise
returns-in-Some-clause-rise c =
    if-ok c.with_end.result
    (λ list same. subst (λ (l : List Item). rises l ≡ true) (sym (same ∙ ap (λ (x : Item). c.in-Some.front.now ++ x ∷ []) c.end_of.ensures)) c.in-Some.ensures.rise) c.with_end.ensures
