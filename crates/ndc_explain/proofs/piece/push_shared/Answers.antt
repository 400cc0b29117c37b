use Rattle.std.proofs.Common.{List, ℕ, ◌++◌, codes, ap, sym, ◌∙◌, append_assoc}
use Rattle.ndc_text.specs.Views.{item_text}
use Rattle.ndc_explain.specs.Pieces.{shared_text}
use Rattle.ndc_explain.proofs.piece.push_shared.Goals as goal

pub returns-in_ok-push_item-in-Some : goal.returns-in_ok-push_item-in-Some
returns-in_ok-push_item-in-Some c =
    let old = c.args.text.now.items in
    let item = item_text c.in-Some.item in
    c.in_ok-push_item-in-Some.ensures ∙ ap (λ (z : List ℕ). z ++ item) c.in_ok-extend_from_slice-in-Some.ensures.items
    ∙ append_assoc old (codes "the last event that both share is ") item
    ∙ sym (ap (λ shared. old ++ shared_text shared) c.in-Some.is)
