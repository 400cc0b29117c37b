use Rattle.std.proofs.Common.{◌∙◌, Some, ap, sym}
use Rattle.std.specs.Option.{option_copied, option_map}
use Rattle.ndc_event.specs.declared.key.BatchKey.{BatchKey}
use Rattle.ndc_model_sets.specs.Paths.{versions_of, events_to}
use Rattle.ndc_model_sets.proofs.SetLemmas.{found-key, found-has}
use Rattle.ndc_tree.proofs.tree.Tree.history_of.Goals as goal

pub items_to-requires-clause-has : goal.items_to-requires-clause-has
items_to-requires-clause-has c = found-has c.args.self.now.batches c.args.key c.in-Some.batch.now (sym c.get.ensures ∙ ap option_copied c.in-Some.is)

pub returns-in_ok-of-in-Some : goal.returns-in_ok-of-in-Some
returns-in_ok-of-in-Some c =
    let found = sym c.get.ensures ∙ ap option_copied c.in-Some.is in
    ap Some (c.in_ok-of-in-Some.ensures ∙ c.in_ok-items-in-Some.ensures.items
    ∙ ap (λ (k : BatchKey). versions_of (events_to k c.args.self.now.batches)) (found-key c.args.self.now.batches c.args.key c.in-Some.batch.now found))
    ∙ sym (ap (λ o. option_map (λ _. versions_of (events_to c.args.key c.args.self.now.batches)) o) found)
