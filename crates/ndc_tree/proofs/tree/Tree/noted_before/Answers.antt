use Rattle.std.proofs.Common.{◌≡◌, ◌∙◌, ◌++◌, ◌∷◌, [], Some, Option, List, ap, sym, subst, true}
use Rattle.std.specs.Option.{option_copied}
use Rattle.ndc_history.specs.declared.item.Item.{Item}
use Rattle.ndc_history.specs.History.{rises}
use Rattle.ndc_tree.specs.Inserting.{end_of}
use Rattle.ndc_tree.specs.Noted.{IsNoted}
use Rattle.ndc_tree.specs.Tree.{TreeValue, IsTree}
use Rattle.ndc_tree.proofs.NotedLemmas.{noted_before}
use Rattle.ndc_tree.proofs.ReadingLemmas.{items-rise}
use Rattle.ndc_tree.proofs.VersionLemmas.{elder-step}
use Rattle.ndc_model_sets.specs.Reading.{items_of}
use Rattle.ndc_event.specs.declared.batch.Batch.{Batch}
use Rattle.ndc_tree.proofs.tree.Tree.noted_before.Goals as goal

pub returns-clause-items : goal.returns-clause-items
returns-clause-items c =
    let v = c.args.self.now in
    let b = c.args.batch.now in
    let tree = subst (λ (t : TreeValue). IsTree t.run t.batches) c.self.view_is c.self.invariant.0 in
    let noted = subst (λ (t : TreeValue). IsNoted t.batches c.self.inside.noted_to c.self.inside.noted.items) c.self.view_is c.self.invariant.1.1 in
    noted_before v.run v.batches b c.in-Some.elder.now c.self.inside.noted_to c.self.inside.noted.items tree noted c.requires (sym c.elder.ensures ∙ ap option_copied c.in-Some.is)
    (sym c.is_key.ensures ∙ c.if-not-is_key.false)
    ∙ ap (λ (l : List Item). l ++ end_of (Some b) ∷ []) (sym c.as_slice.ensures.value)

pub returns-in_default-clause-items : goal.returns-in_default-clause-items
returns-in_default-clause-items c =
    let v = c.args.self.now in
    let b = c.args.batch.now in
    let tree = subst (λ (t : TreeValue). IsTree t.run t.batches) c.self.view_is c.self.invariant.0 in
    elder-step v.run v.batches tree b c.requires
    ∙ ap (λ (o : Option Batch). items_of o v.batches ++ end_of (Some b) ∷ []) (sym c.elder.ensures ∙ ap option_copied c.in_default.is)

pub returns-clause-rise : goal.returns-clause-rise
returns-clause-rise c =
    let v = c.args.self.now in
    let tree = subst (λ (t : TreeValue). IsTree t.run t.batches) c.self.view_is c.self.invariant.0 in
    subst (λ (l : List Item). rises l ≡ true) (returns-clause-items c) (items-rise v.run v.batches c.args.batch.now tree c.requires)

pub returns-in_default-clause-rise : goal.returns-in_default-clause-rise
returns-in_default-clause-rise c =
    let v = c.args.self.now in
    let tree = subst (λ (t : TreeValue). IsTree t.run t.batches) c.self.view_is c.self.invariant.0 in
    subst (λ (l : List Item). rises l ≡ true) (returns-in_default-clause-items c) (items-rise v.run v.batches c.args.batch.now tree c.requires)
