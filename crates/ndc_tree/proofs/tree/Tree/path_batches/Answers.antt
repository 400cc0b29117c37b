use Rattle.std.proofs.Common.{◌∙◌, Some, ap, sym}
use Rattle.std.specs.Option.{option_copied, option_map}
use Rattle.ndc_event.specs.declared.key.BatchKey.{BatchKey}
use Rattle.ndc_model_sets.specs.Paths.{path_to}
use Rattle.ndc_model_sets.proofs.SetLemmas.{found-key, found-has}
use Rattle.ndc_tree.proofs.tree.Tree.path_batches.Goals as goal

pub ancestors-requires : goal.ancestors-requires
ancestors-requires c = found-has c.args.self.now.batches c.args.key c.in-Some.batch.now (sym c.get.ensures ∙ ap option_copied c.in-Some.is)

pub returns-in_ok-ancestors-in-Some : goal.returns-in_ok-ancestors-in-Some
returns-in_ok-ancestors-in-Some c =
    let found = sym c.get.ensures ∙ ap option_copied c.in-Some.is in
    ap Some (c.in_ok-ancestors-in-Some.ensures ∙ ap (λ (k : BatchKey). path_to k c.args.self.now.batches) (found-key c.args.self.now.batches c.args.key c.in-Some.batch.now found))
    ∙ sym (ap (λ o. option_map (λ _. path_to c.args.key c.args.self.now.batches) o) found)
