use Rattle.std.proofs.Common.{◌∙◌, ap, sym}
use Rattle.std.specs.Option.{option_copied}
use Rattle.ndc_model_sets.specs.Sets.{batch_at}
use Rattle.ndc_tree.specs.Tree.{TreeValue}
use Rattle.ndc_shard_runs.proofs.IndexLemmas.{held, unheld, unplaced}
use Rattle.ndc_shard_runs.proofs.index.batch_of.Goals as goal

pub returns-in_err-run : goal.returns-in_err-run
returns-in_err-run c =
    ap option_copied c.from_residual.ensures ∙ sym (unplaced c.args.runs.now c.args.places.now c.args.key c.requires.places c.in_err-run.ensures)

pub returns-in_err-get : goal.returns-in_err-get
returns-in_err-get c =
    ap option_copied c.from_residual-in_err-get.ensures
    ∙ sym (unheld c.args.runs.now c.args.places.now c.args.key c.requires.places c.requires.sound c.requires.parts c.in_ok-run.run' c.in_ok-run.ensures c.in_err-get.ensures)

pub returns : goal.returns
returns c =
    c.get-3.ensures ∙ ap (λ (v : TreeValue). batch_at c.args.key v.batches) c.tree.ensures.tree
    ∙ held c.args.runs.now c.args.places.now c.args.key c.requires.places c.requires.sound c.requires.parts c.in_ok-run.run' c.in_ok-run.ensures c.in_ok-get.field-0.now c.in_ok-get.ensures
