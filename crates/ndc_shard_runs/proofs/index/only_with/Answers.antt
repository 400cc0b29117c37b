use Rattle.std.proofs.Common.{◌∙◌}
use Rattle.ndc_shard_runs.proofs.IndexLemmas.{one-with}
use Rattle.ndc_shard_runs.proofs.index.only_with.Goals as goal

pub returns : goal.returns
returns c =
    let only = c.in_ok-only_tree.ensures in
    c.first.ensures ∙ one-with c.args.runs.now c.requires c.in_ok-only_tree.field-0.now c.args.key c.in_ok-get.field-0.now only.first only.all only.tree c.in_ok-get.ensures
