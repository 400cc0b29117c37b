use Rattle.std.proofs.Common.{sym, ◌∙◌, ◌||◌, ap}
use Rattle.ndc_model_sets.specs.Keys.{is_key_among}
use Rattle.ndc_model_sets.specs.Paths.{is_wanted}
use Rattle.ndc_model_sets.proofs.KeyOrder.{key_cmp-by}
use Rattle.ndc_shard.proofs.BranchLemmas.{parent-added}
use Rattle.ndc_shard.proofs.histories.add_parent.Goals as goal

pub returns-in_ok-insert : goal.returns-in_ok-insert
returns-in_ok-insert c b =
    parent-added _ key_cmp-by c.in-Some.parent c.args.parents.now.keys c.insert.new.self.keys c.in_ok-insert.ensures.updates.0 b
    ∙ ap (λ o. is_key_among b.key c.args.parents.now.keys || is_wanted o b) (sym c.in-Some.is)
