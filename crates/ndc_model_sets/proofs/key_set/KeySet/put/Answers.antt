use Rattle.std.proofs.Common.{◌∙◌, ap}
use Rattle.ndc_model_sets.specs.Keys.{with_key}
use Rattle.ndc_model_sets.proofs.KeyOrder.{key_cmp-by}
use Rattle.ndc_model_sets.proofs.KeySets.{insert_key-with}
use Rattle.ndc_model_sets.proofs.key_set.KeySet.put.Goals as goal

pub returns-clause-ok : goal.returns-clause-ok
returns-clause-ok c = c.in_ok-insert.ensures.keys ∙ insert_key-with _ key_cmp-by c.args.key c.self.inside.keys.keys ∙ ap (with_key c.args.key) c.self.view_is
