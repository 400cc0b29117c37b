use Rattle.std.proofs.Common.{◌∙◌, ap}
use Rattle.ndc_model_sets.specs.Keys.{is_key_among}
use Rattle.ndc_model_sets.proofs.KeyOrder.{key_cmp-by}
use Rattle.ndc_model_sets.proofs.KeySets.{any-at}
use Rattle.ndc_model_sets.proofs.key_set.KeySet.has.Goals as goal

pub returns : goal.returns
returns c = c.contains.ensures ∙ any-at _ key_cmp-by c.args.key c.self.inside.keys.keys ∙ ap (is_key_among c.args.key) c.self.view_is
