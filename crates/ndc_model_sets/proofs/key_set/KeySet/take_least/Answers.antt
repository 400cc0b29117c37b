use Rattle.ndc_model_sets.proofs.KeyOrder.{key_cmp-by}
use Rattle.ndc_model_sets.proofs.KeySets.{least-of}
use Rattle.ndc_model_sets.proofs.key_set.KeySet.take_least.Goals as goal

pub returns-clause-least : goal.returns-clause-least
returns-clause-least c = least-of _ key_cmp-by c.pop_first.result c.pop_first.new.self.keys c.pop_first.ensures.all_above
