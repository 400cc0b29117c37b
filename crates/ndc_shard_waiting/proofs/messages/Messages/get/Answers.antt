use Rattle.std.proofs.Common.{◌∙◌, ap}
use Rattle.ndc_model_sets.proofs.KeyOrder.{key_cmp-by}
use Rattle.ndc_shard_waiting.specs.Finding.{message_at}
use Rattle.ndc_shard_waiting.proofs.MapLemmas.{found}
use Rattle.ndc_shard_waiting.proofs.messages.Messages.get.Goals as goal

pub returns : goal.returns
returns c = c.get.ensures.value ∙ found _ key_cmp-by c.args.key c.self.inside.map.entries c.self.invariant ∙ ap (message_at c.args.key) c.self.view_is
