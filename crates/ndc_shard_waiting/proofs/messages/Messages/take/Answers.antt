use Rattle.std.proofs.Common.{◌∙◌, ap}
use Rattle.ndc_model_sets.proofs.KeyOrder.{key_cmp-by}
use Rattle.ndc_shard_waiting.specs.Finding.{message_at, without_message}
use Rattle.ndc_shard_waiting.proofs.MapLemmas.{found, removed}
use Rattle.ndc_shard_waiting.proofs.messages.Messages.take.Goals as goal

pub invariant_of-self : goal.invariant_of-self
invariant_of-self c = (removed _ key_cmp-by c.args.key c.self.inside.map.entries c.remove.new.self.entries c.self.invariant c.remove.ensures.entries).1

pub returns-clause-taken : goal.returns-clause-taken
returns-clause-taken c = c.remove.ensures.value ∙ found _ key_cmp-by c.args.key c.self.inside.map.entries c.self.invariant ∙ ap (message_at c.args.key) c.self.view_is

pub returns-clause-rest : goal.returns-clause-rest
returns-clause-rest c =
    (removed _ key_cmp-by c.args.key c.self.inside.map.entries c.remove.new.self.entries c.self.invariant c.remove.ensures.entries).0
    ∙ ap (without_message c.args.key) c.self.view_is
