use Rattle.std.proofs.Common.{◌≡◌, ◌||◌, ◌∷◌, ◌∙◌, ap}
use Rattle.std.specs.Prelude.{option_to_list}
use Rattle.std.specs.Option.{option_copied}
use Rattle.ndc_event.specs.declared.key.BatchKey.{BatchKey}
use Rattle.ndc_model_sets.specs.Keys.{is_key_among}
use Rattle.ndc_shard_waiting.specs.Linking.{is_woken}
use Rattle.ndc_shard_waiting.proofs.WaiterLemmas.{least-woken, none-woken}
use Rattle.ndc_shard_waiting.proofs.shelf.Shelf.first_waiter.Goals as goal

pub returns-clause-some : goal.returns-clause-some
returns-clause-some c =
    least-woken (c.args.batch.now ∷ option_to_list (option_copied c.args.second)) c.wake.new.todo c.take_least.new.self c.args.self.now
    (λ one. c.in_ok-wake.ensures.woken one ∙ ap (λ l. is_key_among one l || is_woken (c.args.batch.now ∷ option_to_list (option_copied c.args.second)) one c.args.self.now) c.new-woken.ensures)
    c.take_least.result c.take_least.ensures.taken

pub returns-clause-none : goal.returns-clause-none
returns-clause-none c =
    none-woken (c.args.batch.now ∷ option_to_list (option_copied c.args.second)) c.wake.new.todo c.take_least.new.self c.args.self.now
    (λ one. c.in_ok-wake.ensures.woken one ∙ ap (λ l. is_key_among one l || is_woken (c.args.batch.now ∷ option_to_list (option_copied c.args.second)) one c.args.self.now) c.new-woken.ensures)
    c.take_least.result c.take_least.ensures.taken
