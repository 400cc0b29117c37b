use Rattle.ndc_world_replication.proofs.BroughtLemmas.{keys-more}
use Rattle.ndc_world_replication.proofs.brought.add_one.Goals as goal

pub returns-clause-keys : goal.returns-clause-keys
returns-clause-keys c = keys-more c.args.messages.now.items c.push.new.self.items c.args.message c.args.keys.now c.put_keys.new.keys c.in_ok-push.ensures.items c.in_ok-put_keys.ensures
