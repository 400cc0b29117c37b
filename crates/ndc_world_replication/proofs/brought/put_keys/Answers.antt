use Rattle.std.proofs.Common.{sym, ◌∙◌, ap}
use Rattle.std.specs.Option.{option_copied}
use Rattle.ndc_world_replication.proofs.BroughtLemmas.{keys-both, keys-lone}
use Rattle.ndc_world_replication.proofs.brought.put_keys.Goals as goal

pub returns-in_ok-put-2 : goal.returns-in_ok-put-2
returns-in_ok-put-2 c =
    keys-both c.args.message.now.batch c.in-Some.second.now c.args.message.now.second c.args.keys.now c.put.new.self c.put-in-Some.new.self (sym c.as_ref.ensures ∙ ap option_copied c.in-Some.is) c.in_ok-put.ensures.ok c.in_ok-put-2.ensures.ok

pub returns-in_default : goal.returns-in_default
returns-in_default c = keys-lone c.args.message.now.batch c.args.message.now.second c.args.keys.now c.put.new.self (sym c.as_ref.ensures ∙ ap option_copied c.in_default.is) c.in_ok-put.ensures.ok
