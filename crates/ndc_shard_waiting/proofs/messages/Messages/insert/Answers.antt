use Rattle.std.proofs.Common.{◌≡◌, None, ◌∙◌, ap, sym, subst, List}
use Rattle.ndc_model_cells.specs.declared.message.Message.{Message}
use Rattle.ndc_model_sets.proofs.KeyOrder.{key_cmp-by}
use Rattle.ndc_shard_waiting.specs.Finding.{message_at}
use Rattle.ndc_shard_waiting.specs.Waiting.{put_off}
use Rattle.ndc_shard_waiting.proofs.MapLemmas.{inserted}
use Rattle.ndc_shard_waiting.proofs.messages.Messages.insert.Goals as goal

pub invariant_of-self-2 : goal.invariant_of-self-2
invariant_of-self-2 c =
    (inserted _ key_cmp-by c.args.message c.self.inside.map.entries c.insert.new.self.entries c.self.invariant
    (subst (λ (l : List Message). message_at c.args.message.batch.key l ≡ None) (sym c.self.view_is) c.requires) c.in_ok-insert.ensures.entries).1

pub returns-clause-ok : goal.returns-clause-ok
returns-clause-ok c =
    (inserted _ key_cmp-by c.args.message c.self.inside.map.entries c.insert.new.self.entries c.self.invariant
    (subst (λ (l : List Message). message_at c.args.message.batch.key l ≡ None) (sym c.self.view_is) c.requires) c.in_ok-insert.ensures.entries).0
    ∙ ap (put_off c.args.message) c.self.view_is
