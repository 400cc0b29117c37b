use Rattle.std.proofs.Common.{Some, ◌∙◌, ap, cond}
use Rattle.ndc_event.specs.Key.{key_eq}
use Rattle.ndc_model_sets.proofs.KeyOrder.{key_cmp-by}
use Rattle.ndc_shard_waiting.specs.Shortcuts.{shortcut_at}
use Rattle.ndc_shard_waiting.proofs.ShortcutLemmas.{shortcut-changed}
use Rattle.ndc_shard_waiting.proofs.shortcuts.Shortcuts.set.Goals as goal

pub returns-clause-ok : goal.returns-clause-ok
returns-clause-ok c one =
    shortcut-changed _ key_cmp-by c.args.key (Some c.args.to) c.self.inside.map.entries c.insert.new.self.entries c.in_ok-insert.ensures.updates.0 one
    ∙ ap (λ l. cond (key_eq c.args.key one) (Some c.args.to) (shortcut_at one l)) c.self.view_is
