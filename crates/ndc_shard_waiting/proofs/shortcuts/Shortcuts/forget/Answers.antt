use Rattle.std.proofs.Common.{None, ◌∙◌, ap, cond}
use Rattle.ndc_event.specs.Key.{key_eq}
use Rattle.ndc_model_sets.proofs.KeyOrder.{key_cmp-by}
use Rattle.ndc_shard_waiting.specs.Shortcuts.{shortcut_at}
use Rattle.ndc_shard_waiting.proofs.ShortcutLemmas.{shortcut-changed}
use Rattle.ndc_shard_waiting.proofs.shortcuts.Shortcuts.forget.Goals as goal

pub returns : goal.returns
returns c one =
    shortcut-changed _ key_cmp-by c.args.key None c.self.inside.map.entries c.remove.new.self.entries c.remove.ensures.updates.0 one
    ∙ ap (λ l. cond (key_eq c.args.key one) None (shortcut_at one l)) c.self.view_is
