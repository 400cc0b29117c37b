use Rattle.std.proofs.Common.{◌+◌, ◌∷◌, sym, ◌∙◌, ap, drop, arith}
use Rattle.std.proofs.lemmas.List.{drop_more}
use Rattle.ndc_model_cells.specs.declared.message.Message.{Message}
use Rattle.ndc_shard_waiting.proofs.ShortcutLemmas.{leaving-more}
use Rattle.ndc_shard_waiting.proofs.held.forget_all.Goals as goal

pub loop-sent-preserved : goal.loop-sent-preserved
loop-sent-preserved c =
    leaving-more c.args.shortcuts.now c.loop-sent.shortcuts c.forget.new.shortcuts c.sent-item.result (drop (c.loop-sent.sent-index + 1) c.args.messages.now) (drop c.loop-sent.sent-index c.args.messages.now)
    c.args.messages.now
    (drop_more c.args.messages.now c.loop-sent.sent-index c.sent-item.result (omega arith) ∙ ap (λ (m : Message). m ∷ drop (c.loop-sent.sent-index + 1) c.args.messages.now) (sym c.sent-item.is))
    c.loop-sent.invariant c.forget.ensures
