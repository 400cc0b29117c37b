use Rattle.std.proofs.Common.{◌+◌, ◌∷◌, sym, ◌∙◌, ap, drop, Option, arith}
use Rattle.std.specs.Option.{option_copied}
use Rattle.std.proofs.lemmas.List.{drop_more}
use Rattle.ndc_model_cells.specs.declared.message.Message.{Message}
use Rattle.ndc_model_cells.specs.Laws.{arrived_second}
use Rattle.ndc_event.specs.declared.batch.Batch.{Batch}
use Rattle.ndc_model_sets.specs.Sets.{arrived}
use Rattle.ndc_shard_workflows.proofs.LearnableLemmas.{one-can, one-more}
use Rattle.ndc_shard_workflows.proofs.learning.learn_all.Goals as goal

pub learn-requires : goal.learn-requires
learn-requires g c =
    one-can c.loop-sent.runs c.sent-item.result (drop (c.loop-sent.sent-index + 1) c.args.messages.now) (drop c.loop-sent.sent-index c.args.messages.now) (option_copied c.as_ref.result)
    (drop_more c.args.messages.now c.loop-sent.sent-index c.sent-item.result (omega arith) ∙ ap (λ (m : Message). m ∷ drop (c.loop-sent.sent-index + 1) c.args.messages.now) (sym c.sent-item.is))
    c.loop-sent.invariant.0 c.as_ref.ensures

pub loop-sent-preserved : goal.loop-sent-preserved
loop-sent-preserved g c =
    one-more c.loop-sent.runs c.learn.new.runs c.args.runs.now c.sent-item.result (drop (c.loop-sent.sent-index + 1) c.args.messages.now) (drop c.loop-sent.sent-index c.args.messages.now) c.args.messages.now
    (drop_more c.args.messages.now c.loop-sent.sent-index c.sent-item.result (omega arith) ∙ ap (λ (m : Message). m ∷ drop (c.loop-sent.sent-index + 1) c.args.messages.now) (sym c.sent-item.is))
    c.loop-sent.invariant.0 c.loop-sent.invariant.1
    (c.in_ok-learn.ensures.ok ∙ ap (λ (o : Option Batch). arrived_second o (arrived c.sent-item.result.batch c.loop-sent.runs)) c.as_ref.ensures)
