use Rattle.std.proofs.Common.{List, [], ◌∷◌, ◌++◌, ◌∙◌, ap, refl, sym}
use Rattle.std.proofs.lemmas.List.{append-nil}
use Rattle.ndc_index.specs.declared.seen.Seen.{Seen}
use Rattle.ndc_model.specs.Steps.{seen_at}
use Rattle.ndc_world_steps.proofs.AskLemmas.{asked_is}
use Rattle.ndc_world_steps.proofs.writing.ask.Goals as goal

pub returns : goal.returns
returns g c =
    asked_is c.args.header.now c.args.cluster c.args.asked c.args.replication.now c.do_one.new.self c.in_ok-answer.answer c.add_reply.new.seen.items (c.args.asked ∷ []) (c.in_ok-reply.reply ∷ []) refl
    c.in_ok-reply.ensures.done c.in_ok-reply.ensures.reply c.in_ok-answer.ensures
    (c.in_ok-add_reply.ensures ∙ ap (λ (l : List Seen). l ++ seen_at c.args.cluster c.in_ok-reply.reply.learned) c.new-seen.ensures.items
    ∙ sym (append-nil (seen_at c.args.cluster c.in_ok-reply.reply.learned)))
