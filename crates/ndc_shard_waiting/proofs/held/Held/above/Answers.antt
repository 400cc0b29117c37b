use Rattle.std.proofs.Common.{List, sym, ◌∙◌, ap, subst, Option}
use Rattle.std.specs.Option.{option_copied}
use Rattle.ndc_model_cells.specs.declared.message.Message.{Message}
use Rattle.ndc_event.specs.declared.key.BatchKey.{BatchKey}
use Rattle.ndc_model_sets.specs.Sets.{earlier}
use Rattle.ndc_shard_waiting.specs.Shortcuts.{GoesUp, LeadsUp}
use Rattle.ndc_model_cells.specs.Messages.{batches_of}
use Rattle.ndc_shard_waiting.proofs.ShortcutLemmas.{goes-earlier}
use Rattle.ndc_shard_waiting.proofs.held.Held.above.Goals as goal

pub returns-in-Some-clause-goes : goal.returns-in-Some-clause-goes
returns-in-Some-clause-goes c =
    subst (λ (l : List Message). LeadsUp (batches_of l) c.args.key c.in-Some.to) c.self.view_is (c.self.invariant.lead c.args.key c.in-Some.to (sym c.get.ensures ∙ c.in-Some.is))

pub returns-in_ok-get-in-None-clause-goes : goal.returns-in_ok-get-in-None-clause-goes
returns-in_ok-get-in-None-clause-goes c =
    subst (λ (o : Option BatchKey). GoesUp (batches_of c.args.self.now) c.args.key o) (sym c.earlier_key.ensures)
    (subst (λ (l : List Message). GoesUp (batches_of l) c.args.key (earlier c.in_ok-get-in-None.field-0.now)) c.self.view_is
    (goes-earlier c.self.inside.shelf c.args.key c.in_ok-get-in-None.field-0.now c.self.invariant.are (sym c.get-in-None.ensures ∙ ap option_copied c.in_ok-get-in-None.was)))
