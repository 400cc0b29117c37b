use Rattle.std.proofs.Common.{List, ◌∙◌, ap}
use Rattle.std.specs.List.{flat_map}
use Rattle.ndc_model.specs.Steps.{seen_of}
use Rattle.ndc_world_replication.specs.Dones.{notes_in}
use Rattle.ndc_world_replication.specs.declared.working.Done.{Done}
use Rattle.ndc_world_steps.specs.Telling.{tally_of}
use Rattle.ndc_world_steps.proofs.AskLemmas.{worked_is}
use Rattle.ndc_world_steps.proofs.moving.work.Goals as goal

pub returns : goal.returns
returns g c =
    worked_is c.args.header.now c.args.cluster c.args.replication.now c.work.new.self c.in_ok-arrived.field-0.arrived c.in_ok-arrived.field-0.reapplied c.in_ok-tally.field-0.tally c.in_ok-answer.answer
    c.in_ok-tally.field-0.seen.items c.in_ok-arrived.ensures.worked c.in_ok-arrived.ensures.notes
    (c.in_ok-tally.ensures.tally ∙ ap (λ (l : List Done). tally_of (flat_map notes_in l)) c.in_ok-dones.ensures)
    (c.in_ok-tally.ensures.seen ∙ ap (λ (l : List Done). seen_of (flat_map notes_in l)) c.in_ok-dones.ensures) c.in_ok-answer.ensures
