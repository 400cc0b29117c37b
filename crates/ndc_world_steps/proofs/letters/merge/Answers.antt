use Rattle.std.proofs.Common.{List, [], ◌∷◌, ◌++◌, ap, ◌∙◌}
use Rattle.std.specs.List.{flat_map}
use Rattle.ndc_model.specs.Allowed.{letter_jobs}
use Rattle.ndc_model.specs.Steps.{seen_of}
use Rattle.ndc_world_replication.specs.Dones.{notes_in}
use Rattle.ndc_world_replication.specs.declared.working.Done.{Done}
use Rattle.ndc_world_steps.specs.Telling.{tally_of}
use Rattle.ndc_world_steps.proofs.MergeLemmas.{merged_is, merged_orderly}
use Rattle.ndc_world_steps.proofs.letters.merge.Goals as goal

pub renew-requires-clause-orderly : goal.renew-requires-clause-orderly
renew-requires-clause-orderly g c =
    merged_orderly c.args.header.now c.args.replication.now c.serve.new.replication c.args.reader (letter_jobs c.args.header.now c.args.reader c.args.replication.now) c.requires.orderly c.requires.reader c.in_ok-done.ensures.world

pub returns : goal.returns
returns g c =
    merged_is c.args.header.now c.args.reader c.args.replication.now c.serve.new.replication c.renew.new.self c.in_ok-done.done c.in_ok-tally.field-0.tally c.in_ok-answer.answer c.in_ok-tally.field-0.seen.items
    c.in_ok-done.ensures.world c.renew.ensures c.in_ok-done.ensures.notes
    (c.in_ok-tally.ensures.tally ∙ ap (λ (l : List Done). tally_of (flat_map notes_in l)) (c.in_ok-push.ensures.items ∙ ap (λ (l : List Done). l ++ c.in_ok-done.done ∷ []) c.new-dones.ensures.items))
    (c.in_ok-tally.ensures.seen ∙ ap (λ (l : List Done). seen_of (flat_map notes_in l)) (c.in_ok-push.ensures.items ∙ ap (λ (l : List Done). l ++ c.in_ok-done.done ∷ []) c.new-dones.ensures.items))
    c.in_ok-answer.ensures
