use Rattle.std.proofs.Common.{ap, ◌∙◌, List, map, ◌++◌, [], ◌∷◌}
use Rattle.std.specs.Option.{unwrap_or}
use Rattle.std.proofs.lemmas.List.{map-append}
use Rattle.ndc_event.specs.declared.key.RunId.{RunId}
use Rattle.ndc_event.specs.declared.batch.Batch.{Batch}
use Rattle.ndc_dump.specs.Groups.{listed}
use Rattle.ndc_shard_runs.specs.RunMap.{part_of}
use Rattle.ndc_dump.proofs.Grouping.{put-behind}
use Rattle.ndc_dump.proofs.run_batches.RunBatches.push.Goals as goal

pub returns : goal.returns
returns c = λ run.
    put-behind (λ list. map (λ b. b.now) list.items) c.args.batch.now c.new.result c.push.new.self c.self.inside.lists.entries c.swap_remove-found.new.self.entries c.insert.new.self.entries
    (ap (map (λ b. b.now)) c.new.ensures.items)
    (ap (map (λ b. b.now)) c.in_ok-push.ensures.items ∙ map-append (λ b. b.now) c.unwrap_or-list.result.items (c.args.batch ∷ [])
    ∙ ap (λ list. map (λ b. b.now) list.items ++ c.args.batch.now ∷ []) (c.unwrap_or-list.ensures ∙ ap (λ o. unwrap_or o c.new.result) c.swap_remove-found.ensures.value))
    c.swap_remove-found.ensures.updates.0 c.in_ok-insert.ensures.updates.0 run
    ∙ ap (λ (lists : List (RunId × List Batch)). listed run lists ++ part_of run (c.args.batch.now ∷ [])) c.self.view_is
