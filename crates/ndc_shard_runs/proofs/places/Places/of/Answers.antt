use Rattle.std.proofs.Common.{[], List, map, ◌∙◌, ap, sym}
use Rattle.std.proofs.lemmas.List.{drop_all}
use Rattle.ndc_event.specs.declared.batch.Batch.{Batch}
use Rattle.ndc_shard_runs.specs.Places.{all_placed}
use Rattle.ndc_shard_runs.proofs.IndexLemmas.{all-placed, before-all}
use Rattle.ndc_shard_runs.proofs.places.Places.of.Goals as goal

pub returns : goal.returns
returns c =
    let items = c.as_slice-batch-items.result.now in
    let all = ap (λ l. map (λ b. b.now) l) c.as_slice-batch-items.ensures.value ∙ c.in_ok-batches.ensures in
    sym (ap (λ l. all_placed c.loop-batch.places (map (λ b. b.now) l)) (drop_all c.loop-batch.batch-index items c.loop-batch-test.false))
    ∙ c.loop-batch.invariant ∙ ap (λ (l : List Batch). all_placed [] l) all
    ∙ all-placed [] c.args.tree.now.batches (before-all c.args.tree.now.batches) c.requires
