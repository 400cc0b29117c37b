use Rattle.std.proofs.Common.{◌≡◌, [], ◌∷◌, None, ◌∙◌, ap, sym}
use Rattle.ndc_tree.specs.Events.{event_of}
use Rattle.ndc_shard_runs.specs.Copies.{event_of as event_at_of}
use Rattle.ndc_shard_runs.proofs.CopyLemmas.{own-apart, own-at}
use Rattle.ndc_shard_runs.proofs.copies.own_event.Goals.{then-batch-origin-via-then-batch-origin, then-batch-origin-via-else-batch-origin+then-batch-origin-2}
use Rattle.ndc_shard_runs.proofs.copies.own_event.Goals as goal

pub returns-then-batch-origin : goal.returns-then-batch-origin
returns-then-batch-origin c =
    sym (elim c.then-batch-origin.branch as (λ _. event_at_of c.args.origin.now (c.args.batch.now ∷ []) ≡ None) [
      | then-batch-origin-via-then-batch-origin w ↦ own-apart c.args.batch.now c.args.origin.now c.requires (λ run version. absurd (w.if-batch-origin.true run))
      | then-batch-origin-via-else-batch-origin+then-batch-origin-2 w ↦ own-apart c.args.batch.now c.args.origin.now c.requires (λ run version. absurd (w.if-batch-origin-2.true version))
    ])

pub returns : goal.returns
returns c =
    c.event_in.ensures ∙ ap (event_of c.args.origin.now.event) c.as_slice.ensures
    ∙ own-at c.args.batch.now c.args.origin.now c.requires c.if-batch-origin.false c.if-batch-origin-2.false
