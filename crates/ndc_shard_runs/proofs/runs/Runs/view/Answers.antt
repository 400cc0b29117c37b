use Rattle.std.proofs.Common.{map, ◌∙◌, ap, sym}
use Rattle.ndc_shard_runs.proofs.ViewLemmas.{view-is}
use Rattle.ndc_shard_runs.proofs.runs.Runs.view.Goals as goal

pub returns : goal.returns
returns g c =
    view-is c.args.self.now c.new.result c.new-2.result (sym c.is_empty.ensures ∙ c.if-is_empty.false)
    (c.new.ensures ∙ c.in_ok-copies.ensures ∙ ap (λ l. map (λ b. b.now) l) c.as_slice.ensures.value ∙ c.in_ok-batches.ensures.list)
    (c.new-2.ensures ∙ c.in_ok-runs.ensures)
