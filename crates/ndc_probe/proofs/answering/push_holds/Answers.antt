use Rattle.std.proofs.Common.{◌≡◌, Some, append_assoc, ap, length, slice_get, sym, ◌∙◌}
use Rattle.ndc_cluster.specs.Clusters.{ClusterValue}
use Rattle.ndc_model.specs.World.{queue_at}
use Rattle.ndc_model_cells.specs.Cells.{Cell}
use Rattle.ndc_model_cells.specs.Jobs.{cell_for}
use Rattle.ndc_probe.specs.Holding.{done_text, held_text}
use Rattle.ndc_probe.proofs.HoldLemmas.{holds_is}
use Rattle.ndc_queue.specs.Levels.{LevelPair}
use Rattle.ndc_probe.proofs.answering.push_holds.Goals as goal

pub returns : goal.returns
returns c =
    let lane = c.args.lane in
    let header = c.args.header.now in
    let w = c.args.world.now.world in
    let done = c.done.inside.done in
    let count = c.written_len-count.result in
    let sent = c.in_ok-sent.sent in
    let cell = c.shard-cell.ensures ∙ ap (λ (v : ClusterValue). cell_for lane.shard v.cells) c.cluster.ensures.cluster in
    let counted = c.written_len-count.ensures ∙ ap (λ (v : Cell). length v.written) cell in
    let there : slice_get (queue_at lane.source lane.shard w) done ≡ Some sent = sym (ap (λ (v : Cell). slice_get v.written done) cell) ∙ c.in_ok-sent.ensures in
    rw (
      c.in_ok-push_done.ensures,
      append_assoc c.args.text.now.items (done_text done count) (held_text header lane.reader lane.source lane.shard w done (Some sent)),
      holds_is header lane.reader lane.source lane.shard w done count (Some sent) (ap (λ (l : LevelPair). l.done) (c.done.view_is ∙ c.levels.ensures)) counted there,
    ) at c.push_held.ensures
