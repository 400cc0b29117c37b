-- What keeps the level `done` where it is, told in two parts.
use Rattle.std.proofs.Common.{◌≡◌, ℕ, ◌++◌, length, slice_get, Option, sym, ap, ◌∙◌}
use Rattle.ndc_domain.specs.declared.clusters.ClusterNo.{ClusterNo}
use Rattle.ndc_model.specs.World.{World, lane_at, queue_at}
use Rattle.ndc_model_cells.specs.declared.message.Message.{Message}
use Rattle.ndc_script_types.specs.declared.script.Header.{Header}
use Rattle.ndc_probe.specs.Holding.{done_text, held_text, holds_text}

pub holds_is : (header : Header) (reader source : ClusterNo) (shard : ℕ) (w : World) (done count : ℕ) (entry : Option Message) → done ≡ (lane_at reader source shard w).levels.done → count ≡ length (queue_at source shard w)
    → slice_get (queue_at source shard w) done ≡ entry → done_text done count ++ held_text header reader source shard w done entry ≡ holds_text header reader source shard w
unfolding holds_text
holds_is header reader source shard w done count entry level len there =
    ap (λ (o : Option Message). done_text done count ++ held_text header reader source shard w done o) (sym there)
    ∙ ap (λ (n : ℕ). done_text done n ++ held_text header reader source shard w done (slice_get (queue_at source shard w) done)) len
    ∙ ap (λ (d : ℕ). done_text d (length (queue_at source shard w)) ++ held_text header reader source shard w d (slice_get (queue_at source shard w) d)) level
