use Rattle.std.proofs.Common.{ℕ, List, [], ◌∷◌, ◌++◌, length, map, ap, sym, ◌∙◌, arith}
use Rattle.std.specs.List.{range_with_len}
use Rattle.std.proofs.lemmas.List.FromFn.{map-range_with_len_more}
use Rattle.ndc_model.specs.World.{queue_at}
use Rattle.ndc_world_steps.proofs.handovers.queue_ends.Goals as goal

pub loop-shard-preserved : goal.loop-shard-preserved
loop-shard-preserved g c =
    c.in_ok-push.ensures.items
    ∙ ap (λ (ends : List ℕ). ends ++ c.len.result ∷ []) c.loop-shard.invariant
    ∙ ap (λ (n : ℕ). map (λ shard. length (queue_at c.args.cluster shard c.args.replication.now)) (range_with_len 0 c.loop-shard.shard) ++ n ∷ []) (c.len.ensures.len ∙ c.queue_of.ensures.len)
    ∙ sym (map-range_with_len_more (λ (shard : ℕ). length (queue_at c.args.cluster shard c.args.replication.now)) 0 c.loop-shard.shard c.loop-shard.shard (omega arith))
