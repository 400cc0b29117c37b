use Rattle.std.proofs.Common.{◌%◌, ◌∙◌, ap}
use Rattle.std.specs.List.{fold}
use Rattle.ndc_model_cells.specs.Shards.{hashed, shard_of}
use Rattle.ndc_model_cells.proofs.HashLemmas.{hash_in_parts}
use Rattle.ndc_model_cells.proofs.shard.shard_of.Goals as goal

pub returns : goal.returns
unfolding shard_of
returns c =
    ap (λ hash. hash % c.args.shards)
    (hash_in_parts c.args.domain.now c.args.workflow.now c.hashed_all-hash.result c.hashed.result c.hashed_all-hash-2.result
    (c.hashed_all-hash.ensures ∙ ap (fold hashed 2166136261) c.as_bytes.ensures.bytes) c.hashed.ensures (c.hashed_all-hash-2.ensures ∙ ap (fold hashed c.hashed.result) c.as_bytes-2.ensures.bytes))
