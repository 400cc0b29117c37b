use Rattle.std.proofs.Common.{◌≡◌, ap, arith, length}
use Rattle.ndc_laws_reached.proofs.LetterLemmas.{shard-below}
use Rattle.ndc_model_cells.specs.Shards.{shard_of}
use Rattle.ndc_script_types.specs.WellFormed.{IsWellFormedHeader}
use Rattle.ndc_script_types.specs.declared.script.Header.{Header}
use Rattle.ndc_probe.proofs.workflows.cell_of.Goals as goal

pub shard-requires : goal.shard-requires
shard-requires c =
    let same : c.args.world.now.header ≡ c.args.header.now = c.requires.header in
    let fit : IsWellFormedHeader c.args.header.now = c.requires.fit in
    let there : length c.cluster.result.now.cells ≡ c.args.world.now.header.shards = c.cluster.ensures.shards in
    let at : c.shard_of-shard.result ≡ shard_of c.args.domain.now c.args.workflow.now c.args.header.now.shards = c.shard_of-shard.ensures in
    let some = fit.shards_least in
    let below = shard-below c.args.domain.now c.args.workflow.now c.args.header.now.shards (omega (arith, some)) in
    let shards = ap (λ (h : Header). h.shards) same in
    omega (arith, at, there, shards, below)
