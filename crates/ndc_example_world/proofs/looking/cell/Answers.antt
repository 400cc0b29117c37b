use Rattle.std.proofs.Common.{◌≡◌, ◌<◌, ℕ, ap, arith, length}
use Rattle.std.proofs.lemmas.Nat.{mod_below}
use Rattle.ndc_event.specs.declared.name.Name.{Name}
use Rattle.ndc_model_cells.specs.Shards.{hash_of, shard_of}
use Rattle.ndc_script_types.specs.WellFormed.{IsWellFormedHeader}
use Rattle.ndc_script_types.specs.declared.script.Header.{Header}
use Rattle.ndc_example_world.proofs.looking.cell.Goals as goal

shard-below : (domain workflow : Name) (shards : ℕ) → 0 < shards → shard_of domain workflow shards < shards
unfolding shard_of
shard-below domain workflow shards some = mod_below (hash_of domain workflow) shards some

pub shard-requires : goal.shard-requires
shard-requires c =
    let same : c.args.world.now.header ≡ c.args.header.now = c.requires.header in
    let fit : IsWellFormedHeader c.args.header.now = c.requires.fit in
    let there : length c.cluster.result.now.cells ≡ c.args.world.now.header.shards = c.cluster.ensures.shards in
    let at : c.shard_of-shard.result ≡ shard_of c.args.domain.now c.args.workflow.now c.args.header.now.shards = c.shard_of-shard.ensures in
    let some = fit.shards_least in
    let below = shard-below c.args.domain.now c.args.workflow.now c.args.header.now.shards (omega (arith, some)) in
    let shards = ap (λ (h : Header). h.shards) same in
    omega (arith, at, there, shards, below)
