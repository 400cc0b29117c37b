-- What is put off at a cluster, each batch with the gap before it.
use Rattle.std.specs.Prelude.{ℕ, List}
use Rattle.ndc_domain.specs.declared.clusters.ClusterNo.{ClusterNo}
use Rattle.ndc_model.specs.World.{World, cell_at}
use Rattle.ndc_resend.specs.declared.asking.GapOf.{GapOf}
use Rattle.ndc_resend.specs.PutOff.{gaps_of}

-- all that is put off at a cluster in a shard, in order of place
abbrev pub gaps_at : ClusterNo → World → ℕ → List GapOf
gaps_at cluster w shard = gaps_of (cell_at cluster shard w)
