-- What is learned in a reached world is in the ranges of the batch text.
use Rattle.std.proofs.Common.{ℕ}
use Rattle.std.specs.List.{AllByRecursion}
use Rattle.ndc_script_types.specs.WellFormed.{IsCluster, IsWellFormedHeader}
use Rattle.ndc_script_types.specs.declared.script.Header.{Header}
use Rattle.ndc_domain.specs.declared.clusters.ClusterNo.{ClusterNo}
use Rattle.ndc_event.specs.declared.name.Name.{Name}
use Rattle.ndc_model.specs.Facts.{IsReached}
use Rattle.ndc_model.specs.Fair.{written_of}
use Rattle.ndc_model.specs.Reading.{learned_at}
use Rattle.ndc_model.specs.World.{World}
use Rattle.ndc_model_sets.proofs.BranchLemmas.{among-has, has-among}
use Rattle.ndc_model_sets.proofs.Lists.{all-among, all-from}
use Rattle.ndc_text.specs.Ranges.{InRange}
use Rattle.ndc_laws_reached.proofs.LetterLemmas.{shard-below}
use Rattle.ndc_laws_reached.proofs.OneWriterLemmas.{learned_sound}
use Rattle.ndc_laws_reached.proofs.WriterLemmas.{within}

pub ranges : (header : Header) (lines : ℕ) (w : World) → IsWellFormedHeader header → IsReached header lines w
    → (cluster : ClusterNo) → IsCluster header cluster → (domain workflow : Name) → AllByRecursion InRange (learned_at header cluster domain workflow w)
ranges header lines w fit is cluster known domain workflow =
    let batches = learned_at header cluster domain workflow w in
    let sound = learned_sound header lines w cluster domain workflow fit.shards_least known is in
    all-from InRange batches
    (λ b among. all-among InRange (written_of header domain workflow w) b (is.ranges domain workflow)
    (has-among (written_of header domain workflow w) b (within header lines w is cluster known domain workflow (shard-below domain workflow header.shards fit.shards_least) b (among-has batches b sound.set.ordered among))))
