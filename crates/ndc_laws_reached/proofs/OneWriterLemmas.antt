-- One writer for each version.
use Rattle.std.proofs.Common.{◌<◌, ℕ, List}
use Rattle.ndc_script_types.specs.WellFormed.{IsCluster}
use Rattle.ndc_script_types.specs.declared.script.Header.{Header}
use Rattle.ndc_model_cells.specs.Cells.{arrived_of, learned_of}
use Rattle.ndc_model_cells.specs.Shards.{shard_of}
use Rattle.ndc_model_cells.proofs.PlaceLemmas.{set_of_workflow}
use Rattle.ndc_domain.specs.declared.clusters.ClusterNo.{ClusterNo}
use Rattle.ndc_event.specs.declared.batch.Batch.{Batch}
use Rattle.ndc_event.specs.declared.name.Name.{Name}
use Rattle.ndc_model.specs.Facts.{IsReached}
use Rattle.ndc_model.specs.Fair.{written_of}
use Rattle.ndc_model.specs.World.{World, cell_at}
use Rattle.ndc_model_sets.specs.Learned.{IsClosed, IsPart}
use Rattle.ndc_model_sets.specs.Sets.{IsSet}
use Rattle.ndc_model_sets.specs.Sound.{IsSound, OriginsDiffer, VersionsAreChains}
use Rattle.ndc_model_sets.proofs.CurrentLaws.{one_branch_leads}
use Rattle.ndc_model_sets.proofs.LearnedLemmas.{learned_closed}
use Rattle.ndc_model_sets.proofs.SoundLemmas.{part_is_sound}
use Rattle.ndc_laws_reached.proofs.LetterLemmas.{shard-below}
use Rattle.ndc_laws_reached.proofs.WrittenLemmas.{cell-is}
use Rattle.ndc_laws_reached.specs.OneWriter.{EachHasOneCurrent}
use Rattle.ndc_model.specs.Reading.{learned_at}
use Rattle.ndc_laws_reached.proofs.WriterLemmas.{within}
use Rattle.ndc_laws_cells.specs.Past.{EventsAreOne}
use Rattle.ndc_laws_cells.proofs.NamedLemmas.{chained}
use Rattle.ndc_laws_cells.proofs.PastLemmas.{events_are_one}

pub one_chain : (header : Header) (lines : ℕ) (w : World) (domain workflow : Name) → IsReached header lines w → VersionsAreChains (written_of header domain workflow w)
one_chain header lines w domain workflow is = (is.fair.writing.sound domain workflow).chains

pub one_event : (header : Header) (lines : ℕ) (w : World) (domain workflow : Name) → IsReached header lines w → EventsAreOne (written_of header domain workflow w)
one_event header lines w domain workflow is = events_are_one (written_of header domain workflow w) (chained (written_of header domain workflow w) (is.fair.writing.sound domain workflow))

pub one_current : (header : Header) (lines : ℕ) (w : World) (domain workflow : Name) (part : List Batch) → IsReached header lines w → IsSet part → IsClosed part → IsPart part (written_of header domain workflow w) → EachHasOneCurrent part
one_current header lines w domain workflow part is set closed within b has =
    let sound = part_is_sound (written_of header domain workflow w) part (is.fair.writing.sound domain workflow) set closed within in
    let leads = one_branch_leads part b set closed sound.parents sound.chains has in
    record { tip = leads.0; current = leads.1; leads = leads.2; only = leads.3 }

-- what a cluster has learned of a workflow is sound
pub learned_sound : (header : Header) (lines : ℕ) (w : World) (cluster : ClusterNo) (domain workflow : Name) → 0 < header.shards → IsCluster header cluster → IsReached header lines w → IsSound (learned_at header cluster domain workflow w)
learned_sound header lines w cluster domain workflow some known is =
    let below = shard-below domain workflow header.shards some in
    let at = cell_at cluster (shard_of domain workflow header.shards) w in
    let closed = learned_closed (arrived_of domain workflow at) (set_of_workflow domain workflow at (cell-is header lines w is (shard_of domain workflow header.shards) below cluster known)) in
    part_is_sound (written_of header domain workflow w) (learned_of domain workflow at) (is.fair.writing.sound domain workflow) closed.0 closed.1 (within header lines w is cluster known domain workflow below)

pub origins_once : (header : Header) (lines : ℕ) (w : World) (cluster : ClusterNo) (domain workflow : Name) → 0 < header.shards → IsCluster header cluster → IsReached header lines w → OriginsDiffer (learned_at header cluster domain workflow w)
origins_once header lines w cluster domain workflow some known is = (learned_sound header lines w cluster domain workflow some known is).origins
