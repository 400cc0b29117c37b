-- Clusters that have learned the same show the same, and members of a domain have learned the same in a settled world.
use Rattle.std.proofs.Common.{◌≡◌, ◌<◌, ℕ, true, List, sym, subst, ◌∙◌, arith}
use Rattle.ndc_domain.specs.declared.clusters.ClusterNo.{ClusterNo}
use Rattle.ndc_event.specs.declared.batch.Batch.{Batch}
use Rattle.ndc_event.specs.declared.name.Name.{Name}
use Rattle.ndc_example_world.specs.Shown.{is_member}
use Rattle.ndc_laws.specs.Promised.{LearnedTheSame}
use Rattle.ndc_laws_reached.proofs.OneWriterLemmas.{learned_sound}
use Rattle.ndc_laws_reached.specs.Settled.{IsSettled}
use Rattle.ndc_model.specs.Facts.{IsReached}
use Rattle.ndc_model.specs.Fair.{written_of}
use Rattle.ndc_model.specs.Reading.{learned_at}
use Rattle.ndc_model.specs.World.{World}
use Rattle.ndc_model_sets.proofs.ArrivalLemmas.{equal_sets}
use Rattle.ndc_model_sets.specs.Learned.{IsPart}
use Rattle.ndc_script_types.specs.WellFormed.{IsCluster, IsWellFormedHeader}
use Rattle.ndc_script_types.specs.declared.script.Header.{Header}

-- sets with the same batches are one
pub one_list : (header : Header) (lines : ℕ) (w : World) (one two : ClusterNo) (domain workflow : Name) → IsWellFormedHeader header → IsCluster header one → IsCluster header two → IsReached header lines w
    → LearnedTheSame header one two domain workflow w → learned_at header one domain workflow w ≡ learned_at header two domain workflow w
one_list header lines w one two domain workflow fit first second is same =
    equal_sets (learned_at header one domain workflow w) (learned_at header two domain workflow w)
    (learned_sound header lines w one domain workflow fit.shards_least first is).set (learned_sound header lines w two domain workflow fit.shards_least second is).set same.there same.back

-- members have learned all that was written
pub members_alike : (header : Header) (w : World) (one two : ClusterNo) (domain workflow : Name) → IsCluster header one → IsCluster header two → IsSettled header w
    → is_member one domain w ≡ true → is_member two domain w ≡ true → LearnedTheSame header one two domain workflow w
members_alike header w one two domain workflow first second settled is other =
    let all = settled.members one first domain workflow is ∙ sym (settled.members two second domain workflow other) in
    record {
      there = subst (IsPart (learned_at header one domain workflow w)) all (λ b has. has);
      back = subst (λ (l : List Batch). IsPart l (learned_at header one domain workflow w)) all (λ b has. has);
    }
